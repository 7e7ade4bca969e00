-- What holds of each command that a list of words is.
use Rattle.std.proofs.Common.{◌≡◌, ℕ, ◌+◌, ◌<◌, suc, nat_le, Bool, true, false, ◌&&◌, List, [], ◌∷◌, ◌++◌, length, drop, get_or, append_assoc, Option, Some, None, unwrap_or, Result, Ok, Err, refl, sym, ap, ◌∙◌, subst, arith}
use Rattle.std.specs.Prelude.{codes, if◌then◌else◌, IfOk}
use Rattle.std.specs.Option.{option_map, option_and_then}
use Rattle.std.proofs.Math.Seq.{drop-cons}
use Rattle.gc_base.specs.PropertyLists.{is_nil}
use Rattle.gc_make.specs.MadeGraphs.{most_size, most_start}
use Rattle.gcore.specs.CommandLines.{session_of, check_of, make_within, make_of, form_of, is_verb, KeepsLimits, IsForm}
use Rattle.gcore.specs.MakeLines.{kind_of, number_of, number_within, within}
use Rattle.gcore.specs.Pairs.{pair_of, pairs_of, are_graphs, graphs_in}
use Rattle.gcore.specs.declared.command.Command.{Command}
use Rattle.gcore.specs.declared.command.Command.TheVariants.{Run, Cert, Explain, Check, Make}
use Rattle.gcore.specs.declared.command.CommandRefusal.{CommandRefusal}
use Rattle.gcore.specs.declared.command.Session.{Session}
use Rattle.gc_base.specs.declared.place.MakeKind.{MakeKind}
use Rattle.gcore.specs.declared.pair.Pair.{Pair}

-- a list from one of its items on
pub drop_item : {X : Type 0} (xs : List X) (i : ℕ) (x : X) → i < length xs → x ≡ get_or xs i x → drop i xs ≡ x ∷ drop (i + 1) xs
drop_item xs i x within read =
    let next : suc i ≡ i + 1 = omega arith in
    drop-cons xs i x within ∙ (λ j. sym read j ∷ drop (next j) xs)

more_pairs : (o : Option (List Pair)) (pair : Pair) (old : List Pair) → option_map (λ rest. (old ++ pair ∷ []) ++ rest) o ≡ option_map (λ rest. old ++ rest) (option_map (λ pairs. pair ∷ pairs) o)
more_pairs None pair old = refl
more_pairs (Some pairs) pair old = ap (λ ps. Some ps) (append_assoc old (pair ∷ []) pairs)

-- the pairs of some words, after one more is read
pub pair_gained : (word : List ℕ) (words : List (List ℕ)) (pair : Pair) (old now : List Pair) (whole : Option (List Pair)) → pair_of word ≡ Some pair → now ≡ old ++ pair ∷ []
    → option_map (λ rest. old ++ rest) (pairs_of (word ∷ words)) ≡ whole → option_map (λ rest. now ++ rest) (pairs_of words) ≡ whole
pair_gained word words pair old now whole read gained all =
    ap (λ ps. option_map (λ rest. ps ++ rest) (pairs_of words)) gained
    ∙ (more_pairs (pairs_of words) pair old
    ∙ (ap (λ o. option_map (λ rest. old ++ rest) (option_and_then (λ p. option_map (λ pairs. p ∷ pairs) (pairs_of words)) o)) (sym read) ∙ all))

same_some : {X : Type 0} (x y : X) → Some x ≡ Some y → x ≡ y
same_some x y h = ap (λ o. unwrap_or o x) h

allowed : (o : Option (List Pair)) (pairs : List Pair) → option_and_then (λ ps. if are_graphs ps then Some ps else None) o ≡ Some pairs → are_graphs pairs ≡ true
allowed None pairs h = absurd (cc)
allowed (Some ps) pairs h =
    elim (are_graphs ps) as (λ b. are_graphs ps ≡ b → (if b then Some ps else None) ≡ Some pairs → are_graphs pairs ≡ true) [
      | true ↦ λ e k. subst (λ qs. are_graphs qs ≡ true) (same_some ps pairs k) e
      | false ↦ λ e k. absurd (cc)
    ] refl h

session_from : (query : List ℕ) (o : Option (List Pair)) (s : Session) → ((pairs : List Pair) → o ≡ Some pairs → are_graphs pairs ≡ true)
    → option_map (λ graphs. record { query = query; graphs = graphs }) o ≡ Some s → are_graphs s.graphs ≡ true
session_from query None s good h = absurd (cc)
session_from query (Some pairs) s good h = subst (λ (t : Session). are_graphs t.graphs ≡ true) (same_some (record { query = query; graphs = pairs }) s h) (good pairs refl)

session_allowed : (words : List (List ℕ)) (s : Session) → session_of words ≡ Some s → are_graphs s.graphs ≡ true
session_allowed [] s h = absurd (cc)
session_allowed (query ∷ words) s h =
    elim (is_nil query) as (λ b. (if b then None else option_map (λ graphs. record { query = query; graphs = graphs }) (graphs_in words)) ≡ Some s → are_graphs s.graphs ≡ true) [
      | true ↦ λ k. absurd (cc)
      | false ↦ λ k. session_from query (graphs_in words) s (allowed (pairs_of words)) k
    ] h

of_session : (make : Session → Command) → ((s : Session) → are_graphs s.graphs ≡ true → KeepsLimits (make s)) → (o : Option Session) → ((s : Session) → o ≡ Some s → are_graphs s.graphs ≡ true)
    → (c : Command) → option_map make o ≡ Some c → KeepsLimits c
of_session make holds None good c h = absurd (cc)
of_session make holds (Some s) good c h = subst KeepsLimits (same_some (make s) c h) (holds s (good s refl))

of_check : (words : List (List ℕ)) (c : Command) → check_of words ≡ Some c → KeepsLimits c
of_check [] c h = absurd (cc)
of_check (document ∷ []) c h =
    elim (is_nil document) as (λ b. (if b then None else Some (Check document)) ≡ Some c → KeepsLimits c) [
      | true ↦ λ k. absurd (cc)
      | false ↦ λ k. subst KeepsLimits (same_some (Check document) c k) tt
    ] h
of_check (document ∷ word ∷ words) c h = absurd (cc)

-- a number that is read within its limits keeps them
within_limits : (least most : ℕ) (o : Option ℕ) (n : ℕ) → option_and_then (within least most) o ≡ Some n → (nat_le least n && nat_le n most) ≡ true
within_limits least most None n h = absurd (cc)
within_limits least most (Some m) n h =
    elim (nat_le least m && nat_le m most) as (λ b. (nat_le least m && nat_le m most) ≡ b → (if b then Some m else None) ≡ Some n → (nat_le least n && nat_le n most) ≡ true) [
      | true ↦ λ e k. subst (λ x. (nat_le least x && nat_le x most) ≡ true) (same_some m n k) e
      | false ↦ λ e k. absurd (cc)
    ] refl h

second : (a b : Bool) → (a && b) ≡ true → b ≡ true
second true b h = h
second false b h = absurd (cc)

both : (a b : Bool) → a ≡ true → b ≡ true → (a && b) ≡ true
both true b g h = h
both false b g h = absurd (cc)

module _ (kind : MakeKind) where
  -- a size that fits
  abbrev Sized : ℕ → Type 0
  Sized n = (nat_le 1 n && nat_le n (most_size kind)) ≡ true

  -- a start that fits
  abbrev Starts : ℕ → Type 0
  Starts m = nat_le m most_start ≡ true

  of_start : (n : ℕ) → Sized n → (o : Option ℕ) → ((m : ℕ) → o ≡ Some m → Starts m) → (c : Command) → option_map (Make kind n) o ≡ Some c → KeepsLimits c
  of_start n sized None starts c h = absurd (cc)
  of_start n sized (Some m) starts c h = subst KeepsLimits (same_some (Make kind n m) c h) (both (nat_le 1 n && nat_le n (most_size kind)) (nat_le m most_start) sized (starts m refl))

  of_size : (o : Option ℕ) → ((n : ℕ) → o ≡ Some n → Sized n) → (p : Option ℕ) → ((m : ℕ) → p ≡ Some m → Starts m) → (c : Command) → option_and_then (λ n. option_map (Make kind n) p) o ≡ Some c → KeepsLimits c
  of_size None sized p starts c h = absurd (cc)
  of_size (Some n) sized p starts c h = of_start n (sized n refl) p starts c h

of_kind : (o : Option MakeKind) (size start : List ℕ) (c : Command) → option_and_then (λ k. make_within k size start) o ≡ Some c → KeepsLimits c
of_kind None size start c h = absurd (cc)
of_kind (Some kind) size start c h =
    of_size kind (number_within 1 (most_size kind) size) (within_limits 1 (most_size kind) (number_of size))
    (number_within 0 most_start start) (λ m e. second (nat_le 0 m) (nat_le m most_start) (within_limits 0 most_start (number_of start) m e)) c h

of_make : (words : List (List ℕ)) (c : Command) → make_of words ≡ Some c → KeepsLimits c
of_make [] c h = absurd (cc)
of_make (kind ∷ []) c h = absurd (cc)
of_make (kind ∷ size ∷ []) c h = absurd (cc)
of_make (kind ∷ size ∷ start ∷ []) c h = of_kind (kind_of kind) size start c h
of_make (kind ∷ size ∷ start ∷ word ∷ words) c h = absurd (cc)

choose : (b : Bool) (o p : Option Command) (c : Command) → (o ≡ Some c → KeepsLimits c) → (p ≡ Some c → KeepsLimits c) → (if b then o else p) ≡ Some c → KeepsLimits c
choose true o p c f g h = f h
choose false o p c f g h = g h

form_allowed : (verb : List ℕ) (words : List (List ℕ)) (c : Command) → form_of verb words ≡ Some c → KeepsLimits c
form_allowed verb words c h =
    choose (is_verb verb (codes "run")) _ _ c (of_session (λ s. Run s.query s.graphs) (λ s e. e) (session_of words) (session_allowed words) c)
    (choose (is_verb verb (codes "cert")) _ _ c (of_session (λ s. Cert s.query s.graphs) (λ s e. e) (session_of words) (session_allowed words) c)
    (choose (is_verb verb (codes "explain")) _ _ c (of_session (λ s. Explain s.query s.graphs) (λ s e. e) (session_of words) (session_allowed words) c)
    (choose (is_verb verb (codes "check")) _ _ c (of_check words c)
    (choose (is_verb verb (codes "make")) _ _ c (of_make words c) (λ k. absurd (cc)))))) h

-- a command that words are keeps its limits
pub limits_of_form : (verb : List ℕ) (words : List (List ℕ)) (r : Result Command CommandRefusal) → IsForm verb words r → IfOk r KeepsLimits
limits_of_form verb words (Ok c) h = form_allowed verb words c h
limits_of_form verb words (Err refusal) h = tt
