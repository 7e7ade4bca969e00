-- Graph files that are read one after another.
use Rattle.std.proofs.Common.{◌≡◌, ◌&&◌, ◌||◌, not, Bool, true, false, cond, nat_eq, nat_lt, nat_le, ℕ, zero, suc, ◌+◌, ◌<◌, ◌≤◌, List, [], ◌∷◌, ◌++◌, length, take, drop, get_or, map, fold, max, append-nil, append_assoc, Option, Some, None, Result, Ok, Err, refl, sym, ap, ◌∙◌, subst, arith, inl, inr}
use Rattle.std.specs.Prelude.{IfSome, IsOk, ◌⊎◌}
use Rattle.std.specs.Result.{IsErr, IsErrAnd}
use Rattle.std.specs.List.{AllByRecursion, prefix_len}
use Rattle.std.specs.Prelude.{position}
use Rattle.std.proofs.lemmas.Bool.Decides.{nat_tests}
use Rattle.std.specs.Cmp.Lexicographic.{pointwise, nat_list_eq_equiv}
use Rattle.std.proofs.lemmas.List.{take-append-drop}
use Rattle.gc_base.specs.Faults.{Rose}
use Rattle.gc_base.specs.Files.{Files}
use Rattle.gc_spec.specs.Coherence.{shapes_of}
use Rattle.gc_spec.specs.PropertyGraph.{PropertyGraph}
use Rattle.gc_catalog.specs.NamedGraphs.{NamedGraphs, is_name, number_of}
use Rattle.gc_json.specs.FileElements.{Seen}
use Rattle.gcore.specs.Endings.{IsTurnOfGraph}
use Rattle.gcore.specs.GraphSteps.{ReadsGraphs, StopsReadingGraphs, name_given}
use Rattle.gcore.specs.Outcomes.{then_due, graph_due, graphs_due}
use Rattle.gcore.specs.Pairs.{has_name, names_differ, are_graphs}
use Rattle.gcore.specs.Steps.{Reading, StopsReadingGraph}
use Rattle.gcore.specs.declared.pair.Pair.{Pair}
use Rattle.gcore.specs.declared.stop.Stop.{Stop}
use Rattle.gcore.specs.declared.stop.Stop.TheVariants.{Usage, Unread, TooLarge, Refused, Text, Sorts, Certificate, Rejected, Faulted, Unwritten, OutOfMemory}
use Rattle.gcore.proofs.CommandLaws.{drop_item}

-- the items before a place, with the item there
pub take_item : {X : Type 0} (xs : List X) (i : ℕ) (x : X) → i < length xs → x ≡ get_or xs i x → take (i + 1) xs ≡ take i xs ++ x ∷ []
take_item [] i x within read = absurd (omega arith)
take_item (y ∷ ys) zero x within read = ap (λ z. z ∷ []) (sym read)
take_item (y ∷ ys) (suc i) x within read =
    let next : suc i + 1 ≡ suc (i + 1) = omega arith in
    ap (λ n. take n (y ∷ ys)) next ∙ ap (λ zs. y ∷ zs) (take_item ys i x (omega arith) read)

-- a list around one of its items
pub around_item : {X : Type 0} (xs : List X) (i : ℕ) (x : X) → i < length xs → x ≡ get_or xs i x → xs ≡ take i xs ++ x ∷ drop (i + 1) xs
around_item xs i x within read = sym (take-append-drop i xs) ∙ ap (λ ys. take i xs ++ ys) (drop_item xs i x within read)

module _ (files : Files) where
  same_due : (r : Result (List PropertyGraph) Stop) → then_due r (λ gs. Ok gs) ≡ r
  same_due (Ok gs) = refl
  same_due (Err stop) = refl

  longer_due : (g : PropertyGraph) (hs : List PropertyGraph) (r : Result (List PropertyGraph) Stop) → then_due (then_due r (λ ks. Ok (hs ++ ks))) (λ ks. Ok (g ∷ ks)) ≡ then_due r (λ ks. Ok (g ∷ (hs ++ ks)))
  longer_due g hs (Ok ks) = refl
  longer_due g hs (Err stop) = refl

  same_ok : (gs hs : List PropertyGraph) → ◌≡◌ {A = Result (List PropertyGraph) Stop} (Ok gs) (Ok hs) → gs ≡ hs
  same_ok gs hs h = cc

  -- what is due of the files after a place, once those before it are accepted
  abbrev DueAfter : Seen → List Pair → List Pair → List PropertyGraph → Type 0
  DueAfter seen before after gs = graphs_due files seen (before ++ after) ≡ then_due (graphs_due files (seen ++ map shapes_of gs) after) (λ hs. Ok (gs ++ hs))

  rest_due : (seen : Seen) (p : Pair) (before after : List Pair) (gs : List PropertyGraph) (g : PropertyGraph) → graph_due files seen p.file ≡ Ok g
      → (r : Result (List PropertyGraph) Stop) → ((hs : List PropertyGraph) → r ≡ Ok hs → DueAfter (seen ++ shapes_of g ∷ []) before after hs)
      → then_due r (λ ks. Ok (g ∷ ks)) ≡ Ok gs → DueAfter seen (p ∷ before) after gs
  rest_due seen p before after gs g e (Err stop) rest h = absurd (cc)
  rest_due seen p before after gs g e (Ok hs) rest h =
      subst (DueAfter seen (p ∷ before) after) (same_ok (g ∷ hs) gs h)
      (ap (λ r. then_due r (λ f. then_due (graphs_due files (seen ++ shapes_of f ∷ []) (before ++ after)) (λ ks. Ok (f ∷ ks)))) e
      ∙ (ap (λ r. then_due r (λ ks. Ok (g ∷ ks))) (rest hs refl)
      ∙ (longer_due g hs (graphs_due files ((seen ++ shapes_of g ∷ []) ++ map shapes_of hs) after)
      ∙ ap (λ s. then_due (graphs_due files s after) (λ ks. Ok (g ∷ (hs ++ ks)))) (append_assoc seen (shapes_of g ∷ []) (map shapes_of hs)))))

  first_due : (seen : Seen) (p : Pair) (before after : List Pair) (gs : List PropertyGraph) (r : Result PropertyGraph Stop) → graph_due files seen p.file ≡ r
      → ((g : PropertyGraph) (hs : List PropertyGraph) → graphs_due files (seen ++ shapes_of g ∷ []) before ≡ Ok hs → DueAfter (seen ++ shapes_of g ∷ []) before after hs)
      → then_due r (λ g. then_due (graphs_due files (seen ++ shapes_of g ∷ []) before) (λ ks. Ok (g ∷ ks))) ≡ Ok gs → DueAfter seen (p ∷ before) after gs
  first_due seen p before after gs (Err stop) e rest h = absurd (cc)
  first_due seen p before after gs (Ok g) e rest h = rest_due seen p before after gs g e (graphs_due files (seen ++ shapes_of g ∷ []) before) (rest g) h

  due-append : (seen : Seen) (before after : List Pair) (gs : List PropertyGraph) → graphs_due files seen before ≡ Ok gs → DueAfter seen before after gs
  due-append seen [] after gs h =
      subst (DueAfter seen [] after) (same_ok [] gs h) (sym (same_due (graphs_due files seen after)) ∙ ap (λ s. then_due (graphs_due files s after) (λ hs. Ok hs)) (sym (append-nil seen)))
  due-append seen (p ∷ before) after gs h =
      first_due seen p before after gs (graph_due files seen p.file) refl (λ g hs k. due-append (seen ++ shapes_of g ∷ []) before after hs k) h

  pub next_due : (before : List Pair) (p : Pair) (gs : List PropertyGraph) (g : PropertyGraph) → graphs_due files [] before ≡ Ok gs → graph_due files (map shapes_of gs) p.file ≡ Ok g
      → graphs_due files [] (before ++ p ∷ []) ≡ Ok (gs ++ g ∷ [])
  next_due before p gs g h k = due-append [] before (p ∷ []) gs h ∙ ap (λ r. then_due (then_due r (λ f. Ok (f ∷ []))) (λ hs. Ok (gs ++ hs))) k

  pub stop_due : (before : List Pair) (p : Pair) (after : List Pair) (gs : List PropertyGraph) (stop : Stop) → graphs_due files [] before ≡ Ok gs → graph_due files (map shapes_of gs) p.file ≡ Err stop
      → graphs_due files [] (before ++ p ∷ after) ≡ Err stop
  stop_due before p after gs stop h k =
      due-append [] before (p ∷ after) gs h
      ∙ ap (λ r. then_due (then_due r (λ f. then_due (graphs_due files (map shapes_of gs ++ shapes_of f ∷ []) after) (λ hs. Ok (f ∷ hs)))) (λ hs. Ok (gs ++ hs))) k

-- one more graph that is due
pub gained : (told now : Option Files) (before ps : List Pair) (p : Pair) (seen : Seen) (gs hs : List PropertyGraph) (g : PropertyGraph) → now ≡ told → ps ≡ before ++ p ∷ [] → hs ≡ gs ++ g ∷ [] → seen ≡ map shapes_of gs
    → IfSome told (λ files. graphs_due files [] before ≡ Ok gs) → IfSome told (λ files. graph_due files seen p.file ≡ Ok g) → IfSome now (λ files. graphs_due files [] ps ≡ Ok hs)
gained None now before ps p seen gs hs g same more longer stands due next = subst (λ t. IfSome t (λ files. graphs_due files [] ps ≡ Ok hs)) (sym same) tt
gained (Some files) now before ps p seen gs hs g same more longer stands due next =
    subst (λ t. IfSome t (λ fs. graphs_due fs [] ps ≡ Ok hs)) (sym same)
    (ap (graphs_due files []) more ∙ (next_due files before p gs g due (ap (λ s. graph_due files s p.file) (sym stands) ∙ next) ∙ ap (λ ks. Ok ks) (sym longer)))

turn : (told : Option Files) (pairs before : List Pair) (p : Pair) (after : List Pair) (gs : List PropertyGraph) (file : List ℕ) → pairs ≡ before ++ p ∷ after → file ≡ p.file
    → IfSome told (λ files. graphs_due files [] before ≡ Ok gs) → IsTurnOfGraph told pairs file
turn None pairs before p after gs file split same due = (before, p, after, split, same, tt)
turn (Some files) pairs before p after gs file split same due = (before, p, after, split, same, subst IsOk (sym due) refl)

due_of : (told : Option Files) (pairs before : List Pair) (p : Pair) (after : List Pair) (seen : Seen) (gs : List PropertyGraph) (stop : Stop) → pairs ≡ before ++ p ∷ after → seen ≡ map shapes_of gs
    → IfSome told (λ files. graphs_due files [] before ≡ Ok gs) → IfSome told (λ files. graph_due files seen p.file ≡ Err stop) → IfSome told (λ files. graphs_due files [] pairs ≡ Err stop)
due_of None pairs before p after seen gs stop split stands due next = tt
due_of (Some files) pairs before p after seen gs stop split stands due next =
    ap (graphs_due files []) split ∙ stop_due files before p after gs stop due (ap (λ s. graph_due files s p.file) (sym stands) ∙ next)

or_rose : (files : Files) (pairs before : List Pair) (p : Pair) (after : List Pair) (seen : Seen) (gs : List PropertyGraph) (first middle last : ℕ) (file : List ℕ) → pairs ≡ before ++ p ∷ after → seen ≡ map shapes_of gs
    → graphs_due files [] before ≡ Ok gs → first ≤ middle → (graph_due files seen p.file ≡ Err (Unread file)) ⊎ Rose middle last → (graphs_due files [] pairs ≡ Err (Unread file)) ⊎ Rose first last
or_rose files pairs before p after seen gs first middle last file split stands due le (inl next) = inl (due_of (Some files) pairs before p after seen gs (Unread file) split stands due next)
or_rose files pairs before p after seen gs first middle last file split stands due le (inr rose) = inr (omega arith)

-- where a graph file stops the call, reading the graphs stops for that cause
pub stops : (told : Option Files) (pairs before : List Pair) (p : Pair) (after : List Pair) (seen : Seen) (gs : List PropertyGraph) (first middle last : ℕ) (stop : Stop) → pairs ≡ before ++ p ∷ after
    → seen ≡ map shapes_of gs → IfSome told (λ files. graphs_due files [] before ≡ Ok gs) → first ≤ middle
    → StopsReadingGraph (record { files = told; faults_before = middle; faults_after = last }) p.file (λ files. graph_due files seen p.file) stop
    → StopsReadingGraphs (record { files = told; faults_before = first; faults_after = last }) pairs stop
stops told pairs before p after seen gs first middle last Usage split stands due le h = absurd h
stops None pairs before p after seen gs first middle last (Unread file) split stands due le h = (turn None pairs before p after gs file split h.0 due, omega arith)
stops (Some files) pairs before p after seen gs first middle last (Unread file) split stands due le h =
    (turn (Some files) pairs before p after gs file split h.0 due, or_rose files pairs before p after seen gs first middle last file split stands due le h.1)
stops told pairs before p after seen gs first middle last (TooLarge file) split stands due le h =
    (turn told pairs before p after gs file split h.0 due, due_of told pairs before p after seen gs (TooLarge file) split stands due h.1)
stops told pairs before p after seen gs first middle last (Refused refusal file) split stands due le h =
    (turn told pairs before p after gs file split h.0 due, due_of told pairs before p after seen gs (Refused refusal file) split stands due h.1)
stops told pairs before p after seen gs first middle last (Text refusal) split stands due le h = absurd h
stops told pairs before p after seen gs first middle last (Sorts rule place) split stands due le h = absurd h
stops told pairs before p after seen gs first middle last (Certificate refusal) split stands due le h = absurd h
stops told pairs before p after seen gs first middle last (Rejected search rule) split stands due le h = absurd h
stops told pairs before p after seen gs first middle last (Faulted fault) split stands due le h = absurd h
stops told pairs before p after seen gs first middle last Unwritten split stands due le h = absurd h
stops told pairs before p after seen gs first middle last OutOfMemory split stands due le h = tt

-- what a step that stops for a cause answers
pub reads_stop : (reading : Reading) (pairs : List Pair) (result : Result NamedGraphs Stop) (stop : Stop) → IsErr result → IsErrAnd result (λ refusal. refusal ≡ stop) → StopsReadingGraphs reading pairs stop → ReadsGraphs reading pairs result
reads_stop reading pairs (Ok c) stop err same h = absurd same
reads_stop reading pairs (Err refusal) stop err same h = subst (StopsReadingGraphs reading pairs) (sym same) h

pub length_more : {X : Type 0} (xs : List X) (x : X) → length (xs ++ x ∷ []) ≡ length xs + 1
length_more [] x = refl
length_more (y ∷ xs) x = let rest = length_more xs x in omega (arith, rest)

pub map_more : {X Y : Type 0} (f : X → Y) (xs : List X) (x : X) → map f xs ++ f x ∷ [] ≡ map f (xs ++ x ∷ [])
map_more f [] x = refl
map_more f (y ∷ xs) x = ap (λ ys. f y ∷ ys) (map_more f xs x)

-- whether a name is there, from either side
same_name : (a b : List ℕ) → pointwise nat_eq a b ≡ false → pointwise nat_eq b a ≡ false
same_name a b h = nat_list_eq_equiv.symm b a ∙ h

split_or : (a b : Bool) → (a || b) ≡ false → (a ≡ false) × (b ≡ false)
split_or true b h = absurd (cc)
split_or false b h = (refl, h)

split_and : (a b : Bool) → (a && b) ≡ true → (a ≡ true) × (b ≡ true)
split_and true b h = (refl, h)
split_and false b h = absurd (cc)

not_true : (b : Bool) → not b ≡ true → b ≡ false
not_true true h = absurd (cc)
not_true false h = refl

-- a name among some pairs is not that of one of them, where it is not among them
not_among : (before : List Pair) (p : Pair) (after : List Pair) (name : List ℕ) → has_name (before ++ p ∷ after) name ≡ false → pointwise nat_eq p.name name ≡ false
not_among [] p after name h = (split_or (pointwise nat_eq p.name name) (has_name after name) h).0
not_among (b ∷ before) p after name h = not_among before p after name (split_or (pointwise nat_eq b.name name) (has_name (before ++ p ∷ after) name) h).1

-- what stands nowhere has no place
no_place : {X : Type 0} (p : X → Bool) (xs : List X) → AllByRecursion (λ x. p x ≡ false) xs → prefix_len (λ x. not (p x)) xs ≡ length xs
no_place p [] h = refl
no_place p (x ∷ xs) h = let rest = no_place p xs h.1 in rw h.0 (omega (arith, rest))

nowhere : {X : Type 0} (p : X → Bool) (xs : List X) → AllByRecursion (λ x. p x ≡ false) xs → position p xs ≡ None
nowhere p xs h =
    let past = no_place p xs h in
    let out : nat_lt (prefix_len (λ x. not (p x)) xs) (length xs) ≡ false = grind (arith, nat_tests) in
    ap (λ b. cond b (Some (prefix_len (λ x. not (p x)) xs)) None) out

-- where names differ, the name of a pair is none of those of earlier ones
others : (before : List Pair) (p : Pair) (after : List Pair) → names_differ (before ++ p ∷ after) ≡ true → AllByRecursion (λ name. is_name p.name name ≡ false) (map name_given before)
others [] p after h = tt
others (b ∷ before) p after h =
    let parts = split_and (not (has_name (before ++ p ∷ after) b.name)) (names_differ (before ++ p ∷ after)) h in
    (same_name p.name b.name (not_among before p after b.name (not_true (has_name (before ++ p ∷ after) b.name) parts.0)), others before p after parts.1)

pub not_yet : (before : List Pair) (p : Pair) (after : List Pair) → names_differ (before ++ p ∷ after) ≡ true → number_of (map name_given before) p.name ≡ None
not_yet before p after h = nowhere (is_name p.name) (map name_given before) (others before p after h)

-- graph files are under names that differ
pub graphs_differ : (pairs : List Pair) → are_graphs pairs ≡ true → names_differ pairs ≡ true
graphs_differ pairs h = (split_and (nat_lt 0 (length pairs) && nat_le (length pairs) 8) (names_differ pairs) h).1
