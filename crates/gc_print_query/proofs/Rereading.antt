-- Languages whose values are spelled anew by their pieces.
use Rattle.std.proofs.Common.{◌≡◌, ℕ, zero, suc, ◌+◌, ◌≤◌, List, [], ◌∷◌, ◌++◌, map, Option, Some, None, refl, sym, ap, subst, ◌∙◌, arith, append_assoc}
use Rattle.std.specs.Prelude.{slice_index_or, slice_get}
use Rattle.std.specs.List.{flat_map}
use Rattle.std.specs.Option.{option_map}
use Rattle.std.proofs.lemmas.List.{append-nil}
use Rattle.gc_lex.specs.declared.token.Token.{Token}
use Rattle.gc_lex.specs.declared.token.Token.TheVariants.{Word, Number, Text, Symbol}
use Rattle.gc_lex.specs.declared.token.Mark.{Mark}
use Rattle.gc_lex.specs.declared.token.Mark.TheVariants as mark
use Rattle.gc_ast.specs.Trees.{Tree, AQuery, Named}
use Rattle.gc_grammar.specs.Words as words
use Rattle.gc_grammar.specs.Words.{Point, Lang, next, IsName, this, that, One, Both, Made, ◌⋅◌, ◌∣◌, ◌⇒◌, ◌▸◌, ◌◂◌, optional, many, separated}
use Rattle.gc_print.specs.RegexTokens.{tokens_of}
use Rattle.gc_print_query.specs.Pieces.{Piece, Blank, Line, Lexeme, Angled, joined}
use Rattle.gc_print_query.specs.ExpressionPieces.{word}
use Rattle.gc_print_query.specs.QueryPieces.{pieces_of, enclosed}
use Rattle.gc_print_query.specs.Tokens.{tokens_in, IsWritable, AreWritable}
use Rattle.gc_print_query.specs.Unnumbered.{unnumbered, unnumbered_name}
use Rattle.gc_print_query.proofs.LexedPieces.{AreSound}

-- ---- lists

pub tokens_append : (xs ys : List Piece) → tokens_in (xs ++ ys) ≡ tokens_in xs ++ tokens_in ys
tokens_append [] ys = refl
tokens_append (Blank ∷ xs) ys = tokens_append xs ys
tokens_append (Line depth ∷ xs) ys = tokens_append xs ys
tokens_append (Lexeme token ∷ xs) ys = ap (λ rest. token ∷ rest) (tokens_append xs ys)
tokens_append (Angled tree ∷ xs) ys =
    ap (λ rest. Symbol mark.Less ∷ (tokens_of tree ++ Symbol mark.Greater ∷ rest)) (tokens_append xs ys)
    ∙ ap (λ rest. Symbol mark.Less ∷ rest) (sym (append_assoc (tokens_of tree) (Symbol mark.Greater ∷ tokens_in xs) (tokens_in ys)))

pub sound_append : (xs ys : List Piece) → AreSound xs → AreSound ys → AreSound (xs ++ ys)
sound_append [] ys h k = k
sound_append (x ∷ xs) ys h k = (h.0, sound_append xs ys h.1 k)

pub front_writable : (xs ys : List Token) → AreWritable (xs ++ ys) → AreWritable xs
unfolding AreWritable
front_writable [] ys h = tt
front_writable (x ∷ xs) ys h = (h.0, front_writable xs ys h.1)

pub back_writable : (xs ys : List Token) → AreWritable (xs ++ ys) → AreWritable ys
unfolding AreWritable
back_writable [] ys h = h
back_writable (x ∷ xs) ys h = back_writable xs ys h.1

-- ---- the EXISTS queries around

-- the same queries stand before two points
abbrev pub SameExists : Point → Point → Type 0
SameExists p q = map unnumbered p.exists ≡ map unnumbered q.exists

-- queries, and more behind them
pub record Grows (before after : List (Tree AQuery)) : Type 0 where
  pub new : List (Tree AQuery)
  pub is : after ≡ before ++ new

pub grows_none : (queries : List (Tree AQuery)) → Grows queries queries
grows_none queries = record { new = []; is = sym (append-nil queries) }

pub grows_on : (a b c : List (Tree AQuery)) → Grows a b → Grows b c → Grows a c
grows_on a b c first second = record {
  new = first.new ++ second.new;
  is = second.is ∙ ap (λ xs. xs ++ second.new) first.is ∙ append_assoc a first.new second.new;
}

-- the pieces of each query stand in a list, by its number
pub record Listed (n : ℕ) (queries : List (Tree AQuery)) (exists : List (List Piece)) : Type 0 where
  pub at : (i : ℕ) (query : Tree AQuery) → slice_get queries i ≡ Some query → slice_index_or exists i [] ≡ enclosed n (pieces_of (n + 1) query)

get_front : (xs ys : List (Tree AQuery)) (i : ℕ) (query : Tree AQuery) → slice_get xs i ≡ Some query → slice_get (xs ++ ys) i ≡ Some query
get_front [] ys i query is = absurd (cc)
get_front (x ∷ xs) ys zero query is = is
get_front (x ∷ xs) ys (suc i) query is = get_front xs ys i query is

pub listed_front : (n : ℕ) (before after : List (Tree AQuery)) (exists : List (List Piece)) → Grows before after → Listed n after exists → Listed n before exists
listed_front n before after exists grows listed = record {
  at = λ i query is. listed.at i query (subst (λ qs. slice_get qs i ≡ Some query) (sym grows.is) (get_front before grows.new i query is));
}

pub listed_own : (n : ℕ) (queries : List (Tree AQuery)) (exists : List (List Piece)) → exists ≡ map (λ query. enclosed n (pieces_of (n + 1) query)) queries → Listed n queries exists
listed_own n queries exists are = record { at = λ i query is. ap (λ xs. slice_index_or xs i []) are ∙ own queries i query is }
  where
    own : (queries : List (Tree AQuery)) (i : ℕ) (query : Tree AQuery) → slice_get queries i ≡ Some query
        → slice_index_or (map (λ query. enclosed n (pieces_of (n + 1) query)) queries) i [] ≡ enclosed n (pieces_of (n + 1) query)
    own [] i query is = absurd (cc)
    own (x ∷ xs) zero query is = ap (λ q. enclosed n (pieces_of (n + 1) q)) (let e : x ≡ query = cc in e)
    own (x ∷ xs) (suc i) query is = own xs i query is

-- ---- spelled anew

-- pieces spell a value that is the same but for numbers, from a point on
pub record Again {A B : Type 0} (L : Lang A) (e : A → B) (pieces : List Piece) (b : B) (p q : Point) : Type 0 where
  pub value : A
  pub end : Point
  pub spelled : L p (tokens_in pieces) value end
  pub same : e value ≡ b
  pub kept : SameExists end q
  pub sound : AreSound pieces

-- a value is spelled anew by its pieces wherever brackets are as deep at least, and behind the same EXISTS queries
pub record Read {A B : Type 0} (n D : ℕ) (L : ℕ → Lang A) (f : List (List Piece) → A → List Piece) (e : A → B) (p q : Point) (v : A) : Type 0 where
  pub grows : Grows p.exists q.exists
  pub again : (d : ℕ) → D ≤ d → (x : List (List Piece)) → Listed n q.exists x → (r : Point) → SameExists r p → Again (L d) e (f x v) (e v) r q

-- so is each value that is spelled
pub record Reads {A B : Type 0} (n D : ℕ) (L : ℕ → Lang A) (f : List (List Piece) → A → List Piece) (e : A → B) : Type 0 where
  pub read : (p q : Point) (ts : List Token) (v : A) → AreWritable ts → L D p ts v q → Read n D L f e p q v

-- ---- from one language to another

-- the same value as one of another language
pub converted : {A B C E : Type 0} {n D : ℕ} {L : ℕ → Lang A} {f : List (List Piece) → A → List Piece} {e : A → B} {p q : Point} {a : A}
    (M : ℕ → Lang C) (g : List (List Piece) → C → List Piece) (h : C → E) (make : ℕ → A → C) (k : B → E) (v : C)
    → ((d : ℕ) (r s : Point) (ts : List Token) (b : A) → L d r ts b s → M d r ts (make r.token b) s)
    → ((m : ℕ) (b : A) → h (make m b) ≡ k (e b))
    → v ≡ make p.token a → ((x : List (List Piece)) → g x v ≡ f x a) → Read n D L f e p q a → Read n D M g h p q v
converted {p = p} {a = a} M g h make k v turned made is pieces read = record {
  grows = read.grows;
  again = λ d deep x listed r same.
      let old = read.again d deep x listed r same in
      record {
        value = make r.token old.value;
        end = old.end;
        spelled = subst (λ ps. M d r (tokens_in ps) (make r.token old.value) old.end) (sym (pieces x)) (turned d r old.end _ old.value old.spelled);
        same = made r.token old.value ∙ ap k old.same ∙ sym (made p.token a) ∙ ap h (sym is);
        kept = old.kept;
        sound = subst AreSound (sym (pieces x)) old.sound;
      };
}

-- what a value makes
pub made : {A B C E : Type 0} {n D : ℕ} {L : ℕ → Lang A} {f : List (List Piece) → A → List Piece} {e : A → B}
    (make : ℕ → A → C) (g : List (List Piece) → C → List Piece) (h : C → E) (k : B → E)
    → ((x : List (List Piece)) (m : ℕ) (b : A) → g x (make m b) ≡ f x b)
    → ((m : ℕ) (b : A) → h (make m b) ≡ k (e b))
    → Reads n D L f e → Reads n D (λ d. L d ⇒ make) g h
made {L = L} make g h k pieces same reads = record {
  read = λ p q ts v w s.
      converted (λ d. L d ⇒ make) g h make k v
      (λ d r t us b l. record { value = b; spelled = l; made = refl }) same s.made
      (λ x. ap (g x) s.made ∙ pieces x p.token s.value) (reads.read p q ts s.value w s.spelled);
}

-- other pieces that are the same
pub rewritten : {A B : Type 0} {n D : ℕ} {L : ℕ → Lang A} {f : List (List Piece) → A → List Piece} {e : A → B}
    (g : List (List Piece) → A → List Piece) → ((x : List (List Piece)) (v : A) → g x v ≡ f x v) → Reads n D L f e → Reads n D L g e
rewritten {L = L} {e = e} g pieces reads = record {
  read = λ p q ts v w s. converted L g e (λ m a. a) (λ b. b) v (λ d r t us b l. l) (λ m b. refl) refl (λ x. pieces x v) (reads.read p q ts v w s);
}

-- the same values without the same things
pub restated : {A B C : Type 0} {n D : ℕ} {L : ℕ → Lang A} {f : List (List Piece) → A → List Piece} {e : A → B}
    (h : A → C) (k : B → C) → ((v : A) → h v ≡ k (e v)) → Reads n D L f e → Reads n D L f h
restated {L = L} {f = f} h k same reads = record {
  read = λ p q ts v w s. converted L f h (λ m a. a) k v (λ d r t us b l. l) (λ m b. same b) refl (λ x. refl) (reads.read p q ts v w s);
}

-- one behind another
pub both : {A B C E : Type 0} {n D : ℕ} {L : ℕ → Lang A} {M : ℕ → Lang C} {f : List (List Piece) → A → List Piece} {g : List (List Piece) → C → List Piece} {e : A → B} {h : C → E}
    → Reads n D L f e → Reads n D M g h → Reads {B = B × E} n D (λ d. L d ⋅ M d) (λ x v. f x v.0 ++ g x v.1) (λ v. (e v.0, h v.1))
both {n = n} {f = f} {g = g} first second = record {
  read = λ p q ts v w s.
      let writable = subst AreWritable s.whole w in
      let a = first.read p s.between s.early v.0 (front_writable s.early s.late writable) s.before in
      let b = second.read s.between q s.late v.1 (back_writable s.early s.late writable) s.behind in
      record {
        grows = grows_on p.exists s.between.exists q.exists a.grows b.grows;
        again = λ d deep x listed r same.
            let front = a.again d deep x (listed_front n s.between.exists q.exists x b.grows listed) r same in
            let back = b.again d deep x listed front.end front.kept in
            record {
              value = (front.value, back.value);
              end = back.end;
              spelled = record {
                early = tokens_in (f x v.0);
                late = tokens_in (g x v.1);
                between = front.end;
                whole = tokens_append (f x v.0) (g x v.1);
                before = front.spelled;
                behind = back.spelled;
              };
              same = λ i. (front.same i, back.same i);
              kept = back.kept;
              sound = sound_append (f x v.0) (g x v.1) front.sound back.sound;
            };
      };
}

-- what is not kept before a language, and behind it
pub past : {C E : Type 0} {n D : ℕ} {L : ℕ → Lang (Unit {0})} {M : ℕ → Lang C} {ps : List Piece} {g : List (List Piece) → C → List Piece} {e : Unit {0} → Unit {0}} {h : C → E}
    → Reads n D L (λ x u. ps) e → Reads n D M g h → Reads n D (λ d. L d ▸ M d) (λ x v. ps ++ g x v) h
past {ps = ps} {g = g} {h = h} first second = made (λ m v. v.1) (λ x v. ps ++ g x v) h (λ v. v.1) (λ x m v. refl) (λ m v. refl) (both first second)

pub before : {C E : Type 0} {n D : ℕ} {L : ℕ → Lang (Unit {0})} {M : ℕ → Lang C} {ps : List Piece} {g : List (List Piece) → C → List Piece} {e : Unit {0} → Unit {0}} {h : C → E}
    → Reads n D M g h → Reads n D L (λ x u. ps) e → Reads n D (λ d. M d ◂ L d) (λ x v. g x v ++ ps) h
before {ps = ps} {g = g} {h = h} first second = made (λ m v. v.0) (λ x v. g x v ++ ps) h (λ v. v.0) (λ x m v. refl) (λ m v. refl) (both first second)

-- one of two
pub either : {A B : Type 0} {n D : ℕ} {L M : ℕ → Lang A} {f : List (List Piece) → A → List Piece} {e : A → B}
    → Reads n D L f e → Reads n D M f e → Reads n D (λ d. L d ∣ M d) f e
either {A = A} {n = n} {D = D} {L = L} {M = M} {f = f} {e = e} first second = record { read = by }
  where
    by : (p q : Point) (ts : List Token) (v : A) → AreWritable ts → (L D ∣ M D) p ts v q → Read n D (λ d. L d ∣ M d) f e p q v
    by p q ts v w (this s) = converted (λ d. L d ∣ M d) f e (λ m a. a) (λ b. b) v (λ d r t us b l. this l) (λ m b. refl) refl (λ x. refl) (first.read p q ts v w s)
    by p q ts v w (that s) = converted (λ d. L d ∣ M d) f e (λ m a. a) (λ b. b) v (λ d r t us b l. that l) (λ m b. refl) refl (λ x. refl) (second.read p q ts v w s)

-- the pieces of what may be absent
abbrev pub if_some : {A : Type 0} → (A → List Piece) → Option A → List Piece
if_some f None = []
if_some f (Some a) = f a

-- what stands nowhere
pub nothing_read : {A B : Type 0} {n D : ℕ} (L : ℕ → Lang A) (f : List (List Piece) → A → List Piece) (e : A → B) (p q : Point) (v : A)
    → q ≡ p → ((d : ℕ) (r : Point) → L d r [] v r) → ((x : List (List Piece)) → f x v ≡ []) → Read n D L f e p q v
nothing_read L f e p q v is spelled none = record {
  grows = subst (λ t. Grows p.exists t.exists) (sym is) (grows_none p.exists);
  again = λ d deep x listed r same. record {
    value = v;
    end = r;
    spelled = subst (λ ps. L d r (tokens_in ps) v r) (sym (none x)) (spelled d r);
    same = refl;
    kept = same ∙ ap (λ t. map unnumbered t.exists) (sym is);
    sound = subst AreSound (sym (none x)) tt;
  };
}

pub at_most_once : {A B : Type 0} {n D : ℕ} {L : ℕ → Lang A} {f : List (List Piece) → A → List Piece} {e : A → B}
    → Reads n D L f e → Reads n D (λ d. optional (L d)) (λ x o. if_some (f x) o) (option_map e)
at_most_once {A = A} {n = n} {D = D} {L = L} {f = f} {e = e} reads = record { read = by }
  where
    by : (p q : Point) (ts : List Token) (o : Option A) → AreWritable ts → optional (L D) p ts o q → Read n D (λ d. optional (L d)) (λ x o. if_some (f x) o) (option_map e) p q o
    by p q ts None w s = nothing_read (λ d. optional (L d)) (λ x o. if_some (f x) o) (option_map e) p q None s.1 (λ d r. (refl, refl)) (λ x. refl)
    by p q ts (Some a) w s =
        converted (λ d. optional (L d)) (λ x o. if_some (f x) o) (option_map e) (λ m b. Some b) Some (Some a) (λ d r t us b l. l) (λ m b. refl) refl (λ x. refl)
        (reads.read p q ts a w s)

each_read : {A B : Type 0} {n D : ℕ} {L : ℕ → Lang A} {f : List (List Piece) → A → List Piece} {e : A → B}
    → Reads n D L f e → (vs : List A) (p q : Point) (ts : List Token) → AreWritable ts → many (L D) p ts vs q → Read n D (λ d. many (L d)) (λ x vs. flat_map (f x) vs) (map e) p q vs
each_read {n = n} {L = L} {f = f} {e = e} reads [] p q ts w s = nothing_read (λ d. many (L d)) (λ x vs. flat_map (f x) vs) (map e) p q [] s.1 (λ d r. (refl, refl)) (λ x. refl)
each_read {n = n} {L = L} {f = f} {e = e} reads (v ∷ vs) p q ts w s =
    let writable = subst AreWritable s.3 w in
    let a = reads.read p s.2 s.0 v (front_writable s.0 s.1 writable) s.4 in
    let b = each_read reads vs s.2 q s.1 (back_writable s.0 s.1 writable) s.5 in
    record {
      grows = grows_on p.exists s.2.exists q.exists a.grows b.grows;
      again = λ d deep x listed r same.
          let front = a.again d deep x (listed_front n s.2.exists q.exists x b.grows listed) r same in
          let back = b.again d deep x listed front.end front.kept in
          record {
            value = front.value ∷ back.value;
            end = back.end;
            spelled = (tokens_in (f x v), tokens_in (flat_map (f x) vs), front.end, tokens_append (f x v) (flat_map (f x) vs), front.spelled, back.spelled);
            same = λ i. front.same i ∷ back.same i;
            kept = back.kept;
            sound = sound_append (f x v) (flat_map (f x) vs) front.sound back.sound;
          };
    }

pub any_times : {A B : Type 0} {n D : ℕ} {L : ℕ → Lang A} {f : List (List Piece) → A → List Piece} {e : A → B}
    → Reads n D L f e → Reads n D (λ d. many (L d)) (λ x vs. flat_map (f x) vs) (map e)
any_times {n = n} {D = D} {L = L} {f = f} {e = e} reads = record { read = λ p q ts vs w s. each_read reads vs p q ts w s }

-- the first of joined lists, and each later one behind what stands between
pub joined_first : (between first : List Piece) (lists : List (List Piece)) → joined between (first ∷ lists) ≡ first ++ flat_map (λ other. between ++ other) lists
joined_first between first [] = sym (append-nil first)
joined_first between first (other ∷ lists) =
    ap (λ rest. first ++ (between ++ rest)) (joined_first between other lists)
    ∙ ap (λ rest. first ++ rest) (sym (append_assoc between other (flat_map (λ list. between ++ list) lists)))

pub flat_map_map : {X Y : Type 0} (f : Y → List Piece) (g : X → Y) (xs : List X) → flat_map f (map g xs) ≡ flat_map (λ x. f (g x)) xs
flat_map_map f g [] = refl
flat_map_map f g (x ∷ xs) = ap (λ rest. f (g x) ++ rest) (flat_map_map f g xs)

pub with_separators : {A B : Type 0} {n D : ℕ} {L : ℕ → Lang A} {S : ℕ → Lang (Unit {0})} {f : List (List Piece) → A → List Piece} {ps : List Piece} {e : A → B} {h : Unit {0} → Unit {0}}
    → Reads n D L f e → Reads n D S (λ x u. ps) h → Reads n D (λ d. separated (L d) (S d)) (λ x vs. joined ps (map (f x) vs)) (map e)
with_separators {f = f} {ps = ps} {e = e} reads separator =
    made (λ m v. v.0 ∷ v.1) (λ x vs. joined ps (map (f x) vs)) (map e) (λ v. v.0 ∷ v.1)
    (λ x m v. joined_first ps (f x v.0) (map (f x) v.1) ∙ ap (λ rest. f x v.0 ++ rest) (flat_map_map (λ other. ps ++ other) (f x) v.1))
    (λ m v. refl) (both reads (any_times (past separator reads)))

-- ---- single tokens

one_read : {A B : Type 0} {n D : ℕ} (means : Token → A → Type 0) (f : List (List Piece) → A → List Piece) (e : A → B) (token : A → Token) → ((t : Token) (a : A) → means t a → t ≡ token a)
    → ((x : List (List Piece)) (a : A) → tokens_in (f x a) ≡ token a ∷ []) → ((x : List (List Piece)) (a : A) → IsWritable (token a) → AreSound (f x a)) → Reads n D (λ d. One means) f e
unfolding AreWritable
one_read means f e token meant alone sound = record {
  read = λ p q ts v w s.
      let is : s.token ≡ token v = meant s.token v s.means in
      let fits : IsWritable (token v) = subst IsWritable is (subst AreWritable s.alone w).0 in
      record {
        grows = subst (λ t. Grows p.exists t.exists) (sym s.after) (grows_none p.exists);
        again = λ d deep x listed r same. record {
          value = v;
          end = next r;
          spelled = record { token = s.token; alone = alone x v ∙ ap (λ t. t ∷ []) (sym is); means = s.means; after = refl };
          same = refl;
          kept = same ∙ ap (λ t. map unnumbered t.exists) (sym s.after);
          sound = sound x v fits;
        };
      };
}

-- a symbol, with white space around it
pub marked : {n D : ℕ} (m : Mark) (ps : List Piece) → tokens_in ps ≡ Symbol m ∷ [] → AreSound ps → Reads n D (λ d. words.mark m) (λ x u. ps) (λ u. u)
marked m ps alone sound = one_read (λ t u. t ≡ Symbol m) (λ x u. ps) (λ u. u) (λ u. Symbol m) (λ t u means. means) (λ x u. alone) (λ x u fits. sound)

-- a word that stands for itself, with white space around it
pub the_word : {n D : ℕ} (w : List ℕ) (ps : List Piece) → tokens_in ps ≡ Word w ∷ [] → AreSound ps → Reads n D (λ d. words.the_word w) (λ x u. ps) (λ u. u)
the_word w ps alone sound = one_read (λ t u. t ≡ Word w) (λ x u. ps) (λ u. u) (λ u. Word w) (λ t u means. means) (λ x u. alone) (λ x u fits. sound)

pub a_word : {n D : ℕ} → Reads n D (λ d. words.word) (λ x w. word w ∷ []) (λ w. w)
a_word = one_read (λ t a. t ≡ Word a) (λ x w. word w ∷ []) (λ w. w) Word (λ t a means. means) (λ x a. refl) (λ x a fits. (fits, tt))

pub a_number : {n D : ℕ} → Reads n D (λ d. words.number) (λ x w. Lexeme (Number w) ∷ []) (λ w. w)
a_number = one_read (λ t a. t ≡ Number a) (λ x w. Lexeme (Number w) ∷ []) (λ w. w) Number (λ t a means. means) (λ x a. refl) (λ x a fits. (fits, tt))

pub a_text : {n D : ℕ} → Reads n D (λ d. words.text) (λ x w. Lexeme (Text w) ∷ []) (λ w. w)
a_text = one_read (λ t a. t ≡ Text a) (λ x w. Lexeme (Text w) ∷ []) (λ w. w) Text (λ t a means. means) (λ x a. refl) (λ x a fits. (fits, tt))

pub a_plain_name : {n D : ℕ} → Reads n D (λ d. words.plain_name) (λ x w. word w ∷ []) (λ w. w)
a_plain_name = one_read (λ t a. (t ≡ Word a) × IsName a) (λ x w. word w ∷ []) (λ w. w) Word (λ t a means. means.0) (λ x a. refl) (λ x a fits. (fits, tt))

pub a_name : {n D : ℕ} → Reads n D (λ d. words.name) (λ x v. word v.name ∷ []) unnumbered_name
a_name = made (λ m a. record { name = a; token = m }) (λ x (v : Named). word v.name ∷ []) unnumbered_name (λ a. record { name = a; token = 0 }) (λ x m a. refl) (λ m a. refl) a_plain_name

-- ---- brackets

-- what is read at one depth is read in brackets at the next
pub deeper : {A B : Type 0} {n D : ℕ} (L : ℕ → Lang A) {f : List (List Piece) → A → List Piece} {e : A → B} → Reads n D (λ d. L (suc d)) f e → Reads n (suc D) L f e
deeper {A = A} {n = n} {D = D} L {f = f} {e = e} reads = record { read = λ p q ts v w s. let r = reads.read p q ts v w s in record { grows = r.grows; again = λ d. by p q v r d } }
  where
    by : (p q : Point) (v : A) → Read n D (λ d. L (suc d)) f e p q v → (d : ℕ) → suc D ≤ d → (x : List (List Piece)) → Listed n q.exists x → (r : Point) → SameExists r p → Again (L d) e (f x v) (e v) r q
    by p q v read zero deep = absurd (omega (arith, deep))
    by p q v read (suc d) deep = read.again d (omega (arith, deep))

-- pieces of which no EXISTS is asked are read at whichever line
pub shifted : {A B : Type 0} {m n D : ℕ} {L : ℕ → Lang A} {f : A → List Piece} {e : A → B} → Reads m D L (λ x v. f v) e → Reads n D L (λ x v. f v) e
shifted {m = m} reads = record {
  read = λ p q ts v w s.
      let r = reads.read p q ts v w s in
      record {
        grows = r.grows;
        again = λ d deep x listed t same.
            r.again d deep (map (λ query. enclosed m (pieces_of (m + 1) query)) q.exists) (listed_own m q.exists (map (λ query. enclosed m (pieces_of (m + 1) query)) q.exists) refl) t same;
      };
}

-- white space behind what is read
pub followed : {A B : Type 0} {n D : ℕ} {L : ℕ → Lang A} {f : List (List Piece) → A → List Piece} {e : A → B} (ws : List Piece) → tokens_in ws ≡ [] → AreSound ws
    → Reads n D L f e → Reads n D L (λ x v. f x v ++ ws) e
followed {L = L} {f = f} ws white sound reads = record {
  read = λ p q ts v w s.
      let r = reads.read p q ts v w s in
      record {
        grows = r.grows;
        again = λ d deep x listed t same.
            let a = r.again d deep x listed t same in
            record {
              value = a.value;
              end = a.end;
              spelled = subst (λ us. L d t us a.value a.end) (sym (tokens_append (f x v) ws ∙ ap (λ us. tokens_in (f x v) ++ us) white ∙ append-nil (tokens_in (f x v)))) a.spelled;
              same = a.same;
              kept = a.kept;
              sound = sound_append (f x v) ws a.sound sound;
            };
      };
}
