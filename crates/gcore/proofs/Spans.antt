-- What the words of the grammar hand on of where values stand among the tokens.
use Rattle.std.proofs.Common.{◌≡◌, ◌≤◌, ◌<◌, ◌+◌, ℕ, false, true, List, [], ◌∷◌, ◌++◌, Option, Some, None, sym, ap, subst, arith}
use Rattle.std.specs.Prelude.{⊤}
use Rattle.std.specs.List.{Contains, list_any}
use Rattle.std.proofs.lemmas.List.Elements.{Contains-append_left, Contains-append_right, Contains-push}
use Rattle.gc_base.specs.Words.{is_reserved}
use Rattle.gc_lex.specs.declared.token.Token.{Token}
use Rattle.gc_lex.specs.declared.token.Token.TheVariants.{Word}
use Rattle.gc_ast.specs.Names.{same_name}
use Rattle.gc_ast.specs.Trees.{Named, Tree, AQuery}
use Rattle.gc_expr.specs.Views.{Names}
use Rattle.gc_grammar.specs.Words.{Point, Lang, One, Either, this, that, IsName, alone, many, name, numbered, optional, separated, ◌⋅◌, ◌∣◌, ◌⇒◌, ◌▸◌, ◌◂◌}
use Rattle.gc_query.specs.InOrder.{IsNameIf, IsNameIn}

-- the words among tokens that are no reserved ones are names of a table
abbrev pub HasNames : Names → List Token → Type 0
HasNames names ts = (w : List ℕ) → Contains ts (Word w) → is_reserved w ≡ false → list_any (same_name w) names ≡ true

-- what a language spells between two tokens is so, where the names are of a table
pub record Spans (names : Names) {A : Type 0} (L : Lang A) (P : ℕ → A → ℕ → Type 0) : Type 0 where
  pub up : (p q : Point) (ts : List Token) (a : A) → L p ts a q → p.token ≤ q.token
  pub spans : (p q : Point) (ts : List Token) (a : A) → L p ts a q → HasNames names ts → P p.token a q.token

-- it holds between numbers that are further apart
pub record Wide {A : Type 0} (P : ℕ → A → ℕ → Type 0) : Type 0 where
  pub wider : (low from upto high : ℕ) (a : A) → low ≤ from → upto ≤ high → P from a upto → P low a high

abbrev pub Anywhere : {A : Type 0} → ℕ → A → ℕ → Type 0
Anywhere from a upto = from ≤ upto

-- a language goes on among the tokens
pub record Rises {A : Type 0} (L : Lang A) : Type 0 where
  pub rises : (p q : Point) (ts : List Token) (a : A) → L p ts a q → p.token ≤ q.token

abbrev token_of : Point → ℕ
token_of p = p.token

pub rises_one : {A : Type 0} {Means : Token → A → Type 0} → Rises (One Means)
rises_one = record { rises = λ p q ts a s. let e = ap token_of s.after in omega (arith, e) }

pub rises_both : {A B : Type 0} {L : Lang A} {M : Lang B} → Rises L → Rises M → Rises (L ⋅ M)
rises_both l m = record { rises = λ p q ts v s. let a = l.rises p s.between s.early v.0 s.before in let b = m.rises s.between q s.late v.1 s.behind in omega (arith, a, b) }

pub rises_made : {A B : Type 0} {L : Lang A} {make : ℕ → A → B} → Rises L → Rises (L ⇒ make)
rises_made l = record { rises = λ p q ts b s. l.rises p q ts s.value s.spelled }

pub rises_pair : {A B C : Type 0} {L : Lang A} {M : Lang B} {make : ℕ → A × B → C} → Rises L → Rises M → Rises ((L ⋅ M) ⇒ make)
rises_pair l m = rises_made (rises_both l m)

pub rises_either : {A : Type 0} {L M : Lang A} → Rises L → Rises M → Rises (L ∣ M)
rises_either {A = A} {L = L} {M = M} l m = record { rises = by }
  where
    by : (p q : Point) (ts : List Token) (a : A) → Either L M p ts a q → p.token ≤ q.token
    by p q ts a (this s) = l.rises p q ts a s
    by p q ts a (that s) = m.rises p q ts a s

pub rises_perhaps : {A : Type 0} {L : Lang A} → Rises L → Rises (optional L)
rises_perhaps {A = A} {L = L} l = record { rises = by }
  where
    by : (p q : Point) (ts : List Token) (o : Option A) → optional L p ts o q → p.token ≤ q.token
    by p q ts None s = let e = ap token_of s.1 in omega (arith, e)
    by p q ts (Some a) s = l.rises p q ts a s

pub rises_each : {A : Type 0} {L : Lang A} → Rises L → Rises (many L)
rises_each {A = A} {L = L} l = record { rises = by }
  where
    by : (p q : Point) (ts : List Token) (xs : List A) → many L p ts xs q → p.token ≤ q.token
    by p q ts [] s = let e = ap token_of s.1 in omega (arith, e)
    by p q ts (x ∷ xs) s = let a = l.rises p s.2 s.0 x s.4 in let b = by s.2 q s.1 xs s.5 in omega (arith, a, b)

pub rises_parted : {A B : Type 0} {L : Lang A} {S : Lang B} → Rises S → Rises L → Rises (separated L S)
rises_parted s l = rises_pair l (rises_each (rises_pair s l))

pub rises_numbered : {L : Lang (Tree AQuery)} → Rises L → Rises (numbered L)
rises_numbered l = record {
  rises = λ p q ts i s. let a = l.rises (record { token = p.token; exists = [] }) s.last ts s.query s.spelled in let e = ap token_of s.after in omega (arith, a, e);
}

pub rises_alone : {A : Type 0} {L : Lang A} → Rises L → Rises (alone L)
rises_alone l = record {
  rises = λ p q ts v s. let a = l.rises (record { token = p.token; exists = [] }) s.last ts v.0 s.spelled in let e = ap token_of s.after in omega (arith, a, e);
}

-- where the names are of a table, they are among the tokens of each part
names_left : (names : Names) (ts early late : List Token) → ts ≡ early ++ late → HasNames names ts → HasNames names early
names_left names ts early late e h = λ w m. h w (subst (λ us. Contains us (Word w)) (sym e) (Contains-append_left early late (Word w) m))

names_right : (names : Names) (ts early late : List Token) → ts ≡ early ++ late → HasNames names ts → HasNames names late
names_right names ts early late e h = λ w m. h w (subst (λ us. Contains us (Word w)) (sym e) (Contains-append_right early late (Word w) m))

-- one after the other, with the token between them
pub record InTwo {A B : Type 0} (P : ℕ → A → ℕ → Type 0) (Q : ℕ → B → ℕ → Type 0) (from : ℕ) (v : A × B) (upto : ℕ) : Type 0 where
  pub mid : ℕ
  pub first : P from v.0 mid
  pub second : Q mid v.1 upto
  pub low : from ≤ mid
  pub high : mid ≤ upto

abbrev pub IfIn : {A : Type 0} → (ℕ → A → ℕ → Type 0) → ℕ → Option A → ℕ → Type 0
IfIn P from None upto = from ≤ upto
IfIn P from (Some a) upto = P from a upto

-- one behind another
abbrev pub InTurn : {A : Type 0} → (ℕ → A → ℕ → Type 0) → ℕ → List A → ℕ → Type 0
InTurn P from [] upto = from ≤ upto
InTurn P from (x ∷ xs) upto = (mid : ℕ) × P from x mid × InTurn P mid xs upto

module _ {names : Names} where
  pub anywhere : {A : Type 0} {L : Lang A} → Rises L → Spans names L Anywhere
  anywhere l = record { up = l.rises; spans = λ p q ts a s h. l.rises p q ts a s }

  pub rising : {A : Type 0} {L : Lang A} {P : ℕ → A → ℕ → Type 0} → Spans names L P → Rises L
  rising l = record { rises = l.up }

  -- a name
  pub name_spans : Spans names name (IsNameIn names)
  unfolding IsName
  name_spans = record {
    up = λ p q ts x s. let e = ap token_of s.spelled.after in omega (arith, e);
    spans = λ p q ts x s h.
        let one = s.spelled in
        let e = ap token_of one.after in
        let there : list_any (same_name s.value) names ≡ true =
        h s.value (subst (λ us. Contains us (Word s.value)) (sym one.alone) (subst (λ (t : Token). Contains (t ∷ []) (Word s.value)) (sym one.means.0) (Contains-push [] (Word s.value)))) one.means.1 in
        let made : IsNameIn names p.token (record { name = s.value; token = p.token }) q.token = record { low = omega arith; high = omega (arith, e); there = there } in
        subst (λ (y : Named). IsNameIn names p.token y q.token) (sym s.made) made;
  }

  pub made_spans : {A B : Type 0} {L : Lang A} {make : ℕ → A → B} {P : ℕ → A → ℕ → Type 0} (Q : ℕ → B → ℕ → Type 0) → Spans names L P → ((from upto : ℕ) (a : A) → from ≤ upto → P from a upto → Q from (make from a) upto)
      → Spans names (L ⇒ make) Q
  made_spans Q l f = record {
    up = λ p q ts b s. l.up p q ts s.value s.spelled;
    spans = λ p q ts b s h. subst (λ x. Q p.token x q.token) (sym s.made) (f p.token q.token s.value (l.up p q ts s.value s.spelled) (l.spans p q ts s.value s.spelled h));
  }

  pub both_span : {A B : Type 0} {L : Lang A} {M : Lang B} {P : ℕ → A → ℕ → Type 0} {Q : ℕ → B → ℕ → Type 0} → Spans names L P → Spans names M Q → Spans names (L ⋅ M) (InTwo P Q)
  both_span l m = record {
    up = (rises_both (rising l) (rising m)).rises;
    spans = λ p q ts v s h. record {
      mid = s.between.token;
      first = l.spans p s.between s.early v.0 s.before (names_left names ts s.early s.late s.whole h);
      second = m.spans s.between q s.late v.1 s.behind (names_right names ts s.early s.late s.whole h);
      low = l.up p s.between s.early v.0 s.before;
      high = m.up s.between q s.late v.1 s.behind;
    };
  }

  pub before_span : {A B : Type 0} {L : Lang A} {M : Lang B} {P : ℕ → A → ℕ → Type 0} → Wide P → Spans names L P → Rises M → Spans names (L ◂ M) P
  before_span {P = P} wide l m = made_spans P (both_span l (anywhere m)) (λ from upto v up h. wide.wider from from h.mid upto v.0 (omega arith) h.high h.first)

  pub behind_span : {A B : Type 0} {L : Lang A} {M : Lang B} {Q : ℕ → B → ℕ → Type 0} → Wide Q → Rises L → Spans names M Q → Spans names (L ▸ M) Q
  behind_span {Q = Q} wide l m = made_spans Q (both_span (anywhere l) m) (λ from upto v up h. wide.wider from h.mid upto upto v.1 h.low (omega arith) h.second)

  -- behind one token
  pub next_span : {A B : Type 0} {Means : Token → A → Type 0} {M : Lang B} {Q : ℕ → B → ℕ → Type 0} → Spans names M Q → Spans names (One Means ▸ M) (λ from b upto. Q (from + 1) b upto)
  next_span {Q = Q} m = record {
    up = (rises_pair rises_one (rising m)).rises;
    spans = λ p q ts b s h.
        let two = s.spelled in
        let at : two.between.token ≡ p.token + 1 = ap token_of two.before.after in
        let inner = m.spans two.between q two.late s.value.1 two.behind (names_right names ts two.early two.late two.whole h) in
        subst (λ x. Q (p.token + 1) x q.token) (sym s.made) (subst (λ n. Q n s.value.1 q.token) at inner);
  }

  pub either_span : {A : Type 0} {L M : Lang A} {P : ℕ → A → ℕ → Type 0} → Spans names L P → Spans names M P → Spans names (L ∣ M) P
  either_span {A = A} {L = L} {M = M} {P = P} l m = record { up = (rises_either (rising l) (rising m)).rises; spans = by }
    where
      by : (p q : Point) (ts : List Token) (a : A) → Either L M p ts a q → HasNames names ts → P p.token a q.token
      by p q ts a (this s) h = l.spans p q ts a s h
      by p q ts a (that s) h = m.spans p q ts a s h

  pub perhaps_span : {A : Type 0} {L : Lang A} {P : ℕ → A → ℕ → Type 0} → Spans names L P → Spans names (optional L) (IfIn P)
  perhaps_span {A = A} {L = L} {P = P} l = record { up = (rises_perhaps (rising l)).rises; spans = by }
    where
      by : (p q : Point) (ts : List Token) (o : Option A) → optional L p ts o q → HasNames names ts → IfIn P p.token o q.token
      by p q ts None s h = let e = ap token_of s.1 in omega (arith, e)
      by p q ts (Some a) s h = l.spans p q ts a s h

  pub each_span : {A : Type 0} {L : Lang A} {P : ℕ → A → ℕ → Type 0} → Spans names L P → Spans names (many L) (InTurn P)
  each_span {A = A} {L = L} {P = P} l = record { up = (rises_each (rising l)).rises; spans = by }
    where
      by : (p q : Point) (ts : List Token) (xs : List A) → many L p ts xs q → HasNames names ts → InTurn P p.token xs q.token
      by p q ts [] s h = let e = ap token_of s.1 in omega (arith, e)
      by p q ts (x ∷ xs) s h = (s.2.token, l.spans p s.2 s.0 x s.4 (names_left names ts s.0 s.1 s.3 h), by s.2 q s.1 xs s.5 (names_right names ts s.0 s.1 s.3 h))

  pub parted_span : {A B : Type 0} {L : Lang A} {S : Lang B} {P : ℕ → A → ℕ → Type 0} → Wide P → Rises S → Spans names L P → Spans names (separated L S) (InTurn P)
  parted_span {P = P} wide s l = made_spans (InTurn P) (both_span l (each_span (behind_span wide s l))) (λ from upto v up h. (h.mid, h.first, h.second))
