-- What the words of the grammar hand on of the languages that they are made of.
use Rattle.std.proofs.Common.{ℕ, List, [], ◌∷◌, ◌++◌, Option, Some, None, sym, subst}
use Rattle.std.specs.Prelude.{⊤}
use Rattle.std.specs.List.{AllByRecursion}
use Rattle.gc_lex.specs.declared.token.Token.{Token}
use Rattle.gc_ast.specs.Trees.{Tree, AQuery}
use Rattle.gc_grammar.specs.Words.{Point, Lang, One, Either, this, that, many, optional, separated, several, alone, numbered, ◌⋅◌, ◌∣◌, ◌⇒◌, ◌▸◌, ◌◂◌}

-- each value that a language spells is so
pub record Gives {A : Type 0} (L : Lang A) (P : A → Type 0) : Type 0 where
  pub gives : (p q : Point) (ts : List Token) (a : A) → L p ts a q → P a

pub anything : {A : Type 0} (L : Lang A) → Gives L (λ a. ⊤)
anything L = record { gives = λ p q ts a s. tt }

pub made : {A B : Type 0} {L : Lang A} {make : ℕ → A → B} {P : A → Type 0} (Q : B → Type 0) → Gives L P → ((n : ℕ) (a : A) → P a → Q (make n a)) → Gives (L ⇒ make) Q
made Q l so = record { gives = λ p q ts b s. subst Q (sym s.made) (so p.token s.value (l.gives p q ts s.value s.spelled)) }

pub both : {A B : Type 0} {L : Lang A} {M : Lang B} {P : A → Type 0} {Q : B → Type 0} → Gives L P → Gives M Q → Gives (L ⋅ M) (λ v. P v.0 × Q v.1)
both l m = record { gives = λ p q ts v s. (l.gives p s.between s.early v.0 s.before, m.gives s.between q s.late v.1 s.behind) }

pub behind : {A B : Type 0} {L : Lang A} {M : Lang B} {Q : B → Type 0} → Gives M Q → Gives (L ▸ M) Q
behind {L = L} {Q = Q} m = made Q (both (anything L) m) (λ n v h. h.1)

pub before : {A B : Type 0} {L : Lang A} {M : Lang B} {P : A → Type 0} → Gives L P → Gives (L ◂ M) P
before {M = M} {P = P} l = made P (both l (anything M)) (λ n v h. h.0)

pub either : {A : Type 0} {L M : Lang A} {P : A → Type 0} → Gives L P → Gives M P → Gives (L ∣ M) P
either {L = L} {M = M} {P = P} l m = record { gives = by }
  where
    by : (p q : Point) (ts : List Token) (a : _) → Either L M p ts a q → P a
    by p q ts a (this s) = l.gives p q ts a s
    by p q ts a (that s) = m.gives p q ts a s

-- what may be absent is so where it is there
abbrev pub IfThere : {A : Type 0} → (A → Type 0) → Option A → Type 0
IfThere P None = ⊤
IfThere P (Some a) = P a

pub perhaps : {A : Type 0} {L : Lang A} {P : A → Type 0} → Gives L P → Gives (optional L) (IfThere P)
perhaps {A = A} {L = L} {P = P} l = record { gives = by }
  where
    by : (p q : Point) (ts : List Token) (o : Option A) → optional L p ts o q → IfThere P o
    by p q ts None s = tt
    by p q ts (Some a) s = l.gives p q ts a s

pub each : {A : Type 0} {L : Lang A} {P : A → Type 0} → Gives L P → Gives (many L) (AllByRecursion P)
each {A = A} {L = L} {P = P} l = record { gives = by }
  where
    by : (p q : Point) (ts : List Token) (xs : List A) → many L p ts xs q → AllByRecursion P xs
    by p q ts [] s = tt
    by p q ts (x ∷ xs) s = (l.gives p s.2 s.0 x s.4, by s.2 q s.1 xs s.5)

-- a list of one or more, each of which is so
abbrev pub FirstAndRest : {A : Type 0} → (A → Type 0) → List A → Type 0
FirstAndRest P [] = ⊥
FirstAndRest P (x ∷ xs) = P x × AllByRecursion P xs

pub one_or_more : {A : Type 0} {L : Lang A} {P : A → Type 0} → Gives L P → Gives (several L) (FirstAndRest P)
one_or_more {P = P} l = made (FirstAndRest P) (both l (each l)) (λ n v h. h)

pub one_or_more_parted : {A B : Type 0} {L : Lang A} {S : Lang B} {P : A → Type 0} → Gives L P → Gives (separated L S) (FirstAndRest P)
one_or_more_parted {P = P} l = made (FirstAndRest P) (both l (each (behind l))) (λ n v h. h)

pub parted : {A B : Type 0} {L : Lang A} {S : Lang B} {P : A → Type 0} → Gives L P → Gives (separated L S) (AllByRecursion P)
parted {P = P} l = made (AllByRecursion P) (both l (each (behind l))) (λ n v h. h)

-- where each EXISTS query before a language is so, each is behind it
pub record Keeps (P : Tree AQuery → Type 0) {A : Type 0} (L : Lang A) : Type 0 where
  pub keeps : (p q : Point) (ts : List Token) (a : A) → L p ts a q → AllByRecursion P p.exists → AllByRecursion P q.exists

abbrev Stands : (Tree AQuery → Type 0) → Point → Type 0
Stands P p = AllByRecursion P p.exists

one_more : (P : Tree AQuery → Type 0) (xs : List (Tree AQuery)) (x : Tree AQuery) → AllByRecursion P xs → P x → AllByRecursion P (xs ++ x ∷ [])
one_more P [] x h k = (k, tt)
one_more P (y ∷ ys) x h k = (h.0, one_more P ys x h.1 k)

module _ {P : Tree AQuery → Type 0} where
  pub keeps_one : {A : Type 0} {Means : Token → A → Type 0} → Keeps P (One Means)
  keeps_one = record { keeps = λ p q ts a s h. subst (Stands P) (sym s.after) h }

  pub keeps_both : {A B : Type 0} {L : Lang A} {M : Lang B} → Keeps P L → Keeps P M → Keeps P (L ⋅ M)
  keeps_both l m = record { keeps = λ p q ts v s h. m.keeps s.between q s.late v.1 s.behind (l.keeps p s.between s.early v.0 s.before h) }

  pub keeps_made : {A B : Type 0} {L : Lang A} {make : ℕ → A → B} → Keeps P L → Keeps P (L ⇒ make)
  keeps_made l = record { keeps = λ p q ts b s h. l.keeps p q ts s.value s.spelled h }

  pub keeps_pair : {A B C : Type 0} {L : Lang A} {M : Lang B} {make : ℕ → A × B → C} → Keeps P L → Keeps P M → Keeps P ((L ⋅ M) ⇒ make)
  keeps_pair l m = keeps_made (keeps_both l m)

  pub keeps_either : {A : Type 0} {L M : Lang A} → Keeps P L → Keeps P M → Keeps P (L ∣ M)
  keeps_either {A = A} {L = L} {M = M} l m = record { keeps = by }
    where
      by : (p q : Point) (ts : List Token) (a : A) → Either L M p ts a q → Stands P p → Stands P q
      by p q ts a (this s) h = l.keeps p q ts a s h
      by p q ts a (that s) h = m.keeps p q ts a s h

  pub keeps_perhaps : {A : Type 0} {L : Lang A} → Keeps P L → Keeps P (optional L)
  keeps_perhaps {A = A} {L = L} l = record { keeps = by }
    where
      by : (p q : Point) (ts : List Token) (o : Option A) → optional L p ts o q → Stands P p → Stands P q
      by p q ts None s h = subst (Stands P) (sym s.1) h
      by p q ts (Some a) s h = l.keeps p q ts a s h

  pub keeps_each : {A : Type 0} {L : Lang A} → Keeps P L → Keeps P (many L)
  keeps_each {A = A} {L = L} l = record { keeps = by }
    where
      by : (p q : Point) (ts : List Token) (xs : List A) → many L p ts xs q → Stands P p → Stands P q
      by p q ts [] s h = subst (Stands P) (sym s.1) h
      by p q ts (x ∷ xs) s h = by s.2 q s.1 xs s.5 (l.keeps p s.2 s.0 x s.4 h)

  pub keeps_parted : {A B : Type 0} {L : Lang A} {S : Lang B} → Keeps P S → Keeps P L → Keeps P (separated L S)
  keeps_parted s l = keeps_pair l (keeps_each (keeps_pair s l))

  -- a query in parentheses stands behind those before it
  pub keeps_numbered : {L : Lang (Tree AQuery)} → Gives L P → Keeps P (numbered L)
  keeps_numbered l = record {
    keeps = λ p q ts i s h. subst (Stands P) (sym s.after) (one_more P p.exists s.query h (l.gives (record { token = p.token; exists = [] }) s.last ts s.query s.spelled));
  }

  -- the queries of an expression that is looked at by itself
  pub gives_alone : {A : Type 0} {L : Lang A} → Keeps P L → Gives (alone L) (λ v. AllByRecursion P v.1)
  gives_alone l = record {
    gives = λ p q ts v s. subst (AllByRecursion P) (sym s.queries) (l.keeps (record { token = p.token; exists = [] }) s.last ts v.0 s.spelled tt);
  }
