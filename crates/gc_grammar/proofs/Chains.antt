-- Spellings of chains of variables.
use Rattle.std.proofs.Common.{◌≡◌, refl, ℕ, true, List, [], ◌∷◌, ◌++◌, None, codes}
use Rattle.gc_lex.specs.declared.token.Token.{Token}
use Rattle.gc_lex.specs.declared.token.Token.TheVariants.{Word, Symbol}
use Rattle.gc_lex.specs.declared.token.Mark.TheVariants.{Minus}
use Rattle.gc_expr.specs.Trees as tree
use Rattle.gc_expr.specs.Trees.{At}
use Rattle.gc_grammar.specs.Words.{Point, Lang, next, IsName, ◌⋅◌, ◌⇒◌, optional, many, separated, the_word, this, that}
use Rattle.gc_grammar.specs.Expressions.{Inside, prim, post, neg, prod, sum_part, sum, cmp, not, and, suffix, product_part, comparison, suffixed, prefixed, multiplied, summed, compared, chained}
use Rattle.gc_grammar.specs.Examples.{variable}
use Rattle.gc_grammar.proofs.Spellings.{spells_mark, spells_name}

-- L before what is not there
pub before_nothing : {A B C : Type 0} (L : Lang A) (M : Lang B) (make : ℕ → A × B → C) (p q : Point) (ts : List Token) (a : A) (b : B)
    → ts ≡ ts ++ [] → L p ts a q → M q [] b q → ((L ⋅ M) ⇒ make) p ts (make p.token (a, b)) q
before_nothing L M make p q ts a b whole l m = record {
  value = (a, b);
  spelled = record { early = ts; late = []; between = q; whole = whole; before = l; behind = m };
  made = refl;
}

-- L behind what is not there
pub behind_nothing : {A B C : Type 0} (M : Lang B) (L : Lang A) (make : ℕ → B × A → C) (p q : Point) (ts : List Token) (b : B) (a : A)
    → M p [] b p → L p ts a q → ((M ⋅ L) ⇒ make) p ts (make p.token (b, a)) q
behind_nothing M L make p q ts b a m l = record {
  value = (b, a);
  spelled = record { early = []; late = ts; between = p; whole = refl; before = m; behind = l };
  made = refl;
}

-- a word that stands for itself
pub spells_the_word : (w : List ℕ) (p : Point) → the_word w p (Word w ∷ []) tt (next p)
spells_the_word w p = record { token = Word w; alone = refl; means = refl; after = refl }

-- one part of a list
pub one_part : {A : Type 0} (L : Lang A) (S : Lang (Unit {0})) (p q : Point) (ts : List Token) (a : A)
    → ts ≡ ts ++ [] → L p ts a q → separated L S p ts (a ∷ []) q
one_part L S p q ts a whole l = record {
  value = (a, []);
  spelled = record { early = ts; late = []; between = q; whole = whole; before = l; behind = (refl, refl) };
  made = refl;
}

-- two parts of a list
pub two_parts : {A : Type 0} (L : Lang A) (S : Lang (Unit {0})) (p m n q : Point) (ts ss us : List Token) (a b : A)
    → ss ++ us ≡ (ss ++ us) ++ [] → L p ts a m → S m ss tt n → L n us b q → separated L S p (ts ++ (ss ++ us)) (a ∷ b ∷ []) q
two_parts L S p m n q ts ss us a b whole first separator second = record {
  value = (a, b ∷ []);
  spelled = record {
    early = ts;
    late = ss ++ us;
    between = m;
    whole = refl;
    before = first;
    behind = (
      ss ++ us,
      [],
      q,
      whole,
      record {
        value = (tt, b);
        spelled = record { early = ss; late = us; between = n; whole = refl; before = separator; behind = second };
        made = refl;
      },
      (refl, refl),
    );
  };
  made = refl;
}

-- a name is a variable
pub prod_variable : (inside : Inside) (a : List ℕ) → IsName a → (p : Point) → prod inside p (Word a ∷ []) (variable p.token a) (next p)
prod_variable inside a is_name p =
    let e = variable p.token a in
    before_nothing (neg inside) (many (product_part inside)) (λ n v. multiplied n v.0 v.1) p (next p) (Word a ∷ []) e [] refl
    (behind_nothing (optional _) (post inside) (λ n v. prefixed tree.Negate n v.0 v.1) p (next p) (Word a ∷ []) None e (refl, refl)
    (before_nothing (prim inside) (optional suffix) (λ n v. suffixed n v.0 v.1) p (next p) (Word a ∷ []) e None refl
    (that (that (that (that (this (record { value = record { name = a; token = p.token }; spelled = spells_name a is_name p; made = refl }))))))
    (refl, refl))) (refl, refl)

pub not_variable : (inside : Inside) (a : List ℕ) → IsName a → (p : Point) → not inside p (Word a ∷ []) (variable p.token a) (next p)
not_variable inside a is_name p =
    let e = variable p.token a in
    behind_nothing (optional (the_word (codes "NOT"))) (cmp inside) (λ n v. prefixed tree.Not n v.0 v.1) p (next p) (Word a ∷ []) None e (refl, refl)
    (before_nothing (sum inside) (optional (comparison ⋅ sum inside)) (λ n v. compared n v.0 v.1) p (next p) (Word a ∷ []) e None refl
    (before_nothing (prod inside) (many (sum_part inside)) (λ n v. summed n v.0 v.1) p (next p) (Word a ∷ []) e [] refl
    (prod_variable inside a is_name p) (refl, refl)) (refl, refl))

-- `a AND b`
pub and_variables : (inside : Inside) (a b : List ℕ) → IsName a → IsName b → (p : Point)
    → and inside p (Word a ∷ Word (codes "AND") ∷ Word b ∷ [])
    (chained tree.And p.token (variable p.token a ∷ variable (next (next p)).token b ∷ [])) (next (next (next p)))
and_variables inside a b is_a is_b p = record {
  value = variable p.token a ∷ variable (next (next p)).token b ∷ [];
  spelled = two_parts (not inside) (the_word (codes "AND")) p (next p) (next (next p)) (next (next (next p)))
      (Word a ∷ []) (Word (codes "AND") ∷ []) (Word b ∷ []) (variable p.token a) (variable (next (next p)).token b) refl
      (not_variable inside a is_a p) (spells_the_word (codes "AND") (next p)) (not_variable inside b is_b (next (next p)));
  made = refl;
}

-- a variable is a list of one part
pub and_variable : (inside : Inside) (a : List ℕ) → IsName a → (p : Point) → and inside p (Word a ∷ []) (variable p.token a) (next p)
and_variable inside a is_name p = record {
  value = variable p.token a ∷ [];
  spelled = one_part (not inside) (the_word (codes "AND")) p (next p) (Word a ∷ []) (variable p.token a) refl (not_variable inside a is_name p);
  made = refl;
}

-- `- b`
pub minus_variable : (inside : Inside) (b : List ℕ) → IsName b → (p : Point)
    → sum_part inside p (Symbol Minus ∷ Word b ∷ []) (tree.SumPart true (variable (next p).token b)) (next (next p))
minus_variable inside b is_b p = record {
  value = (true, variable (next p).token b);
  spelled = record {
    early = Symbol Minus ∷ [];
    late = Word b ∷ [];
    between = next p;
    whole = refl;
    before = that (record { value = tt; spelled = spells_mark Minus p; made = refl });
    behind = prod_variable inside b is_b (next p);
  };
  made = refl;
}
