-- The tokens of an expression nest as the expression does.
use Rattle.std.proofs.Common.{◌≡◌, ℕ, ◌+◌, Bool, true, false, nat_lt, List, [], ◌∷◌, ◌++◌, map, refl, ap, cond, arith}
use Rattle.gc_lex.specs.declared.token.Token.{Token}
use Rattle.gc_lex.specs.declared.token.Token.TheVariants.{Symbol}
use Rattle.gc_lex.specs.declared.token.Mark.TheVariants as mark
use Rattle.gc_print.specs.LooseTrees.{looseness_of, rank}
use Rattle.gc_print.specs.RegexTokens.{TokenPart, joined, tokens_of}
use Rattle.gc_regx.specs.Trees.{Kind, RegexTree, ARegex, ARow, Label, Back, Any, AnyBack, Test, View, Cat, Alt, Star, none, more}
use Rattle.gc_cert_text.specs.Nesting.{NestedPart, enclosed_depth, deepest, nested, nesting_of}
use Rattle.gc_cert_text.proofs.Fronts.{IsWithin, enclosing, none_open, within_append, within_enclosing, within_more}

-- a part nests as deep in its tokens
pub record PartNests (p : NestedPart) (q : TokenPart) : Type 0 where
  pub same : p.looseness ≡ rank q.looseness
  pub nests : IsWithin p.depth q.tokens

abbrev PartsNest : List NestedPart → List TokenPart → Type 0
PartsNest [] [] = Unit {0}
PartsNest (p ∷ ps) (q ∷ qs) = PartNests p q × PartsNest ps qs
PartsNest [] (q ∷ qs) = ⊥
PartsNest (p ∷ ps) [] = ⊥

enclosed_nests : (most : ℕ) (p : NestedPart) (q : TokenPart) → PartNests p q
    → IsWithin (enclosed_depth most p) (cond (nat_lt most (rank q.looseness)) (enclosing q.tokens) q.tokens)
enclosed_nests most p q part = by (nat_lt most p.looseness) (nat_lt most (rank q.looseness)) (ap (nat_lt most) part.same)
  where
    by : (deeper other : Bool) → deeper ≡ other → IsWithin (cond deeper (p.depth + 1) p.depth) (cond other (enclosing q.tokens) q.tokens)
    by true true h = within_enclosing p.depth q.tokens part.nests
    by false false h = part.nests
    by true false h = absurd (cc)
    by false true h = absurd (cc)

-- parts with something between them that has no brackets
module _ (most : ℕ) (tokens : TokenPart → List Token) (each : (p : NestedPart) (q : TokenPart) → PartNests p q → IsWithin (enclosed_depth most p) (tokens q))
    (between : List Token) (plain : IsWithin 0 between) where
  joined_nest : (ps : List NestedPart) (qs : List TokenPart) → PartsNest ps qs → IsWithin (deepest most ps) (joined between (map tokens qs))
  joined_nest [] [] h = none_open [] tt tt
  joined_nest [] (q ∷ qs) h = absurd h
  joined_nest (p ∷ ps) [] h = absurd h
  joined_nest (p ∷ []) (q ∷ []) h = within_more (enclosed_depth most p) (deepest most (p ∷ [])) (tokens q) (omega arith) (each p q h.0)
  joined_nest (p ∷ []) (q ∷ r ∷ qs) h = absurd h.1
  joined_nest (p ∷ o ∷ ps) (q ∷ []) h = absurd h.1
  joined_nest (p ∷ o ∷ ps) (q ∷ r ∷ qs) h =
      let n : ℕ = deepest most (p ∷ o ∷ ps) in
      let first = within_more (enclosed_depth most p) n (tokens q) (omega arith) (each p q h.0) in
      let rest = joined between (map tokens (r ∷ qs)) in
      let later = within_more (deepest most (o ∷ ps)) n rest (omega arith) (joined_nest (o ∷ ps) (r ∷ qs) h.1) in
      within_append n (tokens q) (between ++ rest) first (within_append n between rest (within_more 0 n between (omega arith) plain) later)

abbrev Claim : (k : Kind) → RegexTree k → Type 0
Claim ARegex tree = IsWithin (nesting_of tree) (tokens_of tree)
Claim ARow parts = PartsNest (nesting_of parts) (tokens_of parts)

pub expression_nests : {k : Kind} (tree : RegexTree k) → Claim k tree
unfolding nesting_of tokens_of
expression_nests (Label l) = none_open _ (refl, (refl, tt)) (refl, (refl, tt))
expression_nests (Back l) = none_open _ (refl, (refl, (refl, tt))) (refl, (refl, (refl, tt)))
expression_nests Any = none_open _ (refl, tt) (refl, tt)
expression_nests AnyBack = none_open _ (refl, (refl, tt)) (refl, (refl, tt))
expression_nests (Test l) = none_open _ (refl, (refl, (refl, tt))) (refl, (refl, (refl, tt)))
expression_nests (View v) = none_open _ (refl, (refl, tt)) (refl, (refl, tt))
expression_nests (Cat parts) =
    joined_nest 1 (λ q. cond (nat_lt 1 (rank q.looseness)) (enclosing q.tokens) q.tokens) (enclosed_nests 1) [] (none_open [] tt tt) (nesting_of parts) (tokens_of parts)
    (expression_nests parts)
expression_nests (Alt parts) =
    joined_nest 2 (λ q. cond (nat_lt 2 (rank q.looseness)) (enclosing q.tokens) q.tokens) (enclosed_nests 2) (Symbol mark.Bar ∷ []) (none_open _ (refl, tt) (refl, tt))
    (nesting_of parts) (tokens_of parts) (expression_nests parts)
expression_nests (Star part) =
    let p : NestedPart = nested part (nesting_of part) in
    let q : TokenPart = record { looseness = looseness_of part; tokens = tokens_of part } in
    let whole = enclosed_nests 0 p q (record { same = refl; nests = expression_nests part }) in
    let n : ℕ = enclosed_depth 0 p in
    within_append n _ (Symbol mark.Star ∷ []) whole (within_more 0 n _ (omega arith) (none_open _ (refl, tt) (refl, tt)))
expression_nests none = tt
expression_nests (more part parts) = (record { same = refl; nests = expression_nests part }, expression_nests parts)
