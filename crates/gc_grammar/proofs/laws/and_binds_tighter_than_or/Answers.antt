use Rattle.std.proofs.Common.{refl, [], ◌∷◌, codes}
use Rattle.gc_lex.specs.declared.token.Token.TheVariants.{Word}
use Rattle.gc_expr.specs.Trees as tree
use Rattle.gc_expr.specs.Trees.{row, At}
use Rattle.gc_grammar.specs.Words.{the_word}
use Rattle.gc_grammar.specs.Expressions.{and}
use Rattle.gc_grammar.specs.Queries.{within}
use Rattle.gc_grammar.specs.Examples.{before_token, variable}
use Rattle.gc_grammar.proofs.Chains.{two_parts, spells_the_word, and_variables, and_variable}
use Rattle.gc_grammar.proofs.laws.and_binds_tighter_than_or.Goals as goal

pub returns : goal.returns
returns c = λ a b d is_a is_b is_d.
    let both = At 0 (tree.And (row (variable 0 a ∷ variable 2 b ∷ []))) in
    record {
      value = both ∷ variable 4 d ∷ [];
      spelled = two_parts (and (within 0)) (the_word (codes "OR")) (before_token 0) (before_token 3) (before_token 4) (before_token 5)
          (Word a ∷ Word (codes "AND") ∷ Word b ∷ []) (Word (codes "OR") ∷ []) (Word d ∷ []) both (variable 4 d) refl
          (and_variables (within 0) a b is_a is_b (before_token 0)) (spells_the_word (codes "OR") (before_token 3))
          (and_variable (within 0) d is_d (before_token 4));
      made = refl;
    }
