use Rattle.std.proofs.Common.{refl, true, [], ◌∷◌}
use Rattle.gc_lex.specs.declared.token.Token.TheVariants.{Word, Symbol}
use Rattle.gc_lex.specs.declared.token.Mark.TheVariants.{Minus}
use Rattle.gc_expr.specs.Trees as tree
use Rattle.gc_grammar.specs.Queries.{within}
use Rattle.gc_grammar.specs.Examples.{before_token, variable}
use Rattle.gc_grammar.proofs.Chains.{prod_variable, minus_variable}
use Rattle.gc_grammar.proofs.laws.differences_are_taken_from_the_left.Goals as goal

pub returns : goal.returns
returns c = λ a b d is_a is_b is_d. record {
  value = (variable 0 a, tree.SumPart true (variable 2 b) ∷ tree.SumPart true (variable 4 d) ∷ []);
  spelled = record {
    early = Word a ∷ [];
    late = Symbol Minus ∷ Word b ∷ Symbol Minus ∷ Word d ∷ [];
    between = before_token 1;
    whole = refl;
    before = prod_variable (within 0) a is_a (before_token 0);
    behind = (
      Symbol Minus ∷ Word b ∷ [],
      Symbol Minus ∷ Word d ∷ [],
      before_token 3,
      refl,
      minus_variable (within 0) b is_b (before_token 1),
      (Symbol Minus ∷ Word d ∷ [], [], before_token 5, refl, minus_variable (within 0) d is_d (before_token 3), (refl, refl)),
    );
  };
  made = refl;
}
