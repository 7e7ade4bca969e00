use Rattle.std.proofs.Common.{◌∙◌, sym, map}
use Rattle.gc_ast.specs.PatternViews.{pattern_tree}
use Rattle.gc_sorts.proofs.Chains.{first_chain}
use Rattle.gc_sorts.proofs.patterns.begins_with_edge.Goals as goal

pub returns : goal.returns
returns c names = c.has_edge.ensures names ∙ sym (first_chain (λ chain. map (pattern_tree names) chain.parts) c.args.chains.now c.at.result.now c.at.ensures)
