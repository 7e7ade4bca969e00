use Rattle.std.proofs.Common.{◌∷◌, ◌++◌, [], ap, ◌∙◌}
use Rattle.gcore.specs.Outcomes.{graph_text}
use Rattle.gcore.proofs.session.graph_text.Goals as goal

pub returns : goal.returns
unfolding graph_text
returns g c = c.in_ok-push.ensures.ok ∙ ap (λ text. text ++ 10 ∷ []) c.in_ok-text.ensures.text
