use Rattle.std.proofs.Common.{◌*◌, sym, ap, ◌∙◌, arith}
use Rattle.serde_json.specs.View.{items_view}
use Rattle.gc_json.proofs.GatheredSteps.{steps_gathered}
use Rattle.gc_json.proofs.WalkTurns.{turned, edge_alone}
use Rattle.gc_cert_text.specs.Options.{found}
use Rattle.gc_cert_text.proofs.FoundLaws.{was_found}
use Rattle.gc_cert_text.proofs.walks.steps_of.Goals as goal

pub loop-i-init : goal.loop-i-init
loop-i-init c = ap found (steps_gathered c.new-steps.result (items_view c.args.items.now) c.new-steps.ensures)

pub loop-i-preserved : goal.loop-i-preserved
loop-i-preserved c =
    ap found
    (turned c.args.items.now (2 * c.loop-i.i) _ c.loop-i.steps _ _ _ _ (omega arith) (omega arith) c.index-items-i.is c.index-items-i-in-loop-i.is
    (was_found _ _ (sym c.in-Some.ensures)) c.in_ok-push-in-Some.ensures.ok)
    ∙ c.loop-i.invariant

pub returns-then-items-ne0 : goal.returns-then-items-ne0
returns-then-items-ne0 c = sym (ap found (edge_alone c.args.items.now (2 * c.loop-i.i) c.loop-i.steps (omega arith))) ∙ c.loop-i.invariant
