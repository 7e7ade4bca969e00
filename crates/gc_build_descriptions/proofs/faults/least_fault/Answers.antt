use Rattle.std.proofs.Common.{ap, ◌∙◌, ◌∷◌, [], fold, get_or}
use Rattle.std.specs.Option.{option_to_list}
use Rattle.gc_build_descriptions.specs.Faults.{faults_among, lesser}
use Rattle.gc_build_descriptions.proofs.FaultLaws.{least_next}
use Rattle.gc_build_descriptions.proofs.faults.least_fault.Goals as goal

pub loop-index-preserved : goal.loop-index-preserved
loop-index-preserved c =
    let a = c.args.assignment.now in
    let places = c.args.places.now in
    let i = c.loop-index.index in
    let value = ap (λ v. fold lesser c.loop-index.least (faults_among a (get_or places i 0 ∷ []) (option_to_list v))) c.value_at.ensures in
    least_next a c.loop-index.least c.with_value-least.result places c.args.values.now i c.loop-index-test.true (c.with_value-least.ensures ∙ value)
    ∙ c.loop-index.invariant
