use Rattle.std.proofs.Common.{ap, sym, ◌∙◌, subst, arith}
use Rattle.gc_spec.specs.PropertyGraph.{PropertyGraph}
use Rattle.gc_json.specs.Frames.{frame_count}
use Rattle.gc_json.specs.Reading.{Gives}
use Rattle.gc_json.proofs.Wholes.{not_a_file, too_many, few}
use Rattle.gc_json.proofs.loading.graph_of_frame.Goals as goal

pub returns-in-None : goal.returns-in-None
returns-in-None c = λ es whole is. not_a_file c.args.seen.now es c.count.result (c.count.ensures ∙ ap frame_count is) c.in-None.is

pub returns-then-count-gt-MOST_ELEMENTS : goal.returns-then-count-gt-MOST_ELEMENTS
returns-then-count-gt-MOST_ELEMENTS c = λ es whole is.
    too_many c.args.seen.now es c.count.result (c.count.ensures ∙ ap frame_count is) c.in-Some.count c.in-Some.is c.if-count-gt-MOST_ELEMENTS.true

pub returns-else-count-gt-MOST_ELEMENTS : goal.returns-else-count-gt-MOST_ELEMENTS
returns-else-count-gt-MOST_ELEMENTS c = λ es whole is.
    let same = few c.args.seen.now es c.count.result (c.count.ensures ∙ ap frame_count is) c.in-Some.count c.in-Some.is (λ many. omega (arith, c.if-count-gt-MOST_ELEMENTS.false)) in
    subst (λ due. Gives {Y = PropertyGraph} (λ g. g) due c.graph_of_lists.result) (sym same) (c.graph_of_lists.ensures es whole is)
