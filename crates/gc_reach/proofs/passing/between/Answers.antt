use Rattle.std.proofs.Common.{◌≡◌, ℕ, ◌-◌, ◌*◌, ◌∙◌, ◌<◌, length, true, ap, sym, subst, List, Bool, arith}
use Rattle.std.specs.List.{AllByRecursion}
use Rattle.gc_base.specs.declared.walk.Step.{Step}
use Rattle.gc_spec.specs.PropertyGraph.{is_among}
use Rattle.gc_prod.specs.Groups.{row_of}
use Rattle.gc_prod.specs.Keys.{at_key}
use Rattle.gc_prod.specs.Leading.{pair}
use Rattle.gc_prod.specs.Products.{bundles}
use Rattle.gc_reach.specs.declared.turning.Turn.{Turn}
use Rattle.gc_reach.specs.Exploring.{targets, AreAll}
use Rattle.gc_reach.specs.Marking.{Marking, has_pair}
use Rattle.gc_reach.specs.Numbering.{IsNumbered}
use Rattle.gc_reach.specs.Passing.{AreStepsBetween}
use Rattle.gc_reach.specs.Turning.{turns}
use Rattle.gc_reach.proofs.BetweenLaws.{kept_are, steps_between, turns_below}
use Rattle.gc_reach.proofs.TurnLaws.{AreKept, left_nodes, left_states}
use Rattle.gc_reach.proofs.passing.between.Goals as goal

pub keep-requires-clause-width : goal.keep-requires-clause-width
keep-requires-clause-width g c =
    let wide : c.settle.new.marks.width ≡ c.width-width.result =
    c.in_ok-settle.ensures.width ∙ (ap (λ (m : Marking). m.width) c.in_ok-mark.ensures ∙ ap (λ (m : Marking). m.width) c.in_ok-marks.ensures) in
    subst (λ w. (node state : ℕ) → AllByRecursion (λ b. b.state < w) (bundles c.args.p.now node state)) (sym wide) c.width-width.ensures.above

pub by_pair-requires : goal.by_pair-requires
by_pair-requires g c =
    let m = c.settle.new.marks in
    let setting = c.args.p.now in
    let numbered = subst (λ (m : Marking). AllByRecursion (IsNumbered m.nodes m.width) m.pairs) c.marks-2.view_is c.marks-2.invariant.marks.numbered in
    let below = turns_below setting m.nodes m.width c.args.source m.pairs c.in_ok-settle.ensures.all numbered in
    subst (λ n. AllByRecursion (λ (t : Turn). t.number < n) c.deref.result.now) (sym c.size.ensures)
    (subst (λ (l : List Turn). AllByRecursion (λ t. t.number < length m.nodes * m.width) l) (sym (c.deref.ensures.value ∙ c.in_ok-list.ensures.exact)) below)

pub settle_back-requires-clause-nodes : goal.settle_back-requires-clause-nodes
settle_back-requires-clause-nodes g c =
    let m = c.settle.new.marks in
    let kept = c.in_ok-kept.kept in
    let setting = c.args.p.now in
    let are = kept_are setting m.nodes m.width c.args.source m.pairs kept c.in_ok-settle.ensures.all
    (subst (λ (m : Marking). AllByRecursion (IsNumbered m.nodes m.width) m.pairs) c.marks-2.view_is c.marks-2.invariant.marks.numbered)
    (λ key. c.in_ok-kept.ensures key ∙ ap (at_key (λ (t : Turn). t.number) key) (c.deref.ensures.value ∙ c.in_ok-list.ensures.exact)) in
    let same : m.nodes ≡ c.in_ok-back.back.nodes =
    c.in_ok-settle.ensures.nodes ∙ (ap (λ (m : Marking). m.nodes) c.in_ok-mark.ensures ∙ (ap (λ (m : Marking). m.nodes) c.in_ok-marks.ensures ∙ sym (ap (λ (m : Marking). m.nodes) c.in_ok-back.ensures))) in
    subst (λ (ids : List ℕ). (key : ℕ) → AllByRecursion (λ (t : Turn). is_among ids t.from.node ≡ true) (row_of kept key)) same
    (left_nodes setting m.nodes m.width m.pairs kept are)

pub settle_back-requires-clause-states : goal.settle_back-requires-clause-states
settle_back-requires-clause-states g c =
    let m = c.settle.new.marks in
    let kept = c.in_ok-kept.kept in
    let setting = c.args.p.now in
    let are = kept_are setting m.nodes m.width c.args.source m.pairs kept c.in_ok-settle.ensures.all
    (subst (λ (m : Marking). AllByRecursion (IsNumbered m.nodes m.width) m.pairs) c.marks-2.view_is c.marks-2.invariant.marks.numbered)
    (λ key. c.in_ok-kept.ensures key ∙ ap (at_key (λ (t : Turn). t.number) key) (c.deref.ensures.value ∙ c.in_ok-list.ensures.exact)) in
    let wide : m.width ≡ c.in_ok-back.back.width =
    c.in_ok-settle.ensures.width ∙ (ap (λ (m : Marking). m.width) c.in_ok-mark.ensures ∙ (ap (λ (m : Marking). m.width) c.in_ok-marks.ensures ∙ sym (ap (λ (m : Marking). m.width) c.in_ok-back.ensures))) in
    subst (λ w. (key : ℕ) → AllByRecursion (λ (t : Turn). t.from.state < w) (row_of kept key)) wide
    (left_states setting m.nodes m.width m.pairs kept are)

pub returns-clause-exact : goal.returns-clause-exact
returns-clause-exact g c =
    let m = c.settle.new.marks in
    let back = c.settle_back.new.marks in
    let kept = c.in_ok-kept.kept in
    let setting = c.args.p.now in
    let source = c.args.source in
    let target = c.args.target in
    let last = c.saturating_sub-last.result in
    let is_last : last ≡ setting.machine.states - 1 = c.saturating_sub-last.ensures ∙ ap (λ n. n - 1) c.states.ensures in
    let same : m.nodes ≡ back.nodes =
    c.in_ok-settle.ensures.nodes ∙ (ap (λ (m : Marking). m.nodes) c.in_ok-mark.ensures ∙ (ap (λ (m : Marking). m.nodes) c.in_ok-marks.ensures
    ∙ (sym (ap (λ (m : Marking). m.nodes) c.in_ok-back.ensures) ∙ sym c.in_ok-settle_back.ensures.nodes))) in
    let wide : m.width ≡ back.width =
    c.in_ok-settle.ensures.width ∙ (ap (λ (m : Marking). m.width) c.in_ok-mark.ensures ∙ (ap (λ (m : Marking). m.width) c.in_ok-marks.ensures
    ∙ (sym (ap (λ (m : Marking). m.width) c.in_ok-back.ensures) ∙ sym c.in_ok-settle_back.ensures.width))) in
    let numbered = subst (λ (m : Marking). AllByRecursion (IsNumbered m.nodes m.width) m.pairs) c.marks-2.view_is c.marks-2.invariant.marks.numbered in
    let exact : (key : ℕ) → row_of kept key ≡ at_key (λ t. t.number) key (turns setting m.nodes m.width m.pairs) =
    λ key. c.in_ok-kept.ensures key ∙ ap (at_key (λ (t : Turn). t.number) key) (c.deref.ensures.value ∙ c.in_ok-list.ensures.exact) in
    let all : AreAll (targets setting) back.nodes (pair source 0) m.pairs = subst (λ (ids : List ℕ). AreAll (targets setting) ids (pair source 0) m.pairs) same c.in_ok-settle.ensures.all in
    let are : AreKept setting back.nodes back.width m.pairs kept =
    subst (λ w. AreKept setting back.nodes w m.pairs kept) wide
    (subst (λ (ids : List ℕ). AreKept setting ids m.width m.pairs kept) same (kept_are setting m.nodes m.width source m.pairs kept c.in_ok-settle.ensures.all numbered exact)) in
    let graph : back.nodes ≡ c.nodes-nodes.result.now =
    c.in_ok-settle_back.ensures.nodes ∙ ap (λ (m : Marking). m.nodes) c.in_ok-back.ensures in
    let there : IsNumbered back.nodes back.width (pair target last) = record {
      node = ap (λ (ids : List ℕ). is_among ids target) (graph ∙ c.nodes-nodes.ensures.nodes) ∙ c.requires.target;
      state = omega (arith, is_last, c.width-width.ensures.states, c.width-width.ensures.some, c.in_ok-settle_back.ensures.width, ap (λ (m : Marking). m.width) c.in_ok-back.ensures);
    } in
    let those = subst (λ (m : Marking). AllByRecursion (IsNumbered m.nodes m.width) m.pairs) c.back.view_is c.back.invariant.marks.numbered in
    let found = steps_between setting back.nodes back.width source m.pairs kept all c.nodes-nodes.ensures.network c.requires.source target last back.pairs are there c.in_ok-settle_back.ensures.all those in
    subst (λ n. AreStepsBetween setting (pair source 0) (pair target n) c.has_pair-some.result c.in_ok-steps.steps.items) is_last
    (subst (λ (b : Bool). AreStepsBetween setting (pair source 0) (pair target last) b c.in_ok-steps.steps.items) (sym c.has_pair-some.ensures)
    (subst (λ (l : List Step). AreStepsBetween setting (pair source 0) (pair target last) (has_pair m.pairs (pair target last)) l) (sym c.in_ok-steps.ensures) found))
