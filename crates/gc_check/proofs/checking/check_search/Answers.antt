use Rattle.std.proofs.Common.{List, sym, ap, subst, ◌∙◌}
use Rattle.std.specs.List.{AllByRecursion, list_all}
use Rattle.gc_cert.specs.declared.document.Potential.{Potential}
use Rattle.gc_cert.specs.declared.document.WalkDoc.{WalkDoc}
use Rattle.gc_cert.specs.Acceptance.{AreListed, IsPassed, all_moves, is_covered, is_bounded, is_least}
use Rattle.gc_check.proofs.Refusals.{not_false, not_listed, not_free, not_covered, not_bounded, not_passed, not_least}
use Rattle.gc_check.proofs.checking.check_search.Goals as goal

pub returns-then-not-are_listed-clause-exact : goal.returns-then-not-are_listed-clause-exact
returns-then-not-are_listed-clause-exact g c =
    let p = c.args.p.now in
    not_listed c.args.s.now p (subst (λ (ps : List Potential). AreListed p ps → ⊥) c.as_slice-potentials.ensures c.if-not-are_listed.ensures.listed)

pub returns-then-not-begins_free-clause-exact : goal.returns-then-not-begins_free-clause-exact
returns-then-not-begins_free-clause-exact g c =
    let p = c.args.p.now in
    not_free c.args.s.now p
    (subst (AreListed p) c.as_slice-potentials.ensures c.if-not-are_listed.ensures.listed)
    (c.if-not-begins_free.ensures p c.requires)

pub returns-then-not-led-clause-exact : goal.returns-then-not-led-clause-exact
returns-then-not-led-clause-exact g c =
    let p = c.args.p.now in
    let same = c.as_slice-potentials.ensures in
    let covered = c.all_led-led.ensures.covered ∙ ap (λ (ps : List Potential). all_moves p (is_covered ps) ps) same in
    not_covered c.args.s.now p (subst (AreListed p) same c.if-not-are_listed.ensures.listed) (c.if-not-begins_free.ensures p c.requires)
    (λ h. let f = c.if-not-led.true in cc)

pub returns-then-not-led-2-clause-exact : goal.returns-then-not-led-2-clause-exact
returns-then-not-led-2-clause-exact g c =
    let p = c.args.p.now in
    let same = c.as_slice-potentials.ensures in
    let covered = c.all_led-led.ensures.covered ∙ ap (λ (ps : List Potential). all_moves p (is_covered ps) ps) same in
    let bounded = c.all_led-led.ensures.bounded ∙ ap (λ (ps : List Potential). all_moves p (is_bounded ps) ps) same in
    not_bounded c.args.s.now p (subst (AreListed p) same c.if-not-are_listed.ensures.listed) (c.if-not-begins_free.ensures p c.requires)
    (sym covered ∙ not_false _ c.if-not-led.false)
    (λ h. let f = c.if-not-led-2.true in cc)

pub returns-then-not-are_passed-clause-exact : goal.returns-then-not-are_passed-clause-exact
returns-then-not-are_passed-clause-exact g c =
    let p = c.args.p.now in
    let same = c.as_slice-potentials.ensures in
    let covered = c.all_led-led.ensures.covered ∙ ap (λ (ps : List Potential). all_moves p (is_covered ps) ps) same in
    let bounded = c.all_led-led.ensures.bounded ∙ ap (λ (ps : List Potential). all_moves p (is_bounded ps) ps) same in
    not_passed c.args.s.now p (subst (AreListed p) same c.if-not-are_listed.ensures.listed) (c.if-not-begins_free.ensures p c.requires)
    (sym covered ∙ not_false _ c.if-not-led.false)
    (sym bounded ∙ not_false _ c.if-not-led-2.false)
    (subst (λ (ws : List WalkDoc). AllByRecursion (IsPassed p c.args.s.now.start) ws → ⊥) c.as_slice.ensures c.if-not-are_passed.ensures)

pub returns-then-not-are_least-clause-exact : goal.returns-then-not-are_least-clause-exact
returns-then-not-are_least-clause-exact g c =
    let p = c.args.p.now in
    let same = c.as_slice-potentials.ensures in
    let covered = c.all_led-led.ensures.covered ∙ ap (λ (ps : List Potential). all_moves p (is_covered ps) ps) same in
    let bounded = c.all_led-led.ensures.bounded ∙ ap (λ (ps : List Potential). all_moves p (is_bounded ps) ps) same in
    let least = c.if-not-are_least.ensures ∙ (λ j. list_all (is_least p (same j)) (c.as_slice-3.ensures j)) in
    not_least c.args.s.now p (subst (AreListed p) same c.if-not-are_listed.ensures.listed) (c.if-not-begins_free.ensures p c.requires)
    (sym covered ∙ not_false _ c.if-not-led.false)
    (sym bounded ∙ not_false _ c.if-not-led-2.false)
    (subst (λ (ws : List WalkDoc). AllByRecursion (IsPassed p c.args.s.now.start) ws) c.as_slice.ensures c.if-not-are_passed.ensures)
    (λ h. cc)
