use Rattle.std.proofs.Common.{◌≡◌, ◌-◌, ◌∙◌, ap, subst, arith, Some, Ordering}
use Rattle.std.specs.List.{slice_get}
use Rattle.std.specs.Ordering.{nat_cmp, ordering_then}
use Rattle.std.specs.Cmp.Lexicographic.{slice_cmp}
use Rattle.gc_search.specs.declared.tail.Tail.{Tail}
use Rattle.gc_search.specs.Links.{Walks}
use Rattle.gc_search.specs.Tails.{edges_by, tail_edges}
use Rattle.gc_search.proofs.TailLaws.{tail_push, order_push}
use Rattle.gc_search.proofs.comparing.passed_one.Goals as goal

pub returns-clause-order : goal.returns-clause-order
returns-clause-order c =
    let setting = c.args.tree.now.setting in
    let walks = c.args.tree.now.walks in
    let one = c.args.c.one in
    let other = c.args.c.other in
    let i = one.left - 1 in
    let j = other.left - 1 in
    let a = c.edge_at.result in
    let b = c.edge_at-2.result in
    let first = subst (λ (t : Walks). slice_get (edges_by t.setting one.by) i ≡ Some a) c.tree.view_is c.edge_at.ensures in
    let second = subst (λ (t : Walks). slice_get (edges_by t.setting other.by) j ≡ Some b) c.tree.view_is c.edge_at-2.ensures in
    let left : Tail = record { before = one.before; by = one.by; left = i } in
    let right : Tail = record { before = other.before; by = other.by; left = j } in
    let passed = c.args.c.passed in
    let order = ordering_then (slice_cmp nat_cmp (tail_edges setting walks left) (tail_edges setting walks right)) in
    ap (λ (o : Ordering). order o) (c.then.ensures ∙ ap (λ (o : Ordering). ordering_then o passed) c.cmp-last.ensures)
    ∙ order_push (tail_edges setting walks one) (tail_edges setting walks other) (tail_edges setting walks left) (tail_edges setting walks right) a b passed
    (tail_push setting walks one i a (omega (arith, c.requires.one)) first) (tail_push setting walks other j b (omega (arith, c.requires.other)) second) c.requires.level.same
