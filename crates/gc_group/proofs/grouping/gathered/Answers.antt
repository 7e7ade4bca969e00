use Rattle.std.proofs.Common.{◌≡◌, [], ◌∷◌, sym, ap, ◌∙◌}
use Rattle.std.proofs.lemmas.List.{nil_from_length}
use Rattle.gc_group.proofs.Gathering.{gathered_left}
use Rattle.gc_group.proofs.grouping.gathered.Goals as goal

pub returns : goal.returns
returns c =
    let first : c.args.rows.items ≡ c.in-Some.first ∷ c.next.new.self.rest.items = sym c.into_iter-rows.ensures.rest ∙ c.in-Some.ensures.items in
    let rest = c.loop-row.row-iterator.rest in
    let ended : rest.items ≡ [] = nil_from_length rest.items (sym rest.ok.0 ∙ c.in-None.ensures.steps.0) in
    gathered_left c.args.rows.items c.next.new.self.rest.items c.into_iter-row-iterator.result.rest.items c.new-groups.result.items c.loop-row.groups.items rest.items c.push-2.new.self.items
    c.in-Some.first c.in_ok-last.last c.loop-row.last first (ap (λ i. i.rest.items) c.into_iter-row-iterator.ensures.into_iter_gives) c.new-groups.ensures.items ended c.in_ok-last.ensures
    c.loop-row.invariant c.in_ok-push-3.ensures.items c.requires
