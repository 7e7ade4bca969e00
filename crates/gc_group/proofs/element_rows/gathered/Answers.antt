use Rattle.std.proofs.Common.{◌≡◌, ◌∷◌, ◌++◌, [], ◌≤◌, length, map, take, subst, sym, ap, ◌∙◌, rules, arith}
use Rattle.std.specs.List.{prefix_len}
use Rattle.std.proofs.lemmas.List.Sums.{prefix_len-le-length}
use Rattle.gc_group.specs.declared.grouping.Group.{Group}
use Rattle.gc_group.proofs.Gathering.{gathered_list, gathered_turn, gathered_whole, shorter, tie}
use Rattle.gc_group.proofs.element_rows.gathered.Goals as goal

pub split_at-requires : goal.split_at-requires
split_at-requires g c = subst (λ n. n ≤ length c.loop-first.left.now) (sym c.run_length.ensures) (prefix_len-le-length _ c.loop-first.left.now)

pub loop-first-smaller : goal.loop-first-smaller
loop-first-smaller g c =
    let left = c.loop-first.left.now in
    let begun : left ≡ c.in-Some.first.now ∷ c.in-Some._rest.now = search rules in
    let same : g.K.OfElements.key_of c.first.inside.key ≡ c.in-Some.first.now.key = ap (λ r. r.key) c.first.view_is in
    let some : 1 ≤ c.run_length.result =
    shorter left c.in-Some.first.now c.in-Some._rest.now c.run_length.result begun (c.run_length.ensures ∙ ap (λ k. prefix_len (tie k) left) same) in
    let whole = c.split_at.ensures.back_len in
    omega (arith, some, whole)

pub loop-first-preserved : goal.loop-first-preserved
loop-first-preserved g c =
    let left = c.loop-first.left.now in
    let n = c.run_length.result in
    let done = c.loop-first.groups.items in
    let next = c.push.new.self.items in
    let begun : left ≡ c.in-Some.first.now ∷ c.in-Some._rest.now = search rules in
    let same : g.K.OfElements.key_of c.first.inside.key ≡ c.in-Some.first.now.key = ap (λ r. r.key) c.first.view_is in
    let made : Group = c.in_ok-group_of.field-0 in
    let is : made ≡ record { key = c.in-Some.first.now.key; rows = map (λ r. r.row) (take n left) } =
    c.in_ok-group_of.ensures ∙ (λ i. record { key = same i; rows = map (λ r. r.row) (c.split_at.ensures.front i) }) in
    ap (λ xs. next ++ gathered_list xs) c.split_at.ensures.back
    ∙ gathered_turn left c.in-Some.first.now c.in-Some._rest.now done next (gathered_list c.args.rows.now) made n begun
    (c.run_length.ensures ∙ ap (λ k. prefix_len (tie k) left) same) is c.in_ok-push.ensures.items c.loop-first.invariant

pub returns : goal.returns
returns g c =
    let ended : c.loop-first.left.now ≡ [] = search rules in
    gathered_whole c.args.rows.now c.loop-first.left.now c.loop-first.groups.items c.requires ended c.loop-first.invariant
