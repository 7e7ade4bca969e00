use Rattle.std.proofs.Common.{◌≡◌, ◌∷◌, [], ◌++◌, ◌∙◌, ℕ, true, ap, sym, subst, List, position, length, arith}
use Rattle.std.specs.List.{AllByRecursion}
use Rattle.gc_base.proofs.SetLaws.{AllByRecursion-append}
use Rattle.gc_spec.specs.PropertyGraph.{is_among}
use Rattle.gc_automata.specs.Moves.{Network, IsThere}
use Rattle.gc_prod.specs.declared.moves.Hop.{Hop}
use Rattle.gc_prod.specs.declared.preparing.Fan.{Fan}
use Rattle.gc_prod.specs.Groups.{row_of}
use Rattle.gc_prod.specs.Keys.{at_key}
use Rattle.gc_prod.specs.Places.{place_in}
use Rattle.gc_prod.specs.Preparing.{HasFan, HasTargets, is_fan_of}
use Rattle.gc_prod.proofs.BundleLaws.{hops_start}
use Rattle.gc_prod.proofs.FanLaws.{known_is, pushed_is}
use Rattle.gc_prod.proofs.preparing.fan_for.Goals as goal

pub returns-in-Some-clause-fan : goal.returns-in-Some-clause-fan
returns-in-Some-clause-fan g c =
    let transitions = c.args.automaton.now.transitions in
    let on = c.args.on.now in
    known_is (record { graph = c.args.graph.now; segments = c.args.segments.now }) transitions on c.args.fans.now.items c.in-Some.known
    (sym (ap (position (is_fan_of transitions on)) c.deref.ensures.value) ∙ sym c.in-Some.ensures) c.requires.fans

pub by_node-requires-clause-there : goal.by_node-requires-clause-there
by_node-requires-clause-there g c =
    let network : Network = record { graph = c.args.graph.now; segments = c.args.segments.now } in
    let all = subst (λ (hs : List Hop). AllByRecursion (λ h. IsThere network h.from) hs) (sym (c.deref-2.ensures.value ∙ c.in_ok-all.ensures.exact))
    (hops_start network c.requires.network c.args.on.now) in
    subst (λ (ids : List ℕ). AllByRecursion (λ (h : Hop). is_among ids h.from ≡ true) c.deref-2.result.now) (sym c.requires.nodes) all

pub returns-clause-fan : goal.returns-clause-fan
returns-clause-fan g c =
    let network : Network = record { graph = c.args.graph.now; segments = c.args.segments.now } in
    let transitions = c.args.automaton.now.transitions in
    let on = c.args.on.now in
    let before = c.args.fans.now.items in
    let counted : c.len-next.result ≡ length before = omega (arith, c.len-next.ensures, c.args.fans.now.ok) in
    subst (λ (fans : List Fan). HasFan network transitions on before fans c.len-next.result) (sym c.in_ok-push.ensures.items)
    (subst (λ n. HasFan network transitions on before (before ++ record { symbol = c.args.i; hops = c.in_ok-hops.hops; targets = c.in_ok-targets.targets } ∷ []) n) (sym counted)
    (pushed_is network transitions on before (record { symbol = c.args.i; hops = c.in_ok-hops.hops; targets = c.in_ok-targets.targets }) c.requires.symbol
    (λ node.
    ap (λ ids. row_of c.in_ok-hops.hops (place_in ids node)) (sym c.requires.nodes)
    ∙ (c.in_ok-hops.ensures node ∙ ap (λ (hs : List Hop). at_key (λ h. h.from) node hs) (c.deref-2.ensures.value ∙ c.in_ok-all.ensures.exact))) c.requires.fans))

pub returns-clause-targets : goal.returns-clause-targets
returns-clause-targets g c =
    let nodes = c.args.nodes.now in
    let fan : Fan = record { symbol = c.args.i; hops = c.in_ok-hops.hops; targets = c.in_ok-targets.targets } in
    subst (λ (fans : List Fan). AllByRecursion (HasTargets nodes) fans) (sym c.in_ok-push.ensures.items)
    (AllByRecursion-append (HasTargets nodes) c.args.fans.now.items (fan ∷ []) c.requires.targets (c.in_ok-targets.ensures, tt))
