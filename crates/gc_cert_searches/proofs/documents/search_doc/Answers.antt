use Rattle.std.proofs.Common.{◌≡◌, ℕ, List, refl, sym, ap, ◌∙◌, subst}
use Rattle.std.specs.Ordering.{nat_cmp}
use Rattle.gc_base.specs.Ascending.{Ascends}
use Rattle.gc_regx.specs.Views.{regex_tree}
use Rattle.gc_cert_searches.specs.Readings.{potentials_in}
use Rattle.gc_cert_searches.proofs.DocumentLaw.{doc_from}
use Rattle.gc_cert_searches.proofs.documents.search_doc.Goals as goal

pub returns : goal.returns
returns g c =
    let asked = c.requires.asked in
    let setting = c.args.asked.now.product.now in
    let tree = c.args.asked.now.expression.now in
    let found = c.in_ok-found.ensures in
    let ids : List ℕ = c.nodes.result.now in
    let listed : c.in_ok-potentials.potentials ≡ potentials_in c.in_ok-found.found setting.machine.states ids =
    c.in_ok-potentials.ensures ∙ ap (λ n. potentials_in c.in_ok-found.found n ids) c.states.ensures in
    let copied : regex_tree c.in_ok-copy.field-0 ≡ regex_tree c.expression.inside.0 = c.in_ok-copy.ensures in
    doc_from setting c.nodes.ensures.network tree asked.parts asked.automaton c.args.source c.requires.source c.in_ok-found.found (found.conform tree asked.parts asked.automaton) found.passed
    found.potentials found.last found.low ids c.nodes.ensures.nodes (subst (Ascends nat_cmp) (sym c.nodes.ensures.nodes) c.nodes.ensures.ascend) c.args.targets.now _ (copied ∙ c.expression.view_is)
    (asked.network ∙ (λ j. record { graph = sym c.in_ok-copy-2.ensures.same j; segments = sym c.in_ok-copy-3.ensures j })) refl (c.potentials.view_is ∙ listed) c.in_ok-walks.ensures
