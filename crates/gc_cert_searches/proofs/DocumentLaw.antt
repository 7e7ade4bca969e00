-- What a search tells, as a document.
use Rattle.std.proofs.Common.{◌≡◌, ℕ, ◌-◌, true, List, map, Some, sym, ap, ◌∙◌, subst, ◌<◌, ◌^◌}
use Rattle.std.specs.List.{AllByRecursion, list_all}
use Rattle.std.specs.Ordering.{nat_cmp}
use Rattle.gc_base.proofs.Search.{AllByRecursion-weaker}
use Rattle.gc_base.specs.Ascending.{Ascends}
use Rattle.gc_base.specs.Walks.{end_of}
use Rattle.gc_spec.specs.PropertyGraph.{node_ids}
use Rattle.gc_automata.specs.Conformance.{Conforms}
use Rattle.gc_automata.specs.Machines.{IsAutomatonOf}
use Rattle.gc_automata.specs.Moves.{IsNetwork, IsThere}
use Rattle.gc_regx.specs.Expressions.{HasParts}
use Rattle.gc_regx.specs.Trees.{RegexTree, ARegex}
use Rattle.gc_regx.specs.Views.{regex_tree}
use Rattle.gc_prod.specs.declared.moves.Pair.{Pair}
use Rattle.gc_prod.specs.Leading.{pair}
use Rattle.gc_prod.specs.Products.{Setting}
use Rattle.gc_search.specs.Finding.{Finding, IsFollowed, IsPotential, potential_of, walks_to}
use Rattle.gc_search.specs.FirstWalks as searched
use Rattle.gc_cert.specs.declared.document.Potential.{Potential}
use Rattle.gc_cert.specs.declared.document.SearchDoc.{SearchDoc}
use Rattle.gc_cert.specs.declared.document.WalkDoc.{WalkDoc}
use Rattle.gc_cert.specs.Acceptance.{Accepts, AreBounded, AreCovered, AreListed, IsPassed, is_least, network_of}
use Rattle.gc_cert.specs.Potentials as cert
use Rattle.gc_cert.specs.Potentials.{potential_order}
use Rattle.gc_cert_searches.specs.Found.{HasWalk, IsDocFrom, IsFirst}
use Rattle.gc_cert_searches.specs.Readings.{first_docs, potentials_in}
use Rattle.gc_cert_searches.specs.Searches.{AreThose, IsReachedAt, IsTold}
use Rattle.gc_cert_searches.proofs.Accepting.{are_bounded, are_covered, are_listed, begins_free, walks_least}
use Rattle.gc_cert_searches.proofs.FirstDocs.{all_ends, all_good}
use Rattle.gc_cert_searches.proofs.Lowness.{low_docs, low_listed}
use Rattle.gc_cert_searches.proofs.Listing.{least_of, those}

module _ (setting : Setting) (law : IsNetwork setting.network) (tree : RegexTree ARegex) (parts : HasParts tree) (is : IsAutomatonOf tree setting.machine)
    (source : ℕ) (begins : IsThere setting.network source) (found : Finding)
    (first : (target : ℕ) → searched.AreFirst (Conforms setting.network tree) source target 1 (walks_to found target))
    (passed : AllByRecursion (IsFollowed setting source) found.walks) (exact : (q : Pair) → IsPotential setting source q (potential_of found q))
    (last : found.last ≡ setting.machine.states - 1) (small : AllByRecursion (λ a. a.cost < 2 ^ 127) found.walks) (ids : List ℕ) (ids_are : ids ≡ node_ids setting.network.graph.nodes) (up : Ascends nat_cmp ids)
    (targets : List ℕ) where
  abbrev listed : List Potential
  listed = potentials_in found setting.machine.states ids

  abbrev walks : List WalkDoc
  walks = first_docs found targets

  known : AreThose potential_order (IsReachedAt setting source) listed
  known = those setting law tree parts is source begins found exact ids ids_are up

  module _ (d : SearchDoc) (expression : regex_tree d.expression ≡ tree) (network : setting.network ≡ network_of d) (start : d.start ≡ source)
      (potentials_are : d.potentials ≡ listed) (walks_are : d.walks ≡ walks) where
    accepted : Accepts d setting
    accepted =
        let least = least_of setting law tree parts is source begins found exact in
        let good = all_good setting tree source found first passed exact last targets in
        record {
          listed = subst (AreListed setting) (sym potentials_are) (are_listed setting law tree parts is source begins listed known least);
          begins = record {
            there = subst (IsThere setting.network) (sym start) begins;
            free =
                subst (λ s. cert.potential_of d.potentials (pair s 0) ≡ Some 0) (sym start)
                (subst (λ (ps : List Potential). cert.potential_of ps (pair source 0) ≡ Some 0) (sym potentials_are) (begins_free setting law tree parts is source begins listed known least));
          };
          covered = subst (AreCovered setting) (sym potentials_are) (are_covered setting law tree parts is source begins listed known least);
          bounded = subst (AreBounded setting) (sym potentials_are) (are_bounded setting law tree parts is source begins listed known least);
          passed =
              subst (λ s. AllByRecursion (IsPassed setting s) d.walks) (sym start)
              (subst (AllByRecursion (IsPassed setting source)) (sym walks_are) (AllByRecursion-weaker _ _ (λ (w : WalkDoc) (t : IsTold setting tree source w). t.run) walks good.told));
          least =
              subst (λ (ws : List WalkDoc). list_all (is_least setting d.potentials) ws ≡ true) (sym walks_are)
              (subst (λ (ps : List Potential). list_all (is_least setting ps) walks ≡ true) (sym potentials_are)
              (walks_least setting law tree parts is source begins listed known least walks good.told good.least));
        }

    pub doc_from : IsDocFrom setting tree source targets d
    doc_from =
        let good = all_good setting tree source found first passed exact last targets in
        record {
          expression = expression;
          network = network;
          start = start;
          potentials = subst (AreThose potential_order (IsReachedAt setting source)) (sym potentials_are) known;
          ends = λ (has : AllByRecursion (HasWalk setting.network tree source) targets).
              ap (map (λ (w : WalkDoc). end_of w.walk)) walks_are ∙ all_ends setting tree source found first passed exact last targets has;
          told = subst (AllByRecursion (IsTold setting tree source)) (sym walks_are) good.told;
          first = subst (AllByRecursion (λ (w : WalkDoc). IsFirst setting.network tree w.walk)) (sym walks_are) good.firsts;
          accepts = accepted;
          low = record {
            potentials = subst (AllByRecursion (λ (q : Potential). q.cost < 2 ^ 127)) (sym potentials_are) (low_listed found small setting.machine.states ids);
            walks = subst (AllByRecursion (λ (w : WalkDoc). w.cost < 2 ^ 127)) (sym walks_are) (low_docs found small targets);
          };
        }
