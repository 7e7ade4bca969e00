use Rattle.std.proofs.Common.{◌≡◌, Bool, true, false, ◌&&◌, nat_lt, List, MatchBool, refl, sym, ◌∙◌, arith}
use Rattle.std.specs.List.{list_all}
use Rattle.std.proofs.lemmas.Bool.Decides.{nat_tests}
use Rattle.gc_base.specs.Ascending.{Ascends}
use Rattle.gc_spec.specs.PropertyGraph.{is_among, node_ids}
use Rattle.gc_prod.specs.Products.{Setting}
use Rattle.gc_cert.specs.declared.document.Potential.{Potential}
use Rattle.gc_cert.specs.Acceptance.{AreListed, IsPotential}
use Rattle.gc_cert.specs.Potentials.{potential_order}
use Rattle.gc_check.specs.Listings.{is_listed}
use Rattle.gc_check.proofs.Tested.{tested_all, all_tested}
use Rattle.gc_check.proofs.listing.are_listed.Goals as goal

module _ (setting : Setting) where
  abbrev is_so : Potential → Bool
  is_so = is_listed (node_ids setting.network.graph.nodes) setting.machine.states

  listed : (q : Potential) → is_so q ≡ true → IsPotential setting q
  listed q h = split (nat_lt q.state setting.machine.states) refl h
    where
      split : (b : Bool) → nat_lt q.state setting.machine.states ≡ b
          → (b && is_among (node_ids setting.network.graph.nodes) q.node) ≡ true → IsPotential setting q
      split true e k = record { there = k; below = grind (arith, nat_tests) }
      split false e k = cc

  is_listed_so : (q : Potential) → IsPotential setting q → is_so q ≡ true
  is_listed_so q h = let e : nat_lt q.state setting.machine.states ≡ true = let l = h.below in grind (arith, nat_tests) in rw e h.there

  told : (potentials : List Potential) (b : Bool) → b ≡ list_all is_so potentials → Ascends potential_order potentials
      → MatchBool b (AreListed setting potentials) (AreListed setting potentials → ⊥)
  told potentials true is up = record { ascend = up; each = tested_all is_so (IsPotential setting) listed potentials (sym is) }
  told potentials false is up = λ h. let e = all_tested is_so (IsPotential setting) is_listed_so potentials h.each in cc

pub returns-then-ascend : goal.returns-then-ascend
returns-then-ascend g c = record {
  listed =
      told c.args.p.now c.args.potentials.now c.are_pairs.result
      (c.are_pairs.ensures
      ∙ (λ j. list_all (is_listed (node_ids (sym c.requires j).nodes) (c.states.ensures j)) c.args.potentials.now)) c.if-ascend.ensures;
}
