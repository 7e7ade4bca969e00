-- What is read of a search whose costs are low has low costs.
use Rattle.std.proofs.Common.{ℕ, ◌<◌, ◌^◌, List, [], ◌∷◌, slice_get}
use Rattle.std.specs.List.{AllByRecursion, range_with_len}
use Rattle.std.specs.Option.{option_map, option_to_list}
use Rattle.gc_base.proofs.SetLaws.{AllByRecursion-filter}
use Rattle.gc_rows.proofs.Members.{AllByRecursion-flat_map, each_member}
use Rattle.gc_prod.specs.declared.moves.Pair.{Pair}
use Rattle.gc_prod.specs.Leading.{pair}
use Rattle.gc_search.specs.Arrivals.{FoundWalk, arrivals_at, same_pair}
use Rattle.gc_search.specs.Finding.{Finding, arrivals_to, potential_of}
use Rattle.gc_cert.specs.declared.document.Potential.{Potential}
use Rattle.gc_cert.specs.declared.document.WalkDoc.{WalkDoc}
use Rattle.gc_cert_searches.specs.Readings.{doc_of, first_doc, first_docs, potential_if, potentials_at, potentials_in}

module _ (found : Finding) (small : AllByRecursion (λ a. a.cost < 2 ^ 127) found.walks) where
  low_at : (q : Pair) → AllByRecursion (λ (a : FoundWalk). a.cost < 2 ^ 127) (arrivals_at found.walks q)
  low_at q = AllByRecursion-filter (λ (a : FoundWalk). a.cost < 2 ^ 127) (λ (a : FoundWalk). same_pair a.at q) found.walks small

  low_if : (node state : ℕ) (arrivals : List FoundWalk) → AllByRecursion (λ (a : FoundWalk). a.cost < 2 ^ 127) arrivals
      → AllByRecursion (λ (q : Potential). q.cost < 2 ^ 127) (potential_if node state (option_map (λ (a : FoundWalk). a.cost) (slice_get arrivals 0)))
  low_if node state [] h = tt
  low_if node state (a ∷ arrivals) h = (h.0, tt)

  pub low_listed : (states : ℕ) (nodes : List ℕ) → AllByRecursion (λ (q : Potential). q.cost < 2 ^ 127) (potentials_in found states nodes)
  low_listed states nodes =
      AllByRecursion-flat_map (λ (q : Potential). q.cost < 2 ^ 127) (potentials_at found states) nodes (each_member _ nodes (λ node m.
      AllByRecursion-flat_map (λ (q : Potential). q.cost < 2 ^ 127) (λ state. potential_if node state (potential_of found (pair node state))) (range_with_len 0 states)
      (each_member _ (range_with_len 0 states) (λ state n. low_if node state (arrivals_at found.walks (pair node state)) (low_at (pair node state))))))

  low_first : (arrivals : List FoundWalk) → AllByRecursion (λ (a : FoundWalk). a.cost < 2 ^ 127) arrivals
      → AllByRecursion (λ (w : WalkDoc). w.cost < 2 ^ 127) (option_to_list (option_map (doc_of found) (slice_get arrivals 0)))
  low_first [] h = tt
  low_first (a ∷ arrivals) h = (h.0, tt)

  pub low_docs : (targets : List ℕ) → AllByRecursion (λ (w : WalkDoc). w.cost < 2 ^ 127) (first_docs found targets)
  low_docs targets =
      AllByRecursion-flat_map (λ (w : WalkDoc). w.cost < 2 ^ 127) (λ target. option_to_list (first_doc found target)) targets
      (each_member _ targets (λ target m. low_first (arrivals_to found target) (low_at (pair target found.last))))
