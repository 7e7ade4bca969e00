-- What is read of rows, and of what a search found.
use Rattle.std.specs.Prelude.{ℕ, List, [], ◌∷◌, Option, Some, None, slice_get}
use Rattle.std.specs.List.{filter, flat_map, range_with_len}
use Rattle.std.specs.Option.{option_map, option_to_list}
use Rattle.gc_base.specs.Walks.{end_of}
use Rattle.gc_base.specs.declared.place.Sym.{Sym}
use Rattle.gc_spec.specs.PropertyGraph.{PropertyGraph, is_among, node_ids}
use Rattle.gc_rows.specs.Rows.{datum_at}
use Rattle.gc_rows.specs.declared.datum.Datum.{Datum}
use Rattle.gc_rows.specs.declared.datum.Datum.TheVariants as datum
use Rattle.gc_rows.specs.declared.row.Binding.{Binding}
use Rattle.gc_prod.specs.Leading.{pair}
use Rattle.gc_search.specs.Arrivals.{FoundWalk}
use Rattle.gc_search.specs.Finding.{Finding, arrivals_to, potential_of}
use Rattle.gc_cert.specs.declared.document.Potential.{Potential}
use Rattle.gc_cert.specs.declared.document.WalkDoc.{WalkDoc}
use Rattle.gc_cert_searches.specs.declared.ends.WalkEnds.{WalkEnds}

-- the ends of a walk that a datum is
abbrev pub ends_if : Option Datum → Option WalkEnds
ends_if None = None
ends_if (Some (datum.Found w)) = Some (record { start = w.start; target = end_of w })
ends_if (Some d) = None

-- the ends of the walks that rows bind to a variable
abbrev pub ends_in : Sym → List (List Binding) → List WalkEnds
ends_in p rows = flat_map (λ row. option_to_list (ends_if (datum_at row p))) rows

-- those of some ends that start at a node of a graph
abbrev pub ends_on : PropertyGraph → List WalkEnds → List WalkEnds
ends_on g ends = filter (λ e. is_among (node_ids g.nodes) e.start) ends

-- the potential of a node and a state, if a run reaches them
abbrev pub potential_if : (node state : ℕ) → Option ℕ → List Potential
potential_if node state None = []
potential_if node state (Some cost) = record { node = node; state = state; cost = cost } ∷ []

-- those of a node and of so many states
abbrev pub potentials_at : Finding → (states node : ℕ) → List Potential
potentials_at found states node = flat_map (λ state. potential_if node state (potential_of found (pair node state))) (range_with_len 0 states)

-- those of some nodes
abbrev pub potentials_in : Finding → (states : ℕ) → List ℕ → List Potential
potentials_in found states nodes = flat_map (potentials_at found states) nodes

-- a walk that arrives, as a document has it
abbrev pub doc_of : Finding → FoundWalk → WalkDoc
doc_of found a = record { cost = a.cost; run = a.run; walk = record { start = found.source; steps = a.steps } }

-- the first walk that is found to a node, if one is, and the first ones to each of some nodes
abbrev pub first_doc : Finding → ℕ → Option WalkDoc
first_doc found target = option_map (doc_of found) (slice_get (arrivals_to found target) 0)

abbrev pub first_docs : Finding → List ℕ → List WalkDoc
first_docs found targets = flat_map (λ target. option_to_list (first_doc found target)) targets
