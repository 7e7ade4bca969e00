-- The nodes and edges of the walks that a CONSTRUCT stores or projects.
use Rattle.std.specs.Prelude.{ℕ, ◌+◌, Bool, true, false, ◌&&◌, ◌||◌, List, [], ◌∷◌, ◌++◌, map, fold, Option, Some, None, if◌then◌else◌}
use Rattle.std.specs.List.{filter, flat_map, list_any}
use Rattle.std.specs.Option.{option_to_list}
use Rattle.gc_base.specs.Walks.{edges_of}
use Rattle.gc_base.specs.declared.place.Sym.{Sym}
use Rattle.gc_base.specs.declared.walk.Walk.{Walk}
use Rattle.gc_build_numbers.specs.Settings.{Setting}
use Rattle.gc_ppg.specs.declared.shape.Kind.{Kind}
use Rattle.gc_ppg.specs.declared.shape.Kind.TheVariants as kind
use Rattle.gc_build_recipe.specs.declared.variable.Variable.{Variable}
use Rattle.gc_rows.specs.Rows.{datum_at, lists}
use Rattle.gc_rows.specs.declared.row.Binding.{Binding}
use Rattle.gc_spec.specs.PropertyGraph.{PropertyGraph, Node, Edge, is_among}
use Rattle.gc_values.specs.Contexts.{own_among, walk_among}
use Rattle.gc_values.specs.PathParts.{nodes_along, walk_in}
use Rattle.gc_build.specs.Kept.{Kept, is_kept}
use Rattle.gc_build.specs.Makings.{Making}
use Rattle.gc_build.specs.declared.all_paths.AllParts.{AllParts}

-- the graph in which a variable is read, and the one in which the elements on its walk are
abbrev pub read_graph : Setting → Sym → Option PropertyGraph
read_graph s x = own_among s.reads s.graphs x

abbrev pub along_graph : Setting → Sym → Option PropertyGraph
along_graph s x = walk_among s.reads s.graphs x

-- the paths of which a CONSTRUCT has the walks: those that its chains project, and those that are variables of it; each once
abbrev pub is_path : Kind → Bool
is_path kind.Path = true
is_path k = false

abbrev pub with_path : List Sym → Sym → List Sym
with_path paths p = if lists paths p then paths else paths ++ p ∷ []

abbrev pub walked : List Kept → List Variable → List Sym
walked kept variables = fold with_path [] (flat_map (λ k. k.projected) kept ++ map (λ v. v.var) (filter (λ v. is_path v.kind) variables))

-- whether a kept instance on the row at a place has the walk of a path
abbrev pub has_walk : List Kept → Sym → (place : ℕ) → Bool
has_walk kept p place = list_any (λ k. (lists k.places p || lists k.projected p) && is_kept place k) kept

-- the walks of a path in kept instances on rows, the first of which has this place
abbrev pub walk_if : Making → Sym → Bool → List Binding → List Walk
walk_if m p false row = []
walk_if m p true row = option_to_list (walk_in (read_graph m.setting p) (datum_at row p))

abbrev pub walks_from : Making → List Kept → Sym → (place : ℕ) → List (List Binding) → List Walk
walks_from m kept p place [] = []
walks_from m kept p place (row ∷ rows) = walk_if m p (has_walk kept p place) row ++ walks_from m kept p (place + 1) rows

abbrev pub walks_of : Making → List Kept → Sym → List Walk
walks_of m kept p = walks_from m kept p 0 m.setting.rows

-- what a graph has of some identities
abbrev pub of_ids : {X : Type 0} → (X → ℕ) → (PropertyGraph → List X) → List ℕ → Option PropertyGraph → List X
of_ids id_of all ids None = []
of_ids id_of all ids (Some g) = filter (λ x. is_among ids (id_of x)) (all g)

-- the nodes and the edges on the walks of a path in kept instances, and those on the walks that it stands for there as an ALL path, as
-- the path's graph has them
abbrev pub walk_nodes : Making → List Kept → AllParts → List Node
walk_nodes m kept parts =
    of_ids (λ n. n.id) (λ g. g.nodes) (flat_map nodes_along (walks_of m kept parts.path) ++ parts.nodes) (along_graph m.setting parts.path)

abbrev pub walk_edges : Making → List Kept → AllParts → List Edge
walk_edges m kept parts =
    of_ids (λ e. e.id) (λ g. g.edges) (flat_map edges_of (walks_of m kept parts.path) ++ parts.edges) (along_graph m.setting parts.path)
