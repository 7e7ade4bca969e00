-- What the kept instances of a CONSTRUCT claim.
use Rattle.std.specs.Prelude.{◌≡◌, ℕ, Bool, true, false, map, List, [], ◌∷◌, ◌++◌, Option, Some, None, slice_get, if◌then◌else◌}
use Rattle.std.specs.List.{flat_map}
use Rattle.std.specs.Option.{option_map, option_and_then, unwrap_or}
use Rattle.gc_base.specs.declared.place.Sym.{Sym}
use Rattle.gc_base.specs.declared.walk.Walk.{Walk}
use Rattle.gc_build_descriptions.specs.Faults.{elements_of}
use Rattle.gc_build_numbers.specs.Settings.{Setting}
use Rattle.gc_build_numbers.specs.declared.numbered.Element.{Element}
use Rattle.gc_ppg.specs.declared.shape.Kind.{Kind}
use Rattle.gc_ppg.specs.declared.shape.Kind.TheVariants as kind
use Rattle.gc_build_recipe.specs.Recipes.{Chain}
use Rattle.gc_build_recipe.specs.declared.variable.Grouping.{Grouping}
use Rattle.gc_build_recipe.specs.declared.variable.Grouping.TheVariants as by
use Rattle.gc_build_recipe.specs.declared.variable.Variable.{Variable}
use Rattle.gc_group.specs.declared.key.Key.{Key}
use Rattle.gc_rows.specs.declared.datum.Datum.{Datum}
use Rattle.gc_rows.specs.declared.datum.Datum.TheVariants as datum
use Rattle.gc_spec.specs.PropertyGraph.{PropertyGraph, Node, Edge, Path, edge_at}
use Rattle.gc_sets.specs.Claims.{Claims}
use Rattle.gc_values.specs.Descriptions.{Description}
use Rattle.gc_values.specs.PathParts.{stored_walk}
use Rattle.gc_build.specs.declared.elements.Claims.{Claims as Given}
use Rattle.gc_build.specs.AllPaths.{AreAllParts, Patterns}
use Rattle.gc_build.specs.declared.all_paths.AllParts.{AllParts}
use Rattle.gc_build.specs.Kept.{Kept, is_claimed, kept_of}
use Rattle.gc_build.specs.Makings.{Making, descriptions_of, identity_at, identity_by}
use Rattle.gc_build.specs.Walks.{read_graph, walk_edges, walk_nodes}

-- what a claim says of each kind of element
abbrev pub node_claim : ℕ → Description → Node
node_claim id d = record { id = id; labels = d.labels; properties = d.properties }

-- the ends of an edge
pub record Ends : Type 0 where
  pub from : ℕ
  pub to : ℕ

-- those of an edge of a graph
abbrev pub along_edge : Edge → Ends
along_edge e = record { from = e.from; to = e.to }

abbrev pub both_ends : Option ℕ → Option ℕ → Option Ends
both_ends (Some from) (Some to) = Some (record { from = from; to = to })
both_ends from to = None

-- a bound edge has the ends that its graph tells; a new one has the elements that a row of its group makes of the variables at its ends
abbrev pub ends_by : Making → Sym → Grouping → Element → Option Ends
ends_by m x by.Bound e = option_map along_edge (option_and_then (λ g. edge_at g.edges e.number) (read_graph m.setting x))
ends_by m x (by.Link source target terms) e =
    both_ends (identity_at m source (unwrap_or (slice_get e.group.rows 0) 0)) (identity_at m target (unwrap_or (slice_get e.group.rows 0) 0))
ends_by m x grouping e = None

abbrev pub edge_claim : ℕ → Description → Option Ends → List Edge
edge_claim id d None = []
edge_claim id d (Some ends) = record { id = id; from = ends.from; to = ends.to; labels = d.labels; properties = d.properties } ∷ []

-- a stored path has the walk that its graph tells, and a new one that by which its rows are grouped
abbrev pub found_walk : Datum → Option Walk
found_walk (datum.Found walk) = Some walk
found_walk d = None

abbrev pub key_walk : Key → Option Walk
key_walk key = option_and_then found_walk (option_and_then (λ part. part) (slice_get key.parts 0))

abbrev pub walk_by : Setting → Sym → Grouping → Element → Option Walk
walk_by s x by.Bound e = stored_walk (read_graph s x) e.number
walk_by s x by.Walk e = key_walk e.group.key
walk_by s x grouping e = None

abbrev pub path_claim : ℕ → Description → Option Walk → List Path
path_claim id d None = []
path_claim id d (Some walk) = record { id = id; walk = walk; labels = d.labels; properties = d.properties } ∷ []

-- what is claimed for an element of a variable of each kind
abbrev pub node_claims : Making → Variable → Element → Description → List Node
node_claims m v e d = node_claim (identity_by m.next v.grouping e.number) d ∷ []

abbrev pub edge_claims : Making → Variable → Element → Description → List Edge
edge_claims m v e d = edge_claim (identity_by m.next v.grouping e.number) d (ends_by m v.var v.grouping e)

abbrev pub path_claims : Making → Variable → Element → Description → List Path
path_claims m v e d = path_claim (identity_by m.next v.grouping e.number) d (walk_by m.setting v.var v.grouping e)

-- what is claimed for those of a variable's elements that kept instances have
abbrev pub claims_of : {X : Type 0} → List Kept → Sym → (Element → Description → List X) → List Element → List Description → List X
claims_of kept x claim (e ∷ elements) (d ∷ descriptions) =
    (if is_claimed kept x e then claim e d else []) ++ claims_of kept x claim elements descriptions
claims_of kept x claim elements descriptions = []

-- the same for a variable, where it is of a kind
abbrev pub same_kind : Kind → Kind → Bool
same_kind kind.Node kind.Node = true
same_kind kind.Edge kind.Edge = true
same_kind kind.Path kind.Path = true
same_kind a b = false

abbrev pub claims_for : {X : Type 0} → Making → List Kept → Kind → (Variable → Element → Description → List X) → Variable → List X
claims_for m kept k claim v =
    if same_kind v.kind k then claims_of kept v.var (claim v) (elements_of m.numbered v.var) (descriptions_of m.described v.var) else []

-- what the graphs that are items have
abbrev pub in_graph : {X : Type 0} → (PropertyGraph → List X) → Option PropertyGraph → List X
in_graph all None = []
in_graph all (Some g) = all g

abbrev pub in_items : {X : Type 0} → List PropertyGraph → List ℕ → (PropertyGraph → List X) → List X
in_items graphs numbers all = flat_map (λ number. in_graph all (slice_get graphs number)) numbers

-- all that is claimed, given what lies on the walks of ALL paths: the elements of kept instances, the nodes and edges of their walks, and
-- the graphs that are items
abbrev pub claims_with : Making → List Kept → List AllParts → (graphs : List ℕ) → Claims
claims_with m kept parts graphs = record {
  nodes =
      flat_map (claims_for m kept kind.Node (node_claims m)) m.variables ++ flat_map (walk_nodes m kept) parts ++ in_items m.setting.graphs graphs (λ g. g.nodes);
  edges =
      flat_map (claims_for m kept kind.Edge (edge_claims m)) m.variables ++ flat_map (walk_edges m kept) parts ++ in_items m.setting.graphs graphs (λ g. g.edges);
  paths = flat_map (claims_for m kept kind.Path (path_claims m)) m.variables ++ in_items m.setting.graphs graphs (λ g. g.paths);
}

abbrev pub all_claims : Making → List AllParts → List Chain → (graphs : List ℕ) → Claims
all_claims m parts chains graphs = claims_with m (map (kept_of m) chains) parts graphs

-- what is claimed, with exactly what lies on the walks of ALL paths by the patterns of the MATCH
pub record AreClaims (ps : Patterns) (m : Making) (chains : List Chain) (graphs : List ℕ) (c : Claims) : Type 0 where
  pub parts : List AllParts
  pub exact : AreAllParts ps m (map (kept_of m) chains) parts
  pub are : c ≡ all_claims m parts chains graphs

-- claims as they are given
abbrev pub seen : Given → Claims
seen c = record { nodes = c.nodes.items; edges = c.edges.items; paths = c.paths.items }
