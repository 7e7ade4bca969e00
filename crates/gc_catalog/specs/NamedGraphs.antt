-- Graphs with names, and the first identity that is free.
use Rattle.std.specs.Prelude.{◌≡◌, ℕ, ◌<◌, ◌≤◌, false, Bool, List, [], ◌∷◌, ◌++◌, length, take, slice_get, Option, Some, None, position, nat_eq, ⊤}
use Rattle.std.specs.List.{AllByRecursion, list_any}
use Rattle.std.specs.Cmp.Lexicographic.{pointwise}
use Rattle.gc_spec.specs.PropertyGraph.{PropertyGraph, ids_of}
use Rattle.gc_spec.specs.Coherence.{AreCoherent}

-- graphs by number, the name of each that has one, and the first free identity
pub record NamedGraphs : Type 0 where
  pub names : List (Option (List ℕ))
  pub graphs : List PropertyGraph
  pub next : ℕ

abbrev pub no_graphs : NamedGraphs
no_graphs = record { names = []; graphs = []; next = 0 }

-- with one more graph, under the next number
abbrev pub with_graph : NamedGraphs → List ℕ → PropertyGraph → NamedGraphs
with_graph c name g = record c { names = c.names ++ Some name ∷ []; graphs = c.graphs ++ g ∷ [] }

-- with one more graph that has no name
abbrev pub with_local : NamedGraphs → PropertyGraph → NamedGraphs
with_local c g = record c { names = c.names ++ None ∷ []; graphs = c.graphs ++ g ∷ [] }

-- the first graphs alone, with another first free identity
abbrev pub first_graphs : NamedGraphs → (count next : ℕ) → NamedGraphs
first_graphs c count next = record { names = take count c.names; graphs = take count c.graphs; next = next }

-- whether a graph's name is this one
abbrev pub is_name : List ℕ → Option (List ℕ) → Bool
is_name name None = false
is_name name (Some other) = pointwise nat_eq other name

-- the number of a name, if it is there
abbrev pub number_of : List (Option (List ℕ)) → List ℕ → Option ℕ
number_of names name = position (is_name name) names

-- whether a name is among some
abbrev pub has_name : List (Option (List ℕ)) → List ℕ → Bool
has_name names name = list_any (is_name name) names

-- the name of the graph of a number, if there is one that has a name
abbrev pub named_if_there : Option (Option (List ℕ)) → Option (List ℕ)
named_if_there None = None
named_if_there (Some name) = name

abbrev pub name_at : List (Option (List ℕ)) → ℕ → Option (List ℕ)
name_at names i = named_if_there (slice_get names i)

-- no name comes twice
abbrev pub AreNames : List (Option (List ℕ)) → Type 0
AreNames [] = ⊤
AreNames (None ∷ names) = AreNames names
AreNames (Some name ∷ names) = (has_name names name ≡ false) × AreNames names

-- every identity of a graph is below a number
abbrev pub AreBelow : ℕ → PropertyGraph → Type 0
AreBelow next g = AllByRecursion (λ id. id < next) (ids_of g)

-- each graph is coherent with all later ones
abbrev pub AllCoherent : List PropertyGraph → Type 0
AllCoherent [] = ⊤
AllCoherent (g ∷ gs) = AllByRecursion (AreCoherent g) gs × AllCoherent gs

-- the graphs of a session: a name or none for each, no name twice, all coherent, every identity below the first that is free
pub record IsCatalog (c : NamedGraphs) : Type 0 where
  pub as_many : length c.names ≡ length c.graphs
  pub names : AreNames c.names
  pub coherent : AllCoherent c.graphs
  pub below : AllByRecursion (AreBelow c.next) c.graphs
  pub most : c.next ≤ 9007199254740992
