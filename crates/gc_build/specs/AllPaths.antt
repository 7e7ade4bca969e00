-- What lies on the walks of ALL paths.
use Rattle.std.specs.Prelude.{◌≡◌, ⊤, ℕ, ◌+◌, ◌==◌, Bool, true, false, List, [], ◌∷◌, ◌++◌, map, Option, Some, None}
use Rattle.std.specs.List.{AllByRecursion, Contains, find}
use Rattle.gc_base.specs.Walks.{edges_of}
use Rattle.gc_base.specs.declared.place.Sym.{Sym}
use Rattle.gc_base.specs.declared.walk.Walk.{Walk}
use Rattle.gc_spec.specs.PropertyGraph.{PropertyGraph}
use Rattle.gc_regx.specs.Trees.{RegexTree, ARegex}
use Rattle.gc_automata.specs.Moves.{Network}
use Rattle.gc_prod.specs.Segments.{Segments}
use Rattle.gc_reach.specs.OnWalks.{IsOnWalk, nodes_of}
use Rattle.gc_reach.specs.Reached.{AreThose}
use Rattle.gc_rows.specs.Rows.{datum_at}
use Rattle.gc_rows.specs.declared.datum.Datum.{Datum}
use Rattle.gc_rows.specs.declared.datum.Datum.TheVariants as datum
use Rattle.gc_rows.specs.declared.row.Binding.{Binding}
use Rattle.gc_alg.specs.Networks.{Database, network_of}
use Rattle.gc_alg.specs.Tables.{block_atoms}
use Rattle.gc_alg.specs.Trees.{Tree, ABlock}
use Rattle.gc_alg.specs.declared.atom.Atom.{Atom}
use Rattle.gc_alg.specs.declared.atom.AtomWhat.{AtomWhat}
use Rattle.gc_alg.specs.declared.atom.AtomWhat.TheVariants as atom
use Rattle.gc_walks.specs.Databases.{AreOnGraphs, database}
use Rattle.gc_walks.specs.Expressions.{is_searchable}
use Rattle.gc_build.specs.Kept.{Kept}
use Rattle.gc_build.specs.Makings.{Making}
use Rattle.gc_build.specs.Walks.{has_walk, walked}
use Rattle.gc_build.specs.declared.all_paths.AllParts.{AllParts}
use Rattle.gc_build.specs.declared.spans.Span.{Span}

-- Take `CONSTRUCT (x)-/p/->(y) MATCH (x)-/ALL p<:A*>/->(y)` on a graph where edges with A lead from 1 to 2, from 1 to 3, from 2 to 4
-- and from 3 to 4. On the row x = 1, y = 4 all four nodes and edges lie on a walk of p; on the row x = 1, y = 2 one edge and its ends.

-- what is read of a MATCH: its block, and the segments of views on its graphs
pub record Patterns : Type 0 where
  pub block : Tree ABlock
  pub segments : List Segments

-- the ALL pattern that binds a variable, the first of them in the text, if one does
abbrev pub is_all_of : Sym → AtomWhat → Bool
is_all_of p (atom.All x q y regex views) = q.0 == p.0
is_all_of p what = false

abbrev pub first_all : Sym → List Atom → Option Atom
first_all p atoms = find (λ a. is_all_of p a.what) atoms

abbrev pub all_atom : Tree ABlock → Sym → Option Atom
all_atom block p = first_all p (block_atoms block)

-- each ALL pattern of a block is by an expression that has an automaton
abbrev pub IsSearchable : AtomWhat → Type 0
IsSearchable (atom.All x p y regex views) = is_searchable regex ≡ true
IsSearchable what = ⊤

abbrev pub AreSearchable : Tree ABlock → Type 0
AreSearchable block = AllByRecursion (λ a. IsSearchable a.what) (block_atoms block)

-- the segments are of these graphs, and walks can be looked for
pub record AreReady (graphs : List PropertyGraph) (ps : Patterns) : Type 0 where
  pub segments : AreOnGraphs graphs ps.segments
  pub searchable : AreSearchable ps.block

-- the spans that an ALL path stands for in kept instances, on rows of which the first has this place
abbrev pub span_of : Option Datum → List Span
span_of (Some (datum.Span from to)) = record { from = from; to = to } ∷ []
span_of d = []

abbrev pub span_if : Sym → Bool → List Binding → List Span
span_if p false row = []
span_if p true row = span_of (datum_at row p)

abbrev pub spans_from : List Kept → Sym → (place : ℕ) → List (List Binding) → List Span
spans_from kept p place [] = []
spans_from kept p place (row ∷ rows) = span_if p (has_walk kept p place) row ++ spans_from kept p (place + 1) rows

abbrev pub spans_of : Making → List Kept → Sym → List Span
spans_of m kept p = spans_from kept p 0 m.setting.rows

-- a node or an edge is among what some walk has that conforms, between the nodes of one of some spans
pub record LiesBetween (parts_of : Walk → List ℕ) (network : Network) (tree : RegexTree ARegex) (spans : List Span) (id : ℕ) : Type 0 where
  pub span : Span
  pub among : Contains spans span
  pub lies : IsOnWalk parts_of network tree span.from span.to id

-- the same by an ALL pattern, in its network
abbrev pub LiesIn : (parts_of : Walk → List ℕ) → Option Network → AtomWhat → List Span → ℕ → Type 0
LiesIn parts_of (Some network) (atom.All x p y regex views) spans id = LiesBetween parts_of network regex spans id
LiesIn parts_of network what spans id = ⊥

abbrev pub LiesBy : (parts_of : Walk → List ℕ) → Database → Option Atom → List Span → ℕ → Type 0
LiesBy parts_of db None spans id = ⊥
LiesBy parts_of db (Some a) spans id = LiesIn parts_of (network_of db a) a.what spans id

-- and by the pattern of a path, for its spans in kept instances
abbrev pub LiesOn : (parts_of : Walk → List ℕ) → Patterns → Making → List Kept → Sym → ℕ → Type 0
LiesOn parts_of ps m kept p id = LiesBy parts_of (database m.setting.graphs ps.segments) (all_atom ps.block p) (spans_of m kept p) id

-- what lies on the walks of a path, and the same of all paths of which a CONSTRUCT has the walks
pub record AreParts (ps : Patterns) (m : Making) (kept : List Kept) (parts : AllParts) : Type 0 where
  pub nodes : AreThose (LiesOn nodes_of ps m kept parts.path) parts.nodes
  pub edges : AreThose (LiesOn edges_of ps m kept parts.path) parts.edges

pub record AreAllParts (ps : Patterns) (m : Making) (kept : List Kept) (all : List AllParts) : Type 0 where
  pub paths : map (λ parts. parts.path) all ≡ walked kept m.variables
  pub each : AllByRecursion (AreParts ps m kept) all
