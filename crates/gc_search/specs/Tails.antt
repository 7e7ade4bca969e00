-- Going back along two walks that are told by settled ones, to compare their edges.
use Rattle.std.specs.Prelude.{◌≡◌, ℕ, ◌+◌, ◌≤◌, List, [], ◌∷◌, ◌++◌, length, take, Option, Some, None}
use Rattle.std.specs.declared.cmp.Ordering.{Ordering}
use Rattle.std.specs.Ordering.{nat_cmp, ordering_then}
use Rattle.std.specs.Cmp.Lexicographic.{slice_cmp}
use Rattle.gc_prod.specs.declared.moves.By.{By}
use Rattle.gc_prod.specs.declared.moves.By.TheVariants as by
use Rattle.gc_prod.specs.Products.{Setting}
use Rattle.gc_prod.specs.SymbolHops.{segment_steps}
use Rattle.gc_search.specs.declared.comparing.Compared.{Compared}
use Rattle.gc_search.specs.declared.tail.Tail.{Tail}
use Rattle.gc_search.specs.Arrivals.{FoundWalk, edges_along}
use Rattle.gc_search.specs.Links.{Link, numbered, walk_of, IsNumber}

-- the edges of a move
abbrev pub edges_by : Setting → By → List ℕ
edges_by setting by.Nothing = []
edges_by setting (by.Edge e) = e ∷ []
edges_by setting (by.Segment i) = edges_along (segment_steps setting.network.segments i)

-- the edges of a walk, if there is one
abbrev pub edges_if : Option FoundWalk → List ℕ
edges_if None = []
edges_if (Some a) = edges_along a.steps

-- the edges of a settled walk, and so many of a move behind it
abbrev pub tail_edges : Setting → List FoundWalk → Tail → List ℕ
tail_edges setting walks t = edges_if (numbered walks t.before) ++ take t.left (edges_by setting t.by)

-- the edges of a walk that is told beside settled ones
abbrev pub edges_told : Setting → List FoundWalk → Link → List ℕ
edges_told setting walks l = edges_along (walk_of setting walks l).steps

-- by the number of edges, then by the edges one after another
abbrev pub list_order : List ℕ → List ℕ → Ordering
list_order xs ys = ordering_then (nat_cmp (length xs) (length ys)) (slice_cmp nat_cmp xs ys)

abbrev pub edges_order : Setting → List FoundWalk → Link → Link → Ordering
edges_order setting walks a b = list_order (edges_told setting walks a) (edges_told setting walks b)

-- the beginning of a walk is one of a settled walk, or of none, and no more edges of a move than it has
pub record IsTail (setting : Setting) (walks : List FoundWalk) (t : Tail) : Type 0 where
  pub before : t.before ≤ length walks
  pub left : t.left ≤ length (edges_by setting t.by)

-- two have equally many edges
pub record IsLevel (setting : Setting) (walks : List FoundWalk) (one other : Tail) : Type 0 where
  pub first : IsTail setting walks one
  pub second : IsTail setting walks other
  pub same : length (tail_edges setting walks one) ≡ length (tail_edges setting walks other)

-- both are the same settled walk
abbrev pub IsMet : Compared → Type 0
IsMet c = (c.one.left ≡ 0) × (c.other.left ≡ 0) × (c.one.before ≡ c.other.before)

-- the order of both, by what is left of them and by what was passed
abbrev pub compared_order : Setting → List FoundWalk → Compared → Ordering
compared_order setting walks c = ordering_then (slice_cmp nat_cmp (tail_edges setting walks c.one) (tail_edges setting walks c.other)) c.passed

-- how far it is still to go back
abbrev pub way_back : Setting → List FoundWalk → Compared → ℕ
way_back setting walks c =
    (c.one.before + length (tail_edges setting walks c.one)) + (c.other.before + length (tail_edges setting walks c.other))

-- two settled walks have equally many edges, and this is the order of these
pub record IsLevelOrder (walks : List FoundWalk) (m n : ℕ) (told : Ordering) : Type 0 where
  pub first : IsNumber walks m
  pub second : IsNumber walks n
  pub level : length (edges_if (numbered walks m)) ≡ length (edges_if (numbered walks n))
  pub order : told ≡ slice_cmp nat_cmp (edges_if (numbered walks m)) (edges_if (numbered walks n))
