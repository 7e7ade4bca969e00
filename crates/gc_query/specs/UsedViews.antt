-- Which views a MATCH uses, and on which graphs.
use Rattle.std.specs.Prelude.{ℕ, ◌+◌, ◌==◌, ◌&&◌, Bool, List, [], ◌∷◌, ◌++◌, map, fold, if◌then◌else◌}
use Rattle.std.specs.List.{filter, flat_map, list_any}
use Rattle.gc_ast.specs.Trees as ast
use Rattle.gc_alg.specs.Networks.{views_of}
use Rattle.gc_alg.specs.Trees.{Kind, Tree, BlockOf, PartOf, ConjunctOf, ExistsOf, none, more}
use Rattle.gc_alg.specs.declared.atom.Atom.{Atom}
use Rattle.gc_query.specs.declared.used_views.ViewOn.{ViewOn}

-- Take `PATH a = .. PATH b = .. CONSTRUCT (n) MATCH (n)-/<~b>/->(m), (n)-/<~a ~b>/->(m) ON h`: in turn they are a on h, b on the
-- first graph, and b on h.

-- the views that an atom names, on its graph
abbrev pub used_by : Atom → List ViewOn
used_by a = map (λ used. record { view = used.view.0; graph = a.graph }) (views_of a.what)

-- those of a block in the order of the text: of its patterns, and of the EXISTS queries in its conditions
unfoldable pub uses_in : {k : Kind} → Tree k → List ViewOn
uses_in (BlockOf parts reads) = uses_in parts
uses_in (PartOf atoms conjuncts) = flat_map used_by atoms ++ uses_in conjuncts
uses_in (ConjunctOf condition queries) = uses_in queries
uses_in (ExistsOf outer block tree) = uses_in block
uses_in none = []
uses_in (more t ts) = uses_in t ++ uses_in ts

-- each once, in the order of first use
abbrev pub same_use : ViewOn → ViewOn → Bool
same_use a b = (a.view == b.view) && (a.graph == b.graph)

abbrev pub with_use : List ViewOn → ViewOn → List ViewOn
with_use uses u = if list_any (same_use u) uses then uses else uses ++ u ∷ []

abbrev pub each_use_once : List ViewOn → List ViewOn
each_use_once uses = fold with_use [] uses

-- a view that is used: the head that declares it, its number, and the graph
pub record UsedView : Type 0 where
  pub head : ast.Tree ast.AHead
  pub view : ℕ
  pub graph : ℕ

-- the uses of each view in turn, in the order of the heads, of which the first has this number
abbrev pub used_as : ast.Tree ast.AHead → ViewOn → UsedView
used_as head u = record { head = head; view = u.view; graph = u.graph }

abbrev pub uses_of : ast.Tree ast.AHead → (number : ℕ) → List ViewOn → List UsedView
uses_of head number uses = map (used_as head) (filter (λ u. u.view == number) uses)

abbrev pub in_turn : (number : ℕ) → List (ast.Tree ast.AHead) → List ViewOn → List UsedView
in_turn number [] uses = []
in_turn number (head ∷ heads) uses = uses_of head number uses ++ in_turn (number + 1) heads uses
