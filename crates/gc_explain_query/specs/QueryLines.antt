-- The lines that explain a CONSTRUCT.
use Rattle.std.specs.Prelude.{ℕ, ◌+◌, List, [], ◌∷◌, ◌++◌, codes, map}
use Rattle.std.specs.Fmt.{decimal}
use Rattle.std.specs.List.{flat_map}
use Rattle.gc_base.specs.declared.place.Sym.{Sym}
use Rattle.gc_spec.specs.PropertyGraph.{PropertyGraph}
use Rattle.gc_alg.specs.Trees.{Tree, ABlock, APart, atoms_of, items, parts_of}
use Rattle.gc_alg.specs.Views.{block_tree}
use Rattle.gc_explain.specs.ExplainedPlans.{plan_steps}
use Rattle.gc_explain.specs.Needs.{needs_of}
use Rattle.gc_explain.specs.PlanLines.{step_lines}
use Rattle.gc_explain.specs.declared.step.Step.{Step}
use Rattle.gc_explain_query.specs.NestedQueries.{NestedQuery, nested}
use Rattle.gc_explain_query.specs.declared.views.ExplainedView.{ExplainedView}
use Rattle.gc_stats.specs.Estimates.{estimate}

-- a view on a graph: their names, and the block of the view
pub record AView : Type 0 where
  pub name : List ℕ
  pub graph : List ℕ
  pub block : Tree ABlock

-- a view in memory
abbrev pub view_of : ExplainedView → AView
view_of v = record { name = v.name; graph = v.graph; block = block_tree v.block }

-- a line of a word and a number
abbrev pub numbered_line : (word : List ℕ) → (number : ℕ) → List ℕ
numbered_line word number = word ++ (codes " " ++ (decimal number ++ 10 ∷ []))

-- the lines of the steps of a part, which goes over the elements of graphs, where variables around it are bound
abbrev pub part_estimates : List PropertyGraph → Tree APart → List ℕ
part_estimates graphs part = map (estimate graphs) (atoms_of part)

abbrev pub part_steps : List PropertyGraph → (around : List Sym) → Tree APart → List Step
part_steps graphs around part = plan_steps (atoms_of part) (part_estimates graphs part) (needs_of part around) around

abbrev pub part_lines : List PropertyGraph → (around : List Sym) → Tree APart → List ℕ
part_lines graphs around part = step_lines (part_steps graphs around part)

-- those of the parts of a block, one after another
abbrev pub block_lines : List PropertyGraph → (around : List Sym) → Tree ABlock → List ℕ
block_lines graphs around block = flat_map (part_lines graphs around) (items (parts_of block))

-- a view, of which nothing is bound around it
abbrev pub view_line : AView → List ℕ
view_line v = codes "view " ++ (v.name ++ (codes " on " ++ (v.graph ++ 10 ∷ [])))

abbrev pub view_lines : List PropertyGraph → AView → List ℕ
view_lines graphs v = view_line v ++ block_lines graphs [] v.block

-- a MATCH with its OPTIONAL blocks
abbrev pub match_line : List ℕ
match_line = codes "match" ++ 10 ∷ []

abbrev pub optional_lines : List PropertyGraph → (number : ℕ) → List (Tree APart) → List ℕ
optional_lines graphs number [] = []
optional_lines graphs number (part ∷ later) =
    numbered_line (codes "optional") number ++ (part_lines graphs [] part ++ optional_lines graphs (number + 1) later)

abbrev pub match_lines : List PropertyGraph → List (Tree APart) → List ℕ
match_lines graphs [] = match_line
match_lines graphs (first ∷ later) = match_line ++ (part_lines graphs [] first ++ optional_lines graphs 1 later)

-- EXISTS queries, of which the first has a number
abbrev pub exists_lines : List PropertyGraph → (number : ℕ) → List NestedQuery → List ℕ
exists_lines graphs number [] = []
exists_lines graphs number (q ∷ later) =
    numbered_line (codes "exists") number ++ (block_lines graphs q.around q.block ++ exists_lines graphs (number + 1) later)

-- a CONSTRUCT of a number: the views that it uses, its MATCH, and all EXISTS queries in that
abbrev pub query_lines : List PropertyGraph → (number : ℕ) → List AView → Tree ABlock → List ℕ
query_lines graphs number views block =
    numbered_line (codes "query") number
    ++ (flat_map (view_lines graphs) views ++ (match_lines graphs (items (parts_of block)) ++ exists_lines graphs 1 (nested [] block)))
