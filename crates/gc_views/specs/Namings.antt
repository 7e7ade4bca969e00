-- What a checked file and a view are, as the code has them in hand.
use Rattle.std.specs.Prelude.{ℕ, List, map, Option}
use Rattle.std.specs.Option.{option_map}
use Rattle.gc_ast.specs.PatternViews.{named, pattern_tree}
use Rattle.gc_ast.specs.QueryViews.{formula_tree}
use Rattle.gc_ast.specs.Trees.{Tree, RowOf, APattern, maybe, rows}
use Rattle.gc_ast.specs.declared.pattern.Chain.{Chain}
use Rattle.gc_ast.specs.declared.query.Formula.{Formula}
use Rattle.gc_base.specs.declared.place.NameAt.{NameAt}
use Rattle.gc_base.specs.declared.place.Sym.{Sym}
use Rattle.gc_expr.specs.Views.{Names, name_of, numbered_expr}
use Rattle.gc_lower.specs.Namings.{scope_of}
use Rattle.gc_lower.specs.Scopes.{Scope, variable_of}
use Rattle.gc_sorts.specs.declared.checked.Checked.{Checked}
use Rattle.gc_spec.specs.PropertyGraph.{PropertyGraph}
use Rattle.gc_values.specs.declared.reads.ReadUse.{ReadUse}
use Rattle.gc_views.specs.Segments.{View}
use Rattle.gc_views.specs.Views.{head_view}
use Rattle.gc_views.specs.declared.naming.Naming.{Naming}
use Rattle.gc_views.specs.declared.view.Viewed.{Viewed}

-- what the names and the tokens of the file stand for
abbrev pub scope : Naming → Scope
scope n = scope_of n.checked.now n.on

-- the name table
abbrev pub names_of : Naming → Names
names_of n = n.checked.now.file.names

-- the variable of a name, by its number in the file
abbrev pub variable_in : Naming → Sym → Sym
variable_in n sym = variable_of (scope n) (name_of (names_of n) sym)

-- the chains of a view as trees
abbrev pub chain_trees : Checked → List Chain → Tree (RowOf (RowOf APattern))
chain_trees checked chains = rows (map (λ chain. map (pattern_tree checked.file.names) chain.parts) chains)

-- a view of a file as rows are asked for it, on the graph of a number: by its name, its chains and its COST, and by what COST is read in
abbrev pub view_in : Checked → (on : ℕ) → NameAt → List Chain → Option Formula → List ReadUse → List PropertyGraph → View
view_in checked on name chains cost reads graphs =
    head_view (scope_of checked on) (named checked.file.names name) (chain_trees checked chains)
    (maybe (option_map (formula_tree checked.file.names) cost)) reads graphs

-- the same view, as the code has it in hand
abbrev pub view_of : Viewed → View
view_of v =
    record { name = v.name.now; trail = v.trail; cost = option_map numbered_expr v.cost; reads = v.reads.now; graphs = v.graphs.now }
