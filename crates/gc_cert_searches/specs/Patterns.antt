-- The patterns of a MATCH of which searches are told: those that ask for one walk between two nodes, one by one.
use Rattle.std.specs.Prelude.{◌≡◌, ℕ, ◌==◌, true, List, [], ◌∷◌, if◌then◌else◌}
use Rattle.std.specs.List.{AllByRecursion, Contains, flat_map}
use Rattle.gc_base.specs.declared.place.Sym.{Sym}
use Rattle.gc_regx.specs.Trees.{RegexTree, ARegex}
use Rattle.gc_rows.specs.Rows.{lists}
use Rattle.gc_alg.specs.Instances.{variables_of}
use Rattle.gc_alg.specs.Tables.{block_atoms}
use Rattle.gc_alg.specs.Trees.{Tree, ABlock}
use Rattle.gc_alg.specs.declared.atom.Atom.{Atom}
use Rattle.gc_alg.specs.declared.atom.AtomWhat.{AtomWhat}
use Rattle.gc_alg.specs.declared.atom.AtomWhat.TheVariants as atom
use Rattle.gc_alg.specs.declared.atom.ViewUse.{ViewUse}
use Rattle.gc_walks.specs.Expressions.{is_searchable}

-- Take `MATCH (x)-/p<:A*>/->(y)-/2 SHORTEST q<:A>/->(z) OPTIONAL (x)-/r<~v> COST c/->(w)`: they are those of p and r.

-- the variable of a pattern, its expression, the number of its graph, and what the names of views in the expression mean
pub record Pattern : Type 0 where
  pub path : Sym
  pub expression : RegexTree ARegex
  pub graph : ℕ
  pub views : List ViewUse

-- the pattern of an atom, if it asks for one walk
abbrev pub pattern_of : (graph : ℕ) → AtomWhat → List Pattern
pattern_of graph (atom.Found x p y k cost regex views) =
    if k == 1 then record { path = p; expression = regex; graph = graph; views = views } ∷ [] else []
pattern_of graph what = []

abbrev pub pattern_by : Atom → List Pattern
pattern_by a = pattern_of a.graph a.what

-- those of a block, in the order of the text
abbrev pub patterns_of : Tree ABlock → List Pattern
patterns_of block = flat_map pattern_by (block_atoms block)

-- a pattern is by an expression that has an automaton; and each of those of a block is
abbrev pub IsSearchable : Pattern → Type 0
IsSearchable f = is_searchable f.expression ≡ true

abbrev pub AreSearchable : Tree ABlock → Type 0
AreSearchable block = AllByRecursion IsSearchable (patterns_of block)

-- a pattern is the only one of some atoms that has its variable
abbrev pub IsOnly : List Atom → Pattern → Type 0
IsOnly atoms f = (a : Atom) → Contains atoms a → lists (variables_of a.what) f.path ≡ true → pattern_by a ≡ f ∷ []

-- so is each in its block; the sort rules demand it, since a found path has one place
abbrev pub AreOnly : Tree ABlock → Type 0
AreOnly block = AllByRecursion (IsOnly (block_atoms block)) (patterns_of block)
