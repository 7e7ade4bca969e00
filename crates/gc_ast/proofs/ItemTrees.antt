-- The trees of parts and items that hold lists.
use Rattle.std.proofs.Common.{◌≡◌, ℕ, List, map, Option, rules, Vec, Global}
use Rattle.std.specs.Option.{option_map}
use Rattle.gc_base.specs.declared.place.NameAt.{NameAt}
use Rattle.gc_base.specs.declared.place.Sym.{Sym}
use Rattle.gc_ast.specs.declared.construct.Assign.{Assign}
use Rattle.gc_ast.specs.declared.construct.Change.{the_lemmas, Change}
use Rattle.gc_ast.specs.declared.construct.Change.TheViews.{Stored, Chain}
use Rattle.gc_ast.specs.declared.construct.ConstructPart.{ConstructPart}
use Rattle.gc_ast.specs.declared.query.Formula.{Formula}
use Rattle.gc_ast.specs.Trees as tree
use Rattle.gc_ast.specs.Trees.{row, maybe}
use Rattle.gc_ast.specs.PatternViews.{named_by}
use Rattle.gc_ast.specs.QueryViews.{item_by, part_by, change_by, formula_by, assign_by}

pub stored_tree : {N : Type 0} (f : Sym → N) (token : ℕ) (name : NameAt) (labels : List (List ℕ)) (assigns : Vec Assign Global)
    → part_by f (Stored token name labels assigns) ≡ tree.NewStored token (named_by f name) labels (row (map (assign_by f) assigns.items))
unfolding part_by assign_by
stored_tree f token name labels assigns = search (rules, the_lemmas)

pub chain_tree : {N : Type 0} (f : Sym → N) (parts : Vec ConstructPart Global) (changes : Vec Change Global) (condition : Option Formula)
    → item_by f (Chain parts changes condition)
    ≡ tree.ChainItem (row (map (part_by f) parts.items)) (row (map (change_by f) changes.items)) (maybe (option_map (formula_by f) condition))
unfolding item_by part_by change_by formula_by
chain_tree f parts changes condition = search (rules, the_lemmas)
