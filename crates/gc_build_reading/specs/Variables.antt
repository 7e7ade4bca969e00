-- The variables of a CONSTRUCT, by what its rows are grouped for each, and with what it starts.
use Rattle.std.specs.Prelude.{ℕ, Bool, true, false, ◌==◌, List, [], ◌∷◌, ◌++◌, map, fold, Option, Some, None, if◌then◌else◌}
use Rattle.std.specs.List.{filter, list_any}
use Rattle.std.specs.Option.{option_to_list}
use Rattle.gc_base.specs.declared.place.Sym.{Sym}
use Rattle.gc_sorts.specs.Blocks.{block_at}
use Rattle.gc_lower.specs.Scopes.{Scope, number_at}
use Rattle.gc_ppg.specs.declared.shape.Kind.{Kind}
use Rattle.gc_ppg.specs.declared.shape.Kind.TheVariants as kind
use Rattle.gc_build_recipe.specs.declared.variable.Grouping.{Grouping}
use Rattle.gc_build_recipe.specs.declared.variable.Grouping.TheVariants.{Bound, EachRow, Walk, Terms, Link}
use Rattle.gc_build_recipe.specs.declared.variable.Term.{Term}
use Rattle.gc_build_recipe.specs.declared.variable.Variable.{Variable}
use Rattle.gc_build_reading.specs.declared.place.Ends.{Ends}
use Rattle.gc_build_reading.specs.declared.place.Place.{Place}
use Rattle.gc_build_reading.specs.declared.terms.CopyOf.{CopyOf}
use Rattle.gc_build_reading.specs.declared.terms.TermOf.{TermOf}

-- Take `(x GROUP n.k)-[y]->(z =n), (x)` where the MATCH binds n: x is grouped by n.k, z by n, with which it starts, and y by x and z.

-- the block of the MATCH of a CONSTRUCT, by the token of that
abbrev pub match_at : Scope → (token : ℕ) → ℕ
match_at s token = number_at (block_at s.blocks) token

-- what is said of the making of a variable: whether the MATCH binds it, and whether as a found walk; its GROUP terms, and the variable
-- that it copies
pub record Makings : Type 0 where
  pub is_bound : Sym → Bool
  pub is_found : Sym → Bool
  pub terms : Sym → List Term
  pub copied : Sym → Option Sym

-- the variable that a variable copies, if it does; the rules of sorts let it copy one
abbrev pub copied_by : List CopyOf → Sym → Option Sym
copied_by [] x = None
copied_by (c ∷ copies) x = if c.var.0 == x.0 then Some c.copied else copied_by copies x

-- the GROUP terms of a variable
abbrev pub own_terms : List TermOf → Sym → List Term
own_terms terms x = map (λ t. t.term) (filter (λ t. t.var.0 == x.0) terms)

-- the terms by which a variable is grouped: those of its GROUP, and then the variable that it copies
abbrev pub variable_term : Sym → Term
variable_term x = record { var = x; property = None }

abbrev pub all_terms : Makings → Sym → List Term
all_terms m x = m.terms x ++ map variable_term (option_to_list (m.copied x))

-- by what a new element is grouped: an edge by its ends and its terms, another one by its terms, or by the whole row without any
abbrev pub new_grouping : Option Ends → List Term → Grouping
new_grouping (Some ends) terms = Link ends.source ends.target terms
new_grouping None [] = EachRow
new_grouping None (t ∷ terms) = Terms (t ∷ terms)

-- by what a bound variable is grouped: a found walk by the walk, of which a new path is made, and else by the element that it is
abbrev pub bound_grouping : (is_found : Bool) → Grouping
bound_grouping true = Walk
bound_grouping false = Bound

abbrev pub grouping_of : Makings → Place → Grouping
grouping_of m p = if m.is_bound p.var then bound_grouping (m.is_found p.var) else new_grouping p.ends (all_terms m p.var)

-- with whose labels and properties a variable starts: its own where it is bound, of which a found walk has none, else those of what
-- it copies
abbrev pub start_of : Makings → Sym → Option Sym
start_of m x = if m.is_bound x then Some x else m.copied x

-- the variable of a place
abbrev pub variable_at : Makings → Place → Variable
variable_at m p = record { var = p.var; kind = p.kind; grouping = grouping_of m p; start = start_of m p.var }

-- the places at which variables come first
abbrev pub with_first : List Place → Place → List Place
with_first firsts p = if list_any (λ f. f.var.0 == p.var.0) firsts then firsts else firsts ++ p ∷ []

abbrev pub first_places : List Place → List Place
first_places places = fold with_first [] places

-- those of a kind
abbrev pub is_of : Kind → Kind → Bool
is_of kind.Node kind.Node = true
is_of kind.Edge kind.Edge = true
is_of kind.Path kind.Path = true
is_of k other = false

abbrev pub of_kind : Kind → List Place → List Place
of_kind k places = filter (λ p. is_of k p.kind) places

-- the variables of places: nodes, then edges, then paths, each kind in the order in which they come first
abbrev pub variables_at : Makings → (firsts : List Place) → List Variable
variables_at m firsts = map (variable_at m) (of_kind kind.Node firsts ++ of_kind kind.Edge firsts ++ of_kind kind.Path firsts)
