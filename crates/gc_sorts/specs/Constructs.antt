-- What the items of a CONSTRUCT break, but for its links.
use Rattle.std.specs.Prelude.{ℕ, ◌-◌, List, [], ◌∷◌, ◌++◌, Bool, true, false, not, ◌&&◌, ◌||◌, Option, Some, None, nat_eq, if◌then◌else◌}
use Rattle.gc_ast.specs.Trees as tree
use Rattle.gc_ast.specs.Trees.{Tree, Named, RowOf, AFormula, AnItem, AConstructPart, ANewElement, AGroupTerm, AnAssign, AChange}
use Rattle.gc_sorts.specs.declared.breach.SortRule.TheVariants.{UnknownName, AllNotProjected, TwiceGrouped}
use Rattle.gc_sorts.specs.declared.form.Form.{Form}
use Rattle.gc_sorts.specs.declared.form.Form.TheVariants as form
use Rattle.gc_sorts.specs.declared.form.Takes.{Takes}
use Rattle.gc_sorts.specs.declared.form.Takes.TheVariants as takes
use Rattle.gc_sorts.specs.declared.sort.Role.{Role}
use Rattle.gc_sorts.specs.declared.sort.Role.TheVariants as role
use Rattle.gc_sorts.specs.Breaches.{Breaches, none, both, broken, broken_if}
use Rattle.gc_sorts.specs.Expressions.{Standing, expression_breaches, name_form, name_breaches, misfit, unknown_if}
use Rattle.gc_sorts.specs.Graphs.{has_name, unknown_graph}
use Rattle.gc_sorts.specs.Patterns.{each}
use Rattle.gc_sorts.specs.Uses.{all_of, use_if}
use Rattle.gc_sorts.specs.Variables.{Use, first_use, has_use}

-- what a CONSTRUCT names, in text order: the nodes and edges of its chains; the paths that it stores;
-- the named elements that have a GROUP, at its word; those that are a copy, at the `=`
pub record Made : Type 0 where
  pub made : List Use
  pub stored : List (List ℕ)
  pub groups : List Use
  pub copies : List Use

-- the same beside what the MATCH binds
pub record Making : Type 0 where
  pub matched : List Use
  pub made : List Use
  pub stored : List (List ℕ)
  pub groups : List Use
  pub copies : List Use

abbrev pub making : List Use → Made → Making
making matched m =
    record { matched = matched; made = m.made; stored = m.stored; groups = m.groups; copies = m.copies }

-- the names of nodes and edges
abbrev pub element_made : Role → Tree ANewElement → List Use
element_made role (tree.NewElement token name copy group labels assigns) = use_if role name

abbrev pub part_made : Tree AConstructPart → List Use
part_made (tree.NewNode element) = element_made role.Node element
part_made (tree.NewEdge way element) = element_made role.Edge element
part_made (tree.Projected token path) = []
part_made (tree.NewStored token path labels assigns) = []

abbrev pub item_made : Tree AnItem → List Use
item_made (tree.GraphItem graph) = []
item_made (tree.ChainItem parts changes condition) = all_of part_made parts

-- the paths that are stored
abbrev pub part_stored : Tree AConstructPart → List (List ℕ)
part_stored (tree.NewStored token path labels assigns) = path.name ∷ []
part_stored part = []

abbrev pub item_stored : Tree AnItem → List (List ℕ)
item_stored (tree.GraphItem graph) = []
item_stored (tree.ChainItem parts changes condition) = all_of part_stored parts

-- a name's use at another token
abbrev pub use_before : Role → Option Named → ℕ → List Use
use_before role None token = []
use_before role (Some x) token = record { name = x.name; token = token - 1; role = role } ∷ []

-- the word GROUP of a named element, which stands before its first term
abbrev pub group_uses : Role → Option Named → Tree (RowOf AGroupTerm) → List Use
group_uses role name tree.none = []
group_uses role name (tree.more (tree.GroupTerm x property) terms) = use_before role name x.token

-- the `=` of a named element, which stands before the variable that is copied
abbrev pub copy_uses : Role → Option Named → Option Named → List Use
copy_uses role name None = []
copy_uses role name (Some copy) = use_before role name copy.token

abbrev pub element_groups : Role → Tree ANewElement → List Use
element_groups role (tree.NewElement token name copy group labels assigns) = group_uses role name group

abbrev pub element_copies : Role → Tree ANewElement → List Use
element_copies role (tree.NewElement token name copy group labels assigns) = copy_uses role name copy

abbrev pub part_groups : Tree AConstructPart → List Use
part_groups (tree.NewNode element) = element_groups role.Node element
part_groups (tree.NewEdge way element) = element_groups role.Edge element
part_groups (tree.Projected token path) = []
part_groups (tree.NewStored token path labels assigns) = []

abbrev pub part_copies : Tree AConstructPart → List Use
part_copies (tree.NewNode element) = element_copies role.Node element
part_copies (tree.NewEdge way element) = element_copies role.Edge element
part_copies (tree.Projected token path) = []
part_copies (tree.NewStored token path labels assigns) = []

abbrev pub item_groups : Tree AnItem → List Use
item_groups (tree.GraphItem graph) = []
item_groups (tree.ChainItem parts changes condition) = all_of part_groups parts

abbrev pub item_copies : Tree AnItem → List Use
item_copies (tree.GraphItem graph) = []
item_copies (tree.ChainItem parts changes condition) = all_of part_copies parts

-- nothing
abbrev pub nothing_made : Made
nothing_made = record { made = []; stored = []; groups = []; copies = [] }

-- what is named with a part of a chain, with parts, with an item and with items
abbrev pub with_part : Made → Tree AConstructPart → Made
with_part m part =
    record m { made = m.made ++ part_made part; stored = m.stored ++ part_stored part; groups = m.groups ++ part_groups part; copies = m.copies ++ part_copies part }

abbrev pub with_parts : Made → Tree (RowOf AConstructPart) → Made
with_parts m parts =
    record m { made = m.made ++ all_of part_made parts; stored = m.stored ++ all_of part_stored parts; groups = m.groups ++ all_of part_groups parts; copies = m.copies ++ all_of part_copies parts }

abbrev pub with_item : Made → Tree AnItem → Made
with_item m item =
    record m { made = m.made ++ item_made item; stored = m.stored ++ item_stored item; groups = m.groups ++ item_groups item; copies = m.copies ++ item_copies item }

abbrev pub with_items : Made → Tree (RowOf AnItem) → Made
with_items m items =
    record m { made = m.made ++ all_of item_made items; stored = m.stored ++ all_of item_stored items; groups = m.groups ++ all_of item_groups items; copies = m.copies ++ all_of item_copies items }

-- where what is given stands: it sees the variables of the MATCH
abbrev pub given : Making → Standing
given m = record { uses = m.matched; stored = []; exists = [] }

-- where a WHEN stands: it sees those of the CONSTRUCT too
abbrev pub when_ : Making → Standing
when_ m = record { uses = m.matched ++ m.made; stored = m.stored; exists = [] }

-- an expression at a place; its EXISTS may not stand there
abbrev pub formula_breaches : Standing → Bool → Takes → Tree AFormula → Breaches
formula_breaches s folds place (tree.Formula e queries) = expression_breaches s folds place 0 e

abbrev pub assign_breaches : Making → Tree AnAssign → Breaches
assign_breaches m (tree.Assign token key value) = formula_breaches (given m) true takes.Value value

-- a node's or an edge's name: its first place, in the MATCH or in the CONSTRUCT, is of the same sort
abbrev pub made_breaches : Making → Form → Option Named → Breaches
made_breaches m kind None = none
made_breaches m kind (Some x) = misfit (takes.Like kind) (name_form (when_ m) x.name) x.token

-- a copy is of a variable of the same kind
abbrev pub copy_breaches : Making → Form → Option Named → Breaches
copy_breaches m kind None = none
copy_breaches m kind (Some x) = name_breaches (given m) (takes.Like kind) x.name x.token

-- a term to group by is anything but an ALL path; one with a property is described
abbrev pub term_takes : Option (List ℕ) → Takes
term_takes None = takes.Anything
term_takes (Some property) = takes.Described

abbrev pub term_breaches : Making → Tree AGroupTerm → Breaches
term_breaches m (tree.GroupTerm x property) = name_breaches (given m) (term_takes property) x.name x.token

-- whether the first of some places of a name is another one
abbrev pub is_later : Option Use → ℕ → Bool
is_later None token = false
is_later (Some first) token = not (nat_eq first.token token)

-- a GROUP or a copy: neither of a variable of the MATCH, nor a second one
abbrev pub twice : List Use → List Use → Use → Breaches
twice matched others u =
    broken_if (has_use matched u.name || is_later (first_use others u.name) u.token) TwiceGrouped u.token

abbrev pub each_twice : List Use → List Use → List Use → Breaches
each_twice matched others [] = none
each_twice matched others (u ∷ us) = both (twice matched others u) (each_twice matched others us)

-- a new edge has one place
abbrev pub second_edge : Making → Option Named → Breaches
second_edge m None = none
second_edge m (Some x) = broken_if (not (has_use m.matched x.name) && is_later (first_use m.made x.name) x.token) TwiceGrouped x.token

-- a node or an edge of a construct chain
abbrev pub element_breaches : Making → Form → Role → Tree ANewElement → Breaches
element_breaches m kind role (tree.NewElement token name copy group labels assigns) =
    both (made_breaches m kind name)
    (both (copy_breaches m kind copy)
    (both (each (term_breaches m) group)
    (both (each_twice m.matched m.groups (group_uses role name group))
    (both (each_twice m.matched m.copies (copy_uses role name copy))
    (each (assign_breaches m) assigns)))))

-- a new edge besides
abbrev pub edge_breaches : Making → Tree ANewElement → Breaches
edge_breaches m (tree.NewElement token name copy group labels assigns) =
    both (second_edge m name) (element_breaches m form.Edge role.Edge (tree.NewElement token name copy group labels assigns))

-- a path that is projected may be an ALL path
abbrev pub projected_misfit : Form → ℕ → Breaches
projected_misfit form.All token = none
projected_misfit f token = misfit takes.Walked f token

-- a path that is stored
abbrev pub stored_breaches : Making → Named → Tree (RowOf AnAssign) → Breaches
stored_breaches m path assigns =
    both (name_breaches (given m) takes.Walked path.name path.token) (each (assign_breaches m) assigns)

-- a part of a construct chain
abbrev pub part_breaches : Making → Tree AConstructPart → Breaches
part_breaches m (tree.NewNode element) = element_breaches m form.Node role.Node element
part_breaches m (tree.NewEdge way element) = edge_breaches m element
part_breaches m (tree.Projected token path) =
    both (unknown_if (name_form (given m) path.name) path.token) (projected_misfit (name_form (given m) path.name) path.token)
part_breaches m (tree.NewStored token path labels assigns) = stored_breaches m path assigns

-- an ALL variable may be no target
abbrev pub all_if : Form → ℕ → Breaches
all_if form.All token = broken AllNotProjected token
all_if f token = none

-- a target is a node, an edge or a stored path of the CONSTRUCT
abbrev pub target_breaches : Making → Named → Breaches
target_breaches m x =
    if has_use m.made x.name || has_name m.stored x.name then all_if (name_form (given m) x.name) x.token
    else broken UnknownName x.token

abbrev pub change_breaches : Making → Tree AChange → Breaches
change_breaches m (tree.SetProperty x assign) = both (target_breaches m x) (assign_breaches m assign)
change_breaches m (tree.AddLabel x l) = target_breaches m x
change_breaches m (tree.DropProperty x k) = target_breaches m x
change_breaches m (tree.DropLabel x l) = target_breaches m x

-- an item
abbrev pub item_breaches : List (List ℕ) → Making → Tree AnItem → Breaches
item_breaches graphs m (tree.GraphItem graph) = unknown_graph graphs graph
item_breaches graphs m (tree.ChainItem parts changes condition) =
    both (each (part_breaches m) parts)
    (both (each (change_breaches m) changes) (each (formula_breaches (when_ m) false takes.Condition) condition))
