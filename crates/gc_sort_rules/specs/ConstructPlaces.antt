-- The places in the items of a CONSTRUCT.
use Rattle.std.specs.Prelude.{ℕ, ◌+◌, List, [], ◌∷◌, ◌++◌, map, Option, Some, None}
use Rattle.gc_base.specs.declared.place.Direction.TheVariants.{Forward}
use Rattle.gc_ast.specs.Trees as tree
use Rattle.gc_ast.specs.Trees.{Tree, Named, RowOf, AnItem, AConstructPart, ANewElement, AGroupTerm, AnAssign, AChange}
use Rattle.gc_sorts.specs.declared.form.Form.{Form}
use Rattle.gc_sorts.specs.declared.form.Form.TheVariants as form
use Rattle.gc_sorts.specs.declared.form.Takes.TheVariants as takes
use Rattle.gc_sorts.specs.declared.sort.Role.{Role}
use Rattle.gc_sorts.specs.declared.sort.Role.TheVariants as role
use Rattle.gc_sorts.specs.Constructs.{Made, group_uses, copy_uses, term_takes}
use Rattle.gc_sorts.specs.Links.{Link, name_if, part_name, front_part_name, bracket}
use Rattle.gc_sorts.specs.Uses.{all_of}
use Rattle.gc_sorts.specs.Variables.{Use}
use Rattle.gc_sort_rules.specs.Places.{Scope, Occurrence, At, Name, Operand, Projected, Target, Group, Copy, EdgeName, EdgeLink, PathLink}
use Rattle.gc_sort_rules.specs.Places.{Assigned, Elsewhere}
use Rattle.gc_sort_rules.specs.ExpressionPlaces.{Setting, name_form, named, in_formula}
use Rattle.gc_sort_rules.specs.PatternPlaces.{graph_name}

-- what a CONSTRUCT sees: what is in scope, with the variables of the MATCH; what it names itself; the links of the MATCH
pub record Construct : Type 0 where
  pub scope : Scope
  pub names : Made
  pub links : List Link

-- what is given stands where the variables of the MATCH are in scope
abbrev pub given : Construct → Setting
given c = record { scope = c.scope; stored = []; queries = [] }

-- and a WHEN where those of the CONSTRUCT are too
abbrev pub when_scope : Construct → Scope
when_scope c = record (c.scope) { variables = c.scope.variables ++ c.names.made }

abbrev pub when_ : Construct → Setting
when_ c = record { scope = when_scope c; stored = c.names.stored; queries = [] }

-- the right side of `:=`
abbrev pub in_assign : Construct → Tree AnAssign → List Occurrence
in_assign c (tree.Assign token key value) = in_formula (given c) Assigned takes.Value value

-- the name of a node or an edge, by what its first place has it for, in the MATCH or else in the CONSTRUCT
abbrev pub element_name : Construct → Form → Option Named → List Occurrence
element_name c kind None = []
element_name c kind (Some x) = At x.token (Operand (takes.Like kind) (name_form (when_ c) x.name)) (when_scope c) ∷ []

-- the `=` of a named element, and what is copied
abbrev pub copy_at : Construct → Use → Occurrence
copy_at c u = At u.token (Copy u.name c.names.copies) c.scope

abbrev pub copied : Construct → Form → Option Named → List Occurrence
copied c kind None = []
copied c kind (Some x) = named (given c) (takes.Like kind) x.name x.token

-- the word GROUP of one, and what is grouped by
abbrev pub group_at : Construct → Use → Occurrence
group_at c u = At u.token (Group u.name c.names.groups) c.scope

abbrev pub in_term : Construct → Tree AGroupTerm → List Occurrence
in_term c (tree.GroupTerm x property) = named (given c) (term_takes property) x.name x.token

-- a node or an edge of a chain
abbrev pub in_element : Construct → Form → Role → Tree ANewElement → List Occurrence
in_element c kind role (tree.NewElement token name copy group labels assigns) =
    element_name c kind name
    ++ (map (copy_at c) (copy_uses role name copy)
    ++ (copied c kind copy
    ++ (map (group_at c) (group_uses role name group)
    ++ (all_of (in_term c) group
    ++ all_of (in_assign c) assigns))))

-- the name of an edge besides
abbrev pub edge_name : Construct → Option Named → List Occurrence
edge_name c None = []
edge_name c (Some x) = At x.token (EdgeName x.name c.names.made) c.scope ∷ []

abbrev pub in_edge : Construct → Tree ANewElement → List Occurrence
in_edge c (tree.NewElement token name copy group labels assigns) =
    edge_name c name ++ in_element c form.Edge role.Edge (tree.NewElement token name copy group labels assigns)

-- a part of a chain; a path is projected or stored
abbrev pub in_part : Construct → Tree AConstructPart → List Occurrence
in_part c (tree.NewNode element) = in_element c form.Node role.Node element
in_part c (tree.NewEdge way element) = in_edge c element
in_part c (tree.Projected token path) =
    At path.token (Name path.name) c.scope ∷ At path.token (Projected (name_form (given c) path.name)) c.scope ∷ []
in_part c (tree.NewStored token path labels assigns) =
    named (given c) takes.Walked path.name path.token ++ all_of (in_assign c) assigns

-- an edge at its `[`, and a path at its first `/`, between their neighbours
abbrev pub link_at : Construct → (left right : Option (List ℕ)) → Tree AConstructPart → List Occurrence
link_at c left right (tree.NewNode element) = []
link_at c left right (tree.NewEdge way (tree.NewElement token name copy group labels assigns)) =
    At (bracket way token) (EdgeLink (name_if name) left right way c.links) c.scope ∷ []
link_at c left right (tree.Projected token path) =
    At (token + 1) (PathLink (record { name = path.name; left = left; right = right; way = Forward }) c.links) c.scope ∷ []
link_at c left right (tree.NewStored token path labels assigns) =
    At (token + 1) (PathLink (record { name = path.name; left = left; right = right; way = Forward }) c.links) c.scope ∷ []

-- the parts of a chain behind a part of a name
abbrev pub in_parts : Construct → (left : Option (List ℕ)) → Tree (RowOf AConstructPart) → List Occurrence
in_parts c left tree.none = []
in_parts c left (tree.more part parts) =
    link_at c left (front_part_name parts) part ++ (in_part c part ++ in_parts c (part_name part) parts)

-- SET and REMOVE
abbrev pub target : Construct → Named → Occurrence
target c x = At x.token (Target x.name (name_form (given c) x.name) c.names.made c.names.stored) c.scope

abbrev pub in_change : Construct → Tree AChange → List Occurrence
in_change c (tree.SetProperty x assign) = target c x ∷ in_assign c assign
in_change c (tree.AddLabel x label) = target c x ∷ []
in_change c (tree.DropProperty x property) = target c x ∷ []
in_change c (tree.DropLabel x label) = target c x ∷ []

-- an item: all of a graph; a chain with its changes and its WHEN
abbrev pub in_item : Construct → Tree AnItem → List Occurrence
in_item c (tree.GraphItem graph) = graph_name c.scope graph ∷ []
in_item c (tree.ChainItem parts changes condition) =
    in_parts c None parts ++ (all_of (in_change c) changes ++ all_of (in_formula (when_ c) Elsewhere takes.Condition) condition)
