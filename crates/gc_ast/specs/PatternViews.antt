-- What patterns are as plain trees: by what stands for a name, by the name table that their names
-- are numbers of, and by those numbers.
use Rattle.std.specs.Prelude.{List, map, Option}
use Rattle.std.specs.Option.{option_map}
use Rattle.gc_base.specs.declared.place.NameAt.{NameAt}
use Rattle.gc_base.specs.declared.place.Sym.{Sym}
use Rattle.gc_regx.specs.Views.{regex_tree}
use Rattle.gc_expr.specs.Views.{Names, name_of}
use Rattle.gc_ast.specs.declared.construct.GroupTerm.{GroupTerm}
use Rattle.gc_ast.specs.declared.pattern.Element.{Element}
use Rattle.gc_ast.specs.declared.pattern.Located.{Located}
use Rattle.gc_ast.specs.declared.pattern.PathBody.{PathBody}
use Rattle.gc_ast.specs.declared.pattern.PathBody.TheVariants as body
use Rattle.gc_ast.specs.declared.pattern.Pattern.{Pattern}
use Rattle.gc_ast.specs.declared.pattern.Pattern.TheVariants as pattern
use Rattle.gc_ast.specs.declared.pattern.PropertyUse.{PropertyUse}
use Rattle.gc_ast.specs.Trees as tree
use Rattle.gc_ast.specs.Trees.{TreeOf, Tree, NamedOf, Named, APattern, AnElement, APathBody, APropertyUse, ALocated, AGroupTerm, row}

-- a name with its token
abbrev pub named_by : {N : Type 0} → (Sym → N) → NameAt → NamedOf N
named_by f x = record { name = f x.sym; token = x.token }

-- a name with its token, if there is one
abbrev pub named_if_by : {N : Type 0} → (Sym → N) → Option NameAt → Option (NamedOf N)
named_if_by f x = option_map (named_by f) x

-- names with their tokens
abbrev pub all_named_by : {N : Type 0} → (Sym → N) → List NameAt → List (NamedOf N)
all_named_by f xs = map (named_by f) xs

-- the tree of a property of a pattern
abbrev pub property_use_by : {N : Type 0} → (Sym → N) → PropertyUse → TreeOf N APropertyUse
property_use_by f p = tree.PropertyUse p.token p.property (named_by f p.value)

-- the tree of an element
abbrev pub element_by : {N : Type 0} → (Sym → N) → Element → TreeOf N AnElement
element_by f e =
    tree.Element e.token (named_if_by f e.name) e.labels (row (map (property_use_by f) e.properties))

-- the tree of what a path pattern asks for
abbrev pub body_by : {N : Type 0} → (Sym → N) → PathBody → TreeOf N APathBody
body_by f (body.Reach r views) = tree.Reach (regex_tree r) (all_named_by f views)
body_by f (body.Found k p r views c) =
    tree.Found k (named_by f p) (regex_tree r) (all_named_by f views) (named_if_by f c)
body_by f (body.All p r views) = tree.All (named_by f p) (regex_tree r) (all_named_by f views)
body_by f (body.Stored p labels) = tree.Stored (named_by f p) labels

-- the tree of a node or a link
abbrev pub pattern_by : {N : Type 0} → (Sym → N) → Pattern → TreeOf N APattern
pattern_by f (pattern.Node e) = tree.Node (element_by f e)
pattern_by f (pattern.Edge way e) = tree.Edge way (element_by f e)
pattern_by f (pattern.Path token regex_at b) = tree.Path token regex_at (body_by f b)

-- the tree of a chain with its graph
abbrev pub located_by : {N : Type 0} → (Sym → N) → Located → TreeOf N ALocated
located_by f l = tree.Located (row (map (pattern_by f) l.chain.parts)) (named_if_by f l.on)

-- the tree of a term to group by
abbrev pub group_term_by : {N : Type 0} → (Sym → N) → GroupTerm → TreeOf N AGroupTerm
group_term_by f t = tree.GroupTerm (named_by f t.name) t.property

-- the same by a name table
abbrev pub named : Names → NameAt → Named
named names = named_by (name_of names)

abbrev pub named_if : Names → Option NameAt → Option Named
named_if names = named_if_by (name_of names)

abbrev pub pattern_tree : Names → Pattern → Tree APattern
pattern_tree names = pattern_by (name_of names)

abbrev pub located_tree : Names → Located → Tree ALocated
located_tree names = located_by (name_of names)

abbrev pub group_term_tree : Names → GroupTerm → Tree AGroupTerm
group_term_tree names = group_term_by (name_of names)

-- the same by the numbers of the names
abbrev pub numbered_element : Element → TreeOf Sym AnElement
numbered_element = element_by (λ sym. sym)

abbrev pub numbered_body : PathBody → TreeOf Sym APathBody
numbered_body = body_by (λ sym. sym)

abbrev pub numbered_pattern : Pattern → TreeOf Sym APattern
numbered_pattern = pattern_by (λ sym. sym)

abbrev pub numbered_located : Located → TreeOf Sym ALocated
numbered_located = located_by (λ sym. sym)

abbrev pub numbered_group_term : GroupTerm → TreeOf Sym AGroupTerm
numbered_group_term = group_term_by (λ sym. sym)
