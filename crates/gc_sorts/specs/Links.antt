-- The links of a CONSTRUCT: one that the MATCH binds stands between its own ends, with its own arrow, and
-- a new edge has a direction.
use Rattle.std.specs.Prelude.{ℕ, ◌+◌, List, [], ◌∷◌, ◌++◌, Bool, true, false, not, ◌&&◌, ◌||◌, Option, Some, None, if◌then◌else◌}
use Rattle.std.specs.List.{list_any}
use Rattle.std.specs.Option.{option_map}
use Rattle.gc_base.specs.declared.place.Direction.{Direction}
use Rattle.gc_base.specs.declared.place.Direction.TheVariants.{Forward, Backward, Either}
use Rattle.gc_expr.specs.Views.{Names, name_of}
use Rattle.gc_ast.specs.Names.{same_name}
use Rattle.gc_ast.specs.Trees as tree
use Rattle.gc_ast.specs.Trees.{Tree, Named, RowOf, ABlock, AnOptional, ALocated, APattern, AnElement, APathBody, AnItem, AConstructPart, ANewElement}
use Rattle.gc_sorts.specs.declared.breach.SortRule.TheVariants.{LooseEdge}
use Rattle.gc_sorts.specs.declared.link.LinkAt.{LinkAt}
use Rattle.gc_sorts.specs.Breaches.{Breaches, none, both, broken_if}
use Rattle.gc_sorts.specs.Uses.{all_of, optional_uses}
use Rattle.gc_sorts.specs.Variables.{Use, has_use}

-- a link of a named variable between its neighbours, which may have no name
pub record Link : Type 0 where
  pub name : List ℕ
  pub left : Option (List ℕ)
  pub right : Option (List ℕ)
  pub way : Direction

-- a link with the bytes of its names
abbrev pub link_by : Names → LinkAt → Link
link_by names l =
    record { name = name_of names l.name; left = option_map (name_of names) l.left; right = option_map (name_of names) l.right; way = l.way }

-- an arrow from the other side
abbrev pub turned : Direction → Direction
turned Forward = Backward
turned Backward = Forward
turned Either = Either

abbrev pub same_way : Direction → Direction → Bool
same_way Forward Forward = true
same_way Backward Backward = true
same_way Either Either = true
same_way a b = false

-- two neighbours are the same where both have one name
abbrev pub same_neighbour : Option (List ℕ) → Option (List ℕ) → Bool
same_neighbour None other = false
same_neighbour (Some a) None = false
same_neighbour (Some a) (Some b) = same_name a b

-- a link is another one, as it is read or from the other side
abbrev pub fits : Link → Link → Bool
fits a b =
    same_name a.name b.name
    && ((same_neighbour a.left b.left && (same_neighbour a.right b.right && same_way a.way b.way))
    || (same_neighbour a.left b.right && (same_neighbour a.right b.left && same_way a.way (turned b.way))))

-- the bytes of a name that may be absent
abbrev pub name_if : Option Named → Option (List ℕ)
name_if None = None
name_if (Some x) = Some x.name

-- the name of an element, of a node at the front of the parts of a chain, and of a path
abbrev pub element_name : Tree AnElement → Option (List ℕ)
element_name (tree.Element token name labels properties) = name_if name

abbrev pub node_name : Tree APattern → Option (List ℕ)
node_name (tree.Node element) = element_name element
node_name pattern = None

abbrev pub front_name : Tree (RowOf APattern) → Option (List ℕ)
front_name tree.none = None
front_name (tree.more part parts) = node_name part

abbrev pub path_name : Tree APathBody → Option (List ℕ)
path_name (tree.Reach regex views) = None
path_name (tree.Found k path regex views cost) = Some path.name
path_name (tree.All path regex views) = Some path.name
path_name (tree.Stored path labels) = Some path.name

-- a link of a variable that has no place before its block
abbrev pub link_if : List Use → Option (List ℕ) → Option (List ℕ) → Option (List ℕ) → Direction → List Link
link_if before None left right way = []
link_if before (Some name) left right way =
    if has_use before name then [] else record { name = name; left = left; right = right; way = way } ∷ []

-- the link that a part of a chain is, if it is one; path patterns go forward
abbrev pub pattern_links : List Use → Option (List ℕ) → Option (List ℕ) → Tree APattern → List Link
pattern_links before left right (tree.Node element) = []
pattern_links before left right (tree.Edge way element) = link_if before (element_name element) left right way
pattern_links before left right (tree.Path token regex_at body) = link_if before (path_name body) left right Forward

-- the links of the parts of a chain behind a part of a name
abbrev pub chain_links : List Use → Option (List ℕ) → Tree (RowOf APattern) → List Link
chain_links before left tree.none = []
chain_links before left (tree.more part parts) =
    pattern_links before left (front_name parts) part ++ chain_links before (node_name part) parts

abbrev pub located_links : List Use → Tree ALocated → List Link
located_links before (tree.Located parts on) = chain_links before None parts

abbrev pub block_links : List Use → Tree ABlock → List Link
block_links before (tree.Block patterns filter) = all_of (located_links before) patterns

-- those of OPTIONAL blocks behind some places
abbrev pub links_in : List Use → Tree AnOptional → List Link
links_in before (tree.Optional token block) = block_links before block

abbrev pub optional_links : List Use → Tree (RowOf AnOptional) → List Link
optional_links before tree.none = []
optional_links before (tree.more o os) = links_in before o ++ optional_links (before ++ optional_uses o) os

-- the name of a node of a construct chain, and of one at the front of its parts
abbrev pub new_name : Tree ANewElement → Option (List ℕ)
new_name (tree.NewElement token name copy group labels assigns) = name_if name

abbrev pub part_name : Tree AConstructPart → Option (List ℕ)
part_name (tree.NewNode element) = new_name element
part_name part = None

abbrev pub front_part_name : Tree (RowOf AConstructPart) → Option (List ℕ)
front_part_name tree.none = None
front_part_name (tree.more part parts) = part_name part

-- the `[` of an edge, which stands behind `-` or `<-`
abbrev pub bracket : Direction → ℕ → ℕ
bracket Backward token = token + 2
bracket way token = token + 1

abbrev pub is_either : Direction → Bool
is_either Either = true
is_either way = false

-- a link that the MATCH binds
abbrev pub bound_link : List Link → Link → ℕ → Breaches
bound_link links link token = broken_if (not (list_any (fits link) links)) LooseEdge token

abbrev pub bound_if : List Use → List Link → Link → ℕ → Breaches
bound_if matched links link token = if has_use matched link.name then bound_link links link token else none

-- an edge: one that the MATCH binds has to fit, a new one needs a direction
abbrev pub loose_edge : List Use → List Link → Option (List ℕ) → Option (List ℕ) → Direction → ℕ → Option (List ℕ) → Breaches
loose_edge matched links left right way token None = broken_if (is_either way) LooseEdge token
loose_edge matched links left right way token (Some name) =
    if has_use matched name then bound_link links (record { name = name; left = left; right = right; way = way }) token
    else broken_if (is_either way) LooseEdge token

-- a part of a construct chain between its neighbours
abbrev pub loose_part : List Use → List Link → Option (List ℕ) → Option (List ℕ) → Tree AConstructPart → Breaches
loose_part matched links left right (tree.NewNode element) = none
loose_part matched links left right (tree.NewEdge way (tree.NewElement token name copy group labels assigns)) =
    loose_edge matched links left right way (bracket way token) (name_if name)
loose_part matched links left right (tree.Projected token path) =
    bound_if matched links (record { name = path.name; left = left; right = right; way = Forward }) (token + 1)
loose_part matched links left right (tree.NewStored token path labels assigns) =
    bound_if matched links (record { name = path.name; left = left; right = right; way = Forward }) (token + 1)

-- the parts of a construct chain behind a part of a name
abbrev pub loose_parts : List Use → List Link → Option (List ℕ) → Tree (RowOf AConstructPart) → Breaches
loose_parts matched links left tree.none = none
loose_parts matched links left (tree.more part parts) =
    both (loose_part matched links left (front_part_name parts) part) (loose_parts matched links (part_name part) parts)

abbrev pub loose_item : List Use → List Link → Tree AnItem → Breaches
loose_item matched links (tree.GraphItem graph) = none
loose_item matched links (tree.ChainItem parts changes condition) = loose_parts matched links None parts
