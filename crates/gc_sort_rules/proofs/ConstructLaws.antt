-- What the items of a CONSTRUCT break is what their places break.
use Rattle.std.proofs.Common.{inl, inr, ◌≡◌, ℕ, ◌+◌, Bool, true, false, not, ◌&&◌, ◌||◌, if◌then◌else◌, List, [], ◌∷◌, ◌++◌, map, Option, None, Some}
use Rattle.std.proofs.Common.{refl, sym, subst}
use Rattle.gc_base.specs.declared.place.Direction.{Direction}
use Rattle.gc_base.specs.declared.place.Direction.TheVariants.{Forward}
use Rattle.gc_ast.specs.Trees as tree
use Rattle.gc_ast.specs.Trees.{Tree, Named, RowOf, AnItem, AConstructPart, ANewElement, AGroupTerm, AnAssign, AChange}
use Rattle.gc_sorts.specs.declared.breach.SortRule.{SortRule}
use Rattle.gc_sorts.specs.declared.breach.SortRule.TheVariants.{UnknownName, AllNotProjected, LooseEdge}
use Rattle.gc_sorts.specs.declared.form.Form.{Form}
use Rattle.gc_sorts.specs.declared.form.Form.TheVariants as form
use Rattle.gc_sorts.specs.declared.form.Takes.TheVariants as takes
use Rattle.gc_sorts.specs.declared.sort.Role.{Role}
use Rattle.gc_sorts.specs.declared.sort.Role.TheVariants as role
use Rattle.gc_sorts.specs.Breaches.{Breaches, IsAmong, none, both, broken, broken_if}
use Rattle.gc_sorts.specs.Constructs.{Made, Making, making, group_uses, copy_uses, term_takes, formula_breaches, assign_breaches}
use Rattle.gc_sorts.specs.Constructs.{made_breaches, copy_breaches, term_breaches}
use Rattle.gc_sorts.specs.Constructs.{is_later, twice, each_twice, second_edge, element_breaches, edge_breaches, projected_misfit}
use Rattle.gc_sorts.specs.Constructs.{stored_breaches, part_breaches}
use Rattle.gc_sorts.specs.Constructs.{all_if, target_breaches, change_breaches, item_breaches}
use Rattle.gc_sorts.specs.Constructs as constructs
use Rattle.gc_sorts.specs.Expressions.{unknown_if, name_breaches}
use Rattle.gc_sorts.specs.Graphs.{has_name, unknown_graph}
use Rattle.gc_sorts.specs.Links.{Link, name_if, part_name, front_part_name, bracket, is_either, bound_if, loose_edge, loose_part}
use Rattle.gc_sorts.specs.Links.{loose_parts, loose_item}
use Rattle.gc_sorts.specs.Patterns.{each}
use Rattle.gc_sorts.specs.Uses.{all_of}
use Rattle.gc_sorts.specs.Variables.{Use, has_use}
use Rattle.gc_sort_rules.specs.AllNotProjected.{is_all}
use Rattle.gc_sort_rules.specs.ConstructPlaces.{Construct, given, when_scope, when_, in_assign, element_name, copied, in_term, group_at}
use Rattle.gc_sort_rules.specs.ConstructPlaces.{copy_at, in_element, edge_name, in_edge, in_part}
use Rattle.gc_sort_rules.specs.ConstructPlaces.{target, in_change, link_at, in_parts, in_item}
use Rattle.gc_sort_rules.specs.ExpressionPlaces.{name_form, named, in_formula}
use Rattle.gc_sort_rules.specs.LooseEdge.{is_loose}
use Rattle.gc_sort_rules.specs.PatternPlaces.{graph_name}
use Rattle.gc_sort_rules.specs.Places.{Scope, Occurrence, At, Name, Projected, EdgeName, EdgeLink, PathLink, Assigned, Elsewhere}
use Rattle.gc_sort_rules.proofs.ExpressionLaws.{name_same, named_same, operand_same, formula_same}
use Rattle.gc_sort_rules.proofs.PatternLaws.{graph_same}
use Rattle.gc_sort_rules.proofs.Same.{Same, Alike, alike_same, none_same, none_before, both_same, then_alike, swapped, pairs, grouped, ungrouped}
use Rattle.gc_sort_rules.proofs.Same.{each_same, each_pair_same, place_same, listed, told}

-- what a CONSTRUCT sees, as gc_sorts has it
abbrev pub held : Construct → Making
held c = making c.scope.variables c.names

assign_same : (c : Construct) (a : Tree AnAssign) → Same (assign_breaches (held c) a) (in_assign c a)
assign_same c (tree.Assign token key value) = formula_same (given c) Assigned takes.Value value

assigns_same : (c : Construct) (assigns : Tree (RowOf AnAssign)) → Same (each (assign_breaches (held c)) assigns) (all_of (in_assign c) assigns)
assigns_same c assigns = each_same (assign_breaches (held c)) (in_assign c) (assign_same c) assigns

-- the name of an element, what is copied and what is grouped by
element_name_same : (c : Construct) (kind : Form) (name : Option Named) → Same (made_breaches (held c) kind name) (element_name c kind name)
element_name_same c kind None = none_same
element_name_same c kind (Some x) = operand_same (takes.Like kind) (name_form (when_ c) x.name) x.token (when_scope c)

copied_same : (c : Construct) (kind : Form) (copy : Option Named) → Same (copy_breaches (held c) kind copy) (copied c kind copy)
copied_same c kind None = none_same
copied_same c kind (Some x) = named_same (given c) (takes.Like kind) x.name x.token

term_same : (c : Construct) (t : Tree AGroupTerm) → Same (term_breaches (held c) t) (in_term c t)
term_same c (tree.GroupTerm x property) = named_same (given c) (term_takes property) x.name x.token

-- a GROUP and a copy
groups_same : (c : Construct) (us : List Use) → Same (each_twice c.scope.variables c.names.groups us) (map (group_at c) us)
groups_same c [] = none_same
groups_same c (u ∷ us) =
    both_same (twice c.scope.variables c.names.groups u) (each_twice c.scope.variables c.names.groups us) (group_at c u ∷ []) (map (group_at c) us)
    (place_same (twice c.scope.variables c.names.groups u) (group_at c u) refl) (groups_same c us)

copies_same : (c : Construct) (us : List Use) → Same (each_twice c.scope.variables c.names.copies us) (map (copy_at c) us)
copies_same c [] = none_same
copies_same c (u ∷ us) =
    both_same (twice c.scope.variables c.names.copies u) (each_twice c.scope.variables c.names.copies us) (copy_at c u ∷ []) (map (copy_at c) us)
    (place_same (twice c.scope.variables c.names.copies u) (copy_at c u) refl) (copies_same c us)

element_alike : (copy terms groups copies assigned : Breaches)
    → Alike (both copy (both terms (both groups (both copies assigned)))) (both copies (both copy (both groups (both terms assigned))))
element_alike copy terms groups copies assigned b = (into, out)
  where
    into : IsAmong b (both copy (both terms (both groups (both copies assigned)))) → IsAmong b (both copies (both copy (both groups (both terms assigned))))
    into (inl m) = inr (inl m)
    into (inr (inl m)) = inr (inr (inr (inl m)))
    into (inr (inr (inl m))) = inr (inr (inl m))
    into (inr (inr (inr (inl m)))) = inl m
    into (inr (inr (inr (inr m)))) = inr (inr (inr (inr m)))

    out : IsAmong b (both copies (both copy (both groups (both terms assigned)))) → IsAmong b (both copy (both terms (both groups (both copies assigned))))
    out (inl m) = inr (inr (inr (inl m)))
    out (inr (inl m)) = inl m
    out (inr (inr (inl m))) = inr (inr (inl m))
    out (inr (inr (inr (inl m)))) = inr (inl m)
    out (inr (inr (inr (inr m)))) = inr (inr (inr (inr m)))

element_same : (c : Construct) (kind : Form) (role : Role) (e : Tree ANewElement) → Same (element_breaches (held c) kind role e) (in_element c kind role e)
element_same c kind role (tree.NewElement token name copy group labels assigns) =
    let assigned : Breaches = each (assign_breaches (held c)) assigns in
    let copies : Breaches = each_twice c.scope.variables c.names.copies (copy_uses role name copy) in
    let groups : Breaches = each_twice c.scope.variables c.names.groups (group_uses role name group) in
    let terms : Breaches = each (term_breaches (held c)) group in
    let original : Breaches = copy_breaches (held c) kind copy in
    let in_assigned : List Occurrence = all_of (in_assign c) assigns in
    let in_copies : List Occurrence = map (copy_at c) (copy_uses role name copy) in
    let in_groups : List Occurrence = map (group_at c) (group_uses role name group) in
    let in_terms : List Occurrence = all_of (in_term c) group in
    both_same (made_breaches (held c) kind name) (both original (both terms (both groups (both copies assigned))))
    (element_name c kind name) (in_copies ++ (copied c kind copy ++ (in_groups ++ (in_terms ++ in_assigned))))
    (element_name_same c kind name)
    (alike_same (both original (both terms (both groups (both copies assigned)))) (both copies (both original (both groups (both terms assigned))))
    (in_copies ++ (copied c kind copy ++ (in_groups ++ (in_terms ++ in_assigned)))) (element_alike original terms groups copies assigned)
    (both_same copies (both original (both groups (both terms assigned))) in_copies (copied c kind copy ++ (in_groups ++ (in_terms ++ in_assigned)))
    (copies_same c (copy_uses role name copy))
    (both_same original (both groups (both terms assigned)) (copied c kind copy) (in_groups ++ (in_terms ++ in_assigned))
    (copied_same c kind copy)
    (both_same groups (both terms assigned) in_groups (in_terms ++ in_assigned) (groups_same c (group_uses role name group))
    (both_same terms assigned in_terms in_assigned (each_same (term_breaches (held c)) (in_term c) (term_same c) group) (assigns_same c assigns))))))

-- the name of an edge besides
edge_name_same : (c : Construct) (name : Option Named) → Same (second_edge (held c) name) (edge_name c name)
edge_name_same c None = none_same
edge_name_same c (Some x) = place_same (second_edge (held c) (Some x)) (At x.token (EdgeName x.name c.names.made) c.scope) refl

edge_same : (c : Construct) (e : Tree ANewElement) → Same (edge_breaches (held c) e) (in_edge c e)
edge_same c (tree.NewElement token name copy group labels assigns) =
    let element : Tree ANewElement = tree.NewElement token name copy group labels assigns in
    both_same (second_edge (held c) name) (element_breaches (held c) form.Edge role.Edge element) (edge_name c name)
    (in_element c form.Edge role.Edge element)
    (edge_name_same c name) (element_same c form.Edge role.Edge element)

-- a path that is projected
projected_told : (known : Form) (token : ℕ) (s : Scope) → listed (projected_misfit known token) [] ≡ told (At token (Projected known) s)
projected_told form.All token s = refl
projected_told form.Unknown token s = refl
projected_told known token s = refl

part_same : (c : Construct) (p : Tree AConstructPart) → Same (part_breaches (held c) p) (in_part c p)
part_same c (tree.NewNode element) = element_same c form.Node role.Node element
part_same c (tree.NewEdge way element) = edge_same c element
part_same c (tree.Projected token path) =
    let known : Form = name_form (given c) path.name in
    both_same (unknown_if known path.token) (projected_misfit known path.token) (At path.token (Name path.name) c.scope ∷ [])
    (At path.token (Projected known) c.scope ∷ []) (name_same c.scope false path.name path.token)
    (place_same (projected_misfit known path.token) (At path.token (Projected known) c.scope) (projected_told known path.token c.scope))
part_same c (tree.NewStored token path labels assigns) =
    both_same (name_breaches (constructs.given (held c)) takes.Walked path.name path.token) (each (assign_breaches (held c)) assigns)
    (named (given c) takes.Walked path.name path.token) (all_of (in_assign c) assigns)
    (named_same (given c) takes.Walked path.name path.token) (assigns_same c assigns)

-- a target of SET or REMOVE
target_test : (is_target : Bool) (known : Form) (token : ℕ)
    → listed (if is_target then all_if known token else broken UnknownName token) []
    ≡ listed (broken_if (not is_target) UnknownName token) (listed (broken_if (is_target && is_all known) AllNotProjected token) [])
target_test true form.All token = refl
target_test true known token = refl
target_test false known token = refl

target_same : (c : Construct) (x : Named) → Same (target_breaches (held c) x) (target c x ∷ [])
target_same c x =
    place_same (target_breaches (held c) x) (target c x)
    (target_test (has_use c.names.made x.name || has_name c.names.stored x.name) (name_form (given c) x.name) x.token)

change_same : (c : Construct) (change : Tree AChange) → Same (change_breaches (held c) change) (in_change c change)
change_same c (tree.SetProperty x assign) =
    both_same (target_breaches (held c) x) (assign_breaches (held c) assign) (target c x ∷ []) (in_assign c assign)
    (target_same c x) (assign_same c assign)
change_same c (tree.AddLabel x label) = target_same c x
change_same c (tree.DropProperty x property) = target_same c x
change_same c (tree.DropLabel x label) = target_same c x

-- links
one_of_two : (test a b : Bool) (rule : SortRule) (token : ℕ)
    → (if test then broken_if a rule token else broken_if b rule token) ≡ broken_if (if test then a else b) rule token
one_of_two true a b rule token = refl
one_of_two false a b rule token = refl

one_or_none : (test a : Bool) (rule : SortRule) (token : ℕ) → (if test then broken_if a rule token else none) ≡ broken_if (test && a) rule token
one_or_none true a rule token = refl
one_or_none false a rule token = refl

edge_link_same : (c : Construct) (left right : Option (List ℕ)) (way : Direction) (token : ℕ) (name : Option (List ℕ))
    → Same (loose_edge c.scope.variables c.links left right way token name) (At token (EdgeLink name left right way c.links) c.scope ∷ [])
edge_link_same c left right way token None =
    place_same (broken_if (is_either way) LooseEdge token) (At token (EdgeLink None left right way c.links) c.scope) refl
edge_link_same c left right way token (Some name) =
    let link : Link = record { name = name; left = left; right = right; way = way } in
    let bound : Bool = has_use c.scope.variables name in
    subst (λ bs. Same bs (At token (EdgeLink (Some name) left right way c.links) c.scope ∷ []))
    (sym (one_of_two bound (is_loose c.links link) (is_either way) LooseEdge token))
    (place_same (broken_if (if bound then is_loose c.links link else is_either way) LooseEdge token)
    (At token (EdgeLink (Some name) left right way c.links) c.scope) refl)

path_link_same : (c : Construct) (link : Link) (token : ℕ)
    → Same (bound_if c.scope.variables c.links link token) (At token (PathLink link c.links) c.scope ∷ [])
path_link_same c link token =
    subst (λ bs. Same bs (At token (PathLink link c.links) c.scope ∷ []))
    (sym (one_or_none (has_use c.scope.variables link.name) (is_loose c.links link) LooseEdge token))
    (place_same (broken_if (has_use c.scope.variables link.name && is_loose c.links link) LooseEdge token) (At token (PathLink link c.links) c.scope) refl)

link_same : (c : Construct) (left right : Option (List ℕ)) (p : Tree AConstructPart)
    → Same (loose_part c.scope.variables c.links left right p) (link_at c left right p)
link_same c left right (tree.NewNode element) = none_same
link_same c left right (tree.NewEdge way (tree.NewElement token name copy group labels assigns)) =
    edge_link_same c left right way (bracket way token) (name_if name)
link_same c left right (tree.Projected token path) =
    path_link_same c (record { name = path.name; left = left; right = right; way = Forward }) (token + 1)
link_same c left right (tree.NewStored token path labels assigns) =
    path_link_same c (record { name = path.name; left = left; right = right; way = Forward }) (token + 1)

parts_same : (c : Construct) (left : Option (List ℕ)) (parts : Tree (RowOf AConstructPart))
    → Same (both (loose_parts c.scope.variables c.links left parts) (each (part_breaches (held c)) parts)) (in_parts c left parts)
parts_same c left tree.none = alike_same (both none none) none [] (λ b. ((none_before none b).1, (none_before none b).0)) none_same
parts_same c left (tree.more part parts) =
    let link : Breaches = loose_part c.scope.variables c.links left (front_part_name parts) part in
    let links : Breaches = loose_parts c.scope.variables c.links (part_name part) parts in
    let made : Breaches = part_breaches (held c) part in
    let rest : Breaches = each (part_breaches (held c)) parts in
    let in_rest : List Occurrence = in_parts c (part_name part) parts in
    alike_same (both (both link links) (both made rest)) (both link (both made (both links rest)))
    (link_at c left (front_part_name parts) part ++ (in_part c part ++ in_rest))
    (then_alike (both (both link links) (both made rest)) (both (both link made) (both links rest)) (both link (both made (both links rest)))
    (pairs link links made rest) (ungrouped link made (both links rest)))
    (both_same link (both made (both links rest)) (link_at c left (front_part_name parts) part) (in_part c part ++ in_rest)
    (link_same c left (front_part_name parts) part)
    (both_same made (both links rest) (in_part c part) in_rest (part_same c part) (parts_same c (part_name part) parts)))

-- an item with its links
item_same : (c : Construct) (item : Tree AnItem)
    → Same (both (item_breaches c.scope.graphs (held c) item) (loose_item c.scope.variables c.links item)) (in_item c item)
item_same c (tree.GraphItem graph) =
    both_same (unknown_graph c.scope.graphs graph) none (graph_name c.scope graph ∷ []) [] (graph_same c.scope graph) none_same
item_same c (tree.ChainItem parts changes condition) =
    let made : Breaches = each (part_breaches (held c)) parts in
    let changed : Breaches = each (change_breaches (held c)) changes in
    let asked : Breaches = each (formula_breaches (constructs.when_ (held c)) false takes.Condition) condition in
    let loose : Breaches = loose_parts c.scope.variables c.links None parts in
    let in_changed : List Occurrence = all_of (in_change c) changes in
    let in_asked : List Occurrence = all_of (in_formula (when_ c) Elsewhere takes.Condition) condition in
    alike_same (both (both made (both changed asked)) loose) (both (both loose made) (both changed asked))
    (in_parts c None parts ++ (in_changed ++ in_asked))
    (then_alike (both (both made (both changed asked)) loose) (both loose (both made (both changed asked))) (both (both loose made) (both changed asked))
    (swapped (both made (both changed asked)) loose) (grouped loose made (both changed asked)))
    (both_same (both loose made) (both changed asked) (in_parts c None parts) (in_changed ++ in_asked) (parts_same c None parts)
    (both_same changed asked in_changed in_asked
    (each_same (change_breaches (held c)) (in_change c) (change_same c) changes)
    (each_same (formula_breaches (constructs.when_ (held c)) false takes.Condition) (in_formula (when_ c) Elsewhere takes.Condition)
    (formula_same (when_ c) Elsewhere takes.Condition) condition)))

pub items_same : (c : Construct) (items : Tree (RowOf AnItem))
    → Same (both (each (item_breaches c.scope.graphs (held c)) items) (each (loose_item c.scope.variables c.links) items)) (all_of (in_item c) items)
items_same c items =
    each_pair_same (item_breaches c.scope.graphs (held c)) (loose_item c.scope.variables c.links) (in_item c) (item_same c) items
