-- What a query file breaks is what its places break.
use Rattle.std.proofs.Common.{◌≡◌, ◌↔◌, inl, inr, ℕ, zero, suc, false, not, List, [], ◌∷◌, ◌++◌, Any, refl, sym, ap, ap₂, ◌||◌, ◌∙◌, subst}
use Rattle.std.proofs.Common.{append_assoc, append-nil, arith}
use Rattle.gc_ast.specs.Trees as tree
use Rattle.gc_ast.specs.Trees.{Tree, Kind, Named, RowOf, AStatement, AQuery, AFormula, APattern, AnItem, ABlock, AnOptional, ALocated}
use Rattle.gc_sorts.specs.declared.breach.Breach.{Breach}
use Rattle.gc_sorts.specs.declared.breach.SortRule.{SortRule}
use Rattle.gc_sorts.specs.declared.breach.SortRule.TheVariants.{ViewNeedsEdge}
use Rattle.gc_sorts.specs.declared.form.Takes.TheVariants as takes
use Rattle.gc_sorts.specs.Breaches.{Breaches, both, IsAmong, broken_if}
use Rattle.gc_sorts.specs.Constructs.{formula_breaches}
use Rattle.gc_sorts.specs.Expressions.{expression_breaches}
use Rattle.gc_sorts.specs.Graphs.{taken}
use Rattle.gc_sorts.specs.Matches.{place_breaches, each_use}
use Rattle.gc_sorts.specs.Patterns as sort_patterns
use Rattle.gc_sorts.specs.Patterns.{each, pattern_breaches, patterns_breaches, begins_with_edge}
use Rattle.gc_sorts.specs.Sizes.{too_many, pattern_tokens}
use Rattle.gc_sorts.specs.SortRules as sorts
use Rattle.gc_sorts.specs.SortRules.{Sights, graphs_in, where_, in_view, view_uses, view_breaches, match_breaches, construct_breaches}
use Rattle.gc_sorts.specs.SortRules.{seen_in, breaches, file_breaches}
use Rattle.gc_sorts.specs.Uses.{all_of, pattern_uses}
use Rattle.gc_sorts.specs.Variables.{Use}
use Rattle.gc_sort_rules.specs.ConstructPlaces.{in_item}
use Rattle.gc_sort_rules.specs.ExpressionPlaces.{Setting, in_expression, in_formula, queries_of}
use Rattle.gc_sort_rules.specs.Occurrences as places
use Rattle.gc_sort_rules.specs.Occurrences.{with_graph, with_view, with_variables, behind, behind_all, in_scope, construct, occurrences}
use Rattle.gc_sort_rules.specs.Occurrences.{file_occurrences}
use Rattle.gc_sort_rules.specs.PatternPlaces.{numbered, in_pattern, in_patterns, bindings, in_match}
use Rattle.gc_sort_rules.specs.Places.{Scope, Occurrence, At, NewGraph, NewView, Pattern, Elsewhere}
use Rattle.gc_sort_rules.specs.ViewNeedsEdge.{is_edge, has_edge, first_has_edge}
use Rattle.gc_sort_rules.specs.Rules.{BreaksAt, Breaks}
use Rattle.gc_sort_rules.proofs.ConstructLaws.{items_same}
use Rattle.gc_sort_rules.proofs.ExpressionLaws.{expression_same, formula_same, existences}
use Rattle.gc_sort_rules.proofs.PatternLaws.{graph_same, pattern_same, patterns_same, pattern_count_same, bindings_same, match_same}
use Rattle.gc_sort_rules.proofs.Same.{Same, BrokenIn, Alike, alike_same, none_same, both_same, second_first, each_same, place_same, listed}

-- what is in scope, as gc_sorts has it
abbrev scope_of : Sights → Scope
scope_of s = record { graphs = graphs_in s; views = s.views; variables = s.uses }

with_graph_of : (s : Sights) (name : List ℕ) → scope_of (record s { declared = s.declared ++ name ∷ [] }) ≡ with_graph (scope_of s) name
with_graph_of s name = ap (λ graphs. record { graphs = graphs; views = s.views; variables = s.uses }) (sym (append_assoc s.loaded s.declared (name ∷ [])))

behind_of : {k : Kind} (s : Sights) (t : Tree k) → scope_of (sorts.behind s t) ≡ behind (scope_of s) t
behind_of s (tree.View g query) = with_graph_of s g.name
behind_of s (tree.GraphHead g query) = with_graph_of s g.name
behind_of s (tree.PathHead v chains filter cost) = refl
behind_of s other = refl

behind_all_of : {k : Kind} (s : Sights) (ts : Tree (RowOf k)) → scope_of (sorts.behind_all s ts) ≡ behind_all (scope_of s) ts
behind_all_of s tree.none = refl
behind_all_of s (tree.more t ts) = behind_all_of (sorts.behind s t) ts ∙ ap (λ scope. behind_all scope ts) (behind_of s t)

-- whether the first chain of a PATH has an edge
edge_alike : (p : Tree APattern) → sort_patterns.is_edge p ≡ is_edge p
edge_alike (tree.Edge way element) = refl
edge_alike pattern = refl

edges_alike : (parts : Tree (RowOf APattern)) → sort_patterns.has_edge parts ≡ has_edge parts
edges_alike tree.none = refl
edges_alike (tree.more part parts) = ap₂ (λ a b. a || b) (edge_alike part) (edges_alike parts)

first_edge_alike : (chains : Tree (RowOf (RowOf APattern))) → begins_with_edge chains ≡ first_has_edge chains
first_edge_alike tree.none = refl
first_edge_alike (tree.more chain chains) = edges_alike chain

-- the name that a GRAPH gives, and that of a PATH
new_graph_same : (s : Scope) (g : Named) → Same (taken s.graphs g) (At g.token (NewGraph g.name) s ∷ [])
new_graph_same s g = place_same (taken s.graphs g) (At g.token (NewGraph g.name) s) refl

new_view_same : (s : Scope) (v : Named) (chains : Tree (RowOf (RowOf APattern)))
    → Same (both (broken_if (not (begins_with_edge chains)) ViewNeedsEdge v.token) (taken s.views v)) (At v.token (NewView v.name chains) s ∷ [])
new_view_same s v chains =
    place_same (both (broken_if (not (begins_with_edge chains)) ViewNeedsEdge v.token) (taken s.views v)) (At v.token (NewView v.name chains) s)
    (ap (λ t. listed (broken_if (not t) ViewNeedsEdge v.token) (listed (taken s.views v) [])) (first_edge_alike chains))

-- a PATH
view_alike : (name edge chains count variables rest : Breaches)
    → Alike (both name (both (both edge (both chains count)) (both variables rest)))
    (both (both edge name) (both chains (both count (both variables rest))))
view_alike name edge chains count variables rest b = (into, out)
  where
    into : IsAmong b (both name (both (both edge (both chains count)) (both variables rest)))
        → IsAmong b (both (both edge name) (both chains (both count (both variables rest))))
    into (inl m) = inl (inr m)
    into (inr (inl (inl m))) = inl (inl m)
    into (inr (inl (inr (inl m)))) = inr (inl m)
    into (inr (inl (inr (inr m)))) = inr (inr (inl m))
    into (inr (inr m)) = inr (inr (inr m))

    out : IsAmong b (both (both edge name) (both chains (both count (both variables rest))))
        → IsAmong b (both name (both (both edge (both chains count)) (both variables rest)))
    out (inl (inl m)) = inr (inl (inl m))
    out (inl (inr m)) = inl m
    out (inr (inl m)) = inr (inl (inr (inl m)))
    out (inr (inr (inl m))) = inr (inl (inr (inr m)))
    out (inr (inr (inr m))) = inr (inr m)

view_same : (s : Sights) (v : Named) (chains : Tree (RowOf (RowOf APattern))) (filter cost : Tree (RowOf AFormula))
    → Same (view_breaches s v chains filter cost)
    (At v.token (NewView v.name chains) (scope_of s) ∷ places.in_view (with_variables (scope_of s) (view_uses s chains)) chains filter cost)
view_same s v chains filter cost =
    let inside : Scope = with_variables (scope_of s) (view_uses s chains) in
    let uses : List Use = all_of (all_of pattern_uses) chains in
    let tokens : List ℕ = all_of (all_of pattern_tokens) chains in
    let name : Breaches = taken s.views v in
    let edge : Breaches = broken_if (not (begins_with_edge chains)) ViewNeedsEdge v.token in
    let walks : Breaches = each (each (pattern_breaches s.views)) chains in
    let bound : Breaches = each_use (place_breaches (view_uses s chains)) uses in
    let asked : Breaches = each (formula_breaches (in_view (view_uses s chains)) false takes.Condition) filter in
    let paid : Breaches = each (formula_breaches (in_view (view_uses s chains)) false takes.Value) cost in
    let in_walks : List Occurrence = all_of (all_of (in_pattern inside)) chains in
    let in_bound : List Occurrence = bindings inside inside.variables [] uses in
    let in_asked : List Occurrence = all_of (in_formula (in_scope inside) Elsewhere takes.Condition) filter in
    let in_paid : List Occurrence = all_of (in_formula (in_scope inside) Elsewhere takes.Value) cost in
    alike_same (both name (both (both edge (both walks (too_many tokens))) (both bound (both asked paid))))
    (both (both edge name) (both walks (both (too_many tokens) (both bound (both asked paid)))))
    (At v.token (NewView v.name chains) (scope_of s) ∷ (in_walks ++ (numbered inside Pattern 0 tokens ++ (in_bound ++ (in_asked ++ in_paid)))))
    (view_alike name edge walks (too_many tokens) bound (both asked paid))
    (both_same (both edge name) (both walks (both (too_many tokens) (both bound (both asked paid)))) (At v.token (NewView v.name chains) (scope_of s) ∷ [])
    (in_walks ++ (numbered inside Pattern 0 tokens ++ (in_bound ++ (in_asked ++ in_paid)))) (new_view_same (scope_of s) v chains)
    (both_same walks (both (too_many tokens) (both bound (both asked paid))) in_walks
    (numbered inside Pattern 0 tokens ++ (in_bound ++ (in_asked ++ in_paid)))
    (each_same (each (pattern_breaches s.views)) (all_of (in_pattern inside))
    (each_same (pattern_breaches s.views) (in_pattern inside) (pattern_same inside)) chains)
    (both_same (too_many tokens) (both bound (both asked paid)) (numbered inside Pattern 0 tokens) (in_bound ++ (in_asked ++ in_paid))
    (pattern_count_same inside tokens)
    (both_same bound (both asked paid) in_bound (in_asked ++ in_paid) (bindings_same inside inside.variables uses)
    (both_same asked paid in_asked in_paid
    (each_same (formula_breaches (in_view (view_uses s chains)) false takes.Condition) (in_formula (in_scope inside) Elsewhere takes.Condition)
    (formula_same (in_scope inside) Elsewhere takes.Condition) filter)
    (each_same (formula_breaches (in_view (view_uses s chains)) false takes.Value) (in_formula (in_scope inside) Elsewhere takes.Value)
    (formula_same (in_scope inside) Elsewhere takes.Value) cost))))))

-- each tree
tree_same : {k : Kind} (s : Sights) (t : Tree k) → Same (breaches s t) (occurrences (scope_of s) t)
unfolding breaches occurrences
tree_same s (tree.View g query) =
    both_same (taken (graphs_in s) g) (breaches s query) (At g.token (NewGraph g.name) (scope_of s) ∷ []) (occurrences (scope_of s) query)
    (new_graph_same (scope_of s) g) (tree_same s query)
tree_same s (tree.Ask query) = tree_same s query
tree_same s (tree.Query heads first rest) =
    both_same (breaches s heads) (both (breaches (sorts.behind_all s heads) first) (breaches (sorts.behind_all s heads) rest))
    (occurrences (scope_of s) heads) (occurrences (behind_all (scope_of s) heads) first ++ occurrences (behind_all (scope_of s) heads) rest)
    (tree_same s heads)
    (subst (λ scope. Same (both (breaches (sorts.behind_all s heads) first) (breaches (sorts.behind_all s heads) rest))
    (occurrences scope first ++ occurrences scope rest))
    (behind_all_of s heads)
    (both_same (breaches (sorts.behind_all s heads) first) (breaches (sorts.behind_all s heads) rest)
    (occurrences (scope_of (sorts.behind_all s heads)) first) (occurrences (scope_of (sorts.behind_all s heads)) rest)
    (tree_same (sorts.behind_all s heads) first) (tree_same (sorts.behind_all s heads) rest)))
tree_same s (tree.NextTerm op term) = tree_same s term
tree_same s (tree.BasicTerm basic) = tree_same s basic
tree_same s (tree.GraphTerm g) = graph_same (scope_of s) g
tree_same s (tree.QueryTerm query) = tree_same s query
tree_same s (tree.PathHead v chains filter cost) = view_same s v chains filter cost
tree_same s (tree.GraphHead g query) =
    both_same (taken (graphs_in s) g) (breaches s query) (At g.token (NewGraph g.name) (scope_of s) ∷ []) (occurrences (scope_of s) query)
    (new_graph_same (scope_of s) g) (tree_same s query)
tree_same s (tree.Basic token items main optionals) =
    let matched : Breaches = match_breaches s.uses main optionals in
    let made : Breaches = construct_breaches (graphs_in s) s.uses items main optionals in
    let later : Breaches = both (breaches s main) (breaches s optionals) in
    let inside : Scope = with_variables (scope_of s) (sorts.match_uses s.uses main optionals) in
    let in_made : List Occurrence = all_of (in_item (construct (scope_of s) items main optionals)) items in
    let in_later : List Occurrence = occurrences (scope_of s) main ++ occurrences (scope_of s) optionals in
    alike_same (both matched (both made later)) (both made (both matched later)) (in_made ++ (in_match inside s.uses main optionals ++ in_later))
    (second_first matched made later)
    (both_same made (both matched later) in_made (in_match inside s.uses main optionals ++ in_later)
    (items_same (construct (scope_of s) items main optionals) items)
    (both_same matched later (in_match inside s.uses main optionals) in_later (match_same inside s.uses main optionals refl)
    (both_same (breaches s main) (breaches s optionals) (occurrences (scope_of s) main) (occurrences (scope_of s) optionals)
    (tree_same s main) (tree_same s optionals))))
tree_same s (tree.Block patterns filter) =
    let seen : Sights = record s { uses = seen_in s patterns } in
    both_same (patterns_breaches (graphs_in s) s.views patterns) (breaches seen filter) (in_patterns (scope_of s) patterns)
    (occurrences (scope_of seen) filter) (patterns_same (scope_of s) patterns) (tree_same seen filter)
tree_same s (tree.Optional token block) = tree_same s block
tree_same s (tree.Formula e queries) =
    let setting : Setting = record { scope = scope_of s; stored = []; queries = queries_of queries } in
    both_same (expression_breaches (where_ s.uses queries) false takes.Condition 0 e) (breaches s queries)
    (in_expression setting Elsewhere takes.Condition 0 e) (occurrences (scope_of s) queries)
    (subst (λ exists. Same (expression_breaches (record { uses = s.uses; stored = []; exists = exists }) false takes.Condition 0 e)
    (in_expression setting Elsewhere takes.Condition 0 e))
    (sym (existences queries)) (expression_same setting Elsewhere takes.Condition 0 e))
    (tree_same s queries)
tree_same s tree.none = none_same
tree_same s (tree.more t ts) =
    both_same (breaches s t) (breaches (sorts.behind s t) ts) (occurrences (scope_of s) t) (occurrences (behind (scope_of s) t) ts)
    (tree_same s t)
    (subst (λ scope. Same (breaches (sorts.behind s t) ts) (occurrences scope ts)) (behind_of s t) (tree_same (sorts.behind s t) ts))
tree_same s other = none_same

file_same : (graphs : List (List ℕ)) (statements : Tree (RowOf AStatement)) → Same (file_breaches graphs statements) (file_occurrences graphs statements)
file_same graphs statements =
    subst (λ names. Same (file_breaches graphs statements) (occurrences (record { graphs = names; views = []; variables = [] }) statements))
    (append-nil graphs) (tree_same (record { loaded = graphs; declared = []; views = []; uses = [] }) statements)

-- one of some places by its number
some_place : (os : List Occurrence) (rule : SortRule) (token : ℕ) → BrokenIn os rule token → Any (BreaksAt rule token) os
some_place [] rule token h = absurd h
some_place (o ∷ os) rule token (inl h) = (0, o, omega arith, refl, h)
some_place (o ∷ os) rule token (inr h) = later (some_place os rule token h)
  where
    later : Any (BreaksAt rule token) os → Any (BreaksAt rule token) (o ∷ os)
    later a = (suc a.0, a.1, (let l = a.2 in omega arith), a.3, a.4)

place_of : (os : List Occurrence) (rule : SortRule) (token : ℕ) → Any (BreaksAt rule token) os → BrokenIn os rule token
place_of [] rule token h = absurd (let l = h.2 in omega arith)
place_of (o ∷ os) rule token (zero, p, l, e, h) = inl (subst (BreaksAt rule token) (sym e) h)
place_of (o ∷ os) rule token (suc k, p, l, e, h) = inr (place_of os rule token (k, p, omega arith, e, h))

pub breaches_are_broken : (graphs : List (List ℕ)) (statements : Tree (RowOf AStatement)) (b : Breach)
    → IsAmong b (file_breaches graphs statements) ↔ Breaks graphs statements b.rule b.token
breaches_are_broken graphs statements b =
    let os : List Occurrence = file_occurrences graphs statements in
    (λ m. some_place os b.rule b.token ((file_same graphs statements b).0 m), λ h. (file_same graphs statements b).1 (place_of os b.rule b.token h))
