-- What patterns break is what their places break.
use Rattle.std.proofs.Common.{ℤ, pos, negsuc, ◌≡◌, ℕ, zero, suc, ◌+◌, ◌<◌, Bool, true, false, not, ◌&&◌, nat_eq, if◌then◌else◌}
use Rattle.std.proofs.Common.{List, [], ◌∷◌, ◌++◌, map, length, Option, None, Some, slice_get, refl, sym, subst, append_assoc, append-nil, arith}
use Rattle.std.proofs.lemmas.Bool.Decides.{nat_tests}
use Rattle.gc_ast.specs.declared.pattern.CountAt.{CountAt}
use Rattle.gc_ast.specs.Trees as tree
use Rattle.gc_ast.specs.Trees.{Tree, Named, RowOf, ABlock, AnOptional, ALocated, APattern, APathBody}
use Rattle.gc_regx.specs.Trees.{RegexTree, ARegex}
use Rattle.gc_sorts.specs.declared.breach.Breach.{Breach}
use Rattle.gc_sorts.specs.declared.breach.SortRule.TheVariants.{KOutOfRange, TooLarge, SortClash, TwiceBound, SharedOptional, UnknownView}
use Rattle.gc_sorts.specs.Breaches.{Breaches, none, both, broken, broken_if}
use Rattle.gc_sorts.specs.Graphs.{has_name, unknown_graph, unknown_graph_if, unknown_views}
use Rattle.gc_sorts.specs.Constructs.{is_later}
use Rattle.gc_sorts.specs.Matches.{beside, place_breaches, each_use, shared_place, shared_breaches}
use Rattle.gc_sorts.specs.Patterns.{each, path_breaches, pattern_breaches, located_breaches, patterns_breaches}
use Rattle.gc_sorts.specs.Sizes.{is_in_range, too_many_states, out_of_range, too_many, broken_at_if, located_tokens, optional_tokens}
use Rattle.gc_sorts.specs.SortRules.{match_uses, match_breaches}
use Rattle.gc_sorts.specs.Uses.{all_of, block_uses, optional_uses}
use Rattle.gc_sorts.specs.Variables.{Use, first_use, has_use}
use Rattle.gc_sort_rules.specs.Places.{Scope, Place, Occurrence, At, ViewName, Count, Regex, Pattern, Optional}
use Rattle.gc_sort_rules.specs.PatternPlaces.{numbered, graph_name, graph_name_if, view_names, count_if, in_path, in_pattern, in_located, in_patterns}
use Rattle.gc_sort_rules.specs.PatternPlaces.{binding, bindings, optional_bindings, in_match}
use Rattle.gc_sort_rules.specs.SortClash.{is_other}
use Rattle.gc_sort_rules.specs.TwiceBound.{stands_once}
use Rattle.gc_sort_rules.proofs.Same.{Same, alike_same, none_same, both_same, none_before, none_behind, alike_left, alike_right, then_alike}
use Rattle.gc_sort_rules.proofs.Same.{Alike, swapped, second_first, pairs, grouped, ungrouped, each_same, each_use_same, place_same, listed, told}
use Rattle.gc_sort_rules.proofs.SharedLaws.{shared_is}

pub graph_same : (s : Scope) (g : Named) → Same (unknown_graph s.graphs g) (graph_name s g ∷ [])
graph_same s g = place_same (unknown_graph s.graphs g) (graph_name s g) refl

graph_if_same : (s : Scope) (g : Option Named) → Same (unknown_graph_if s.graphs g) (graph_name_if s g)
graph_if_same s None = none_same
graph_if_same s (Some g) = graph_same s g

view_same : (s : Scope) (v : Named) → Same (broken_if (not (has_name s.views v.name)) UnknownView v.token) (At v.token (ViewName v.name) s ∷ [])
view_same s v = place_same (broken_if (not (has_name s.views v.name)) UnknownView v.token) (At v.token (ViewName v.name) s) refl

views_same : (s : Scope) (vs : List Named) → Same (unknown_views s.views vs) (view_names s vs)
views_same s [] = none_same
views_same s (v ∷ vs) =
    both_same (broken_if (not (has_name s.views v.name)) UnknownView v.token) (unknown_views s.views vs) (At v.token (ViewName v.name) s ∷ [])
    (view_names s vs) (view_same s v) (views_same s vs)

count_told : (k : ℤ) (token : ℕ) (s : Scope) → listed (broken_if (not (is_in_range k)) KOutOfRange token) [] ≡ told (At token (Count k) s)
count_told (pos n) token s = refl
count_told (negsuc n) token s = refl

count_same : (s : Scope) (k : Option CountAt) → Same (out_of_range k) (count_if s k)
count_same s None = none_same
count_same s (Some k) = place_same (out_of_range (Some k)) (At k.token (Count k.count) s) (count_told k.count k.token s)

regex_same : (s : Scope) (r : RegexTree ARegex) (regex_at : ℕ) → Same (too_many_states r regex_at) (At regex_at (Regex r) s ∷ [])
regex_same s r regex_at = place_same (too_many_states r regex_at) (At regex_at (Regex r) s) refl

expression_same : (s : Scope) (r : RegexTree ARegex) (regex_at : ℕ) (vs : List Named)
    → Same (both (unknown_views s.views vs) (too_many_states r regex_at)) (At regex_at (Regex r) s ∷ view_names s vs)
expression_same s r regex_at vs =
    alike_same (both (unknown_views s.views vs) (too_many_states r regex_at)) (both (too_many_states r regex_at) (unknown_views s.views vs))
    (At regex_at (Regex r) s ∷ view_names s vs) (swapped (unknown_views s.views vs) (too_many_states r regex_at))
    (both_same (too_many_states r regex_at) (unknown_views s.views vs) (At regex_at (Regex r) s ∷ []) (view_names s vs)
    (regex_same s r regex_at) (views_same s vs))

path_same : (s : Scope) (regex_at : ℕ) (body : Tree APathBody) → Same (path_breaches s.views regex_at body) (in_path s regex_at body)
path_same s regex_at (tree.Reach r vs) = expression_same s r regex_at vs
path_same s regex_at (tree.Found k p r vs c) =
    both_same (out_of_range k) (both (unknown_views s.views vs) (too_many_states r regex_at)) (count_if s k)
    (At regex_at (Regex r) s ∷ view_names s vs) (count_same s k) (expression_same s r regex_at vs)
path_same s regex_at (tree.All p r vs) = expression_same s r regex_at vs
path_same s regex_at (tree.Stored p labels) = none_same

pub pattern_same : (s : Scope) (p : Tree APattern) → Same (pattern_breaches s.views p) (in_pattern s p)
pattern_same s (tree.Node element) = none_same
pattern_same s (tree.Edge way element) = none_same
pattern_same s (tree.Path token regex_at body) = path_same s regex_at body

located_same : (s : Scope) (l : Tree ALocated) → Same (located_breaches s.graphs s.views l) (in_located s l)
located_same s (tree.Located parts on) =
    both_same (each (pattern_breaches s.views) parts) (unknown_graph_if s.graphs on) (all_of (in_pattern s) parts) (graph_name_if s on)
    (each_same (pattern_breaches s.views) (in_pattern s) (pattern_same s) parts) (graph_if_same s on)

-- of numbered places the one with 100 before it is too much
module _ (s : Scope) (place : ℕ → Place) (tells : (n token : ℕ) → listed (broken_if (nat_eq n 100) TooLarge token) [] ≡ told (At token (place n) s)) where
  one_numbered : (n token : ℕ) (t : Bool) → nat_eq n 100 ≡ t → Same (broken_if t TooLarge token) (At token (place n) s ∷ [])
  one_numbered n token t e =
      subst (λ u. Same (broken_if u TooLarge token) (At token (place n) s ∷ [])) e
      (place_same (broken_if (nat_eq n 100) TooLarge token) (At token (place n) s) (tells n token))

  later_numbered : (n : ℕ) → 100 < n → (tokens : List ℕ) → Same none (numbered s place n tokens)
  later_numbered n h [] = none_same
  later_numbered n h (token ∷ tokens) =
      alike_same none (both none none) (numbered s place n (token ∷ tokens)) (none_before none)
      (both_same none none (At token (place n) s ∷ []) (numbered s place (n + 1) tokens)
      (one_numbered n token false (grind (arith, nat_tests))) (later_numbered (n + 1) (omega arith) tokens))

  numbered_same : (m n : ℕ) → n + m ≡ 100 → (tokens : List ℕ) → Same (broken_at_if (slice_get tokens m)) (numbered s place n tokens)
  numbered_same m n e [] = none_same
  numbered_same zero n e (token ∷ tokens) =
      alike_same (broken TooLarge token) (both (broken TooLarge token) none) (numbered s place n (token ∷ tokens)) (none_behind (broken TooLarge token))
      (both_same (broken TooLarge token) none (At token (place n) s ∷ []) (numbered s place (n + 1) tokens)
      (one_numbered n token true (grind (arith, nat_tests))) (later_numbered (n + 1) (omega arith) tokens))
  numbered_same (suc m) n e (token ∷ tokens) =
      alike_same (broken_at_if (slice_get tokens m)) (both none (broken_at_if (slice_get tokens m))) (numbered s place n (token ∷ tokens))
      (none_before (broken_at_if (slice_get tokens m)))
      (both_same none (broken_at_if (slice_get tokens m)) (At token (place n) s ∷ []) (numbered s place (n + 1) tokens)
      (one_numbered n token false (grind (arith, nat_tests))) (numbered_same m (n + 1) (omega arith) tokens))

pub pattern_count_same : (s : Scope) (tokens : List ℕ) → Same (too_many tokens) (numbered s Pattern 0 tokens)
pattern_count_same s tokens = numbered_same s Pattern (λ n token. refl) 100 0 refl tokens

optional_count_same : (s : Scope) (tokens : List ℕ) → Same (too_many tokens) (numbered s Optional 0 tokens)
optional_count_same s tokens = numbered_same s Optional (λ n token. refl) 100 0 refl tokens

pub patterns_same : (s : Scope) (patterns : Tree (RowOf ALocated)) → Same (patterns_breaches s.graphs s.views patterns) (in_patterns s patterns)
patterns_same s patterns =
    both_same (each (located_breaches s.graphs s.views) patterns) (too_many (all_of located_tokens patterns))
    (all_of (in_located s) patterns) (numbered s Pattern 0 (all_of located_tokens patterns))
    (each_same (located_breaches s.graphs s.views) (in_located s) (located_same s) patterns)
    (pattern_count_same s (all_of located_tokens patterns))

-- a place beside the first one of its variable
two_tests : (same once other : Bool) (token : ℕ) (rest : List Breach)
    → listed (if same then none else if once then broken TwiceBound token else broken_if other SortClash token) rest
    ≡ listed (broken_if (not same && (not once && other)) SortClash token) (listed (broken_if (not same && once) TwiceBound token) rest)
two_tests true once other token rest = refl
two_tests false true other token rest = refl
two_tests false false other token rest = refl

beside_told : (variables : List Use) (first : Option Use) (u : Use) (rest : List Breach)
    → listed (beside variables first u) rest
    ≡ listed (broken_if (is_later first u.token && (not (stands_once variables first) && is_other first u.role)) SortClash u.token)
    (listed (broken_if (is_later first u.token && stands_once variables first) TwiceBound u.token) rest)
beside_told variables None u rest = refl
beside_told variables (Some first) u rest =
    two_tests (nat_eq first.token u.token) (stands_once variables (Some first)) (is_other (Some first) u.role) u.token rest

-- a place in a mandatory pattern, and one in an OPTIONAL
mandatory_same : (s : Scope) (mandatory : List Use) (u : Use) → Same (place_breaches s.variables u) (binding s mandatory [] u ∷ [])
mandatory_same s mandatory u =
    place_same (place_breaches s.variables u) (binding s mandatory [] u) (beside_told s.variables (first_use s.variables u.name) u [])

pub bindings_same : (s : Scope) (mandatory : List Use) (us : List Use) → Same (each_use (place_breaches s.variables) us) (bindings s mandatory [] us)
bindings_same s mandatory us = each_use_same (place_breaches s.variables) (binding s mandatory []) (mandatory_same s mandatory) us

optional_same : (s : Scope) (mandatory earlier own : List Use) (u : Use)
    → Same (both (place_breaches s.variables u) (shared_place ((mandatory ++ earlier) ++ own) (length mandatory) (length (mandatory ++ earlier)) u))
    (binding s mandatory earlier u ∷ [])
optional_same s mandatory earlier own u =
    subst (λ t. Same (both (place_breaches s.variables u) (broken_if t SharedOptional u.token)) (binding s mandatory earlier u ∷ []))
    (sym (shared_is mandatory earlier own u.name))
    (place_same (both (place_breaches s.variables u) (broken_if (has_use earlier u.name && not (has_use mandatory u.name)) SharedOptional u.token))
    (binding s mandatory earlier u)
    (beside_told s.variables (first_use s.variables u.name) u
    (listed (broken_if (has_use earlier u.name && not (has_use mandatory u.name)) SharedOptional u.token) [])))

-- two tests of each place of a list
each_two : (f h : Use → Breaches) (g : Use → Occurrence) → ((u : Use) → Same (both (f u) (h u)) (g u ∷ [])) → (us : List Use)
    → Same (both (each_use f us) (each_use h us)) (map g us)
each_two f h g same [] = alike_same (both none none) none [] (λ b. ((none_before none b).1, (none_before none b).0)) none_same
each_two f h g same (u ∷ us) =
    alike_same (both (both (f u) (each_use f us)) (both (h u) (each_use h us))) (both (both (f u) (h u)) (both (each_use f us) (each_use h us)))
    (map g (u ∷ us)) (pairs (f u) (each_use f us) (h u) (each_use h us))
    (both_same (both (f u) (h u)) (both (each_use f us) (each_use h us)) (g u ∷ []) (map g us) (same u) (each_two f h g same us))

each_use_append : (f : Use → Breaches) (us vs : List Use) → Alike (each_use f (us ++ vs)) (both (each_use f us) (each_use f vs))
each_use_append f [] vs = none_before (each_use f vs)
each_use_append f (u ∷ us) vs =
    then_alike (both (f u) (each_use f (us ++ vs))) (both (f u) (both (each_use f us) (each_use f vs))) (both (both (f u) (each_use f us)) (each_use f vs))
    (alike_right (f u) (each_use f (us ++ vs)) (both (each_use f us) (each_use f vs)) (each_use_append f us vs))
    (grouped (f u) (each_use f us) (each_use f vs))

-- the places of OPTIONAL blocks in turn
optionals_same : (s : Scope) (mandatory earlier : List Use) (os : Tree (RowOf AnOptional))
    → Same (both (each_use (place_breaches s.variables) (all_of optional_uses os)) (shared_breaches (length mandatory) (mandatory ++ earlier) os))
    (optional_bindings s mandatory earlier os)
optionals_same s mandatory earlier tree.none = alike_same (both none none) none [] (λ b. ((none_before none b).1, (none_before none b).0)) none_same
optionals_same s mandatory earlier (tree.more o os) =
    let place : Use → Breaches = place_breaches s.variables in
    let own : List Use = optional_uses o in
    let later : List Use = all_of optional_uses os in
    let shares : Use → Breaches = shared_place ((mandatory ++ earlier) ++ own) (length mandatory) (length (mandatory ++ earlier)) in
    let rest : Breaches = shared_breaches (length mandatory) ((mandatory ++ earlier) ++ own) os in
    alike_same (both (each_use place (own ++ later)) (both (each_use shares own) rest))
    (both (both (each_use place own) (each_use shares own)) (both (each_use place later) rest))
    (bindings s mandatory earlier own ++ optional_bindings s mandatory (earlier ++ own) os)
    (then_alike (both (each_use place (own ++ later)) (both (each_use shares own) rest))
    (both (both (each_use place own) (each_use place later)) (both (each_use shares own) rest))
    (both (both (each_use place own) (each_use shares own)) (both (each_use place later) rest))
    (alike_left (each_use place (own ++ later)) (both (each_use place own) (each_use place later)) (both (each_use shares own) rest)
    (each_use_append place own later))
    (pairs (each_use place own) (each_use place later) (each_use shares own) rest))
    (both_same (both (each_use place own) (each_use shares own)) (both (each_use place later) rest) (bindings s mandatory earlier own)
    (optional_bindings s mandatory (earlier ++ own) os)
    (each_two place shares (binding s mandatory earlier) (optional_same s mandatory earlier own) own)
    (subst (λ seen. Same (both (each_use place later) (shared_breaches (length mandatory) seen os)) (optional_bindings s mandatory (earlier ++ own) os))
    (sym (append_assoc mandatory earlier own)) (optionals_same s mandatory (earlier ++ own) os)))

-- a MATCH with its OPTIONAL blocks, in a scope that has the places of all of them
pub match_same : (s : Scope) (seen : List Use) (main : Tree ABlock) (optionals : Tree (RowOf AnOptional)) → s.variables ≡ match_uses seen main optionals
    → Same (match_breaches seen main optionals) (in_match s seen main optionals)
match_same s seen main optionals e =
    let all : List Use = match_uses seen main optionals in
    let m : List Use = seen ++ block_uses main in
    let later : List Use = all_of optional_uses optionals in
    let place : Use → Breaches = place_breaches all in
    let shared : Breaches = shared_breaches (length m) m optionals in
    let large : Breaches = too_many (optional_tokens optionals) in
    alike_same (both shared (both (each_use place (block_uses main ++ later)) large))
    (both (each_use place (block_uses main)) (both (both (each_use place later) shared) large)) (in_match s seen main optionals)
    (then_alike (both shared (both (each_use place (block_uses main ++ later)) large))
    (both (each_use place (block_uses main ++ later)) (both shared large))
    (both (each_use place (block_uses main)) (both (both (each_use place later) shared) large))
    (second_first shared (each_use place (block_uses main ++ later)) large)
    (then_alike (both (each_use place (block_uses main ++ later)) (both shared large))
    (both (both (each_use place (block_uses main)) (each_use place later)) (both shared large))
    (both (each_use place (block_uses main)) (both (both (each_use place later) shared) large))
    (alike_left (each_use place (block_uses main ++ later)) (both (each_use place (block_uses main)) (each_use place later)) (both shared large)
    (each_use_append place (block_uses main) later))
    (then_alike (both (both (each_use place (block_uses main)) (each_use place later)) (both shared large))
    (both (each_use place (block_uses main)) (both (each_use place later) (both shared large)))
    (both (each_use place (block_uses main)) (both (both (each_use place later) shared) large))
    (ungrouped (each_use place (block_uses main)) (each_use place later) (both shared large))
    (alike_right (each_use place (block_uses main)) (both (each_use place later) (both shared large)) (both (both (each_use place later) shared) large)
    (grouped (each_use place later) shared large)))))
    (both_same (each_use place (block_uses main)) (both (both (each_use place later) shared) large) (bindings s m [] (block_uses main))
    (optional_bindings s m [] optionals ++ numbered s Optional 0 (optional_tokens optionals))
    (subst (λ uses. Same (each_use (place_breaches uses) (block_uses main)) (bindings s m [] (block_uses main))) e (bindings_same s m (block_uses main)))
    (both_same (both (each_use place later) shared) large (optional_bindings s m [] optionals) (numbered s Optional 0 (optional_tokens optionals))
    (subst (λ uses. Same (both (each_use (place_breaches uses) later) shared) (optional_bindings s m [] optionals)) e
    (subst (λ uses. Same (both (each_use (place_breaches s.variables) later) (shared_breaches (length m) uses optionals))
    (optional_bindings s m [] optionals))
    (append-nil m) (optionals_same s m [] optionals)))
    (optional_count_same s (optional_tokens optionals))))
