-- A link of a MATCH is an edge pattern of the one part of its block that has the variable, or the first.
use Rattle.std.proofs.Common.{◌≡◌, ◌⊎◌, inl, inr, ⊎_elim, ℕ, ◌<◌, ◌≤◌, ltb, get_or, Bool, true, false, cond, List, [], ◌∷◌, ◌++◌, length, Option, Some, None, is_some, refl, sym, ap, ◌∙◌, subst, arith}
use Rattle.std.specs.Prelude.{nat_le, nat_lt}
use Rattle.std.specs.List.{Contains, position, position_or_len}
use Rattle.std.specs.Cmp.Lexicographic.{bytes_decides}
use Rattle.std.proofs.lemmas.Bool.Decides.{nat_tests}
use Rattle.std.proofs.lemmas.Grind.{common_steps}
use Rattle.std.proofs.lemmas.List.{get_or_append_left, length-append, length-map, map-append}
use Rattle.std.proofs.lemmas.List.Elements.{Contains-append_left, Contains-append_right, Contains-append_cases, Contains-get_or}
use Rattle.std.proofs.lemmas.List.Quantifiers.{position-Some}
use Rattle.std.proofs.lemmas.List.Sums.{fails_before_first}
use Rattle.std.proofs.lemmas.Option.{none-some, same_Some}
use Rattle.gc_base.specs.declared.place.Direction.{Direction}
use Rattle.gc_base.specs.declared.place.Direction.TheVariants.{Forward}
use Rattle.gc_base.specs.declared.place.Sym.{Sym}
use Rattle.gc_ast.specs.Names.{same_name}
use Rattle.gc_ast.specs.Trees as tree
use Rattle.gc_ast.specs.Trees.{Tree, Named, RowOf, ABlock, ALocated, AnOptional, APattern, AnElement, APathBody}
use Rattle.gc_rows.proofs.Members.{cons_cases, contains_here, contains_later, from_map, to_map}
use Rattle.gc_alg.specs.declared.atom.Atom.{Atom}
use Rattle.gc_alg.specs.declared.atom.AtomWhat.TheVariants as atom
use Rattle.gc_sorts.specs.Links.{Link, block_links, chain_links, front_name, link_if, located_links, node_name, path_name, pattern_links}
use Rattle.gc_sorts.specs.Matches.{is_between, shared_place}
use Rattle.gc_sorts.specs.Orders.{first_place}
use Rattle.gc_sorts.specs.Uses.{all_of, block_uses, body_uses, located_uses, pattern_uses, property_uses, use_at}
use Rattle.gc_sorts.specs.Variables.{Use, first_use, has_use, sort_of, use_names}
use Rattle.gc_sorts.specs.declared.sort.Role.TheVariants as role
use Rattle.gc_sorts.specs.declared.sort.Sort.TheVariants as sort
use Rattle.gc_lower.specs.Blocks.{block_atoms}
use Rattle.gc_lower.specs.Chains.{atoms_of, chain_atoms, link_atoms, next_variable, node_variable, part_atoms}
use Rattle.gc_lower.specs.Scopes.{Scope, graph_of, variable_of}
use Rattle.gc_query.proofs.SearchedAtoms.{IsUnbroken, not_broken}

-- a name that has a place is there
pub use_there : (uses : List Use) (name : List ℕ) → has_use uses name ≡ true → (u : Use) × Contains uses u × (u.name ≡ name)
use_there [] name h = absurd (cc h)
use_there (u ∷ us) name h =
    elim (same_name name u.name) as (λ b. same_name name u.name ≡ b → is_some (cond b (Some u) (first_use us name)) ≡ true → (v : Use) × Contains (u ∷ us) v × (v.name ≡ name)) [
      | true ↦ λ t k. (u, contains_here u us, sym ((bytes_decides name u.name).0 t))
      | false ↦ λ t k. let rest = use_there us name k in (rest.0, contains_later u us rest.0 rest.1, rest.2)
    ] refl h

pub there_used : (uses : List Use) (u : Use) → Contains uses u → has_use uses u.name ≡ true
there_used [] u m = absurd (omega (arith, m.1))
there_used (v ∷ us) u m =
    elim (same_name u.name v.name) as (λ b. same_name u.name v.name ≡ b → is_some (cond b (Some v) (first_use us u.name)) ≡ true) [
      | true ↦ λ t. refl
      | false ↦ λ t. ⊎_elim
          (λ e. absurd (cc (t, (bytes_decides u.name v.name).1 (ap (λ (w : Use). w.name) (sym e)))))
          (λ k. there_used us u k)
          (cons_cases v us u m)
    ] refl

pub not_used : (uses : List Use) (u : Use) (name : List ℕ) → has_use uses name ≡ false → Contains uses u → u.name ≡ name → ⊥
not_used uses u name h m e = absurd (cc (h, subst (λ n. has_use uses n ≡ true) e (there_used uses u m)))

-- the places of a name stand where it is not among those before, and among those that come next
module _ (p : List ℕ → Bool) where
  pub passes_later : (xs : List (List ℕ)) (x : List ℕ) → Contains xs x → p x ≡ true → position p xs ≡ None → ⊥
  passes_later xs x m t none =
      let past : length xs ≤ position_or_len p xs = grind (arith, common_steps, nat_tests) in
      absurd (cc (t, sym (ap p m.2) ∙ fails_before_first p xs m.0 x (omega (arith, m.1, past))))

  between : (xs ys : List (List ℕ)) (x : List ℕ) → Contains ys x → p x ≡ true → ((y : List ℕ) → Contains xs y → p y ≡ false) → (zs : List (List ℕ)) → (o : Option ℕ) → position p ((xs ++ ys) ++ zs) ≡ o
      → (k : ℕ) × (o ≡ Some k) × (length xs ≤ k) × (k < length (xs ++ ys))
  between xs ys x m t none zs None is = absurd (passes_later ((xs ++ ys) ++ zs) x (Contains-append_left (xs ++ ys) zs x (Contains-append_right xs ys x m)) t is)
  between xs ys x m t none zs (Some k) is =
      let at = position-Some p ((xs ++ ys) ++ zs) k x is in
      let there = Contains-append_right xs ys x m in
      let front = Contains-append_left (xs ++ ys) zs x there in
      (k, refl, low k at, high k at there)
    where
      low : (k : ℕ) → (k < length ((xs ++ ys) ++ zs)) × (p (get_or ((xs ++ ys) ++ zs) k x) ≡ true) × ((j : ℕ) → j < k → p (get_or ((xs ++ ys) ++ zs) j x) ≡ false) → length xs ≤ k
      low k at = elim (ltb k (length xs)) as (λ b. ltb k (length xs) ≡ b → length xs ≤ k) [
        | true ↦ λ e.
            let inside : k < length xs = grind (arith, nat_tests) in
            let long = length-append (xs ++ ys) zs in
            let more = length-append xs ys in
            let here : get_or ((xs ++ ys) ++ zs) k x ≡ get_or xs k x = get_or_append_left (xs ++ ys) zs x k (omega arith) ∙ get_or_append_left xs ys x k inside in
            absurd (cc (at.1, ap p here ∙ none (get_or xs k x) (Contains-get_or xs k x inside)))
        | false ↦ λ e. grind (arith, nat_tests)
      ] refl

      high : (k : ℕ) → (k < length ((xs ++ ys) ++ zs)) × (p (get_or ((xs ++ ys) ++ zs) k x) ≡ true) × ((j : ℕ) → j < k → p (get_or ((xs ++ ys) ++ zs) j x) ≡ false) → Contains (xs ++ ys) x
          → k < length (xs ++ ys)
      high k at there = elim (ltb there.0 k) as (λ b. ltb there.0 k ≡ b → k < length (xs ++ ys)) [
        | true ↦ λ e.
            let before : there.0 < k = grind (arith, nat_tests) in
            let here : get_or ((xs ++ ys) ++ zs) there.0 x ≡ x = get_or_append_left (xs ++ ys) zs x there.0 there.1 ∙ there.2 in
            absurd (cc (t, sym (ap p here) ∙ at.2 there.0 before))
        | false ↦ λ e. let inside = there.1 in grind (arith, nat_tests)
      ] refl

-- a variable that has its first place in an OPTIONAL block has none in a later one
pub shared : (mandatory before own rest all : List Use) (name : List ℕ) (u : Use) (upto : ℕ) → all ≡ (before ++ own) ++ rest → length mandatory ≤ length before → length (before ++ own) ≤ upto
    → has_use before name ≡ false → has_use own name ≡ true → u.name ≡ name → IsUnbroken (shared_place all (length mandatory) upto u) → ⊥
shared mandatory before own rest all name u upto is early late fresh there same h =
    let found = use_there own name there in
    let p : List ℕ → Bool = same_name u.name in
    let passes : p found.0.name ≡ true = (bytes_decides u.name found.0.name).1 (same ∙ sym found.2) in
    let names = between p (use_names before) (use_names own) found.0.name (to_map (λ (v : Use). v.name) own found.0 found.1) passes none_before
    (use_names rest) (first_place (use_names all) u.name) (ap (position p) (sym (ap use_names is ∙ names_of before own rest))) in
    inside (first_place (use_names all) u.name) names.0 names.1 (long before names.2) (longer before own names.3)
    (not_broken (is_between (length mandatory) upto (first_place (use_names all) u.name)) _ u.token h)
  where
    none_before : (n : List ℕ) → Contains (use_names before) n → same_name u.name n ≡ false
    none_before n m =
        let from = from_map (λ (v : Use). v.name) before n m in
        elim (same_name u.name n) as (λ b. same_name u.name n ≡ b → b ≡ false) [
          | true ↦ λ t. absurd (not_used before from.0 name fresh from.1 (sym from.2 ∙ (sym ((bytes_decides u.name n).0 t) ∙ same)))
          | false ↦ λ t. refl
        ] refl

    names_of : (xs ys zs : List Use) → use_names ((xs ++ ys) ++ zs) ≡ (use_names xs ++ use_names ys) ++ use_names zs
    names_of xs ys zs = map-append (λ (v : Use). v.name) (xs ++ ys) zs ∙ ap (λ ns. ns ++ use_names zs) (map-append (λ (v : Use). v.name) xs ys)

    long : (xs : List Use) {k : ℕ} → length (use_names xs) ≤ k → length xs ≤ k
    long xs h = let e = length-map xs (λ (v : Use). v.name) in omega (arith, e, h)

    longer : (xs ys : List Use) {k : ℕ} → k < length (use_names xs ++ use_names ys) → k < length (xs ++ ys)
    longer xs ys h =
        let e = length-map xs (λ (v : Use). v.name) in
        let f = length-map ys (λ (v : Use). v.name) in
        let g = length-append (use_names xs) (use_names ys) in
        let l = length-append xs ys in
        omega (arith, e, f, g, l, h)

    inside : (o : Option ℕ) (k : ℕ) → o ≡ Some k → length before ≤ k → k < length (before ++ own) → is_between (length mandatory) upto o ≡ false → ⊥
    inside None k is low high b = absurd (none-some k is)
    inside (Some j) k is low high b =
        let e : j ≡ k = same_Some j k is in
        let l : nat_le (length mandatory) j ≡ true = grind (arith, nat_tests) in
        let m : nat_lt j upto ≡ true = grind (arith, nat_tests) in
        cc (b, l, m)

-- the edge pattern that a link is, and the path that it is the name of
pub record IsEdgePattern (s : Scope) (atoms : List Atom) (l : Link) (left right : List ℕ) : Type 0 where
  pub graph : ℕ
  pub labels : List (List (List ℕ))
  pub pattern : Contains atoms (record { graph = graph; what = atom.Edge (variable_of s left) (variable_of s l.name) (variable_of s right) l.way labels })

pub record IsPathName (uses : List Use) (l : Link) : Type 0 where
  pub at_place : Use
  pub among : Contains uses at_place
  pub name : at_place.name ≡ l.name
  pub walked : sort_of at_place.role ≡ sort.Edge → ⊥

-- a link between two names, of a variable that has no place before
pub record IsLink (s : Scope) (before : List Use) (atoms : List Atom) (uses : List Use) (l : Link) (left right : List ℕ) : Type 0 where
  pub fresh : has_use before l.name ≡ false
  pub by : IsEdgePattern s atoms l left right ⊎ IsPathName uses l
  pub own : has_use uses l.name ≡ true

link_left : (s : Scope) (before : List Use) (es bs : List Atom) (us vs : List Use) (l : Link) (x y : List ℕ) → IsLink s before es us l x y → IsLink s before (es ++ bs) (us ++ vs) l x y
link_left s before es bs us vs l x y h = record {
  fresh = h.fresh;
  by = ⊎_elim (λ e. inl (record { graph = e.graph; labels = e.labels; pattern = Contains-append_left es bs _ e.pattern }))
      (λ p. inr (record { at_place = p.at_place; among = Contains-append_left us vs p.at_place p.among; name = p.name; walked = p.walked })) h.by;
  own = let u = use_there us l.name h.own in subst (λ n. has_use (us ++ vs) n ≡ true) u.2 (there_used (us ++ vs) u.0 (Contains-append_left us vs u.0 u.1));
}

link_right : (s : Scope) (before : List Use) (es bs : List Atom) (us vs : List Use) (l : Link) (x y : List ℕ) → IsLink s before bs vs l x y → IsLink s before (es ++ bs) (us ++ vs) l x y
link_right s before es bs us vs l x y h = record {
  fresh = h.fresh;
  by = ⊎_elim (λ e. inl (record { graph = e.graph; labels = e.labels; pattern = Contains-append_right es bs _ e.pattern }))
      (λ p. inr (record { at_place = p.at_place; among = Contains-append_right us vs p.at_place p.among; name = p.name; walked = p.walked })) h.by;
  own = let u = use_there vs l.name h.own in subst (λ n. has_use (us ++ vs) n ≡ true) u.2 (there_used (us ++ vs) u.0 (Contains-append_right us vs u.0 u.1));
}

module _ (s : Scope) (before : List Use) where
  -- a name beside a link is that of a node
  node_named : (p : Tree APattern) (x : List ℕ) → node_name p ≡ Some x → node_variable s p ≡ Some (variable_of s x)
  node_named (tree.Node (tree.Element token None labels properties)) x h = absurd (none-some x h)
  node_named (tree.Node (tree.Element token (Some y) labels properties)) x h = ap (λ n. Some (variable_of s n)) (same_Some y.name x h)
  node_named (tree.Edge way e) x h = absurd (none-some x h)
  node_named (tree.Path token regex_at body) x h = absurd (none-some x h)

  next_named : (ps : Tree (RowOf APattern)) (x : List ℕ) → front_name ps ≡ Some x → next_variable s ps ≡ Some (variable_of s x)
  next_named tree.none x h = absurd (none-some x h)
  next_named (tree.more p ps) x h = node_named p x h

  -- the one link of a name
  one_link : (name : Option (List ℕ)) (left right : Option (List ℕ)) (way : Direction) (l : Link) → Contains (link_if before name left right way) l
      → (n : List ℕ) × (name ≡ Some n) × (has_use before n ≡ false) × (record { name = n; left = left; right = right; way = way } ≡ l)
  one_link None left right way l m = absurd (omega (arith, m.1))
  one_link (Some n) left right way l m =
      elim (has_use before n) as (λ b. has_use before n ≡ b → Contains (cond b [] (record { name = n; left = left; right = right; way = way } ∷ [])) l
      → (k : List ℕ) × (Some n ≡ Some k) × (has_use before k ≡ false) × (record { name = k; left = left; right = right; way = way } ≡ l)) [
        | true ↦ λ t k. absurd (omega (arith, k.1))
        | false ↦ λ t k. (n, refl, t, ⊎_elim (λ e. e) (λ q. absurd (omega (arith, q.1))) (cons_cases (record { name = n; left = left; right = right; way = way }) [] l k))
      ] refl m

  module _ (graph : ℕ) where
    edge_there : (x y : Sym) (lv rv : Option Sym) → lv ≡ Some x → rv ≡ Some y → (way : Direction) (token : ℕ) (name : Named) (labels : List (List (List ℕ))) (properties : Tree (RowOf tree.APropertyUse))
        → Contains (link_atoms s graph lv rv (tree.Edge way (tree.Element token (Some name) labels properties)))
        (record { graph = graph; what = atom.Edge x (variable_of s name.name) y way labels })
    edge_there x y lv rv l r way token name labels properties =
        let e = tree.Edge way (tree.Element token (Some name) labels properties) in
        let a : Atom = record { graph = graph; what = atom.Edge x (variable_of s name.name) y way labels } in
        subst (λ (o : Option Sym). Contains (link_atoms s graph o rv e) a) (sym l)
        (subst (λ (o : Option Sym). Contains (link_atoms s graph (Some x) o e) a) (sym r) (contains_here a _))

    -- what a path is called, it has es a place that is no edge
    path_named : (body : Tree APathBody) (n : List ℕ) → path_name body ≡ Some n → (u : Use) × Contains (body_uses body) u × (u.name ≡ n) × (sort_of u.role ≡ sort.Edge → ⊥)
    path_named (tree.Reach regex views) n h = absurd (none-some n h)
    path_named (tree.Found k path regex views cost) n h = (use_at role.Found path, contains_here _ _, same_Some path.name n h, λ e. absurd (cc e))
    path_named (tree.All path regex views) n h = (use_at role.All path, contains_here (use_at role.All path) [], same_Some path.name n h, λ e. absurd (cc e))
    path_named (tree.Stored path labels) n h = (use_at role.Stored path, contains_here (use_at role.Stored path) [], same_Some path.name n h, λ e. absurd (cc e))

    pattern_link : (left right : Option (List ℕ)) (lv rv : Option Sym) (p : Tree APattern) → ((x : List ℕ) → left ≡ Some x → lv ≡ Some (variable_of s x)) → ((y : List ℕ) → right ≡ Some y → rv ≡ Some (variable_of s y))
        → (l : Link) → Contains (pattern_links before left right p) l → (x y : List ℕ) → l.left ≡ Some x → l.right ≡ Some y
        → IsLink s before (part_atoms s graph lv rv p) (pattern_uses p) l x y
    pattern_link left right lv rv (tree.Node e) f g l m x y lx ly = absurd (omega (arith, m.1))
    pattern_link left right lv rv (tree.Edge way (tree.Element token None labels properties)) f g l m x y lx ly = absurd (omega (arith, m.1))
    pattern_link left right lv rv (tree.Edge way (tree.Element token (Some name) labels properties)) f g l m x y lx ly =
        let one = one_link (Some name.name) left right way l m in
        let same : name.name ≡ one.0 = same_Some name.name one.0 one.1 in
        let named : l.name ≡ name.name = ap (λ (k : Link). k.name) (sym one.3) ∙ sym same in
        let at = edge_there (variable_of s x) (variable_of s y) lv rv (f x (ap (λ (k : Link). k.left) one.3 ∙ lx)) (g y (ap (λ (k : Link). k.right) one.3 ∙ ly)) way token name labels properties in
        let u = use_at role.Edge name in
        record {
          fresh = subst (λ n. has_use before n ≡ false) (sym same ∙ sym named) one.2;
          by = inl (record {
            graph = graph;
            labels = labels;
            pattern = subst (λ (d : Direction). Contains (link_atoms s graph lv rv (tree.Edge way (tree.Element token (Some name) labels properties)))
                (record { graph = graph; what = atom.Edge (variable_of s x) (variable_of s l.name) (variable_of s y) d labels })) (ap (λ (k : Link). k.way) one.3)
                (subst (λ n. Contains (link_atoms s graph lv rv (tree.Edge way (tree.Element token (Some name) labels properties)))
                (record { graph = graph; what = atom.Edge (variable_of s x) (variable_of s n) (variable_of s y) way labels })) (sym named) at);
          });
          own = subst (λ n. has_use (u ∷ all_of property_uses properties) n ≡ true) (sym named) (there_used (u ∷ _) u (contains_here u _));
        }
    pattern_link left right lv rv (tree.Path token regex_at body) f g l m x y lx ly =
        by (path_name body) refl m
      where
        by : (o : Option (List ℕ)) → path_name body ≡ o → Contains (link_if before o left right Forward) l → IsLink s before (link_atoms s graph lv rv (tree.Path token regex_at body)) (body_uses body) l x y
        by o is k =
            let one = one_link o left right Forward l k in
            let at = path_named body one.0 (is ∙ one.1) in
            let named : at.0.name ≡ l.name = at.2 ∙ ap (λ (q : Link). q.name) one.3 in
            record {
              fresh = subst (λ (q : Link). has_use before q.name ≡ false) one.3 one.2;
              by = inr (record { at_place = at.0; among = at.1; name = named; walked = at.3 });
              own = subst (λ n. has_use (body_uses body) n ≡ true) named (there_used (body_uses body) at.0 at.1);
            }

    chain_link : (left : Option (List ℕ)) (lv : Option Sym) → ((x : List ℕ) → left ≡ Some x → lv ≡ Some (variable_of s x)) → (ps : Tree (RowOf APattern))
        → (l : Link) → Contains (chain_links before left ps) l → (x y : List ℕ) → l.left ≡ Some x → l.right ≡ Some y → IsLink s before (chain_atoms s graph lv ps) (all_of pattern_uses ps) l x y
    chain_link left lv f tree.none l m x y lx ly = absurd (omega (arith, m.1))
    chain_link left lv f (tree.more p ps) l m x y lx ly =
        let es = part_atoms s graph lv (next_variable s ps) p in
        let bs = chain_atoms s graph (node_variable s p) ps in
        ⊎_elim
        (λ k. link_left s before es bs (pattern_uses p) (all_of pattern_uses ps) l x y (pattern_link left (front_name ps) lv (next_variable s ps) p f (next_named ps) l k x y lx ly))
        (λ k. link_right s before es bs (pattern_uses p) (all_of pattern_uses ps) l x y (chain_link (node_name p) (node_variable s p) (node_named p) ps l k x y lx ly))
        (Contains-append_cases (pattern_links before left (front_name ps) p) (chain_links before (node_name p) ps) l m)

  patterns_link : (located : Tree (RowOf ALocated)) (l : Link) → Contains (all_of (located_links before) located) l → (x y : List ℕ) → l.left ≡ Some x → l.right ≡ Some y
      → IsLink s before (atoms_of s located) (all_of located_uses located) l x y
  patterns_link tree.none l m x y lx ly = absurd (omega (arith, m.1))
  patterns_link (tree.more (tree.Located parts on) located) l m x y lx ly =
      let es = chain_atoms s (graph_of s on) None parts in
      ⊎_elim
      (λ k. link_left s before es (atoms_of s located) (all_of pattern_uses parts) (all_of located_uses located) l x y (chain_link (graph_of s on) None None (λ n e. absurd (none-some n e)) parts l k x y lx ly))
      (λ k. link_right s before es (atoms_of s located) (all_of pattern_uses parts) (all_of located_uses located) l x y (patterns_link located l k x y lx ly))
      (Contains-append_cases (chain_links before None parts) (all_of (located_links before) located) l m)

  pub block_link : (b : Tree ABlock) (l : Link) → Contains (block_links before b) l → (x y : List ℕ) → l.left ≡ Some x → l.right ≡ Some y → IsLink s before (block_atoms s b) (block_uses b) l x y
  block_link (tree.Block patterns filter) l m x y lx ly = patterns_link patterns l m x y lx ly
