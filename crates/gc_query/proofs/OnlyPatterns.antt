-- In a MATCH that breaks no rule a pattern that asks for one walk is the only one that has the variable of the walk.
use Rattle.std.proofs.Common.{◌≡◌, inl, inr, ⊎_elim, ℕ, ◌==◌, Bool, true, false, List, [], ◌∷◌, ◌++◌, refl, sym, ap, ◌∙◌, subst, arith}
use Rattle.std.specs.Prelude.{if◌then◌else◌}
use Rattle.std.specs.List.{Contains, flat_map}
use Rattle.gc_ast.specs.Trees as tree
use Rattle.gc_ast.specs.Trees.{RowOf, ABlock, AnItem, AnOptional, Tree}
use Rattle.gc_alg.specs.Instances.{listed, variables_of}
use Rattle.gc_alg.specs.Tables.{block_atoms}
use Rattle.gc_alg.specs.declared.atom.Atom.{Atom}
use Rattle.gc_alg.specs.declared.atom.AtomWhat.{AtomWhat}
use Rattle.gc_alg.specs.declared.atom.AtomWhat.TheVariants as atom
use Rattle.gc_cert_searches.specs.Patterns.{AreOnly, IsOnly, Pattern, pattern_by, pattern_of, patterns_of}
use Rattle.gc_rows.proofs.Members.{cons_cases, contains_here, contains_later, each_member, from_flat_map, of_member}
use Rattle.gc_sorts.specs.SortRules.{construct_breaches, match_breaches}
use Rattle.gc_sorts.specs.Uses.{all_of, block_uses, optional_uses}
use Rattle.gc_sorts.specs.Variables.{Use}
use Rattle.gc_lower.specs.Blocks as lower
use Rattle.gc_lower.specs.Blocks.{block_of}
use Rattle.gc_lower.specs.Reads.{reads_of}
use Rattle.gc_lower.specs.Scopes.{Scope, variable_of}
use Rattle.gc_query.proofs.BasicLinks.{IsDistinctBasic, all_walk, atoms, atoms_are, block, listed_member, match_places, match_token, match_tokens, one_use, place_use, unbroken_place, use_name}
use Rattle.gc_query.proofs.MatchPlaces.{PlaceOn}
use Rattle.gc_query.proofs.MatchReads.{AtomWalks, IsWalkPlace, WalkStands}
use Rattle.gc_query.proofs.MatchSorts.{is_walk_role, walk_alone}
use Rattle.gc_query.proofs.SearchedAtoms.{IsUnbroken}
use Rattle.gc_query.proofs.WalkEntries.{Entry, entry_at, match_entries}
use Rattle.gc_query.proofs.WalkPlaces.{AtomAt, StandsAt, bare, match_at, plain}

-- the pattern of an atom, if it has one, is the only one of the atom, and its variable is that of the atom's walk
record IsPatternOf (s : Scope) (places : List PlaceOn) (graph : ℕ) (what : AtomWhat) (f : Pattern) : Type 0 where
  only : pattern_of graph what ≡ f ∷ []
  among : Contains (variables_of what) f.path
  place : IsWalkPlace s places graph f.path

pattern_facts : (s : Scope) (places : List PlaceOn) (graph : ℕ) (what : AtomWhat) (f : Pattern) → Contains (pattern_of graph what) f
    → WalkStands s places graph what → IsPatternOf s places graph what f
pattern_facts s places graph (atom.Node x labels) f m h = absurd (omega (arith, m.1))
pattern_facts s places graph (atom.Edge x e y way labels) f m h = absurd (omega (arith, m.1))
pattern_facts s places graph (atom.Property x kind name v) f m h = absurd (omega (arith, m.1))
pattern_facts s places graph (atom.Stored x p y labels) f m h = absurd (omega (arith, m.1))
pattern_facts s places graph (atom.Reach x y regex views) f m h = absurd (omega (arith, m.1))
pattern_facts s places graph (atom.All x p y regex views) f m h = absurd (omega (arith, m.1))
pattern_facts s places graph (atom.Found x p y k cost regex views) f m h =
    let e = by (k == 1) m in
    let own : p ≡ f.path = ap (λ (q : Pattern). q.path) e.0 in
    record {
      only = e.1;
      among = subst (Contains (x ∷ p ∷ y ∷ listed cost)) own (contains_later x (p ∷ y ∷ listed cost) p (contains_here p (y ∷ listed cost)));
      place = subst (IsWalkPlace s places graph) own h;
    }
  where
    here : Pattern
    here = record { path = p; expression = regex; graph = graph; views = views }

    by : (b : Bool) → Contains (if b then here ∷ [] else []) f → (here ≡ f) × ((if b then here ∷ [] else []) ≡ f ∷ [])
    by true n = ⊎_elim (λ e. (e, ap (λ q. q ∷ []) e)) (λ r. absurd (omega (arith, r.1))) (cons_cases here [] f n)
    by false n = absurd (omega (arith, n.1))

module _ (s : Scope) (graphs : List (List ℕ)) (items : Tree (RowOf AnItem)) (main : Tree ABlock) (optionals : Tree (RowOf AnOptional)) (distinct : IsDistinctBasic s items main optionals)
    (matched : IsUnbroken (match_breaches [] main optionals)) (made : IsUnbroken (construct_breaches graphs [] items main optionals))
    (one_entry : (e d : Entry) → Contains (match_entries s main optionals) e → Contains (match_entries s main optionals) d → e.token ≡ d.token → e ≡ d) where
  abbrev uses : List Use
  uses = block_uses main ++ all_of optional_uses optionals

  abbrev entries : List Entry
  entries = match_entries s main optionals

  abbrev here : List Atom
  here = atoms s graphs items main optionals distinct matched made

  -- an atom that has the variable of a walk has the entry at the place of the walk
  entry_of : (u : Use) → Contains uses u → is_walk_role u.role ≡ true → (a : Atom) → Contains here a
      → Contains (variables_of a.what) (variable_of s u.name) → Contains entries (entry_at u.token a)
  entry_of u m w a k h =
      by
      (of_member (StandsAt s uses (match_tokens main optionals) entries a) (variables_of a.what) (variable_of s u.name)
      (of_member (AtomAt s uses (match_tokens main optionals) entries) here a (match_at s [] [] ([] ++ reads_of (lower.block_atoms s main)) main optionals) k) h)
    where
      same : (v : Use) → Contains uses v → variable_of s u.name ≡ variable_of s v.name → v ≡ u
      same v n is =
          walk_alone uses (one_use s graphs items main optionals distinct matched made) (unbroken_place s graphs items main optionals distinct matched made) u v m n w
          (sym (distinct.apart.names_apart u.name v.name (use_name s graphs items main optionals distinct matched made u m) (use_name s graphs items main optionals distinct matched made v n) is))

      by : StandsAt s uses (match_tokens main optionals) entries a (variable_of s u.name) → Contains entries (entry_at u.token a)
      by (inl (plain v n r is)) = absurd (cc (w, r, ap (λ (q : Use). is_walk_role q.role) (same v n is)))
      by (inl (bare t n is)) = absurd (distinct.apart.mixed_apart u.name t (use_name s graphs items main optionals distinct matched made u m) (match_token s graphs items main optionals distinct matched made t n) is)
      by (inr walked) = subst (λ (q : Use). Contains entries (entry_at q.token a)) (same walked.at_place walked.among walked.is) walked.entry

  -- so it is the atom of the pattern of the walk
  only_of : (f : Pattern) → Contains (patterns_of (block s graphs items main optionals distinct matched made)) f
      → IsOnly (block_atoms (block s graphs items main optionals distinct matched made)) f
  only_of f m a k h =
      let are = atoms_are s graphs items main optionals distinct matched made in
      let from = from_flat_map pattern_by here f (subst (λ es. Contains (flat_map pattern_by es) f) are m) in
      let own = from.0 in
      let facts = pattern_facts s (match_places s main optionals) own.graph own.what f from.2
      (of_member (AtomWalks s (match_places s main optionals)) here own (all_walk s graphs items main optionals distinct matched made) from.1) in
      let place = facts.place in
      let u = place.at_place in
      let there = place_use s graphs items main optionals distinct matched made own.graph u place.among in
      let first = entry_of u there place.walk own from.1 (subst (Contains (variables_of own.what)) place.is facts.among) in
      let other = entry_of u there place.walk a (subst (λ es. Contains es a) are k) (subst (Contains (variables_of a.what)) place.is (listed_member (variables_of a.what) f.path h)) in
      ap (λ (e : Entry). pattern_by e.atom) (one_entry (entry_at u.token a) (entry_at u.token own) other first refl) ∙ facts.only

  pub all_only : AreOnly (block s graphs items main optionals distinct matched made)
  all_only = each_member (IsOnly (block_atoms (block s graphs items main optionals distinct matched made))) (patterns_of (block s graphs items main optionals distinct matched made)) only_of

-- in the block of a CONSTRUCT that breaks no rule a pattern that asks for one walk is the only one that has its variable
pub only_patterns : (s : Scope) (graphs : List (List ℕ)) (token : ℕ) (items : Tree (RowOf AnItem)) (main : Tree ABlock) (optionals : Tree (RowOf AnOptional)) → IsDistinctBasic s items main optionals
    → IsUnbroken (match_breaches [] main optionals) → IsUnbroken (construct_breaches graphs [] items main optionals)
    → ((e d : Entry) → Contains (match_entries s main optionals) e → Contains (match_entries s main optionals) d → e.token ≡ d.token → e ≡ d)
    → AreOnly (block_of s [] (tree.Basic token items main optionals))
unfolding block_of
only_patterns s graphs token items main optionals distinct matched made one = all_only s graphs items main optionals distinct matched made one
