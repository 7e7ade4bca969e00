-- The atoms of chains begin at nodes, or at what comes before them.
use Rattle.std.proofs.Common.{◌≡◌, ◌⊎◌, inl, inr, ⊎_elim, ℕ, zero, suc, ◌<◌, ◌==◌, ◌&&◌, ◌||◌, nat_lt, Bool, true, false}
use Rattle.std.proofs.Common.{List, [], ◌∷◌, ◌++◌, Option, None, Some, is_some, slice_get, refl, sym, ap, ◌∙◌, subst, arith}
use Rattle.std.proofs.lemmas.Bool.Decides.{nat_tests}
use Rattle.std.proofs.lemmas.List.Folds.{list_any-append}
use Rattle.std.specs.Prelude.{⊤}
use Rattle.std.specs.List.{AllByRecursion, list_any}
use Rattle.gc_base.specs.declared.place.Direction.{Direction}
use Rattle.gc_base.specs.declared.place.Sym.{Sym}
use Rattle.gc_base.proofs.SetLaws.{AllByRecursion-append}
use Rattle.gc_rows.specs.Rows.{lists}
use Rattle.gc_ppg.specs.declared.shape.Kind.{Kind}
use Rattle.gc_ppg.specs.declared.shape.Kind.TheVariants as kind
use Rattle.gc_ast.specs.Trees as tree
use Rattle.gc_ast.specs.Trees.{RowOf, ALocated, APattern, AnElement, APropertyUse, APathBody}
use Rattle.gc_alg.specs.Instances.{variables_of}
use Rattle.gc_alg.specs.Trees.{Tree, AConjunct, PartOf}
use Rattle.gc_alg.specs.Trees as alg
use Rattle.gc_alg.specs.declared.atom.Atom.{Atom}
use Rattle.gc_alg.proofs.Schemas.{itself, or_left, or_right}
use Rattle.gc_plan.proofs.Bindings.{and_left, and_right}
use Rattle.gc_explain.specs.ExplainedTrees.{HasBefore, IsLinked, begins_at, rank}
use Rattle.gc_lower.specs.Chains.{atoms_of, chain_atoms, edge_atoms, element_variable, next_variable, node_atoms, node_variable}
use Rattle.gc_lower.specs.Chains.{part_atoms, path_atom, property_atoms, view_atoms}
use Rattle.gc_lower.specs.Scopes.{Scope, graph_of, variable_or}
use Rattle.gc_explain_laws.specs.NodeBlocks.{first_begins, first_of_view_begins}

-- whether an atom that comes before others has a variable, and whether one of some does
abbrev brings : (limit : ℕ) → Sym → Atom → Bool
brings limit x a = nat_lt (rank a.what) limit && lists (variables_of a.what) x

abbrev held : List Atom → (limit : ℕ) → Sym → Bool
held atoms limit x = list_any (brings limit x) atoms

-- all that some atoms have, others have too
abbrev Within : (atoms whole : List Atom) → Type 0
Within atoms whole = (limit : ℕ) (x : Sym) → held atoms limit x ≡ true → held whole limit x ≡ true

in_first : (a b whole : List Atom) → Within (a ++ b) whole → Within a whole
in_first a b whole w limit x h = w limit x (list_any-append (brings limit x) a b ∙ or_left (held a limit x) _ h)

in_second : (a b whole : List Atom) → Within (a ++ b) whole → Within b whole
in_second a b whole w limit x h = w limit x (list_any-append (brings limit x) a b ∙ or_right (held a limit x) _ h)

-- an atom is that of a node, or begins at what others have
abbrev Begins : (whole : List Atom) → Atom → Type 0
Begins whole a = (rank a.what ≡ 0) ⊎ (held whole (rank a.what) (begins_at a.what) ≡ true)

abbrev AllBegin : (whole atoms : List Atom) → Type 0
AllBegin whole atoms = AllByRecursion (Begins whole) atoms

-- a part of a chain that stands on the left, if it is a node, is held
abbrev LeftHeld : (whole : List Atom) → Option Sym → Type 0
LeftHeld whole None = ⊤
LeftHeld whole (Some x) = held whole 1 x ≡ true

module _ (s : Scope) (graph : ℕ) (whole : List Atom) where
  properties_begin : (x : Sym) (k : Kind) (ps : tree.Tree (RowOf APropertyUse)) → held whole 2 x ≡ true → AllBegin whole (property_atoms s graph x k ps)
  properties_begin x k tree.none h = tt
  properties_begin x k (tree.more (tree.PropertyUse token property value) ps) h = (inr h, properties_begin x k ps h)

  node_held : (e : tree.Tree AnElement) → Within (node_atoms s graph e) whole → (limit : ℕ) → 0 < limit → held whole limit (element_variable s e) ≡ true
  node_held (tree.Element token name labels ps) w limit h =
      let x : Sym = variable_or s token name in
      let below : nat_lt 0 limit ≡ true = grind (arith, nat_tests) in
      w limit x (or_left (nat_lt 0 limit && lists (x ∷ []) x) _ (ap (λ t. t && lists (x ∷ []) x) below ∙ or_left (x.0 == x.0) _ (itself x.0)))

  node_begins : (e : tree.Tree AnElement) → Within (node_atoms s graph e) whole → AllBegin whole (node_atoms s graph e)
  node_begins (tree.Element token name labels ps) w =
      let x : Sym = variable_or s token name in
      let below : 0 < 2 = omega arith in
      (inl refl, properties_begin x kind.Node ps (node_held (tree.Element token name labels ps) w 2 below))

  edge_begins : (x y : Sym) (way : Direction) (e : tree.Tree AnElement) → Within (edge_atoms s graph x y way e) whole → held whole 1 x ≡ true
      → AllBegin whole (edge_atoms s graph x y way e)
  edge_begins x y way (tree.Element token name labels ps) w h =
      let e : Sym = variable_or s token name in
      (inr h, properties_begin e kind.Edge ps (w 2 e (or_left (lists (x ∷ e ∷ y ∷ []) e) _ (or_right (x.0 == e.0) _ (or_left (e.0 == e.0) _ (itself e.0))))))

  path_begins : (x y : Sym) (body : tree.Tree APathBody) → held whole 1 x ≡ true → AllBegin whole (path_atom s graph x y body ∷ [])
  path_begins x y (tree.Reach regex views) h = (inr h, tt)
  path_begins x y (tree.Found k p regex views cost) h = (inr h, tt)
  path_begins x y (tree.All p regex views) h = (inr h, tt)
  path_begins x y (tree.Stored p labels) h = (inr h, tt)

  part_begins : (left right : Option Sym) (p : tree.Tree APattern) → Within (part_atoms s graph left right p) whole → LeftHeld whole left
      → AllBegin whole (part_atoms s graph left right p)
  part_begins left right (tree.Node e) w h = node_begins e w
  part_begins (Some x) (Some y) (tree.Edge way e) w h = edge_begins x y way e w h
  part_begins (Some x) None (tree.Edge way e) w h = tt
  part_begins None right (tree.Edge way e) w h = tt
  part_begins (Some x) (Some y) (tree.Path token regex_at body) w h = path_begins x y body h
  part_begins (Some x) None (tree.Path token regex_at body) w h = tt
  part_begins None right (tree.Path token regex_at body) w h = tt

  next_held : (left right : Option Sym) (p : tree.Tree APattern) → Within (part_atoms s graph left right p) whole → LeftHeld whole (node_variable s p)
  next_held left right (tree.Node e) w = let below : 0 < 1 = omega arith in node_held e w 1 below
  next_held left right (tree.Edge way e) w = tt
  next_held left right (tree.Path token regex_at body) w = tt

  chain_begins : (left : Option Sym) (parts : tree.Tree (RowOf APattern)) → Within (chain_atoms s graph left parts) whole → LeftHeld whole left
      → AllBegin whole (chain_atoms s graph left parts)
  chain_begins left tree.none w h = tt
  chain_begins left (tree.more p ps) w h =
      let first : List Atom = part_atoms s graph left (next_variable s ps) p in
      let rest : List Atom = chain_atoms s graph (node_variable s p) ps in
      AllByRecursion-append (Begins whole) first rest
      (part_begins left (next_variable s ps) p (in_first first rest whole w) h)
      (chain_begins (node_variable s p) ps (in_second first rest whole w) (next_held left (next_variable s ps) p (in_first first rest whole w)))

module _ (s : Scope) (whole : List Atom) where
  all_begin : (located : tree.Tree (RowOf ALocated)) → Within (atoms_of s located) whole → AllBegin whole (atoms_of s located)
  all_begin tree.none w = tt
  all_begin (tree.more (tree.Located parts on) located) w =
      let first : List Atom = chain_atoms s (graph_of s on) None parts in
      AllByRecursion-append (Begins whole) first (atoms_of s located)
      (chain_begins s (graph_of s on) whole None parts (in_first first (atoms_of s located) whole w) tt)
      (all_begin located (in_second first (atoms_of s located) whole w))

  all_of_view_begin : (chains : tree.Tree (RowOf (RowOf APattern))) → Within (view_atoms s chains) whole → AllBegin whole (view_atoms s chains)
  all_of_view_begin tree.none w = tt
  all_of_view_begin (tree.more parts chains) w =
      let first : List Atom = chain_atoms s (graph_of s None) None parts in
      AllByRecursion-append (Begins whole) first (view_atoms s chains)
      (chain_begins s (graph_of s None) whole None parts (in_first first (view_atoms s chains) whole w) tt)
      (all_of_view_begin chains (in_second first (view_atoms s chains) whole w))

-- what is held is held by an atom of a number
record Holder (atoms : List Atom) (limit : ℕ) (x : Sym) : Type 0 where
  number : ℕ
  atom : Atom
  there : slice_get atoms number ≡ Some atom
  brings : brings limit x atom ≡ true

holder : (atoms : List Atom) (limit : ℕ) (x : Sym) → held atoms limit x ≡ true → Holder atoms limit x
holder [] limit x h = cc
holder (a ∷ atoms) limit x h = at (brings limit x a) refl (λ later. holder atoms limit x later)
  where
    at : (t : Bool) → brings limit x a ≡ t → (held atoms limit x ≡ true → Holder atoms limit x) → Holder (a ∷ atoms) limit x
    at true e behind = record { number = 0; atom = a; there = refl; brings = e }
    at false e behind =
        let next = behind (ap (λ t. t || held atoms limit x) (sym e) ∙ h) in
        record { number = suc next.number; atom = next.atom; there = next.there; brings = next.brings }

begins_at_number : (whole atoms : List Atom) → AllBegin whole atoms → (n : ℕ) (a : Atom) → slice_get atoms n ≡ Some a → Begins whole a
begins_at_number whole [] all n a e = cc
begins_at_number whole (b ∷ atoms) all zero a e = let same : b ≡ a = cc in subst (Begins whole) same all.0
begins_at_number whole (b ∷ atoms) all (suc n) a e = begins_at_number whole atoms all.1 n a e

has_before : (atoms : List Atom) (conjuncts : Tree (alg.RowOf AConjunct)) (limit : ℕ) (x : Sym) → held atoms limit x ≡ true
    → HasBefore (PartOf atoms conjuncts) limit x
has_before atoms conjuncts limit x h =
    let found = holder atoms limit x h in
    let below : nat_lt (rank found.atom.what) limit ≡ true = and_left (nat_lt (rank found.atom.what) limit) _ found.brings in
    record {
      number = found.number;
      atom = found.atom;
      there = found.there;
      before = grind (arith, nat_tests);
      binds = and_right (nat_lt (rank found.atom.what) limit) _ found.brings;
    }

linked : (atoms : List Atom) (conjuncts : Tree (alg.RowOf AConjunct)) → AllBegin atoms atoms → IsLinked (PartOf atoms conjuncts)
linked atoms conjuncts all n a e =
    ⊎_elim (λ z. inl z) (λ h. inr (has_before atoms conjuncts (rank a.what) (begins_at a.what) h)) (begins_at_number atoms atoms all n a e)

pub block_linked : (s : Scope) (located : tree.Tree (RowOf ALocated)) (conjuncts : Tree (alg.RowOf AConjunct))
    → IsLinked (PartOf (atoms_of s located) conjuncts)
block_linked s located conjuncts = linked (atoms_of s located) conjuncts (all_begin s (atoms_of s located) located (λ limit x h. h))

pub view_linked : (s : Scope) (chains : tree.Tree (RowOf (RowOf APattern))) (conjuncts : Tree (alg.RowOf AConjunct))
    → IsLinked (PartOf (view_atoms s chains) conjuncts)
view_linked s chains conjuncts = linked (view_atoms s chains) conjuncts (all_of_view_begin s (view_atoms s chains) chains (λ limit x h. h))

-- a block whose first chain begins with a node has an atom
pub block_has_atom : (s : Scope) (located : tree.Tree (RowOf ALocated)) → first_begins located ≡ true → is_some (slice_get (atoms_of s located) 0) ≡ true
block_has_atom s tree.none h = cc
block_has_atom s (tree.more (tree.Located tree.none on) located) h = cc
block_has_atom s (tree.more (tree.Located (tree.more (tree.Node (tree.Element token name labels ps)) later) on) located) h = refl
block_has_atom s (tree.more (tree.Located (tree.more (tree.Edge way e) later) on) located) h = cc
block_has_atom s (tree.more (tree.Located (tree.more (tree.Path token regex_at body) later) on) located) h = cc

pub view_has_atom : (s : Scope) (chains : tree.Tree (RowOf (RowOf APattern))) → first_of_view_begins chains ≡ true
    → is_some (slice_get (view_atoms s chains) 0) ≡ true
view_has_atom s tree.none h = cc
view_has_atom s (tree.more tree.none chains) h = cc
view_has_atom s (tree.more (tree.more (tree.Node (tree.Element token name labels ps)) later) chains) h = refl
view_has_atom s (tree.more (tree.more (tree.Edge way e) later) chains) h = cc
view_has_atom s (tree.more (tree.more (tree.Path token regex_at body) later) chains) h = cc
