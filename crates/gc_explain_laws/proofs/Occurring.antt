-- What an EXISTS query of a block sees, and what it keeps of that.
use Rattle.std.proofs.Common.{◌≡◌, ℕ, ◌==◌, ◌||◌, Bool, true, false, cond, List, [], ◌∷◌, ◌++◌, filter, fold, map, refl, sym, ap, ◌∙◌, subst}
use Rattle.std.proofs.lemmas.List.Folds.{list_any-append}
use Rattle.std.specs.List.{flat_map, list_any}
use Rattle.gc_base.specs.declared.place.Sym.{Sym}
use Rattle.gc_rows.specs.Rows.{each_once, lists, with_variable}
use Rattle.gc_values.specs.declared.reads.ReadUse.{ReadUse}
use Rattle.gc_alg.specs.Instances.{variables_of}
use Rattle.gc_alg.specs.Mentions.{in_conjunct}
use Rattle.gc_alg.specs.Trees.{Tree, ABlock, APart, AConjunct, RowOf, BlockOf, PartOf, none, more, items}
use Rattle.gc_alg.specs.declared.atom.Atom.{Atom}
use Rattle.gc_alg.proofs.Schemas.{lists_append, or_left, or_right, same_number}
use Rattle.gc_plan.proofs.Bindings.{or_elim}
use Rattle.gc_explain.specs.ExplainedTrees.{occurs_in as occurs_in_part}
use Rattle.gc_explain.specs.Needs.{part_variables}
use Rattle.gc_explain.specs.WholePlans.{occurs_in_block, seen as seen_around}
use Rattle.gc_lower.specs.Blocks.{in_atom, in_conjuncts, in_part, in_parts, occurs_in, outer_of, sight}
use Rattle.gc_lower.specs.Reads.{has_read, read_in, reads_of, reads_of_atom}

-- a variable occurs in a block by the one definition as by the other
same_atoms : (atoms : List Atom) (x : Sym) → lists (flat_map (λ (a : Atom). variables_of a.what) atoms) x ≡ list_any (in_atom x) atoms
same_atoms [] x = refl
same_atoms (a ∷ atoms) x =
    lists_append (variables_of a.what) (flat_map (λ (b : Atom). variables_of b.what) atoms) x
    ∙ ap (λ t. lists (variables_of a.what) x || t) (same_atoms atoms x)

same_conjuncts : (conjuncts : Tree (RowOf AConjunct)) (x : Sym) → list_any (in_conjunct x) (items conjuncts) ≡ in_conjuncts x conjuncts
unfolding items
same_conjuncts none x = refl
same_conjuncts (more conjunct later) x = ap (λ t. in_conjunct x conjunct || t) (same_conjuncts later x)

same_part : (part : Tree APart) (x : Sym) → occurs_in_part part x ≡ in_part x part
same_part (PartOf atoms conjuncts) x = λ j. same_atoms atoms x j || same_conjuncts conjuncts x j

same_parts : (parts : Tree (RowOf APart)) (x : Sym) → list_any (λ part. occurs_in_part part x) (items parts) ≡ in_parts x parts
unfolding items
same_parts none x = refl
same_parts (more part later) x = λ j. same_part part x j || same_parts later x j

same_occurs : (block : Tree ABlock) (x : Sym) → occurs_in_block block x ≡ occurs_in block x
same_occurs (BlockOf parts reads) x = same_parts parts x

-- a variable that is listed, and passes a test, is listed behind the test
module _ {X : Type 0} (var : X → Sym) (test : Sym → Bool) where
  abbrev names : Sym → X → Bool
  names x r = (var r).0 == x.0

  pub kept : (rs : List X) (x : Sym) → list_any (names x) rs ≡ true → test x ≡ true → list_any (names x) (filter (λ r. test (var r)) rs) ≡ true
  kept [] x h t = h
  kept (r ∷ rs) x h t =
      or_elim ((var r).0 == x.0) (list_any (names x) rs) h
      (λ e. first (test (var r)) (subst (λ (k : ℕ). test (record { 0 = k }) ≡ true) (sym (same_number (var r).0 x.0 e)) t) e)
      (λ later. behind (test (var r)) (kept rs x later t))
    where
      first : (b : Bool) → b ≡ true → ((var r).0 == x.0) ≡ true
          → list_any (names x) (cond b (r ∷ filter (λ q. test (var q)) rs) (filter (λ q. test (var q)) rs)) ≡ true
      first true u e = or_left ((var r).0 == x.0) _ e
      first false u e = cc

      behind : (b : Bool) → list_any (names x) (filter (λ q. test (var q)) rs) ≡ true
          → list_any (names x) (cond b (r ∷ filter (λ q. test (var q)) rs) (filter (λ q. test (var q)) rs)) ≡ true
      behind true u = or_right ((var r).0 == x.0) _ u
      behind false u = u

-- among those each of which comes once are all
with_one : (schema : List Sym) (y x : Sym) → lists schema x ≡ true → lists (with_variable schema y) x ≡ true
with_one schema y x h = at (lists schema y)
  where
    at : (t : Bool) → lists (cond t schema (schema ++ y ∷ [])) x ≡ true
    at true = h
    at false = lists_append schema (y ∷ []) x ∙ or_left (lists schema x) _ h

with_itself : (schema : List Sym) (y x : Sym) → (y.0 == x.0) ≡ true → lists (with_variable schema y) x ≡ true
with_itself schema y x e = at (lists schema y) refl
  where
    at : (t : Bool) → lists schema y ≡ t → lists (cond t schema (schema ++ y ∷ [])) x ≡ true
    at true there = subst (λ (k : ℕ). lists schema (record { 0 = k }) ≡ true) (same_number y.0 x.0 e) there
    at false there = lists_append schema (y ∷ []) x ∙ or_right (lists schema x) _ (or_left (y.0 == x.0) _ e)

stays : (schema vars : List Sym) (x : Sym) → lists schema x ≡ true → lists (fold with_variable schema vars) x ≡ true
stays schema [] x h = h
stays schema (y ∷ vars) x h = stays (with_variable schema y) vars x (with_one schema y x h)

comes : (schema vars : List Sym) (x : Sym) → lists vars x ≡ true → lists (fold with_variable schema vars) x ≡ true
comes schema [] x h = cc
comes schema (y ∷ vars) x h =
    or_elim (y.0 == x.0) (lists vars x) h
    (λ e. stays (with_variable schema y) vars x (with_itself schema y x e))
    (λ later. comes (with_variable schema y) vars x later)

same_read : (reads : List ReadUse) (x : Sym) → lists (map (λ r. r.var) reads) x ≡ has_read reads x
same_read [] x = refl
same_read (r ∷ reads) x = ap (λ t. (r.var.0 == x.0) || t) (same_read reads x)

-- a query keeps as an outer variable what is read around it and occurs in its block
pub outer_kept : (reads : List ReadUse) (block : Tree ABlock) (x : Sym) → has_read reads x ≡ true → occurs_in_block block x ≡ true
    → lists (outer_of reads block) x ≡ true
outer_kept reads block x read occurs =
    let vars : List Sym = map (λ r. r.var) reads in
    kept (λ y. y) (occurs_in block) (each_once vars) x (comes [] vars x (same_read reads x ∙ read)) (sym (same_occurs block x) ∙ occurs)

-- what the atoms of a part have is read by them
same_uses : (graph : ℕ) (vars : List Sym) (x : Sym) → has_read (map (read_in graph) vars) x ≡ lists vars x
same_uses graph [] x = refl
same_uses graph (y ∷ vars) x = ap (λ t. (y.0 == x.0) || t) (same_uses graph vars x)

same_reads : (atoms : List Atom) (x : Sym) → has_read (reads_of atoms) x ≡ lists (flat_map (λ (a : Atom). variables_of a.what) atoms) x
same_reads [] x = refl
same_reads (a ∷ atoms) x =
    list_any-append (λ (r : ReadUse). r.var.0 == x.0) (reads_of_atom a) (reads_of atoms)
    ∙ (λ j. same_uses a.graph (variables_of a.what) x j || same_reads atoms x j)
    ∙ sym (lists_append (variables_of a.what) (flat_map (λ (b : Atom). variables_of b.what) atoms) x)

-- variables are all read
abbrev pub AreRead : (reads : List ReadUse) → (vars : List Sym) → Type 0
AreRead reads vars = (x : Sym) → lists vars x ≡ true → has_read reads x ≡ true

-- what is read by some is read by others
abbrev pub AreReadIn : (reads before : List ReadUse) → Type 0
AreReadIn reads before = (x : Sym) → has_read reads x ≡ true → has_read before x ≡ true

pub read_before : (reads before more_reads : List ReadUse) → AreReadIn reads before → AreReadIn reads (before ++ more_reads)
read_before reads before more_reads all x h = list_any-append (λ (r : ReadUse). r.var.0 == x.0) before more_reads ∙ or_left (has_read before x) _ (all x h)

-- what the EXISTS queries of a part see is read in their sight
pub sight_read : (reads before : List ReadUse) (around : List Sym) (atoms : List Atom) (conjuncts : Tree (RowOf AConjunct)) → AreRead reads around
    → AreReadIn reads before → AreRead (sight reads before atoms) (seen_around around (PartOf atoms conjuncts))
sight_read reads before around atoms conjuncts read all x h =
    let own : List ReadUse = reads_of atoms in
    let vars : List Sym = part_variables (PartOf atoms conjuncts) in
    let test : Sym → Bool = λ y. has_read reads y || has_read own y in
    let whole = list_any-append (λ (r : ReadUse). r.var.0 == x.0) before own in
    or_elim (lists vars x) (lists around x) (sym (lists_append vars around x) ∙ h)
    (λ inside.
    let here : has_read own x ≡ true = same_reads atoms x ∙ inside in
    kept (λ (r : ReadUse). r.var) test (before ++ own) x (whole ∙ or_right (has_read before x) _ here) (or_right (has_read reads x) _ here))
    (λ outside.
    let there : has_read reads x ≡ true = read x outside in
    kept (λ (r : ReadUse). r.var) test (before ++ own) x (whole ∙ or_left (has_read before x) _ (all x there)) (or_left (has_read reads x) _ there))
