-- What a row of a block binds comes from a part of the block, all of whose atoms the row meets.
use Rattle.std.proofs.Common.{◌≡◌, ◌⊎◌, inl, inr, ⊎_elim, Bool, true, false, ◌||◌, List, [], ◌∷◌, fold, Option, None, Some, refl, sym, ap, ◌∙◌, subst}
use Rattle.std.specs.List.{AllByRecursion, Contains}
use Rattle.std.specs.Option.{option_or}
use Rattle.gc_automata.specs.Moves.{Network}
use Rattle.gc_base.proofs.Search.{AllByRecursion-weaker}
use Rattle.gc_base.specs.declared.place.Sym.{Sym}
use Rattle.gc_rows.specs.Algebra.{are_compatible, row_union}
use Rattle.gc_rows.specs.Rows.{IsRow, datum_at, lists}
use Rattle.gc_rows.specs.declared.datum.Datum.{Datum}
use Rattle.gc_rows.specs.declared.row.Binding.{Binding}
use Rattle.gc_rows.proofs.Members.{contains_here, contains_later}
use Rattle.gc_rows.proofs.RowLaws.{unlisted_unbound}
use Rattle.gc_rows.proofs.UnionLaws.{IsRow-union, union_at, union_turned}
use Rattle.gc_values.specs.declared.reads.ReadUse.{ReadUse}
use Rattle.gc_alg.specs.Blocks.{IsRowOfBlock, IsRowOfPart, IsRowOfParts, IsRowWith, MeetsAll, with_atom}
use Rattle.gc_alg.specs.Instances.{MeetsIn, Satisfies, variables_of}
use Rattle.gc_alg.specs.Joins.{IsJoined, IsOuterJoined}
use Rattle.gc_alg.specs.Networks.{Database, network_of}
use Rattle.gc_alg.specs.Trees.{Tree, ABlock, APart, RowOf, BlockOf, PartOf, atoms_of, items, more, none, parts_of}
use Rattle.gc_alg.specs.declared.atom.Atom.{Atom}
use Rattle.gc_alg.specs.declared.atom.AtomWhat.{AtomWhat}
use Rattle.gc_alg.proofs.Schemas.{with_atom_listed}

-- an atom of some, that has a variable
pub record HasAtom (atoms : List Atom) (x : Sym) : Type 0 where
  pub atom : Atom
  pub among : Contains atoms atom
  pub listed : lists (variables_of atom.what) x ≡ true

-- a part of some, that has a variable and whose atoms a row all meets
pub record IsMet (db : Database) (parts : List (Tree APart)) (row : List Binding) (x : Sym) : Type 0 where
  pub part : Tree APart
  pub among : Contains parts part
  pub has : HasAtom (atoms_of part) x
  pub meets : AllByRecursion (Satisfies db row) (atoms_of part)

either : (a b : Bool) → (a || b) ≡ true → (a ≡ true) ⊎ (b ≡ true)
either true b h = inl h
either false b h = inr h

-- a variable that atoms add to a schema is one of theirs
added : (schema : List Sym) (atoms : List Atom) (x : Sym) → lists (fold with_atom schema atoms) x ≡ true → (lists schema x ≡ true) ⊎ HasAtom atoms x
added schema [] x h = inl h
added schema (a ∷ atoms) x h =
    ⊎_elim
    (λ k. ⊎_elim inl (λ l. inr (record { atom = a; among = contains_here a atoms; listed = l }))
    (either (lists schema x) (lists (variables_of a.what) x) (sym (with_atom_listed schema a x) ∙ k)))
    (λ (k : HasAtom atoms x). inr (record { atom = k.atom; among = contains_later a atoms k.atom k.among; listed = k.listed }))
    (added (with_atom schema a) atoms x h)

-- a row has all that another has
abbrev Extends : List Binding → List Binding → Type 0
Extends row whole = (x : Sym) (d : Datum) → datum_at row x ≡ Some d → datum_at whole x ≡ Some d

-- so it meets the atoms that the other meets
met_in : (row whole : List Binding) → Extends row whole → (network : Option Network) (what : AtomWhat) → MeetsIn network what row → MeetsIn network what whole
met_in row whole wider None what m = m
met_in row whole wider (Some n) what m = record {
  instance = m.instance;
  there = m.there;
  holds = AllByRecursion-weaker _ _ (λ (b : Binding) h. wider b.var b.datum h) m.instance m.holds;
}

met_too : (db : Database) (row whole : List Binding) → Extends row whole → (atoms : List Atom) → AllByRecursion (Satisfies db row) atoms → AllByRecursion (Satisfies db whole) atoms
met_too db row whole wider atoms h = AllByRecursion-weaker _ _ (λ (a : Atom) m. met_in row whole wider (network_of db a) a.what m) atoms h

option_first : {X : Type 0} (o p : Option X) (x : X) → o ≡ Some x → option_or o p ≡ Some x
option_first o p x h = ap (λ q. option_or q p) h

option_either : {X : Type 0} (o p : Option X) (x : X) → option_or o p ≡ Some x → (o ≡ Some x) ⊎ (p ≡ Some x)
option_either None p x h = inr h
option_either (Some y) p x h = inl h

-- a union has all that either row has
module _ (left right : List Binding) (up_left : IsRow left) (up_right : IsRow right) (fit : are_compatible left right ≡ true) where
  has_left : Extends left (row_union left right)
  has_left x d h = union_at left right up_left x ∙ option_first (datum_at left x) (datum_at right x) d h

  has_right : Extends right (row_union left right)
  has_right x d h =
      ap (λ (r : List Binding). datum_at r x) (union_turned left right up_left up_right fit)
      ∙ (union_at right left up_right x ∙ option_first (datum_at right x) (datum_at left x) d h)

  of_either : (x : Sym) (d : Datum) → datum_at (row_union left right) x ≡ Some d → (datum_at left x ≡ Some d) ⊎ (datum_at right x ≡ Some d)
  of_either x d h = option_either (datum_at left x) (datum_at right x) d (sym (union_at left right up_left x) ∙ h)

module _ (db : Database) (all : List (Tree APart)) (reads : List ReadUse) where
  -- a row whose data come from parts of which it meets all atoms
  record IsSound (row : List Binding) : Type 0 where
    up : IsRow row
    met : (x : Sym) (d : Datum) → datum_at row x ≡ Some d → IsMet db all row x

  extended : (row whole : List Binding) → Extends row whole → (x : Sym) → IsMet db all row x → IsMet db all whole x
  extended row whole wider x m = record { part = m.part; among = m.among; has = m.has; meets = met_too db row whole wider (atoms_of m.part) m.meets }

  unlisted : (o : Option Datum) (d : Datum) → o ≡ None → o ≡ Some d → ⊥
  unlisted o d h k = absurd (cc (h, k))

  part_listed : (atoms : List Atom) (row : List Binding) → MeetsAll db [] atoms row → (x : Sym) (d : Datum) → datum_at row x ≡ Some d → lists (fold with_atom [] atoms) x ≡ true
  part_listed atoms row m x d h =
      elim (lists (fold with_atom [] atoms) x) as (λ b. lists (fold with_atom [] atoms) x ≡ b → b ≡ true) [
        | true ↦ λ e. refl
        | false ↦ λ e. absurd (unlisted (datum_at row x) d (unlisted_unbound (fold with_atom [] atoms) row m.over.over x e) h)
      ] refl

  none_listed : {P : Type 0} (x : Sym) → lists [] x ≡ true → P
  none_listed x h = absurd (cc h)

  part_sound : (part : Tree APart) → Contains all part → (row : List Binding) → IsRowOfPart db [] reads part row → IsSound row
  unfolding IsRowOfBlock IsRowOfPart
  part_sound (PartOf atoms conjuncts) among row h = record {
    up = h.0.over.ascends;
    met = λ x d k. ⊎_elim (λ n. none_listed x n) (λ has. record { part = PartOf atoms conjuncts; among = among; has = has; meets = h.0.meets })
        (added [] atoms x (part_listed atoms row h.0 x d k));
  }

  joined_sound : (Left Right : List Binding → Type 0) → ((row : List Binding) → Left row → IsSound row) → ((row : List Binding) → Right row → IsSound row)
      → (row : List Binding) → IsJoined Left Right row → IsSound row
  joined_sound Left Right left right row j =
      let l = left j.left_row j.left in
      let r = right j.right_row j.right in
      let whole : IsSound (row_union j.left_row j.right_row) = record {
        up = IsRow-union j.left_row j.right_row r.up;
        met = λ x d h. ⊎_elim
            (λ k. extended j.left_row (row_union j.left_row j.right_row) (has_left j.left_row j.right_row l.up r.up j.compatible) x (l.met x d k))
            (λ k. extended j.right_row (row_union j.left_row j.right_row) (has_right j.left_row j.right_row l.up r.up j.compatible) x (r.met x d k))
            (of_either j.left_row j.right_row l.up r.up j.compatible x d h);
      } in
      subst IsSound (sym j.union) whole

  outer_sound : (Left Right : List Binding → Type 0) → ((row : List Binding) → Left row → IsSound row) → ((row : List Binding) → Right row → IsSound row)
      → (row : List Binding) → IsOuterJoined Left Right row → IsSound row
  outer_sound Left Right left right row (inl j) = joined_sound Left Right left right row j
  outer_sound Left Right left right row (inr a) = left row a.left

  with_sound : (Left : List Binding → Type 0) → ((row : List Binding) → Left row → IsSound row) → (later : Tree (RowOf APart))
      → ((p : Tree APart) → Contains (items later) p → Contains all p) → (row : List Binding) → IsRowWith db [] reads Left later row → IsSound row
  unfolding IsRowOfBlock IsRowWith items
  with_sound Left left none among row h = left row h
  with_sound Left left (more part later) among row h =
      with_sound (IsOuterJoined Left (IsRowOfPart db [] reads part))
      (outer_sound Left (IsRowOfPart db [] reads part) left (λ r k. part_sound part (among part (contains_here part (items later))) r k))
      later (λ p m. among p (contains_later part (items later) p m)) row h

  no_datum : {P : Type 0} (x : Sym) (d : Datum) → datum_at [] x ≡ Some d → P
  no_datum x d h = absurd (cc h)

  parts_sound : (parts : Tree (RowOf APart)) → ((p : Tree APart) → Contains (items parts) p → Contains all p) → (row : List Binding) → IsRowOfParts db [] reads parts row → IsSound row
  unfolding IsRowOfBlock IsRowOfParts items
  parts_sound none among row h = subst IsSound (sym h) (record { up = tt; met = λ x d k. no_datum x d k })
  parts_sound (more part later) among row h =
      with_sound (IsRowOfPart db [] reads part) (λ r k. part_sound part (among part (contains_here part (items later))) r k) later
      (λ p m. among p (contains_later part (items later) p m)) row h

-- each datum of a row of a block comes from a part of which the row meets all atoms
pub bound_is_met : (db : Database) (block : Tree ABlock) (row : List Binding) → IsRowOfBlock db [] block row → (x : Sym) (d : Datum) → datum_at row x ≡ Some d
    → IsMet db (items (parts_of block)) row x
unfolding IsRowOfBlock
bound_is_met db (BlockOf parts reads) row h x d k = (parts_sound db (items parts) reads parts (λ p m. m) row h).met x d k
