-- The steps of a block, with those of its EXISTS queries, mean the block.
use Rattle.std.proofs.Common.{◌≡◌, ◌↔◌, ℕ, zero, suc, ◌+◌, Bool, true, false, List, [], Some, is_some, inr, refl, sym, ap, ◌∙◌, subst, arith, slice_get}
use Rattle.std.specs.Prelude.{⊤}
use Rattle.std.specs.List.{list_any}
use Rattle.gc_base.specs.declared.place.Sym.{Sym}
use Rattle.gc_rows.specs.Algebra.{restricted}
use Rattle.gc_rows.specs.Rows.{IsRow, datum_at, lists}
use Rattle.gc_rows.specs.declared.row.Binding.{Binding}
use Rattle.gc_rows.proofs.RowLaws.{unlisted_unbound}
use Rattle.gc_values.specs.declared.reads.ReadUse.{ReadUse}
use Rattle.gc_alg.specs.Blocks.{AreAnswers, IsRowOfBlock, IsRowOfPart, IsRowOfParts, IsRowWith, bound_by}
use Rattle.gc_alg.specs.Joins.{IsOuterJoined}
use Rattle.gc_alg.specs.Matches.{Setting}
use Rattle.gc_alg.specs.Mentions.{in_conjunct, in_queries}
use Rattle.gc_alg.specs.Networks.{Database}
use Rattle.gc_alg.specs.Plans.{AreAnswersOf, IsRowOfPlan, Means, PlanTree, OuterPlan}
use Rattle.gc_alg.specs.Trees.{Tree, ABlock, APart, AConjunct, AnExists, RowOf, BlockOf, PartOf, ConjunctOf, ExistsOf, none, more, items}
use Rattle.gc_alg.proofs.JoinLaws.{Alike, outer_alike}
use Rattle.gc_alg.proofs.Restrictions.{kept_at, restricted_over}
use Rattle.gc_alg.proofs.Schemas.{lists_append, lists_itself, or_left, or_right}
use Rattle.gc_values.specs.Mentions.{mentions}
use Rattle.gc_explain.specs.ExplainedTrees.{BindsAround, occurs_in, queries_of}
use Rattle.gc_explain.specs.Needs.{part_variables}
use Rattle.gc_explain.specs.WholePlans.{AreSound, AreSoundQueries, HaveSoundQueries, IsSound, IsSoundPart, condition_plans, occurs_in_block, plan_at, query_plans, seen, whole_block, whole_from, whole_part, whole_parts}
use Rattle.gc_explain.proofs.PartRows.{part_rows}

-- what is bound is listed
bound_listed : (row : List Binding) (x : Sym) → is_some (datum_at row x) ≡ true → lists (bound_by row) x ≡ true
bound_listed row x h = at (lists (bound_by row) x) refl
  where
    at : (b : Bool) → lists (bound_by row) x ≡ b → b ≡ true
    at true e = refl
    at false e = let n = unlisted_unbound (bound_by row) row (lists_itself row) x e in let clash : is_some (datum_at row x) ≡ false = ap is_some n in cc

module _ (estimates : Tree APart → List ℕ) (db : Database) where
  abbrev In : Tree ABlock → List Binding → Setting
  In block given = record { database = db; block = block; given = given }

  -- the steps of parts, the first of which has a number, have the rows of these
  module _ (parts : Tree (RowOf APart)) (reads : List ReadUse) (around : List Sym) (given : List Binding) where
    abbrev AlikeAt : ℕ → Tree APart → Type 0
    AlikeAt number part = Alike (IsRowOfPlan (In (BlockOf parts reads) given) (whole_part estimates around number part)) (IsRowOfPart db given reads part)

    abbrev EachAlike : ℕ → Tree (RowOf APart) → Type 0
    EachAlike number none = ⊤
    EachAlike number (more part later) = AlikeAt number part × EachAlike (suc number) later

    rest_rows : (later : Tree (RowOf APart)) (number : ℕ) (p : PlanTree) (Left : List Binding → Type 0) → EachAlike number later → Alike (IsRowOfPlan (In (BlockOf parts reads) given) p) Left
        → Alike (IsRowOfPlan (In (BlockOf parts reads) given) (whole_from estimates around number later p)) (IsRowWith db given reads Left later)
    unfolding IsRowOfBlock IsRowOfPlan whole_block
    rest_rows none number p Left each same = same
    rest_rows (more part later) number p Left each same =
        let q : PlanTree = whole_part estimates around number part in
        rest_rows later (suc number) (OuterPlan p q) (IsOuterJoined Left (IsRowOfPart db given reads part)) each.1
        (outer_alike (IsRowOfPlan (In (BlockOf parts reads) given) p) Left (IsRowOfPlan (In (BlockOf parts reads) given) q) (IsRowOfPart db given reads part) same each.0)

    all_rows : (all : Tree (RowOf APart)) → EachAlike 0 all
        → Alike (IsRowOfPlan (In (BlockOf parts reads) given) (whole_parts estimates around all)) (IsRowOfParts db given reads all)
    unfolding IsRowOfBlock IsRowOfPlan whole_block
    all_rows none each = λ row. (λ h. h, λ h. h)
    all_rows (more part later) each = rest_rows later 1 (whole_part estimates around 0 part) (IsRowOfPart db given reads part) each.1 each.0

  mutual
    unfolding IsSound IsRowOfBlock IsRowOfPlan whole_block items

    block_rows : (block : Tree ABlock) (around : List Sym) → IsSound around block → (given : List Binding) → IsRow given
        → ((x : Sym) → lists around x ≡ true → occurs_in_block block x ≡ true → lists (bound_by given) x ≡ true)
        → Alike (IsRowOfPlan (In block given) (whole_block estimates around block)) (IsRowOfBlock db given block)
    block_rows (BlockOf parts reads) around sound given up binds =
        all_rows parts reads around given parts (each_part parts reads around given up parts 0 (λ k. let e : 0 + k ≡ k = omega arith in ap (slice_get (items parts)) e) sound binds)

    each_part : (parts : Tree (RowOf APart)) (reads : List ReadUse) (around : List Sym) (given : List Binding) → IsRow given
        → (later : Tree (RowOf APart)) (number : ℕ) → ((k : ℕ) → slice_get (items parts) (number + k) ≡ slice_get (items later) k)
        → AreSound around later → ((x : Sym) → lists around x ≡ true → list_any (λ part. occurs_in part x) (items later) ≡ true → lists (bound_by given) x ≡ true)
        → EachAlike parts reads around given number later
    each_part parts reads around given up none number at sound binds = tt
    each_part parts reads around given up (more part later) number at sound binds = (
      part_alike parts reads around given up number part (let e : number ≡ number + 0 = omega arith in ap (slice_get (items parts)) e ∙ at 0) sound.0
          (λ x a o. binds x a (or_left (occurs_in part x) _ o)),
      each_part parts reads around given up later (suc number) (λ k. let e : suc number + k ≡ number + suc k = omega arith in ap (slice_get (items parts)) e ∙ at (suc k)) sound.1
          (λ x a o. binds x a (or_right (occurs_in part x) _ o)),
    )

    part_alike : (parts : Tree (RowOf APart)) (reads : List ReadUse) (around : List Sym) (given : List Binding) → IsRow given → (number : ℕ) (part : Tree APart)
        → slice_get (items parts) number ≡ Some part → IsSoundPart around part → BindsAround around part given
        → Alike (IsRowOfPlan (In (BlockOf parts reads) given) (whole_part estimates around number part)) (IsRowOfPart db given reads part)
    part_alike parts reads around given up number (PartOf atoms cs) at sound binds = λ row.
        let part : Tree APart = PartOf atoms cs in
        part_rows db given up reads parts number part at around (plan_at (condition_plans estimates (seen around part) cs)) (estimates part) sound.0 (inr sound.1) binds
        (λ n c e row' up' b answers. at_condition cs (seen around part) sound.2 n c e row' up' (λ x m l. b x m (sym (lists_append (part_variables part) around x) ∙ l)) answers) row

    at_condition : (cs : Tree (RowOf AConjunct)) (around : List Sym) → HaveSoundQueries around cs → (n : ℕ) (c : Tree AConjunct) → slice_get (items cs) n ≡ Some c
        → (row : List Binding) → IsRow row → ((x : Sym) → in_conjunct x c ≡ true → lists around x ≡ true → is_some (datum_at row x) ≡ true)
        → (answers : List Bool) → AreAnswersOf db (plan_at (condition_plans estimates around cs) n) row (queries_of c) answers ↔ AreAnswers db row (queries_of c) answers
    at_condition none around sound n c e row up binds answers = cc
    at_condition (more (ConjunctOf condition queries) later) around sound zero c e row up binds answers =
        let same : ConjunctOf condition queries ≡ c = cc in
        subst (λ d. AreAnswersOf db (query_plans estimates around queries) row (queries_of d) answers ↔ AreAnswers db row (queries_of d) answers) same
        (queries_rows queries around sound.0 row up (λ x m l. subst (λ d. (y : Sym) → in_conjunct y d ≡ true → lists around y ≡ true → is_some (datum_at row y) ≡ true) (sym same) binds x (or_right (mentions x condition) _ m) l) answers)
    at_condition (more (ConjunctOf condition queries) later) around sound (suc n) c e row up binds answers = at_condition later around sound.1 n c e row up binds answers

    queries_rows : (queries : Tree (RowOf AnExists)) (around : List Sym) → AreSoundQueries around queries → (row : List Binding) → IsRow row
        → ((x : Sym) → in_queries x queries ≡ true → lists around x ≡ true → is_some (datum_at row x) ≡ true)
        → (answers : List Bool) → AreAnswersOf db (query_plans estimates around queries) row queries answers ↔ AreAnswers db row queries answers
    queries_rows none around sound row up binds answers = (λ h. h, λ h. h)
    queries_rows (more (ExistsOf outer block text) later) around sound row up binds answers =
        let inner = block_rows block around sound.1 (restricted outer row) (restricted_over outer row up).ascends (λ x a o.
        let kept : lists outer x ≡ true = sound.0 x a o in
        bound_listed (restricted outer row) x (ap is_some (kept_at outer row x kept) ∙ binds x (or_left (lists outer x) _ kept) a)) in (
          λ h. (
            h.0,
            (
              h.1.0,
              h.1.1,
              (λ e. let found = h.1.2.0 e in (found.0, (inner found.0).0 found.1), λ found. h.1.2.1 (found.0, (inner found.0).1 found.1)),
              (queries_rows later around sound.2 row up (λ x m l. binds x (or_right (lists outer x) _ m) l) h.1.0).0 h.1.3,
            ),
          ),
          λ h. (
            h.0,
            (
              h.1.0,
              h.1.1,
              (λ e. let found = h.1.2.0 e in (found.0, (inner found.0).1 found.1), λ found. h.1.2.1 (found.0, (inner found.0).0 found.1)),
              (queries_rows later around sound.2 row up (λ x m l. binds x (or_right (lists outer x) _ m) l) h.1.0).1 h.1.3,
            ),
          ),
        )

  pub whole_means : (block : Tree ABlock) → IsSound [] block → Means db block (whole_block estimates [] block)
  whole_means block sound given up row = block_rows block [] sound given up (λ x a o. cc) row
