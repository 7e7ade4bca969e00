-- Going back along a walk to the source, and from there to its end.
use Rattle.std.proofs.Common.{◌≡◌, ◌-◌, ◌<◌, List, [], ◌∷◌, ◌++◌, reverse, Some, refl, sym, ap, ◌∙◌, append_assoc}
use Rattle.std.specs.List.{slice_get}
use Rattle.std.proofs.lemmas.List.{reverse-append, reverse-reverse}
use Rattle.gc_base.specs.declared.walk.Step.{Step}
use Rattle.gc_prod.specs.declared.moves.RunMove.{RunMove}
use Rattle.gc_prod.specs.Products.{Setting}
use Rattle.gc_prod.specs.SymbolHops.{steps_by}
use Rattle.gc_search.specs.Arrivals.{FoundWalk}
use Rattle.gc_search.specs.Links.{Link, numbered, steps_behind, run_behind, walk_of, steps_along, run_along}
use Rattle.gc_search.proofs.TreeLaws.{numbered_at}

pub reverse_push : (xs : List Link) (x : Link) → reverse (xs ++ x ∷ []) ≡ x ∷ reverse xs
reverse_push xs x = reverse-append xs (x ∷ [])

module _ (setting : Setting) (walks : List FoundWalk) where
  -- what is left of a walk, and the way that was gone back
  pub record IsBack (whole : FoundWalk) (l : Link) (way : List Link) : Type 0 where
    pub steps : (walk_of setting walks l).steps ++ steps_along setting (reverse way) ≡ whole.steps
    pub run : (walk_of setting walks l).run ++ run_along (reverse way) ≡ whole.run

  pub back_start : (whole : FoundWalk) (l : Link) → walk_of setting walks l ≡ whole → IsBack whole l []
  back_start whole l is = record { steps = append_none (walk_of setting walks l).steps ∙ ap (λ (a : FoundWalk). a.steps) is; run = append_none (walk_of setting walks l).run ∙ ap (λ (a : FoundWalk). a.run) is }
    where
      append_none : {X : Type 0} (xs : List X) → xs ++ [] ≡ xs
      append_none [] = refl
      append_none (x ∷ xs) = ap (λ v. x ∷ v) (append_none xs)

  pub back_one : (whole : FoundWalk) (l k : Link) (way : List Link) → 0 < l.before → slice_get walks (l.before - 1) ≡ Some (walk_of setting walks k) → IsBack whole l way → IsBack whole k (way ++ l ∷ [])
  back_one whole l k way some at back =
      let a = walk_of setting walks k in
      let is = numbered_at walks l.before a some at in
      let by_move = steps_by setting.network l.by l.at.node in
      let one : List RunMove = record { by = l.by; to = l.at.state } ∷ [] in
      record {
        steps =
            ap (λ v. a.steps ++ steps_along setting v) (reverse_push way l)
            ∙ (sym (append_assoc a.steps by_move (steps_along setting (reverse way)))
            ∙ (ap (λ o. steps_behind setting l o ++ steps_along setting (reverse way)) (sym is) ∙ back.steps));
        run =
            ap (λ v. a.run ++ run_along v) (reverse_push way l)
            ∙ (sym (append_assoc a.run one (run_along (reverse way))) ∙ (ap (λ o. run_behind l o ++ run_along (reverse way)) (sym is) ∙ back.run));
      }

  pub back_end : (whole : FoundWalk) (l : Link) (way : List Link) → l.before ≡ 0 → IsBack whole l way → (whole.steps ≡ steps_along setting (reverse way)) × (whole.run ≡ run_along (reverse way))
  back_end whole l way none back = (
    sym back.steps ∙ ap (λ n. steps_behind setting l (numbered walks n) ++ steps_along setting (reverse way)) none,
    sym back.run ∙ ap (λ n. run_behind l (numbered walks n) ++ run_along (reverse way)) none,
  )

-- the last of a way is the first of the walk
pub run_next : (rest : List Link) (l : Link) (so_far whole : List RunMove) (way : List Link) → way ≡ rest ++ l ∷ [] → so_far ++ run_along (reverse way) ≡ whole
    → (so_far ++ record { by = l.by; to = l.at.state } ∷ []) ++ run_along (reverse rest) ≡ whole
run_next rest l so_far whole way is all =
    append_assoc so_far (record { by = l.by; to = l.at.state } ∷ []) (run_along (reverse rest))
    ∙ (ap (λ v. so_far ++ run_along v) (sym (ap reverse is ∙ reverse_push rest l)) ∙ all)

-- the steps that were gone back along, the last first, and what is left of a walk
pub steps_back : (setting : Setting) (walks : List FoundWalk) (l k : Link) (so_far whole : List Step) → 0 < l.before → slice_get walks (l.before - 1) ≡ Some (walk_of setting walks k)
    → (walk_of setting walks l).steps ++ reverse so_far ≡ whole → (walk_of setting walks k).steps ++ reverse (so_far ++ reverse (steps_by setting.network l.by l.at.node)) ≡ whole
steps_back setting walks l k so_far whole some at back =
    let a = walk_of setting walks k in
    let by_move = steps_by setting.network l.by l.at.node in
    let is = numbered_at walks l.before a some at in
    let turned : reverse (so_far ++ reverse by_move) ≡ by_move ++ reverse so_far =
    reverse-append so_far (reverse by_move) ∙ ap (λ v. v ++ reverse so_far) (reverse-reverse by_move) in
    ap (λ v. a.steps ++ v) turned
    ∙ (sym (append_assoc a.steps by_move (reverse so_far)) ∙ (ap (λ o. steps_behind setting l o ++ reverse so_far) (sym is) ∙ back))

pub steps_end : (setting : Setting) (walks : List FoundWalk) (l : Link) (so_far whole : List Step) → l.before ≡ 0
    → (walk_of setting walks l).steps ++ reverse so_far ≡ whole → whole ≡ reverse so_far
steps_end setting walks l so_far whole none back = sym back ∙ ap (λ n. steps_behind setting l (numbered walks n) ++ reverse so_far) none
