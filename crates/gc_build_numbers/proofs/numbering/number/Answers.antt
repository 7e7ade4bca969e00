use Rattle.std.proofs.Common.{◌≡◌, ℕ, ◌+◌, ◌<◌, List, length, get_or, fold, take, sym, ◌∙◌, arith}
use Rattle.std.proofs.lemmas.List.Sums.{fold_more}
use Rattle.gc_build_numbers.specs.Numbers.{with_variable}
use Rattle.gc_build_numbers.proofs.numbering.number.Goals as goal

fold_next : {X Y : Type 0} (f : Y → X → Y) (start : Y) (xs : List X) (i : ℕ) (x : X) (so_far next : Y) → i < length xs → x ≡ get_or xs i x
    → so_far ≡ fold f start (take i xs) → next ≡ f so_far x → next ≡ fold f start (take (i + 1) xs)
fold_next f start xs i x so_far next inside there is e = e ∙ (λ j. f (is j) (there j)) ∙ sym (fold_more f start xs i x inside)

pub loop-variable-preserved : goal.loop-variable-preserved
loop-variable-preserved g c =
    fold_next (with_variable c.args.setting.now) _ c.args.variables.now c.loop-variable.variable-index c.variable-item.result c.loop-variable.numbering c.add.new.numbering
    (omega arith) c.variable-item.is c.loop-variable.invariant c.in_ok-add.ensures
