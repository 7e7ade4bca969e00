-- A rule by how far its filter goes down.
use Rattle.std.proofs.Common.{◌≡◌, ℕ, refl}
use Rattle.gc_alg.specs.Trees.{RelTree, Unit, AtomOver, FilterOver, JoinOf, OuterOf, Tree, ABlock}
use Rattle.gc_rules.specs.Descents.{may_go_down, pushed_if, put_left_if}
use Rattle.gc_rules.specs.Rules.{filter_into_outer_left, push_filter}

pub pushed_is : (block : Tree ABlock) (p c : ℕ) (t : RelTree) → push_filter block (FilterOver p c t) ≡ pushed_if (may_go_down block p c t) p c t
pushed_is block p c Unit = refl
pushed_is block p c (AtomOver q a t) = refl
pushed_is block p c (FilterOver q d t) = refl
pushed_is block p c (JoinOf t u) = refl
pushed_is block p c (OuterOf t u) = refl

pub put_left_is : (block : Tree ABlock) (p c : ℕ) (t : RelTree) → filter_into_outer_left block (FilterOver p c t) ≡ put_left_if (may_go_down block p c t) p c t
put_left_is block p c Unit = refl
put_left_is block p c (AtomOver q a t) = refl
put_left_is block p c (FilterOver q d t) = refl
put_left_is block p c (JoinOf t u) = refl
put_left_is block p c (OuterOf t u) = refl
