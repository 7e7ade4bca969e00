-- How far a filter goes down at the root of a tree.
use Rattle.std.specs.Prelude.{ℕ, ◌&&◌, Bool, false, if◌then◌else◌}
use Rattle.gc_alg.specs.Trees.{RelTree, AtomOver, FilterOver, JoinOf, OuterOf, Tree, ABlock}
use Rattle.gc_rules.specs.Fits.{fits, holds_no_outer}

-- whether a conjunct may be tested in what an atom stands over, or in the left one of two trees
abbrev pub may_go_down : Tree ABlock → (p c : ℕ) → RelTree → Bool
may_go_down block p c (AtomOver q a t) = fits block p c t (AtomOver q a t)
may_go_down block p c (JoinOf t u) = fits block p c t (JoinOf t u) && holds_no_outer t
may_go_down block p c (OuterOf t u) = fits block p c t (OuterOf t u) && holds_no_outer t
may_go_down block p c t = false

-- the filter under an atom or in the left tree of a join, where it may go down, and else over all
abbrev pub pushed_if : Bool → (p c : ℕ) → RelTree → RelTree
pushed_if may p c (AtomOver q a t) = if may then AtomOver q a (FilterOver p c t) else FilterOver p c (AtomOver q a t)
pushed_if may p c (JoinOf t u) = if may then JoinOf (FilterOver p c t) u else FilterOver p c (JoinOf t u)
pushed_if may p c t = FilterOver p c t

-- the same in the left tree of a left outer join
abbrev pub put_left_if : Bool → (p c : ℕ) → RelTree → RelTree
put_left_if may p c (OuterOf t u) = if may then OuterOf (FilterOver p c t) u else FilterOver p c (OuterOf t u)
put_left_if may p c t = FilterOver p c t
