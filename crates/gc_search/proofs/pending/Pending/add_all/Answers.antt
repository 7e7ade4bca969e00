use Rattle.std.proofs.Common.{◌≡◌, ◌+◌, List, ◌∷◌, ◌++◌, drop, Some, subst}
use Rattle.std.specs.List.{slice_get}
use Rattle.std.specs.List.Sorted.{IsPermutation}
use Rattle.std.proofs.lemmas.List.Sorted.{IsPermutation-refl, IsPermutation-trans, IsPermutation-middle, IsPermutation-append_left}
use Rattle.gc_prod.proofs.HopLists.{left_at}
use Rattle.gc_search.specs.Links.{Link}
use Rattle.gc_search.specs.Waiting.{links_of, IsBehind}
use Rattle.gc_search.proofs.LoopLaws.{all_has}
use Rattle.gc_search.proofs.RankLaws.{got_has}
use Rattle.gc_search.proofs.TreeLaws.{got}
use Rattle.gc_search.proofs.pending.Pending.add_all.Goals as goal

pub loop-next-init : goal.loop-next-init
loop-next-init c = record { added = IsPermutation-refl _; led = λ tree led behind. led }

pub loop-next-preserved : goal.loop-next-preserved
loop-next-preserved c =
    let last = c.args.last.now in
    let more = c.args.more.now in
    let i = c.loop-next.next-index in
    let x = c.next-item.result in
    let rest = drop (i + 1) more in
    let before = links_of c.loop-next.self in
    let after = links_of c.add.new.self in
    let all = links_of c.args.self.now ++ more in
    let at : slice_get more i ≡ Some x = got more i x c.loop-next-test.true c.next-item.is in
    let was : IsPermutation all (before ++ x ∷ rest) = subst (λ (l : List Link). IsPermutation all (before ++ l)) (left_at more i x at) c.loop-next.invariant.added in
    let moved : IsPermutation (before ++ x ∷ rest) (x ∷ (before ++ rest)) = IsPermutation-middle before x rest in
    let added : IsPermutation ((x ∷ before) ++ rest) (after ++ rest) = IsPermutation-append_left rest (x ∷ before) after c.in_ok-add.ensures.added in
    record {
      added = IsPermutation-trans all (before ++ x ∷ rest) (after ++ rest) was (IsPermutation-trans (before ++ x ∷ rest) (x ∷ (before ++ rest)) (after ++ rest) moved added);
      led = λ tree led behind.
          c.in_ok-add.ensures.led tree (c.loop-next.invariant.led tree led behind) (all_has (IsBehind tree last) more x behind (got_has more i x at));
    }
