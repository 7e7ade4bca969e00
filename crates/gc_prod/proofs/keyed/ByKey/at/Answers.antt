use Rattle.std.proofs.Common.{◌≡◌, ℕ, ◌≤◌, ◌-◌, List, nat_lt, nat_le, take, drop, length, rules, sym, subst, ap, ◌∙◌, arith, true, false}
use Rattle.std.specs.List.Sorted.{IsPartitionPoint, IsNonDecreasingBy}
use Rattle.std.proofs.lemmas.List.{take_all, length-drop}
use Rattle.std.proofs.lemmas.List.Sorted.{IsPartitionPoint-from_clause, IsPartitionedBy-ltb, IsPartitionedBy-leb, IsNonDecreasingBy-drop}
use Rattle.gc_prod.specs.Keys.{at_key}
use Rattle.gc_prod.proofs.KeyRuns.{run_between}
use Rattle.gc_prod.proofs.keyed.ByKey.at.Goals as goal

whole : {X : Type 0} (start : ℕ) (xs : List X) → take (length xs - start) (drop start xs) ≡ drop start xs
whole start xs = take_all (length xs - start) (drop start xs) (omega (arith, length-drop start xs))

answer : {X : Type 0} (key_of : X → ℕ) (key start count : ℕ) (kept xs ys : List X) → xs ≡ kept → ys ≡ kept
    → start ≤ length xs → count ≤ length (take (length ys - start) (drop start ys))
    → IsPartitionPoint (λ x. nat_lt (key_of x) key ≡ true) (λ x. nat_lt (key_of x) key ≡ false) xs start
    → IsPartitionPoint (λ x. nat_le (key_of x) key ≡ true) (λ x. nat_le (key_of x) key ≡ false) (take (length ys - start) (drop start ys)) count
    → take count (take (length ys - start) (drop start ys)) ≡ at_key key_of key kept
answer {X} key_of key start count kept xs ys same other le fits p q =
    let P : List X → Type 0 = λ zs. IsPartitionPoint (λ x. nat_le (key_of x) key ≡ true) (λ x. nat_le (key_of x) key ≡ false) zs count in
    let Q : List X → Type 0 = λ zs. IsPartitionPoint (λ x. nat_lt (key_of x) key ≡ true) (λ x. nat_lt (key_of x) key ≡ false) zs start in
    let rest : take (length ys - start) (drop start ys) ≡ drop start kept = whole start ys ∙ ap (drop start) other in
    let le' : start ≤ length kept = subst (λ (zs : List X). start ≤ length zs) same le in
    let fits' : count ≤ length (drop start kept) = subst (λ (zs : List X). count ≤ length zs) rest fits in
    ap (take count) rest ∙ run_between key_of key kept start count le' fits' (subst Q same p) (subst P rest q)

pub returns : goal.returns
returns g c =
    let key_of = g.T.Keyed.key_of in
    let key = c.args.key in
    answer key_of key c.partition_point-start.result c.partition_point-count.result c.args.self.now c.deref.result.now c.deref-2.result.now
    (c.deref.ensures.value ∙ c.self.view_is) (c.deref-2.ensures.value ∙ c.self.view_is)
    c.partition_point-start.ensures.bound c.partition_point-count.ensures.bound
    (IsPartitionPoint-from_clause (λ x. nat_lt (key_of x) key) _ _ c.partition_point-start.ensures.partitioned
    (IsPartitionedBy-ltb key_of _ key (subst (λ (xs : List g.row.T.Denot). IsNonDecreasingBy key_of xs) (sym c.deref.ensures.value) c.self.invariant))
    (λ a r q k. search rules))
    (IsPartitionPoint-from_clause (λ x. nat_le (key_of x) key) _ _ c.partition_point-count.ensures.partitioned
    (IsPartitionedBy-leb key_of _ key (subst (λ (xs : List g.row.T.Denot). IsNonDecreasingBy key_of xs) (sym (whole c.partition_point-start.result c.deref-2.result.now))
    (IsNonDecreasingBy-drop key_of c.partition_point-start.result _ (subst (λ (xs : List g.row.T.Denot). IsNonDecreasingBy key_of xs) (sym c.deref-2.ensures.value) c.self.invariant))))
    (λ a r q k. search rules))
