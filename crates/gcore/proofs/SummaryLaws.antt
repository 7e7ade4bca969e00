-- The line that tells of an answer, and the costs of its nodes one after another.
use Rattle.std.proofs.Common.{◌≡◌, ℕ, zero, suc, ◌+◌, List, [], ◌∷◌, ◌++◌, map, max, take, append_assoc, Some, slice_get, refl, sym, ap, ◌∙◌, arith}
use Rattle.std.specs.Prelude.{codes}
use Rattle.std.specs.List.{sum}
use Rattle.std.proofs.lemmas.List.Sums.{fold_push}
use Rattle.gc_spec.specs.PropertyGraph.{Node}
use Rattle.gcore.specs.Summaries.{cost_of, counted, counts_line, greatest}

-- the costs of one node more
pub costs_more : (nodes : List Node) (i : ℕ) (n : Node) → slice_get nodes i ≡ Some n → map cost_of (take (i + 1) nodes) ≡ map cost_of (take i nodes) ++ cost_of n ∷ []
costs_more [] zero n h = absurd (cc)
costs_more [] (suc i) n h = absurd (cc)
costs_more (m ∷ nodes) zero n h = let e : m ≡ n = cc in ap (λ k. cost_of k ∷ []) e
costs_more (m ∷ nodes) (suc i) n h =
    let next : suc i + 1 ≡ suc (i + 1) = omega arith in
    ap (λ k. map cost_of (take k (m ∷ nodes))) next ∙ ap (λ costs. cost_of m ∷ costs) (costs_more nodes i n h)

pub sum_more : (costs : List ℕ) (cost : ℕ) → sum (costs ++ cost ∷ []) ≡ sum costs + cost
sum_more costs cost = fold_push (λ a n. a + n) 0 costs cost

pub greatest_more : (costs : List ℕ) (cost : ℕ) → greatest (costs ++ cost ∷ []) ≡ max (greatest costs) cost
greatest_more costs cost = fold_push max 0 costs cost

-- pieces that are put behind one another
pieces : (a b c d e f : List ℕ) → ((((a ++ b) ++ c) ++ d) ++ e) ++ f ≡ a ++ (b ++ (c ++ (d ++ (e ++ f))))
pieces a b c d e f =
    append_assoc (((a ++ b) ++ c) ++ d) e f
    ∙ (append_assoc ((a ++ b) ++ c) d (e ++ f)
    ∙ (append_assoc (a ++ b) c (d ++ (e ++ f))
    ∙ append_assoc a b (c ++ (d ++ (e ++ f)))))

-- the line that counts, put behind one another, come to
pub line_is : (nodes edges reached cost farthest : ℕ) (start a b c d e f : List ℕ) → start ≡ [] → a ≡ start ++ counted (codes "nodes ") nodes → b ≡ a ++ counted (codes " edges ") edges
    → c ≡ b ++ counted (codes " reached ") reached → d ≡ c ++ counted (codes " cost ") cost → e ≡ d ++ counted (codes " farthest ") farthest → f ≡ e ++ 10 ∷ []
    → f ≡ counts_line nodes edges reached cost farthest
line_is nodes edges reached cost farthest start a b c d e f hs ha hb hc hd he hf =
    hf ∙ (ap (λ t. t ++ 10 ∷ []) (he ∙ ap (λ t. t ++ counted (codes " farthest ") farthest) (hd ∙ ap (λ t. t ++ counted (codes " cost ") cost)
    (hc ∙ ap (λ t. t ++ counted (codes " reached ") reached) (hb ∙ ap (λ t. t ++ counted (codes " edges ") edges) (ha ∙ ap (λ t. t ++ counted (codes "nodes ") nodes) hs)))))
    ∙ pieces (counted (codes "nodes ") nodes) (counted (codes " edges ") edges) (counted (codes " reached ") reached) (counted (codes " cost ") cost) (counted (codes " farthest ") farthest) (10 ∷ []))
