-- The first graphs of a catalog are a catalog.
use Rattle.std.proofs.Common.{◌≡◌, ◌≤◌, ℕ, zero, suc, Bool, true, false, ◌||◌, List, [], ◌∷◌, length, take, Option, Some, None, refl, ap, ◌∙◌, arith}
use Rattle.std.specs.List.{AllByRecursion, list_any}
use Rattle.gc_spec.specs.PropertyGraph.{PropertyGraph}
use Rattle.gc_spec.specs.Coherence.{AreCoherent}
use Rattle.gc_catalog.specs.NamedGraphs.{NamedGraphs, IsCatalog, AreNames, AllCoherent, AreBelow, first_graphs, is_name}

as_many : {X Y : Type 0} (n : ℕ) (xs : List X) (ys : List Y) → length xs ≡ length ys → length (take n xs) ≡ length (take n ys)
as_many zero xs ys h = refl
as_many (suc n) [] [] h = refl
as_many (suc n) [] (y ∷ ys) h = absurd (omega (arith, h))
as_many (suc n) (x ∷ xs) [] h = absurd (omega (arith, h))
as_many (suc n) (x ∷ xs) (y ∷ ys) h = ap suc (as_many n xs ys (omega (arith, h)))

all_first : {X : Type 0} (P : X → Type 0) (n : ℕ) (xs : List X) → AllByRecursion P xs → AllByRecursion P (take n xs)
all_first P zero xs h = tt
all_first P (suc n) [] h = tt
all_first P (suc n) (x ∷ xs) h = (h.0, all_first P n xs h.1)

both_false : (a b : Bool) → (a || b) ≡ false → (a ≡ false) × (b ≡ false)
both_false true b h = absurd (cc)
both_false false b h = (refl, h)

none_first : {X : Type 0} (p : X → Bool) (n : ℕ) (xs : List X) → list_any p xs ≡ false → list_any p (take n xs) ≡ false
none_first p zero xs h = refl
none_first p (suc n) [] h = refl
none_first p (suc n) (x ∷ xs) h =
    let parts = both_false (p x) (list_any p xs) h in
    ap (λ b. b || list_any p (take n xs)) parts.0 ∙ none_first p n xs parts.1

names_first : (n : ℕ) (names : List (Option (List ℕ))) → AreNames names → AreNames (take n names)
names_first zero names h = tt
names_first (suc n) [] h = tt
names_first (suc n) (None ∷ names) h = names_first n names h
names_first (suc n) (Some name ∷ names) h = (none_first (is_name name) n names h.0, names_first n names h.1)

coherent_first : (n : ℕ) (gs : List PropertyGraph) → AllCoherent gs → AllCoherent (take n gs)
coherent_first zero gs h = tt
coherent_first (suc n) [] h = tt
coherent_first (suc n) (g ∷ gs) h = (all_first (AreCoherent g) n gs h.0, coherent_first n gs h.1)

pub IsCatalog-first_graphs : (c : NamedGraphs) (n next : ℕ) → IsCatalog c → AllByRecursion (AreBelow next) (take n c.graphs) → next ≤ 9007199254740992 → IsCatalog (first_graphs c n next)
IsCatalog-first_graphs c n next h below most = record {
  as_many = as_many n c.names c.graphs h.as_many;
  names = names_first n c.names h.names;
  coherent = coherent_first n c.graphs h.coherent;
  below = below;
  most = most;
}
