-- Nodes told by their identities alone.
use Rattle.std.proofs.Common.{◌≡◌, ℕ, List, [], ◌∷◌, Option, None, Some, Bor, true, false, cond, ◌==◌, refl, is_some}
use Rattle.std.specs.List.{find}
use Rattle.std.specs.Option.{option_copied}
use Rattle.gc_spec.specs.PropertyGraph.{Node, node_at, node_ids}

-- an identity is among those of nodes where one of them has it
pub id_found : (nodes : List Node) (id : ℕ) → is_some (find (λ i. i == id) (node_ids nodes)) ≡ is_some (node_at nodes id)
id_found [] id = refl
id_found (n ∷ ns) id =
    elim (n.id == id) as (λ b. is_some (cond b (Some n.id) (find (λ i. i == id) (node_ids ns))) ≡ is_some (cond b (Some n) (node_at ns id))) [
      | true ↦ refl
      | false ↦ id_found ns id
    ]

-- what a reference points to is there where the reference is
pub copied_is_there : {T : Type 0} (found : Option (Bor T)) → is_some (option_copied found) ≡ is_some found
copied_is_there None = refl
copied_is_there (Some x) = refl
