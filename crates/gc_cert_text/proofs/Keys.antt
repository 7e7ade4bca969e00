-- The keys of a map beside the members that it stands for.
use Rattle.std.proofs.Common.{◌≡◌, ℕ, ◌&&◌, List, [], ◌∷◌, String, Global, string_bytes, refl, ap}
use Rattle.std.specs.List.{list_all}
use Rattle.std.specs.Map.{keys_of}
use Rattle.serde_json.specs.View.{members_view}
use Rattle.serde_json.specs.declared.value.Value.{Value}
use Rattle.gc_json.specs.JsonValues.{has_only, is_key_among}

pub has_only-members_view : (ks : List (List ℕ)) (es : List (String Global × Value))
    → list_all (λ k. is_key_among ks (string_bytes k)) (keys_of es) ≡ has_only ks (members_view es)
has_only-members_view ks [] = refl
has_only-members_view ks (e ∷ es) = ap (λ b. is_key_among ks (string_bytes e.0) && b) (has_only-members_view ks es)
