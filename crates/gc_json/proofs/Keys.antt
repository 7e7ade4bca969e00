-- The keys of a map beside the members that it stands for.
use Rattle.std.proofs.Common.{◌≡◌, ◌&&◌, List, [], ◌∷◌, String, Global, string_bytes, refl, ap}
use Rattle.std.specs.List.{list_all}
use Rattle.std.specs.Map.{keys_of}
use Rattle.serde_json.specs.View.{members_view}
use Rattle.serde_json.specs.declared.value.Value.{Value}
use Rattle.gc_json.specs.PropertyMembers.{are_names}
use Rattle.gc_base.specs.Words.{is_word}

pub are_names-members_view : (es : List (String Global × Value)) → list_all (λ k. is_word (string_bytes k)) (keys_of es) ≡ are_names (members_view es)
are_names-members_view [] = refl
are_names-members_view (e ∷ es) = ap (λ b. is_word (string_bytes e.0) && b) (are_names-members_view es)
