-- What is known of a name whose number is found.
use Rattle.std.proofs.Common.{◌≡◌, ℕ, List, [], Some, slice_get, get_or, ap, sym, ◌∙◌}
use Rattle.std.specs.Cmp.Lexicographic.{bytes_decides}
use Rattle.std.proofs.lemmas.List.Quantifiers.{position-Some}
use Rattle.std.proofs.lemmas.Option.{slice_get-get_or}
use Rattle.gc_expr.specs.Views.{Names}
use Rattle.gc_ast.specs.Names.{same_name, number_in}

-- the name of its number is the name
pub name_of_number : (names : Names) (name : List ℕ) (i : ℕ) → number_in names name ≡ Some i → slice_get names i ≡ Some name
name_of_number names name i at =
    let found = position-Some (same_name name) names i [] at in
    slice_get-get_or names i [] found.0 ∙ ap Some (sym ((bytes_decides name (get_or names i [])).0 found.1))
