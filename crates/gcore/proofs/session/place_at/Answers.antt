use Rattle.std.proofs.Common.{◌≡◌, ℕ, zero, suc, false, nat_lt, List, [], ◌∷◌, length, Option, None, refl, sym, ap, ◌∙◌, arith, slice_get}
use Rattle.std.proofs.lemmas.Bool.Decides.{nat_tests}
use Rattle.std.specs.Option.{unwrap_or}
use Rattle.gc_ast.specs.declared.file.File.{File}
use Rattle.gcore.proofs.SortedFiles.{place_by}
use Rattle.gcore.proofs.session.place_at.Goals as goal

-- there is nothing behind the end of a list
none_past : {X : Type 0} (xs : List X) (i : ℕ) → nat_lt i (length xs) ≡ false → slice_get xs i ≡ None
none_past [] zero h = refl
none_past [] (suc i) h = refl
none_past (x ∷ xs) zero h = let n = length xs in absurd (grind (arith, nat_tests))
none_past (x ∷ xs) (suc i) h = let n = length xs in none_past xs i (grind (arith, nat_tests))

pub returns-in-None : goal.returns-in-None
returns-in-None c =
    let file : File = c.args.checked.now.file in
    let same : c.file-file.result.now ≡ file = c.file-file.ensures.file in
    let none : slice_get file.places c.args.token ≡ None =
    ap (λ xs. slice_get xs c.args.token) (sym (c.as_slice.ensures ∙ ap (λ (f : File). f.places) same)) ∙ none_past c.as_slice.result.now c.args.token (sym c.in-None.ensures.lookup.0) in
    ap (λ (f : File). f.end) same ∙ sym (place_by file.places file.end c.args.token ∙ ap (λ o. unwrap_or o file.end) none)
