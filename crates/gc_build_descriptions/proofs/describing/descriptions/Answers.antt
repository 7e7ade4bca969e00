use Rattle.std.proofs.Common.{◌≡◌, ◌∙◌, ℕ, List, IfSome, subst}
use Rattle.gc_build_descriptions.specs.Described.{start_of}
use Rattle.gc_build_descriptions.specs.Said.{changed}
use Rattle.gc_build_descriptions.proofs.GivenLaws.{all_alike}
use Rattle.gc_build_descriptions.proofs.describing.descriptions.Goals as goal

pub returns-in-Some : goal.returns-in-Some
returns-in-Some g c =
    let s = c.args.setting.now in
    let v = c.args.variable.now in
    let changes = c.changes_of-changes.result in
    let d = c.in-Some.description in
    let same : (place : ℕ) → (rows : List ℕ) → changed place changes (start_of s v.start rows) ≡ d =
    subst (λ o. IfSome o (λ d. (place : ℕ) → (rows : List ℕ) → changed place changes (start_of s v.start rows) ≡ d)) c.in-Some.is c.in_ok-description.ensures in
    c.of_alike.ensures
    ∙ all_alike s c.args.recipe.now c.args.numbering.now.variables v c.elements_of-count.result.now d c.args.said.now changes
    c.requires.said c.changes_of-changes.ensures c.elements_of-count.ensures same
