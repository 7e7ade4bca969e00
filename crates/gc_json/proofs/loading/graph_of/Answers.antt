use Rattle.std.proofs.Common.{◌≡◌, ℕ, List, Bool, true, false, ap, sym, ◌∙◌, subst, refl}
use Rattle.std.proofs.lemmas.Str.{is_utf8-from_IsUtf8, IsUtf8-from_is_utf8}
use Rattle.std.specs.Str.{IsUtf8, is_utf8}
use Rattle.gc_spec.specs.PropertyGraph.{PropertyGraph}
use Rattle.gc_json.specs.GraphFiles.{text_graph}
use Rattle.gc_json.specs.Reading.{Gives}
use Rattle.gc_json.proofs.Wholes.{of_bytes}
use Rattle.gc_json.proofs.loading.graph_of.Goals as goal

not_utf8 : (bytes : List ℕ) (b : Bool) → is_utf8 bytes ≡ b → (IsUtf8 bytes → ⊥) → is_utf8 bytes ≡ false
not_utf8 bytes true is not_so = absurd (not_so (IsUtf8-from_is_utf8 bytes is))
not_utf8 bytes false is not_so = is

pub returns-in-Ok : goal.returns-in-Ok
returns-in-Ok c =
    let utf8 = c.in-Ok.ensures.cases in
    let same = of_bytes c.args.seen.now c.args.bytes.now true (is_utf8-from_IsUtf8 c.args.bytes.now utf8.1) ∙ ap (text_graph c.args.seen.now) (sym utf8.0) in
    subst (λ due. Gives {Y = PropertyGraph} (λ g. g) due c.graph_of_text.result) (sym same) c.graph_of_text.ensures

pub returns-in-Err : goal.returns-in-Err
returns-in-Err c = of_bytes c.args.seen.now c.args.bytes.now false (not_utf8 c.args.bytes.now _ refl c.in-Err.ensures.cases.0)
