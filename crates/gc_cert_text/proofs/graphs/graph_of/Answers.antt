use Rattle.std.proofs.Common.{◌≡◌, ℕ, List, [], false, Some, None, Result, refl, sym, ap, subst, ◌∙◌}
use Rattle.std.proofs.lemmas.Str.{is_utf8-from_IsUtf8}
use Rattle.std.specs.Str.{IsUtf8}
use Rattle.gc_json.specs.GraphFiles.{IsFileRefusal, file_graph, graph_of_data}
use Rattle.gc_json.specs.declared.refusal.GraphRefusal.{GraphRefusal}
use Rattle.gc_json.specs.declared.refusal.GraphRefusal.TheVariants as refusal
use Rattle.gc_spec.specs.PropertyGraph.{PropertyGraph}
use Rattle.serde_json.specs.Data.{Data}
use Rattle.serde_json.specs.Read.{read}
use Rattle.serde_json.specs.View.{view}
use Rattle.gc_cert_text.specs.Graphs.{is_want}
use Rattle.gc_cert_text.specs.Options.{found}
use Rattle.gc_cert_text.proofs.graphs.graph_of.Goals as goal

is_due : (due : Result PropertyGraph GraphRefusal) (r : GraphRefusal) → is_want r ≡ false → IsFileRefusal due r → None ≡ found due
is_due due refusal.NotJson want is = ap found (sym is)
is_due due (refusal.WrongShape x) want is = ap found (sym is)
is_due due (refusal.IdTooLarge x) want is = ap found (sym is)
is_due due (refusal.IdTwice x) want is = ap found (sym is)
is_due due (refusal.NoEnd x) want is = ap found (sym is)
is_due due (refusal.BadWalk x) want is = ap found (sym is)
is_due due (refusal.BadLabel x) want is = ap found (sym is)
is_due due (refusal.BadName x) want is = ap found (sym is)
is_due due (refusal.NotLiteral x) want is = ap found (sym is)
is_due due (refusal.Incoherent x id) want is = ap found (sym is)
is_due due refusal.TooMany want is = ap found (sym is)
is_due due refusal.Memory want is = absurd (cc)

-- what is written of a value is loaded as the value is
written : (text : List ℕ) (d : Data) → IsUtf8 text → read text ≡ Some d → file_graph [] text ≡ graph_of_data [] d
written text d utf8 is = rw (is_utf8-from_IsUtf8 text utf8, is) refl

pub returns : goal.returns
returns c =
    let text = c.as_str.ensures.value in
    let bytes = written c.as_bytes.result.now (view c.args.value.now) c.as_bytes.ensures.utf8
    (ap read (c.as_bytes.ensures.value ∙ text) ∙ c.in_ok-text.ensures.reads_back c.requires) in
    is_due (graph_of_data [] (view c.args.value.now)) c.in-Err.refusal (sym c.is_want.ensures ∙ c.if-is_want.false)
    (subst (λ due. IsFileRefusal due c.in-Err.refusal) bytes (rw (sym c.new.ensures) c.in-Err.ensures.loads))
