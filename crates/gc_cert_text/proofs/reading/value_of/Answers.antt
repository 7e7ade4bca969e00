use Rattle.std.proofs.Common.{◌≡◌, ℕ, Bool, true, false, cond, List, Some, None, refl, ap, rules}
use Rattle.std.proofs.lemmas.Str.{is_utf8-from_IsUtf8, IsUtf8-from_is_utf8}
use Rattle.std.specs.Str.{IsUtf8, is_utf8}
use Rattle.gc_json.specs.JsonValues.{value_of}
use Rattle.gc_json.specs.Reading.{or_refused}
use Rattle.serde_json.specs.Data.{Data}
use Rattle.serde_json.specs.Read.{read}
use Rattle.serde_json.specs.View.{view}
use Rattle.gc_cert_text.specs.declared.refusal.CertRefusal.TheVariants.{NotJson}
use Rattle.gc_cert_text.proofs.reading.value_of.Goals as goal

a_value : (bytes : List ℕ) (d : Data) → IsUtf8 bytes → read bytes ≡ Some d → value_of bytes ≡ Some d
a_value bytes d utf8 is = rw (is_utf8-from_IsUtf8 bytes utf8) is

no_value : (bytes : List ℕ) (b : Bool) → is_utf8 bytes ≡ b → (IsUtf8 bytes → read bytes ≡ None) → cond b (read bytes) None ≡ None
no_value bytes true is unread = unread (IsUtf8-from_is_utf8 bytes is)
no_value bytes false is unread = refl

pub returns-in-Ok-clause-value : goal.returns-in-Ok-clause-value
returns-in-Ok-clause-value c = ap (or_refused NotJson) (a_value c.args.bytes.now (view c.in-Ok.value) c.in-Ok.ensures.ok.0 c.in-Ok.ensures.ok.1)

pub returns-in-Err-2-clause-value : goal.returns-in-Err-2-clause-value
returns-in-Err-2-clause-value c = ap (or_refused NotJson) (no_value c.args.bytes.now _ refl (c.in-Err-2.ensures.err (λ memory. search rules)))
