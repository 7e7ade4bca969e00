use Rattle.std.proofs.Common.{◌≡◌, ℕ, List, [], ◌∷◌, ◌++◌, ap, ap₂, ◌∙◌}
use Rattle.json.specs.Token.{Token}
use Rattle.json.specs.Print.{print}
use Rattle.serde_json.specs.Data.{Data}
use Rattle.serde_json.specs.Written.{compact_text}
use Rattle.serde_json.proofs.Texts.{print-outline}
use Rattle.gc_json.specs.Writing.{tokens_of}
use Rattle.gc_cert_text.specs.Certificates.{all_told}
use Rattle.gc_cert_text.specs.CertificateTexts.{certificate_data}
use Rattle.gc_cert_text.proofs.writing.write.Goals as goal

-- what was written after nothing is the text of the value
printed : (before : List ℕ) (tokens : List Token) (d : Data) → before ≡ [] → tokens ≡ tokens_of d → before ++ print tokens ≡ compact_text d
printed before tokens d none all = ap₂ (λ b ts. b ++ print ts) none all ∙ print-outline d

pub returns : goal.returns
returns g c =
    let d = certificate_data (all_told c.args.c.now) in
    let added = c.in_ok-write_certificate.ensures in
    c.from_vec.ensures
    ∙ (c.in_ok-push.ensures.items
    ∙ ap (λ text. text ++ 10 ∷ [])
    (c.into_inner-text.ensures.items
    ∙ printed _ _ d (added.0 ∙ (c.new-writer.ensures.before ∙ c.new.ensures.items)) (added.1 ∙ ap (λ ts. ts ++ tokens_of d) c.new-writer.ensures.tokens)))
