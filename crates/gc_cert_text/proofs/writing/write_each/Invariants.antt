use Rattle.std.proofs.Common.{◌≡◌, ◌++◌, drop}
use Rattle.gc_json.proofs.Rest.{rest_of_array}
use Rattle.gc_cert_text.specs.Certificates.{told}
use Rattle.gc_cert_text.specs.CertificateTexts.{search_data}
use Rattle.gc_cert_text.proofs.writing.write_each.Given as goal

-- the tokens so far with the rest are the tokens of all
abbrev pub invariant-loop-search : goal.invariant-loop-search
invariant-loop-search g l =
    (l.writer.before ≡ l.initial.writer.before)
    × (l.writer.tokens ++ rest_of_array (λ d. search_data (told d)) (drop l.search-index l.searches)
    ≡ l.initial.writer.tokens ++ rest_of_array (λ d. search_data (told d)) l.searches)
