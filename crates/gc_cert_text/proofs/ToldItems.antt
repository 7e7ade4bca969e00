-- The data of what searches tell.
use Rattle.std.proofs.Common.{◌≡◌, List, [], ◌∷◌, map, refl, ap}
use Rattle.gc_cert.specs.declared.document.SearchDoc.{SearchDoc}
use Rattle.gc_json.specs.CanonicalText.{array_of}
use Rattle.serde_json.specs.Data.{array, item}
use Rattle.serde_json.specs.View.{items_of}
use Rattle.gc_cert_text.specs.Certificates.{told}
use Rattle.gc_cert_text.specs.CertificateTexts.{search_data}

items_told : (ds : List SearchDoc) → items_of (map (λ d. search_data (told d)) ds) ≡ items_of (map search_data (map told ds))
items_told [] = refl
items_told (d ∷ ds) = ap (item (search_data (told d))) (items_told ds)

pub array_told : (ds : List SearchDoc) → array_of (λ d. search_data (told d)) ds ≡ array_of search_data (map told ds)
array_told ds = ap array (items_told ds)
