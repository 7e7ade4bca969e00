-- The certificate that bytes tell, or their first refusal.
use Rattle.std.specs.Prelude.{◌≡◌, ℕ, ◌+◌, List, [], ◌∷◌, codes, map, if◌then◌else◌, Option, Result, Ok, Err, ⊤}
use Rattle.gc_automata.specs.Moves.{Segment}
use Rattle.gc_cert.specs.declared.document.Potential.{Potential}
use Rattle.gc_cert.specs.declared.document.SearchDoc.{SearchDoc}
use Rattle.gc_cert.specs.declared.document.WalkDoc.{WalkDoc}
use Rattle.gc_json.specs.JsonValues.{value_of}
use Rattle.gc_json.specs.Reading.{◌>>=◌, or_refused}
use Rattle.gc_regx.specs.Trees.{RegexTree, ARegex}
use Rattle.gc_regx.specs.Views.{regex_tree}
use Rattle.gc_spec.specs.PropertyGraph.{PropertyGraph}
use Rattle.serde_json.specs.Data.{Data, Items, no_items, item}
use Rattle.serde_json.specs.Find.{get}
use Rattle.gc_cert_text.specs.Expressions.{expression_in}
use Rattle.gc_cert_text.specs.Options as options
use Rattle.gc_cert_text.specs.Options.{array_at}
use Rattle.gc_cert_text.specs.Graphs.{graph_in}
use Rattle.gc_cert_text.specs.SearchNumberTexts.{numbers_in}
use Rattle.gc_cert_text.specs.SegmentsOfGraphs.{segments_in}
use Rattle.gc_cert_text.specs.Shapes.{has_document_shape}
use Rattle.gc_cert_text.specs.declared.certificate.Certificate.{Certificate}
use Rattle.gc_cert_text.specs.declared.refusal.CertRefusal.{CertRefusal}
use Rattle.gc_cert_text.specs.declared.refusal.CertRefusal.TheVariants.{NotJson, WrongShape, BadGraph, BadExpression, BadSegment, BadNumber, Memory}

-- what the document of a search tells, with its expression as a tree
pub record SearchTold : Type 0 where
  pub expression : RegexTree ARegex
  pub graph : PropertyGraph
  pub potentials : List Potential
  pub segments : List Segment
  pub start : ℕ
  pub walks : List WalkDoc

abbrev pub told : SearchDoc → SearchTold
told d =
    record {
      expression = regex_tree d.expression;
      graph = d.graph;
      potentials = d.potentials;
      segments = d.segments;
      start = d.start;
      walks = d.walks;
    }

-- what a certificate tells
abbrev pub all_told : Certificate → List SearchTold
all_told c = map told c.searches

-- the expression at the key of an expression
abbrev pub tree_in : Data → Option (RegexTree ARegex)
tree_in d = options.◌>>=◌ (get (codes "expression") d) expression_in

-- a search of a graph and an expression: first all of its numbers, and then its segments
abbrev pub search_on : ℕ → Data → PropertyGraph → RegexTree ARegex → Result SearchTold CertRefusal
search_on i d g tree =
    or_refused (BadNumber i) (numbers_in d) >>= λ numbers. or_refused (BadSegment i) (segments_in g d)
    >>= λ segments.
    Ok
    (record {
      expression = tree;
      graph = g;
      potentials = numbers.potentials;
      segments = segments;
      start = numbers.start;
      walks = numbers.walks;
    })

-- the search of a number: first its graph, then its expression, then the rest
abbrev pub search_of : ℕ → Data → Result SearchTold CertRefusal
search_of i d =
    or_refused (BadGraph i) (graph_in d) >>= λ g. or_refused (BadExpression i) (tree_in d) >>= λ tree. search_on i d g tree

-- searches one after another, the first of which has the number i
abbrev pub searches_from : ℕ → Items → Result (List SearchTold) CertRefusal
searches_from i no_items = Ok []
searches_from i (item d ds) = search_of i d >>= λ s. searches_from (i + 1) ds >>= λ ss. Ok (s ∷ ss)

-- the searches of a document
abbrev pub searches_in : Data → Result (List SearchTold) CertRefusal
searches_in d = or_refused WrongShape (array_at (codes "searches") d) >>= searches_from 0

-- the certificate of a value: its shape is tested as a whole, and then search by search all else
abbrev pub certificate_of_data : Data → Result (List SearchTold) CertRefusal
certificate_of_data d = if has_document_shape d then searches_in d else Err WrongShape

-- the certificate that bytes tell, or their first refusal
abbrev pub certificate_of : List ℕ → Result (List SearchTold) CertRefusal
certificate_of bytes = or_refused NotJson (value_of bytes) >>= certificate_of_data

-- a refusal that is due; want of memory is free
abbrev pub IsCertRefusal : {A : Type 0} → Result A CertRefusal → CertRefusal → Type 0
IsCertRefusal due Memory = ⊤
IsCertRefusal due r = due ≡ Err r

-- what is due is given, as it is seen
abbrev pub Tells : {A B : Type 0} → (B → A) → Result A CertRefusal → Result B CertRefusal → Type 0
Tells seen due (Ok y) = due ≡ Ok (seen y)
Tells seen due (Err r) = IsCertRefusal due r
