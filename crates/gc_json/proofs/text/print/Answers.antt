use Rattle.std.proofs.Common.{◌≡◌, ℕ, List, [], ◌++◌, ap, ap₂, ◌∙◌}
use Rattle.json.specs.Token.{Token}
use Rattle.json.specs.Print.{print}
use Rattle.serde_json.specs.Data.{Data}
use Rattle.serde_json.specs.Written.{compact_text}
use Rattle.serde_json.proofs.Texts.{print-outline}
use Rattle.gc_json.specs.CanonicalText.{graph_data}
use Rattle.gc_json.specs.Writing.{tokens_of}
use Rattle.gc_json.proofs.text.print.Goals as goal

-- what was written after nothing is the text of the value
printed : (before : List ℕ) (tokens : List Token) (d : Data) → before ≡ [] → tokens ≡ tokens_of d → before ++ print tokens ≡ compact_text d
printed before tokens d none all = ap₂ (λ b ts. b ++ print ts) none all ∙ print-outline d

pub returns-clause-text : goal.returns-clause-text
returns-clause-text g c =
    let d = graph_data c.args.g.now in
    let added = c.in_ok-write_graph.ensures.tokens in
    c.from_vec.ensures
    ∙ (c.into_inner.ensures.items
    ∙ printed _ _ d (added.0 ∙ (c.new-writer.ensures.before ∙ c.new.ensures.items)) (added.1 ∙ ap (λ ts. ts ++ tokens_of d) c.new-writer.ensures.tokens))
