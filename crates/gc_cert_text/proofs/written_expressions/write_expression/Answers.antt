use Rattle.std.proofs.Common.{◌≡◌, ℕ, List, [], ◌∷◌, ◌++◌, sym, ◌∙◌, subst, ap₂, append_assoc, codes}
use Rattle.std.specs.Str.{IsUtf8}
use Rattle.gc_print.proofs.AsciiTexts.{formed_utf8}
use Rattle.gc_regx.specs.Views.{regex_tree}
use Rattle.json.specs.Token.{Token, key, string}
use Rattle.gc_cert_text.proofs.written_expressions.write_expression.Goals as goal

pub as_text-requires : goal.as_text-requires
as_text-requires c =
    subst IsUtf8 (sym (c.as_slice.ensures ∙ c.in_ok-text.ensures)) (formed_utf8 _ _ _ (λ v is. is) (regex_tree c.args.expression.now) c.know_words.ensures)

-- a key and a text behind it
two : (old mid new : List Token) (k : Token) (written text : List ℕ) → mid ≡ old ++ k ∷ [] → new ≡ mid ++ string written ∷ [] → written ≡ text
    → new ≡ old ++ k ∷ string text ∷ []
two old mid new k written text first second same = second ∙ (ap₂ (λ ts t. ts ++ string t ∷ []) first same ∙ append_assoc old (k ∷ []) (string text ∷ []))

pub returns : goal.returns
returns c = (
  c.in_ok-string.ensures.room.0 ∙ c.in_ok-key.ensures.room.0,
  two c.args.writer.now.tokens c.key.new.self.tokens c.string.new.self.tokens (key (codes "expression")) c.as_text.result.now _
      c.in_ok-key.ensures.ok c.in_ok-string.ensures.ok (c.as_text.ensures ∙ (c.as_slice.ensures ∙ c.in_ok-text.ensures)),
)
