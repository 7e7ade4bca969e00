use Rattle.std.proofs.Common.{◌≡◌, ◌∷◌, ◌++◌, codes, Result, Ok, Err, ap, ◌∙◌, append_assoc, []}
use Rattle.gc_json.specs.Writing.{Adds, tokens_of}
use Rattle.json.specs.Token.{Token, key}
use Rattle.json.specs.Written.{Written}
use Rattle.serde_json.specs.Data.{Data}
use Rattle.gc_cert_text.proofs.ToldItems.{array_told}
use Rattle.gc_cert_text.proofs.writing.write_searches.Goals as goal

-- a token, and then the tokens of a value
behind : {E : Type 0} (r : Result (Unit {0}) E) (old mid new : Written) (t : Token) (d e : Data) → mid.before ≡ old.before → mid.tokens ≡ old.tokens ++ t ∷ [] → d ≡ e
    → Adds r mid new (tokens_of d) → Adds r old new (t ∷ tokens_of e)
behind (Err x) old mid new t d e before first same added = tt
behind (Ok u) old mid new t d e before first same added = (
  added.0 ∙ before,
  added.1 ∙ (ap (λ ts. ts ++ tokens_of d) first ∙ (append_assoc old.tokens (t ∷ []) (tokens_of d) ∙ ap (λ x. old.tokens ++ t ∷ tokens_of x) same)),
)

pub returns : goal.returns
returns g c =
    behind _ c.args.writer.now c.key.new.self c.write_each.new.writer (key (codes "searches")) _ _ c.in_ok-key.ensures.room.0 c.in_ok-key.ensures.ok (array_told c.args.searches.now) c.write_each.ensures
