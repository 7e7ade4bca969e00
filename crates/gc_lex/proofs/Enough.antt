-- More items than bytes change nothing.
use Rattle.std.proofs.Common.{◌≡◌, ℕ, zero, suc, ◌+◌, ◌-◌, ◌<◌, ◌≤◌, List, [], ◌∷◌, length, drop, Result, refl, sym, ap, ◌∙◌, arith}
use Rattle.std.proofs.lemmas.List.{drop_all}
use Rattle.gc_lex.specs.declared.items.Item.{Item}
use Rattle.gc_lex.specs.declared.items.Item.TheVariants as item
use Rattle.gc_lex.specs.declared.refusal.LexRefusal.{LexRefusal}
use Rattle.gc_lex.specs.Items.{IsItemIn, first_item}
use Rattle.gc_lex.specs.Lexis.{TokenList, after_tokens, after_item, tokens_within}
use Rattle.gc_lex.specs.Places.{place_at}
use Rattle.gc_lex.proofs.ItemBounds.{first_within}
use Rattle.gc_lex.proofs.Progress.{turn, at_end}

same_after : (text : List ℕ) (at : ℕ) (first : Item) (f g : ℕ → Result TokenList LexRefusal) → IsItemIn (drop at text) first
    → ((n : ℕ) → 0 < n → f (at + n) ≡ g (at + n)) → after_item text at first f ≡ after_item text at first g
same_after text at item.End f g within same = refl
same_after text at (item.Gap n) f g within same = same n within.0
same_after text at (item.Spelled token n) f g within same = ap (after_tokens (token ∷ []) (place_at text at ∷ [])) (same n within.0)
same_after text at (item.BadCharacter n) f g within same = refl
same_after text at item.OpenText f g within same = refl
same_after text at item.NumberTooLarge f g within same = refl

ends : (text : List ℕ) (at : ℕ) → length text ≤ at → item.End ≡ first_item (drop at text)
ends text at past = ap first_item (sym (drop_all at text past))

pub enough : (f g : ℕ) (text : List ℕ) (at : ℕ) → length text - at ≤ f → length text - at ≤ g → tokens_within f text at ≡ tokens_within g text at
enough zero g text at few more = at_end zero text at (ends text at (omega arith)) ∙ sym (at_end g text at (ends text at (omega arith)))
enough (suc f) zero text at few more = at_end (suc f) text at (ends text at (omega arith)) ∙ sym (at_end zero text at (ends text at (omega arith)))
enough (suc f) (suc g) text at few more =
    turn text at (first_item (drop at text)) f refl
    ∙ same_after text at (first_item (drop at text)) (tokens_within f text) (tokens_within g text) (first_within (drop at text))
    (λ n some. enough f g text (at + n) (omega arith) (omega arith))
    ∙ sym (turn text at (first_item (drop at text)) g refl)
