use Rattle.std.proofs.Common.{◌≡◌, sym, subst}
use Rattle.gcore.specs.Endings.{Change, Tells}
use Rattle.gcore.specs.Lines.{text_line}
use Rattle.gcore.specs.declared.text_refusal.TextRefusal.{TextRefusal}
use Rattle.gcore.specs.declared.text_refusal.TextRefusal.TheVariants.{BadCharacter, OpenText, NumberTooLarge, TooDeep, Syntax}
use Rattle.gcore.proofs.report.tell_text.Goals as goal

-- the line of a refusal
told : (change : Change) (refusal r : TextRefusal) → refusal ≡ r → Tells change (text_line r) → Tells change (text_line refusal)
told change refusal r e h = subst (λ q. Tells change (text_line q)) (sym e) h

pub returns-in-BadCharacter : goal.returns-in-BadCharacter
returns-in-BadCharacter g c = told _ c.args.refusal (BadCharacter c.in-BadCharacter.place) c.in-BadCharacter.is c.tell_place-in-BadCharacter.ensures

pub returns-in-OpenText : goal.returns-in-OpenText
returns-in-OpenText g c = told _ c.args.refusal (OpenText c.in-OpenText.place) c.in-OpenText.is c.tell_place-in-OpenText.ensures

pub returns-in-NumberTooLarge : goal.returns-in-NumberTooLarge
returns-in-NumberTooLarge g c = told _ c.args.refusal (NumberTooLarge c.in-NumberTooLarge.place) c.in-NumberTooLarge.is c.tell_place-in-NumberTooLarge.ensures

pub returns-in-TooDeep : goal.returns-in-TooDeep
returns-in-TooDeep g c = told _ c.args.refusal (TooDeep c.in-TooDeep.place) c.in-TooDeep.is c.tell_place-in-TooDeep.ensures

pub returns-in-Syntax : goal.returns-in-Syntax
returns-in-Syntax g c = told _ c.args.refusal (Syntax c.in-Syntax.place) c.in-Syntax.is c.tell_place-in-Syntax.ensures
