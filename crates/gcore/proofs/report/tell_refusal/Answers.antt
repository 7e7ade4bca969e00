use Rattle.std.proofs.Common.{◌≡◌, List, ℕ, ◌∷◌, ◌++◌, append_assoc, sym, ap, ◌∙◌, subst}
use Rattle.std.specs.Prelude.{codes}
use Rattle.std.specs.Fmt.{decimal}
use Rattle.gc_json.specs.declared.refusal.GraphRefusal.{GraphRefusal}
use Rattle.gc_json.specs.declared.refusal.GraphRefusal.TheVariants.{WrongShape, IdTooLarge, IdTwice, NoEnd, BadWalk, BadLabel, BadName, NotLiteral, Incoherent, TooMany, Memory}
use Rattle.gc_json.specs.declared.refusal.Spot.{Spot}
use Rattle.gcore.specs.Endings.{Change, Tells}
use Rattle.gcore.specs.GraphLines.{spot_text}
use Rattle.gcore.specs.Lines.{line, refusal_line, spot_line}
use Rattle.gcore.proofs.report.tell_refusal.Goals as goal

-- the line of a refusal
told : (change : Change) (refusal r : GraphRefusal) (file : List ℕ) → refusal ≡ r → Tells change (refusal_line r file) → Tells change (refusal_line refusal file)
told change refusal r file e h = subst (λ q. Tells change (refusal_line q file)) (sym e) h

pub returns-in-WrongShape : goal.returns-in-WrongShape
returns-in-WrongShape g c = told _ c.args.refusal.now (WrongShape c.in-WrongShape.spot) c.args.file.now c.in-WrongShape.is c.tell_spot.ensures

pub returns-in-IdTooLarge : goal.returns-in-IdTooLarge
returns-in-IdTooLarge g c = told _ c.args.refusal.now (IdTooLarge c.in-IdTooLarge.spot) c.args.file.now c.in-IdTooLarge.is c.tell_spot-in-IdTooLarge.ensures

pub returns-in-IdTwice : goal.returns-in-IdTwice
returns-in-IdTwice g c = told _ c.args.refusal.now (IdTwice c.in-IdTwice.spot) c.args.file.now c.in-IdTwice.is c.tell_spot-in-IdTwice.ensures

pub returns-in-NoEnd : goal.returns-in-NoEnd
returns-in-NoEnd g c = told _ c.args.refusal.now (NoEnd c.in-NoEnd.spot) c.args.file.now c.in-NoEnd.is c.tell_spot-in-NoEnd.ensures

pub returns-in-BadWalk : goal.returns-in-BadWalk
returns-in-BadWalk g c = told _ c.args.refusal.now (BadWalk c.in-BadWalk.spot) c.args.file.now c.in-BadWalk.is c.tell_spot-in-BadWalk.ensures

pub returns-in-BadLabel : goal.returns-in-BadLabel
returns-in-BadLabel g c = told _ c.args.refusal.now (BadLabel c.in-BadLabel.spot) c.args.file.now c.in-BadLabel.is c.tell_spot-in-BadLabel.ensures

pub returns-in-BadName : goal.returns-in-BadName
returns-in-BadName g c = told _ c.args.refusal.now (BadName c.in-BadName.spot) c.args.file.now c.in-BadName.is c.tell_spot-in-BadName.ensures

pub returns-in-NotLiteral : goal.returns-in-NotLiteral
returns-in-NotLiteral g c = told _ c.args.refusal.now (NotLiteral c.in-NotLiteral.spot) c.args.file.now c.in-NotLiteral.is c.tell_spot-in-NotLiteral.ensures

retold : (change : Change) (a b : List ℕ) → a ≡ b → Tells change a → Tells change b
retold change a b e h = subst (Tells change) e h

-- the line of an identity that another file tells otherwise
incoherent : (spot : Spot) (id : ℕ) (digits file : List ℕ) → digits ≡ decimal id → spot_line (codes "G10 Incoherent") spot (codes " ") digits file ≡ refusal_line (Incoherent spot id) file
incoherent spot id digits file e =
    ap (λ d. spot_line (codes "G10 Incoherent") spot (codes " ") d file) e ∙ ap (λ text. line (codes "G10 Incoherent" ++ text)) (sym (append_assoc (spot_text spot) (32 ∷ decimal id) (codes " in " ++ file)))

pub returns-in-Incoherent : goal.returns-in-Incoherent
returns-in-Incoherent g c =
    let digits = c.as_bytes-id.ensures.value ∙ (c.format.ensures.text ∙ ap decimal c.get.ensures.number) in
    told _ c.args.refusal.now (Incoherent c.in-Incoherent.spot c.in-Incoherent.id) c.args.file.now c.in-Incoherent.is
    (retold _ _ _ (incoherent c.in-Incoherent.spot c.in-Incoherent.id c.as_bytes-id.result.now c.args.file.now digits) c.tell_spot-in-Incoherent.ensures)

pub returns-in-TooMany : goal.returns-in-TooMany
returns-in-TooMany g c = told _ c.args.refusal.now TooMany c.args.file.now c.in-TooMany.is c.tell_file-in-TooMany.ensures

pub returns-in-Memory : goal.returns-in-Memory
returns-in-Memory g c = told _ c.args.refusal.now Memory c.args.file.now c.in-Memory.is c.tell_file-in-Memory.ensures
