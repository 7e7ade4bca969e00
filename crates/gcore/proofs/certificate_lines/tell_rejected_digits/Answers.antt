use Rattle.std.proofs.Common.{◌≡◌, ℕ, List, [], ◌∷◌, ◌++◌, append_assoc, sym, subst}
use Rattle.std.specs.Prelude.{codes}
use Rattle.gcore.specs.Endings.{Change, Tells}
use Rattle.gcore.specs.Lines.{rejected_digits_line}
use Rattle.gcore.proofs.certificate_lines.tell_rejected_digits.Goals as goal

-- the pieces, one behind another, are the line
told : (change : Change) (digits rule : List ℕ) → Tells change (codes "gcore: rejected search " ++ (digits ++ (codes " " ++ (rule ++ 10 ∷ [])))) → Tells change (rejected_digits_line digits rule)
told change digits rule h = subst (λ (text : List ℕ). Tells change (codes "gcore: rejected search " ++ text)) (sym (append_assoc digits (codes " " ++ rule) (10 ∷ []))) h

pub returns : goal.returns
returns g c = told _ c.args.digits.now c.args.rule.now c.tell_pieces.ensures
