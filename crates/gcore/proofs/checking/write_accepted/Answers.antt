use Rattle.std.proofs.Common.{◌≡◌, ℕ, List, [], ◌∷◌, ◌++◌, length, take, drop, sym, ap, subst, ◌∙◌}
use Rattle.std.specs.Prelude.{codes}
use Rattle.std.specs.Fmt.{decimal}
use Rattle.std.specs.Io.KnownBytes.{append_known}
use Rattle.std.proofs.lemmas.List.{take-append-drop}
use Rattle.gc_base.specs.Sinks.{HasRoom}
use Rattle.gcore.specs.CertificateLines.{accepted_line}
use Rattle.gcore.proofs.checking.write_accepted.Goals as goal

-- the line, where its number is written in digits
of_digits : List ℕ → List ℕ
of_digits digits = codes "accepted " ++ (digits ++ 10 ∷ [])

line_is : (digits : List ℕ) (searches : ℕ) → digits ≡ decimal searches → of_digits digits ≡ accepted_line searches
unfolding accepted_line of_digits
line_is digits searches h = ap of_digits h

pub write_pieces-requires : goal.write_pieces-requires
unfolding of_digits
write_pieces-requires g c =
    subst (λ (text : List ℕ). HasRoom (g.S.Sink.room c.args.out.now) (length text))
    (sym (line_is c.as_bytes-digits.result.now c.args.searches (c.as_bytes-digits.ensures.value ∙ c.format.ensures.text))) c.requires

pub returns-in-Ok : goal.returns-in-Ok
unfolding of_digits
returns-in-Ok g c =
    c.in-Ok.ensures.taken ∙ ap (append_known (g.S.Sink.taken c.args.out.now)) (line_is c.as_bytes-digits.result.now c.args.searches (c.as_bytes-digits.ensures.value ∙ c.format.ensures.text))

pub returns-in-Err : goal.returns-in-Err
unfolding of_digits
returns-in-Err g c =
    let p = c.in-Err.ensures.prefix in
    let text = of_digits c.as_bytes-digits.result.now in
    let same = line_is c.as_bytes-digits.result.now c.args.searches (c.as_bytes-digits.ensures.value ∙ c.format.ensures.text) in
    (c.in-Err.ensures.cause, (take p.0 text, drop p.0 text, take-append-drop p.0 text ∙ same, p.1.taken))
