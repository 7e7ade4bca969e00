use Rattle.std.proofs.Common.{◌≡◌, ℕ, List, Ok, Err, refl, subst}
use Rattle.gc_check_text.specs.Outcomes.{IsOutcome}
use Rattle.gc_check_text.specs.declared.refusal.CheckRefusal.TheVariants as check
use Rattle.gcore.specs.Endings.{Change}
use Rattle.gcore.proofs.CheckLaws.{accepted_answers, checked_as, room_holds}
use Rattle.gcore.proofs.checking.run_check.Goals as goal

pub write_accepted-requires : goal.write_accepted-requires
write_accepted-requires g c =
    let bytes = c.in_ok-bytes.bytes in
    room_holds c.args.document.now (g.F.Folder.files c.args.folder.now) bytes c.in_ok-bytes.ensures.outcome (g.S.Sink.room c.args.out.now) c.in-Ok.searches c.requires.room
    (subst (λ (bs : List ℕ). IsOutcome bs (Ok c.in-Ok.searches)) c.as_slice.ensures c.in-Ok.ensures.outcome)

pub returns-in-Ok-clause-outcome : goal.returns-in-Ok-clause-outcome
returns-in-Ok-clause-outcome g c =
    let bytes = c.in_ok-bytes.bytes in
    accepted_answers c.args.document.now (g.F.Folder.files c.args.folder.now) bytes c.in_ok-bytes.ensures.outcome _ _ _ c.in-Ok.searches
    (subst (λ (bs : List ℕ). IsOutcome bs (Ok c.in-Ok.searches)) c.as_slice.ensures c.in-Ok.ensures.outcome) c.write_accepted.result c.write_accepted.ensures

pub returns-in-Err-Cert-clause-outcome : goal.returns-in-Err-Cert-clause-outcome
returns-in-Err-Cert-clause-outcome g c =
    let answer = Err (check.Cert c.in-Err-Cert.refusal) in
    let out : Change = record { faults_before = g.S.Sink.faults c.args.out.now; faults_after = g.S.Sink.faults c.args.out.now; taken_before = g.S.Sink.taken c.args.out.now; taken_after = g.S.Sink.taken c.args.out.now } in (
      tt,
      checked_as c.args.document.now (g.F.Folder.files c.args.folder.now) c.in_ok-bytes.bytes c.in_ok-bytes.ensures.outcome answer (g.F.Folder.faults c.args.folder.now) (g.F.Folder.faults c.read_file.new.folder) out
          (subst (λ (bs : List ℕ). IsOutcome bs answer) c.as_slice.ensures (subst (λ r. IsOutcome c.as_slice.result.now (Err r)) c.in-Err-Cert.field-0-is c.in-Err-Cert.ensures.outcome)),
      refl,
    )

pub returns-in-Err-Rejected-clause-outcome : goal.returns-in-Err-Rejected-clause-outcome
returns-in-Err-Rejected-clause-outcome g c =
    let answer = Err (check.Rejected c.in-Err-Rejected.search c.in-Err-Rejected.rule) in
    let out : Change = record { faults_before = g.S.Sink.faults c.args.out.now; faults_after = g.S.Sink.faults c.args.out.now; taken_before = g.S.Sink.taken c.args.out.now; taken_after = g.S.Sink.taken c.args.out.now } in (
      tt,
      checked_as c.args.document.now (g.F.Folder.files c.args.folder.now) c.in_ok-bytes.bytes c.in_ok-bytes.ensures.outcome answer (g.F.Folder.faults c.args.folder.now) (g.F.Folder.faults c.read_file.new.folder) out
          (subst (λ (bs : List ℕ). IsOutcome bs answer) c.as_slice.ensures (subst (λ r. IsOutcome c.as_slice.result.now (Err r)) c.in-Err-Rejected.field-0-is c.in-Err-Rejected.ensures.outcome)),
      refl,
    )
