use Rattle.gcore.proofs.cases.certificates.checked.Given as goal

-- the ledger is that of the blank
abbrev pub ghosts-call : goal.ghosts-call
ghosts-call a = record { name = a.blank.name; parts = a.blank.parts }
