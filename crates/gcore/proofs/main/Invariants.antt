use Rattle.gcore.proofs.main.Given as goal

-- the ledger is that of the blank
abbrev pub ghosts-run : goal.ghosts-run
ghosts-run a = record { name = a.blank.name; parts = a.blank.parts }
