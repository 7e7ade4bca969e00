use Rattle.gcore.proofs.cases.told_rooms.told_rooms_can_be_met.Given as goal

-- the ledger is that of the blank
abbrev pub ghosts-without_words : goal.ghosts-without_words
ghosts-without_words g a = record { name = a.blank.name; parts = a.blank.parts }
