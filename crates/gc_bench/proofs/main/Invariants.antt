use Rattle.gc_bench.proofs.main.Given as goal

-- the ledger is that of the blank
abbrev pub ghosts-store_line : goal.ghosts-store_line
ghosts-store_line a = record { name = a.blank.name; parts = a.blank.parts }
