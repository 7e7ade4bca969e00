use Rattle.gc_sets.proofs.tests.claims_are_united_and_graphs_compared.Given as goal

abbrev pub ghosts-with_itself : goal.ghosts-with_itself
ghosts-with_itself g a = record { name = a.blank.name; parts = a.blank.parts }
