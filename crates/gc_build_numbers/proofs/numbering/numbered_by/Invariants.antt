use Rattle.gc_build_numbers.proofs.numbering.numbered_by.Given as goal

abbrev pub ghost-which : goal.ghost-which
ghost-which g a = g.keys
