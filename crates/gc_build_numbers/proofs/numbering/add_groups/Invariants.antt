use Rattle.gc_build_numbers.proofs.numbering.add_groups.Given as goal

abbrev pub ghost-numbered_by : goal.ghost-numbered_by
ghost-numbered_by g a = g.keys
