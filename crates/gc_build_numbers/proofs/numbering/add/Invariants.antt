use Rattle.gc_build_numbers.specs.Keys.{keys_of}
use Rattle.gc_build_numbers.proofs.numbering.add.Given as goal

-- the rows have these keys for the variable
abbrev pub ghost-add_groups : goal.ghost-add_groups
ghost-add_groups g a = keys_of a.setting.now a.numbering.now.variables a.variable.now
