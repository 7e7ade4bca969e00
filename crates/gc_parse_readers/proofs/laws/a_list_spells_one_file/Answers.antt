use Rattle.gc_parse_readers.proofs.FileRight.{file_alone}
use Rattle.gc_parse_readers.proofs.laws.a_list_spells_one_file.Goals as goal

pub returns : goal.returns
returns c = file_alone
