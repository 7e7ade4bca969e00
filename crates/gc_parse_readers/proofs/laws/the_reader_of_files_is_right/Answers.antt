use Rattle.gc_parse_readers.proofs.FileRight.{file_sound, file_complete, file_refused}
use Rattle.gc_parse_readers.proofs.laws.the_reader_of_files_is_right.Goals as goal

pub returns-clause-sound : goal.returns-clause-sound
returns-clause-sound c = λ room ts rest statements end short got. (file_sound room ts rest statements end short got).1

pub returns-clause-complete : goal.returns-clause-complete
returns-clause-complete c = file_complete

pub returns-clause-refused : goal.returns-clause-refused
returns-clause-refused c = file_refused
