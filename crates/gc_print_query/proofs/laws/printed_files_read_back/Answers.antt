use Rattle.gc_print_query.proofs.FilesReadBack.{reads_back}
use Rattle.gc_print_query.proofs.laws.printed_files_read_back.Goals as goal

pub returns : goal.returns
returns c = reads_back
