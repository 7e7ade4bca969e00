use Rattle.gcore.proofs.SortedFiles.{parsed_file}
use Rattle.gcore.proofs.query_file.file_of.Goals as goal

pub returns-in-Ok : goal.returns-in-Ok
returns-in-Ok c =
    parsed_file c.args.graphs.now c.args.tokens.now.places c.args.tokens.now.tokens c.in-Ok.file c.sorted.result c.in-Ok.ensures.due c.in-Ok.ensures.places c.in-Ok.ensures.names c.sorted.ensures
