use Rattle.std.proofs.Common.{◌≡◌, [], ◌∷◌, Ok, Err, refl}
use Rattle.gcore.specs.MakeQueries.{made_name, make_query}
use Rattle.gcore.proofs.BuiltQueries.{file_is_built}
use Rattle.gcore.proofs.MakeQueryRead.{only_memory, read_over}
use Rattle.gcore.proofs.made.made_query.Goals as goal

pub returns-in-Ok-clause-file : goal.returns-in-Ok-clause-file
unfolding make_query
returns-in-Ok-clause-file c =
    read_over c.push.new.self c.new-names.result c.in_ok-made_name.field-0 make_query (Ok c.in-Ok.checked) c.in_ok-push.ensures.ok c.new-names.ensures c.in_ok-made_name.ensures refl c.in-Ok.ensures

pub returns-in-Ok-clause-built : goal.returns-in-Ok-clause-built
unfolding make_query
returns-in-Ok-clause-built c = file_is_built c.a_query_file_that_is_read_is_built.ensures.built (made_name ∷ []) make_query (Ok c.in-Ok.checked)
    (read_over c.push.new.self c.new-names.result c.in_ok-made_name.field-0 make_query (Ok c.in-Ok.checked) c.in_ok-push.ensures.ok c.new-names.ensures c.in_ok-made_name.ensures refl c.in-Ok.ensures)

pub want_of-requires : goal.want_of-requires
unfolding make_query
want_of-requires c =
    only_memory c.in-Err.stop
    (read_over c.push.new.self c.new-names.result c.in_ok-made_name.field-0 make_query (Err c.in-Err.stop) c.in_ok-push.ensures.ok c.new-names.ensures c.in_ok-made_name.ensures refl c.in-Err.ensures)
