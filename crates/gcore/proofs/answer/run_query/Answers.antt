use Rattle.gcore.specs.Endings.{Change}
use Rattle.gcore.specs.Outcomes.{graph_names}
use Rattle.gcore.specs.QueryFiles.{placed}
use Rattle.gcore.proofs.GraphsRead.{graphs_differ}
use Rattle.gcore.proofs.RunLaws.{file_read, run_room, written}
use Rattle.gcore.proofs.answer.run_query.Goals as goal

pub read_graphs-requires : goal.read_graphs-requires
read_graphs-requires g c = graphs_differ c.args.pairs.now c.requires.graphs

pub run_session-written-requires-clause-begins : goal.run_session-written-requires-clause-begins
run_session-written-requires-clause-begins g c = c.in_ok-catalog.ensures.outcome.3

pub run_session-written-requires-clause-room : goal.run_session-written-requires-clause-room
run_session-written-requires-clause-room g c =
    let told = g.F.Folder.files c.args.folder.now in
    let file = placed c.in_ok-checked.checked in
    let read = file_read (g.F.Folder.files c.read_graphs.new.folder) told c.in_ok-names.names (graph_names c.args.pairs.now) c.args.query.now file c.in_ok-catalog.ensures.kept c.in_ok-names.ensures c.in_ok-checked.ensures.outcome in
    run_room c.args.query.now c.args.pairs.now told c.in_ok-catalog.catalog.graphs file (g.S.Sink.room c.args.out.now) c.requires.room c.in_ok-catalog.ensures.outcome.2 read

pub returns-clause-outcome : goal.returns-clause-outcome
returns-clause-outcome g c =
    let told = g.F.Folder.files c.args.folder.now in
    let file = placed c.in_ok-checked.checked in
    let read = file_read (g.F.Folder.files c.read_graphs.new.folder) told c.in_ok-names.names (graph_names c.args.pairs.now) c.args.query.now file c.in_ok-catalog.ensures.kept c.in_ok-names.ensures c.in_ok-checked.ensures.outcome in
    let out : Change = record {
      faults_before = g.S.Sink.faults c.args.out.now;
      faults_after = g.S.Sink.faults c.run_session-written.new.out;
      taken_before = g.S.Sink.taken c.args.out.now;
      taken_after = g.S.Sink.taken c.run_session-written.new.out;
    } in
    written c.args.query.now c.args.pairs.now told c.in_ok-catalog.catalog.graphs file (g.F.Folder.faults c.args.folder.now) (g.F.Folder.faults c.read_query.new.folder) out
    c.in_ok-catalog.ensures.outcome.2 read c.run_session-written.result c.run_session-written.ensures
