use Rattle.gcore.specs.Endings.{Change}
use Rattle.gcore.specs.Outcomes.{graph_names}
use Rattle.gcore.specs.QueryFiles.{placed}
use Rattle.gcore.proofs.GraphsRead.{graphs_differ}
use Rattle.gcore.specs.Explanations.{IsExplainedOver}
use Rattle.gcore.specs.Outcomes.{Explains}
use Rattle.gcore.specs.declared.command.Command.TheVariants.{Explain}
use Rattle.gcore.proofs.RunLaws.{file_read}
use Rattle.gcore.proofs.EndTextCalls.{answers, explain_writes, text_room}
use Rattle.gcore.proofs.answer.explain_query.Goals as goal

pub read_graphs-requires : goal.read_graphs-requires
read_graphs-requires g c = graphs_differ c.args.pairs.now c.requires.graphs

pub explain_session-written-requires-clause-begins : goal.explain_session-written-requires-clause-begins
explain_session-written-requires-clause-begins g c = c.in_ok-catalog.ensures.outcome.3

pub explain_session-written-requires-clause-room : goal.explain_session-written-requires-clause-room
explain_session-written-requires-clause-room g c =
    let query = c.args.query.now in
    let pairs = c.args.pairs.now in
    let told = g.F.Folder.files c.args.folder.now in
    let file = placed c.in_ok-checked.checked in
    let read = file_read (g.F.Folder.files c.read_graphs.new.folder) told c.in_ok-names.names (graph_names c.args.pairs.now) c.args.query.now file c.in_ok-catalog.ensures.kept c.in_ok-names.ensures c.in_ok-checked.ensures.outcome in
    text_room query pairs (Explain query pairs) Explains IsExplainedOver (explain_writes query pairs) c.in_ok-catalog.catalog.names c.in_ok-catalog.ensures.outcome.0 told c.in_ok-catalog.catalog.graphs file c.in_ok-catalog.ensures.outcome.2 read (g.S.Sink.room c.args.out.now) c.requires.room

pub returns-clause-outcome : goal.returns-clause-outcome
returns-clause-outcome g c =
    let query = c.args.query.now in
    let pairs = c.args.pairs.now in
    let told = g.F.Folder.files c.args.folder.now in
    let file = placed c.in_ok-checked.checked in
    let read = file_read (g.F.Folder.files c.read_graphs.new.folder) told c.in_ok-names.names (graph_names c.args.pairs.now) c.args.query.now file c.in_ok-catalog.ensures.kept c.in_ok-names.ensures c.in_ok-checked.ensures.outcome in
    let out : Change = record {
      faults_before = g.S.Sink.faults c.args.out.now;
      faults_after = g.S.Sink.faults c.explain_session-written.new.out;
      taken_before = g.S.Sink.taken c.args.out.now;
      taken_after = g.S.Sink.taken c.explain_session-written.new.out;
    } in
    answers query pairs (Explain query pairs) Explains IsExplainedOver (explain_writes query pairs) c.in_ok-catalog.catalog.names c.in_ok-catalog.ensures.outcome.0 told c.in_ok-catalog.catalog.graphs file c.in_ok-catalog.ensures.outcome.2 read
    (g.F.Folder.faults c.args.folder.now) (g.F.Folder.faults c.read_query.new.folder) out c.explain_session-written.result c.explain_session-written.ensures
