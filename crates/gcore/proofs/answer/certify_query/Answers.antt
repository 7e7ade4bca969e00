use Rattle.gcore.specs.Endings.{Change}
use Rattle.gcore.specs.Outcomes.{graph_names}
use Rattle.gcore.specs.QueryFiles.{placed}
use Rattle.gcore.proofs.GraphsRead.{graphs_differ}
use Rattle.gcore.specs.Certifications.{IsCertifiedOver}
use Rattle.gcore.specs.Outcomes.{Certifies}
use Rattle.gcore.specs.declared.command.Command.TheVariants.{Cert}
use Rattle.gcore.proofs.RunLaws.{file_read}
use Rattle.gcore.proofs.EndTextCalls.{answers, cert_writes, text_room}
use Rattle.gcore.proofs.answer.certify_query.Goals as goal

pub read_graphs-requires : goal.read_graphs-requires
read_graphs-requires g c = graphs_differ c.args.pairs.now c.requires.graphs

pub certify_session-written-requires-clause-begins : goal.certify_session-written-requires-clause-begins
certify_session-written-requires-clause-begins g c = c.in_ok-catalog.ensures.outcome.3

pub certify_session-written-requires-clause-room : goal.certify_session-written-requires-clause-room
certify_session-written-requires-clause-room g c =
    let query = c.args.query.now in
    let pairs = c.args.pairs.now in
    let told = g.F.Folder.files c.args.folder.now in
    let file = placed c.in_ok-checked.checked in
    let read = file_read (g.F.Folder.files c.read_graphs.new.folder) told c.in_ok-names.names (graph_names c.args.pairs.now) c.args.query.now file c.in_ok-catalog.ensures.kept c.in_ok-names.ensures c.in_ok-checked.ensures.outcome in
    text_room query pairs (Cert query pairs) Certifies IsCertifiedOver (cert_writes query pairs) c.in_ok-catalog.catalog.names c.in_ok-catalog.ensures.outcome.0 told c.in_ok-catalog.catalog.graphs file c.in_ok-catalog.ensures.outcome.2 read (g.S.Sink.room c.args.out.now) c.requires.room

pub returns-clause-outcome : goal.returns-clause-outcome
returns-clause-outcome g c =
    let query = c.args.query.now in
    let pairs = c.args.pairs.now in
    let told = g.F.Folder.files c.args.folder.now in
    let file = placed c.in_ok-checked.checked in
    let read = file_read (g.F.Folder.files c.read_graphs.new.folder) told c.in_ok-names.names (graph_names c.args.pairs.now) c.args.query.now file c.in_ok-catalog.ensures.kept c.in_ok-names.ensures c.in_ok-checked.ensures.outcome in
    let out : Change = record {
      faults_before = g.S.Sink.faults c.args.out.now;
      faults_after = g.S.Sink.faults c.certify_session-written.new.out;
      taken_before = g.S.Sink.taken c.args.out.now;
      taken_after = g.S.Sink.taken c.certify_session-written.new.out;
    } in
    answers query pairs (Cert query pairs) Certifies IsCertifiedOver (cert_writes query pairs) c.in_ok-catalog.catalog.names c.in_ok-catalog.ensures.outcome.0 told c.in_ok-catalog.catalog.graphs file c.in_ok-catalog.ensures.outcome.2 read
    (g.F.Folder.faults c.args.folder.now) (g.F.Folder.faults c.read_query.new.folder) out c.certify_session-written.result c.certify_session-written.ensures
