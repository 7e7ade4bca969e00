use Rattle.std.proofs.Common.{sym}
use Rattle.serde_json.specs.View.{view}
use Rattle.gc_json.specs.ElementSeen.{element_seen}
use Rattle.gc_json.proofs.Members.{passed_over}
use Rattle.gc_json.proofs.element.Element.put.Goals as goal

pub returns-in-None : goal.returns-in-None
returns-in-None c = sym (passed_over c.args.kind (element_seen c.args.self.now) c.args.key.now (view c.args.value) c.in-None.ensures.none)
