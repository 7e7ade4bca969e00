use Rattle.gc_json.specs.Tokens.{value_data}
use Rattle.gc_json.proofs.OnePass.{version_read}
use Rattle.gc_json.proofs.one_pass.take_version.Goals as goal

pub returns-clause-value : goal.returns-clause-value
returns-clause-value c = λ es seen g are. version_read seen es c.args.frame g c.in-Ok.is' c.is_version_1.new.reader (value_data 126 c.args.reader.now) are c.in-Ok.ensures.value
