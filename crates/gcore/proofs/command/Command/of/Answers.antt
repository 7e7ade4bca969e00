use Rattle.std.proofs.Common.{map, string_bytes}
use Rattle.gcore.proofs.CommandLaws.{limits_of_form}
use Rattle.gcore.proofs.command.Command.of.Goals as goal

pub returns-in-Some-clause-limits : goal.returns-in-Some-clause-limits
returns-in-Some-clause-limits c = limits_of_form c.as_str.result.now (map string_bytes c.in-Some.words.now) c.of_form.result c.of_form.ensures
