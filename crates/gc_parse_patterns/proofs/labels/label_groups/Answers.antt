use Rattle.std.proofs.Common.{drop}
use Rattle.gc_parse_readers.specs.PatternReaders.{read_label_groups}
use Rattle.gc_parse_readers.specs.Points.{bare}
use Rattle.gc_parse_source.proofs.Loops.{list_given}
use Rattle.gc_parse_patterns.proofs.labels.label_groups.Goals as goal

pub returns : goal.returns
returns c =
    list_given c.args.source.now.tokens c.many_labels.result (read_label_groups c.args.room (bare c.args.at) (drop c.args.at c.args.source.now.tokens)) c.many_labels.ensures
