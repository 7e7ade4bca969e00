use Rattle.gc_json.specs.Tokens.{value_data}
use Rattle.gc_json.proofs.ListTurns.{one_read}
use Rattle.gc_json.proofs.listing.add_next.Goals as goal

pub returns-clause-value : goal.returns-clause-value
returns-clause-value c =
    one_read c.args.seen.now c.args.kind c.args.index c.args.builder.now c.add_located.new.builder _ c.read_element.new.reader (value_data c.args.depth c.args.reader.now) _ c.in_ok-element.ensures.value c.add_located.ensures
