use Rattle.gc_sorts.proofs.LoadedSlots.{slot_noted, none_noted}
use Rattle.gc_sorts.specs.Orders.{slot}
use Rattle.std.proofs.Common.{length, slice_index_or, false, is_some, sym, ap, ◌∙◌}
use Rattle.gc_sorts.proofs.graphs.load.Goals as goal

pub returns-in-Some-clause-slots : goal.returns-in-Some-clause-slots
returns-in-Some-clause-slots c =
    slot_noted c.args.names.now c.as_slice-distinct.ensures.distinct c.read_words.ensures c.args.slots.now.items c.requires
    c.args.name.now c.in-Some.sym c.in-Some.ensures.number

pub returns-in_default-clause-slots : goal.returns-in_default-clause-slots
returns-in_default-clause-slots c s =
    none_noted c.args.names.now c.read_words.ensures c.args.name.now c.bytes-word.ensures.word (ap is_some (sym c.in_default.is) ∙ c.number_of.ensures.has) s
    (slice_index_or c.args.slots.now.items (slot (length c.args.names.now) s) false)
