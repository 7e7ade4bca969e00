use Rattle.gc_json.specs.Frames.{entry_lists}
use Rattle.gc_json.proofs.Wholes.{last_failed}
use Rattle.gc_json.proofs.loading.graph_of_lists.Goals as goal

pub returns-in_err-add_list-3 : goal.returns-in_err-add_list-3
returns-in_err-add_list-3 c = λ es whole is.
    last_failed c.args.seen.now _ (λ (u : Unit {0}). c.add_list-3.new.builder) (entry_lists es) c.add_list.new.builder c.add_list-2.new.builder c.new-builder.result c.in_err-add_list-3.field-0.0 _ c.new-builder.ensures c.from_residual-in_err-add_list-3.ensures.1
    (c.in_ok-add_list.ensures es whole is) (c.in_ok-add_list-2.ensures es whole is) (c.in_err-add_list-3.ensures es whole is)
