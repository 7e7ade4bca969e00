use Rattle.gc_json.proofs.Wholes.{no_frame, a_frame}
use Rattle.gc_json.proofs.loading.graph_of_text.Goals as goal

pub returns-in_err-frame : goal.returns-in_err-frame
returns-in_err-frame c = no_frame c.args.seen.now _ c.args.text.now c.in_err-frame.field-0.0 _ c.from_residual.ensures.1 c.in_err-frame.ensures

pub returns : goal.returns
returns c = a_frame c.args.seen.now _ c.args.text.now c.in_ok-frame.frame c.graph_of_frame.result c.in_ok-frame.ensures c.graph_of_frame.ensures
