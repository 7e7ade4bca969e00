use Rattle.std.proofs.Common.{◌≡◌, [], ap, ◌∙◌, arith}
use Rattle.gc_json.specs.Entries.{object_entries}
use Rattle.gc_json.specs.Frames.{text_frame}
use Rattle.gc_json.proofs.Wholes.{no_token}
use Rattle.gc_json.proofs.first_pass.frame_of_reader.Goals as goal

pub returns-in_default : goal.returns-in_default
returns-in_default c =
    let empty : c.args.reader.now ≡ [] = grind arith in
    ap (λ ts. text_frame (object_entries ts)) empty ∙ no_token
