use Rattle.std.proofs.Common.{rules}
use Rattle.gc_json.proofs.WordTexts.{IsUtf8-word}
use Rattle.gc_cert_text.proofs.elements.word.Goals as goal

pub unwrap-requires : goal.unwrap-requires
unwrap-requires c = let utf8 = IsUtf8-word c.args.name.now c.bytes.ensures.word in search rules
