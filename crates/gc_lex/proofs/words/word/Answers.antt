use Rattle.gc_lex.proofs.WordFronts.{word_front}
use Rattle.gc_lex.proofs.words.word.Goals as goal

pub unreachable-requires : goal.unreachable-requires
unreachable-requires c =
    let refused = rw c.in-None.is at c.in_ok-name.ensures in
    refused (word_front c.args.text.now c.word_length-length.result c.requires c.word_length-length.ensures)
