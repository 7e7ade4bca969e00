use Rattle.gc_ast.specs.QueryViews.{change_tree}
use Rattle.gc_parse_readers.specs.Kinds.{word_kind}
use Rattle.gc_parse_readers.specs.Readers.{in_front, read_many}
use Rattle.gc_parse_readers.specs.ConstructReaders.{read_sub}
use Rattle.gc_parse_readers.specs.QueryReaders.{nested}
use Rattle.gc_parse_readers.specs.Points.{bare}
use Rattle.std.proofs.Common.{◌≡◌, ◌-◌, [], ◌∷◌, codes, drop, map}
use Rattle.gc_parse_constructs.proofs.assigns.subs.Given as goal

abbrev pub invariant-loop : goal.invariant-loop
invariant-loop g l =
    in_front (map (change_tree l.source.names) l.changes.items) (read_many (word_kind (codes "SET") ∷ word_kind (codes "REMOVE") ∷ []) (read_sub l.room (nested (l.room - 1))) (l.room - l.counter) (bare l.at) (drop l.at l.source.tokens))
    ≡ read_many (word_kind (codes "SET") ∷ word_kind (codes "REMOVE") ∷ []) (read_sub l.room (nested (l.room - 1))) l.room (bare l.from) (drop l.from l.source.tokens)
