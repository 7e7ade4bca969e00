use Rattle.std.proofs.Common.{◌≡◌, map, drop}
use Rattle.std.specs.List.{list_all}
use Rattle.std.specs.Option.{is_some}
use Rattle.serde_json.specs.Find.{get}
use Rattle.serde_json.specs.View.{view}
use Rattle.gc_cert_text.proofs.shapes.has_each.Given as goal

-- the rest are there just where all are
abbrev pub invariant-loop-key : goal.invariant-loop-key
invariant-loop-key l =
    list_all (λ key. is_some (get key (view l.value))) (map (λ k. k.now) (drop l.key-index l.keys))
    ≡ list_all (λ key. is_some (get key (view l.value))) (map (λ k. k.now) l.keys)
