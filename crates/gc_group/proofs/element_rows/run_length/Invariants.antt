use Rattle.std.proofs.Common.{◌≡◌, ◌+◌, drop}
use Rattle.std.specs.List.{prefix_len}
use Rattle.std.specs.Ordering.{is_eq}
use Rattle.gc_group.specs.Groups.{key_order}
use Rattle.gc_group.proofs.element_rows.run_length.Given as goal

-- all rows so far have the key
abbrev pub invariant-loop-count : goal.invariant-loop-count
invariant-loop-count g l =
    prefix_len (λ r. is_eq (key_order (g.K.OfElements.key_of l.key) r.key)) l.rows ≡ l.count + prefix_len (λ r. is_eq (key_order (g.K.OfElements.key_of l.key) r.key)) (drop l.count l.rows)
