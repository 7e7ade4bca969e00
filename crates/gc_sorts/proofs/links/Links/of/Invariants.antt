use Rattle.std.proofs.Common.{◌≡◌, ◌||◌, length, drop}
use Rattle.std.specs.List.{list_any}
use Rattle.indexmap.specs.IndexSet.{contains}
use Rattle.gc_sorts.specs.declared.link.LinkKey.{LinkKey}
use Rattle.gc_sorts.specs.LinkKeys.{same_key, has_key}
use Rattle.gc_sorts.proofs.links.Links.of.Given as goal

-- a key is one of those so far, or one of a link that is left, where it is one of a link
abbrev pub invariant-loop-link : goal.invariant-loop-link
invariant-loop-link l =
    (k : LinkKey) → (contains same_key l.keys k || list_any (λ x. has_key (length l.matched.names) x k) (drop l.link-index l.links))
    ≡ list_any (λ x. has_key (length l.matched.names) x k) l.links
