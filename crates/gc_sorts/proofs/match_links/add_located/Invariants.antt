use Rattle.std.proofs.Common.{◌≡◌, ◌++◌, drop, map}
use Rattle.gc_ast.specs.PatternViews.{located_tree}
use Rattle.gc_ast.specs.Trees.{row}
use Rattle.gc_sorts.specs.Links.{link_by, located_links}
use Rattle.gc_sorts.specs.Uses.{all_of}
use Rattle.gc_sorts.proofs.match_links.add_located.Given as goal

abbrev pub invariant-loop-located : goal.invariant-loop-located
invariant-loop-located l =
    map (link_by l.before.names) l.links.items ++ all_of (located_links l.before.uses) (row (map (located_tree l.before.names) (drop l.located-index l.located-items)))
    ≡ map (link_by l.before.names) l.initial.links.items ++ all_of (located_links l.before.uses) (row (map (located_tree l.before.names) l.located-items))
