use Rattle.std.proofs.Common.{◌≡◌, ◌++◌, drop, map}
use Rattle.gc_ast.specs.QueryViews.{optional_tree}
use Rattle.gc_ast.specs.Trees.{row}
use Rattle.gc_sorts.specs.Breaches.{first_among}
use Rattle.gc_sorts.specs.Links.{link_by, optional_links}
use Rattle.gc_sorts.specs.Matches.{shared_breaches}
use Rattle.gc_sorts.specs.Uses.{all_of, optional_uses}
use Rattle.gc_sorts.proofs.matches.add_optionals.Given as goal

abbrev pub invariant-loop-optional : goal.invariant-loop-optional
invariant-loop-optional l = record {
  names : l.variables.names ≡ l.initial.variables.names;
  uses : l.variables.uses ++ all_of optional_uses (row (map (optional_tree l.initial.variables.names) (drop l.optional-index l.optional-items))) ≡ l.initial.variables.uses ++ all_of optional_uses (row (map (optional_tree l.initial.variables.names) l.optional-items));
  links : map (link_by l.initial.variables.names) l.links.items ++ optional_links l.variables.uses (row (map (optional_tree l.initial.variables.names) (drop l.optional-index l.optional-items))) ≡ map (link_by l.initial.variables.names) l.initial.links.items ++ optional_links l.initial.variables.uses (row (map (optional_tree l.initial.variables.names) l.optional-items));
  found : first_among l.found (shared_breaches l.mandatory l.variables.uses (row (map (optional_tree l.initial.variables.names) (drop l.optional-index l.optional-items)))) ≡ first_among l.initial.found (shared_breaches l.mandatory l.initial.variables.uses (row (map (optional_tree l.initial.variables.names) l.optional-items)));
}
