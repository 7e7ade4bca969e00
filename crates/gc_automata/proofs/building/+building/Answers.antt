use Rattle.std.proofs.Common.{arith}
use Rattle.gc_regx.specs.Views.{regex_tree}
use Rattle.gc_automata.specs.Automata.{automaton_of}
use Rattle.gc_automata.proofs.Turns.{star_built}
use Rattle.gc_automata.proofs.building.+building.Goals as goal

pub build_star-returns : goal.build_star-returns
build_star-returns t c =
    star_built (automaton_of (regex_tree c.args.part.now)) c.args.from c.in_ok-first.first c.in_ok-last.last c.count.result c.saturating_sub-end.result
    c.args.transitions.now.items c.push_skip.new.transitions.items c.push_skip-2.new.transitions.items c.build.new.transitions.items c.push_skip-3.new.transitions.items
    c.push_skip-4.new.transitions.items c.behind-3.result
    c.in_ok-first.ensures.0 c.count.ensures c.in_ok-last.ensures (omega (arith, c.in_ok-build.ensures.0, c.saturating_sub-end.ensures)) c.in_ok-push_skip.ensures c.in_ok-push_skip-2.ensures c.in_ok-build.ensures.1
    c.in_ok-push_skip-3.ensures c.in_ok-push_skip-4.ensures c.behind-3.ensures
