use Rattle.std.proofs.Common.{◌≡◌, rules, false, ap, ◌∙◌}
use Rattle.std.specs.List.{list_all}
use Rattle.gc_spec.specs.PropertyGraph.{PropertyGraph}
use Rattle.gc_sets.specs.Wholes.{edge_fits, path_fits}
use Rattle.gc_sets.proofs.Outcomes.{no_edges, no_paths, without_paths}
use Rattle.gc_sets.proofs.whole.assembled.Goals as goal

pub returns-then-not-edges_fit : goal.returns-then-not-edges_fit
returns-then-not-edges_fit c =
    let none : list_all (edge_fits c.in_ok-builder.builder) c.args.edges.items ≡ false = search rules in
    no_edges c.args.nodes.items c.args.edges.items c.args.paths.items c.in_ok-builder.builder c.in_ok-builder.ensures none

pub returns-then-not-paths_fit : goal.returns-then-not-paths_fit
returns-then-not-paths_fit c =
    let made : c.add_edges.new.builder ≡ without_paths c.args.nodes.items c.args.edges.items c.args.paths.items =
    c.in_ok-add_edges.ensures ∙ ap (λ (b : PropertyGraph). record b { edges = c.args.edges.items }) c.in_ok-builder.ensures in
    let none : list_all (path_fits c.add_edges.new.builder) c.args.paths.items ≡ false = search rules in
    no_paths c.args.nodes.items c.args.edges.items c.args.paths.items c.add_edges.new.builder made none
