use Rattle.std.proofs.Common.{◌++◌, ap, sym, map}
use Rattle.std.specs.List.{flat_map}
use Rattle.gc_expr.specs.Views.{name_of}
use Rattle.gc_ast.specs.PatternViews.{named_if, property_use_by}
use Rattle.gc_print_query.specs.QueryPieces.{braced, label_group, name_if, pieces_of}
use Rattle.gc_print_query.proofs.PatternPieces.{list_pieces}
use Rattle.gc_print_query.proofs.WrittenPieces.{then_last, renamed_last}
use Rattle.gc_print_query.proofs.patterns.write_element.Goals as goal

pub returns : goal.returns
unfolding pieces_of
returns c =
    let e = c.args.element.now in
    let names = c.args.names.now in
    let t0 = c.args.text.now.items in
    let a = name_if (named_if names e.name) in
    let b = flat_map label_group e.labels in
    let d = map (λ p. pieces_of 0 (property_use_by (name_of names) p)) e.properties in
    let r = c.write_properties.result in
    renamed_last r t0 (a ++ (b ++ braced d)) _ c.write_properties.new.text.items
    (ap (λ lists. a ++ (b ++ braced lists)) (sym (list_pieces 0 (property_use_by (name_of names)) e.properties)))
    (then_last r t0 a (b ++ braced d) c.write_name_if.new.text.items c.write_properties.new.text.items c.in_ok-write_name_if.ensures
    (then_last r c.write_name_if.new.text.items b (braced d) c.write_label_groups.new.text.items c.write_properties.new.text.items c.in_ok-write_label_groups.ensures c.write_properties.ensures))
