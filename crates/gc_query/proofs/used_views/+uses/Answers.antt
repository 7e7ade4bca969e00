use Rattle.std.proofs.Common.{◌++◌, append_assoc, map, sym, ap, ◌∙◌}
use Rattle.std.specs.List.{flat_map}
use Rattle.gc_alg.specs.Trees.{row}
use Rattle.gc_alg.specs.Views.{conjunct_tree}
use Rattle.gc_alg.specs.declared.block.Part.{out-Part}
use Rattle.gc_alg.proofs.Layers.{part_is}
use Rattle.gc_query.specs.UsedViews.{used_by, uses_in}
use Rattle.gc_query.proofs.Outcomes.{if_ok}
use Rattle.gc_query.proofs.used_views.+uses.Goals as goal

pub push_part-returns : goal.push_part-returns
unfolding uses_in
push_part-returns t c =
    let atoms = flat_map used_by c.deref.result.now in
    let queries = uses_in (row (map conjunct_tree c.deref-2.result.now)) in
    if_ok _ _ (λ u h. h ∙ (ap (λ us. us ++ queries) c.in_ok-push_atoms.ensures ∙ (append_assoc c.args.uses.now.items atoms queries
    ∙ ap (λ us. c.args.uses.now.items ++ us)
    (ap (λ xs. flat_map used_by xs ++ queries) c.deref.ensures.value
    ∙ (ap (λ xs. flat_map used_by (out-Part c.args.part.now).atoms.items ++ uses_in (row (map conjunct_tree xs))) c.deref-2.ensures.value
    ∙ sym (ap uses_in (part_is c.args.part.now))))))) c.push_conjuncts.result c.push_conjuncts.ensures
