use Rattle.std.proofs.Common.{◌≡◌, ◌∙◌, map, sym, ap, subst, IfOk}
use Rattle.gc_ast.specs.QueryViews.{item_tree}
use Rattle.gc_ast.specs.Trees.{row}
use Rattle.gc_ast.specs.declared.query.Basic.{out-Basic}
use Rattle.gc_lower.specs.Namings.{scope_of}
use Rattle.gc_lower.proofs.TreeParts.{basic_parts}
use Rattle.gc_build_reading.specs.Recipes.{recipe_by, recipe_of}
use Rattle.gc_build_reading.proofs.reading.recipe.Goals as goal

pub returns : goal.returns
returns c =
    let s = scope_of c.args.checked.now 0 in
    let names = c.args.checked.now.file.names in
    let items = row (map (item_tree names) (out-Basic c.args.basic.now).items.items) in
    subst (λ due. IfOk c.recipe_by.result (λ r. r ≡ due))
    (ap (λ n. recipe_by s c.args.bound.now n items) c.match_at-block.ensures ∙ sym (ap (recipe_of s c.args.bound.now) (basic_parts names c.args.basic.now)))
    c.recipe_by.ensures
