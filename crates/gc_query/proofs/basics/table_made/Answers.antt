use Rattle.std.proofs.Common.{◌≡◌, List, ap, sym, subst, ◌∙◌}
use Rattle.gc_ast.specs.QueryViews.{basic_tree}
use Rattle.gc_ast.specs.declared.query.Basic.{Basic, out-Basic}
use Rattle.gc_base.specs.declared.place.Sym.{Sym}
use Rattle.gc_build_reading.specs.Recipes.{recipe_of}
use Rattle.gc_expr.specs.Views.{Names}
use Rattle.gc_lower.specs.Scopes.{Scope}
use Rattle.gc_build_recipe.specs.Recipes.{Recipe}
use Rattle.gc_query.specs.Answered.{ComesOf, Rises, names_in, scope_in}
use Rattle.gc_query.proofs.AllPathsSearched.{all_searched}
use Rattle.gc_query.proofs.BasicsMade.{comes_of, rises, table_comes, whole}
use Rattle.gc_query.specs.Built.{are_searched}
use Rattle.gc_query.proofs.basics.table_made.Goals as goal

-- what the recipe is
recipe_is : (s : Scope) (names : Names) (basic : Basic) (r : Recipe) (schema bound : List Sym) → r ≡ recipe_of s bound (basic_tree names basic) → bound ≡ schema
    → r ≡ recipe_of s schema (basic_tree names basic)
recipe_is s names basic r schema bound h e = h ∙ ap (λ (xs : List Sym). recipe_of s xs (basic_tree names basic)) e

pub construct-outcome-requires-clause-searchable : goal.construct-outcome-requires-clause-searchable
construct-outcome-requires-clause-searchable g c = all_searched _ (ap are_searched c.requires.block ∙ c.requires.built.searched)

pub construct-outcome-requires-clause-whole : goal.construct-outcome-requires-clause-whole
construct-outcome-requires-clause-whole g c =
    let s : Scope = scope_in c.args.session.now in
    let names : Names = names_in c.args.session.now in
    whole s names (record { graphs = c.args.graphs.now; next = c.args.next }) c.args.basic.now c.args.matched.now.block.now c.requires.block
    c.args.matched.now.segments.now c.args.matched.now.table.now c.in_ok-recipe.recipe
    (recipe_is s names c.args.basic.now c.in_ok-recipe.recipe c.args.matched.now.table.now.schema c.as_slice-bound.result.now c.in_ok-recipe.ensures
    (c.as_slice-bound.ensures ∙ c.schema.ensures))
    c.are_graphs.ensures c.requires.standing c.requires.there c.requires.matched c.requires.built

pub returns-clause-rises : goal.returns-clause-rises
returns-clause-rises g c =
    subst (Rises c.args.next) (sym c.made_of.ensures) (rises _ _ _ c.args.next (out-Basic c.args.basic.now).token c.construct-outcome.result c.construct-outcome.ensures.made)

pub returns-clause-due : goal.returns-clause-due
returns-clause-due g c =
    let s : Scope = scope_in c.args.session.now in
    let names : Names = names_in c.args.session.now in
    table_comes s names (record { graphs = c.args.graphs.now; next = c.args.next }) c.args.basic.now c.args.matched.now.block.now c.requires.block
    c.args.matched.now.segments.now c.args.matched.now.table.now c.in_ok-recipe.recipe
    (recipe_is s names c.args.basic.now c.in_ok-recipe.recipe c.args.matched.now.table.now.schema c.as_slice-bound.result.now c.in_ok-recipe.ensures
    (c.as_slice-bound.ensures ∙ c.schema.ensures))
    c.construct-outcome.result c.construct-outcome.ensures.made c.made_of.result c.made_of.ensures

pub returns-clause-comes : goal.returns-clause-comes
returns-clause-comes g c =
    subst (ComesOf c.args.graphs.now c.args.next) (sym c.made_of.ensures) (comes_of c.args.graphs.now c.args.next (out-Basic c.args.basic.now).token c.construct-outcome.result c.construct-outcome.ensures.comes)
