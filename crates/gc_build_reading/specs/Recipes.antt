-- What a CONSTRUCT of a checked file asks for.
use Rattle.std.specs.Prelude.{ℕ, List}
use Rattle.gc_base.specs.declared.place.Sym.{Sym}
use Rattle.gc_ast.specs.Trees as tree
use Rattle.gc_ast.specs.Trees.{Tree, RowOf, ABasic, AnItem}
use Rattle.gc_sorts.specs.Uses.{all_of}
use Rattle.gc_rows.specs.Rows.{lists}
use Rattle.gc_build_recipe.specs.Recipes.{Recipe}
use Rattle.gc_lower.specs.Scopes.{Scope, is_found_in}
use Rattle.gc_build_reading.specs.Items.{item_labels, item_assignments, item_lost_labels, item_lost_properties, item_terms, item_copies, item_chains, item_graphs}
use Rattle.gc_build_reading.specs.Places.{places_of}
use Rattle.gc_build_reading.specs.Variables.{Makings, copied_by, first_places, match_at, own_terms, variables_at}

-- what items say of the making of variables, where the MATCH binds these, and is the block of this number
abbrev pub makings_of : Scope → (bound : List Sym) → (block : ℕ) → Tree (RowOf AnItem) → Makings
makings_of s bound block items = record {
  is_bound = lists bound;
  is_found = is_found_in s block;
  terms = own_terms (all_of (item_terms s) items);
  copied = copied_by (all_of (item_copies s) items);
}

-- the recipe of items
abbrev pub recipe_by : Scope → (bound : List Sym) → (block : ℕ) → Tree (RowOf AnItem) → Recipe
recipe_by s bound block items = record {
  variables = variables_at (makings_of s bound block items) (first_places (places_of s items));
  labels = all_of (item_labels s) items;
  assignments = all_of (item_assignments s) items;
  lost_labels = all_of (item_lost_labels s) items;
  lost_properties = all_of (item_lost_properties s) items;
  chains = all_of (item_chains s) items;
  graphs = all_of (item_graphs s) items;
}

-- the recipe of a CONSTRUCT, where its MATCH binds these variables
abbrev pub recipe_of : Scope → (bound : List Sym) → Tree ABasic → Recipe
recipe_of s bound (tree.Basic token items main optionals) = recipe_by s bound (match_at s token) items
