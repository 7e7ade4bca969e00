-- What items say, gathered one after another.
use Rattle.std.specs.Prelude.{ℕ, List, [], ◌++◌}
use Rattle.std.specs.Coded.{Coded, codes}
use Rattle.gc_ast.specs.Trees.{Tree, RowOf, AnItem, AConstructPart, ANewElement, AnAssign, AChange}
use Rattle.gc_sorts.specs.Uses.{all_of}
use Rattle.gc_build_recipe.specs.Recipes.{Assignment, assignment_code}
use Rattle.gc_build_recipe.specs.declared.change.LabelOf.{LabelOf}
use Rattle.gc_build_recipe.specs.declared.change.PropertyOf.{PropertyOf}
use Rattle.gc_base.specs.declared.place.Sym.{Sym}
use Rattle.gc_lower.specs.Scopes.{Scope}
use Rattle.gc_build_reading.specs.Items.{labels_of, assignments_of}
use Rattle.gc_build_reading.specs.Items.{element_labels, part_labels, change_labels, item_labels, element_assignments, part_assignments, change_assignments, item_assignments}
use Rattle.gc_build_reading.specs.Items.{change_lost_labels, item_lost_labels, change_lost_properties, item_lost_properties}
use Rattle.gc_build_reading.specs.Items.{element_terms, part_terms, item_terms, element_copies, part_copies, item_copies}
use Rattle.gc_build_reading.specs.declared.terms.CopyOf.{CopyOf}
use Rattle.gc_build_reading.specs.declared.terms.TermOf.{TermOf}

-- what is said of variables so far
pub record Told : Type 0 where
  pub labels : List LabelOf
  pub assignments : List Assignment
  pub lost_labels : List LabelOf
  pub lost_properties : List PropertyOf
  pub terms : List TermOf
  pub copies : List CopyOf

-- a code, by which proofs tell them apart
pub told_code : Coded Told
told_code = hlevel (assignment_code, codes)

abbrev pub nothing : Told
nothing = record { labels = []; assignments = []; lost_labels = []; lost_properties = []; terms = []; copies = [] }

-- with what an element, a path that is stored, a part of a chain, a change and an item say
abbrev pub with_element : Scope → Told → Tree ANewElement → Told
with_element s t e = record t {
  labels = t.labels ++ element_labels s e;
  assignments = t.assignments ++ element_assignments s e;
  terms = t.terms ++ element_terms s e;
  copies = t.copies ++ element_copies s e;
}

abbrev pub with_stored : Scope → Told → Sym → (labels : List (List ℕ)) → Tree (RowOf AnAssign) → Told
with_stored s t x labels assigns = record t { labels = t.labels ++ labels_of x labels; assignments = t.assignments ++ assignments_of s x assigns }

abbrev pub with_part : Scope → Told → Tree AConstructPart → Told
with_part s t part = record t {
  labels = t.labels ++ part_labels s part;
  assignments = t.assignments ++ part_assignments s part;
  terms = t.terms ++ part_terms s part;
  copies = t.copies ++ part_copies s part;
}

abbrev pub with_parts : Scope → Told → Tree (RowOf AConstructPart) → Told
with_parts s t parts = record t {
  labels = t.labels ++ all_of (part_labels s) parts;
  assignments = t.assignments ++ all_of (part_assignments s) parts;
  terms = t.terms ++ all_of (part_terms s) parts;
  copies = t.copies ++ all_of (part_copies s) parts;
}

abbrev pub with_change : Scope → Told → Tree AChange → Told
with_change s t change = record t {
  labels = t.labels ++ change_labels s change;
  assignments = t.assignments ++ change_assignments s change;
  lost_labels = t.lost_labels ++ change_lost_labels s change;
  lost_properties = t.lost_properties ++ change_lost_properties s change;
}

abbrev pub with_changes : Scope → Told → Tree (RowOf AChange) → Told
with_changes s t changes = record t {
  labels = t.labels ++ all_of (change_labels s) changes;
  assignments = t.assignments ++ all_of (change_assignments s) changes;
  lost_labels = t.lost_labels ++ all_of (change_lost_labels s) changes;
  lost_properties = t.lost_properties ++ all_of (change_lost_properties s) changes;
}

abbrev pub with_item : Scope → Told → Tree AnItem → Told
with_item s t item = record {
  labels = t.labels ++ item_labels s item;
  assignments = t.assignments ++ item_assignments s item;
  lost_labels = t.lost_labels ++ item_lost_labels s item;
  lost_properties = t.lost_properties ++ item_lost_properties s item;
  terms = t.terms ++ item_terms s item;
  copies = t.copies ++ item_copies s item;
}

abbrev pub with_items : Scope → Told → Tree (RowOf AnItem) → Told
with_items s t items = record {
  labels = t.labels ++ all_of (item_labels s) items;
  assignments = t.assignments ++ all_of (item_assignments s) items;
  lost_labels = t.lost_labels ++ all_of (item_lost_labels s) items;
  lost_properties = t.lost_properties ++ all_of (item_lost_properties s) items;
  terms = t.terms ++ all_of (item_terms s) items;
  copies = t.copies ++ all_of (item_copies s) items;
}
