-- What a stored path and a chain say, by their parts.
use Rattle.std.proofs.Common.{◌≡◌, ℕ, List, ◌++◌, sym, append-nil, append_assoc}
use Rattle.gc_ast.specs.Trees as tree
use Rattle.gc_ast.specs.Trees.{Tree, Named, RowOf, AFormula, AConstructPart, AnAssign, AChange}
use Rattle.gc_sorts.specs.Uses.{all_of}
use Rattle.gc_lower.specs.Scopes.{Scope, variable_of}
use Rattle.gc_build_reading.specs.Items.{assignments_of, change_assignments, change_labels, change_lost_labels, change_lost_properties, labels_of, part_assignments, part_copies, part_labels, part_terms}
use Rattle.gc_build_reading.specs.ToldLists.{Told, with_changes, with_item, with_part, with_parts, with_stored}

pub stored_said : (s : Scope) (t : Told) (token : ℕ) (p : Named) (labels : List (List ℕ)) (assigns : Tree (RowOf AnAssign))
    → with_stored s t (variable_of s p.name) labels assigns ≡ with_part s t (tree.NewStored token p labels assigns)
stored_said s t token p labels assigns = λ i.
    record {
      labels = t.labels ++ labels_of (variable_of s p.name) labels;
      assignments = t.assignments ++ assignments_of s (variable_of s p.name) assigns;
      lost_labels = t.lost_labels;
      lost_properties = t.lost_properties;
      terms = sym (append-nil t.terms) i;
      copies = sym (append-nil t.copies) i;
    }

pub chain_said : (s : Scope) (t : Told) (parts : Tree (RowOf AConstructPart)) (changes : Tree (RowOf AChange)) (condition : Tree (RowOf AFormula))
    → with_changes s (with_parts s t parts) changes ≡ with_item s t (tree.ChainItem parts changes condition)
chain_said s t parts changes condition = λ i.
    record {
      labels = append_assoc t.labels (all_of (part_labels s) parts) (all_of (change_labels s) changes) i;
      assignments = append_assoc t.assignments (all_of (part_assignments s) parts) (all_of (change_assignments s) changes) i;
      lost_labels = t.lost_labels ++ all_of (change_lost_labels s) changes;
      lost_properties = t.lost_properties ++ all_of (change_lost_properties s) changes;
      terms = t.terms ++ all_of (part_terms s) parts;
      copies = t.copies ++ all_of (part_copies s) parts;
    }
