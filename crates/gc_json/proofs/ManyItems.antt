-- One more label or value of a long list, in a tree.
use Rattle.std.proofs.Common.{◌≡◌, ℕ, ◌+◌, ◌<◌, List, ◌∷◌, length, get_or, drop, Ok, sym, ap, ◌∙◌, subst}
use Rattle.std.proofs.lemmas.List.{drop_more}
use Rattle.std.specs.BTreeSet.{insert_key}
use Rattle.std.specs.Cmp.Lexicographic.{nat_list_cmp_total}
use Rattle.gc_base.specs.Ascending.{Ascends, with_item}
use Rattle.gc_base.specs.LiteralLaws.{literal_order_total, literal_order_exact, text_order_exact}
use Rattle.gc_base.specs.Literals.{literal_order, text_order}
use Rattle.gc_base.specs.declared.literal.Literal.{Literal}
use Rattle.serde_json.specs.View.{view, items_view}
use Rattle.serde_json.specs.declared.value.Value.{Value}
use Rattle.gc_json.specs.LabelLists.{label_of}
use Rattle.gc_json.specs.LiteralValues.{literal_of}
use Rattle.gc_json.specs.Reading.{◌>>=◌, or_refused}
use Rattle.gc_json.specs.declared.fault.Fault.TheVariants.{NotLiteral}
use Rattle.gc_json.proofs.Gathered.{labels_with, values_with}
use Rattle.gc_json.proofs.SortedSets.{insert_key-with_item, Ascends-insert_key}

next_value : (vs : List Value) (i : ℕ) (v : Value) → i < length vs → v ≡ get_or vs i v → drop i vs ≡ v ∷ drop (i + 1) vs
next_value vs i v within at = drop_more vs i v within ∙ ap (λ x. x ∷ drop (i + 1) vs) (sym at)

-- the keys still ascend, and with the rest they give what they gave
pub more_labels : (vs : List Value) (i : ℕ) (v : Value) (keys new : List (List ℕ)) (label : List ℕ) → i < length vs → v ≡ get_or vs i v
    → label_of (view v) ≡ Ok label → Ascends text_order keys → new ≡ insert_key text_order keys label
    → Ascends text_order new × (labels_with new (items_view (drop (i + 1) vs)) ≡ labels_with keys (items_view (drop i vs)))
more_labels vs i v keys new label within at read up inserted = (
  subst (Ascends text_order) (sym inserted) (Ascends-insert_key text_order nat_list_cmp_total text_order_exact keys label up),
  ap (λ ls. labels_with ls (items_view (drop (i + 1) vs))) (inserted ∙ insert_key-with_item text_order nat_list_cmp_total text_order_exact keys label up)
      ∙ sym
      (ap (λ xs. labels_with keys (items_view xs)) (next_value vs i v within at)
      ∙ ap (λ r. r >>= λ l. labels_with (with_item text_order keys l) (items_view (drop (i + 1) vs))) read),
)

pub more_values : (vs : List Value) (i : ℕ) (v : Value) (keys new : List Literal) (literal : Literal) → i < length vs → v ≡ get_or vs i v
    → or_refused NotLiteral (literal_of (view v)) ≡ Ok literal → Ascends literal_order keys → new ≡ insert_key literal_order keys literal
    → Ascends literal_order new × (values_with new (items_view (drop (i + 1) vs)) ≡ values_with keys (items_view (drop i vs)))
more_values vs i v keys new literal within at read up inserted = (
  subst (Ascends literal_order) (sym inserted) (Ascends-insert_key literal_order literal_order_total literal_order_exact keys literal up),
  ap (λ ls. values_with ls (items_view (drop (i + 1) vs))) (inserted ∙ insert_key-with_item literal_order literal_order_total literal_order_exact keys literal up)
      ∙ sym
      (ap (λ xs. values_with keys (items_view xs)) (next_value vs i v within at)
      ∙ ap (λ r. r >>= λ l. values_with (with_item literal_order keys l) (items_view (drop (i + 1) vs))) read),
)
