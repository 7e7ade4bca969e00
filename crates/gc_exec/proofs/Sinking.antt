-- Rows that go into a sink.
use Rattle.std.proofs.Common.{◌≡◌, ◌↔◌, ◌⊎◌, inl, inr, ⊎_elim, true, false, Bool, List, [], ◌∷◌, ◌++◌, refl, sym, ap, ◌∙◌, subst, append_assoc, append-nil}
use Rattle.std.proofs.lemmas.List.{map-append}
use Rattle.std.specs.List.{Contains}
use Rattle.gc_rows.specs.Algebra.{projected, restricted}
use Rattle.gc_rows.specs.Tables.{Relation}
use Rattle.gc_rows.specs.declared.row.Binding.{Binding}
use Rattle.gc_rows.proofs.Members.{contains_here}
use Rattle.gc_exec.specs.Found.{AreExactly}
use Rattle.gc_exec.specs.Sinks.{IsFull, IsSunk}
use Rattle.gc_exec.specs.Sources.{HasGathered}
use Rattle.gc_exec.specs.declared.sink.Sink.{Sink}
use Rattle.gc_exec.specs.declared.sink.Sink.TheVariants as into
use Rattle.gc_exec.proofs.Lists.{of_append, to_left, to_right}
use Rattle.gc_exec.proofs.RowsOf.{no_member, only_member}

-- what is said otherwise of the same rows
gathered_so : (Holds Other : List Binding → Type 0) (old new : Relation) → ((u : List Binding) → Holds u ↔ Other u) → HasGathered (AreExactly Holds) old new → HasGathered (AreExactly Other) old new
gathered_so Holds Other old new same h = record {
  given = h.given;
  gives = record { sound = λ u m. (same u).0 (h.gives.sound u m); complete = λ u o. h.gives.complete u ((same u).1 o) };
  gathered = h.gathered;
}

pub sunk_so : (Holds Other : List Binding → Type 0) (old new : Sink) → ((u : List Binding) → Holds u ↔ Other u) → IsSunk Holds old new → IsSunk Other old new
sunk_so Holds Other (into.All old) (into.All new) same h = gathered_so Holds Other old new same h
sunk_so Holds Other (into.Any before) (into.Any after) same h = (
  λ e. ⊎_elim (λ b. inl b) (λ m. inr (m.0, (same m.0).0 m.1)) (h.0 e),
  λ m. h.1 (⊎_elim (λ b. inl b) (λ n. inr (n.0, (same n.0).1 n.1)) m),
)
sunk_so Holds Other (into.All old) (into.Any after) same h = h
sunk_so Holds Other (into.Any before) (into.All new) same h = h

-- no row, and a sink to which no more makes a difference
none_gathered : (Holds : List Binding → Type 0) (array : Relation) → ((u : List Binding) → Holds u → ⊥) → HasGathered (AreExactly Holds) array array
none_gathered Holds array none = record {
  given = [];
  gives = record { sound = λ u m. absurd (no_member u m); complete = λ u h. absurd (none u h) };
  gathered = ap (λ rs. record { schema = array.schema; rows = rs }) (sym (append-nil array.rows));
}

pub none_sunk : (Holds : List Binding → Type 0) (sink : Sink) → ((u : List Binding) → Holds u → ⊥) → IsSunk Holds sink sink
none_sunk Holds (into.All array) none = none_gathered Holds array none
none_sunk Holds (into.Any has) none = (λ e. inl e, ⊎_elim (λ e. e) (λ m. absurd (none m.0 m.1)))

pub full_sunk : (Holds : List Binding → Type 0) (sink : Sink) → IsFull sink → IsSunk Holds sink sink
full_sunk Holds (into.All array) full = absurd full
full_sunk Holds (into.Any has) full = (λ e. inl e, λ m. full)

-- some rows, and then others
both_gathered : (Whole First Later : List Binding → Type 0) (old middle new : Relation) → ((u : List Binding) → Whole u ↔ (First u ⊎ Later u))
    → HasGathered (AreExactly First) old middle → HasGathered (AreExactly Later) middle new → HasGathered (AreExactly Whole) old new
both_gathered Whole First Later old middle new both h more = record {
  given = h.given ++ more.given;
  gives = record {
    sound = λ u m. (both u).1 (⊎_elim (λ l. inl (h.gives.sound u l)) (λ r. inr (more.gives.sound u r)) (of_append h.given more.given u m));
    complete = λ u w. ⊎_elim (λ f. to_left h.given more.given u (h.gives.complete u f)) (λ l. to_right h.given more.given u (more.gives.complete u l)) ((both u).0 w);
  };
  gathered =
      more.gathered ∙ (ap (λ (m : Relation). record { schema = m.schema; rows = m.rows ++ projected m.schema more.given }) h.gathered
      ∙ ap (λ rs. record { schema = old.schema; rows = rs })
      (append_assoc old.rows (projected old.schema h.given) (projected old.schema more.given) ∙ ap (λ rs. old.rows ++ rs) (sym (map-append (restricted old.schema) h.given more.given))));
}

both_told : (Whole First Later : List Binding → Type 0) (a b c : Bool) → ((u : List Binding) → Whole u ↔ (First u ⊎ Later u)) → IsSunk First (into.Any a) (into.Any b) → IsSunk Later (into.Any b) (into.Any c) → IsSunk Whole (into.Any a) (into.Any c)
both_told Whole First Later a b c both h more = (
  λ e.
      ⊎_elim (λ seen. ⊎_elim (λ before. inl before) (λ m. inr (m.0, (both m.0).1 (inl m.1))) (h.0 seen))
      (λ m. inr (m.0, (both m.0).1 (inr m.1))) (more.0 e),
  ⊎_elim (λ before. more.1 (inl (h.1 (inl before))))
      (λ m. ⊎_elim (λ f. more.1 (inl (h.1 (inr (m.0, f))))) (λ l. more.1 (inr (m.0, l))) ((both m.0).0 m.1)),
)

pub both_sunk : (Whole First Later : List Binding → Type 0) (old middle new : Sink) → ((u : List Binding) → Whole u ↔ (First u ⊎ Later u)) → IsSunk First old middle → IsSunk Later middle new → IsSunk Whole old new
both_sunk Whole First Later (into.All old) (into.All middle) (into.All new) both h more = both_gathered Whole First Later old middle new both h more
both_sunk Whole First Later (into.Any old) (into.Any middle) (into.Any new) both h more = both_told Whole First Later old middle new both h more
both_sunk Whole First Later (into.All old) (into.All middle) (into.Any new) both h more = more
both_sunk Whole First Later (into.Any old) (into.Any middle) (into.All new) both h more = more
both_sunk Whole First Later (into.All old) (into.Any middle) new both h more = absurd h
both_sunk Whole First Later (into.Any old) (into.All middle) new both h more = absurd h

-- one row
pub row_gathered : (row : List Binding) (old new : Relation) → new ≡ record { schema = old.schema; rows = old.rows ++ restricted old.schema row ∷ [] } → HasGathered (AreExactly (λ u. row ≡ u)) old new
row_gathered row old new e = record {
  given = row ∷ [];
  gives = record { sound = λ u m. only_member row u m; complete = λ u same. subst (Contains (row ∷ [])) same (contains_here row []) };
  gathered = e;
}

pub row_told : (row : List Binding) (before after : Bool) → after ≡ true → IsSunk (λ u. row ≡ u) (into.Any before) (into.Any after)
row_told row before after e = (λ t. inr (row, refl), λ m. e)

-- all rows are in an array, and whether there is one is told
pub rows_in : (Holds : List Binding → Type 0) (old : Relation) (sink : Sink) (new : Relation) → sink ≡ into.All new → IsSunk Holds (into.All old) sink → HasGathered (AreExactly Holds) old new
rows_in Holds old sink new e h = subst (IsSunk Holds (into.All old)) e h

pub is_told : (Holds : List Binding → Type 0) (sink : Sink) → IsSunk Holds (into.Any false) sink → IsFull sink ↔ ((u : List Binding) × Holds u)
is_told Holds (into.All array) h = absurd h
is_told Holds (into.Any has) h = (λ full. ⊎_elim (λ e. cc e) (λ m. m) (h.0 full), λ m. h.1 (inr m))

-- some rows went into a sink: with what is to come behind them all went into it
pub record HaveSunk (Before After : List Binding → Type 0) (old new : Sink) : Type 0 where
  pub whole : (last : Sink) → IsSunk After new last → IsSunk Before old last

module _ (Before After : List Binding → Type 0) (old : Sink) where
  pub none_sent : ((u : List Binding) → Before u ↔ After u) → HaveSunk Before After old old
  none_sent same = record { whole = λ last h. sunk_so After Before old last (λ u. ((same u).1, (same u).0)) h }

  pub all_sent : (new : Sink) → HaveSunk Before After old new → ((u : List Binding) → After u → ⊥) → IsSunk Before old new
  all_sent new have none = have.whole new (none_sunk After new none)

  pub full_sent : (new : Sink) → HaveSunk Before After old new → IsFull new → IsSunk Before old new
  full_sent new have full = have.whole new (full_sunk After new full)

module _ (Before Middle After : List Binding → Type 0) (old : Sink) where
  pub more_sent : (Sent : List Binding → Type 0) (middle new : Sink) → HaveSunk Before Middle old middle → IsSunk Sent middle new → ((u : List Binding) → Middle u ↔ (Sent u ⊎ After u)) → HaveSunk Before After old new
  more_sent Sent middle new have sent both = record { whole = λ last h. have.whole last (both_sunk Middle Sent After middle new last both sent h) }

  pub still_sent : (new : Sink) → HaveSunk Before Middle old new → ((u : List Binding) → Middle u ↔ After u) → HaveSunk Before After old new
  still_sent new have same = record { whole = λ last h. have.whole last (sunk_so After Middle new last (λ u. ((same u).1, (same u).0)) h) }
