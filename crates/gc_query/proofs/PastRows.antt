-- The first row on which a variable is past the range, row by row.
use Rattle.std.proofs.Common.{◌≡◌, ℕ, ◌+◌, ◌≤◌, Bool, true, false, cond, List, length, drop, slice_get, Some, None, sym, ap, ◌∙◌}
use Rattle.std.proofs.lemmas.List.{at_drop_all}
use Rattle.gc_base.specs.declared.place.Sym.{Sym}
use Rattle.gc_rows.specs.Rows.{datum_at}
use Rattle.gc_rows.specs.declared.row.Binding.{Binding}
use Rattle.gc_query.specs.Costs.{is_past, past_from}
use Rattle.gc_query.proofs.AllOf.{drop_at}

module _ (x : Sym) (rows : List (List Binding)) (n : ℕ) (before : past_from n x (drop n rows) ≡ past_from 0 x rows) where
  -- on a row, and behind it
  module _ (row : List Binding) (at : slice_get rows n ≡ Some row) (past : Bool) (is : past ≡ is_past (datum_at row x)) where
    decided : cond past (Some n) (past_from (n + 1) x (drop (n + 1) rows)) ≡ past_from 0 x rows
    decided =
        ap (λ b. cond b (Some n) (past_from (n + 1) x (drop (n + 1) rows))) is ∙ (sym (ap (past_from n x) (drop_at rows n row at)) ∙ before)

    pub past_here : past ≡ true → Some n ≡ past_from 0 x rows
    past_here h = ap (λ b. cond b (Some n) (past_from (n + 1) x (drop (n + 1) rows))) (sym h) ∙ decided

    pub past_later : past ≡ false → past_from (n + 1) x (drop (n + 1) rows) ≡ past_from 0 x rows
    past_later h = ap (λ b. cond b (Some n) (past_from (n + 1) x (drop (n + 1) rows))) (sym h) ∙ decided

  -- behind all rows
  pub past_nowhere : length rows ≤ n → None ≡ past_from 0 x rows
  past_nowhere all = sym (at_drop_all (past_from n x) rows n all) ∙ before
