-- Whole regular path expressions: what their reader gives is due.
use Rattle.std.proofs.Common.{◌≡◌, refl, sym, ap, subst, ◌∙◌, ℕ, zero, suc, ◌+◌, ◌<◌, ◌≤◌, List, [], ◌∷◌, length, drop, Result, Ok, Err}
use Rattle.std.proofs.Math.ListN.{drop_of_length-le}
use Rattle.gc_lex.specs.declared.token.Token.{Token}
use Rattle.gc_regx.specs.declared.regex.Regex.{Regex}
use Rattle.gc_regx.specs.Views.{regex_tree}
use Rattle.gc_expr.specs.Views.{Names}
use Rattle.gc_grammar.specs.Queries.{SpellsRegex, start}
use Rattle.gc_grammar.specs.Regexes.{Expression}
use Rattle.gc_parse_readers.specs.Points.{bare}
use Rattle.gc_parse_readers.specs.Readers.{Got, Stuck}
use Rattle.gc_parse_readers.specs.RegexReaders.{read_regex}
use Rattle.gc_parse_readers.proofs.WholeRegex.{regex_stuck}
use Rattle.gc_parse_source.specs.declared.refusal.Refusal.{Refusal}
use Rattle.gc_parse_source.specs.declared.refusal.Refusal.TheVariants as refusal
use Rattle.gc_parse_source.specs.Results.{Gives}
use Rattle.gc_parse_patterns.specs.RegexViews.{part_view}
use Rattle.gc_parse.specs.declared.refusal.ParseRefusal.TheVariants as whole
use Rattle.gc_parse.specs.Parses.{IsDueWhole, IsWhole, read_expression}
use native.Mathlib.Omega.{arith}

-- an expression that is read to the end is due
pub regex_due : (ts : List Token) (room end : ℕ) (e : Expression) → room ≡ length ts + 1 → length ts ≤ end → read_regex room start ts ≡ Got e (bare end) (drop end ts)
    → read_expression (read_regex (length ts + 1) start ts) ≡ Ok e.tree
regex_due ts room end e room_is over got =
    ap read_expression
    (subst (λ n. read_regex n start ts ≡ Got e (bare end) (drop end ts)) room_is got ∙ ap (Got e (bare end)) (drop_of_length-le ts over))

some_left : (e : Expression) (n : ℕ) (ts : List Token) (end : ℕ) → end < length ts → read_expression (Got e (bare n) (drop end ts)) ≡ Err (whole.Syntax n)
some_left e n [] end h = absurd (omega (arith, h))
some_left e n (t ∷ ts) zero h = refl
some_left e n (t ∷ ts) (suc end) h = some_left e n ts end (omega (arith, h))

-- where tokens are left over, the first of them is due
pub regex_left_due : (ts : List Token) (room end : ℕ) (e : Expression) → room ≡ length ts + 1 → end < length ts → read_regex room start ts ≡ Got e (bare end) (drop end ts)
    → read_expression (read_regex (length ts + 1) start ts) ≡ Err (whole.Syntax end)
regex_left_due ts room end e room_is under got =
    ap read_expression (subst (λ n. read_regex n start ts ≡ Got e (bare end) (drop end ts)) room_is got) ∙ some_left e end ts end under

-- what is not read is refused where the reader is stuck
pub regex_exits : (names : Names) (ts : List Token) (room : ℕ) (refused : Refusal) (result : Result Regex Refusal) → room ≡ length ts + 1
    → (x : Refusal) × (result ≡ Err x) × (x ≡ refused) → Gives (part_view names) ts (Err refused) (read_regex room start ts)
    → IsWhole SpellsRegex regex_tree ts result × IsDueWhole regex_tree (read_expression (read_regex (length ts + 1) start ts)) result
regex_exits names ts room (refusal.Syntax k) result room_is exit stuck =
    subst (λ r. IsWhole SpellsRegex regex_tree ts r × IsDueWhole regex_tree (read_expression (read_regex (length ts + 1) start ts)) r) (sym (exit.1 ∙ ap Err exit.2)) (
      regex_stuck ts room k room_is stuck,
      ap read_expression (subst (λ n. read_regex n start ts ≡ Stuck k) room_is stuck),
    )
regex_exits names ts room refusal.Memory result room_is exit stuck =
    subst (λ r. IsWhole SpellsRegex regex_tree ts r × IsDueWhole regex_tree (read_expression (read_regex (length ts + 1) start ts)) r) (sym (exit.1 ∙ ap Err exit.2)) (tt, tt)
