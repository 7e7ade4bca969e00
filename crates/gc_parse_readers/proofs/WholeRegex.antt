-- Whole regular path expressions.
use Rattle.std.proofs.Common.{◌≡◌, refl, sym, ap, ◌∙◌, ℕ, zero, suc, ◌+◌, ◌<◌, ◌≤◌, List, [], ◌∷◌, length, drop}
use Rattle.std.proofs.Math.ListN.{drop_of_length-le}
use Rattle.gc_lex.specs.declared.token.Token.{Token}
use Rattle.gc_regx.specs.Trees.{RegexTree, ARegex}
use Rattle.gc_grammar.specs.Words.{Point}
use Rattle.gc_parse_readers.specs.Readers.{Got, Stuck}
use Rattle.gc_grammar.specs.Regexes.{Expression, regex_within}
use Rattle.gc_grammar.specs.Queries.{SpellsRegex, start}
use Rattle.gc_parse_readers.specs.RegexReaders.{read_regex}
use Rattle.gc_parse_readers.specs.Points.{bare}
use Rattle.gc_parse_readers.specs.Refusals.{IsRefusedAt}
use Rattle.gc_parse_readers.proofs.FileViable.{regex_begins, regex_before}
use Rattle.gc_parse_readers.proofs.RegexRight.{regex_outline, right_regex}
use Rattle.gc_parse_readers.proofs.Whole.{whole_complete, whole_sound, whole_left, whole_stuck, stuck_within}
use native.Mathlib.Omega.{arith}

-- what is read to the end is the one tree
pub regex_found : (ts : List Token) (room end : ℕ) (e : Expression) → room ≡ length ts + 1 → length ts ≤ end → read_regex room start ts ≡ Got e (bare end) (drop end ts)
    → SpellsRegex ts e.tree × ((t : RegexTree ARegex) → SpellsRegex ts t → t ≡ e.tree)
regex_found ts room end e room_is over got =
    let all : read_regex room start ts ≡ Got e (bare end) [] = got ∙ ap (Got e (bare end)) (drop_of_length-le ts over) in
    let short : length ts < room = omega (arith, room_is) in (
      (bare end, e, whole_sound regex_within read_regex regex_outline right_regex ts room e (bare end) short all, refl),
      λ t spelled. sym spelled.3 ∙ sym (ap (λ x. x.tree) (same e spelled.1 (bare end) spelled.0
          (sym all ∙ whole_complete regex_within read_regex regex_outline right_regex ts room spelled.1 spelled.0 short spelled.2))),
    )
  where
    same : (a b : Expression) (p q : Point) → Got a p [] ≡ Got b q [] → a ≡ b
    same a b p q h = cc

not_empty : (ts : List Token) (end : ℕ) → end < length ts → drop end ts ≡ [] → ⊥
not_empty [] end h none = omega (arith, h)
not_empty (t ∷ ts) zero h none = cc
not_empty (t ∷ ts) (suc end) h none = not_empty ts end (omega (arith, h)) none

-- tokens that are left over are refused with the first of them
pub regex_left : (ts : List Token) (room end : ℕ) (e : Expression) → room ≡ length ts + 1 → end < length ts → read_regex room start ts ≡ Got e (bare end) (drop end ts)
    → IsRefusedAt SpellsRegex ts end
regex_left ts room end e room_is under got = (
  omega (arith, under),
  regex_before room end ts (drop end ts) e (omega (arith, room_is)) got,
  λ us t same spelled.
      whole_left regex_within read_regex regex_outline right_regex ts room e (bare end) (drop end ts) (omega (arith, room_is)) got (not_empty ts end under)
      us spelled.1 spelled.0 same spelled.2,
)

-- what is not read is refused where it is stuck
pub regex_stuck : (ts : List Token) (room k : ℕ) → room ≡ length ts + 1 → read_regex room start ts ≡ Stuck k
    → IsRefusedAt SpellsRegex ts k
regex_stuck ts room k room_is stuck = (
  stuck_within regex_within read_regex regex_outline right_regex ts room k (omega (arith, room_is)) stuck,
  regex_begins room k ts (omega (arith, room_is)) stuck,
  λ us t same spelled. whole_stuck regex_within read_regex regex_outline right_regex ts room k (omega (arith, room_is)) stuck us spelled.1 spelled.0 same spelled.2,
)

-- a list spells one tree
pub regex_alone : (ts : List Token) (a b : RegexTree ARegex) → SpellsRegex ts a → SpellsRegex ts b → a ≡ b
regex_alone ts a b one other =
    let room = suc (length ts) in
    sym one.3
    ∙ ap (λ x. x.tree) (same one.1 other.1 one.0 other.0
    (sym (whole_complete regex_within read_regex regex_outline right_regex ts room one.1 one.0 (omega arith) one.2)
    ∙ whole_complete regex_within read_regex regex_outline right_regex ts room other.1 other.0 (omega arith) other.2))
    ∙ other.3
  where
    same : (a b : Expression) (p q : Point) → Got a p [] ≡ Got b q [] → a ≡ b
    same a b p q h = cc
