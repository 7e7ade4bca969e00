-- What brackets may hold, where there is room.
use Rattle.std.proofs.Common.{◌≡◌, refl, ap, ℕ, zero, suc, ◌<◌, ◌-◌}
use Rattle.gc_parse_readers.specs.Readers.{stuck}
use Rattle.gc_parse_readers.specs.ExpressionReaders.{read_expr}
use Rattle.gc_parse_readers.specs.QueryReaders.{nested, read_query}
use Rattle.gc_parse_readers.specs.RegexReaders.{read_regex, read_alt}
use native.Mathlib.Omega.{arith}

pub expression_with_room : (room : ℕ) → 0 < room → (nested room).expr ≡ read_expr room (nested (room - 1))
unfolding nested
expression_with_room zero h = absurd (omega (arith, h))
expression_with_room (suc room) h = ap (λ r. read_expr (suc room) (nested r)) {x = room} {y = suc room - 1} (omega arith)

pub expression_without_room : (room : ℕ) → room ≡ 0 → (nested room).expr ≡ stuck
unfolding nested
expression_without_room zero h = refl
expression_without_room (suc room) h = absurd (omega (arith, h))

pub query_with_room : (room : ℕ) → 0 < room → (nested room).query ≡ read_query room (nested (room - 1))
unfolding nested
query_with_room zero h = absurd (omega (arith, h))
query_with_room (suc room) h = ap (λ r. read_query (suc room) (nested r)) {x = room} {y = suc room - 1} (omega arith)

pub query_without_room : (room : ℕ) → room ≡ 0 → (nested room).query ≡ stuck
unfolding nested
query_without_room zero h = refl
query_without_room (suc room) h = absurd (omega (arith, h))

pub regex_with_room : (room : ℕ) → 0 < room → read_regex room ≡ read_alt room (read_regex (room - 1))
unfolding read_regex
regex_with_room zero h = absurd (omega (arith, h))
regex_with_room (suc room) h = ap (λ r. read_alt (suc room) (read_regex r)) {x = room} {y = suc room - 1} (omega arith)
