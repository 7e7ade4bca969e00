-- Numbers that are drawn one after another from a start, by a linear congruence.
use Rattle.std.specs.Prelude.{ℕ, zero, suc, ◌+◌, ◌*◌, ◌/◌, ◌%◌}

-- Take the start 0: the first number that is drawn is 12345.

abbrev pub next_draw : ℕ → ℕ
next_draw x = (1103515245 * x + 12345) % 2147483648

-- the number that is drawn in the k-th place; in place 0 stands the start
abbrev pub draw : (start k : ℕ) → ℕ
draw start zero = start
draw start (suc k) = next_draw (draw start k)

-- the node among n that a drawn number stands for: its upper bits, as the lower ones repeat soon
abbrev pub drawn_node : (n x : ℕ) → ℕ
drawn_node n x = (x / 65536) % n
