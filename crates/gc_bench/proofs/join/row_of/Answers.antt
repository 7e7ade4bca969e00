use Rattle.std.proofs.Common.{◌≡◌, ◌==◌, ◌||◌, true, false, [], ◌∷◌, List, sym, subst, ℕ, arith}
use Rattle.std.proofs.lemmas.Bool.Decides.{nat_tests}
use Rattle.gc_base.specs.declared.place.Sym.{Sym}
use Rattle.gc_rows.specs.declared.row.Binding.{Binding}
use Rattle.gc_rows.specs.Rows.{IsOver, bind}
use Rattle.gc_rows.proofs.AlgebraLaws.{IsOver-bind}
use Rattle.gc_bench.proofs.join.row_of.Goals as goal

first_listed : (m n : ℕ) → ((m == m) || ((n == m) || false)) ≡ true
first_listed m n = grind (arith, nat_tests)

second_listed : (m n : ℕ) → ((m == n) || ((n == n) || false)) ≡ true
second_listed m n = grind (arith, nat_tests)

pub returns : goal.returns
returns c =
    let schema : List Sym = c.args.first ∷ c.args.second ∷ [] in
    let one : Binding = record { var = c.args.first; datum = c.node.result } in
    let two : Binding = record { var = c.args.second; datum = c.node-2.result } in
    let bound : c.put.new.self ≡ bind [] one = cc (c.in_ok-put.ensures.ok, c.in_ok-row.ensures) in
    let over : IsOver schema c.put.new.self = subst (IsOver schema) (sym bound) (IsOver-bind schema [] one tt (first_listed c.args.first.0 c.args.second.0)) in
    subst (IsOver schema) (sym c.in_ok-put-2.ensures.ok) (IsOver-bind schema c.put.new.self two over (second_listed c.args.first.0 c.args.second.0))
