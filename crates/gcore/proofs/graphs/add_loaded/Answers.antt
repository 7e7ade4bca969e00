use Rattle.std.proofs.Common.{◌≡◌, ◌≤◌, ℕ, false, true, None, is_some, max, sym, ap, ◌∙◌, subst, arith}
use Rattle.std.specs.List.{AllByRecursion}
use Rattle.std.proofs.Math.Nat.{max-le, le-max_right}
use Rattle.gc_spec.specs.Coherence.{AreCoherent}
use Rattle.gc_spec.specs.PropertyGraph.{ids_of}
use Rattle.gc_catalog.specs.AddRefusals.{IsAddRefusal}
use Rattle.gc_catalog.specs.NamedGraphs.{NamedGraphs, number_of}
use Rattle.gcore.proofs.FreeAbove.{below_more, first_free_above}
use Rattle.gcore.proofs.graphs.add_loaded.Goals as goal

abbrev AtMost : ℕ → Type 0
AtMost n = n ≤ 9007199254740992

pub set_next-requires-clause-most : goal.set_next-requires-clause-most
set_next-requires-clause-most c =
    subst AtMost (sym c.max-free.ensures)
    (max-le (subst AtMost (sym c.next.ensures.next) c.next.ensures.valid.most) c.first_free.ensures.most)

pub add-requires-clause-coherent : goal.add-requires-clause-coherent
add-requires-clause-coherent c = subst (λ (k : NamedGraphs). AllByRecursion (λ h. AreCoherent h c.args.graph) k.graphs) (sym c.set_next.ensures) c.requires.coherent

pub add-requires-clause-below : goal.add-requires-clause-below
add-requires-clause-below c =
    let next : c.set_next.new.self.next ≡ c.max-free.result = ap (λ (k : NamedGraphs). k.next) c.set_next.ensures in
    let above : c.first_free.result ≤ c.set_next.new.self.next = omega (arith, next, c.max-free.ensures, le-max_right c.next.result c.first_free.result) in
    below_more c.first_free.result c.set_next.new.self.next (ids_of c.args.graph) above c.first_free.ensures.free.above

pub returns-in-Ok-clause-next : goal.returns-in-Ok-clause-next
returns-in-Ok-clause-next c =
    let set : c.set_next.new.self.next ≡ c.max-free.result = ap (λ (k : NamedGraphs). k.next) c.set_next.ensures in
    let free = first_free_above c.args.graph c.first_free.result c.first_free.ensures.free in
    ap (λ (k : NamedGraphs). k.next) c.in-Ok.ensures.added ∙ (set ∙ (c.max-free.ensures ∙ (λ j. max (c.next.ensures.next j) (free j))))

pub unreachable-requires : goal.unreachable-requires
unreachable-requires c =
    let names : c.set_next.new.self.names ≡ c.args.catalog.now.names = ap (λ (k : NamedGraphs). k.names) c.set_next.ensures in
    let none : number_of c.set_next.new.self.names c.in_ok-copy.field-0 ≡ None =
    ap (λ ns. number_of ns c.in_ok-copy.field-0) names ∙ (ap (number_of c.args.catalog.now.names) c.in_ok-copy.ensures ∙ c.requires.fresh) in
    let taken = subst (IsAddRefusal c.set_next.new.self c.in_ok-copy.field-0) c.in-Err-NameTaken.field-0-is c.in-Err-NameTaken.ensures.refused in
    let f : false ≡ true = sym (ap is_some none) ∙ taken in
    absurd (cc)
