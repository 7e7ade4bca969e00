-- What stands under heads, one head after another.
use Rattle.std.proofs.Common.{◌≡◌, Result, Ok, Err, refl, sym, subst}
use Rattle.gc_ast.specs.Trees.{Tree, AFormula, AHead, APattern, AQuery, RowOf, Named, PathHead, GraphHead, none, more}
use Rattle.gc_lower.specs.Scopes.{Scope}
use Rattle.gc_query.specs.Queries.{Denotes, Heads, with_made}
use Rattle.gc_query.specs.Standings.{Standing, Made}
use Rattle.gc_query.specs.declared.fault.Fault.{Fault}

abbrev under_as : Standing → Result Standing Fault
under_as at = Ok at

same_ok : (a b : Standing) → under_as a ≡ Ok b → a ≡ b
same_ok a b h = cc

not_both : (a : Standing) (fault : Fault) → under_as a ≡ Err fault → ⊥
not_both a fault h = cc

module _ (s : Scope) where
  -- no head
  pub no_heads : (at : Standing) → Heads s at none (Ok at)
  unfolding Denotes
  no_heads at = refl

  -- a head that declares a view, which is evaluated where it is used
  pub names_view : (at : Standing) (name : Named) (chains : Tree (RowOf (RowOf APattern))) (filter cost : Tree (RowOf AFormula)) → Heads s at (more (PathHead name chains filter cost) none) (Ok at)
  unfolding Denotes
  names_view at name chains filter cost = refl

  -- a head that names the graph of a query, and one whose query has a fault
  pub names_graph : (at : Standing) (name : Named) (query : Tree AQuery) (made : Made) (under : Result Standing Fault) → Denotes s at query (Ok made) → under ≡ Ok (with_made at made)
      → Heads s at (more (GraphHead name query) none) under
  unfolding Denotes
  names_graph at name query made under d e = (Ok made, d, e)

  pub graph_fails : (at : Standing) (name : Named) (query : Tree AQuery) (fault : Fault) → Denotes s at query (Err fault) → Heads s at (more (GraphHead name query) none) (Err fault)
  unfolding Denotes
  graph_fails at name query fault d = (Err fault, d, refl)

  -- a head and those behind it
  pub goes_on : (at now : Standing) (head : Tree AHead) (later : Tree (RowOf AHead)) (under : Result Standing Fault) → Heads s at (more head none) (Ok now) → Heads s now later under
      → Heads s at (more head later) under
  unfolding Denotes
  goes_on at now (PathHead name chains filter cost) later under h k = subst (λ st. Heads s st later under) (same_ok now at h) k
  goes_on at now (GraphHead name query) later under (Ok made, d, t) k = (Ok made, d, subst (λ st. Heads s st later under) (same_ok now (with_made at made) t) k)
  goes_on at now (GraphHead name query) later under (Err fault, d, t) k = absurd (not_both now fault t)

  pub head_fails : (at : Standing) (head : Tree AHead) (later : Tree (RowOf AHead)) (fault : Fault) → Heads s at (more head none) (Err fault) → Heads s at (more head later) (Err fault)
  unfolding Denotes
  head_fails at (PathHead name chains filter cost) later fault h = absurd (not_both at fault (sym h))
  head_fails at (GraphHead name query) later fault (Ok made, d, t) = absurd (not_both (with_made at made) fault (sym t))
  head_fails at (GraphHead name query) later fault (Err other, d, t) = (Err other, d, t)
