-- What a statement does to what stands, by what its query comes to.
use Rattle.std.proofs.Common.{◌≡◌, ◌<◌, ℕ, zero, suc, List, [], ◌∷◌, map, length, get_or, Option, Some, Result, Ok, Err, refl, sym, ap, subst, ◌∙◌, slice_get}
use Rattle.std.specs.List.{AllByRecursion}
use Rattle.std.specs.Result.{IsErr, IsErrAnd}
use Rattle.gc_ast.specs.QueryViews.{query_tree, statement_tree}
use Rattle.gc_ast.specs.Trees.{Tree, AQuery, AStatement, Ask, View}
use Rattle.gc_ast.specs.Trees as tree
use Rattle.gc_ast.specs.declared.query.Query.{Query}
use Rattle.gc_ast.specs.declared.query.Statement.{Statement}
use Rattle.gc_ast.specs.declared.query.Statement.TheVariants as statement
use Rattle.gc_base.specs.declared.place.NameAt.{NameAt}
use Rattle.gc_catalog.specs.NamedGraphs.{NamedGraphs}
use Rattle.gc_expr.specs.Views.{Names}
use Rattle.gc_lower.specs.Scopes.{Scope}
use Rattle.gc_spec.specs.PropertyGraph.{PropertyGraph}
use Rattle.gc_query.specs.Answered.{IsRefused}
use Rattle.gc_query.specs.Built.{IsBuilt}
use Rattle.gc_query.specs.Queries.{Denotes}
use Rattle.gc_query.specs.Sessions.{Answers, Fails, Names as NamesGraph, Prints}
use Rattle.gc_query.specs.Standings.{Made, Standing}
use Rattle.gc_query.specs.Steps.{IsStep, standing}
use Rattle.gc_query.specs.declared.fault.Fault.{Fault}
use Rattle.gc_query.specs.declared.fault.QueryRefusal.{QueryRefusal}
use Rattle.gc_query.specs.declared.fault.QueryRefusal.TheVariants as refusal
use Rattle.gc_query.proofs.AllOf.{got}

-- a statement that is refused leaves the catalog as it was
module _ (s : Scope) (before after : NamedGraphs) (kept : after ≡ before) (statement : Tree AStatement) (IsPart : Fault → Type 0)
    (fails : (fault : Fault) → IsPart fault → Answers s (standing before) statement (Fails fault)) where
  told : (r : QueryRefusal) → IsRefused IsPart r → IsStep s before after statement (Err r)
  told (refusal.Fault fault) h = (fails fault h, kept)
  told refusal.Memory h = kept

  pub step_refused : (result : Result (Option PropertyGraph) QueryRefusal) (r : QueryRefusal) → IsErr result → IsErrAnd result (λ other. other ≡ r) → IsRefused IsPart r → IsStep s before after statement result
  step_refused (Ok printed) r err same h = absurd same
  step_refused (Err other) r err same h = subst (λ x. IsStep s before after statement (Err x)) (sym same) (told r h)

-- what a statement answers, by what its query comes to
module _ (s : Scope) (at : Standing) (query : Tree AQuery) where
  pub ask_fails : (fault : Fault) → Denotes s at query (Err fault) → Answers s at (Ask query) (Fails fault)
  ask_fails fault d = (Err fault, d, refl)

  pub ask_prints : (made : Made) → Denotes s at query (Ok made) → Answers s at (Ask query) (Prints made)
  ask_prints made d = (Ok made, d, refl)

  module _ (name : tree.Named) where
    pub view_fails : (fault : Fault) → Denotes s at query (Err fault) → Answers s at (View name query) (Fails fault)
    view_fails fault d = (Err fault, d, refl)

    pub view_names : (made : Made) → Denotes s at query (Ok made) → Answers s at (View name query) (NamesGraph made)
    view_names made d = (Ok made, d, refl)

-- which statements are built
module _ (s : Scope) (names : Names) where
  pub ask_built : (x : Statement) (q : Query) → x ≡ statement.Ask q → IsBuilt s (statement_tree names x) → IsBuilt s (query_tree names q)
  unfolding IsBuilt
  ask_built x q is h = subst (λ y. IsBuilt s (statement_tree names y)) is h

  pub view_built : (x : Statement) (name : NameAt) (q : Query) → x ≡ statement.View name q → IsBuilt s (statement_tree names x) → IsBuilt s (query_tree names q)
  unfolding IsBuilt
  view_built x name q is h = subst (λ y. IsBuilt s (statement_tree names y)) is h

one_of : {X : Type 0} (P : X → Type 0) (xs : List X) (i : ℕ) (x : X) → slice_get xs i ≡ Some x → AllByRecursion P xs → P x
one_of P [] i x at h = cc
one_of P (y ∷ ys) zero x at h = let e : y ≡ x = cc in subst P e h.0
one_of P (y ∷ ys) (suc i) x at h = one_of P ys i x at h.1

mapped_at : {X Y : Type 0} (f : X → Y) (xs : List X) (i : ℕ) (x : X) → slice_get xs i ≡ Some x → slice_get (map f xs) i ≡ Some (f x)
mapped_at f [] i x at = cc
mapped_at f (y ∷ ys) zero x at = let e : y ≡ x = cc in ap (λ z. Some (f z)) e
mapped_at f (y ∷ ys) (suc i) x at = mapped_at f ys i x at

some_same : {X : Type 0} (x y : X) → Some x ≡ Some y → x ≡ y
some_same x y h = cc

module _ (s : Scope) (names : Names) (statements : List Statement) (i : ℕ) (x : Statement) (there : i < length statements) (is : x ≡ get_or statements i x) where
  -- the statement of a number is built, where all are; and it is the statement there
  pub statement_built : AllByRecursion (IsBuilt s) (map (statement_tree names) statements) → IsBuilt s (statement_tree names x)
  statement_built h = one_of (IsBuilt s) (map (statement_tree names) statements) i (statement_tree names x) (mapped_at (statement_tree names) statements i x (got statements i x there is)) h

  pub statement_is : (t : Tree AStatement) → slice_get (map (statement_tree names) statements) i ≡ Some t → statement_tree names x ≡ t
  statement_is t at = some_same (statement_tree names x) t (sym (mapped_at (statement_tree names) statements i x (got statements i x there is)) ∙ at)
