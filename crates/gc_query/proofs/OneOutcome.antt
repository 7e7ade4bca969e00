-- A query, and a statement, come to one thing.
use Rattle.std.proofs.Common.{◌≡◌, ℕ, List, [], Option, Some, None, Result, Ok, Err, sym, ◌∙◌, subst, arith}
use Rattle.std.proofs.lemmas.Option.{same_Some}
use Rattle.gc_ast.specs.Trees.{Tree, AQuery, ATerm, AHead, ANextTerm, AStatement, ABasic, RowOf, Query, NextTerm, BasicTerm, GraphTerm, QueryTerm, PathHead, GraphHead, View, Ask, none, more}
use Rattle.gc_ast.specs.declared.query.SetOp.{SetOp}
use Rattle.gc_ast.specs.declared.query.SetOp.TheVariants as op
use Rattle.gc_build.specs.AllPaths.{Patterns}
use Rattle.gc_build.specs.Constructed.{IsBuilt}
use Rattle.gc_build.specs.declared.built.Built.{Built}
use Rattle.gc_build.proofs.OneClaims.{one_due}
use Rattle.gc_build_numbers.specs.Settings.{Setting}
use Rattle.gc_build_recipe.specs.Recipes.{Recipe}
use Rattle.gc_exec.specs.Runs.{setting}
use Rattle.gc_lower.specs.Blocks.{block_of}
use Rattle.gc_lower.specs.Scopes.{Scope}
use Rattle.gc_rows.specs.Tables.{Relation}
use Rattle.gc_spec.specs.PropertyGraph.{PropertyGraph}
use Rattle.gc_prod.specs.Segments.{Segments}
use Rattle.gc_sets.specs.Claims.{IsClaimed}
use Rattle.gc_query.specs.Basics.{Comes, ComesTo, DenotesBasic, OnTable, OverSegments, WithCosts, asked_of, patterns_of, read_on, token_of}
use Rattle.gc_query.specs.Costs.{costs_of, first_past}
use Rattle.gc_query.specs.Queries.{Combines, Denotes, DenotesTerm, Heads, Joined, Terms, with_made}
use Rattle.gc_query.specs.Sessions.{Answer, Answers, AnswersAsk, AnswersView}
use Rattle.gc_query.specs.Standings.{Standing, Made}
use Rattle.gc_query.specs.declared.fault.Fault.{Fault}
use Rattle.gc_query.specs.declared.costs.PastAt.{PastAt}
use Rattle.gc_query.specs.declared.fault.Fault.TheVariants.{BadCost, CostPastRange, Undefined, IdsSpent}
use Rattle.gc_query.proofs.OneView.{one_segments}
use Rattle.gc_query.proofs.Outcomes.{one_then}
use Rattle.gc_query.proofs.TablesMade.{one_table}
use Rattle.gc_query.proofs.OneGraph.{one_claimed, one_intersection, one_union}

-- graphs with the same next identity
abbrev made_as : Made → Result Made Fault
made_as made = Ok made

same_made : (a b : Made) → a.graph ≡ b.graph → a.next ≡ b.next → made_as a ≡ made_as b
same_made a b g n = λ i. Ok (record { graph = g i; next = n i })

module _ (s : Setting) (r : Recipe) (ps : Patterns) (next : ℕ) where
  -- the graph of what is claimed is one
  same_built : (a b : Built) → IsBuilt s r ps next a → IsBuilt s r ps next b → a.graph ≡ b.graph
  same_built a b p q =
      let claims : p.claims ≡ q.claims = one_due s r ps next p.claims q.claims p.due q.due in
      one_claimed q.claims a.graph b.graph (subst (λ c. IsClaimed c a.graph) claims p.graph) q.graph

  -- what a recipe comes to on a table is one outcome
  one_coming : (token : ℕ) (a b : Result Made Fault) → ComesTo s r ps next token a → ComesTo s r ps next token b → a ≡ b
  one_coming token (Ok a) (Ok b) p q =
      same_made a b (same_built (record { graph = a.graph; next = a.next }) (record { graph = b.graph; next = b.next }) p q) (p.after ∙ sym q.after)
  one_coming token (Ok a) (Err (Undefined at row why)) p q = let d = p.sound.defined in absurd (cc)
  one_coming token (Ok a) (Err (IdsSpent at needed)) p q = let room = p.sound.room in absurd (omega (arith, room, q.1.needs, q.1.spent))
  one_coming token (Err (Undefined at row why)) (Ok b) p q = let d = q.sound.defined in absurd (cc)
  one_coming token (Err (Undefined at row why)) (Err (Undefined at' row' why')) p q =
      let same = same_Some _ _ (sym p ∙ q) in
      λ i. Err (Undefined (same i).at (same i).row (same i).why)
  one_coming token (Err (Undefined at row why)) (Err (IdsSpent at' needed)) p q = let d = q.1.defined in absurd (cc)
  one_coming token (Err (IdsSpent at needed)) (Ok b) p q = let room = q.sound.room in absurd (omega (arith, room, p.1.needs, p.1.spent))
  one_coming token (Err (IdsSpent at needed)) (Err (Undefined at' row why)) p q = let d = p.1.defined in absurd (cc)
  one_coming token (Err (IdsSpent at needed)) (Err (IdsSpent at' needed')) p q =
      let there : at ≡ at' = p.0 ∙ sym q.0 in
      let many : needed ≡ needed' = p.1.needs ∙ sym q.1.needs in
      λ i. Err (IdsSpent (there i) (many i))
  one_coming token (Ok a) (Err (BadCost at walk)) p q = absurd q
  one_coming token (Ok a) (Err (CostPastRange at row)) p q = absurd q
  one_coming token (Err (Undefined at row why)) (Err (BadCost at' walk)) p q = absurd q
  one_coming token (Err (Undefined at row why)) (Err (CostPastRange at' row')) p q = absurd q
  one_coming token (Err (IdsSpent at needed)) (Err (BadCost at' walk)) p q = absurd q
  one_coming token (Err (IdsSpent at needed)) (Err (CostPastRange at' row)) p q = absurd q
  one_coming token (Err (BadCost at walk)) b p q = absurd p
  one_coming token (Err (CostPastRange at row)) b p q = absurd p

-- with its costs, and over the segments that its MATCH uses
one_with_costs : (o : Option PastAt) (IsDue : Result Made Fault → Type 0) (a b : Result Made Fault) → ((c d : Result Made Fault) → IsDue c → IsDue d → c ≡ d)
    → WithCosts o IsDue a → WithCosts o IsDue b → a ≡ b
one_with_costs (Some past) IsDue a b one p q = p ∙ sym q
one_with_costs None IsDue a b one p q = one a b p q

one_over : (s : Scope) (at : Standing) (basic : Tree ABasic) (segments : List Segments) (a b : Result Made Fault) → OverSegments s at basic segments a → OverSegments s at basic segments b → a ≡ b
one_over s at basic segments a b p q =
    let tables : p.table ≡ q.table = one_table (setting at.graphs segments (block_of s [] basic) []) p.table q.table p.matched q.matched in
    one_with_costs (first_past (costs_of s basic) q.table.rows) (Comes s at basic segments q.table) a b
    (λ c d h k. one_coming (read_on s at basic q.table) (asked_of s basic q.table) (patterns_of s basic segments) at.next (token_of basic) c d h k)
    (subst (λ (t : Relation). OnTable s at basic segments t a) tables p.made) q.made

-- a CONSTRUCT comes to one outcome
one_basic : (s : Scope) (at : Standing) (basic : Tree ABasic) (a b : Result Made Fault) → DenotesBasic s at basic a → DenotesBasic s at basic b → a ≡ b
one_basic s at basic a b p q =
    one_then p.segments q.segments (OverSegments s at basic) a b (one_segments s at.graphs (block_of s [] basic) p.segments q.segments p.used q.used)
    (λ segments c d h k. one_over s at basic segments c d h k) p.comes q.comes

-- two graphs are combined to one
one_graph : (a b : Made) → a.graph ≡ b.graph → a.next ≡ b.next → a ≡ b
one_graph a b g n = λ i. record { graph = g i; next = n i }

one_combined : (o : SetOp) (left : PropertyGraph) (right a b : Made) → Combines o left right a → Combines o left right b → a ≡ b
one_combined op.Union left right a b p q = one_graph a b (one_union left right.graph a.graph b.graph p.combined q.combined) (p.behind ∙ sym q.behind)
one_combined op.Intersect left right a b p q = one_graph a b (one_intersection left right.graph a.graph b.graph p.combined q.combined) (p.behind ∙ sym q.behind)
one_combined op.Minus left right a b p q = one_graph a b (p.combined ∙ sym q.combined) (p.behind ∙ sym q.behind)

mutual
  unfolding Denotes

  pub one_outcome : (s : Scope) (at : Standing) (query : Tree AQuery) (a b : Result Made Fault) → Denotes s at query a → Denotes s at query b → a ≡ b
  one_outcome s at (Query heads first rest) a b p q =
      one_then p.0 q.0 (λ now. Terms s now first rest) a b (one_under s at heads p.0 q.0 p.1 q.1)
      (λ now c d h k. one_then h.0 k.0 (λ made. Joined s now.graphs made rest) c d (one_term s now first h.0 k.0 h.1 k.1) (λ made x y f g. one_joined s now.graphs made rest x y f g) h.2 k.2) p.2 q.2

  one_under : (s : Scope) (at : Standing) (heads : Tree (RowOf AHead)) (a b : Result Standing Fault) → Heads s at heads a → Heads s at heads b → a ≡ b
  one_under s at none a b p q = p ∙ sym q
  one_under s at (more (PathHead name chains filter cost) heads) a b p q = one_under s at heads a b p q
  one_under s at (more (GraphHead name query) heads) a b p q =
      one_then p.0 q.0 (λ made. Heads s (with_made at made) heads) a b (one_outcome s at query p.0 q.0 p.1 q.1) (λ made c d h k. one_under s (with_made at made) heads c d h k) p.2 q.2

  one_term : (s : Scope) (at : Standing) (term : Tree ATerm) (a b : Result Made Fault) → DenotesTerm s at term a → DenotesTerm s at term b → a ≡ b
  one_term s at (BasicTerm basic) a b p q = one_basic s at basic a b p q
  one_term s at (GraphTerm g) a b p q = p ∙ sym q
  one_term s at (QueryTerm query) a b p q = one_outcome s at query a b p q

  one_joined : (s : Scope) (graphs : _) (left : Made) (rest : Tree (RowOf ANextTerm)) (a b : Result Made Fault) → Joined s graphs left rest a → Joined s graphs left rest b → a ≡ b
  one_joined s graphs left none a b p q = p ∙ sym q
  one_joined s graphs left (more (NextTerm o term) later) a b p q =
      one_then p.0 q.0 (λ made whole. (both : Made) × Combines o left.graph made both × Joined s graphs both later whole) a b
      (one_term s (record { graphs = graphs; next = left.next }) term p.0 q.0 p.1 q.1)
      (λ made c d h k. one_joined s graphs h.0 later c d h.2 (subst (λ (m : Made). Joined s graphs m later d) (sym (one_combined o left.graph made h.0 k.0 h.1 k.1)) k.2)) p.2 q.2

-- a statement comes to one answer
pub one_answer : (s : Scope) (at : Standing) (statement : Tree AStatement) (a b : Answer) → Answers s at statement a → Answers s at statement b → a ≡ b
one_answer s at (Ask query) a b p q = by p.0 a b p.2 (subst (λ o. AnswersAsk o b) (sym (one_outcome s at query p.0 q.0 p.1 q.1)) q.2)
  where
    by : (o : Result Made Fault) (x y : Answer) → AnswersAsk o x → AnswersAsk o y → x ≡ y
    by (Ok made) x y h k = h ∙ sym k
    by (Err fault) x y h k = h ∙ sym k
one_answer s at (View name query) a b p q = by p.0 a b p.2 (subst (λ o. AnswersView o b) (sym (one_outcome s at query p.0 q.0 p.1 q.1)) q.2)
  where
    by : (o : Result Made Fault) (x y : Answer) → AnswersView o x → AnswersView o y → x ≡ y
    by (Ok made) x y h k = h ∙ sym k
    by (Err fault) x y h k = h ∙ sym k
