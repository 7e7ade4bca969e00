use Rattle.std.proofs.Common.{◌≡◌, Err, Ok, List, [], ◌∷◌, None, ap, refl, sym, subst, ◌∙◌}
use Rattle.gc_alg.specs.Tables.{IsTableOfBlock}
use Rattle.gc_alg.specs.Trees.{Tree, ABlock}
use Rattle.gc_exec.specs.Runs.{setting}
use Rattle.gc_lower.specs.Blocks.{block_of}
use Rattle.gc_spec.specs.PropertyGraph.{PropertyGraph}
use Rattle.gc_ast.specs.QueryViews.{basic_tree}
use Rattle.gc_cert_searches.specs.Patterns.{AreOnly}
use Rattle.gc_alg.specs.Views.{block_tree}
use Rattle.gc_expr.specs.Views.{Names}
use Rattle.gc_lower.specs.Scopes.{Scope}
use Rattle.gc_query.specs.Answered.{names_in, scope_in}
use Rattle.gc_query.specs.Basics.{Comes, DenotesBasic}
use Rattle.gc_query.specs.Built.{are_searched}
use Rattle.gc_query.specs.Costs.{costs_of, first_past}
use Rattle.gc_query.specs.Evaluations.{evaluation}
use Rattle.gc_query.specs.Logs.{IsToldOf}
use Rattle.gc_query.specs.Segments.{HasSegments}
use Rattle.gc_sorts.specs.Blocks.{MatchBlock}
use Rattle.gc_query.proofs.BlocksFound.{construct_at}
use Rattle.gc_query.proofs.EvaluationLaws.{always, told_of}
use Rattle.gc_query.specs.declared.costs.CostAt.{CostAt}
use Rattle.gc_query.specs.Standings.{Standing}
use Rattle.gc_query.proofs.BasicsMade.{cost_fails, costs_fit, view_fails}
use Rattle.gc_query.proofs.Outcomes.{passes_on, refused}
use Rattle.gc_query.proofs.basics.basic_made.Goals as goal

pub table_of-requires-clause-searched : goal.table_of-requires-clause-searched
table_of-requires-clause-searched g c = ap are_searched (c.in_ok-lowered.ensures (MatchBlock (basic_tree (names_in c.args.session.now) c.args.basic.now)) c.requires.built.numbered (construct_at (names_in c.args.session.now) c.args.basic.now)).is_block ∙ c.requires.built.searched

pub table_made-requires-clause-block : goal.table_made-requires-clause-block
table_made-requires-clause-block g c = (c.in_ok-lowered.ensures (MatchBlock (basic_tree (names_in c.args.session.now) c.args.basic.now)) c.requires.built.numbered (construct_at (names_in c.args.session.now) c.args.basic.now)).is_block

pub table_made-requires-clause-matched : goal.table_made-requires-clause-matched
table_made-requires-clause-matched g c = c.in_ok-table.ensures

pub tell-requires-clause-searched : goal.tell-requires-clause-searched
tell-requires-clause-searched g c = ap are_searched (c.in_ok-lowered.ensures (MatchBlock (basic_tree (names_in c.args.session.now) c.args.basic.now)) c.requires.built.numbered (construct_at (names_in c.args.session.now) c.args.basic.now)).is_block ∙ c.requires.built.searched

pub tell-requires-clause-only : goal.tell-requires-clause-only
tell-requires-clause-only g c = subst AreOnly (sym (c.in_ok-lowered.ensures (MatchBlock (basic_tree (names_in c.args.session.now) c.args.basic.now)) c.requires.built.numbered (construct_at (names_in c.args.session.now) c.args.basic.now)).is_block) c.requires.built.only

pub tell-requires-clause-matched : goal.tell-requires-clause-matched
tell-requires-clause-matched g c = c.in_ok-table.ensures

-- what was evaluated was told
pub returns-clause-told : goal.returns-clause-told
returns-clause-told g c =
    let s : Scope = scope_in c.args.session.now in
    let names : Names = names_in c.args.session.now in
    let tree = basic_tree names c.args.basic.now in
    let is : block_tree c.in_ok-lowered.lowered.block ≡ block_of s [] tree = (c.in_ok-lowered.ensures (MatchBlock (basic_tree (names_in c.args.session.now) c.args.basic.now)) c.requires.built.numbered (construct_at (names_in c.args.session.now) c.args.basic.now)).is_block in
    let graphs : List PropertyGraph = c.args.graphs.now in
    let all = evaluation tree c.args.named.now.names graphs c.in_ok-segments.segments c.in_ok-table.table ∷ [] in
    always c.table_made.result _ (
      all,
      (
        c.in_ok-segments.segments,
        c.in_ok-table.table,
        record {
          used = subst (λ (b : Tree ABlock). HasSegments s graphs b (Ok c.in_ok-segments.segments)) is c.in_ok-segments.ensures.due;
          matched = subst (λ (b : Tree ABlock). IsTableOfBlock (setting graphs c.in_ok-segments.segments b []) c.in_ok-table.table) is c.in_ok-table.ensures;
        },
        refl,
      ),
      told_of s c.args.told.now c.tell.new.told tree c.args.named.now.names graphs c.in_ok-segments.segments c.in_ok-table.table
          (subst (λ (b : Tree ABlock). IsToldOf s c.args.named.now.names graphs b c.in_ok-segments.segments c.in_ok-table.table c.args.told.now c.tell.new.told) is c.in_ok-tell.ensures),
    )

pub returns-in_err-segments-clause-due : goal.returns-in_err-segments-clause-due
returns-in_err-segments-clause-due g c =
    let s : Scope = scope_in c.args.session.now in
    let names : Names = names_in c.args.session.now in
    let at : Standing = record { graphs = c.args.graphs.now; next = c.args.next } in
    refused (λ fault. HasSegments s at.graphs (block_tree c.in_ok-lowered.lowered.block) (Err fault)) c.in_err-segments.field-0.0 c.in_err-segments.ensures.due
    (DenotesBasic s at (basic_tree names c.args.basic.now)) c.from_residual-in_err-segments.result c.from_residual-in_err-segments.ensures.0 c.from_residual-in_err-segments.ensures.1
    (λ fault h. view_fails s names at c.args.basic.now c.in_ok-lowered.lowered.block (c.in_ok-lowered.ensures (MatchBlock (basic_tree (names_in c.args.session.now) c.args.basic.now)) c.requires.built.numbered (construct_at (names_in c.args.session.now) c.args.basic.now)).is_block fault h)

pub returns-in-Some-clause-due : goal.returns-in-Some-clause-due
returns-in-Some-clause-due g c =
    let s : Scope = scope_in c.args.session.now in
    let names : Names = names_in c.args.session.now in
    let at : Standing = record { graphs = c.args.graphs.now; next = c.args.next } in
    cost_fails s names at c.args.basic.now c.in_ok-lowered.lowered.block (c.in_ok-lowered.ensures (MatchBlock (basic_tree (names_in c.args.session.now) c.args.basic.now)) c.requires.built.numbered (construct_at (names_in c.args.session.now) c.args.basic.now)).is_block c.in_ok-segments.segments
    c.in_ok-segments.ensures.due
    c.in_ok-table.table c.in_ok-table.ensures c.in-Some.past
    (sym (c.first_past.ensures ∙ ap (λ (costs : List CostAt). first_past costs c.in_ok-table.table.rows) (c.deref.ensures.value ∙ c.in_ok-costs.ensures)) ∙ c.in-Some.is)

pub returns-clause-due : goal.returns-clause-due
returns-clause-due g c =
    let s : Scope = scope_in c.args.session.now in
    let names : Names = names_in c.args.session.now in
    let at : Standing = record { graphs = c.args.graphs.now; next = c.args.next } in
    let none : first_past (costs_of s (basic_tree names c.args.basic.now)) c.in_ok-table.table.rows ≡ None =
    sym (c.first_past.ensures ∙ ap (λ (costs : List CostAt). first_past costs c.in_ok-table.table.rows) (c.deref.ensures.value ∙ c.in_ok-costs.ensures)) ∙ c.in_default.is in
    passes_on (DenotesBasic s at (basic_tree names c.args.basic.now)) (Comes s at (basic_tree names c.args.basic.now) c.in_ok-segments.segments c.in_ok-table.table) c.table_made.result
    (λ outcome h. costs_fit s names at c.args.basic.now c.in_ok-lowered.lowered.block (c.in_ok-lowered.ensures (MatchBlock (basic_tree (names_in c.args.session.now) c.args.basic.now)) c.requires.built.numbered (construct_at (names_in c.args.session.now) c.args.basic.now)).is_block c.in_ok-segments.segments
    c.in_ok-segments.ensures.due
    c.in_ok-table.table c.in_ok-table.ensures none outcome h)
    c.table_made.ensures.due
