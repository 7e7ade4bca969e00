use Rattle.std.proofs.Common.{append_assoc, append-nil, ℕ, ◌∷◌, ◌++◌, OnOk, Result, ◌+◌, length, drop, slice_get, Some, ◌≡◌, ◌≤◌, [], Ok, Err, List, map, rules, sym, ap, ◌∙◌, subst, refl, arith}
use Rattle.std.proofs.lemmas.List.{drop_all}
use Rattle.gc_ast.specs.declared.query.Basic.{Basic}
use Rattle.gc_ast.specs.declared.query.Query.{Query, out-Query}
use Rattle.gc_ast.specs.declared.construct.Change.{the_lemmas}
use Rattle.gc_ast.specs.PatternViews.{named_by}
use Rattle.gc_ast.specs.QueryViews.{basic_tree, head_by, head_tree, next_term_tree, query_by, query_tree, term_by, term_tree}
use Rattle.gc_ast.specs.Trees as tree
use Rattle.gc_catalog.specs.NamedGraphs.{NamedGraphs}
use Rattle.gc_expr.specs.Views.{Names, name_of}
use Rattle.gc_lower.specs.Scopes.{Scope, number_at}
use Rattle.gc_sets.specs.Origins.{AreStanding, ComesFrom}
use Rattle.gc_sets.proofs.OriginLaws.{comes_through, comes_wider, own_comes, turns_agree}
use Rattle.gc_spec.specs.PropertyGraph.{PropertyGraph}
use Rattle.gc_query.specs.Answered.{AreStood, ComesAlong, ComesOf, IsAnswered, IsLonger, names_in, scope_in, standing_at}
use Rattle.gc_query.specs.Basics.{DenotesBasic}
use Rattle.gc_query.specs.Built.{IsBasicBuilt, IsBuilt}
use Rattle.gc_query.specs.Evaluations.{Evaluates, EvaluatesBasic, EvaluatesHead, EvaluatesHeads, EvaluatesLater, EvaluatesTerm, names_under, names_under_all}
use Rattle.gc_query.specs.Logs.{Tells}
use Rattle.gc_query.specs.Queries.{Denotes, DenotesTerm, Heads, Joined, named, with_made}
use Rattle.gc_query.specs.Steps.{free_word}
use Rattle.gc_query.specs.Standings.{Made, Standing}
use Rattle.gc_query.specs.declared.fault.Fault.{Fault}
use Rattle.gc_query.proofs.BuiltParts.{of_basic, of_inner, of_next}
use Rattle.gc_query.proofs.BuiltRests.{first_is, heads_are, later_are, next_is, rest_is}
use Rattle.gc_query.proofs.AllOf.{drop_at, got}
use Rattle.gc_query.proofs.EvaluationLaws.{always, basic_evaluates, gained_more, gained_none, graph_evaluates, graph_head, if_told, inner_evaluates, next_later, no_head, no_heads, none_later, one_head, query_tells, tells_as, tells_none}
use Rattle.gc_query.proofs.Heads.{goes_on, graph_fails, head_fails, names_graph, names_view}
use Rattle.gc_query.proofs.Outcomes.{if_ok, not_stood, passes_on, refused, stands_on}
use Rattle.gc_query.proofs.QueryParts.{path_head}
use Rattle.gc_query.proofs.QueriesWhole.{basic_comes, inner_comes, joins, query_comes, term_fails, terms_come}
use Rattle.gc_query.proofs.Standings.{as_long, below_again, first_again, longer_yet, stands, stands_later, there_again}
use Rattle.gc_query.proofs.Origins.{come_through, one_comes, rises_on}
use Rattle.gc_query.proofs.queries.+made.Goals as goal

pub joined-term_made-requires : goal.joined-term_made-requires
joined-term_made-requires g t c κs within =
    let s : Scope = scope_in c.args.session.now in
    let names : Names = names_in c.args.session.now in
    let at : slice_get c.args.rest.now c.loop-later.later-index ≡ Some c.later-item.result = got c.args.rest.now c.loop-later.later-index c.later-item.result (omega arith) c.later-item.is in
    let left : Made = record { graph = c.left.inside.graph; next = c.left.inside.next } in
    let same : left ≡ c.loop-later.left = c.left.view_is in (
      search (rules, the_lemmas),
      (
        within,
        (
          of_next s names c.later-item.result (next_is s (next_term_tree names) c.args.rest.now c.loop-later.later-index c.later-item.result at c.loop-later.invariant.built),
          (
            omega (arith, c.requires.later, c.loop-later.invariant.later, ap (λ (n : NamedGraphs). n.next) c.loop-later.invariant.kept, ap (λ (m : Made). m.next) same),
            subst (λ (m : Made). m.next ≤ 9007199254740992) (sym same) c.loop-later.invariant.most,
          ),
        ),
      ),
    )

pub joined-returns-in_err-right-clause-due : goal.joined-returns-in_err-right-clause-due
joined-returns-in_err-right-clause-due g t c =
    let s : Scope = scope_in c.args.session.now in
    let names : Names = names_in c.args.session.now in
    let at : slice_get c.args.rest.now c.loop-later.later-index ≡ Some c.later-item.result = got c.args.rest.now c.loop-later.later-index c.later-item.result (omega arith) c.later-item.is in
    let left : Made = record { graph = c.left.inside.graph; next = c.left.inside.next } in
    let same : left ≡ c.loop-later.left = c.left.view_is in
    let graphs : List PropertyGraph = c.args.catalog.now.graphs in
    refused (λ fault. DenotesTerm s (standing_at c.loop-later.catalog left.next) (term_tree names c.later-item.result.term) (Err fault)) c.in_err-right.field-0.0 c.in_err-right.ensures.due
    (Joined s graphs c.args.first (tree.row (map (next_term_tree names) c.args.rest.now))) c.from_residual.result c.from_residual.ensures.0 c.from_residual.ensures.1
    (λ fault d. c.loop-later.invariant.leads (Err fault) (subst (λ l. Joined s graphs l (tree.row (map (next_term_tree names) (drop c.loop-later.later-index c.args.rest.now))) (Err fault)) same (term_fails s names graphs c.args.rest.now c.loop-later.later-index c.later-item.result at left fault (subst (λ (n : NamedGraphs). DenotesTerm s (standing_at n left.next) (term_tree names c.later-item.result.term) (Err fault)) c.loop-later.invariant.kept d))))

-- the two graphs that are combined come from the same, the second after the first
pub joined-combined-requires : goal.joined-combined-requires
joined-combined-requires g t c =
    let left : Made = record { graph = c.left.inside.graph; next = c.left.inside.next } in
    let same : left ≡ c.loop-later.left = c.left.view_is in
    let inv = c.loop-later.invariant in
    let graphs : List PropertyGraph = c.args.catalog.now.graphs in
    turns_agree graphs c.args.catalog.now.next (stands c.args.catalog.now c.next-valid.ensures.valid) c.in_ok-right.right.next left.graph c.in_ok-right.right.graph (record {
      middle = left.next;
      up = omega (arith, c.requires.later, inv.later, ap (λ (m : Made). m.next) same);
      on = c.in_ok-right.ensures.rises.0;
      first = subst (λ (m : Made). ComesFrom graphs c.args.catalog.now.next m.next m.graph) (sym same) inv.comes;
      second = subst (λ (n : NamedGraphs). ComesFrom n.graphs left.next c.in_ok-right.right.next c.in_ok-right.right.graph) inv.kept c.in_ok-right.ensures.comes;
    })

pub joined-loop-later-init : goal.joined-loop-later-init
joined-loop-later-init g t c = record { built = c.requires.built; later = omega arith; most = c.requires.most; kept = refl; comes = c.requires.comes; along = λ next up h. h; leads = λ outcome j. j; so_far = []; gained = gained_none (scope_in c.args.session.now) c.args.told.now; evaluated = λ later e. e }

pub joined-loop-later-preserved : goal.joined-loop-later-preserved
joined-loop-later-preserved g t c =
    let s : Scope = scope_in c.args.session.now in
    let names : Names = names_in c.args.session.now in
    let at : slice_get c.args.rest.now c.loop-later.later-index ≡ Some c.later-item.result = got c.args.rest.now c.loop-later.later-index c.later-item.result (omega arith) c.later-item.is in
    let left : Made = record { graph = c.left.inside.graph; next = c.left.inside.next } in
    let same : left ≡ c.loop-later.left = c.left.view_is in
    let graphs : List PropertyGraph = c.args.catalog.now.graphs in
    let inv = c.loop-later.invariant in
    let both = c.in_ok-left.ensures.due in
    let right : Made = c.in_ok-right.right in
    let turns : (next : ℕ) → next ≤ left.next → ComesFrom graphs next left.next left.graph → ComesFrom graphs next c.in_ok-left.left.next c.in_ok-left.left.graph =
    λ next up comes. subst (λ n. ComesFrom graphs next n c.in_ok-left.left.graph) (sym both.behind) (c.in_ok-left.ensures.comes graphs next (record {
      middle = left.next;
      up = up;
      on = c.in_ok-right.ensures.rises.0;
      first = comes;
      second = subst (λ (n : NamedGraphs). ComesFrom n.graphs left.next right.next right.graph) inv.kept c.in_ok-right.ensures.comes;
    })) in
    let with : (next : ℕ) → ComesFrom graphs next c.loop-later.left.next c.loop-later.left.graph → ComesFrom graphs next left.next left.graph =
    λ next h. subst (λ (m : Made). ComesFrom graphs next m.next m.graph) (sym same) h in
    record {
      built = later_are s (next_term_tree names) c.args.rest.now c.loop-later.later-index c.later-item.result at inv.built;
      later = omega (arith, inv.later, ap (λ (m : Made). m.next) same, c.in_ok-right.ensures.rises, both.behind);
      most = omega (arith, c.in_ok-right.ensures.rises, both.behind);
      kept = c.in_ok-right.ensures.kept ∙ inv.kept;
      comes = turns c.args.catalog.now.next (omega (arith, c.requires.later, inv.later, ap (λ (m : Made). m.next) same)) (with c.args.catalog.now.next inv.comes);
      along = λ next up h. turns next (omega (arith, up, inv.later, ap (λ (m : Made). m.next) same)) (with next (inv.along next up h));
      leads = λ outcome j. inv.leads outcome (subst (λ l. Joined s graphs l (tree.row (map (next_term_tree names) (drop c.loop-later.later-index c.args.rest.now))) outcome) same
          (joins s names graphs c.args.rest.now c.loop-later.later-index c.later-item.result at left c.in_ok-right.right (subst (λ (n : NamedGraphs). DenotesTerm s (standing_at n left.next) (term_tree names c.later-item.result.term) (Ok c.in_ok-right.right)) c.loop-later.invariant.kept c.in_ok-right.ensures.due) c.in_ok-left.left both outcome j));
      so_far = inv.so_far ++ c.in_ok-right.ensures.told.0;
      gained = gained_more s c.args.told.now c.loop-later.told c.term_made.new.told inv.so_far c.in_ok-right.ensures.told.0 inv.gained c.in_ok-right.ensures.told.2;
      evaluated = λ later e. subst (EvaluatesLater s c.args.catalog.now.names graphs c.args.first (tree.row (map (next_term_tree names) c.args.rest.now))) (sym (append_assoc inv.so_far c.in_ok-right.ensures.told.0 later))
          (inv.evaluated (c.in_ok-right.ensures.told.0 ++ later)
          (subst (λ l. EvaluatesLater s c.args.catalog.now.names graphs l (tree.row (map (next_term_tree names) (drop c.loop-later.later-index c.args.rest.now))) (c.in_ok-right.ensures.told.0 ++ later)) same
          (next_later s names c.args.catalog.now.names graphs c.args.rest.now c.loop-later.later-index c.later-item.result at left right c.in_ok-left.left (c.in_ok-right.ensures.told.0 ++ later)
          (subst (λ (n : NamedGraphs). DenotesTerm s (standing_at n left.next) (term_tree names c.later-item.result.term) (Ok right)) inv.kept c.in_ok-right.ensures.due) both
          (c.in_ok-right.ensures.told.0, later, subst (λ (n : NamedGraphs). EvaluatesTerm s n.names (standing_at n left.next) (term_tree names c.later-item.result.term) c.in_ok-right.ensures.told.0) inv.kept c.in_ok-right.ensures.told.1, e, refl))));
    }

-- where no term is left, nothing more is evaluated
pub joined-returns-clause-told : goal.joined-returns-clause-told
joined-returns-clause-told g t c =
    let s : Scope = scope_in c.args.session.now in
    let names : Names = names_in c.args.session.now in
    let graphs : List PropertyGraph = c.args.catalog.now.graphs in
    let inv = c.loop-later.invariant in
    let none : drop c.loop-later.later-index c.args.rest.now ≡ [] = drop_all c.loop-later.later-index c.args.rest.now (omega arith) in
    let all : EvaluatesLater s c.args.catalog.now.names graphs c.args.first (tree.row (map (next_term_tree names) c.args.rest.now)) (inv.so_far ++ []) =
    inv.evaluated [] (subst (λ rest. EvaluatesLater s c.args.catalog.now.names graphs c.loop-later.left (tree.row (map (next_term_tree names) rest)) []) (sym none) (none_later s c.args.catalog.now.names graphs c.loop-later.left)) in
    (inv.so_far, subst (EvaluatesLater s c.args.catalog.now.names graphs c.args.first (tree.row (map (next_term_tree names) c.args.rest.now))) (append-nil inv.so_far) all, inv.gained)

pub query_made-back_to-requires-clause-there : goal.query_made-back_to-requires-clause-there
query_made-back_to-requires-clause-there g t c =
    there_again c.args.catalog.now c.query_under-result.new.catalog c.len-graphs.result c.next-free.result (c.len-graphs.ensures.count ∙ ap (λ (gs : List PropertyGraph). length gs) c.graphs.ensures.graphs) c.next-free.ensures.next c.query_under-result.ensures.longer

pub query_made-back_to-requires-clause-below : goal.query_made-back_to-requires-clause-below
query_made-back_to-requires-clause-below g t c =
    below_again c.args.catalog.now c.query_under-result.new.catalog c.len-graphs.result c.next-free.result (c.len-graphs.ensures.count ∙ ap (λ (gs : List PropertyGraph). length gs) c.graphs.ensures.graphs) c.next-free.ensures.next c.query_under-result.ensures.longer
    c.next-free.ensures.valid.below

pub query_made-returns-clause-kept : goal.query_made-returns-clause-kept
query_made-returns-clause-kept g t c =
    c.back_to.ensures
    ∙ first_again c.args.catalog.now c.query_under-result.new.catalog c.len-graphs.result c.next-free.result (c.len-graphs.ensures.count ∙ ap (λ (gs : List PropertyGraph). length gs) c.graphs.ensures.graphs) c.next-free.ensures.next c.query_under-result.ensures.longer
    c.next-free.ensures.valid.as_many

pub query_under-heads_stood-requires : goal.query_under-heads_stood-requires
query_under-heads_stood-requires g t c κs within =
    let s : Scope = scope_in c.args.session.now in
    let names : Names = names_in c.args.session.now in
    let are : IsBuilt s (tree.row (map (head_tree names) c.deref.result.now)) =
    subst (λ items. IsBuilt s (tree.row (map (head_tree names) items))) (sym c.deref.ensures.value) (heads_are s names c.args.query.now c.requires.built) in
    (rw c.deref.ensures.value (search (rules, the_lemmas)), (within, (are, (c.requires.later, c.requires.most))))

pub query_under-term_made-requires : goal.query_under-term_made-requires
query_under-term_made-requires g t c κs within =
    (search (rules, the_lemmas), (within, (first_is (scope_in c.args.session.now) (names_in c.args.session.now) c.args.query.now c.requires.built, (c.in_ok-free.ensures.rises.1, c.in_ok-free.ensures.rises.2))))

-- the first term comes from what stands under the heads
pub query_under-joined-requires : goal.query_under-joined-requires
query_under-joined-requires g t c κs within =
    let s : Scope = scope_in c.args.session.now in
    let names : Names = names_in c.args.session.now in
    let is : IsBuilt s (tree.row (map (next_term_tree names) c.deref-2.result.now)) =
    subst (λ items. IsBuilt s (tree.row (map (next_term_tree names) items))) (sym c.deref-2.ensures.value) (rest_is s names c.args.query.now c.requires.built) in (
      rw c.deref-2.ensures.value (search (rules, the_lemmas)),
      (
        within,
        (
          is,
          (
            omega (arith, ap (λ (n : NamedGraphs). n.next) c.in_ok-first.ensures.kept, c.in_ok-free.ensures.rises, c.in_ok-first.ensures.rises),
            (
              c.in_ok-first.ensures.rises.1,
              subst (λ (n : NamedGraphs). ComesFrom n.graphs n.next c.in_ok-first.first.next c.in_ok-first.first.graph) (sym c.in_ok-first.ensures.kept)
                  (comes_wider c.heads_stood.new.catalog.graphs c.heads_stood.new.catalog.next c.in_ok-free.free c.in_ok-first.first.next c.in_ok-first.first.next c.in_ok-free.ensures.rises.1 (omega arith) c.in_ok-first.first.graph c.in_ok-first.ensures.comes),
            ),
          ),
        ),
      ),
    )

pub query_under-returns-in_err-free-clause-due : goal.query_under-returns-in_err-free-clause-due
query_under-returns-in_err-free-clause-due g t c =
    let s : Scope = scope_in c.args.session.now in
    let names : Names = names_in c.args.session.now in
    let at : Standing = standing_at c.args.catalog.now c.args.next in
    refused (λ fault. Heads s at (tree.row (map (head_tree names) (out-Query c.args.query.now).heads.items)) (Err fault)) c.in_err-free.field-0.0
    (subst (λ items. AreStood (Heads s at (tree.row (map (head_tree names) items))) c.heads_stood.new.catalog (Err c.in_err-free.field-0.0)) c.deref.ensures.value c.in_err-free.ensures.due)
    (Denotes s at (query_tree names c.args.query.now)) c.from_residual.result c.from_residual.ensures.0 c.from_residual.ensures.1
    (λ fault h. query_comes s names at c.args.query.now (Err fault) (Err fault) h refl)

pub query_under-returns-in_err-first-clause-due : goal.query_under-returns-in_err-first-clause-due
query_under-returns-in_err-first-clause-due g t c =
    let s : Scope = scope_in c.args.session.now in
    let names : Names = names_in c.args.session.now in
    let at : Standing = standing_at c.args.catalog.now c.args.next in
    let now : Standing = standing_at c.heads_stood.new.catalog c.in_ok-free.free in
    refused (λ fault. DenotesTerm s now (term_tree names (out-Query c.args.query.now).first) (Err fault)) c.in_err-first.field-0.0 c.in_err-first.ensures.due
    (Denotes s at (query_tree names c.args.query.now)) c.from_residual-in_err-first.result c.from_residual-in_err-first.ensures.0 c.from_residual-in_err-first.ensures.1
    (λ fault d. query_comes s names at c.args.query.now (Ok now) (Err fault)
    (subst (λ items. Heads s at (tree.row (map (head_tree names) items)) (Ok now)) c.deref.ensures.value c.in_ok-free.ensures.due)
    (terms_come s now (term_tree names (out-Query c.args.query.now).first) (tree.row (map (next_term_tree names) (out-Query c.args.query.now).rest.items)) (Err fault) (Err fault) d refl))

pub query_under-returns-clause-due : goal.query_under-returns-clause-due
query_under-returns-clause-due g t c =
    let s : Scope = scope_in c.args.session.now in
    let names : Names = names_in c.args.session.now in
    let at : Standing = standing_at c.args.catalog.now c.args.next in
    let now : Standing = standing_at c.heads_stood.new.catalog c.in_ok-free.free in
    let same : c.term_made.new.catalog.graphs ≡ now.graphs = ap (λ (n : NamedGraphs). n.graphs) c.in_ok-first.ensures.kept in
    passes_on (Denotes s at (query_tree names c.args.query.now)) (Joined s c.term_made.new.catalog.graphs c.in_ok-first.first (tree.row (map (next_term_tree names) c.deref-2.result.now))) c.joined.result
    (λ outcome j. query_comes s names at c.args.query.now (Ok now) outcome
    (subst (λ items. Heads s at (tree.row (map (head_tree names) items)) (Ok now)) c.deref.ensures.value c.in_ok-free.ensures.due)
    (terms_come s now (term_tree names (out-Query c.args.query.now).first) (tree.row (map (next_term_tree names) (out-Query c.args.query.now).rest.items)) (Ok c.in_ok-first.first) outcome c.in_ok-first.ensures.due
    (subst (λ graphs. Joined s graphs c.in_ok-first.first (tree.row (map (next_term_tree names) (out-Query c.args.query.now).rest.items)) outcome) same
    (subst (λ items. Joined s c.term_made.new.catalog.graphs c.in_ok-first.first (tree.row (map (next_term_tree names) items)) outcome) c.deref-2.ensures.value j)))) c.joined.ensures.due

pub query_under-returns-clause-comes : goal.query_under-returns-clause-comes
query_under-returns-clause-comes g t c =
    let before : NamedGraphs = c.args.catalog.now in
    let middle : NamedGraphs = c.heads_stood.new.catalog in
    let along = subst (λ (n : NamedGraphs). ComesAlong n.graphs c.in_ok-first.first c.joined.result) c.in_ok-first.ensures.kept c.joined.ensures.comes in
    come_through before.graphs middle.graphs c.args.next c.in_ok-free.free c.in_ok-free.ensures.rises.0 c.in_ok-free.ensures.come c.joined.result
    (rises_on c.in_ok-free.free c.in_ok-first.first.next c.in_ok-first.ensures.rises.0 c.joined.result c.joined.ensures.rises)
    (along c.in_ok-free.free c.in_ok-first.ensures.rises.0 c.in_ok-first.ensures.comes)

pub query_under-returns-in_err-first-clause-longer : goal.query_under-returns-in_err-first-clause-longer
query_under-returns-in_err-first-clause-longer g t c = subst (IsLonger c.args.catalog.now) (sym c.in_err-first.ensures.kept) c.in_ok-free.ensures.longer

pub query_under-returns-clause-longer : goal.query_under-returns-clause-longer
query_under-returns-clause-longer g t c = subst (IsLonger c.args.catalog.now) (sym (c.joined.ensures.kept ∙ c.in_ok-first.ensures.kept)) c.in_ok-free.ensures.longer

-- what the parts of a query tell, one after another
pub query_under-returns-clause-told : goal.query_under-returns-clause-told
query_under-returns-clause-told g t c =
    let s : Scope = scope_in c.args.session.now in
    let names : Names = names_in c.args.session.now in
    let q : Query = c.args.query.now in
    let at : Standing = standing_at c.args.catalog.now c.args.next in
    let now : Standing = standing_at c.heads_stood.new.catalog c.in_ok-free.free in
    let heads_names = c.heads_stood.new.catalog.names in
    let same : heads_names ≡ names_under_all c.args.catalog.now.names (tree.row (map (head_tree names) (out-Query q).heads.items)) =
    subst (λ items. heads_names ≡ names_under_all c.args.catalog.now.names (tree.row (map (head_tree names) items))) c.deref.ensures.value c.in_ok-free.ensures.names in
    let stands : Heads s at (tree.row (map (head_tree names) (out-Query q).heads.items)) (Ok now) =
    subst (λ items. Heads s at (tree.row (map (head_tree names) items)) (Ok now)) c.deref.ensures.value c.in_ok-free.ensures.due in
    let heads_told = subst (λ items. Tells s (EvaluatesHeads s c.args.catalog.now.names at (tree.row (map (head_tree names) items))) c.args.told.now c.heads_stood.new.told) c.deref.ensures.value c.in_ok-free.ensures.told in
    if_told c.joined.result _ _
    (λ later. query_tells s names c.args.catalog.now.names heads_names at now q c.in_ok-first.first c.args.told.now c.heads_stood.new.told c.term_made.new.told c.joined.new.told same stands c.in_ok-first.ensures.due heads_told
    c.in_ok-first.ensures.told
    (subst (λ (n : NamedGraphs). Tells s (EvaluatesLater s n.names n.graphs c.in_ok-first.first (tree.row (map (next_term_tree names) (out-Query q).rest.items))) c.term_made.new.told c.joined.new.told) c.in_ok-first.ensures.kept
    (subst (λ items. Tells s (EvaluatesLater s c.term_made.new.catalog.names c.term_made.new.catalog.graphs c.in_ok-first.first (tree.row (map (next_term_tree names) items))) c.term_made.new.told c.joined.new.told) c.deref-2.ensures.value later)))
    c.joined.ensures.told

pub heads_stood-loop-head-init : goal.heads_stood-loop-head-init
heads_stood-loop-head-init g t c = record { built = c.requires.built; rises = omega arith; later = c.requires.later; most = c.requires.most; longer = as_long c.args.catalog.now; come = λ h m. own_comes c.args.catalog.now.graphs c.args.next c.args.next h m; leads = λ under h. h; names = refl; so_far = []; gained = gained_none (scope_in c.args.session.now) c.args.told.now; evaluated = λ later e. e }

pub heads_stood-head_stood-requires : goal.heads_stood-head_stood-requires
heads_stood-head_stood-requires g t c κs within =
    let s : Scope = scope_in c.args.session.now in
    let names : Names = names_in c.args.session.now in
    let at : slice_get c.args.heads.now c.loop-head.head-index ≡ Some c.head-item.result = got c.args.heads.now c.loop-head.head-index c.head-item.result (omega arith) c.head-item.is in
    (search (rules, the_lemmas), (within, (next_is s (head_tree names) c.args.heads.now c.loop-head.head-index c.head-item.result at c.loop-head.invariant.built, (c.loop-head.invariant.later, c.loop-head.invariant.most))))

pub heads_stood-loop-head-preserved : goal.heads_stood-loop-head-preserved
heads_stood-loop-head-preserved g t c =
    let s : Scope = scope_in c.args.session.now in
    let names : Names = names_in c.args.session.now in
    let at : slice_get c.args.heads.now c.loop-head.head-index ≡ Some c.head-item.result = got c.args.heads.now c.loop-head.head-index c.head-item.result (omega arith) c.head-item.is in
    let inv = c.loop-head.invariant in
    let now : Standing = standing_at c.head_stood.new.catalog c.in_ok-free.free in
    record {
      built = later_are s (head_tree names) c.args.heads.now c.loop-head.head-index c.head-item.result at inv.built;
      rises = omega (arith, inv.rises, c.in_ok-free.ensures.rises);
      later = c.in_ok-free.ensures.rises.1;
      most = c.in_ok-free.ensures.rises.2;
      longer = longer_yet c.args.catalog.now c.loop-head.catalog c.head_stood.new.catalog inv.longer c.in_ok-free.ensures.longer;
      come = λ h m. comes_through c.args.catalog.now.graphs c.loop-head.catalog.graphs c.args.next c.loop-head.free c.in_ok-free.free inv.rises c.in_ok-free.ensures.rises.0 inv.come h (c.in_ok-free.ensures.come h m);
      leads = λ under h. inv.leads under
          (subst (λ heads. Heads s (standing_at c.loop-head.catalog c.loop-head.free) (tree.row (map (head_tree names) heads)) under) (sym (drop_at c.args.heads.now c.loop-head.head-index c.head-item.result at))
          (goes_on s (standing_at c.loop-head.catalog c.loop-head.free) now (head_tree names c.head-item.result) (tree.row (map (head_tree names) (drop (c.loop-head.head-index + 1) c.args.heads.now))) under c.in_ok-free.ensures.due h));
      names = ap (λ ns. names_under_all ns (tree.row (map (head_tree names) (drop (c.loop-head.head-index + 1) c.args.heads.now)))) c.in_ok-free.ensures.names
          ∙ (sym (ap (λ heads. names_under_all c.loop-head.catalog.names (tree.row (map (head_tree names) heads))) (drop_at c.args.heads.now c.loop-head.head-index c.head-item.result at)) ∙ inv.names);
      so_far = inv.so_far ++ c.in_ok-free.ensures.told.0;
      gained = gained_more s c.args.told.now c.loop-head.told c.head_stood.new.told inv.so_far c.in_ok-free.ensures.told.0 inv.gained c.in_ok-free.ensures.told.2;
      evaluated = λ later e. subst (EvaluatesHeads s c.args.catalog.now.names (standing_at c.args.catalog.now c.args.next) (tree.row (map (head_tree names) c.args.heads.now))) (sym (append_assoc inv.so_far c.in_ok-free.ensures.told.0 later))
          (inv.evaluated (c.in_ok-free.ensures.told.0 ++ later)
          (subst (λ heads. EvaluatesHeads s c.loop-head.catalog.names (standing_at c.loop-head.catalog c.loop-head.free) (tree.row (map (head_tree names) heads)) (c.in_ok-free.ensures.told.0 ++ later)) (sym (drop_at c.args.heads.now c.loop-head.head-index c.head-item.result at))
          (one_head s c.loop-head.catalog.names (standing_at c.loop-head.catalog c.loop-head.free) now (head_tree names c.head-item.result) (tree.row (map (head_tree names) (drop (c.loop-head.head-index + 1) c.args.heads.now))) (c.in_ok-free.ensures.told.0 ++ later) c.in_ok-free.ensures.due (
            c.in_ok-free.ensures.told.0,
            later,
            c.in_ok-free.ensures.told.1,
            subst (λ ns. EvaluatesHeads s ns now (tree.row (map (head_tree names) (drop (c.loop-head.head-index + 1) c.args.heads.now))) later) c.in_ok-free.ensures.names e,
            refl,
          ))));
    }

pub heads_stood-returns-clause-names : goal.heads_stood-returns-clause-names
heads_stood-returns-clause-names g t c =
    let names : Names = names_in c.args.session.now in
    let none : drop c.loop-head.head-index c.args.heads.now ≡ [] = drop_all c.loop-head.head-index c.args.heads.now (omega arith) in
    sym (ap (λ heads. names_under_all c.loop-head.catalog.names (tree.row (map (head_tree names) heads))) none) ∙ c.loop-head.invariant.names

-- where no head is left, nothing more is evaluated
pub heads_stood-returns-clause-told : goal.heads_stood-returns-clause-told
heads_stood-returns-clause-told g t c =
    let s : Scope = scope_in c.args.session.now in
    let names : Names = names_in c.args.session.now in
    let inv = c.loop-head.invariant in
    let here : Standing = standing_at c.loop-head.catalog c.loop-head.free in
    let none : drop c.loop-head.head-index c.args.heads.now ≡ [] = drop_all c.loop-head.head-index c.args.heads.now (omega arith) in
    let all : EvaluatesHeads s c.args.catalog.now.names (standing_at c.args.catalog.now c.args.next) (tree.row (map (head_tree names) c.args.heads.now)) (inv.so_far ++ []) =
    inv.evaluated [] (subst (λ heads. EvaluatesHeads s c.loop-head.catalog.names here (tree.row (map (head_tree names) heads)) []) (sym none) (no_heads s c.loop-head.catalog.names here)) in
    (inv.so_far, subst (EvaluatesHeads s c.args.catalog.now.names (standing_at c.args.catalog.now c.args.next) (tree.row (map (head_tree names) c.args.heads.now))) (append-nil inv.so_far) all, inv.gained)

pub heads_stood-returns-in_err-free-clause-due : goal.heads_stood-returns-in_err-free-clause-due
heads_stood-returns-in_err-free-clause-due g t c =
    let s : Scope = scope_in c.args.session.now in
    let names : Names = names_in c.args.session.now in
    let at : slice_get c.args.heads.now c.loop-head.head-index ≡ Some c.head-item.result = got c.args.heads.now c.loop-head.head-index c.head-item.result (omega arith) c.head-item.is in
    let now : Standing = standing_at c.loop-head.catalog c.loop-head.free in
    not_stood (λ fault. Heads s now (tree.more (head_tree names c.head-item.result) tree.none) (Err fault)) c.in_err-free.field-0.0 c.in_err-free.ensures.due
    (Heads s (standing_at c.args.catalog.now c.args.next) (tree.row (map (head_tree names) c.args.heads.now))) c.head_stood.new.catalog c.from_residual.result c.from_residual.ensures.0 c.from_residual.ensures.1
    (λ fault h. c.loop-head.invariant.leads (Err fault)
    (subst (λ heads. Heads s now (tree.row (map (head_tree names) heads)) (Err fault)) (sym (drop_at c.args.heads.now c.loop-head.head-index c.head-item.result at))
    (head_fails s now (head_tree names c.head-item.result) (tree.row (map (head_tree names) (drop (c.loop-head.head-index + 1) c.args.heads.now))) fault h)))

pub heads_stood-returns-in_err-free-clause-longer : goal.heads_stood-returns-in_err-free-clause-longer
heads_stood-returns-in_err-free-clause-longer g t c = longer_yet c.args.catalog.now c.loop-head.catalog c.head_stood.new.catalog c.loop-head.invariant.longer c.in_err-free.ensures.longer

pub head_stood-query_made-requires : goal.head_stood-query_made-requires
unfolding head_by query_by IsBuilt
head_stood-query_made-requires g t c κs within =
    let s : Scope = scope_in c.args.session.now in
    let names : Names = names_in c.args.session.now in
    let e : head_tree names c.args.head.now ≡ tree.GraphHead (named_by (name_of names) c.in-Graph.name) (query_tree names c.in-Graph.query) = rw c.in-Graph.is (search (rules, the_lemmas)) in
    (search (rules, the_lemmas), (within, (subst (IsBuilt s) e c.requires.built, (c.requires.later, c.requires.most))))

pub head_stood-returns-in-Path-clause-due : goal.head_stood-returns-in-Path-clause-due
head_stood-returns-in-Path-clause-due g t c =
    let s : Scope = scope_in c.args.session.now in
    let names : Names = names_in c.args.session.now in
    let at : Standing = standing_at c.args.catalog.now c.args.next in
    subst (λ t. Heads s at (tree.more t tree.none) (Ok at))
    (sym (ap (head_tree names) c.in-Path.is ∙ path_head names c.in-Path.name c.in-Path.chains c.in-Path.filter c.in-Path.cost)) (names_view s at _ _ _ _)

pub head_stood-returns-in-Path-clause-longer : goal.head_stood-returns-in-Path-clause-longer
head_stood-returns-in-Path-clause-longer g t c = as_long c.args.catalog.now

pub head_stood-returns-in_err-made-in-Graph-clause-due : goal.head_stood-returns-in_err-made-in-Graph-clause-due
unfolding head_by query_by
head_stood-returns-in_err-made-in-Graph-clause-due g t c =
    let s : Scope = scope_in c.args.session.now in
    let names : Names = names_in c.args.session.now in
    let at : Standing = standing_at c.args.catalog.now c.args.next in
    let query = query_tree names c.in-Graph.query in
    let e : head_tree names c.args.head.now ≡ tree.GraphHead (named_by (name_of names) c.in-Graph.name) query = rw c.in-Graph.is (search (rules, the_lemmas)) in
    not_stood (λ fault. Denotes s at query (Err fault)) c.in_err-made-in-Graph.field-0.0 c.in_err-made-in-Graph.ensures.due
    (Heads s at (tree.more (head_tree names c.args.head.now) tree.none)) c.query_made.new.catalog c.from_residual.result c.from_residual.ensures.0 c.from_residual.ensures.1
    (λ fault d. subst (λ t. Heads s at (tree.more t tree.none) (Err fault)) (sym e) (graph_fails s at (named_by (name_of names) c.in-Graph.name) query fault d))

pub head_stood-returns-in_ok-made-in-Graph-clause-due : goal.head_stood-returns-in_ok-made-in-Graph-clause-due
unfolding head_by query_by
head_stood-returns-in_ok-made-in-Graph-clause-due g t c =
    let s : Scope = scope_in c.args.session.now in
    let names : Names = names_in c.args.session.now in
    let at : Standing = standing_at c.args.catalog.now c.args.next in
    let made : Made = c.in_ok-made-in-Graph.made in
    let query = query_tree names c.in-Graph.query in
    let e : head_tree names c.args.head.now ≡ tree.GraphHead (named_by (name_of names) c.in-Graph.name) query = rw c.in-Graph.is (search (rules, the_lemmas)) in
    let with : NamedGraphs → Result Standing Fault = λ n. Ok (with_made (standing_at n made.next) made) in
    let same : with c.query_made.new.catalog ≡ Ok (with_made at made) = ap with c.in_ok-made-in-Graph.ensures.kept in
    stands_on (Heads s at (tree.more (head_tree names c.args.head.now) tree.none)) (λ under. under ≡ with c.query_made.new.catalog) c.stand.new.catalog c.stand.result
    (λ under is. subst (λ t. Heads s at (tree.more t tree.none) under) (sym e) (names_graph s at (named_by (name_of names) c.in-Graph.name) query made under c.in_ok-made-in-Graph.ensures.due (is ∙ same))) c.stand.ensures.due

pub head_stood-returns-in-Path-clause-names : goal.head_stood-returns-in-Path-clause-names
head_stood-returns-in-Path-clause-names g t c =
    let names : Names = names_in c.args.session.now in
    sym (ap (names_under c.args.catalog.now.names) (ap (head_tree names) c.in-Path.is ∙ path_head names c.in-Path.name c.in-Path.chains c.in-Path.filter c.in-Path.cost))

pub head_stood-returns-in-Path-clause-told : goal.head_stood-returns-in-Path-clause-told
head_stood-returns-in-Path-clause-told g t c =
    let s : Scope = scope_in c.args.session.now in
    let names : Names = names_in c.args.session.now in
    let at : Standing = standing_at c.args.catalog.now c.args.next in
    tells_none s _ c.args.told.now
    (subst (λ t. EvaluatesHead s c.args.catalog.now.names at t []) (sym (ap (head_tree names) c.in-Path.is ∙ path_head names c.in-Path.name c.in-Path.chains c.in-Path.filter c.in-Path.cost))
    (no_head s c.args.catalog.now.names at _ _ _ _))

pub head_stood-returns-in_ok-made-in-Graph-clause-names : goal.head_stood-returns-in_ok-made-in-Graph-clause-names
unfolding head_by query_by
head_stood-returns-in_ok-made-in-Graph-clause-names g t c =
    let names : Names = names_in c.args.session.now in
    let e : head_tree names c.args.head.now ≡ tree.GraphHead (named_by (name_of names) c.in-Graph.name) (query_tree names c.in-Graph.query) = rw c.in-Graph.is (search (rules, the_lemmas)) in
    let under = names_under c.args.catalog.now.names (head_tree names c.args.head.now) in
    if_told c.stand.result _ _
    (λ is. is ∙ (ap (λ (n : NamedGraphs). n.names ++ free_word n.names (named_by (name_of names) c.in-Graph.name).name ∷ []) c.in_ok-made-in-Graph.ensures.kept ∙ sym (ap (names_under c.args.catalog.now.names) e)))
    c.stand.ensures.names

pub head_stood-returns-in_ok-made-in-Graph-clause-told : goal.head_stood-returns-in_ok-made-in-Graph-clause-told
unfolding head_by query_by
head_stood-returns-in_ok-made-in-Graph-clause-told g t c =
    let s : Scope = scope_in c.args.session.now in
    let names : Names = names_in c.args.session.now in
    let at : Standing = standing_at c.args.catalog.now c.args.next in
    let e : head_tree names c.args.head.now ≡ tree.GraphHead (named_by (name_of names) c.in-Graph.name) (query_tree names c.in-Graph.query) = rw c.in-Graph.is (search (rules, the_lemmas)) in
    always c.stand.result _
    (tells_as s _ _ c.args.told.now c.query_made.new.told
    (λ all h. subst (λ t. EvaluatesHead s c.args.catalog.now.names at t all) (sym e) (graph_head s c.args.catalog.now.names at (named_by (name_of names) c.in-Graph.name) (query_tree names c.in-Graph.query) all h))
    c.in_ok-made-in-Graph.ensures.told)

pub head_stood-stand-requires-clause-comes : goal.head_stood-stand-requires-clause-comes
head_stood-stand-requires-clause-comes g t c =
    let before : NamedGraphs = c.args.catalog.now in
    let made : Made = c.in_ok-made-in-Graph.made in
    subst (λ (n : NamedGraphs). ComesFrom n.graphs n.next made.next made.graph) (sym c.in_ok-made-in-Graph.ensures.kept)
    (comes_wider before.graphs before.next c.args.next made.next made.next c.requires.later (omega arith) made.graph c.in_ok-made-in-Graph.ensures.comes)

pub head_stood-returns-in-Path-clause-come : goal.head_stood-returns-in-Path-clause-come
head_stood-returns-in-Path-clause-come g t c = λ h m. own_comes c.args.catalog.now.graphs c.args.next c.args.next h m

pub head_stood-returns-in_ok-made-in-Graph-clause-come : goal.head_stood-returns-in_ok-made-in-Graph-clause-come
head_stood-returns-in_ok-made-in-Graph-clause-come g t c =
    let made : Made = c.in_ok-made-in-Graph.made in
    let graphs : List PropertyGraph = c.args.catalog.now.graphs in
    let same : c.query_made.new.catalog.graphs ≡ graphs = ap (λ (n : NamedGraphs). n.graphs) c.in_ok-made-in-Graph.ensures.kept in
    one_comes graphs c.stand.new.catalog.graphs c.args.next made c.in_ok-made-in-Graph.ensures.comes c.stand.result
    (subst (λ (gs : List PropertyGraph). OnOk c.stand.result (c.stand.new.catalog.graphs ≡ gs ++ made.graph ∷ [])) same c.stand.ensures.added) (if_ok _ _ (λ free h. h.0) c.stand.result c.stand.ensures.rises)

pub term_made-basic_made-requires-clause-built : goal.term_made-basic_made-requires-clause-built
term_made-basic_made-requires-clause-built g t c =
    let s : Scope = scope_in c.args.session.now in
    let names : Names = names_in c.args.session.now in
    subst (λ (b : Basic). IsBasicBuilt s (basic_tree names b)) (sym c.deref.ensures) (of_basic s names c.in-Basic.basic (subst (λ x. IsBuilt s (term_tree names x)) c.in-Basic.is c.requires.built))

pub term_made-basic_made-requires-clause-standing : goal.term_made-basic_made-requires-clause-standing
term_made-basic_made-requires-clause-standing g t c =
    let catalog : NamedGraphs = c.args.catalog.now in
    subst (λ (gs : List PropertyGraph). AreStanding gs c.args.next) (sym c.graphs.ensures.graphs) (stands_later catalog.graphs catalog.next c.args.next c.requires.later (stands catalog c.graphs.ensures.valid))

pub term_made-query_made-requires : goal.term_made-query_made-requires
term_made-query_made-requires g t c κs within =
    let s : Scope = scope_in c.args.session.now in
    let names : Names = names_in c.args.session.now in
    let is : IsBuilt s (query_tree names c.deref-in-Query.result.now) =
    subst (λ (q : Query). IsBuilt s (query_tree names q)) (sym c.deref-in-Query.ensures) (of_inner s names c.in-Query.query (subst (λ x. IsBuilt s (term_tree names x)) c.in-Query.is c.requires.built)) in
    (search (rules, the_lemmas), (within, (is, (c.requires.later, c.requires.most))))

pub term_made-returns-in-Graph-clause-due : goal.term_made-returns-in-Graph-clause-due
unfolding term_by Denotes
term_made-returns-in-Graph-clause-due g t c =
    let s : Scope = scope_in c.args.session.now in
    let names : Names = names_in c.args.session.now in
    let e : term_tree names c.args.term.now ≡ tree.GraphTerm (named_by (name_of names) c.in-Graph.name) = rw c.in-Graph.is (search (rules, the_lemmas)) in
    subst (λ tree. IsAnswered (DenotesTerm s (standing_at c.args.catalog.now c.args.next) tree) c.graph_named.result) (sym e)
    (subst (λ (gs : List PropertyGraph). IsAnswered (λ outcome. outcome ≡ Ok (named (record { graphs = gs; next = c.args.next }) (number_at s.graph_at c.in-Graph.name.token))) c.graph_named.result) c.graphs-in-Graph.ensures.graphs c.graph_named.ensures.due)

pub term_made-returns-in-Basic-clause-due : goal.term_made-returns-in-Basic-clause-due
term_made-returns-in-Basic-clause-due g t c =
    let s : Scope = scope_in c.args.session.now in
    let names : Names = names_in c.args.session.now in
    let at : Standing = standing_at c.args.catalog.now c.args.next in
    passes_on (DenotesTerm s at (term_tree names c.args.term.now)) (DenotesBasic s at (basic_tree names c.deref.result.now)) c.basic_made.result
    (λ outcome d. subst (λ x. DenotesTerm s at (term_tree names x) outcome) (sym c.in-Basic.is)
    (basic_comes s names at c.in-Basic.basic outcome (subst (λ (b : Basic). DenotesBasic s at (basic_tree names b) outcome) c.deref.ensures d)))
    (subst (λ (gs : List PropertyGraph). IsAnswered (DenotesBasic s (record { graphs = gs; next = c.args.next }) (basic_tree names c.deref.result.now)) c.basic_made.result) c.graphs.ensures.graphs c.basic_made.ensures.due)

pub term_made-returns-in-Query-clause-due : goal.term_made-returns-in-Query-clause-due
term_made-returns-in-Query-clause-due g t c =
    let s : Scope = scope_in c.args.session.now in
    let names : Names = names_in c.args.session.now in
    let at : Standing = standing_at c.args.catalog.now c.args.next in
    passes_on (DenotesTerm s at (term_tree names c.args.term.now)) (Denotes s at (query_tree names c.deref-in-Query.result.now)) c.query_made.result
    (λ outcome d. subst (λ x. DenotesTerm s at (term_tree names x) outcome) (sym c.in-Query.is)
    (inner_comes s names at c.in-Query.query outcome (subst (λ (q : Query). Denotes s at (query_tree names q) outcome) c.deref-in-Query.ensures d))) c.query_made.ensures.due

pub term_made-returns-in-Basic-clause-comes : goal.term_made-returns-in-Basic-clause-comes
term_made-returns-in-Basic-clause-comes g t c =
    subst (λ (gs : List PropertyGraph). ComesOf gs c.args.next c.basic_made.result) c.graphs.ensures.graphs c.basic_made.ensures.comes

pub term_made-returns-in-Graph-clause-comes : goal.term_made-returns-in-Graph-clause-comes
term_made-returns-in-Graph-clause-comes g t c =
    subst (λ (gs : List PropertyGraph). ComesOf gs c.args.next c.graph_named.result) c.graphs-in-Graph.ensures.graphs c.graph_named.ensures.comes

pub term_made-returns-in-Basic-clause-told : goal.term_made-returns-in-Basic-clause-told
term_made-returns-in-Basic-clause-told g t c =
    let s : Scope = scope_in c.args.session.now in
    let names : Names = names_in c.args.session.now in
    let named = c.args.catalog.now.names in
    let at : Standing = standing_at c.args.catalog.now c.args.next in
    if_told c.basic_made.result _ _
    (λ told. tells_as s _ _ c.args.told.now c.basic_made.new.told
    (λ all h. subst (λ x. EvaluatesTerm s named at (term_tree names x) all) (sym c.in-Basic.is)
    (basic_evaluates s names named at c.in-Basic.basic all (subst (λ (b : Basic). EvaluatesBasic s named at.graphs (basic_tree names b) all) c.deref.ensures h)))
    (subst (λ (gs : List PropertyGraph). Tells s (EvaluatesBasic s named gs (basic_tree names c.deref.result.now)) c.args.told.now c.basic_made.new.told) c.graphs.ensures.graphs told))
    c.basic_made.ensures.told

pub term_made-returns-in-Graph-clause-told : goal.term_made-returns-in-Graph-clause-told
unfolding term_by
term_made-returns-in-Graph-clause-told g t c =
    let s : Scope = scope_in c.args.session.now in
    let names : Names = names_in c.args.session.now in
    let at : Standing = standing_at c.args.catalog.now c.args.next in
    let e : term_tree names c.args.term.now ≡ tree.GraphTerm (named_by (name_of names) c.in-Graph.name) = rw c.in-Graph.is (search (rules, the_lemmas)) in
    always c.graph_named.result _
    (tells_none s _ c.args.told.now (subst (λ t. EvaluatesTerm s c.args.catalog.now.names at t []) (sym e) (graph_evaluates s c.args.catalog.now.names at (named_by (name_of names) c.in-Graph.name))))

pub term_made-returns-in-Query-clause-told : goal.term_made-returns-in-Query-clause-told
term_made-returns-in-Query-clause-told g t c =
    let s : Scope = scope_in c.args.session.now in
    let names : Names = names_in c.args.session.now in
    let named = c.args.catalog.now.names in
    let at : Standing = standing_at c.args.catalog.now c.args.next in
    if_told c.query_made.result _ _
    (λ told. tells_as s _ _ c.args.told.now c.query_made.new.told
    (λ all h. subst (λ x. EvaluatesTerm s named at (term_tree names x) all) (sym c.in-Query.is)
    (inner_evaluates s names named at c.in-Query.query all (subst (λ (q : Query). Evaluates s named at (query_tree names q) all) c.deref-in-Query.ensures h)))
    told)
    c.query_made.ensures.told
