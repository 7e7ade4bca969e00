-- How the statements of a session, of which a log is kept, come to a log of the whole.
use Rattle.std.proofs.Common.{◌≡◌, ℕ, suc, ◌+◌, List, [], ◌∷◌, ◌++◌, drop, length, append-nil, append_assoc, Option, Some, None, Result, Ok, Err, refl, sym, ap, ◌∙◌, subst, slice_get}
use Rattle.std.proofs.lemmas.List.{drop_all}
use Rattle.std.specs.Result.{IsErr, IsErrAnd}
use Rattle.gc_ast.specs.Trees.{Tree, AStatement, Ask, View}
use Rattle.gc_base.specs.declared.place.Place.{Place}
use Rattle.gc_catalog.specs.NamedGraphs.{NamedGraphs}
use Rattle.gc_lower.specs.Namings.{scope_in}
use Rattle.gc_lower.specs.Scopes.{Scope}
use Rattle.gc_query.specs.Evaluations.{Evaluation, EvaluatesAll, EvaluatesStatement, names_behind}
use Rattle.gc_query.specs.Logs.{IsGained, Log, Tells, new_log}
use Rattle.gc_query.specs.Sessions.{Answer, Answers, AnswersAsk, AnswersView, behind, printed_by}
use Rattle.gc_query.specs.Sessions as says
use Rattle.gc_query.specs.Standings.{Made, Standing}
use Rattle.gc_query.specs.Steps.{IsStep, free_word, standing, with_named, with_next, with_view}
use Rattle.gc_query.specs.declared.fault.Fault.{Fault}
use Rattle.gc_query.specs.declared.log.Wants.{Wants}
use Rattle.gc_query.specs.declared.log.Wants.TheVariants.{Nothing, Plans, Searches}
use Rattle.gc_spec.specs.PropertyGraph.{PropertyGraph}
use Rattle.gcore.specs.LoggedSessions.{HasLog, LogsSession, LogsStatement, IsFaulted, IsTold}
use Rattle.gcore.specs.Outcomes.{Prints, Request, beginning}
use Rattle.gcore.specs.declared.stop.Stop.{Stop}
use Rattle.gcore.specs.declared.stop.Stop.TheVariants.{Usage, Unread, TooLarge, Refused, Text, Sorts, Certificate, Rejected, Faulted, Unwritten, OutOfMemory}
use Rattle.gcore.specs.declared.style.Style.TheVariants as style
use Rattle.gcore.proofs.StatementLaws.{view_stands}
use Rattle.gcore.proofs.SessionLaws.{IsSoFar, all_done, at_first, drop_at, ends, one_more}

-- what is gained one after another is gained together
abbrev pub GainsAdd : Scope → Type 0
GainsAdd s = (a b c : Log) (xs ys : List Evaluation) → IsGained s a xs b → IsGained s b ys c → IsGained s a (xs ++ ys) c

-- a statement that was answered was told to the log
module _ (s : Scope) (before after : NamedGraphs) (log later : Log) where
  view_names : (statement : Tree AStatement) (made : Made) → Answers s (standing before) statement (says.Names made) → after ≡ with_view before statement made → after.names ≡ names_behind before.names statement
  view_names (View name query) made due is = ap (λ (n : NamedGraphs). n.names) is ∙ by (free_word before.names name.name)
    where
      by : (word : Option (List ℕ)) → (with_named (with_next before made.next) word made.graph).names ≡ before.names ++ word ∷ []
      by None = refl
      by (Some w) = refl
  view_names (Ask query) made due is = absurd (never due.0 due.2)
    where
      never : (o : Result Made Fault) → AnswersAsk o (says.Names made) → ⊥
      never (Ok m) h = cc
      never (Err fault) h = cc

  ask_names : (statement : Tree AStatement) (made : Made) → Answers s (standing before) statement (says.Prints made) → before.names ≡ names_behind before.names statement
  ask_names (Ask query) made due = refl
  ask_names (View name query) made due = absurd (never due.0 due.2)
    where
      never : (o : Result Made Fault) → AnswersView o (says.Prints made) → ⊥
      never (Ok m) h = cc
      never (Err fault) h = cc

  pub told_by : (statement : Tree AStatement) (answer : Option PropertyGraph) → IsStep s before after statement (Ok answer) → Tells s (EvaluatesStatement s before.names (standing before) statement) log later
      → IsTold s before after log later statement
  told_by statement (Some g) (made, due, same, is) told =
      record { answer = says.Prints made; due = due; well = tt; stands = ap standing is; names = ap (λ (n : NamedGraphs). n.names) is ∙ ask_names statement made due; told = told }
  told_by statement None (made, due, is) told =
      record { answer = says.Names made; due = due; well = tt; stands = ap standing is ∙ view_stands s [] 0 before after style.Text statement made due; names = view_names statement made due is; told = told }

module _ (r : Request) (names : List (Option (List ℕ))) (wants : Wants) where
  abbrev scope : Scope
  scope = scope_in r.query.file 0

  abbrev statements : List (Tree AStatement)
  statements = r.query.file.statements

  -- so far the statements before a place have evaluated these CONSTRUCTs, of which a log tells, and the others evaluate theirs behind them
  pub record IsEvaluatedSoFar (i : ℕ) (c : NamedGraphs) (log : Log) : Type 0 where
    pub graphs : List PropertyGraph
    pub so_far : IsSoFar r i (standing c) graphs
    pub all : List Evaluation
    pub leads : (later : List Evaluation) → EvaluatesAll scope c.names (standing c) (drop i statements) later → EvaluatesAll scope names (beginning r.graphs) statements (all ++ later)
    pub gained : IsGained scope (new_log wants) all log

  none_gained : (w : Wants) (log : Log) → log ≡ new_log w → IsGained scope (new_log w) [] log
  none_gained Nothing log h = h
  none_gained Plans log h = h
  none_gained Searches log h = ([], refl, h)

  -- none has at first
  pub at_start : (c : NamedGraphs) (log : Log) → standing c ≡ beginning r.graphs → c.names ≡ names → log ≡ new_log wants → IsEvaluatedSoFar 0 c log
  at_start c log stands named new =
      record {
        graphs = [];
        so_far = subst (λ at. IsSoFar r 0 at []) (sym stands) (at_first r);
        all = [];
        leads = λ later e. subst (λ ns. EvaluatesAll scope ns (beginning r.graphs) statements later) named (subst (λ at. EvaluatesAll scope c.names at statements later) stands e);
        gained = none_gained wants log new;
      }

  first_evaluates : (at : Standing) (ns : List (Option (List ℕ))) (statement : Tree AStatement) (later : List (Tree AStatement)) (answer : Answer) (here rest : List Evaluation)
      → Answers scope at statement answer → EvaluatesStatement scope ns at statement here → EvaluatesAll scope (names_behind ns statement) (behind at answer) later rest
      → EvaluatesAll scope ns at (statement ∷ later) (here ++ rest)
  unfolding EvaluatesAll
  first_evaluates at ns statement later answer here rest due e k = (answer, due, (here, rest, e, k, refl))

  none_evaluated : (at : Standing) (ns : List (Option (List ℕ))) → EvaluatesAll scope ns at [] []
  unfolding EvaluatesAll
  none_evaluated at ns = refl

  module _ (i : ℕ) (c : NamedGraphs) (log : Log) (far : IsEvaluatedSoFar i c log) where
    -- one statement more
    pub told_more : GainsAdd scope → (statement : Tree AStatement) → slice_get statements i ≡ Some statement → (after : NamedGraphs) (later : Log) → IsTold scope c after log later statement
        → IsEvaluatedSoFar (suc i) after later
    told_more add statement there after later p =
        record {
          graphs = far.graphs ++ printed_by p.answer;
          so_far = subst (λ s. IsSoFar r (suc i) s (far.graphs ++ printed_by p.answer)) (sym p.stands) (one_more r i (standing c) far.graphs far.so_far statement there p.answer p.due p.well);
          all = far.all ++ p.told.0;
          leads = λ rest e.
              subst (EvaluatesAll scope names (beginning r.graphs) statements) (sym (append_assoc far.all p.told.0 rest))
              (far.leads (p.told.0 ++ rest)
              (subst (λ sts. EvaluatesAll scope c.names (standing c) sts (p.told.0 ++ rest)) (sym (drop_at statements i statement there))
              (first_evaluates (standing c) c.names statement (drop (suc i) statements) p.answer p.told.0 rest p.due p.told.1
              (subst (λ ns. EvaluatesAll scope ns (behind (standing c) p.answer) (drop (suc i) statements) rest) p.names
              (subst (λ at. EvaluatesAll scope after.names at (drop (suc i) statements) rest) p.stands e)))));
          gained = add (new_log wants) log later far.all p.told.0 far.gained p.told.2;
        }

    -- behind the last one the log is that of the session
    pub logged : drop i statements ≡ [] → HasLog names r wants log
    logged over =
        record {
          all = far.all;
          evaluated = record {
            graphs = far.graphs;
            prints = all_done r i (standing c) far.graphs far.so_far over;
            evaluated = subst (EvaluatesAll scope names (beginning r.graphs) statements) (append-nil far.all)
                (far.leads [] (subst (λ sts. EvaluatesAll scope c.names (standing c) sts []) (sym over) (none_evaluated (standing c) c.names)));
          };
          gained = far.gained;
        }

    -- a statement that stops the session
    pub stops : (statement : Tree AStatement) → slice_get statements i ≡ Some statement → (after : NamedGraphs) (later : Log) (stop : Stop)
        → LogsStatement scope r.query.places c after log later statement (Err stop) → LogsSession names r wants (Err stop)
    stops statement there after later OutOfMemory h = tt
    stops statement there after later (Faulted fault) h = (far.graphs, h.fault, ends r i (standing c) far.graphs far.so_far statement there h.fault h.due, h.told)
    stops statement there after later Usage h = absurd h
    stops statement there after later (Unread file) h = absurd h
    stops statement there after later (TooLarge file) h = absurd h
    stops statement there after later (Refused refusal file) h = absurd h
    stops statement there after later (Text refusal) h = absurd h
    stops statement there after later (Sorts rule place) h = absurd h
    stops statement there after later (Certificate refusal) h = absurd h
    stops statement there after later (Rejected search rule) h = absurd h
    stops statement there after later Unwritten h = absurd h

  -- the same of what a session that stops answers
  pub session_stops : (result : Result Log Stop) (stop : Stop) → IsErr result → IsErrAnd result (λ refusal. refusal ≡ stop) → LogsSession names r wants (Err stop) → LogsSession names r wants result
  session_stops (Ok log) stop err same h = absurd same
  session_stops (Err refusal) stop err same h = subst (λ s. LogsSession names r wants (Err s)) (sym same) h
