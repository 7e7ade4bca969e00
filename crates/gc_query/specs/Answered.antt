-- What the code of a query gives: what the query denotes, or want of memory.
use Rattle.std.specs.Prelude.{◌≡◌, ℕ, ◌≤◌, Bool, true, false, List, length, map, take, Result, Ok, Err, IfOk, ⊤}
use Rattle.std.specs.List.{Contains}
use Rattle.std.specs.Option.{option_map}
use Rattle.gc_ast.specs.PatternViews.{named, pattern_tree}
use Rattle.gc_ast.specs.QueryViews.{formula_tree}
use Rattle.gc_ast.specs.Trees.{maybe, rows}
use Rattle.gc_ast.specs.declared.pattern.Pattern.{Pattern}
use Rattle.gc_ast.specs.declared.pattern.Pattern.TheVariants as pattern
use Rattle.gc_build.specs.declared.built.Built.{Built}
use Rattle.gc_build.specs.declared.built.Refusal.{Refusal}
use Rattle.gc_build.specs.declared.built.Refusal.TheVariants as build
use Rattle.gc_catalog.specs.NamedGraphs.{NamedGraphs}
use Rattle.gc_expr.specs.Views.{Names}
use Rattle.gc_lower.specs.Namings.{scope_of}
use Rattle.gc_lower.specs.Scopes.{Scope}
use Rattle.gc_automata.specs.Moves.{Segment}
use Rattle.gc_sets.specs.Origins.{AreMadeInTurn, ComesFrom}
use Rattle.gc_spec.specs.PropertyGraph.{PropertyGraph}
use Rattle.gc_views.specs.declared.fault.ViewFault.{ViewFault}
use Rattle.gc_views.specs.declared.fault.ViewFault.TheVariants as view
use Rattle.gc_query.specs.Segments.{Declared, declared}
use Rattle.gc_query.specs.Standings.{Standing, Made}
use Rattle.gc_query.specs.declared.fault.Fault.{Fault}
use Rattle.gc_query.specs.declared.fault.Fault.TheVariants.{Undefined, BadCost, IdsSpent}
use Rattle.gc_query.specs.declared.fault.QueryRefusal.{QueryRefusal}
use Rattle.gc_query.specs.declared.fault.QueryRefusal.TheVariants as refusal
use Rattle.gc_query.specs.declared.path_views.PathView.{PathView}
use Rattle.gc_query.specs.declared.session.Session.{Session}

-- a refusal tells the fault that is due, or want of memory, which is free
abbrev pub IsRefused : (IsDue : Fault → Type 0) → QueryRefusal → Type 0
IsRefused IsDue (refusal.Fault fault) = IsDue fault
IsRefused IsDue refusal.Memory = ⊤

-- what is due is given, or refused
abbrev pub IsAnswered : {A : Type 0} → (IsDue : Result A Fault → Type 0) → Result A QueryRefusal → Type 0
IsAnswered IsDue (Ok x) = IsDue (Ok x)
IsAnswered IsDue (Err refused) = IsRefused (λ fault. IsDue (Err fault)) refused

-- what a CONSTRUCT at a token comes to, as the outcome of a query
abbrev pub outcome_of : (token : ℕ) → Result Built Refusal → Result Made QueryRefusal
outcome_of token (Ok built) = Ok (record { graph = built.graph; next = built.next })
outcome_of token (Err (build.Fault f)) = Err (refusal.Fault (Undefined f.at f.row f.why))
outcome_of token (Err (build.IdsSpent needed)) = Err (refusal.Fault (IdsSpent token needed))
outcome_of token (Err build.Memory) = Err refusal.Memory

-- what a view whose name is at a token comes to, as the outcome of a query
abbrev pub told_of : (token : ℕ) → Result (List Segment) ViewFault → Result (List Segment) QueryRefusal
told_of token (Ok segments) = Ok segments
told_of token (Err (view.BadCost walk)) = Err (refusal.Fault (BadCost token walk))
told_of token (Err view.Memory) = Err refusal.Memory

-- whether a pattern is a node or an edge
abbrev pub plain_pattern : Pattern → Bool
plain_pattern (pattern.Node e) = true
plain_pattern (pattern.Edge way e) = true
plain_pattern (pattern.Path token regex_at body) = false

-- what a PATH head says, by the names of a file
abbrev pub declared_in : Names → PathView → Declared
declared_in names v =
    declared (named names v.name) (rows (map (λ c. map (pattern_tree names) c.parts) v.chains.now)) (maybe (option_map (formula_tree names) v.filter.now))
    (maybe (option_map (formula_tree names) v.cost.now))

-- the next identity rises, at most to one more than the largest
abbrev pub Rises : (next : ℕ) → Result Made QueryRefusal → Type 0
Rises next result = IfOk result (λ made. (next ≤ made.next) × (made.next ≤ 9007199254740992))

-- what is made comes from graphs, with new identities from the next one on
abbrev pub ComesOf : List PropertyGraph → (next : ℕ) → Result Made QueryRefusal → Type 0
ComesOf graphs next result = IfOk result (λ made. ComesFrom graphs next made.next made.graph)

-- and where a graph comes from somewhere, what is made of it does too
abbrev pub ComesAlong : List PropertyGraph → (first : Made) → Result Made QueryRefusal → Type 0
ComesAlong graphs first result = (next : ℕ) → next ≤ first.next → ComesFrom graphs next first.next first.graph → ComesOf graphs next result

-- what is made of two graphs comes from where they do, where the second was made after the first
abbrev pub ComesOfBoth : (a b : PropertyGraph) → (after : ℕ) → PropertyGraph → Type 0
ComesOfBoth a b after g = (graphs : List PropertyGraph) (next : ℕ) → AreMadeInTurn graphs next after a b → ComesFrom graphs next after g

-- all graphs that stand then come from those before
abbrev pub AllCome : (graphs : List PropertyGraph) (next : ℕ) → (after : List PropertyGraph) → Result ℕ QueryRefusal → Type 0
AllCome graphs next after result = IfOk result (λ free. (g : PropertyGraph) → Contains after g → ComesFrom graphs next free g)

-- what a session reads
abbrev pub scope_in : Session → Scope
scope_in s = scope_of s.checked.now 0

abbrev pub names_in : Session → Names
names_in s = s.checked.now.file.names

-- what stands in a catalog, where another identity is the next one
abbrev pub standing_at : NamedGraphs → (next : ℕ) → Standing
standing_at c next = record { graphs = c.graphs; next = next }

-- a catalog that was added to: the same graphs with the same names, and behind them others
pub record IsLonger (before after : NamedGraphs) : Type 0 where
  pub names : take (length before.names) after.names ≡ before.names
  pub graphs : take (length before.graphs) after.graphs ≡ before.graphs
  pub named : length before.names ≤ length after.names
  pub count : length before.graphs ≤ length after.graphs
  pub later : before.next ≤ after.next

-- the same of what stands in a catalog, of which the next identity is given
abbrev pub AreStood : (IsDue : Result Standing Fault → Type 0) → (after : NamedGraphs) → Result ℕ QueryRefusal → Type 0
AreStood IsDue after (Ok next) = IsDue (Ok (standing_at after next))
AreStood IsDue after (Err refused) = IsRefused (λ fault. IsDue (Err fault)) refused

-- the next identity rises, from that of the catalog on
abbrev pub RisesOver : (next : ℕ) → (after : NamedGraphs) → Result ℕ QueryRefusal → Type 0
RisesOver next after result = IfOk result (λ free. (next ≤ free) × (after.next ≤ free) × (free ≤ 9007199254740992))
