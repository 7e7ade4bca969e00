-- What expressions break is what their places break.
use Rattle.std.proofs.Common.{◌&&◌, ◌∙◌, ◌≡◌, ℕ, ◌+◌, Bool, true, false, not, List, [], ◌∷◌, ◌++◌, map, Option, None, Some, is_some, slice_get}
use Rattle.std.proofs.Common.{unwrap_or, refl, sym, ap, subst}
use Rattle.std.specs.Option.{option_map}
use Rattle.std.proofs.lemmas.Option.{slice_get-map}
use Rattle.gc_expr.specs.Trees as expr
use Rattle.gc_expr.specs.Trees.{ExprTree, Kind, AnExpr, ANode}
use Rattle.gc_ast.specs.Trees as tree
use Rattle.gc_ast.specs.Trees.{Tree, Named, RowOf, AFormula, AQuery, ATerm, AnItem, AConstructPart}
use Rattle.gc_sorts.specs.declared.breach.SortRule.TheVariants.{UnknownName, SortClash, AggregateHere, ExistsForm}
use Rattle.gc_sorts.specs.declared.form.Form.{Form}
use Rattle.gc_sorts.specs.declared.form.Form.TheVariants.{Unknown, Condition, Node, Edge, Stored, All, Value}
use Rattle.gc_sorts.specs.declared.form.Takes.{Takes}
use Rattle.gc_sorts.specs.declared.form.Takes.TheVariants as takes
use Rattle.gc_sorts.specs.declared.sort.Role.{Role}
use Rattle.gc_sorts.specs.declared.sort.Role.TheVariants as role
use Rattle.gc_sorts.specs.Breaches.{none, both, broken_if}
use Rattle.gc_sorts.specs.Constructs.{formula_breaches}
use Rattle.gc_sorts.specs.Expressions as known
use Rattle.gc_sorts.specs.Expressions.{Standing, use_form, role_form, misfit, unknown_if, name_breaches, left_takes, right_takes}
use Rattle.gc_sorts.specs.Expressions.{fold_takes, may_ask, expression_breaches}
use Rattle.gc_sorts.specs.Graphs.{has_name}
use Rattle.gc_sorts.specs.SortRules as sorts
use Rattle.gc_sorts.specs.SortRules.{are_existence}
use Rattle.gc_sorts.specs.Variables.{Use, first_use, has_use}
use Rattle.gc_sort_rules.specs.Places.{Scope, At, Name, Operand, Aggregate, Exists, Around, Assigned, Aggregated}
use Rattle.gc_sort_rules.specs.ExpressionPlaces.{Setting, standing, name_form, named, in_expression, in_formula, queries_of}
use Rattle.gc_sort_rules.specs.ExistsForm.{is_bare_node, is_bare, is_bare_term, is_existence}
use Rattle.gc_sort_rules.specs.SortClash.{is_comparable, is_taken}
use Rattle.gc_sort_rules.proofs.Same.{Same, none_same, both_same, place_same, listed, told}

-- where an expression stands, as gc_sorts has it: of each EXISTS whether it may stand there
abbrev pub held : Setting → Standing
held s = record { uses = s.scope.variables; stored = s.stored; exists = map sorts.is_existence s.queries }

abbrev pub folds : Around → Bool
folds Assigned = true
folds around = false

-- what an expression is hangs on no EXISTS
node_known : (s : Setting) (node : ExprTree ANode) → known.node_form (standing s) node ≡ known.node_form (held s) node
node_known s (expr.Var x) = refl
node_known s other = refl

form_known : (s : Setting) (e : ExprTree AnExpr) → known.form (standing s) e ≡ known.form (held s) e
form_known s (expr.At token node) = node_known s node

-- what a place takes
comparable_alike : (a b : Form) → known.is_comparable a b ≡ is_comparable a b
comparable_alike Value Value = refl
comparable_alike Node Node = refl
comparable_alike Edge Edge = refl
comparable_alike Stored Stored = refl
comparable_alike a b = refl

taken_alike : (place : Takes) (form : Form) → known.is_taken place form ≡ is_taken place form
taken_alike takes.Anything form = refl
taken_alike takes.Condition Condition = refl
taken_alike takes.Condition form = refl
taken_alike takes.Value Value = refl
taken_alike takes.Value form = refl
taken_alike takes.Described Node = refl
taken_alike takes.Described form = refl
taken_alike takes.Counted Condition = refl
taken_alike takes.Counted form = refl
taken_alike takes.Walked Stored = refl
taken_alike takes.Walked form = refl
taken_alike (takes.Like Unknown) form = refl
taken_alike (takes.Like other) form = comparable_alike other form

-- an expression or a name where its place takes some forms
operand_told : (place : Takes) (form : Form) (token : ℕ) (s : Scope) → listed (misfit place form token) [] ≡ told (At token (Operand place form) s)
operand_told place Unknown token s = refl
operand_told place All token s = refl
operand_told place form token s = ap (λ t. listed (broken_if (not t) SortClash token) []) (taken_alike place form)

pub operand_same : (place : Takes) (form : Form) (token : ℕ) (s : Scope) → Same (misfit place form token) (At token (Operand place form) s ∷ [])
operand_same place form token s = place_same (misfit place form token) (At token (Operand place form) s) (operand_told place form token s)

-- a name, which has no sort just where it has no place
role_is_known : (kept : Bool) (r : Role) (token : ℕ) → unknown_if (role_form kept r) token ≡ none
role_is_known true role.Found token = refl
role_is_known false role.Found token = refl
role_is_known kept r token = refl

unknown_is : (kept : Bool) (first : Option Use) (token : ℕ) → unknown_if (use_form kept first) token ≡ broken_if (not (is_some first)) UnknownName token
unknown_is kept None token = refl
unknown_is kept (Some first) token = role_is_known kept first.role token

pub name_same : (s : Scope) (kept : Bool) (name : List ℕ) (token : ℕ)
    → Same (unknown_if (use_form kept (first_use s.variables name)) token) (At token (Name name) s ∷ [])
name_same s kept name token =
    subst (λ bs. Same bs (At token (Name name) s ∷ [])) (sym (unknown_is kept (first_use s.variables name) token))
    (place_same (broken_if (not (has_use s.variables name)) UnknownName token) (At token (Name name) s) refl)

pub named_same : (s : Setting) (place : Takes) (name : List ℕ) (token : ℕ) → Same (name_breaches (held s) place name token) (named s place name token)
named_same s place name token =
    both_same (unknown_if (name_form s name) token) (misfit place (name_form s name) token) (At token (Name name) s.scope ∷ [])
    (At token (Operand place (name_form s name)) s.scope ∷ []) (name_same s.scope (has_name s.stored name) name token)
    (operand_same place (name_form s name) token s.scope)

-- an aggregate
aggregate_told : (around : Around) (token : ℕ) (s : Scope)
    → listed (broken_if (not (folds around)) AggregateHere token) [] ≡ told (At token (Aggregate around) s)
aggregate_told Assigned token s = refl
aggregate_told around token s = refl

-- the form of the query of an EXISTS
and_true : (t : Bool) → t && true ≡ t
and_true true = refl
and_true false = refl

and_false : (t : Bool) → t && false ≡ false
and_false true = refl
and_false false = refl

node_alike : (part : Tree AConstructPart) → sorts.is_bare_part part ≡ is_bare_node part
node_alike (tree.NewNode (tree.NewElement token None None tree.none [] tree.none)) = refl
node_alike part = refl

bare_alike : (item : Tree AnItem) → sorts.is_bare_item item ≡ is_bare item
bare_alike (tree.ChainItem (tree.more part tree.none) tree.none tree.none) = and_true (sorts.is_bare_part part) ∙ node_alike part
bare_alike (tree.ChainItem (tree.more part tree.none) tree.none (tree.more f fs)) = and_false (sorts.is_bare_part part)
bare_alike (tree.ChainItem (tree.more part tree.none) (tree.more change changes) condition) = and_false (sorts.is_bare_part part)
bare_alike item = refl

term_alike : (term : Tree ATerm) → sorts.is_bare_term term ≡ is_bare_term term
term_alike (tree.BasicTerm (tree.Basic token (tree.more item tree.none) main tree.none)) = and_true (sorts.is_bare_item item) ∙ bare_alike item
term_alike (tree.BasicTerm (tree.Basic token (tree.more item tree.none) main (tree.more o os))) = and_false (sorts.is_bare_item item)
term_alike term = refl

existence_alike : (query : Tree AQuery) → sorts.is_existence query ≡ is_existence query
existence_alike (tree.Query tree.none term tree.none) = term_alike term
existence_alike query = refl

-- an EXISTS
ask_told : (query : Option (Tree AQuery)) (token : ℕ) (s : Scope)
    → listed (broken_if (not (unwrap_or (option_map sorts.is_existence query) false)) ExistsForm token) [] ≡ told (At token (Exists query) s)
ask_told None token s = refl
ask_told (Some query) token s = ap (λ t. listed (broken_if (not t) ExistsForm token) []) (existence_alike query)

ask_same : (s : Setting) (i token : ℕ)
    → Same (broken_if (not (may_ask (held s) i)) ExistsForm token) (At token (Exists (slice_get s.queries i)) s.scope ∷ [])
ask_same s i token =
    subst (λ o. Same (broken_if (not (unwrap_or o false)) ExistsForm token) (At token (Exists (slice_get s.queries i)) s.scope ∷ []))
    (sym (slice_get-map sorts.is_existence s.queries i))
    (place_same (broken_if (not (unwrap_or (option_map sorts.is_existence (slice_get s.queries i)) false)) ExistsForm token)
    (At token (Exists (slice_get s.queries i)) s.scope) (ask_told (slice_get s.queries i) token s.scope))

pub expression_same : {k : Kind} (s : Setting) (around : Around) (place : Takes) (at : ℕ) (e : ExprTree k)
    → Same (expression_breaches (held s) (folds around) place at e) (in_expression s around place at e)
unfolding expression_breaches in_expression
expression_same s around place at (expr.At token node) =
    both_same (misfit place (known.node_form (held s) node) token) (expression_breaches (held s) (folds around) place token node)
    (At token (Operand place (known.node_form (standing s) node)) s.scope ∷ []) (in_expression s around place token node)
    (subst (λ form. Same (misfit place form token) (At token (Operand place (known.node_form (standing s) node)) s.scope ∷ [])) (node_known s node)
    (operand_same place (known.node_form (standing s) node) token s.scope))
    (expression_same s around place token node)
expression_same s around place at (expr.Number n) = none_same
expression_same s around place at (expr.Text t) = none_same
expression_same s around place at (expr.Truth b) = none_same
expression_same s around place at (expr.Var x) = name_same s.scope (has_name s.stored x) x at
expression_same s around place at (expr.Property e k) = expression_same s around takes.Described at e
expression_same s around place at (expr.Labelled e l) = expression_same s around takes.Described at e
expression_same s around place at (expr.NodeAt p i) =
    both_same (name_breaches (held s) takes.Walked p (at + 2)) (expression_breaches (held s) (folds around) takes.Value at i)
    (named s takes.Walked p (at + 2)) (in_expression s around takes.Value at i)
    (named_same s takes.Walked p (at + 2)) (expression_same s around takes.Value at i)
expression_same s around place at (expr.EdgeAt p i) =
    both_same (name_breaches (held s) takes.Walked p (at + 2)) (expression_breaches (held s) (folds around) takes.Value at i)
    (named s takes.Walked p (at + 2)) (in_expression s around takes.Value at i)
    (named_same s takes.Walked p (at + 2)) (expression_same s around takes.Value at i)
expression_same s around place at (expr.Length p) = named_same s takes.Walked p (at + 2)
expression_same s around place at (expr.Aggregate f operand) =
    both_same (broken_if (not (folds around)) AggregateHere at) (expression_breaches (held s) false (fold_takes f) at operand)
    (At at (Aggregate around) s.scope ∷ []) (in_expression s Aggregated (fold_takes f) at operand)
    (place_same (broken_if (not (folds around)) AggregateHere at) (At at (Aggregate around) s.scope) (aggregate_told around at s.scope))
    (expression_same s Aggregated (fold_takes f) at operand)
expression_same s around place at (expr.Negate e) = expression_same s around takes.Value at e
expression_same s around place at (expr.Sum e parts) =
    both_same (expression_breaches (held s) (folds around) takes.Value at e) (expression_breaches (held s) (folds around) takes.Value at parts)
    (in_expression s around takes.Value at e) (in_expression s around takes.Value at parts)
    (expression_same s around takes.Value at e) (expression_same s around takes.Value at parts)
expression_same s around place at (expr.Product e parts) =
    both_same (expression_breaches (held s) (folds around) takes.Value at e) (expression_breaches (held s) (folds around) takes.Value at parts)
    (in_expression s around takes.Value at e) (in_expression s around takes.Value at parts)
    (expression_same s around takes.Value at e) (expression_same s around takes.Value at parts)
expression_same s around place at (expr.Compare how a b) =
    subst (λ form. Same
    (both (expression_breaches (held s) (folds around) (left_takes how) at a) (expression_breaches (held s) (folds around) (right_takes how form) at b))
    (in_expression s around (left_takes how) at a ++ in_expression s around (right_takes how (known.form (standing s) a)) at b))
    (form_known s a)
    (both_same (expression_breaches (held s) (folds around) (left_takes how) at a)
    (expression_breaches (held s) (folds around) (right_takes how (known.form (standing s) a)) at b)
    (in_expression s around (left_takes how) at a) (in_expression s around (right_takes how (known.form (standing s) a)) at b)
    (expression_same s around (left_takes how) at a) (expression_same s around (right_takes how (known.form (standing s) a)) at b))
expression_same s around place at (expr.Not e) = expression_same s around takes.Condition at e
expression_same s around place at (expr.And parts) = expression_same s around takes.Condition at parts
expression_same s around place at (expr.Or parts) = expression_same s around takes.Condition at parts
expression_same s around place at (expr.Exists i) = ask_same s i at
expression_same s around place at (expr.SumPart minus e) = expression_same s around place at e
expression_same s around place at (expr.ProductPart op e) = expression_same s around place at e
expression_same s around place at expr.none = none_same
expression_same s around place at (expr.more e es) =
    both_same (expression_breaches (held s) (folds around) place at e) (expression_breaches (held s) (folds around) place at es)
    (in_expression s around place at e) (in_expression s around place at es)
    (expression_same s around place at e) (expression_same s around place at es)

pub formula_same : (s : Setting) (around : Around) (place : Takes) (f : Tree AFormula)
    → Same (formula_breaches (held s) (folds around) place f) (in_formula s around place f)
formula_same s around place (tree.Formula e queries) = expression_same s around place 0 e

-- which queries of a row may stand behind EXISTS, as a list
pub existences : (queries : Tree (RowOf AQuery)) → are_existence queries ≡ map sorts.is_existence (queries_of queries)
existences tree.none = refl
existences (tree.more query queries) = ap (λ rest. sorts.is_existence query ∷ rest) (existences queries)
