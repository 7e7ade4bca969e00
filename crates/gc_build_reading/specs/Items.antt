-- What the items of a CONSTRUCT say of its variables, in the order of the text: at their places, and then in the changes of an item.
use Rattle.std.specs.Prelude.{ℕ, List, [], ◌∷◌, ◌++◌, map, Option, Some, None}
use Rattle.gc_base.specs.declared.place.Sym.{Sym}
use Rattle.gc_expr.specs.Trees.{TreeOf, AnExpr, renamed}
use Rattle.gc_ast.specs.Trees as tree
use Rattle.gc_ast.specs.Trees.{Tree, Named, RowOf, AFormula, AnItem, AConstructPart, ANewElement, AGroupTerm, AnAssign, AChange}
use Rattle.gc_sorts.specs.Uses.{all_of}
use Rattle.gc_build_recipe.specs.Recipes.{Assignment, Chain}
use Rattle.gc_build_recipe.specs.declared.change.LabelOf.{LabelOf}
use Rattle.gc_build_recipe.specs.declared.change.PropertyOf.{PropertyOf}
use Rattle.gc_build_recipe.specs.declared.variable.Term.{Term}
use Rattle.gc_lower.specs.Scopes.{Scope, graph_of, variable_of, variable_or}
use Rattle.gc_build_reading.specs.Places.{element_variable}
use Rattle.gc_build_reading.specs.declared.terms.CopyOf.{CopyOf}
use Rattle.gc_build_reading.specs.declared.terms.TermOf.{TermOf}

-- Take `(x :A {k := 1}) SET x:B SET x.k := 2 REMOVE x:C`: x has the labels A and B, is given k twice, 1 and then 2, and loses C.

-- labels of a variable
abbrev pub labels_of : Sym → List (List ℕ) → List LabelOf
labels_of x labels = map (λ l. record { var = x; label = l }) labels

abbrev pub element_labels : Scope → Tree ANewElement → List LabelOf
element_labels s (tree.NewElement token name copy group labels assigns) = labels_of (variable_or s token name) labels

abbrev pub part_labels : Scope → Tree AConstructPart → List LabelOf
part_labels s (tree.NewNode e) = element_labels s e
part_labels s (tree.NewEdge way e) = element_labels s e
part_labels s (tree.Projected token p) = []
part_labels s (tree.NewStored token p labels assigns) = labels_of (variable_of s p.name) labels

abbrev pub change_labels : Scope → Tree AChange → List LabelOf
change_labels s (tree.AddLabel x l) = labels_of (variable_of s x.name) (l ∷ [])
change_labels s (tree.SetProperty x a) = []
change_labels s (tree.DropProperty x k) = []
change_labels s (tree.DropLabel x l) = []

abbrev pub item_labels : Scope → Tree AnItem → List LabelOf
item_labels s (tree.GraphItem g) = []
item_labels s (tree.ChainItem parts changes condition) = all_of (part_labels s) parts ++ all_of (change_labels s) changes

-- an expression over variables
abbrev pub expression_of : Scope → Tree AFormula → TreeOf Sym AnExpr
expression_of s (tree.Formula e queries) = renamed (variable_of s) e

-- a property that a variable is given
abbrev pub assignment_of : Scope → Sym → Tree AnAssign → Assignment
assignment_of s x (tree.Assign token property value) = record { var = x; token = token; property = property; value = expression_of s value }

abbrev pub assigned : Scope → Sym → Tree AnAssign → List Assignment
assigned s x a = assignment_of s x a ∷ []

abbrev pub assignments_of : Scope → Sym → Tree (RowOf AnAssign) → List Assignment
assignments_of s x assigns = all_of (assigned s x) assigns

abbrev pub element_assignments : Scope → Tree ANewElement → List Assignment
element_assignments s (tree.NewElement token name copy group labels assigns) = assignments_of s (variable_or s token name) assigns

abbrev pub part_assignments : Scope → Tree AConstructPart → List Assignment
part_assignments s (tree.NewNode e) = element_assignments s e
part_assignments s (tree.NewEdge way e) = element_assignments s e
part_assignments s (tree.Projected token p) = []
part_assignments s (tree.NewStored token p labels assigns) = assignments_of s (variable_of s p.name) assigns

abbrev pub change_assignments : Scope → Tree AChange → List Assignment
change_assignments s (tree.SetProperty x a) = assignment_of s (variable_of s x.name) a ∷ []
change_assignments s (tree.AddLabel x l) = []
change_assignments s (tree.DropProperty x k) = []
change_assignments s (tree.DropLabel x l) = []

abbrev pub item_assignments : Scope → Tree AnItem → List Assignment
item_assignments s (tree.GraphItem g) = []
item_assignments s (tree.ChainItem parts changes condition) = all_of (part_assignments s) parts ++ all_of (change_assignments s) changes

-- a label that a variable loses
abbrev pub change_lost_labels : Scope → Tree AChange → List LabelOf
change_lost_labels s (tree.DropLabel x l) = labels_of (variable_of s x.name) (l ∷ [])
change_lost_labels s (tree.SetProperty x a) = []
change_lost_labels s (tree.AddLabel x l) = []
change_lost_labels s (tree.DropProperty x k) = []

abbrev pub item_lost_labels : Scope → Tree AnItem → List LabelOf
item_lost_labels s (tree.GraphItem g) = []
item_lost_labels s (tree.ChainItem parts changes condition) = all_of (change_lost_labels s) changes

-- a property that a variable loses
abbrev pub change_lost_properties : Scope → Tree AChange → List PropertyOf
change_lost_properties s (tree.DropProperty x k) = record { var = variable_of s x.name; property = k } ∷ []
change_lost_properties s (tree.SetProperty x a) = []
change_lost_properties s (tree.AddLabel x l) = []
change_lost_properties s (tree.DropLabel x l) = []

abbrev pub item_lost_properties : Scope → Tree AnItem → List PropertyOf
item_lost_properties s (tree.GraphItem g) = []
item_lost_properties s (tree.ChainItem parts changes condition) = all_of (change_lost_properties s) changes

-- a term by which a variable is grouped
abbrev pub term_of : Scope → Tree AGroupTerm → Term
term_of s (tree.GroupTerm x property) = record { var = variable_of s x.name; property = property }

abbrev pub grouped : Scope → Sym → Tree AGroupTerm → List TermOf
grouped s x t = record { var = x; term = term_of s t } ∷ []

abbrev pub terms_of : Scope → Sym → Tree (RowOf AGroupTerm) → List TermOf
terms_of s x group = all_of (grouped s x) group

abbrev pub element_terms : Scope → Tree ANewElement → List TermOf
element_terms s (tree.NewElement token name copy group labels assigns) = terms_of s (variable_or s token name) group

abbrev pub part_terms : Scope → Tree AConstructPart → List TermOf
part_terms s (tree.NewNode e) = element_terms s e
part_terms s (tree.NewEdge way e) = element_terms s e
part_terms s (tree.Projected token p) = []
part_terms s (tree.NewStored token p labels assigns) = []

abbrev pub item_terms : Scope → Tree AnItem → List TermOf
item_terms s (tree.GraphItem g) = []
item_terms s (tree.ChainItem parts changes condition) = all_of (part_terms s) parts

-- the variable of the MATCH that a variable copies
abbrev pub copies_of : Scope → Sym → Option Named → List CopyOf
copies_of s x None = []
copies_of s x (Some y) = record { var = x; copied = variable_of s y.name } ∷ []

abbrev pub element_copies : Scope → Tree ANewElement → List CopyOf
element_copies s (tree.NewElement token name copy group labels assigns) = copies_of s (variable_or s token name) copy

abbrev pub part_copies : Scope → Tree AConstructPart → List CopyOf
part_copies s (tree.NewNode e) = element_copies s e
part_copies s (tree.NewEdge way e) = element_copies s e
part_copies s (tree.Projected token p) = []
part_copies s (tree.NewStored token p labels assigns) = []

abbrev pub item_copies : Scope → Tree AnItem → List CopyOf
item_copies s (tree.GraphItem g) = []
item_copies s (tree.ChainItem parts changes condition) = all_of (part_copies s) parts

-- the variables of the nodes, edges and stored paths of a chain, and the paths of which it takes the nodes and edges alone
abbrev pub part_variables : Scope → Tree AConstructPart → List Sym
part_variables s (tree.NewNode e) = element_variable s e ∷ []
part_variables s (tree.NewEdge way e) = element_variable s e ∷ []
part_variables s (tree.Projected token p) = []
part_variables s (tree.NewStored token p labels assigns) = variable_of s p.name ∷ []

abbrev pub part_projected : Scope → Tree AConstructPart → List Sym
part_projected s (tree.Projected token p) = variable_of s p.name ∷ []
part_projected s (tree.NewNode e) = []
part_projected s (tree.NewEdge way e) = []
part_projected s (tree.NewStored token p labels assigns) = []

-- the condition after WHEN, if there is one
abbrev pub condition_of : Scope → Tree (RowOf AFormula) → Option (TreeOf Sym AnExpr)
condition_of s tree.none = None
condition_of s (tree.more formula formulas) = Some (expression_of s formula)

-- the chain of an item that is one, and the graph of an item that is one
abbrev pub chain_of : Scope → Tree (RowOf AConstructPart) → Tree (RowOf AFormula) → Chain
chain_of s parts condition =
    record { places = all_of (part_variables s) parts; projected = all_of (part_projected s) parts; condition = condition_of s condition }

abbrev pub item_chains : Scope → Tree AnItem → List Chain
item_chains s (tree.GraphItem g) = []
item_chains s (tree.ChainItem parts changes condition) = chain_of s parts condition ∷ []

abbrev pub item_graphs : Scope → Tree AnItem → List ℕ
item_graphs s (tree.GraphItem g) = graph_of s (Some g) ∷ []
item_graphs s (tree.ChainItem parts changes condition) = []
