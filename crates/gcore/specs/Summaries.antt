-- What is told of a made graph and of the answer of its query.
use Rattle.std.specs.Prelude.{ℕ, List, [], ◌∷◌, ◌++◌, fold, length, map, max, codes, unsigned_abs, Option, Some}
use Rattle.std.specs.Fmt.{decimal}
use Rattle.std.specs.List.{sum}
use Rattle.gc_base.specs.PropertyLists.{values_of}
use Rattle.gc_base.specs.declared.literal.Literal.{Literal}
use Rattle.gc_base.specs.declared.literal.Literal.TheVariants.{Number}
use Rattle.gc_spec.specs.PropertyGraph.{PropertyGraph, Node}

-- Take a ring of 3 nodes: the answer has the nodes 0, 1 and 2 with the costs 0, 1 and 2, so the line is
-- `nodes 3 edges 3 reached 3 cost 3 farthest 2`.

-- the cost among some values: a number that stands alone, as it is without a sign
abbrev pub cost_in : Option (List Literal) → ℕ
cost_in (Some (Number n ∷ [])) = unsigned_abs n
cost_in values = 0

-- the cost of a node: what its property `cost` has
abbrev pub cost_of : Node → ℕ
cost_of node = cost_in (values_of node.properties (codes "cost"))

-- the costs of the nodes of an answer
abbrev pub costs_in : PropertyGraph → List ℕ
costs_in answer = map cost_of answer.nodes

-- the greatest of some numbers, or 0 where there are none
abbrev pub greatest : List ℕ → ℕ
greatest numbers = fold max 0 numbers

-- a word and a number
abbrev pub counted : (word : List ℕ) → ℕ → List ℕ
counted word number = word ++ decimal number

-- the line of some counts
abbrev pub counts_line : (nodes edges reached cost farthest : ℕ) → List ℕ
counts_line nodes edges reached cost farthest =
    counted (codes "nodes ") nodes
    ++ (counted (codes " edges ") edges
    ++ (counted (codes " reached ") reached ++ (counted (codes " cost ") cost ++ (counted (codes " farthest ") farthest ++ 10 ∷ []))))

-- the line of an answer, behind how many nodes and edges the made graph has: how many nodes it has, and the sum and the greatest of their costs
unfoldable pub summary : (nodes edges : ℕ) → (answer : PropertyGraph) → List ℕ
summary nodes edges answer = counts_line nodes edges (length answer.nodes) (sum (costs_in answer)) (greatest (costs_in answer))
