-- What stands at a token of a query file: the number of a graph and of a view, and the hidden variable of an
-- unnamed element.
use Rattle.std.specs.Prelude.{ℕ, ◌+◌, Bool, true, false, Option, Some, None, nat_eq, if◌then◌else◌}
use Rattle.std.specs.Option.{option_or}
use Rattle.gc_sorts.specs.Occurrences.{Occurrence, Occurrences, GraphName, ViewName, Unnamed, none, one, both}
use Rattle.gc_sorts.specs.Scopes.{graph_number, view_number}

-- the number of the graph whose name is the occurrence at a token
abbrev pub graph_of : ℕ → Occurrence → Option ℕ
graph_of token (GraphName at name scope) = if nat_eq token at then graph_number scope name else None
graph_of token other = None

-- the same of a view
abbrev pub view_of : ℕ → Occurrence → Option ℕ
view_of token (ViewName at name scope) = if nat_eq token at then view_number scope name else None
view_of token other = None

-- the hidden variable of the unnamed element at a token, where it has this number
abbrev pub hidden_of : ℕ → ℕ → Occurrence → Option ℕ
hidden_of token number (Unnamed at) = if nat_eq token at then Some number else None
hidden_of token number other = None

abbrev pub is_unnamed : Occurrence → Bool
is_unnamed (Unnamed at) = true
is_unnamed other = false

-- the number of the graph whose name stands at a token, if one stands there
abbrev pub graph_at : Occurrences → ℕ → Option ℕ
graph_at none token = None
graph_at (one o) token = graph_of token o
graph_at (both left right) token = option_or (graph_at left token) (graph_at right token)

-- the same of a view
abbrev pub view_at : Occurrences → ℕ → Option ℕ
view_at none token = None
view_at (one o) token = view_of token o
view_at (both left right) token = option_or (view_at left token) (view_at right token)

-- how many unnamed elements there are
abbrev pub unnamed_count : Occurrences → ℕ
unnamed_count none = 0
unnamed_count (one o) = if is_unnamed o then 1 else 0
unnamed_count (both left right) = unnamed_count left + unnamed_count right

-- the hidden variable of the unnamed element at a token, where the first one has this number and each later
-- one the next
abbrev pub hidden_from : ℕ → Occurrences → ℕ → Option ℕ
hidden_from number none token = None
hidden_from number (one o) token = hidden_of token number o
hidden_from number (both left right) token =
    option_or (hidden_from number left token) (hidden_from (number + unnamed_count left) right token)
