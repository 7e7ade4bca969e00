-- What the names and the tokens of a checked file stand for.
use Rattle.std.specs.Prelude.{ℕ, Bool, true, false, List, length, Option, Some, None}
use Rattle.std.specs.Option.{unwrap_or}
use Rattle.gc_base.specs.declared.place.Sym.{Sym}
use Rattle.gc_expr.specs.Views.{Names, name_of}
use Rattle.gc_ast.specs.Names.{number_in}
use Rattle.gc_ast.specs.Trees.{Tree, AHead, Named}
use Rattle.gc_sorts.specs.Blocks.{Placed, sort_in}
use Rattle.gc_sorts.specs.declared.sort.Sort.{Sort}
use Rattle.gc_sorts.specs.declared.sort.Sort.TheVariants as sort
use Rattle.gc_alg.specs.declared.atom.ViewUse.{ViewUse}

-- the names of a file by number; what stands at a token: the number of a graph, the number of a view, and the hidden variable
-- of an unnamed element; the views by number, each as the head that declares it; the blocks by number; and the number of the graph
-- of a chain without ON
pub record Scope : Type 0 where
  pub names : Names
  pub graph_at : ℕ → Option ℕ
  pub view_at : ℕ → Option ℕ
  pub hidden_at : ℕ → Option ℕ
  pub views : List (Tree AHead)
  pub blocks : List Placed
  pub on : ℕ

-- the number that stands at a token, where the rules of sorts let no file be without one; else it would be the first
abbrev pub number_at : (ℕ → Option ℕ) → (token : ℕ) → ℕ
number_at at token = unwrap_or (at token) 0

-- the variable of a name is its number in the file's table; a name that the table lacks, which no file has, has the number
-- behind the last
abbrev pub numbered : Names → (name : List ℕ) → Sym
numbered names name = record { 0 = unwrap_or (number_in names name) (length names) }

abbrev pub variable_of : Scope → (name : List ℕ) → Sym
variable_of s name = numbered s.names name

-- the variable of an element: that of its name, or the hidden one
abbrev pub variable_or : Scope → (token : ℕ) → Option Named → Sym
variable_or s token None = record { 0 = number_at s.hidden_at token }
variable_or s token (Some x) = variable_of s x.name

-- the graph that a chain stands on
abbrev pub graph_of : Scope → Option Named → ℕ
graph_of s None = s.on
graph_of s (Some g) = number_at s.graph_at g.token

-- the view that a name in an expression means
abbrev pub view_use : Scope → Named → ViewUse
view_use s v = record { name = v.name; view = record { 0 = number_at s.view_at v.token } }

-- whether a variable of the block of a MATCH stands for a walk that is looked for, by its sort there, which is that of its first place. So
-- it does exactly where a found path pattern of the MATCH, or of one of its OPTIONAL blocks, binds it: in
-- `MATCH (x)-/p<:A> COST c/->(y)-/@q/->(z) OPTIONAL (x)-/2 SHORTEST r<:B>/->(w)` these are p and r. An unnamed element has no sort.
abbrev pub is_found_sort : Option Sort → Bool
is_found_sort (Some sort.Found) = true
is_found_sort other = false

abbrev pub is_found_in : Scope → (block : ℕ) → Sym → Bool
is_found_in s block x = is_found_sort (sort_in s.blocks block (name_of s.names x))
