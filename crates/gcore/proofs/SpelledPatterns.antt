-- Each expression of a pattern that tokens spell has parts.
use Rattle.std.proofs.Common.{ℕ, zero, suc, List, [], ◌∷◌, map, Option, Some, None}
use Rattle.std.specs.Prelude.{⊤}
use Rattle.std.specs.List.{AllByRecursion}
use Rattle.gc_regx.specs.Expressions.{HasParts, IsFormed, IsSome}
use Rattle.gc_regx.specs.Trees as regex
use Rattle.gc_regx.specs.Trees.{RegexTree, ARegex, ARow, row}
use Rattle.gc_ast.specs.Trees as tree
use Rattle.gc_ast.specs.Trees.{Tree, Kind, APattern, APathBody, ALocated}
use Rattle.gc_grammar.specs.Words.{Lang}
use Rattle.gc_grammar.specs.Regexes.{Expression, label, any, test, view, group, atom, star, cat, alt, regex_within, chained}
use Rattle.gc_grammar.specs.Regexes as grammar
use Rattle.gc_grammar.specs.Patterns.{angled, pathbody, path, node, edge, edge_of, linked, in_turn, chain, vchain, located}
use Rattle.gc_query.specs.Expressions.{EachExpression, EachHasParts}
use Rattle.gcore.proofs.Languages.{Gives, FirstAndRest, anything, made, both, behind, before, either, each, one_or_more, one_or_more_parted}

-- an expression whose tree has parts
abbrev Parted : Expression → Type 0
Parted e = HasParts e.tree

label_parts : Gives label Parted
unfolding IsFormed
label_parts = made Parted (anything _) by
  where
    by : (n : ℕ) (v : List ℕ × Option (Unit {0})) → ⊤ → Parted (grammar.plain (grammar.turned (regex.Label v.0) (regex.Back v.0) v.1))
    by n (l, None) h = tt
    by n (l, Some u) h = tt

any_parts : Gives any Parted
unfolding IsFormed
any_parts = made Parted (anything _) by
  where
    by : (n : ℕ) (v : Option (Unit {0})) → ⊤ → Parted (grammar.plain (grammar.turned regex.Any regex.AnyBack v))
    by n None h = tt
    by n (Some u) h = tt

test_parts : Gives test Parted
unfolding IsFormed
test_parts = made Parted (anything _) (λ n v h. tt)

view_parts : Gives view Parted
unfolding IsFormed
view_parts = made Parted (anything _) (λ n v h. tt)

-- the trees of expressions that have parts, as a row
row_parts : (es : List Expression) → AllByRecursion Parted es → HasParts (row (map (λ e. e.tree) es))
unfolding IsFormed
row_parts [] h = tt
row_parts (e ∷ es) h = (h.0, row_parts es h.1)

-- one part is itself, and two or more are a juxtaposition or an alternation
chained_parts : (make : RegexTree ARow → RegexTree ARegex) → ((parts : RegexTree ARow) → IsSome parts → HasParts parts → HasParts (make parts))
    → (es : List Expression) → FirstAndRest Parted es → Parted (chained make es)
chained_parts make so [] h = absurd h
chained_parts make so (e ∷ []) h = h.0
chained_parts make so (e ∷ f ∷ es) h = so (row (map (λ g. g.tree) (e ∷ f ∷ es))) tt (row_parts (e ∷ f ∷ es) h)

star_parts : {inside : Lang Expression} → Gives inside Parted → Gives (star inside) Parted
unfolding IsFormed
star_parts {inside = inside} h = made Parted (both whole (anything _)) by
  where
    whole : Gives (atom inside) Parted
    whole = either label_parts (either any_parts (either test_parts (either view_parts (before (behind h)))))

    by : (n : ℕ) (v : Expression × Option (Unit {0})) → Parted v.0 × ⊤ → Parted (grammar.starred v.0 v.1)
    by n (e, None) h = h.0
    by n (e, Some u) h = h.0

cat_parts : {inside : Lang Expression} → Gives inside Parted → Gives (cat inside) Parted
unfolding IsFormed
cat_parts h = made Parted (one_or_more (star_parts h)) (λ n es all. chained_parts regex.Cat (λ parts some has. (some, has)) es all)

alt_parts : {inside : Lang Expression} → Gives inside Parted → Gives (alt inside) Parted
unfolding IsFormed
alt_parts h = made Parted (one_or_more_parted (cat_parts h)) (λ n es all. chained_parts regex.Alt (λ parts some has. (tt, has)) es all)

within_parts : (depth : ℕ) → Gives (regex_within depth) Parted
within_parts zero = record { gives = λ p q ts e s. absurd s }
within_parts (suc depth) = alt_parts (within_parts depth)

regex_parts : Gives grammar.regex Parted
regex_parts = record { gives = λ p q ts e s. (within_parts s.0).gives p q ts e s.1 }

-- trees in which each has, as a row
pub row_all : {k : Kind} (ts : List (Tree k)) → AllByRecursion EachHasParts ts → EachHasParts (tree.row ts)
unfolding EachExpression
row_all [] h = tt
row_all (t ∷ ts) h = (h.0, row_all ts h.1)

angled_parts : Gives angled (λ v. Parted v.1)
angled_parts = made (λ v. Parted v.1) (before (behind regex_parts)) (λ n v h. h)

-- a path
abbrev BodyParted : ℕ × Tree APathBody → Type 0
BodyParted v = EachHasParts v.1

body_parts : Gives pathbody BodyParted
unfolding EachExpression
body_parts =
    either (made BodyParted angled_parts (λ n v h. h))
    (either (made BodyParted (both (anything _) (both (anything _) (both angled_parts (anything _)))) (λ n v h. h.1.1.0))
    (either (made BodyParted (both (anything _) angled_parts) (λ n v h. h.1))
    (made BodyParted (anything _) (λ n v h. tt))))

path_parts : Gives path EachHasParts
unfolding EachExpression
path_parts = made EachHasParts (before (before (before (behind (behind body_parts))))) (λ n v h. h)

node_parts : Gives node EachHasParts
unfolding EachExpression
node_parts = made EachHasParts (anything _) (λ n v h. tt)

edge_parts : Gives edge EachHasParts
unfolding EachExpression
edge_parts = made EachHasParts (anything _) (λ n v h. tt)

-- what stands in an edge
pub edge_gives : {A : Type 0} {L : Lang A} {P : A → Type 0} → Gives L P → Gives (edge_of L) (λ v. P v.0)
edge_gives {P = P} l =
    either (made (λ v. P v.0) (both (before (before (behind (behind l)))) (anything _)) (λ n v h. h.0))
    (made (λ v. P v.0) (before (before (behind (behind (behind l))))) (λ n v h. h))

-- nodes and links in turn
turns : {A : Type 0} (P : A → Type 0) (pairs : List (A × A)) → AllByRecursion (λ v. P v.0 × P v.1) pairs → AllByRecursion P (in_turn pairs)
turns P [] h = tt
turns P (pair ∷ pairs) h = (h.0.0, (h.0.1, turns P pairs h.1))

pub linked_parts : {A : Type 0} {node link : Lang A} {P : A → Type 0} → Gives node P → Gives link P → Gives (linked node link) (AllByRecursion P)
linked_parts {P = P} n l = made (AllByRecursion P) (both n (each (both l n))) (λ k v h. (h.0, turns P v.1 h.1))

pub chain_parts : Gives chain (AllByRecursion EachHasParts)
chain_parts = linked_parts node_parts (either edge_parts path_parts)

pub vchain_parts : Gives vchain (AllByRecursion EachHasParts)
vchain_parts = linked_parts node_parts edge_parts

pub located_parts : Gives located EachHasParts
unfolding EachExpression
located_parts = made EachHasParts (both chain_parts (anything _)) (λ n v h. row_all v.0 h.0)
