-- A condition reads of what a row makes only the variables that it names.
use Rattle.std.proofs.Common.{◌≡◌, ℕ, ◌==◌, ◌||◌, Bool, true, false, cond, List, [], ◌∷◌, ◌++◌, map, Option, Some, None, refl, sym, ap, ◌∙◌, subst, arith}
use Rattle.std.proofs.lemmas.Bool.Decides.{nat_tests}
use Rattle.std.proofs.lemmas.List.Folds.{list_any-append}
use Rattle.std.specs.List.{find, flat_map}
use Rattle.std.specs.Option.{option_map, option_to_list}
use Rattle.gc_base.specs.declared.place.Sym.{Sym}
use Rattle.gc_build_recipe.specs.declared.variable.Variable.{Variable}
use Rattle.gc_expr.specs.Trees.{Kind, TreeOf, AnExpr, At, Number, Text, Truth, Var, Property, Labelled, NodeAt, EdgeAt, Length}
use Rattle.gc_expr.specs.Trees.{Aggregate, Negate, Sum, Product, Compare, Not, And, Or, Exists, SumPart, ProductPart, none, more}
use Rattle.gc_rows.specs.Rows.{lists}
use Rattle.gc_rows.specs.declared.row.Binding.{Binding}
use Rattle.gc_values.specs.ExprTruths.{truth_of}
use Rattle.gc_values.specs.Mentions.{mentions}
use Rattle.gc_values.specs.declared.reads.Made.{Made}
use Rattle.gc_build.specs.Kept.{when_context}
use Rattle.gc_build.specs.Makings.{Making, all_made, made_at}
use Rattle.gc_build.specs.Names.{names_in, found_of}
use Rattle.gc_build.proofs.SameMade.{truth_same}

same_number : (m n : ℕ) → (m == n) ≡ true → m ≡ n
same_number m n h = grind (arith, nat_tests)

-- a variable occurs in an expression where it is among the names in it
both : {k j : Kind} (x : Sym) (t : TreeOf Sym k) (u : TreeOf Sym j) → mentions x t ≡ lists (names_in t) x → mentions x u ≡ lists (names_in u) x
    → (mentions x t || mentions x u) ≡ lists (names_in t ++ names_in u) x
both x t u g h = (λ i. g i || h i) ∙ sym (list_any-append (λ y. y.0 == x.0) (names_in t) (names_in u))

alone : (b : Bool) → b ≡ (b || false)
alone true = refl
alone false = refl

occurs : {k : Kind} (x : Sym) (t : TreeOf Sym k) → mentions x t ≡ lists (names_in t) x
unfolding mentions names_in
occurs x (At token node) = occurs x node
occurs x (Number n) = refl
occurs x (Text t) = refl
occurs x (Truth b) = refl
occurs x (Var y) = alone (y.0 == x.0)
occurs x (Property e k) = occurs x e
occurs x (Labelled e l) = occurs x e
occurs x (NodeAt p i) = ap (λ b. p.0 == x.0 || b) (occurs x i)
occurs x (EdgeAt p i) = ap (λ b. p.0 == x.0 || b) (occurs x i)
occurs x (Length p) = alone (p.0 == x.0)
occurs x (Aggregate fold operand) = occurs x operand
occurs x (Negate e) = occurs x e
occurs x (Sum e parts) = both x e parts (occurs x e) (occurs x parts)
occurs x (Product e parts) = both x e parts (occurs x e) (occurs x parts)
occurs x (Compare how a b) = both x a b (occurs x a) (occurs x b)
occurs x (Not e) = occurs x e
occurs x (And parts) = occurs x parts
occurs x (Or parts) = occurs x parts
occurs x (Exists i) = refl
occurs x (SumPart minus e) = occurs x e
occurs x (ProductPart op e) = occurs x e
occurs x none = refl
occurs x (more e es) = both x e es (occurs x e) (occurs x es)

-- what is found of a variable is of it
abbrev named : List Variable → ℕ → Option Variable
named vs n = find (λ v. v.var.0 == n) vs

found_is : (vs : List Variable) (n : ℕ) (w : Variable) → named vs n ≡ Some w → (w.var.0 == n) ≡ true
found_is [] n w h = absurd (cc)
found_is (v ∷ vs) n w h = by (v.var.0 == n) refl (found_is vs n w) h
  where
    by : (b : Bool) → (v.var.0 == n) ≡ b → (named vs n ≡ Some w → (w.var.0 == n) ≡ true) → cond b (Some v) (named vs n) ≡ Some w → (w.var.0 == n) ≡ true
    by true e rest f = let same : v ≡ w = cc in subst (λ (u : Variable). (u.var.0 == n) ≡ true) same e
    by false e rest f = rest f

-- among the variables of names, each name finds what it finds among all
here : (vs : List Variable) (y x : ℕ) (rest : List Variable) (o : Option Variable) (b later : Bool)
    → named vs y ≡ o → (y == x) ≡ b → named rest x ≡ cond later (named vs x) None
    → named (option_to_list o ++ rest) x ≡ cond (b || later) (named vs x) None
here vs y x rest (Some v) true later f e h =
    let same : y ≡ x = same_number y x e in
    let own : (v.var.0 == x) ≡ true = subst (λ (n : ℕ). (v.var.0 == n) ≡ true) same (found_is vs y v f) in
    ap (λ t. cond t (Some v) (named rest x)) own ∙ sym f ∙ ap (named vs) same
here vs y x rest None true true f e h = h
here vs y x rest None true false f e h = h ∙ sym (ap (named vs) (sym (same_number y x e)) ∙ f)
here vs y x rest (Some v) false later f e h =
    let other : (v.var.0 == x) ≡ false = subst (λ (n : ℕ). (n == x) ≡ false) (sym (same_number v.var.0 y (found_is vs y v f))) e in
    ap (λ t. cond t (Some v) (named rest x)) other ∙ h
here vs y x rest None false later f e h = h

found_among : (vs : List Variable) (names : List Sym) (x : Sym)
    → named (flat_map (λ y. option_to_list (named vs y.0)) names) x.0 ≡ cond (lists names x) (named vs x.0) None
found_among vs [] x = refl
found_among vs (y ∷ names) x =
    here vs y.0 x.0 (flat_map (λ z. option_to_list (named vs z.0)) names) (named vs y.0) (y.0 == x.0) (lists names x) refl refl (found_among vs names x)

-- what was made of a variable, where all of these are made
made_among : (m : Making) (place : ℕ) (row : List Binding) (vs : List Variable) (x : ℕ)
    → find (λ (d : Made). d.var.0 == x) (map (made_at m place row) vs) ≡ option_map (made_at m place row) (named vs x)
unfolding made_at
made_among m place row [] x = refl
made_among m place row (v ∷ vs) x = by (v.var.0 == x) (made_among m place row vs x)
  where
    by : (b : Bool) → find (λ (d : Made). d.var.0 == x) (map (made_at m place row) vs) ≡ option_map (made_at m place row) (named vs x)
        → cond b (Some (made_at m place row v)) (find (λ (d : Made). d.var.0 == x) (map (made_at m place row) vs)) ≡ option_map (made_at m place row) (cond b (Some v) (named vs x))
    by true h = refl
    by false h = h

-- so a condition has the truth that it has where all variables are made
pub truth_named : (m : Making) (place : ℕ) (row : List Binding) (condition : TreeOf Sym AnExpr)
    → truth_of (record { row = row; reads = m.setting.reads; graphs = m.setting.graphs; made = map (made_at m place row) (found_of m (names_in condition)) }) [] condition
    ≡ truth_of (when_context m place row) [] condition
truth_named m place row condition =
    let vs = m.variables in
    let make = made_at m place row in
    let few = found_of m (names_in condition) in
    sym (truth_same (when_context m place row) (map make few) [] condition
    (λ x is. made_among m place row vs x.0
    ∙ ap (option_map make) (sym (found_among vs (names_in condition) x ∙ ap (λ b. cond b (named vs x.0) None) (sym (occurs x condition) ∙ is)))
    ∙ sym (made_among m place row few x.0)))
