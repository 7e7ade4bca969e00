-- What a CONSTRUCT comes to, by the segments that its MATCH uses, its table, its recipe and what is made of them.
use Rattle.std.proofs.Common.{◌≡◌, ◌∙◌, ℕ, List, [], ◌∷◌, map, Option, Some, None, IfOk, Result, Ok, Err, refl, sym, ap, subst, arith}
use Rattle.std.specs.List.{AllByRecursion}
use Rattle.gc_base.proofs.SetLaws.{AllByRecursion-append}
use Rattle.gc_base.specs.declared.place.Sym.{Sym}
use Rattle.gc_ast.specs.QueryViews.{basic_tree}
use Rattle.gc_ast.specs.Trees as ast
use Rattle.gc_ast.specs.declared.query.Basic.{Basic, out-Basic}
use Rattle.gc_alg.specs.Tables.{IsTableOfBlock}
use Rattle.gc_alg.specs.Trees.{Tree, ABlock, reads_of}
use Rattle.gc_alg.specs.Views.{block_tree}
use Rattle.gc_alg.specs.declared.block.Block.{Block, out-Block}
use Rattle.gc_alg.proofs.Layers.{block_is}
use Rattle.gc_alg.specs.Blocks.{IsRowOfBlock}
use Rattle.gc_alg.specs.Instances.{variables_of}
use Rattle.gc_alg.specs.declared.atom.Atom.{Atom}
use Rattle.gc_build.proofs.LinksWhole.{fits_whole}
use Rattle.gc_build.proofs.TableRows.{rows_bind}
use Rattle.gc_build.specs.AllPaths.{Patterns}
use Rattle.gc_build.specs.Fitting.{AreDistinct, Fits, FitsWhole}
use Rattle.gc_build.specs.Linked.{HasLinksOf}
use Rattle.gc_build.specs.Constructed.{Constructs}
use Rattle.gc_build.specs.declared.built.Built.{Built}
use Rattle.gc_build.specs.declared.built.Refusal.{Refusal}
use Rattle.gc_build.specs.declared.built.Refusal.TheVariants as build
use Rattle.gc_build_numbers.specs.Settings.{Setting}
use Rattle.gc_build_reading.specs.Recipes.{recipe_of}
use Rattle.gc_build_recipe.specs.Recipes.{Recipe}
use Rattle.gc_exec.specs.Runs.{setting}
use Rattle.gc_expr.specs.Views.{Names}
use Rattle.gc_lower.specs.Blocks.{block_of, optional_reads}
use Rattle.gc_lower.specs.Blocks.{block_atoms as lowered_atoms}
use Rattle.gc_lower.specs.Reads.{read_in as read_in_graph, reads_of as lowered_reads}
use Rattle.gc_lower.specs.Scopes.{Scope}
use Rattle.gc_lower.proofs.TreeParts.{basic_parts}
use Rattle.gc_prod.specs.Segments.{Segments}
use Rattle.gc_rows.specs.Tables.{Relation}
use Rattle.gc_rows.proofs.Members.{each_member}
use Rattle.gc_sets.specs.Origins.{AreStanding, ComesFrom}
use Rattle.gc_spec.specs.PropertyGraph.{IsGraph, PropertyGraph}
use Rattle.gc_walks.specs.Databases.{AreOnGraphs, database}
use Rattle.gc_query.specs.Answered.{ComesOf, IsAnswered, Rises, outcome_of}
use Rattle.gc_query.specs.Basics.{Comes, ComesTo, DenotesBasic, OnTable, WithCosts, token_of}
use Rattle.gc_query.proofs.DistinctVariables.{recipe_distinct}
use Rattle.gc_query.specs.Built.{IsBasicBuilt, asked_on}
use Rattle.gc_query.specs.Costs.{costs_of, first_past}
use Rattle.gc_query.specs.Segments.{HasSegments}
use Rattle.gc_query.specs.Standings.{Standing, Made}
use Rattle.gc_query.specs.declared.costs.PastAt.{PastAt}
use Rattle.gc_query.specs.declared.fault.Fault.{Fault}
use Rattle.gc_query.specs.declared.fault.Fault.TheVariants.{CostPastRange}
use Rattle.gc_query.specs.declared.fault.QueryRefusal.{QueryRefusal}

-- what a CONSTRUCT on a table comes to is an outcome of the query
comes : (s : Setting) (r : Recipe) (ps : Patterns) (next token : ℕ) (outcome : Result Built Refusal) → Constructs s r ps next outcome
    → IsAnswered (ComesTo s r ps next token) (outcome_of token outcome)
comes s r ps next token (Ok b) h = h
comes s r ps next token (Err (build.Fault f)) h = h
comes s r ps next token (Err (build.IdsSpent count)) h = (refl, h)
comes s r ps next token (Err build.Memory) h = tt

-- and so it comes from the graphs
pub comes_of : (graphs : List PropertyGraph) (next token : ℕ) (outcome : Result Built Refusal)
    → IfOk outcome (λ (b : Built). ComesFrom graphs next b.next b.graph) → ComesOf graphs next (outcome_of token outcome)
comes_of graphs next token (Ok b) h = h
comes_of graphs next token (Err (build.Fault f)) h = tt
comes_of graphs next token (Err (build.IdsSpent count)) h = tt
comes_of graphs next token (Err build.Memory) h = tt

-- after it the next identity is no less, and at most one more than the largest
pub rises : (s : Setting) (r : Recipe) (ps : Patterns) (next token : ℕ) (outcome : Result Built Refusal) → Constructs s r ps next outcome → Rises next (outcome_of token outcome)
rises s r ps next token (Ok b) h = (omega (arith, h.after), omega (arith, h.after, h.sound.room))
rises s r ps next token (Err (build.Fault f)) h = tt
rises s r ps next token (Err (build.IdsSpent count)) h = tt
rises s r ps next token (Err build.Memory) h = tt

-- each variable is read in one graph
own_read : (graph : ℕ) (xs : List Sym) → AllByRecursion (λ read. read.own ≡ read.walk) (map (read_in_graph graph) xs)
own_read graph [] = tt
own_read graph (x ∷ xs) = (refl, own_read graph xs)

own_reads_of : (atoms : List Atom) → AllByRecursion (λ read. read.own ≡ read.walk) (lowered_reads atoms)
own_reads_of [] = tt
own_reads_of (a ∷ atoms) = AllByRecursion-append _ _ (lowered_reads atoms) (own_read a.graph (variables_of a.what)) (own_reads_of atoms)

own_optionals : (s : Scope) (os : ast.Tree (ast.RowOf ast.AnOptional)) → AllByRecursion (λ read. read.own ≡ read.walk) (optional_reads s os)
own_optionals s ast.none = tt
own_optionals s (ast.more (ast.Optional token b) os) = AllByRecursion-append _ (lowered_reads (lowered_atoms s b)) (optional_reads s os) (own_reads_of (lowered_atoms s b)) (own_optionals s os)

own_reads : (s : Scope) (basic : ast.Tree ast.ABasic) → AllByRecursion (λ read. read.own ≡ read.walk) (reads_of (block_of s [] basic))
unfolding block_of
own_reads s (ast.Basic token items main optionals) =
    AllByRecursion-append _ (lowered_reads (lowered_atoms s main)) (optional_reads s optionals) (own_reads_of (lowered_atoms s main)) (own_optionals s optionals)

pub reads_are : (b : Block) → reads_of (block_tree b) ≡ (out-Block b).reads
reads_are b = ap reads_of (block_is b)

token_is : (names : Names) (b : Basic) → token_of (basic_tree names b) ≡ (out-Basic b).token
token_is names b = ap token_of (basic_parts names b)

-- a CONSTRUCT, by the block of its MATCH
module _ (s : Scope) (names : Names) (at : Standing) (basic : Basic) (block : Block) (is : block_tree block ≡ block_of s [] (basic_tree names basic)) where
  -- on the table of its MATCH
  module _ (segments : List Segments) (table : Relation) where
    abbrev asked : Recipe
    asked = recipe_of s table.schema (basic_tree names basic)

    abbrev patterns : Tree ABlock → Patterns
    patterns b = record { block = b; segments = segments }

    abbrev read_by : Tree ABlock → Setting
    read_by b = record { schema = table.schema; rows = table.rows; reads = reads_of b; graphs = at.graphs }

    abbrev pub read_in : Setting
    read_in = record { schema = table.schema; rows = table.rows; reads = (out-Block block).reads; graphs = at.graphs }

    -- what is claimed on the table is of one graph
    pub whole : (r : Recipe) → r ≡ asked → AllByRecursion IsGraph at.graphs → AreStanding at.graphs at.next → AreOnGraphs at.graphs segments
        → IsTableOfBlock (setting at.graphs segments (block_tree block) []) table → IsBasicBuilt s (basic_tree names basic) → FitsWhole read_in r (patterns (block_tree block)) at.next
    whole r same graphs standing there matched built =
        let tree = basic_tree names basic in
        let reads = (out-Block block).reads in
        let B = block_tree block in
        let here : HasLinksOf B (reads_of B) (asked_on s tree B) = subst (λ (b : Tree ABlock). HasLinksOf b (reads_of b) (asked_on s tree b)) (sym is) built.links in
        let asks : asked_on s tree B ≡ r = ap (λ schema. recipe_of s schema tree) (sym matched.over) ∙ sym same in
        let links : HasLinksOf B reads r = subst (HasLinksOf B reads) asks (subst (λ rs. HasLinksOf B rs (asked_on s tree B)) (reads_are block) here) in
        let own : AllByRecursion (λ read. read.own ≡ read.walk) reads =
        subst (AllByRecursion (λ read. read.own ≡ read.walk)) (reads_are block) (subst (λ (b : Tree ABlock). AllByRecursion (λ read. read.own ≡ read.walk) (reads_of b)) (sym is) (own_reads s tree)) in
        let fits : Fits read_in r = record {
          graphs = graphs;
          bound = rows_bind at.graphs segments graphs there B table matched;
          distinct = subst (λ (q : Recipe). AreDistinct q.variables) (sym same) (recipe_distinct s table.schema tree);
        } in
        fits_whole read_in r (patterns B) at.next fits standing there (each_member (IsRowOfBlock (database at.graphs segments) [] B) table.rows matched.sound) links own

    abbrev MadeBy : Tree ABlock → (token : ℕ) → Result Made QueryRefusal → Type 0
    MadeBy b token result = IsAnswered (ComesTo (read_by b) asked (patterns b) at.next token) result

    pub table_comes : (r : Recipe) → r ≡ asked → (outcome : Result Built Refusal) → Constructs read_in r (patterns (block_tree block)) at.next outcome
        → (result : Result Made QueryRefusal) → result ≡ outcome_of (out-Basic basic).token outcome → IsAnswered (Comes s at (basic_tree names basic) segments table) result
    table_comes r same outcome made result told =
        let S : Setting = record { schema = table.schema; rows = table.rows; reads = reads_of (block_tree block); graphs = at.graphs } in
        let there : read_in ≡ S = λ i. record { schema = table.schema; rows = table.rows; reads = sym (reads_are block) i; graphs = at.graphs } in
        let right : Constructs S asked (patterns (block_tree block)) at.next outcome =
        subst (λ (x : Recipe). Constructs S x (patterns (block_tree block)) at.next outcome) same (subst (λ (x : Setting). Constructs x r (patterns (block_tree block)) at.next outcome) there made) in
        let here : MadeBy (block_tree block) (out-Basic basic).token result =
        subst (MadeBy (block_tree block) (out-Basic basic).token) (sym told) (comes S asked (patterns (block_tree block)) at.next (out-Basic basic).token outcome right) in
        subst (λ token. MadeBy (block_of s [] (basic_tree names basic)) token result) (sym (token_is names basic)) (subst (λ (b : Tree ABlock). MadeBy b (out-Basic basic).token result) is here)

  abbrev Basic-denotes : Result Made Fault → Type 0
  Basic-denotes = DenotesBasic s at (basic_tree names basic)

  -- a fault of a view
  pub view_fails : (fault : Fault) → HasSegments s at.graphs (block_tree block) (Err fault) → Basic-denotes (Err fault)
  view_fails fault h = record { segments = Err fault; used = subst (λ (b : Tree ABlock). HasSegments s at.graphs b (Err fault)) is h; comes = refl }

  -- over the segments that its MATCH uses, by the table of that
  module _ (segments : List Segments) (used : HasSegments s at.graphs (block_tree block) (Ok segments)) (table : Relation)
      (matched : IsTableOfBlock (setting at.graphs segments (block_tree block) []) table) where
    over : (outcome : Result Made Fault) → OnTable s at (basic_tree names basic) segments table outcome → Basic-denotes outcome
    over outcome made =
        record {
          segments = Ok segments;
          used = subst (λ (b : Tree ABlock). HasSegments s at.graphs b (Ok segments)) is used;
          comes = record { table = table; matched = subst (λ (b : Tree ABlock). IsTableOfBlock (setting at.graphs segments b []) table) is matched; made = made };
        }

    abbrev past : Option PastAt
    past = first_past (costs_of s (basic_tree names basic)) table.rows

    -- a cost that is past the range, and none
    pub cost_fails : (p : PastAt) → past ≡ Some p → Basic-denotes (Err (CostPastRange p.token p.row))
    cost_fails p is_past =
        over (Err (CostPastRange p.token p.row))
        (subst (λ (o : Option PastAt). WithCosts o (Comes s at (basic_tree names basic) segments table) (Err (CostPastRange p.token p.row))) (sym is_past) refl)

    pub costs_fit : past ≡ None → (outcome : Result Made Fault) → Comes s at (basic_tree names basic) segments table outcome → Basic-denotes outcome
    costs_fit none outcome h = over outcome (subst (λ (o : Option PastAt). WithCosts o (Comes s at (basic_tree names basic) segments table) outcome) (sym none) h)
