-- One pass over a file: the frame and the graph after one more member, and after all of them.
use Rattle.std.proofs.Common.{◌≡◌, ℕ, ◌<◌, List, [], ◌∷◌, ◌++◌, codes, Option, Some, None, option_map, Bool, true, Result, Ok, Err, bytes_eq, if◌then◌else◌, refl, sym, ap, ◌∙◌, subst, arith}
use Rattle.std.specs.Prelude.{IfSome}
use Rattle.gc_ppg.specs.declared.shape.Kind.{Kind}
use Rattle.gc_ppg.specs.declared.shape.Kind.TheVariants as kind
use Rattle.gc_spec.specs.PropertyGraph.{PropertyGraph, empty_graph}
use Rattle.json.specs.Json.{parse_map}
use Rattle.json.specs.Lex.{tokens}
use Rattle.json.specs.Token.{Token}
use Rattle.serde_json.specs.Data.{Data, array, Items, no_items}
use Rattle.serde_json.specs.Events.{items_len}
use Rattle.gc_json.specs.Entries.{Entries, entries_data, last_at, object_entries}
use Rattle.gc_json.specs.FileElements.{Seen}
use Rattle.gc_json.specs.Frames.{is_version_1, all_known, listed, entry_lists, frame_of, frame_after, frame_count}
use Rattle.gc_json.specs.GraphFiles.{add_elements_of, graph_of_lists, text_graph}
use Rattle.gc_json.specs.ListWalks.{list_key, GivesDue}
use Rattle.gc_json.specs.OnePass.{may_come, frame_with, AreOf, ReadsAt, ReadsAll}
use Rattle.gc_json.specs.Reading.{◌>>=◌}
use Rattle.gc_json.specs.Tokens.{value_data, items_data, whole_text}
use Rattle.gc_json.specs.declared.frame.Frame.{Frame}
use Rattle.gc_json.specs.declared.refusal.GraphRefusal.{GraphRefusal}
use Rattle.gc_json.proofs.FileAgrees.{both}
use Rattle.gc_json.proofs.Framing.{one, last_at-append, frame_of-append, and_true}
use Rattle.gc_json.proofs.ListTurns.{empty_list}
use Rattle.gc_json.proofs.Passing.{picked}
use Rattle.gc_json.proofs.TokenTurns as turns
use Rattle.gc_json.proofs.Wholes.{of_entries, text_by_entries, few}

-- ---- the frame

abbrev with_marks : Frame → Bool → Bool → Frame
with_marks f version known = record { nodes = f.nodes; edges = f.edges; paths = f.paths; is_version_1 = version; is_known = known }

frame_listed : (f : Frame) (k : Kind) (ds : Items) → frame_after f (list_key k) (array ds) ≡ frame_with f k (items_len ds)
frame_listed f kind.Node ds = ap (with_marks (frame_with f kind.Node (items_len ds)) f.is_version_1) (and_true f.is_known)
frame_listed f kind.Edge ds = ap (with_marks (frame_with f kind.Edge (items_len ds)) f.is_version_1) (and_true f.is_known)
frame_listed f kind.Path ds = ap (with_marks (frame_with f kind.Path (items_len ds)) f.is_version_1) (and_true f.is_known)

-- ---- the graph

listed_after : (key : List ℕ) (es : Entries) (k : List ℕ) (d : Data) → listed (last_at key (es ++ one k d)) ≡ listed (if bytes_eq k key then Some d else last_at key es)
listed_after key es k d = ap (λ o. listed o) (last_at-append key es k d)

module _ (seen : Seen) where
  abbrev graph_with : Items → Items → Items → Result PropertyGraph GraphRefusal
  graph_with n e p = graph_of_lists seen (record { nodes = n; edges = e; paths = p })

  abbrev Gives : Result PropertyGraph GraphRefusal → PropertyGraph → Type 0
  Gives due g = due ≡ Ok g

  same_lists : (a b c p q r : Items) → a ≡ p → b ≡ q → c ≡ r → graph_with a b c ≡ graph_with p q r
  same_lists a b c p q r e f h = rw (e, f, h) refl

  nodes_added : (ds : Items) (g more : PropertyGraph) → Gives (graph_with no_items no_items no_items) g → add_elements_of seen kind.Node 0 g ds ≡ Ok more → Gives (graph_with ds no_items no_items) more
  nodes_added ds g more so_far is =
      let same : empty_graph ≡ g = cc in
      ap (λ r. r >>= λ nodes. add_elements_of seen kind.Edge 0 nodes no_items >>= λ edges. add_elements_of seen kind.Path 0 edges no_items) (ap (λ h. add_elements_of seen kind.Node 0 h ds) same ∙ is)

  edges_by : (r : Result PropertyGraph GraphRefusal) (ds : Items) (g more : PropertyGraph)
      → Gives (r >>= λ nodes. add_elements_of seen kind.Edge 0 nodes no_items >>= λ edges. add_elements_of seen kind.Path 0 edges no_items) g → add_elements_of seen kind.Edge 0 g ds ≡ Ok more
      → Gives (r >>= λ nodes. add_elements_of seen kind.Edge 0 nodes ds >>= λ edges. add_elements_of seen kind.Path 0 edges no_items) more
  edges_by (Ok h) ds g more so_far is =
      let same : h ≡ g = cc in ap (λ r. r >>= λ edges. add_elements_of seen kind.Path 0 edges no_items) (ap (λ x. add_elements_of seen kind.Edge 0 x ds) same ∙ is)
  edges_by (Err e) ds g more so_far is = absurd (cc)

  paths_by : (r : Result PropertyGraph GraphRefusal) (ds : Items) (g more : PropertyGraph) → Gives (r >>= λ edges. add_elements_of seen kind.Path 0 edges no_items) g → add_elements_of seen kind.Path 0 g ds ≡ Ok more
      → Gives (r >>= λ edges. add_elements_of seen kind.Path 0 edges ds) more
  paths_by (Ok h) ds g more so_far is = let same : h ≡ g = cc in ap (λ x. add_elements_of seen kind.Path 0 x ds) same ∙ is
  paths_by (Err e) ds g more so_far is = absurd (cc)

  paths_from : (r : Result PropertyGraph GraphRefusal) (e ds : Items) (g more : PropertyGraph)
      → Gives (r >>= λ nodes. add_elements_of seen kind.Edge 0 nodes e >>= λ edges. add_elements_of seen kind.Path 0 edges no_items) g → add_elements_of seen kind.Path 0 g ds ≡ Ok more
      → Gives (r >>= λ nodes. add_elements_of seen kind.Edge 0 nodes e >>= λ edges. add_elements_of seen kind.Path 0 edges ds) more
  paths_from (Ok h) e ds g more so_far is = paths_by (add_elements_of seen kind.Edge 0 h e) ds g more so_far is
  paths_from (Err x) e ds g more so_far is = absurd (cc)

  module _ (es : Entries) where
    abbrev at : List ℕ → Items
    at key = listed (last_at key es)

    list_added : (k : Kind) (ds : Items) (g more : PropertyGraph) → may_come (frame_of es) k ≡ true → graph_of_lists seen (entry_lists es) ≡ Ok g → add_elements_of seen k 0 g ds ≡ Ok more
        → graph_of_lists seen (entry_lists (es ++ one (list_key k) (array ds))) ≡ Ok more
    list_added kind.Node ds g more come so_far is =
        let first = both _ _ come in
        let second = both _ _ first.0 in
        let nodes = empty_list (last_at (codes "nodes") es) second.0 in
        let edges = empty_list (last_at (codes "edges") es) second.1 in
        let paths = empty_list (last_at (codes "paths") es) first.1 in
        let after = λ (key : List ℕ). listed_after key es (codes "nodes") (array ds) in
        same_lists _ _ _ ds no_items no_items (after (codes "nodes")) (after (codes "edges") ∙ edges) (after (codes "paths") ∙ paths)
        ∙ nodes_added ds g more (sym (same_lists (at (codes "nodes")) (at (codes "edges")) (at (codes "paths")) no_items no_items no_items nodes edges paths) ∙ so_far) is
    list_added kind.Edge ds g more come so_far is =
        let first = both _ _ come in
        let nodes = at (codes "nodes") in
        let edges = empty_list (last_at (codes "edges") es) first.0 in
        let paths = empty_list (last_at (codes "paths") es) first.1 in
        let after = λ (key : List ℕ). listed_after key es (codes "edges") (array ds) in
        same_lists _ _ _ nodes ds no_items (after (codes "nodes")) (after (codes "edges")) (after (codes "paths") ∙ paths)
        ∙ edges_by (add_elements_of seen kind.Node 0 empty_graph nodes) ds g more (sym (same_lists nodes (at (codes "edges")) (at (codes "paths")) nodes no_items no_items refl edges paths) ∙ so_far) is
    list_added kind.Path ds g more come so_far is =
        let nodes = at (codes "nodes") in
        let edges = at (codes "edges") in
        let paths = empty_list (last_at (codes "paths") es) come in
        let after = λ (key : List ℕ). listed_after key es (codes "paths") (array ds) in
        same_lists _ _ _ nodes edges ds (after (codes "nodes")) (after (codes "edges")) (after (codes "paths"))
        ∙ paths_from (add_elements_of seen kind.Node 0 empty_graph nodes) edges ds g more (sym (same_lists nodes edges (at (codes "paths")) nodes edges no_items refl refl paths) ∙ so_far) is

    -- ---- one more member

    list_read : (k : Kind) (f next : Frame) (g more : PropertyGraph) (all ts rest : List Token) (count : ℕ) → AreOf seen es f g → all ≡ Token.begin_array ∷ ts
        → parse_map items_len (items_data 125 ts) ≡ Some (count, rest) → GivesDue {Y = ℕ} (λ n. more) (option_map (λ p. add_elements_of seen k 0 g p.0) (items_data 125 ts)) (Ok count)
        → may_come f k ≡ true → next ≡ frame_with f k count → ReadsAt seen es (list_key k) (value_data 126 all) next more rest
    list_read k f next g more all ts rest count are is counted given come with_it =
        let read = picked items_len (items_data 125 ts) count rest counted in
        let ds = read.0 in
        let due : add_elements_of seen k 0 g ds ≡ Ok more = subst (λ o. GivesDue {Y = ℕ} (λ n. more) (option_map (λ p. add_elements_of seen k 0 g p.0) o) (Ok count)) read.1 given in (
          array ds,
          ap (value_data 126) is ∙ turns.opens_array 126 ts (omega arith) ∙ ap (parse_map array) read.1,
          (
            with_it ∙ ap (frame_with f k) (sym read.2) ∙ sym (frame_listed f k ds) ∙ ap (λ x. frame_after x (list_key k) (array ds)) are.0 ∙ sym (frame_of-append es (list_key k) (array ds)),
            list_added k ds g more (subst (λ x. may_come x k ≡ true) are.0 come) are.1 due,
          ),
        )

    pub list_read_if : (k : Kind) (f : Frame) (o : Option Frame) (g more : PropertyGraph) (all ts rest : List Token) (count : ℕ) → AreOf seen es f g → all ≡ Token.begin_array ∷ ts
        → parse_map items_len (items_data 125 ts) ≡ Some (count, rest) → GivesDue {Y = ℕ} (λ n. more) (option_map (λ p. add_elements_of seen k 0 g p.0) (items_data 125 ts)) (Ok count)
        → may_come f k ≡ true → IfSome o (λ next. next ≡ frame_with f k count) → IfSome o (λ next. ReadsAt seen es (list_key k) (value_data 126 all) next more rest)
    list_read_if k f None g more all ts rest count are is counted given come with_it = tt
    list_read_if k f (Some next) g more all ts rest count are is counted given come with_it = list_read k f next g more all ts rest count are is counted given come with_it

    pub version_read : (f : Frame) (g : PropertyGraph) (b : Bool) (rest : List Token) (o : Option (Data × List Token)) → AreOf seen es f g → parse_map is_version_1 o ≡ Some (b, rest)
        → ReadsAt seen es (codes "gcore") o (with_marks f b f.is_known) g rest
    version_read f g b rest o are is =
        let read = picked is_version_1 o b rest is in
        let d = read.0 in
        let all = frame_of es in
        let after = λ (key : List ℕ). listed_after key es (codes "gcore") d in (
          d,
          read.1,
          (
            ap (λ x. with_marks x b x.is_known) are.0 ∙ ap (λ v. with_marks all v all.is_known) (sym read.2) ∙ ap (with_marks all (is_version_1 d)) (sym (and_true (all_known es))) ∙ sym (frame_of-append es (codes "gcore") d),
            same_lists _ _ _ (at (codes "nodes")) (at (codes "edges")) (at (codes "paths")) (after (codes "nodes")) (after (codes "edges")) (after (codes "paths")) ∙ are.1,
          ),
        )

  -- ---- the whole text

  whole_object : (ts rest : List Token) (es : Entries) → entries_data 126 ts ≡ Some (es, rest) → rest ≡ [] → object_entries (Token.begin_object ∷ ts) ≡ Some (Some es)
  whole_object ts rest es is end = ap (λ o. option_map (λ x. Some x) (whole_text o)) (is ∙ ap (λ r. Some (es, r)) end)

  pub whole_read : (text : List ℕ) (all ts rest : List Token) (f : Frame) (g : PropertyGraph) (o : Option ℕ) (t : ℕ) → all ≡ tokens text → all ≡ Token.begin_object ∷ ts → ReadsAll seen (entries_data 126 ts) f g rest → rest ≡ []
      → o ≡ frame_count f → o ≡ Some t → (1000000 < t → ⊥) → text_graph seen text ≡ Ok g
  whole_read text all ts rest f g o t of_text is read end count some not_many =
      let es = read.0 in
      let are = read.2 in
      text_by_entries seen text ∙ ap (λ x. of_entries seen (object_entries x)) (sym of_text ∙ is) ∙ ap (of_entries seen) (whole_object ts rest es read.1 end)
      ∙ few seen es o (count ∙ ap frame_count are.0) t some not_many ∙ are.1
