-- What stands in the order of the text stands at tokens of its own.
use Rattle.std.proofs.Common.{◌≡◌, ⊎_elim, ◌<◌, ◌≤◌, ◌+◌, ℕ, true, List, [], ◌∷◌, ◌++◌, map, Option, Some, None, refl, sym, ap, ◌∙◌, subst, arith}
use Rattle.std.specs.List.{AllByRecursion, Contains, list_any}
use Rattle.std.proofs.lemmas.List.{append-nil}
use Rattle.std.proofs.lemmas.List.Elements.{Contains-append_cases}
use Rattle.gc_ast.specs.Names.{same_name}
use Rattle.gc_ast.specs.Trees as tree
use Rattle.gc_ast.specs.Trees.{Tree, Kind, Named, RowOf, ABlock, ALocated, AnOptional, APattern, AnElement, APathBody, AnItem, AConstructPart, ANewElement, APropertyUse}
use Rattle.gc_base.proofs.SetLaws.{AllByRecursion-append}
use Rattle.gc_base.specs.declared.place.Sym.{Sym}
use Rattle.gc_build_reading.specs.Places.{next_variable, node_variable}
use Rattle.gc_expr.specs.Views.{Names}
use Rattle.gc_rows.proofs.Members.{cons_cases, from_map}
use Rattle.gc_sorts.specs.Constructs.{element_made, item_made, item_stored, part_made, part_stored}
use Rattle.gc_sorts.specs.Uses.{all_of, block_uses, body_uses, element_uses, located_uses, optional_uses, pattern_uses, property_uses, use_at, use_if}
use Rattle.gc_sorts.specs.Variables.{Use}
use Rattle.gc_sorts.specs.declared.sort.Role.{Role}
use Rattle.gc_sorts.specs.declared.sort.Role.TheVariants as role
use Rattle.gc_lower.specs.Scopes.{Scope, graph_of}
use Rattle.gc_query.specs.InOrder.{IsInOrder, IsNameIf, IsNameIn}
use Rattle.gc_query.proofs.BasicLinks.{match_places, match_tokens, optional_places, optional_tokens}
use Rattle.gc_query.proofs.MakeSites.{Site, chain_sites, part_sites, sites_of}
use Rattle.gc_query.proofs.MatchParts.{block_places, block_tokens}
use Rattle.gc_query.proofs.MatchPlaces.{PlaceOn, element_tokens, located_places, located_tokens, pattern_tokens, place_on, unnamed_token}

-- items of a list lie between two numbers by their keys, and no two have one key
pub record Lies {X : Type 0} (key : X → ℕ) (from : ℕ) (xs : List X) (upto : ℕ) : Type 0 where
  pub up : from ≤ upto
  pub low : (x : X) → Contains xs x → from ≤ key x
  pub high : (x : X) → Contains xs x → key x < upto
  pub one : (x y : X) → Contains xs x → Contains xs y → key x ≡ key y → x ≡ y

module _ {X : Type 0} (key : X → ℕ) where
  pub nothing_lies : (from upto : ℕ) → from ≤ upto → Lies key from [] upto
  nothing_lies from upto h = record {
    up = h;
    low = λ x m. absurd (omega (arith, m.1));
    high = λ x m. absurd (omega (arith, m.1));
    one = λ x y m n e. absurd (omega (arith, m.1));
  }

  pub one_lies : (from : ℕ) (x : X) (upto : ℕ) → from ≤ key x → key x < upto → Lies key from (x ∷ []) upto
  one_lies from x upto l h = record {
    up = omega (arith, l, h);
    low = λ y m. subst (λ z. from ≤ key z) (is y m) l;
    high = λ y m. subst (λ z. key z < upto) (is y m) h;
    one = λ y z m n e. sym (is y m) ∙ is z n;
  }
    where
      is : (y : X) → Contains (x ∷ []) y → x ≡ y
      is y m = ⊎_elim (λ e. e) (λ k. absurd (omega (arith, k.1))) (cons_cases x [] y m)

  pub lie_both : (from mid upto : ℕ) (xs ys : List X) → Lies key from xs mid → Lies key mid ys upto → Lies key from (xs ++ ys) upto
  lie_both from mid upto xs ys a b = record {
    up = let p = a.up in let q = b.up in omega (arith, p, q);
    low = λ x m. ⊎_elim (λ k. a.low x k) (λ k. let p = a.up in let q = b.low x k in omega (arith, p, q)) (Contains-append_cases xs ys x m);
    high = λ x m. ⊎_elim (λ k. let p = a.high x k in let q = b.up in omega (arith, p, q)) (λ k. b.high x k) (Contains-append_cases xs ys x m);
    one = λ x y m n e.
        ⊎_elim
        (λ k. ⊎_elim (λ l. a.one x y k l e) (λ l. let p = a.high x k in let q = b.low y l in absurd (omega (arith, p, q, e))) (Contains-append_cases xs ys y n))
        (λ k. ⊎_elim (λ l. let p = b.low x k in let q = a.high y l in absurd (omega (arith, p, q, e))) (λ l. b.one x y k l e) (Contains-append_cases xs ys y n))
        (Contains-append_cases xs ys x m);
  }

  pub lie_wider : (from upto low high : ℕ) (xs : List X) → low ≤ from → upto ≤ high → Lies key from xs upto → Lies key low xs high
  lie_wider from upto low high xs l h a = record {
    up = let p = a.up in omega (arith, p, l, h);
    low = λ x m. let p = a.low x m in omega (arith, p, l);
    high = λ x m. let p = a.high x m in omega (arith, p, h);
    one = a.one;
  }

pub lie_mapped : {X Y : Type 0} (key : X → ℕ) (other : Y → ℕ) (f : X → Y) → ((x : X) → other (f x) ≡ key x) → (from upto : ℕ) (xs : List X) → Lies key from xs upto → Lies other from (map f xs) upto
lie_mapped key other f same from upto xs a = record {
  up = a.up;
  low = λ y m. let p = from_map f xs y m in subst (λ n. from ≤ n) (sym (ap other p.2 ∙ same p.0)) (a.low p.0 p.1);
  high = λ y m. let p = from_map f xs y m in subst (λ n. n < upto) (sym (ap other p.2 ∙ same p.0)) (a.high p.0 p.1);
  one = λ y z m n e.
      let p = from_map f xs y m in
      let q = from_map f xs z n in
      p.2 ∙ (ap f (a.one p.0 q.0 p.1 q.1 (sym (ap other p.2 ∙ same p.0) ∙ (e ∙ (ap other q.2 ∙ same q.0)))) ∙ sym q.2);
}

abbrev pub use_token : Use → ℕ
use_token u = u.token

abbrev pub place_token : PlaceOn → ℕ
place_token p = p.at_place.token

abbrev itself : ℕ → ℕ
itself n = n

-- the names of some uses are of a table
abbrev pub AreNamed : Names → List Use → Type 0
AreNamed names us = AllByRecursion (λ u. list_any (same_name u.name) names ≡ true) us

-- places and tokens of unnamed elements that lie between two numbers, whose names are of a table
pub record AreFine (names : Names) (from : ℕ) (us : List Use) (ts : List ℕ) (upto : ℕ) : Type 0 where
  pub uses : Lies use_token from us upto
  pub unnamed : Lies itself from ts upto
  pub named : AreNamed names us

module _ (names : Names) where
  fine_none : (from upto : ℕ) → from ≤ upto → AreFine names from [] [] upto
  fine_none from upto h = record { uses = nothing_lies use_token from upto h; unnamed = nothing_lies itself from upto h; named = tt }

  pub fine_both : (from mid upto : ℕ) (us vs : List Use) (ts ks : List ℕ) → AreFine names from us ts mid → AreFine names mid vs ks upto → AreFine names from (us ++ vs) (ts ++ ks) upto
  fine_both from mid upto us vs ts ks a b = record {
    uses = lie_both use_token from mid upto us vs a.uses b.uses;
    unnamed = lie_both itself from mid upto ts ks a.unnamed b.unnamed;
    named = AllByRecursion-append _ us vs a.named b.named;
  }

  pub fine_wider : (from upto low high : ℕ) (us : List Use) (ts : List ℕ) → low ≤ from → upto ≤ high → AreFine names from us ts upto → AreFine names low us ts high
  fine_wider from upto low high us ts l h a = record { uses = lie_wider use_token from upto low high us l h a.uses; unnamed = lie_wider itself from upto low high ts l h a.unnamed; named = a.named }

  one_name : (from : ℕ) (r : Role) (x : Named) (upto : ℕ) → IsNameIn names from x upto → AreFine names from (use_at r x ∷ []) [] upto
  one_name from r x upto h = record {
    uses = one_lies use_token from (use_at r x) upto h.low h.high;
    unnamed = nothing_lies itself from upto (let p = h.low in let q = h.high in omega (arith, p, q));
    named = (h.there, tt);
  }

  -- a name, or the token of what has none
  name_fine : (from token : ℕ) (r : Role) (name : Option Named) (upto : ℕ) → from ≤ token → IsNameIf names (token + 1) name upto → AreFine names from (use_if r name) (unnamed_token token name) upto
  name_fine from token r None upto l h = record {
    uses = nothing_lies use_token from upto (omega (arith, l, h));
    unnamed = one_lies itself from token upto l (omega (arith, h));
    named = tt;
  }
  name_fine from token r (Some x) upto l h = fine_wider (token + 1) upto from upto (use_at r x ∷ []) [] (omega (arith, l)) (omega arith) (one_name (token + 1) r x upto h)

  name_if : (from : ℕ) (r : Role) (name : Option Named) (upto : ℕ) → IsNameIf names from name upto → AreFine names from (use_if r name) [] upto
  name_if from r None upto h = fine_none from upto h
  name_if from r (Some x) upto h = one_name from r x upto h

  properties_fine : (from : ℕ) (properties : Tree (RowOf APropertyUse)) (upto : ℕ) → IsInOrder names from properties upto → AreFine names from (all_of property_uses properties) [] upto
  unfolding IsInOrder
  properties_fine from tree.none upto h = fine_none from upto h
  properties_fine from (tree.more (tree.PropertyUse token property value) properties) upto h =
      fine_both from h.0 upto (use_at role.Property value ∷ []) (all_of property_uses properties) [] [] (one_name from role.Property value h.0 h.1) (properties_fine h.0 properties upto h.2)

  element_fine : (from : ℕ) (r : Role) (e : Tree AnElement) (upto : ℕ) → IsInOrder names from e upto → AreFine names from (element_uses r e) (element_tokens e) upto
  unfolding IsInOrder
  element_fine from r (tree.Element token name labels properties) upto h =
      subst (λ ts. AreFine names from (use_if r name ++ all_of property_uses properties) ts upto) (append-nil (unnamed_token token name))
      (fine_both from h.0 upto (use_if r name) (all_of property_uses properties) (unnamed_token token name) [] (name_fine from token r name h.0 h.1 h.2) (properties_fine h.0 properties upto h.3))

  body_fine : (from : ℕ) (body : Tree APathBody) (upto : ℕ) → IsInOrder names from body upto → AreFine names from (body_uses body) [] upto
  unfolding IsInOrder
  body_fine from (tree.Reach regex views) upto h = fine_none from upto h
  body_fine from (tree.Found k path regex views cost) upto h =
      fine_both from h.0 upto (use_at role.Found path ∷ []) (use_if role.Cost cost) [] [] (one_name from role.Found path h.0 h.1) (name_if h.0 role.Cost cost upto h.2)
  body_fine from (tree.All path regex views) upto h = one_name from role.All path upto h
  body_fine from (tree.Stored path labels) upto h = one_name from role.Stored path upto h

  pub pattern_fine : (from : ℕ) (p : Tree APattern) (upto : ℕ) → IsInOrder names from p upto → AreFine names from (pattern_uses p) (pattern_tokens p) upto
  unfolding IsInOrder
  pattern_fine from (tree.Node e) upto h = element_fine from role.Node e upto h
  pattern_fine from (tree.Edge way e) upto h = element_fine from role.Edge e upto h
  pattern_fine from (tree.Path token regex_at body) upto h = body_fine from body upto h

  patterns_fine : (from : ℕ) (ps : Tree (RowOf APattern)) (upto : ℕ) → IsInOrder names from ps upto → AreFine names from (all_of pattern_uses ps) (all_of pattern_tokens ps) upto
  unfolding IsInOrder
  patterns_fine from tree.none upto h = fine_none from upto h
  patterns_fine from (tree.more p ps) upto h =
      fine_both from h.0 upto (pattern_uses p) (all_of pattern_uses ps) (pattern_tokens p) (all_of pattern_tokens ps) (pattern_fine from p h.0 h.1) (patterns_fine h.0 ps upto h.2)

  -- the same with the graphs on which places are
  pub record ArePlaced (from : ℕ) (places : List PlaceOn) (us : List Use) (ts : List ℕ) (upto : ℕ) : Type 0 where
    pub places_lie : Lies place_token from places upto
    pub fine : AreFine names from us ts upto

  module _ (s : Scope) where
    located_fine : (from : ℕ) (l : Tree ALocated) (upto : ℕ) → IsInOrder names from l upto → ArePlaced from (located_places s l) (located_uses l) (located_tokens l) upto
    unfolding IsInOrder
    located_fine from (tree.Located parts on) upto h =
        let fine = fine_wider from h.0 from upto (all_of pattern_uses parts) (all_of pattern_tokens parts) (omega arith) h.2 (patterns_fine from parts h.0 h.1) in
        record { places_lie = lie_mapped use_token place_token (place_on (graph_of s on)) (λ u. refl) from upto (all_of pattern_uses parts) fine.uses; fine = fine }

    all_located : (from : ℕ) (ls : Tree (RowOf ALocated)) (upto : ℕ) → IsInOrder names from ls upto
        → ArePlaced from (all_of (located_places s) ls) (all_of located_uses ls) (all_of located_tokens ls) upto
    unfolding IsInOrder
    all_located from tree.none upto h = record { places_lie = nothing_lies place_token from upto h; fine = fine_none from upto h }
    all_located from (tree.more l ls) upto h =
        let a = located_fine from l h.0 h.1 in
        let b = all_located h.0 ls upto h.2 in
        record {
          places_lie = lie_both place_token from h.0 upto (located_places s l) (all_of (located_places s) ls) a.places_lie b.places_lie;
          fine = fine_both from h.0 upto (located_uses l) (all_of located_uses ls) (located_tokens l) (all_of located_tokens ls) a.fine b.fine;
        }

    block_fine : (from : ℕ) (b : Tree ABlock) (upto : ℕ) → IsInOrder names from b upto → ArePlaced from (block_places s b) (block_uses b) (block_tokens b) upto
    unfolding IsInOrder
    block_fine from (tree.Block patterns filter) upto h =
        let a = all_located from patterns h.0 h.1 in
        record {
          places_lie = lie_wider place_token from h.0 from upto (all_of (located_places s) patterns) (omega arith) h.2 a.places_lie;
          fine = fine_wider from h.0 from upto (all_of located_uses patterns) (all_of located_tokens patterns) (omega arith) h.2 a.fine;
        }

    optionals_fine : (from : ℕ) (os : Tree (RowOf AnOptional)) (upto : ℕ) → IsInOrder names from os upto
        → ArePlaced from (all_of (optional_places s) os) (all_of optional_uses os) (all_of optional_tokens os) upto
    unfolding IsInOrder
    optionals_fine from tree.none upto h = record { places_lie = nothing_lies place_token from upto h; fine = fine_none from upto h }
    optionals_fine from (tree.more (tree.Optional token b) os) upto h =
        let a = block_fine from b h.0 h.1 in
        let c = optionals_fine h.0 os upto h.2 in
        record {
          places_lie = lie_both place_token from h.0 upto (block_places s b) (all_of (optional_places s) os) a.places_lie c.places_lie;
          fine = fine_both from h.0 upto (block_uses b) (all_of optional_uses os) (block_tokens b) (all_of optional_tokens os) a.fine c.fine;
        }

    pub match_fine : (from mid : ℕ) (main : Tree ABlock) (optionals : Tree (RowOf AnOptional)) (upto : ℕ) → IsInOrder names from main mid → IsInOrder names mid optionals upto
        → ArePlaced from (match_places s main optionals) (block_uses main ++ all_of optional_uses optionals) (match_tokens main optionals) upto
    match_fine from mid main optionals upto h k =
        let a = block_fine from main mid h in
        let c = optionals_fine mid optionals upto k in
        record {
          places_lie = lie_both place_token from mid upto (block_places s main) (all_of (optional_places s) optionals) a.places_lie c.places_lie;
          fine = fine_both from mid upto (block_uses main) (all_of optional_uses optionals) (block_tokens main) (all_of optional_tokens optionals) a.fine c.fine;
        }

    -- sites: by their tokens, and by the tokens of their names
    abbrev pub site_place : Site → ℕ
    site_place a = a.token

    pub record SitesLie (from : ℕ) (sites : List Site) (stored : List (List ℕ)) (upto : ℕ) : Type 0 where
      pub tokens : Lies site_place from sites upto
      pub name_low : (a : Site) (x : Named) → Contains sites a → a.name ≡ Some x → from ≤ x.token
      pub name_high : (a : Site) (x : Named) → Contains sites a → a.name ≡ Some x → x.token < upto
      pub one_named : (a b : Site) (x y : Named) → Contains sites a → Contains sites b → a.name ≡ Some x → b.name ≡ Some y → x.token ≡ y.token → a ≡ b
      pub site_named : (a : Site) (x : Named) → Contains sites a → a.name ≡ Some x → list_any (same_name x.name) names ≡ true
      pub stored_named : (n : List ℕ) → Contains stored n → list_any (same_name n) names ≡ true

    no_sites : (from upto : ℕ) → from ≤ upto → SitesLie from [] [] upto
    no_sites from upto h = record {
      tokens = nothing_lies site_place from upto h;
      name_low = λ a x m e. absurd (omega (arith, m.1));
      name_high = λ a x m e. absurd (omega (arith, m.1));
      one_named = λ a b x y m n e f g. absurd (omega (arith, m.1));
      site_named = λ a x m e. absurd (omega (arith, m.1));
      stored_named = λ n m. absurd (omega (arith, m.1));
    }

    sites_both : (from mid upto : ℕ) (es bs : List Site) (ms ns : List (List ℕ)) → SitesLie from es ms mid → SitesLie mid bs ns upto → SitesLie from (es ++ bs) (ms ++ ns) upto
    sites_both from mid upto es bs ms ns a b = record {
      tokens = lie_both site_place from mid upto es bs a.tokens b.tokens;
      name_low = λ c x m e. ⊎_elim (λ k. a.name_low c x k e) (λ k. let p = b.name_low c x k e in let q = a.tokens.up in omega (arith, p, q)) (Contains-append_cases es bs c m);
      name_high = λ c x m e. ⊎_elim (λ k. let p = a.name_high c x k e in let q = b.tokens.up in omega (arith, p, q)) (λ k. b.name_high c x k e) (Contains-append_cases es bs c m);
      one_named = λ c d x y m n e f g.
          ⊎_elim
          (λ k. ⊎_elim (λ l. a.one_named c d x y k l e f g) (λ l. let p = a.name_high c x k e in let q = b.name_low d y l f in absurd (omega (arith, p, q, g))) (Contains-append_cases es bs d n))
          (λ k. ⊎_elim (λ l. let p = b.name_low c x k e in let q = a.name_high d y l f in absurd (omega (arith, p, q, g))) (λ l. b.one_named c d x y k l e f g) (Contains-append_cases es bs d n))
          (Contains-append_cases es bs c m);
      site_named = λ c x m e. ⊎_elim (λ k. a.site_named c x k e) (λ k. b.site_named c x k e) (Contains-append_cases es bs c m);
      stored_named = λ k m. ⊎_elim (λ l. a.stored_named k l) (λ l. b.stored_named k l) (Contains-append_cases ms ns k m);
    }

    sites_wider : (from mid upto : ℕ) (es : List Site) (ms : List (List ℕ)) → mid ≤ upto → SitesLie from es ms mid → SitesLie from es ms upto
    sites_wider from mid upto es ms h a = record {
      tokens = lie_wider site_place from mid from upto es (omega arith) h a.tokens;
      name_low = a.name_low;
      name_high = λ c x m e. let p = a.name_high c x m e in omega (arith, p, h);
      one_named = a.one_named;
      site_named = a.site_named;
      stored_named = a.stored_named;
    }

    -- one site
    one_site : (from : ℕ) (a : Site) (upto : ℕ) → from ≤ a.token → IsNameIf names (a.token + 1) a.name upto → SitesLie from (a ∷ []) [] upto
    one_site from a upto l h = record {
      tokens = one_lies site_place from a upto l (below a.name h);
      name_low = λ b x m e. let p = (named b x m e).low in omega (arith, p, l);
      name_high = λ b x m e. (named b x m e).high;
      one_named = λ b c x y m n e f g. sym (is b m) ∙ is c n;
      site_named = λ b x m e. (named b x m e).there;
      stored_named = λ n m. absurd (omega (arith, m.1));
    }
      where
        is : (b : Site) → Contains (a ∷ []) b → a ≡ b
        is b m = ⊎_elim (λ e. e) (λ k. absurd (omega (arith, k.1))) (cons_cases a [] b m)

        below : (o : Option Named) → IsNameIf names (a.token + 1) o upto → a.token < upto
        below None k = omega (arith, k)
        below (Some x) k = let p = k.low in let q = k.high in omega (arith, p, q)

        named : (b : Site) (x : Named) → Contains (a ∷ []) b → b.name ≡ Some x → IsNameIn names (a.token + 1) x upto
        named b x m e = subst (λ (o : Option Named). IsNameIf names (a.token + 1) o upto) (ap (λ (c : Site). c.name) (is b m) ∙ e) h

    part_sites_lie : (from : ℕ) (left right : Option Sym) (p : Tree AConstructPart) (upto : ℕ) → IsInOrder names from p upto → SitesLie from (part_sites s left right p) (part_stored p) upto
    unfolding IsInOrder
    part_sites_lie from left right (tree.NewNode (tree.NewElement token name copy group labels assigns)) upto h = one_site from _ upto h.0 h.1
    part_sites_lie from left right (tree.NewEdge way (tree.NewElement token name copy group labels assigns)) upto h = one_site from _ upto h.0 h.1
    part_sites_lie from left right (tree.Projected token p) upto h = no_sites from upto h
    part_sites_lie from left right (tree.NewStored token p labels assigns) upto h =
        let low = h.low in
        let high = h.high in
        let none = no_sites from upto (omega (arith, low, high)) in
        record {
          tokens = none.tokens;
          name_low = none.name_low;
          name_high = none.name_high;
          one_named = none.one_named;
          site_named = none.site_named;
          stored_named = λ n m. ⊎_elim (λ e. subst (λ k. list_any (same_name k) names ≡ true) e h.there) (λ k. absurd (omega (arith, k.1))) (cons_cases p.name [] n m);
        }

    chain_sites_lie : (from : ℕ) (left : Option Sym) (ps : Tree (RowOf AConstructPart)) (upto : ℕ) → IsInOrder names from ps upto → SitesLie from (chain_sites s left ps) (all_of part_stored ps) upto
    unfolding IsInOrder
    chain_sites_lie from left tree.none upto h = no_sites from upto h
    chain_sites_lie from left (tree.more p ps) upto h =
        sites_both from h.0 upto (part_sites s left (next_variable s ps) p) (chain_sites s (node_variable s p) ps) (part_stored p) (all_of part_stored ps)
        (part_sites_lie from left (next_variable s ps) p h.0 h.1) (chain_sites_lie h.0 (node_variable s p) ps upto h.2)

    pub items_sites_lie : (from : ℕ) (items : Tree (RowOf AnItem)) (upto : ℕ) → IsInOrder names from items upto → SitesLie from (sites_of s items) (all_of item_stored items) upto
    unfolding IsInOrder
    items_sites_lie from tree.none upto h = no_sites from upto h
    items_sites_lie from (tree.more (tree.GraphItem g) items) upto h =
        sites_both from h.0 upto [] (sites_of s items) [] (all_of item_stored items) (no_sites from h.0 h.1) (items_sites_lie h.0 items upto h.2)
    items_sites_lie from (tree.more (tree.ChainItem parts changes condition) items) upto h =
        sites_both from h.0 upto (chain_sites s None parts) (sites_of s items) (all_of part_stored parts) (all_of item_stored items)
        (sites_wider from h.1.0 h.0 (chain_sites s None parts) (all_of part_stored parts) h.1.2 (chain_sites_lie from None parts h.1.0 h.1.1)) (items_sites_lie h.0 items upto h.2)

  -- the names of nodes and edges of a CONSTRUCT
  element_named : (from : ℕ) (r : Role) (e : Tree ANewElement) (upto : ℕ) → IsInOrder names from e upto → AreNamed names (element_made r e)
  unfolding IsInOrder
  element_named from r (tree.NewElement token None copy group labels assigns) upto h = tt
  element_named from r (tree.NewElement token (Some x) copy group labels assigns) upto h = (h.1.there, tt)

  part_made_named : (from : ℕ) (p : Tree AConstructPart) (upto : ℕ) → IsInOrder names from p upto → AreNamed names (part_made p)
  unfolding IsInOrder
  part_made_named from (tree.NewNode e) upto h = element_named from role.Node e upto h
  part_made_named from (tree.NewEdge way e) upto h = element_named from role.Edge e upto h
  part_made_named from (tree.Projected token p) upto h = tt
  part_made_named from (tree.NewStored token p labels assigns) upto h = tt

  chain_made_named : (from : ℕ) (ps : Tree (RowOf AConstructPart)) (upto : ℕ) → IsInOrder names from ps upto → AreNamed names (all_of part_made ps)
  unfolding IsInOrder
  chain_made_named from tree.none upto h = tt
  chain_made_named from (tree.more p ps) upto h = AllByRecursion-append _ (part_made p) (all_of part_made ps) (part_made_named from p h.0 h.1) (chain_made_named h.0 ps upto h.2)

  pub items_made_named : (from : ℕ) (items : Tree (RowOf AnItem)) (upto : ℕ) → IsInOrder names from items upto → AreNamed names (all_of item_made items)
  unfolding IsInOrder
  items_made_named from tree.none upto h = tt
  items_made_named from (tree.more (tree.GraphItem g) items) upto h = items_made_named h.0 items upto h.2
  items_made_named from (tree.more (tree.ChainItem parts changes condition) items) upto h =
      AllByRecursion-append _ (all_of part_made parts) (all_of item_made items) (chain_made_named from parts h.1.0 h.1.1) (items_made_named h.0 items upto h.2)

-- a name and a tree that stand between two numbers stand between others around them
pub name_wider : (names : Names) (low from upto high : ℕ) (x : Named) → low ≤ from → upto ≤ high → IsNameIn names from x upto → IsNameIn names low x high
name_wider names low from upto high x l h n = record { low = (let a = n.low in omega (arith, a, l)); high = (let a = n.high in omega (arith, a, h)); there = n.there }

pub if_wider : (names : Names) (low from upto high : ℕ) (o : Option Named) → low ≤ from → upto ≤ high → IsNameIf names from o upto → IsNameIf names low o high
if_wider names low from upto high None l h n = omega (arith, l, h, n)
if_wider names low from upto high (Some x) l h n = name_wider names low from upto high x l h n

pub order_wider : (names : Names) {k : Kind} (low from upto high : ℕ) (t : Tree k) → low ≤ from → upto ≤ high → IsInOrder names from t upto → IsInOrder names low t high
unfolding IsInOrder
order_wider names low from upto high (tree.View name query) l h n = order_wider names low from upto high query l h n
order_wider names low from upto high (tree.Ask query) l h n = order_wider names low from upto high query l h n
order_wider names low from upto high (tree.Query heads first rest) l h n =
    (n.0, n.1, order_wider names low from n.0 n.0 heads l (omega arith) n.2, n.3, order_wider names n.1 n.1 upto high rest (omega arith) h n.4)
order_wider names low from upto high (tree.NextTerm op term) l h n = order_wider names low from upto high term l h n
order_wider names low from upto high (tree.BasicTerm basic) l h n = order_wider names low from upto high basic l h n
order_wider names low from upto high (tree.QueryTerm query) l h n = order_wider names low from upto high query l h n
order_wider names low from upto high (tree.GraphHead name query) l h n = order_wider names low from upto high query l h n
order_wider names low from upto high (tree.PathHead name chains filter cost) l h n = ((let a = n.0 in omega (arith, a, l)), (let a = n.1 in omega (arith, a, h)))
order_wider names low from upto high (tree.Basic token items main optionals) l h n =
    (n.0, n.1, (let a = n.2 in omega (arith, a, l)), n.3, n.4, order_wider names n.1 n.1 upto high optionals (omega arith) h n.5)
order_wider names low from upto high (tree.Block patterns filter) l h n =
    (n.0, order_wider names low from n.0 n.0 patterns l (omega arith) n.1, (let a = n.2 in omega (arith, a, h)))
order_wider names low from upto high (tree.Optional token block) l h n = order_wider names low from upto high block l h n
order_wider names low from upto high (tree.Located parts on) l h n = (n.0, order_wider names low from n.0 n.0 parts l (omega arith) n.1, (let a = n.2 in omega (arith, a, h)))
order_wider names low from upto high (tree.Node element) l h n = order_wider names low from upto high element l h n
order_wider names low from upto high (tree.Edge way element) l h n = order_wider names low from upto high element l h n
order_wider names low from upto high (tree.Path token regex_at body) l h n = order_wider names low from upto high body l h n
order_wider names low from upto high (tree.Element token name labels properties) l h n =
    (n.0, (let a = n.1 in omega (arith, a, l)), n.2, order_wider names n.0 n.0 upto high properties (omega arith) h n.3)
order_wider names low from upto high (tree.PropertyUse token property value) l h n = name_wider names low from upto high value l h n
order_wider names low from upto high (tree.Reach regex views) l h n = omega (arith, l, h, n)
order_wider names low from upto high (tree.Found k path regex views cost) l h n =
    (n.0, name_wider names low from n.0 n.0 path l (omega arith) n.1, if_wider names n.0 n.0 upto high cost (omega arith) h n.2)
order_wider names low from upto high (tree.All path regex views) l h n = name_wider names low from upto high path l h n
order_wider names low from upto high (tree.Stored path labels) l h n = name_wider names low from upto high path l h n
order_wider names low from upto high (tree.ChainItem parts changes condition) l h n =
    (n.0, order_wider names low from n.0 n.0 parts l (omega arith) n.1, (let a = n.2 in omega (arith, a, h)))
order_wider names low from upto high (tree.NewNode element) l h n = order_wider names low from upto high element l h n
order_wider names low from upto high (tree.NewEdge way element) l h n = order_wider names low from upto high element l h n
order_wider names low from upto high (tree.NewStored token path labels assigns) l h n = name_wider names low from upto high path l h n
order_wider names low from upto high (tree.NewElement token name copy group labels assigns) l h n =
    ((let a = n.0 in omega (arith, a, l)), if_wider names (token + 1) (token + 1) upto high name (omega arith) h n.1)
order_wider names low from upto high tree.none l h n = omega (arith, l, h, n)
order_wider names low from upto high (tree.more t ts) l h n =
    (n.0, order_wider names low from n.0 n.0 t l (omega arith) n.1, order_wider names n.0 n.0 upto high ts (omega arith) h n.2)
order_wider names low from upto high other l h n = omega (arith, l, h, n)

-- what stands between two numbers, of which the second is no lower
name_up : (names : Names) (from : ℕ) (x : Named) (upto : ℕ) → IsNameIn names from x upto → from ≤ upto
name_up names from x upto n = let a = n.low in let b = n.high in omega (arith, a, b)

pub if_up : (names : Names) (from : ℕ) (o : Option Named) (upto : ℕ) → IsNameIf names from o upto → from ≤ upto
if_up names from None upto n = n
if_up names from (Some x) upto n = name_up names from x upto n

pub order_up : (names : Names) {k : Kind} (from : ℕ) (t : Tree k) (upto : ℕ) → IsInOrder names from t upto → from ≤ upto
unfolding IsInOrder
order_up names from (tree.View name query) upto n = order_up names from query upto n
order_up names from (tree.Ask query) upto n = order_up names from query upto n
order_up names from (tree.Query heads first rest) upto n =
    let a = order_up names from heads n.0 n.2 in
    let b = order_up names n.0 first n.1 n.3 in
    let c = order_up names n.1 rest upto n.4 in
    omega (arith, a, b, c)
order_up names from (tree.NextTerm op term) upto n = order_up names from term upto n
order_up names from (tree.BasicTerm basic) upto n = order_up names from basic upto n
order_up names from (tree.QueryTerm query) upto n = order_up names from query upto n
order_up names from (tree.PathHead name chains filter cost) upto n = let a = n.0 in let b = n.1 in omega (arith, a, b)
order_up names from (tree.GraphHead name query) upto n = order_up names from query upto n
order_up names from (tree.Basic token items main optionals) upto n =
    let low = n.2 in
    let a = order_up names (token + 1) items n.0 n.3 in
    let b = order_up names n.0 main n.1 n.4 in
    let c = order_up names n.1 optionals upto n.5 in
    omega (arith, low, a, b, c)
order_up names from (tree.Block patterns filter) upto n = let a = order_up names from patterns n.0 n.1 in let b = n.2 in omega (arith, a, b)
order_up names from (tree.Optional token block) upto n = order_up names from block upto n
order_up names from (tree.Located parts on) upto n = let a = order_up names from parts n.0 n.1 in let b = n.2 in omega (arith, a, b)
order_up names from (tree.Node element) upto n = order_up names from element upto n
order_up names from (tree.Edge way element) upto n = order_up names from element upto n
order_up names from (tree.Path token regex_at body) upto n = order_up names from body upto n
order_up names from (tree.Element token name labels properties) upto n =
    let low = n.1 in let a = if_up names (token + 1) name n.0 n.2 in let b = order_up names n.0 properties upto n.3 in omega (arith, low, a, b)
order_up names from (tree.PropertyUse token property value) upto n = name_up names from value upto n
order_up names from (tree.Reach regex views) upto n = n
order_up names from (tree.Found k path regex views cost) upto n = let a = name_up names from path n.0 n.1 in let b = if_up names n.0 cost upto n.2 in omega (arith, a, b)
order_up names from (tree.All path regex views) upto n = name_up names from path upto n
order_up names from (tree.Stored path labels) upto n = name_up names from path upto n
order_up names from (tree.ChainItem parts changes condition) upto n = let a = order_up names from parts n.0 n.1 in let b = n.2 in omega (arith, a, b)
order_up names from (tree.NewNode element) upto n = order_up names from element upto n
order_up names from (tree.NewEdge way element) upto n = order_up names from element upto n
order_up names from (tree.NewStored token path labels assigns) upto n = name_up names from path upto n
order_up names from (tree.NewElement token name copy group labels assigns) upto n = let low = n.0 in let a = if_up names (token + 1) name upto n.1 in omega (arith, low, a)
order_up names from tree.none upto n = n
order_up names from (tree.more t ts) upto n = let a = order_up names from t n.0 n.1 in let b = order_up names n.0 ts upto n.2 in omega (arith, a, b)
order_up names from other upto n = n
