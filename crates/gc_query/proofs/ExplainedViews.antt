-- The views that a MATCH uses, as they are explained, one use after another.
use Rattle.std.proofs.Common.{◌≡◌, ℕ, ◌+◌, ◌≤◌, ◌==◌, true, false, List, [], ◌∷◌, ◌++◌, length, take, Option, Some, append-nil, append_assoc, refl, sym, ap, ◌∙◌, slice_get}
use Rattle.std.specs.List.{flat_map}
use Rattle.gc_ast.specs.Trees as ast
use Rattle.gc_explain_query.specs.QueryLines.{AView}
use Rattle.gc_lower.specs.Scopes.{Scope}
use Rattle.gc_query.specs.Logs.{explained_head, explained_view}
use Rattle.gc_query.specs.UsedViews.{UsedView, in_turn, uses_of}
use Rattle.gc_query.specs.declared.used_views.ViewOn.{ViewOn}
use Rattle.gc_query.proofs.UsesLaws.{no_use, nothing_used, one_use, take_all, take_next, turn_up_to, uses_both}

both_mapped : {X Y : Type 0} (f : X → List Y) (xs ys : List X) → flat_map f (xs ++ ys) ≡ flat_map f xs ++ flat_map f ys
both_mapped f [] ys = refl
both_mapped f (x ∷ xs) ys = ap (λ zs. f x ++ zs) (both_mapped f xs ys) ∙ sym (append_assoc (f x) (flat_map f xs) (flat_map f ys))

module _ (s : Scope) (names : List (Option (List ℕ))) where
  abbrev explained : List UsedView → List AView
  explained uses = flat_map (explained_view s names) uses

  -- lines behind others
  behind : (a b c : List AView) (us vs : List UsedView) → b ≡ a ++ explained us → c ≡ b ++ explained vs → c ≡ a ++ explained (us ++ vs)
  behind a b c us vs h k = k ∙ (ap (λ xs. xs ++ explained vs) h ∙ (append_assoc a (explained us) (explained vs) ∙ ap (λ xs. a ++ xs) (sym (both_mapped (explained_view s names) us vs))))

  module _ (head : ast.Tree ast.AHead) (number : ℕ) where
    -- one use: of another view, or of this one
    pub passed_over : (u : ViewOn) (a : List AView) → (u.view == number) ≡ false → a ≡ a ++ explained (uses_of head number (u ∷ []))
    passed_over u a h = sym (append-nil a) ∙ ap (λ us. a ++ explained us) (sym (no_use head number u h))

    pub one_shown : (u : ViewOn) (a b : List AView) → (u.view == number) ≡ true → b ≡ a ++ explained_head s names u.graph head → b ≡ a ++ explained (uses_of head number (u ∷ []))
    one_shown u a b h e = e ∙ ap (λ xs. a ++ xs) (sym (append-nil (explained_head s names u.graph head)) ∙ ap explained (sym (one_use head number u h)))

    -- one use more, and none
    pub use_more : (uses : List ViewOn) (k : ℕ) (a b c : List AView) (u : ViewOn) → slice_get uses k ≡ Some u → b ≡ a ++ explained (uses_of head number (take k uses))
        → c ≡ b ++ explained (uses_of head number (u ∷ [])) → c ≡ a ++ explained (uses_of head number (take (k + 1) uses))
    use_more uses k a b c u at h e =
        behind a b c (uses_of head number (take k uses)) (uses_of head number (u ∷ [])) h e
        ∙ ap (λ us. a ++ explained us) (sym (ap (uses_of head number) (take_next uses k u at) ∙ uses_both head number (take k uses) (u ∷ [])))

    pub use_over : (uses : List ViewOn) (k : ℕ) (a b : List AView) → length uses ≤ k → b ≡ a ++ explained (uses_of head number (take k uses)) → b ≡ a ++ explained (uses_of head number uses)
    use_over uses k a b over h = h ∙ ap (λ us. a ++ explained (uses_of head number us)) (take_all uses k over)

  -- one head more, and none
  pub head_more : (heads : List (ast.Tree ast.AHead)) (uses : List ViewOn) (k : ℕ) (b c : List AView) (head : ast.Tree ast.AHead) → slice_get heads k ≡ Some head
      → b ≡ explained (in_turn 0 (take k heads) uses) → c ≡ b ++ explained (uses_of head k uses) → c ≡ explained (in_turn 0 (take (k + 1) heads) uses)
  head_more heads uses k b c head at h e =
      behind [] b c (in_turn 0 (take k heads) uses) (uses_of head k uses) h e ∙ ap explained (sym (turn_up_to heads k head at uses))

  pub head_over : (heads : List (ast.Tree ast.AHead)) (uses : List ViewOn) (k : ℕ) (b : List AView) → length heads ≤ k → b ≡ explained (in_turn 0 (take k heads) uses)
      → b ≡ explained (in_turn 0 heads uses)
  head_over heads uses k b over h = h ∙ ap (λ hs. explained (in_turn 0 hs uses)) (take_all heads k over)

  pub none_shown : (heads : List (ast.Tree ast.AHead)) (uses : List ViewOn) → uses ≡ [] → [] ≡ explained (in_turn 0 heads uses)
  none_shown heads uses none = sym (ap explained (ap (in_turn 0 heads) none ∙ nothing_used 0 heads))
