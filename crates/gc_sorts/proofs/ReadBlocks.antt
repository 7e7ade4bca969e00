-- The reads of a checked file's blocks: by number, and by token.
use Rattle.std.proofs.Common.{◌≡◌, ◌≤◌, ℕ, ◌+◌, Bool, true, false, ◌&&◌, cond, List, [], ◌∷◌, Option, Some, None, Vec, Global, map, length, refl, sym, ap, ◌∙◌, nat_eq, slice_get}
use Rattle.std.specs.List.{position_from}
use Rattle.std.specs.Prelude.{if◌then◌else◌}
use Rattle.std.specs.Option.{option_map, option_or}
use Rattle.std.proofs.lemmas.Option.{slice_get-map, slice_get_past}
use Rattle.gc_ast.specs.declared.file.File.{File}
use Rattle.gc_ast.specs.QueryViews.{file_trees}
use Rattle.gc_ast.specs.Trees.{row}
use Rattle.gc_sorts.specs.declared.step.Step.{Step}
use Rattle.gc_sorts.specs.BlockTokens.{outermost_token, with_token, with_tokens}
use Rattle.gc_sorts.specs.Blocks.{Placed, block_at, file_blocks, is_at, is_outermost, token_of}
use Rattle.gc_sorts.specs.Collected.{number_of}
use Rattle.gc_sorts.specs.Ways.{file_ways, led}
use Rattle.gc_sorts.proofs.ReadLaws.{first_told, or_assoc, or_none, told}
use Rattle.gc_sorts.proofs.WayLaws.{leads_at, none_at}

module _ (file : File) (ways : List (Vec Step Global)) (is : map (λ (w : Vec Step Global). w.items) ways ≡ file_ways (row (file_trees file))) where
  -- the way of a number leads to the block of this number
  pub there : (n : ℕ) (way : Vec Step Global) → slice_get ways n ≡ Some way
      → (p : Placed) × (led (row (file_trees file)) way.items ≡ Some p) × (slice_get (file_blocks (row (file_trees file))) n ≡ Some p)
  there n way at =
      leads_at (row (file_trees file)) n way.items
      (ap (λ ws. slice_get ws n) (sym is) ∙ (slice_get-map (λ (w : Vec Step Global). w.items) ways n ∙ ap (option_map (λ (w : Vec Step Global). w.items)) at))

  pub gone : (n : ℕ) → length ways ≤ n → slice_get (file_blocks (row (file_trees file))) n ≡ None
  gone n past =
      none_at (row (file_trees file)) n
      (ap (λ ws. slice_get ws n) (sym is) ∙ (slice_get-map (λ (w : Vec Step Global). w.items) ways n ∙ ap (option_map (λ (w : Vec Step Global). w.items)) (slice_get_past ways n past)))

-- the first block that is outermost and has a token
picked : (test : Bool) (n : ℕ) (rest : Option ℕ) → option_or (if test then Some n else None) rest ≡ cond test (Some n) rest
picked true n rest = refl
picked false n rest = refl

one_told : (pairs : List (ℕ × ℕ)) (n token : ℕ) (p : Placed) (rest : Option ℕ)
    → option_or (number_of (with_token pairs n (outermost_token p)) token) rest ≡ option_or (number_of pairs token) (cond (is_at token p) (Some n) rest)
one_told pairs n token p rest = by (is_outermost p.around)
  where
    by : (b : Bool) → option_or (number_of (with_token pairs n (if b then Some (token_of p.block) else None)) token) rest
        ≡ option_or (number_of pairs token) (cond (b && nat_eq token (token_of p.block)) (Some n) rest)
    by true =
        ap (λ o. option_or o rest) (first_told pairs (token_of p.block) n token)
        ∙ (or_assoc (number_of pairs token) (told token (token_of p.block) n) rest ∙ ap (option_or (number_of pairs token)) (picked (nat_eq token (token_of p.block)) n rest))
    by false = refl

tokens_told : (pairs : List (ℕ × ℕ)) (n : ℕ) (all : List Placed) (token : ℕ) → number_of (with_tokens pairs n all) token ≡ option_or (number_of pairs token) (position_from (is_at token) n all)
tokens_told pairs n [] token = sym (or_none (number_of pairs token))
tokens_told pairs n (p ∷ all) token =
    tokens_told (with_token pairs n (outermost_token p)) (n + 1) all token ∙ one_told pairs n token p (position_from (is_at token) (n + 1) all)

pub token_kept : (pairs : List (ℕ × ℕ)) (all : List Placed) (token : ℕ) → pairs ≡ with_tokens [] 0 all → number_of pairs token ≡ block_at all token
token_kept pairs all token is = ap (λ ps. number_of ps token) is ∙ tokens_told [] 0 all token
