use Rattle.std.proofs.Common.{◌≡◌, ℕ, ◌+◌, Vec, Global, drop, length, map, sym, ap, ◌∙◌, arith, slice_get}
use Rattle.std.specs.Option.{option_map}
use Rattle.std.proofs.lemmas.List.{drop_all, length-map}
use Rattle.std.proofs.lemmas.Option.{slice_get-map}
use Rattle.gc_ast.specs.QueryViews.{file_trees, statement_tree}
use Rattle.gc_ast.specs.Trees.{row}
use Rattle.gc_sorts.specs.BlockTokens.{outermost_if, with_token, with_tokens}
use Rattle.gc_sorts.specs.Blocks.{file_blocks}
use Rattle.gc_sorts.specs.Ways.{led}
use Rattle.gc_sorts.specs.declared.step.Step.{Step}
use Rattle.gc_sorts.proofs.ListSteps.{drop_at}
use Rattle.gc_sorts.proofs.WayLaws.{count_at, leads_at}
use Rattle.gc_sorts.proofs.block_tokens.block_tokens.Goals as goal

pub loop-number-preserved : goal.loop-number-preserved
loop-number-preserved c =
    let statements = row (file_trees c.args.file.now) in
    let all = file_blocks statements in
    let n : ℕ = c.loop-number.number in
    let way = c.at.result.now in
    let there = leads_at statements n way.items (ap (λ ways. slice_get ways n) (sym c.requires) ∙ (slice_get-map (λ (w : Vec Step Global). w.items) c.args.ways.now n ∙ ap (option_map (λ (w : Vec Step Global). w.items)) c.at.ensures)) in
    let later = drop (n + 1) all in
    ap (λ tokens. with_tokens tokens (n + 1) later)
    (c.in_ok-add.ensures ∙ ap (with_token c.loop-number.tokens n) (c.outermost_token-token.ensures c.args.file.now.names ∙ ap (λ ss. outermost_if (led (row (map (statement_tree c.args.file.now.names) ss)) c.as_slice.result.now)) c.deref.ensures.value ∙ (ap (λ w. outermost_if (led statements w)) c.as_slice.ensures.value ∙ ap outermost_if there.1)))
    ∙ (sym (ap (with_tokens c.loop-number.tokens n) (drop_at all n there.0 there.2)) ∙ c.loop-number.invariant)

pub returns : goal.returns
returns c =
    let statements = row (file_trees c.args.file.now) in
    let all = file_blocks statements in
    let many : length c.args.ways.now ≡ length all = sym (length-map c.args.ways.now (λ (w : Vec Step Global). w.items)) ∙ (ap length c.requires ∙ count_at statements) in
    sym (ap (with_tokens c.loop-number.tokens c.loop-number.number) (drop_all c.loop-number.number all (omega (arith, many, c.loop-number-test.false, c.len-number-end.ensures)))) ∙ c.loop-number.invariant
