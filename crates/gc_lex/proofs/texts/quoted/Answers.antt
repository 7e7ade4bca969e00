use Rattle.std.proofs.Common.{◌≡◌, ◌+◌, arith, take, drop, ◌∙◌, ap, ◌++◌, [], ◌∷◌}
use Rattle.std.specs.String.{string_bytes}
use Rattle.std.proofs.lemmas.Grind.{common_steps}
use Rattle.std.proofs.lemmas.Str.{IsCharBoundary-after_ascii}
use Rattle.gc_lex.specs.Contents.{Closed, body_of}
use Rattle.gc_lex.specs.Stops.{run_before, IsStopIn}
use Rattle.gc_lex.specs.declared.texts.Stop.TheVariants as stop
use Rattle.gc_lex.proofs.Bodies.{run_start, run_more, run_closed, quote_ascii, escape_within, escape_cuts, pushed_twice}
use Rattle.gc_lex.proofs.texts.quoted.Goals as goal

pub pieces-init : goal.pieces-init
pieces-init c = record {
  started = omega arith;
  within = omega arith;
  cut = IsCharBoundary-after_ascii c.args.text.now c.args.opening c.utf8.text c.requires.within (omega (arith, quote_ascii c.args.quote c.requires.quote));
  said = run_start _ _ _ c.new-contents.ensures.bytes (omega arith);
}

pub returns-in-Quote : goal.returns-in-Quote
returns-in-Quote c =
    let n = c.in-Quote.n in
    let rest = drop c.pieces.at c.args.text.now in
    let is : c.as_bytes.result.now ≡ rest = c.as_bytes.ensures.value ∙ c.range_from-rest.ensures.value in
    let body : body_of c.args.quote rest ≡ Closed (take n rest) (n + 1) = rw is at c.in-Quote.ensures.body in
    let run : c.range.result.now ≡ take n rest = grind (arith, common_steps) in
    let whole : c.from_string-contents.result ≡ string_bytes c.pieces.contents ++ take n rest =
    c.from_string-contents.ensures ∙ c.in_ok-push_str-in-Quote.ensures.bytes ∙ ap (λ bytes. string_bytes c.pieces.contents ++ bytes) run in
    run_closed _ _ _ _ _ _ _ _ body c.pieces.invariant.said whole (omega arith)

pub pieces-preserved : goal.pieces-preserved
pieces-preserved c =
    let n = c.in-Escape.n in
    let at = c.pieces.at in
    let text = c.args.text.now in
    let rest = drop at text in
    let is : c.as_bytes.result.now ≡ rest = c.as_bytes.ensures.value ∙ c.range_from-rest.ensures.value in
    let body : body_of c.args.quote rest ≡ run_before (take n rest ++ c.in-Escape.meaning ∷ []) (n + 2) (body_of c.args.quote (drop (n + 2) rest)) = rw is at c.in-Escape.ensures.body in
    let stops : IsStopIn rest (stop.Escape n c.in-Escape.meaning) = rw is at c.in-Escape.ensures.within in
    let run : c.range-in-Escape.result.now ≡ take n rest = grind (arith, common_steps) in
    record {
      started = omega arith;
      within = escape_within text at n c.in-Escape.meaning c.pieces.invariant.within stops;
      cut = escape_cuts text at n c.in-Escape.meaning c.utf8.text c.pieces.invariant.within stops;
      said = run_more c.args.quote c.args.opening at n c.in-Escape.meaning text (string_bytes c.pieces.contents) _ c.pieces.invariant.started body c.pieces.invariant.said
          (pushed_twice _ _ _ _ _ _ _ c.in_ok-push-in-Escape.ensures.bytes (c.in_ok-push-in-Escape.ensures.ascii stops.3) c.in_ok-push_str-in-Escape.ensures.bytes run);
    }
