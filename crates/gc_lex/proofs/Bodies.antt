-- The bytes after an opening quote, a run of plain bytes at a time.
use Rattle.std.proofs.Common.{◌≡◌, ◌≢◌, ℕ, ◌+◌, ◌<◌, ◌≤◌, Bool, true, false, cond, not, ◌&&◌, ◌==◌, List, [], ◌∷◌, ◌++◌, length, get_or, take, drop, Option, Some, None, refl, sym, ap, ◌∙◌, arith, add_assoc, zero-add, one-add, append_assoc, drop-cons, add-one, add-zero, drop-drop, ◌-◌, length-drop, subst}
use Rattle.std.specs.Str.{IsUtf8, IsCharBoundary}
use Rattle.std.proofs.lemmas.Str.{IsCharBoundary-after_ascii}
use Rattle.gc_lex.specs.declared.items.Item.TheVariants.{Spelled}
use Rattle.gc_lex.specs.declared.token.Token.TheVariants.{Text}
use Rattle.gc_lex.specs.Items.{text_item}
use Rattle.std.proofs.lemmas.Bool.{eq-eqb}
use Rattle.std.proofs.lemmas.List.{append-nil, drop_all, get_or-drop}
use Rattle.std.specs.List.{prefix_len}
use Rattle.std.proofs.lemmas.Bool.{false≢true}
use Rattle.std.proofs.lemmas.Bool.Decides.{nat_tests}
use Rattle.std.proofs.lemmas.List.Sums.{prefix_len_stops}
use Rattle.gc_lex.specs.Characters.{is_quote, is_backslash}
use Rattle.gc_lex.specs.Contents.{Body, Closed, BadEscape, Unclosed, body_of, byte_before, escape_before, escape_of, is_plain}
use Rattle.gc_lex.specs.Stops.{run_before, IsStopIn}
use Rattle.gc_lex.specs.declared.texts.Stop.TheVariants as stop

neither : (a b : Bool) → (not a && not b) ≡ true → (a ≡ false) × (b ≡ false)
neither true b h = absurd (false≢true h)
neither false true h = absurd (false≢true h)
neither false false h = (refl, refl)

the_other : (a b : Bool) → (not a && not b) ≡ false → a ≡ false → b ≡ true
the_other true b h e = absurd (false≢true (sym e))
the_other false true h e = refl
the_other false false h e = absurd (false≢true (sym h))

-- a plain byte stands for itself
plain_step : (quote c : ℕ) (cs : List ℕ) → is_plain quote c ≡ true → body_of quote (c ∷ cs) ≡ byte_before c 1 (body_of quote cs)
unfolding body_of
plain_step quote c [] plain = rw (neither (c == quote) (is_backslash c) plain).0 refl
plain_step quote c (d ∷ cs) plain =
    let tests = neither (c == quote) (is_backslash c) plain in
    rw (tests.0, tests.1) refl

run_none : (body : Body) → run_before [] 0 body ≡ body
run_none (Closed contents n) = rw zero-add refl
run_none (BadEscape n) = rw zero-add refl
run_none Unclosed = refl

run_one : (c : ℕ) (run : List ℕ) (n : ℕ) (body : Body) → byte_before c 1 (run_before run n body) ≡ run_before (c ∷ run) (1 + n) body
run_one c run n (Closed contents m) = rw add_assoc refl
run_one c run n (BadEscape m) = rw add_assoc refl
run_one c run n Unclosed = refl

run_step : (quote c : ℕ) (cs : List ℕ) (plain : Bool) → is_plain quote c ≡ plain → (n : ℕ)
    → body_of quote cs ≡ run_before (take n cs) n (body_of quote (drop n cs))
    → let m = cond plain (1 + n) 0 in body_of quote (c ∷ cs) ≡ run_before (take m (c ∷ cs)) m (body_of quote (drop m (c ∷ cs)))
run_step quote c cs false is n rest = sym (run_none (body_of quote (c ∷ cs)))
run_step quote c cs true is n rest =
    rw one-add (plain_step quote c cs is ∙ ap (byte_before c 1) rest ∙ run_one c (take n cs) n (body_of quote (drop n cs)) ∙ rw one-add refl)

-- a run of plain bytes stands for itself
plain_run : (quote : ℕ) (rest : List ℕ) → let n = prefix_len (is_plain quote) rest in body_of quote rest ≡ run_before (take n rest) n (body_of quote (drop n rest))
plain_run quote [] = sym (run_none (body_of quote []))
plain_run quote (c ∷ cs) = run_step quote c cs (is_plain quote c) refl (prefix_len (is_plain quote) cs) (plain_run quote cs)

-- the same, where the length of the run and what is after it are known
after_run : (quote : ℕ) (rest after : List ℕ) (n : ℕ) → n ≡ prefix_len (is_plain quote) rest → drop n rest ≡ after → body_of quote rest ≡ run_before (take n rest) n (body_of quote after)
after_run quote rest after n whole is = rw (← is) (rw whole (plain_run quote rest))

-- the bytes from the end of a run on
rest_of : (rest : List ℕ) (n c : ℕ) → n < length rest → get_or rest n 0 ≡ c → drop n rest ≡ c ∷ drop (n + 1) rest
rest_of rest n c within is = rw (add-one, ← is) (drop-cons rest n 0 within)

quote_closes : (quote : ℕ) (cs : List ℕ) → body_of quote (quote ∷ cs) ≡ Closed [] 1
unfolding body_of
quote_closes quote [] = rw (eq-eqb quote quote refl) refl
quote_closes quote (d ∷ cs) = rw (eq-eqb quote quote refl) refl

no_backslash : (quote : ℕ) → is_quote quote ≡ true → (92 == quote) ≡ false
no_backslash quote h = grind (arith, nat_tests)

backslash_last : (quote : ℕ) → is_quote quote ≡ true → body_of quote (92 ∷ []) ≡ Unclosed
unfolding body_of
backslash_last quote h = rw (no_backslash quote h) refl

backslash_escapes : (quote d : ℕ) (cs : List ℕ) → is_quote quote ≡ true → body_of quote (92 ∷ d ∷ cs) ≡ escape_before (escape_of d) (body_of quote cs)
unfolding body_of
backslash_escapes quote d cs h = rw (no_backslash quote h) refl

backslash_from : (quote c : ℕ) → is_plain quote c ≡ false → c ≢ quote → c ≡ 92
backslash_from quote c stopped other = grind (arith, nat_tests)

-- a run ends at a quote or a backslash
pub stop_is_backslash : (quote : ℕ) (rest : List ℕ) (n : ℕ) → n ≡ prefix_len (is_plain quote) rest → n < length rest → get_or rest n 0 ≢ quote → get_or rest n 0 ≡ 92
stop_is_backslash quote rest n whole within other =
    let stopped : is_plain quote (get_or rest n 0) ≡ false = rw whole (prefix_len_stops (is_plain quote) rest 0 (rw whole at within)) in
    backslash_from quote (get_or rest n 0) stopped other

run_escape : (run : List ℕ) (n c : ℕ) (body : Body) → run_before run n (byte_before c 2 body) ≡ run_before (run ++ c ∷ []) (n + 2) body
run_escape run n c (Closed contents m) = rw (append_assoc, add_assoc) refl
run_escape run n c (BadEscape m) = rw add_assoc refl
run_escape run n c Unclosed = refl

pub body_end : (quote : ℕ) (rest : List ℕ) (n : ℕ) → n ≡ prefix_len (is_plain quote) rest → n ≡ length rest → body_of quote rest ≡ Unclosed
unfolding body_of
body_end quote rest n whole end = after_run quote rest [] n whole (drop_all n rest (omega arith))

pub body_quote : (quote : ℕ) (rest : List ℕ) (n : ℕ) → n ≡ prefix_len (is_plain quote) rest → n < length rest → get_or rest n 0 ≡ quote → body_of quote rest ≡ Closed (take n rest) (n + 1)
body_quote quote rest n whole within here =
    after_run quote rest (quote ∷ drop (n + 1) rest) n whole (rest_of rest n quote within here)
    ∙ rw (quote_closes quote (drop (n + 1) rest), append-nil) refl

pub body_last : (quote : ℕ) (rest : List ℕ) (n : ℕ) → is_quote quote ≡ true → n ≡ prefix_len (is_plain quote) rest → n + 1 ≡ length rest → get_or rest n 0 ≢ quote → body_of quote rest ≡ Unclosed
body_last quote rest n h whole end other =
    let here = stop_is_backslash quote rest n whole (omega arith) other in
    after_run quote rest (92 ∷ []) n whole (rest_of rest n 92 (omega arith) here ∙ ap (λ cs. 92 ∷ cs) (drop_all (n + 1) rest (omega arith)))
    ∙ rw (backslash_last quote h) refl

pub body_escape : (quote : ℕ) (rest : List ℕ) (n : ℕ) (meaning : Option ℕ) → is_quote quote ≡ true → n ≡ prefix_len (is_plain quote) rest → n + 1 < length rest → get_or rest n 0 ≢ quote
    → escape_of (get_or rest (n + 1) 0) ≡ meaning → body_of quote rest ≡ run_before (take n rest) n (escape_before meaning (body_of quote (drop (n + 2) rest)))
body_escape quote rest n meaning h whole within other means =
    let here = stop_is_backslash quote rest n whole (omega arith) other in
    let two : n + 1 + 1 ≡ n + 2 = omega arith in
    after_run quote rest (92 ∷ get_or rest (n + 1) 0 ∷ drop (n + 2) rest) n whole
    (rest_of rest n 92 (omega arith) here ∙ ap (λ cs. 92 ∷ cs) (rest_of rest (n + 1) _ within refl ∙ ap (λ k. get_or rest (n + 1) 0 ∷ drop k rest) two))
    ∙ rw (backslash_escapes quote (get_or rest (n + 1) 0) (drop (n + 2) rest) h, means) refl

pub body_meaning : (quote : ℕ) (rest : List ℕ) (n c : ℕ) → is_quote quote ≡ true → n ≡ prefix_len (is_plain quote) rest → n + 1 < length rest → get_or rest n 0 ≢ quote
    → escape_of (get_or rest (n + 1) 0) ≡ Some c → body_of quote rest ≡ run_before (take n rest ++ c ∷ []) (n + 2) (body_of quote (drop (n + 2) rest))
body_meaning quote rest n c h whole within other means =
    body_escape quote rest n (Some c) h whole within other means ∙ run_escape (take n rest) n c (body_of quote (drop (n + 2) rest))

pub body_bad : (quote : ℕ) (rest : List ℕ) (n : ℕ) → is_quote quote ≡ true → n ≡ prefix_len (is_plain quote) rest → n + 1 < length rest → get_or rest n 0 ≢ quote
    → escape_of (get_or rest (n + 1) 0) ≡ None → body_of quote rest ≡ BadEscape n
body_bad quote rest n h whole within other means =
    body_escape quote rest n None h whole within other means ∙ rw add-zero refl

pub run_start : (run : List ℕ) (n : ℕ) (body : Body) → run ≡ [] → n ≡ 0 → run_before run n body ≡ body
run_start run n body empty zero = rw (empty, zero) (run_none body)

run_twice : (xs ys : List ℕ) (m n : ℕ) (body : Body) → run_before xs m (run_before ys n body) ≡ run_before (xs ++ ys) (m + n) body
run_twice xs ys m n (Closed contents k) = rw (append_assoc, add_assoc) refl
run_twice xs ys m n (BadEscape k) = rw add_assoc refl
run_twice xs ys m n Unclosed = refl

-- one more run with its escape
pub run_more : (quote opening at n c : ℕ) (text contents after : List ℕ) → opening < at
    → body_of quote (drop at text) ≡ run_before (take n (drop at text) ++ c ∷ []) (n + 2) (body_of quote (drop (n + 2) (drop at text)))
    → run_before contents (at - (opening + 1)) (body_of quote (drop at text)) ≡ body_of quote (drop (opening + 1) text)
    → after ≡ contents ++ (take n (drop at text) ++ c ∷ [])
    → run_before after (at + (n + 2) - (opening + 1)) (body_of quote (drop (at + (n + 2)) text)) ≡ body_of quote (drop (opening + 1) text)
run_more quote opening at n c text contents after started stop said is =
    let spelled : at + (n + 2) - (opening + 1) ≡ at - (opening + 1) + (n + 2) = omega arith in
    let twice = run_twice contents (take n (drop at text) ++ c ∷ []) (at - (opening + 1)) (n + 2) (body_of quote (drop (n + 2) (drop at text))) in
    rw (is, spelled, ← drop-drop) (sym twice ∙ ap (run_before contents (at - (opening + 1))) (sym stop) ∙ said)

-- the last run with the closing quote
pub run_closed : (contents run whole : List ℕ) (m n total : ℕ) (body said : Body) → body ≡ Closed run n → run_before contents m body ≡ said
    → whole ≡ contents ++ run → total ≡ 1 + (m + n) → Spelled (Text whole) total ≡ text_item said
run_closed contents run whole m n total body said closed is text length =
    rw (text, length, ← is, closed) refl

pub quote_ascii : (quote : ℕ) → is_quote quote ≡ true → quote < 128
quote_ascii quote h = grind (arith, nat_tests)

-- an escape ends within the text
pub escape_within : (text : List ℕ) (at n c : ℕ) → at ≤ length text → IsStopIn (drop at text) (stop.Escape n c) → at + (n + 2) ≤ length text
escape_within text at n c within stops = omega (arith, length-drop at text, stops.0)

-- and where a character does
pub escape_cuts : (text : List ℕ) (at n c : ℕ) → IsUtf8 text → at ≤ length text → IsStopIn (drop at text) (stop.Escape n c) → IsCharBoundary text (at + (n + 2))
escape_cuts text at n c utf8 within stops =
    let inside : at + (n + 1) < length text = omega (arith, length-drop at text, stops.0) in
    let ascii : get_or text (at + (n + 1)) 0 < 128 = rw get_or-drop at stops.2 in
    let after : at + (n + 1) + 1 ≡ at + (n + 2) = omega arith in
    subst (λ i. IsCharBoundary text i) after (IsCharBoundary-after_ascii text (at + (n + 1)) utf8 inside ascii)

pub pushed_twice : (contents run first second encoded : List ℕ) (c : ℕ) (pushed : List ℕ) → second ≡ first ++ encoded → encoded ≡ c ∷ [] → first ≡ contents ++ pushed → pushed ≡ run
    → second ≡ contents ++ (run ++ c ∷ [])
pushed_twice contents run first second encoded c pushed a b d e = rw (a, b, d, e, append_assoc) refl
