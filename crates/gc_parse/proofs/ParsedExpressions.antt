-- What the parse of a regular path expression says of its tokens.
use Rattle.std.proofs.Common.{◌≡◌, ℕ, ◌+◌, ◌<◌, List, [], ◌∷◌, length, Option, Some, None, Result, Ok, Err, refl, ap, ◌∙◌, subst, sym, arith}
use Rattle.gc_lex.specs.declared.token.Token.{Token}
use Rattle.gc_grammar.specs.Queries.{SpellsRegex, start}
use Rattle.gc_grammar.specs.Regexes.{Expression, regex_within}
use Rattle.gc_regx.specs.Trees.{RegexTree, ARegex}
use Rattle.gc_parse_readers.specs.Readers.{Reading, Got, Stuck}
use Rattle.gc_parse_readers.specs.RegexReaders.{read_regex}
use Rattle.gc_parse_readers.proofs.RegexRight.{regex_outline, right_regex}
use Rattle.gc_parse_readers.proofs.Whole.{whole_complete, whole_sound}
use Rattle.gc_parse_source.specs.declared.refusal.Refusal.{Refusal}
use Rattle.gc_parse_source.specs.declared.refusal.Refusal.TheVariants as refusal
use Rattle.gc_parse.specs.declared.refusal.ParseRefusal.{ParseRefusal}
use Rattle.gc_parse.specs.declared.refusal.ParseRefusal.TheVariants as whole
use Rattle.gc_parse.specs.Depths.{IsDepthFault, depth_fault_in}
use Rattle.gc_parse.specs.Parses.{IsDueParse, IsDueWhole, as_parse_refusal, parsed_regex, read_expression, unless_deep}
use Rattle.gc_parse.proofs.DepthFaults.{depth_fault_is_none}
use Rattle.gc_parse.proofs.DepthLaws.{no_fault_in}

short : (ts : List Token) → length ts < length ts + 1
short ts = omega arith

-- ---- the parse is what the tokens spell

pub expression_spelled : (ts : List Token) (tree : RegexTree ARegex) → IsDepthFault ts None → SpellsRegex ts tree → parsed_regex ts ≡ Ok tree
unfolding parsed_regex
expression_spelled ts tree none spelling =
    let all = whole_complete regex_within read_regex regex_outline right_regex ts (length ts + 1) spelling.1 spelling.0 (short ts) spelling.2 in
    ap (λ o. unless_deep o (read_expression (read_regex (length ts + 1) start ts))) (depth_fault_is_none ts none)
    ∙ ap read_expression all
    ∙ ap Ok spelling.3

deep_or_whole : (ts : List Token) (tree : RegexTree ARegex) (o : Option ℕ) (r : Reading Expression) → depth_fault_in ts ≡ o → read_regex (length ts + 1) start ts ≡ r
    → unless_deep o (read_expression r) ≡ Ok tree → IsDepthFault ts None × SpellsRegex ts tree
deep_or_whole ts tree (Some k) r fault is h = absurd (cc)
deep_or_whole ts tree None (Stuck k) fault is h = absurd (cc)
deep_or_whole ts tree None (Got e end (token ∷ rest)) fault is h = absurd (cc)
deep_or_whole ts tree None (Got e end []) fault is h = (
  no_fault_in ts fault,
  (end, e, whole_sound regex_within read_regex regex_outline right_regex ts (length ts + 1) e end (short ts) is, same),
)
  where
    same : e.tree ≡ tree
    same = cc

pub expression_spells : (ts : List Token) (tree : RegexTree ARegex) → parsed_regex ts ≡ Ok tree → IsDepthFault ts None × SpellsRegex ts tree
unfolding parsed_regex
expression_spells ts tree h = deep_or_whole ts tree (depth_fault_in ts) (read_regex (length ts + 1) start ts) refl refl h

-- ---- what the parser gives is due

-- where a bracket is too deep, that is due
pub deep_expression_is_due : (ts : List Token) (k : ℕ) → depth_fault_in ts ≡ Some k → parsed_regex ts ≡ Err (whole.TooDeep k)
unfolding parsed_regex
deep_expression_is_due ts k deep = ap (λ d. unless_deep d (read_expression (read_regex (length ts + 1) start ts))) deep

-- where none is, what the reader gives is due
pub expression_is_due : (ts : List Token) → depth_fault_in ts ≡ None → parsed_regex ts ≡ read_expression (read_regex (length ts + 1) start ts)
unfolding parsed_regex
expression_is_due ts deep = ap (λ d. unless_deep d (read_expression (read_regex (length ts + 1) start ts))) deep

-- a refusal of the whole list is the one that is due
pub expression_refusal_is_due : {T : Type 0} (view : T → RegexTree ARegex) (ts : List Token) (refused : Refusal) (result : Result T ParseRefusal)
    → (x : ParseRefusal) × (result ≡ Err x) × (x ≡ as_parse_refusal refused) → depth_fault_in ts ≡ None
    → IsDueWhole view (read_expression (read_regex (length ts + 1) start ts)) (Err refused) → IsDueParse view (parsed_regex ts) result
expression_refusal_is_due view ts (refusal.Syntax k) result exit deep due =
    subst (IsDueParse view (parsed_regex ts)) (sym (exit.1 ∙ ap Err exit.2)) (expression_is_due ts deep ∙ due)
expression_refusal_is_due view ts refusal.Memory result exit deep due = subst (IsDueParse view (parsed_regex ts)) (sym (exit.1 ∙ ap Err exit.2)) tt
