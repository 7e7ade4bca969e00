-- What the parse of a token list says of the list.
use Rattle.std.proofs.Common.{◌≡◌, ℕ, ◌+◌, List, length, Option, Some, None, Result, Ok, Err, refl, ap, ◌∙◌, subst, arith}
use Rattle.gc_lex.specs.declared.token.Token.{Token}
use Rattle.gc_ast.specs.Trees.{Tree, AStatement}
use Rattle.gc_grammar.specs.Queries.{SpellsFile}
use Rattle.gc_parse_readers.specs.Readers.{Reading, Got, Stuck}
use Rattle.gc_parse_readers.specs.Refusals.{IsRefusedAt}
use Rattle.gc_parse_readers.specs.QueryReaders.{file_reading}
use Rattle.gc_parse_readers.proofs.FileRight.{file_complete, file_refused, file_sound}
use Rattle.gc_parse.specs.declared.refusal.ParseRefusal.{ParseRefusal}
use Rattle.gc_parse.specs.declared.refusal.ParseRefusal.TheVariants as parse
use Rattle.gc_parse.specs.Depths.{IsDepthFault, depth_fault_in}
use Rattle.gc_parse.specs.Parses.{parsed, read_whole, unless_deep}
use Rattle.gc_parse.proofs.DepthFaults.{depth_fault_is_none}
use Rattle.gc_parse.proofs.DepthLaws.{fault_in, no_fault_in}

-- what the parse of tokens is
pub parsed_spelled : (ts : List Token) (statements : List (Tree AStatement)) → IsDepthFault ts None → SpellsFile ts statements → parsed ts ≡ Ok statements
unfolding parsed
parsed_spelled ts statements none spelled =
    ap (λ o. unless_deep o (read_whole (file_reading (length ts + 1) ts))) (depth_fault_is_none ts none)
    ∙ ap read_whole (file_complete (length ts + 1) ts statements (omega arith) spelled)

not_read : (r : Reading (List (Tree AStatement))) (k : ℕ) → read_whole r ≡ Err (parse.TooDeep k) → ⊥
not_read (Got statements end rest) k h = cc
not_read (Stuck j) k h = cc

pub parsed_deep : (ts : List Token) (k : ℕ) → parsed ts ≡ Err (parse.TooDeep k) → IsDepthFault ts (Some k)
unfolding parsed
parsed_deep ts k h = by (depth_fault_in ts) refl h
  where
    same : (j : ℕ) → ◌≡◌ {A = Result (List (Tree AStatement)) ParseRefusal} (Err (parse.TooDeep j)) (Err (parse.TooDeep k)) → j ≡ k
    same j e = cc

    by : (o : Option ℕ) → depth_fault_in ts ≡ o → unless_deep o (read_whole (file_reading (length ts + 1) ts)) ≡ Err (parse.TooDeep k) → IsDepthFault ts (Some k)
    by None is e = absurd (not_read (file_reading (length ts + 1) ts) k e)
    by (Some j) is e = fault_in ts k (is ∙ ap (λ n. Some n) (same j e))

refused_reading : (ts : List Token) (k : ℕ) (r : Reading (List (Tree AStatement))) → file_reading (length ts + 1) ts ≡ r → read_whole r ≡ Err (parse.Syntax k) → IsRefusedAt SpellsFile ts k
refused_reading ts k (Got statements end rest) is h = absurd (cc)
refused_reading ts k (Stuck j) is h = file_refused (length ts + 1) k ts (omega arith) (is ∙ ap (λ n. Stuck n) same)
  where
    same : j ≡ k
    same = cc

pub parsed_refused : (ts : List Token) (k : ℕ) → parsed ts ≡ Err (parse.Syntax k) → IsRefusedAt SpellsFile ts k
unfolding parsed
parsed_refused ts k h = by (depth_fault_in ts) h
  where
    by : (o : Option ℕ) → unless_deep o (read_whole (file_reading (length ts + 1) ts)) ≡ Err (parse.Syntax k) → IsRefusedAt SpellsFile ts k
    by None e = refused_reading ts k (file_reading (length ts + 1) ts) refl e
    by (Some j) e = absurd (cc)

spelled_reading : (ts : List Token) (statements : List (Tree AStatement)) (r : Reading (List (Tree AStatement))) → file_reading (length ts + 1) ts ≡ r → read_whole r ≡ Ok statements → SpellsFile ts statements
spelled_reading ts statements (Got others end rest) is h = subst (SpellsFile ts) same (file_sound (length ts + 1) ts rest others end (omega arith) is).1
  where
    same : others ≡ statements
    same = cc
spelled_reading ts statements (Stuck j) is h = absurd (cc)

pub parsed_spells : (ts : List Token) (statements : List (Tree AStatement)) → parsed ts ≡ Ok statements → IsDepthFault ts None × SpellsFile ts statements
unfolding parsed
parsed_spells ts statements h = by (depth_fault_in ts) refl h
  where
    by : (o : Option ℕ) → depth_fault_in ts ≡ o → unless_deep o (read_whole (file_reading (length ts + 1) ts)) ≡ Ok statements → IsDepthFault ts None × SpellsFile ts statements
    by None is e = (no_fault_in ts is, spelled_reading ts statements (file_reading (length ts + 1) ts) refl e)
    by (Some k) is e = absurd (cc)
