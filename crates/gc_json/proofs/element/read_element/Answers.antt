use Rattle.std.proofs.Common.{◌≡◌, [], ◌∷◌, Some, true, false, ap, sym, ◌∙◌, subst, arith}
use Rattle.json.specs.Json.{parse_map}
use Rattle.json.specs.Reads.{token_of}
use Rattle.gc_json.specs.ElementSeen.{element_seen}
use Rattle.gc_json.specs.ElementValues.{element_of}
use Rattle.gc_json.specs.Takes.{Takes}
use Rattle.gc_json.specs.Tokens.{value_data, opens_object}
use Rattle.gc_json.proofs.ElementTurns.{of_object, of_other}
use Rattle.gc_json.proofs.TokenTurns.{value_is}
use Rattle.gc_json.proofs.element.read_element.Goals as goal

pub returns-in_default-clause-value : goal.returns-in_default-clause-value
returns-in_default-clause-value c =
    let empty : c.args.reader.now ≡ [] = grind arith in
    ap (λ ts. parse_map (element_of c.args.kind) (value_data c.args.depth ts)) empty ∙ ap (parse_map (element_of c.args.kind)) (value_is c.args.depth [])

pub returns-then-opens_object-clause-value : goal.returns-then-opens_object-clause-value
returns-then-opens_object-clause-value c =
    let s = c.next.new.self in
    let first : c.args.reader.now ≡ token_of c.in-Some.token ∷ s = grind arith in
    let opens : opens_object (token_of c.in-Some.token) ≡ true = grind arith in
    subst (λ due. Takes element_seen due c.element_of_members.result c.element_of_members.new.reader) (sym (of_object c.args.kind c.args.depth c.args.reader.now (token_of c.in-Some.token) s c.requires first opens))
    c.element_of_members.ensures.value

pub returns-clause-value : goal.returns-clause-value
returns-clause-value c =
    let s = c.next.new.self in
    let r = c.check_token.new.reader in
    let first : c.args.reader.now ≡ token_of c.in-Some.token ∷ s = grind arith in
    let opens : opens_object (token_of c.in-Some.token) ≡ false = grind arith in
    of_other c.args.kind c.args.depth c.args.reader.now (token_of c.in-Some.token) s r first opens c.in_ok-check_token.ensures.value ∙ ap (λ e. Some (e, r)) (sym c.empty.ensures)
