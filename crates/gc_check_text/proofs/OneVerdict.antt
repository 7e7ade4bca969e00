-- Searches that tell the same have one verdict.
use Rattle.std.proofs.Common.{◌≡◌, sym, ap, subst, ◌∙◌}
use Rattle.gc_automata.specs.Machines.{IsAutomatonOf}
use Rattle.gc_cert.specs.Acceptance.{IsProductOf}
use Rattle.gc_cert.specs.declared.document.SearchDoc.{SearchDoc}
use Rattle.gc_cert_text.specs.Certificates.{SearchTold, told}
use Rattle.gc_check.specs.Verdicts.{Holds, IsVerdict}
use Rattle.gc_check.specs.declared.rule.KRule.{KRule}
use Rattle.gc_check.specs.declared.rule.KRule.TheVariants.{PotentialsListed, StartFree, MovesCovered, MovesBounded, RunsPassWalks, CostsLeast}
use Rattle.gc_check.specs.declared.rule.Verdict.{Verdict}
use Rattle.gc_check.specs.declared.rule.Verdict.TheVariants.{Accepted, Rejected}
use Rattle.gc_check.proofs.Refusals.{verdict_one}
use Rattle.gc_prod.specs.Products.{Setting}
use Rattle.gc_regx.specs.Expressions.{HasParts}
use Rattle.gc_regx.specs.Views.{regex_tree}
use Rattle.gc_check_text.specs.Outcomes.{IsVerdictOn}
use Rattle.gc_check_text.proofs.OneMachine.{one_machine}
use Rattle.gc_check_text.proofs.Places.{weaker}

-- a search with the expression of one, and all else of another
abbrev mixed : SearchDoc → SearchTold → SearchDoc
mixed d t = record {
  expression = d.expression;
  graph = t.graph;
  potentials = t.potentials;
  segments = t.segments;
  start = t.start;
  walks = t.walks;
}

-- no rule looks at the expression
held : (d e : SearchDoc) (s : Setting) (rule : KRule) → Holds (mixed d (told e)) s rule → Holds e s rule
held d e s PotentialsListed h = h
held d e s StartFree h = record { there = h.there; free = h.free }
held d e s MovesCovered h = h
held d e s MovesBounded h = h
held d e s RunsPassWalks h = h
held d e s CostsLeast h = h

holds_back : (d e : SearchDoc) (s : Setting) (rule : KRule) → Holds e s rule → Holds (mixed d (told e)) s rule
holds_back d e s PotentialsListed h = h
holds_back d e s StartFree h = record { there = h.there; free = h.free }
holds_back d e s MovesCovered h = h
holds_back d e s MovesBounded h = h
holds_back d e s RunsPassWalks h = h
holds_back d e s CostsLeast h = h

verdict_mixed : (d e : SearchDoc) (s : Setting) (v : Verdict) → IsVerdict e s v → IsVerdict (mixed d (told e)) s v
verdict_mixed d e s Accepted h = record {
  listed = h.listed;
  begins = record { there = h.begins.there; free = h.begins.free };
  covered = h.covered;
  bounded = h.bounded;
  passed = h.passed;
  least = h.least;
}
verdict_mixed d e s (Rejected rule) h = record {
  earlier = h.earlier;
  later = h.later;
  order = h.order;
  before = weaker (Holds e s) (Holds (mixed d (told e)) s) (holds_back d e s) h.earlier h.before;
  broken = λ holds. h.broken (held d e s rule holds);
}

module _ (d e : SearchDoc) (same : told d ≡ told e) (has : HasParts (regex_tree d.expression)) where
  one_setting : (s t : Setting) → IsProductOf d s → IsProductOf e t → s ≡ t
  one_setting s t is are =
      let network : s.network ≡ t.network = is.network ∙ ((λ i. record { graph = (same i).graph; segments = (same i).segments }) ∙ sym are.network) in
      let automaton : IsAutomatonOf (regex_tree d.expression) t.machine = subst (λ tree. IsAutomatonOf tree t.machine) (sym (ap (λ x. x.expression) same)) are.automaton in
      let machine : s.machine ≡ t.machine = one_machine (regex_tree d.expression) has s.machine t.machine is.automaton automaton in
      λ i. record { network = network i; machine = machine i }

  pub one_verdict : (v w : Verdict) → IsVerdictOn d v → IsVerdictOn e w → v ≡ w
  one_verdict v w is are =
      let setting = one_setting is.setting are.setting is.product are.product in
      let there : IsVerdict e is.setting w = subst (λ s. IsVerdict e s w) (sym setting) are.verdict in
      let doc : mixed d (told e) ≡ d = λ i. mixed d (sym same i) in
      verdict_one d is.setting v w is.verdict (subst (λ x. IsVerdict x is.setting w) doc (verdict_mixed d e is.setting w there))
