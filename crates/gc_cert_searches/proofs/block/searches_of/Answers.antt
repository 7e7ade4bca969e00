use Rattle.std.proofs.Common.{◌≡◌, ◌+◌, List, [], sym, ap, ◌∙◌, subst, take}
use Rattle.std.proofs.lemmas.List.{take_all}
use Rattle.std.specs.List.{AllByRecursion, flat_map}
use Rattle.gc_alg.specs.Views.{block_tree}
use Rattle.gc_alg.specs.declared.atom.Atom.{Atom}
use Rattle.gc_alg.specs.declared.block.Part.{Part}
use Rattle.gc_cert_searches.specs.Found.{AreAdded, AreFirstBy}
use Rattle.gc_cert_searches.specs.Patterns.{Pattern, IsSearchable, pattern_by}
use Rattle.gc_cert_searches.specs.Searches.{Matched, AreSearchesInTurn, matched}
use Rattle.gc_cert_searches.proofs.InTurn.{block_patterns, more_patterns, patterns_each, patterns_in, then_added}
use Rattle.gc_cert_searches.proofs.TableWalks.{all_first}
use Rattle.gc_cert_searches.proofs.block.searches_of.Goals as goal

pub add_atoms-requires-clause-searched : goal.add_atoms-requires-clause-searched
add_atoms-requires-clause-searched g c =
    let parts : List Part = c.deref-part-items.result.now in
    let in_parts : AllByRecursion IsSearchable (flat_map patterns_in parts) =
    subst (λ (ps : List Part). AllByRecursion IsSearchable (flat_map patterns_in ps)) (sym c.deref-part-items.ensures.value)
    (subst (AllByRecursion IsSearchable) (block_patterns c.args.block.now) c.requires.searched) in
    let ours : AllByRecursion IsSearchable (patterns_in c.part-item.result) =
    patterns_each IsSearchable patterns_in parts c.part-item.result in_parts (c.loop-part.part-index, c.loop-part-test.true, sym c.part-item.is) in
    subst (λ (atoms : List Atom). AllByRecursion IsSearchable (flat_map pattern_by atoms)) (sym c.deref.ensures.value) ours

pub loop-part-preserved : goal.loop-part-preserved
loop-part-preserved g c =
    let m : Matched = matched c.args.graphs.now c.args.segments.now c.args.table.now in
    let parts : List Part = c.deref-part-items.result.now in
    let i = c.loop-part.part-index in
    let now = c.add_atoms.new.docs.items in
    let added : AreAdded m (patterns_in c.part-item.result) c.loop-part.docs.items now =
    subst (λ (atoms : List Atom). AreAdded m (flat_map pattern_by atoms) c.loop-part.docs.items now) c.deref.ensures.value c.in_ok-add_atoms.ensures in
    let before : AreAdded m (flat_map patterns_in (take i parts)) [] c.loop-part.docs.items =
    subst (λ (ps : List Part). AreAdded m (flat_map patterns_in (take i ps)) [] c.loop-part.docs.items) (sym c.deref-part-items.ensures.value) c.loop-part.invariant in
    let more = then_added m (flat_map patterns_in (take i parts)) (patterns_in c.part-item.result) [] c.loop-part.docs.items now before added in
    subst (λ (ps : List Part). AreAdded m (flat_map patterns_in (take (i + 1) ps)) [] now) c.deref-part-items.ensures.value
    (subst (λ (fs : List Pattern). AreAdded m fs [] now) (more_patterns patterns_in parts i c.part-item.result c.loop-part-test.true c.part-item.is) more)

pub returns-clause-exact : goal.returns-clause-exact
returns-clause-exact g c = λ only.
    let m : Matched = matched c.args.graphs.now c.args.segments.now c.args.table.now in
    let block = block_tree c.args.block.now in
    let parts : List Part = c.deref-part-items.result.now in
    let i = c.loop-part.part-index in
    let before : AreAdded m (flat_map patterns_in (take i parts)) [] c.loop-part.docs.items =
    subst (λ (ps : List Part). AreAdded m (flat_map patterns_in (take i ps)) [] c.loop-part.docs.items) (sym c.deref-part-items.ensures.value) c.loop-part.invariant in
    let all : AreAdded m (flat_map patterns_in parts) [] c.loop-part.docs.items =
    subst (λ (ps : List Part). AreAdded m (flat_map patterns_in ps) [] c.loop-part.docs.items) (take_all i parts c.loop-part-test.false) before in
    let same = ap (flat_map patterns_in) c.deref-part-items.ensures.value ∙ sym (block_patterns c.args.block.now) in
    let first : AllByRecursion (AreFirstBy m) (flat_map patterns_in parts) =
    subst (AllByRecursion (AreFirstBy m)) (sym same) (all_first c.args.graphs.now c.args.segments.now block c.args.table.now only c.requires.table) in
    let whole : AreSearchesInTurn m (flat_map patterns_in parts) c.loop-part.docs.items = subst (AreSearchesInTurn m (flat_map patterns_in parts)) (sym all.whole) (all.told first) in
    subst (λ (fs : List Pattern). AreSearchesInTurn m fs c.loop-part.docs.items) same whole
