use Rattle.std.proofs.Common.{◌≡◌, true, false, sym, ◌∙◌, subst}
use Rattle.gc_io.specs.Memory.{SinkState, is_failing}
use Rattle.gc_io.proofs.memory_sink.MemorySinkSink.write.Goals as goal

-- the call was listed
pub returns-then-contains-clause-full : goal.returns-then-contains-clause-full
returns-then-contains-clause-full c = λ free.
    let listed : is_failing c.args.self.now.failing c.args.self.now.calls ≡ true =
    subst (λ (s : SinkState). is_failing s.failing s.calls ≡ true) c.self.view_is
    (rw (← c.as_slice.ensures) (sym c.contains.ensures.value ∙ c.if-contains.true)) in
    let clash : true ≡ false = sym listed ∙ free in
    absurd (cc clash)
