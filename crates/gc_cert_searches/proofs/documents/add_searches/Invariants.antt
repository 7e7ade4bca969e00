use Rattle.std.proofs.Common.{take}
use Rattle.gc_cert_searches.specs.Found.{AreDocsFrom}
use Rattle.gc_cert_searches.proofs.documents.add_searches.Given as goal

-- the documents from the sources so far, behind those before
abbrev pub invariant-loop-source : goal.invariant-loop-source
invariant-loop-source g l =
    AreDocsFrom l.asked.product.now l.asked.expression.now l.fn.ends.items (take l.source-index l.source-items) l.initial.docs.items l.docs.items
