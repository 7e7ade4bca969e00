use Rattle.gc_prod.proofs.LeadLaws.{run_leads, leads_run}
use Rattle.gc_prod.proofs.laws.moves_make_the_runs.Goals as goal

pub returns : goal.returns
returns c = record {
  lead = λ setting from to w c run. (run.0, run_leads setting run.0 from to w c run.1);
  pass = λ setting law n p q there h.
      let passed = leads_run setting law n p q there h in
      record { walk = passed.walk; cost = passed.cost; runs = (n, passed.runs); starts = passed.starts; ends = passed.ends };
}
