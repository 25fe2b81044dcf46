use Rattle.http_calls.specs.Calls.{ReadsAlloc}
use Rattle.http_calls.proofs.RowLemmas.{row_is}
use Rattle.http_calls.proofs.http.Client.alloc_job.Goals as goal

pub returns-in-Ok-clause-reads : goal.returns-in-Ok-clause-reads
returns-in-Ok-clause-reads g c =
    let base = c.self.inside.scheduler_url in
    let token = c.self.inside.auth_token in
    rw (← c.self.view_is) (row_is _ _ _ _ _ _ (ReadsAlloc base token c.args.tc.now) _ _ c.request.ensures
    c.ask_url.ensures.asks (rw c.get.ensures.text at c.in-Ok.ensures.reads))
