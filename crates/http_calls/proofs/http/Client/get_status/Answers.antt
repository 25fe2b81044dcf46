use Rattle.std.proofs.Common.{inl, refl}
use Rattle.http_calls.specs.Calls.{ReadsStatus}
use Rattle.http_calls.proofs.PackLemmas.{asked_as}
use Rattle.http_calls.proofs.RowLemmas.{row_is}
use Rattle.http_calls.proofs.http.Client.get_status.Goals as goal

pub returns-in-Ok-clause-asks : goal.returns-in-Ok-clause-asks
returns-in-Ok-clause-asks g c =
    rw (← c.self.view_is) (inl (
      c.in-Ok.ensures.http,
      asked_as _ _ _ _ _ _ _ _ _ c.request.ensures c.in-Ok.ensures.text
          c.ask_url.ensures.asks c.ask_url.ensures.cause c.ask_url.ensures.steady
          c.ask_url.ensures.later refl,
    ))

pub returns-in-Ok-clause-reads : goal.returns-in-Ok-clause-reads
returns-in-Ok-clause-reads g c =
    rw (← c.self.view_is) (row_is _ _ _ _ _ _ (ReadsStatus c.self.inside.scheduler_url) _ _ c.request.ensures
    c.ask_url.ensures.asks c.in-Ok.ensures.reads)
