use Rattle.std.proofs.Common.{Err, ap, refl}
use Rattle.http_calls.specs.Calls.{ReadsSubmit}
use Rattle.http_calls.proofs.PackLemmas.{asked_as}
use Rattle.http_calls.proofs.RowLemmas.{row_is, no_row, unasked}
use Rattle.http_calls.proofs.http.Client.bring.Goals as goal

pub returns-in-Ok : goal.returns-in-Ok
returns-in-Ok g c =
    rw (← c.self.view_is) record {
      asked = asked_as _ _ _ _ _ _ _ _ _ c.request.ensures c.in-Ok.ensures.text
          c.ask_server.ensures.asks c.ask_server.ensures.cause c.ask_server.ensures.steady
          c.ask_server.ensures.later refl;
      row = row_is _ _ _ _ _ _ (ReadsSubmit _ _) _ _ c.request.ensures c.ask_server.ensures.asks
          c.in-Ok.ensures.asks;
    }

pub returns-in-Err : goal.returns-in-Err
returns-in-Err g c = record {
  asked = unasked _ _ _ _ _ _ (ap Err c.in-Err.ensures.err);
  row = no_row (ReadsSubmit _ _) _ _ refl;
}
