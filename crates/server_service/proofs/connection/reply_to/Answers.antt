use Rattle.std.proofs.Common.{Ok, Err, refl}
use Rattle.std.proofs.lemmas.Result.{err_from_is_err_and}
use Rattle.server_service.proofs.connection.reply_to.Goals as goal

pub returns : goal.returns
returns g c = record {
  replied = record {
    routing = Ok c.in_ok-routed.routed;
    routes = c.in_ok-routed.ensures;
    done = c.answer.ensures.done;
  };
}

pub returns-in_err-routed : goal.returns-in_err-routed
returns-in_err-routed g c =
    let p = err_from_is_err_and c.from_residual.result c.from_residual.ensures.1 in
    record { replied = record { routing = Err p.0; routes = tt; done = (p.1, refl) } }
