use Rattle.std.proofs.Common.{Ok, Err, refl}
use Rattle.http_calls.specs.Client.{run_of, first_of}
use Rattle.http_calls.proofs.PackLemmas.{ran_after}
use Rattle.http_calls.proofs.http.Client.run.Goals as goal

pub returns-in-Ok : goal.returns-in-Ok
returns-in-Ok g c = record {
  packed = Ok c.in-Ok.ensures.0;
  packs = c.in-Ok.ensures.1;
  follows = ran_after c.args.job.now (run_of c.args.command c.args.outputs) c.in-Ok.ensures.0 c.in-Ok.call
      (first_of c.beside.result) c.send.result c.args.self.now c.send.new.self c.in-Ok.ensures.2 c.in-Ok.ensures.3
      c.beside.ensures c.send.ensures;
}

pub returns-in-Err : goal.returns-in-Err
returns-in-Err g c = record {
  packed = Err c.in-Err.refusal;
  packs = c.in-Err.ensures;
  follows = (refl, refl);
}
