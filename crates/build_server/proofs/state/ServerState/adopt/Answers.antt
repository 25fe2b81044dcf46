use Rattle.std.proofs.Common.{refl}
use Rattle.build_server.proofs.state.ServerState.adopt.Goals as goal

pub returns : goal.returns
returns g c = record {
  adopts = rw (← c.self.view_is) (record {
    held = refl;
    admits = c.insert_bytes-answer.ensures.admits;
    archives = c.insert_bytes-answer.ensures.ok;
    content = c.insert_bytes-answer.ensures.content;
    fails = c.insert_bytes-answer.ensures.fails;
    step = c.insert_bytes-answer.ensures.in_step;
    steady = c.insert_bytes-answer.ensures.steady;
    uncounted = c.insert_bytes-answer.ensures.uncounted;
    place = record {
      capacity = c.insert_bytes-answer.ensures.at.1;
      path = c.insert_bytes-answer.ensures.at.0;
      others = c.insert_bytes-answer.ensures.others;
      later = c.insert_bytes-answer.ensures.later;
    };
  });
}
