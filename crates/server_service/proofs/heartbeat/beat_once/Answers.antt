use Rattle.std.proofs.Common.{◌∙◌}
use Rattle.server_service.specs.Told.{peer_of}
use Rattle.server_service.proofs.ToldLemmas.{beaten, heard_beat}
use Rattle.server_service.proofs.heartbeat.beat_once.Goals as goal

pub returns-in-Ok-ask : goal.returns-in-Ok-ask
returns-in-Ok-ask g c =
    let peer = peer_of c.args.scheduler.now c.args.scheduler_auth.now in
    let old = g.D.Dialer.asked c.args.dialer.now in
    let new = g.D.Dialer.asked c.ask.new.self in
    let calls =
    beaten peer c.args.beat.now old new c.host_of.result.now c.get.result.now c.in-Ok-ask.reply.items
    c.port_of.result c.heard.result
    c.in-Ok-ask.ensures.ok
    c.host_of.ensures
    c.port_of.ensures
    (c.get.ensures.bytes ∙ c.in-Ok.ensures.text)
    (rw c.deref.ensures.value at c.heard.ensures.says) in
    record {
      beaten = heard_beat peer c.args.beat.now c.heard.result
          (record { asked = old; faults = g.D.Dialer.faults c.args.dialer.now })
          (record { asked = new; faults = g.D.Dialer.faults c.ask.new.self })
          calls
          c.in-Ok-ask.ensures.steady
          c.heard.ensures.came;
    }
