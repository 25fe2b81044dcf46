use Rattle.std.proofs.Common.{◌∙◌}
use Rattle.server_service.specs.Told.{peer_of}
use Rattle.server_service.proofs.ToldLemmas.{told}
use Rattle.server_service.proofs.telling.TellingServerOutgoing.do_update_job_state.Goals as goal

pub returns-in-Ok-ask-clause-lent : goal.returns-in-Ok-ask-clause-lent
returns-in-Ok-ask-clause-lent g c =
    told c.args.self.now.dialer.ghost_name (peer_of c.args.self.now.scheduler.now c.args.self.now.token.now)
    (g.D.Dialer.asked c.args.self.now.dialer.now) (g.D.Dialer.asked c.ask.new.self) c.args.job_id c.args.state
    c.host_of-host.result.now c.get.result.now c.in-Ok-ask.reply.items c.port_of-port.result c.heard.result
    c.in-Ok-ask.ensures.ok
    c.host_of-host.ensures
    c.port_of-port.ensures
    (c.get.ensures.bytes ∙ c.in-Ok.ensures.text)
    (rw c.deref.ensures.value at c.heard.ensures.says)
