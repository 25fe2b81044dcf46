use Rattle.std.proofs.Common.{◌∙◌}
use Rattle.scheduler_service.proofs.RequestedLemmas.{replied}
use Rattle.scheduler_service.proofs.asking.AskingSchedulerOutgoing.do_assign_job.Goals as goal

pub returns-in-Ok-ask-clause-lent : goal.returns-in-Ok-ask-clause-lent
returns-in-Ok-ask-clause-lent g c =
    replied c.args.self.now.dialer.ghost_name (g.D.Dialer.asked c.args.self.now.dialer.now)
    (g.D.Dialer.asked c.ask.new.self)
    c.args.server_id c.addr-addr.result c.args.job_id c.args.tc.now c.args.auth.now c.as_str.result.now
    c.get.result.now c.in-Ok-ask.reply.items c.port_of.result
    c.heard.result
    c.in-Ok-ask.ensures.ok
    c.addr-addr.ensures.addr
    (c.as_str.ensures.value ∙ c.in_ok-host.ensures.ok)
    c.port_of.ensures
    (c.get.ensures.bytes ∙ c.in-Ok.ensures.ok)
    (rw c.deref.ensures.value at c.heard.ensures.says)
