use Rattle.std.proofs.Common.{◌∙◌, ap, Some, subst, sym}
use Rattle.core_rules.specs.Answers.{IsTokenAt}
use Rattle.core_rules.specs.Ticket.{Ticket}
use Rattle.sched_core.proofs.tickets.reservation.Goals as goal

pub token_at-requires-clause-there : goal.token_at-requires-clause-there
token_at-requires-clause-there g c κs within = c.requires.keys c.args.reg c.requires.stands

pub returns-clause-ticket : goal.returns-clause-ticket
returns-clause-ticket g c = λ log kept. let parts = c.of.ensures.parts in record {
  number = ap (λ (r : Ticket). r.number) parts ∙ kept.number;
  job = ap (λ (r : Ticket). r.job) parts;
  reg = ap (λ (r : Ticket). r.reg) parts;
  server = c.address_at-server.ensures log kept.rows ∙ sym (ap (λ (r : Ticket). Some r.server) parts);
  token = subst (IsTokenAt g.A.JobAuthorizer.key_of g.A.JobAuthorizer.token_for log c.args.reg c.args.job)
      (sym (ap (λ (r : Ticket). r.auth) parts)) (c.in_ok-auth.ensures.token log kept.keys);
}
