use Rattle.farm.proofs.AuditLemmas.{refused_by}
use Rattle.farm.proofs.audit_run.judge.Goals as goal

pub returns-in-Ok-Refused-clause-refused : goal.returns-in-Ok-Refused-clause-refused
returns-in-Ok-Refused-clause-refused c =
    refused_by c.args.text.now c.in-Ok-Refused.line c.in-Ok-Refused.why
    (rw c.in-Ok-Refused.field-0-is at c.in-Ok-Refused.ensures.text)
    (rw c.in-Ok-Refused.field-0-is at c.in-Ok-Refused.ensures.judged)
    (rw c.in-Ok-Refused.field-0-is at c.in-Ok-Refused.ensures.books)
