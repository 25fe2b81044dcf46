use Rattle.std.proofs.Common.{◌∙◌, ap, sym}
use Rattle.std.proofs.lemmas.Bool.{false≢true}
use Rattle.std.proofs.lemmas.Result.{IfOk-weaker}
use Rattle.std.specs.Option.{option_map, option_copied}
use Rattle.sched_core.proofs.KeyLemmas.{key_known}
use Rattle.sched_core.proofs.keys.token_at.Goals as goal

pub unreachable-requires : goal.unreachable-requires
unreachable-requires g c =
    absurd (false≢true (rw (← c.authorizer_of.ensures, c.in-None.is) at c.requires.there))

pub returns-clause-token : goal.returns-clause-token
returns-clause-token g c = λ log kept. IfOk-weaker c.token_of.result _ _
    (λ text h. (
      c.in-Some.key.now,
      key_known log c.args.reg (g.A.JobAuthorizer.key_of c.in-Some.key.now)
          (sym (ap (λ k. k c.args.reg) kept)
          ∙ ap (option_map g.A.JobAuthorizer.key_of) (sym c.authorizer_of.ensures)
          ∙ ap (λ o. option_map g.A.JobAuthorizer.key_of (option_copied o)) c.in-Some.is),
      h,
    )) c.token_of.ensures.token
