use Rattle.std.proofs.Common.{ℕ, List, Ok, ap, ◌∙◌}
use Rattle.quota.specs.declared.picked.QuotaPicked.TheVariants.{Picked}
use Rattle.quota_service.specs.Replied.{job_token}
use Rattle.quota_service.proofs.ReserveLemmas.{never_absent, reserved_own}
use Rattle.quota_service.proofs.answer.allocate.Goals as goal

pub spent-requires : goal.spent-requires
spent-requires g c =
    let r = c.in-Ok-Picked-Reserved in
    record {
      own = reserved_own (λ (key : List ℕ). key) job_token c.args.now c.args.client.now c.args.quota.now
          c.reserve_for.new.self r.r c.reserve_for.result
          (r.is ∙ ap Ok (r.field-0-is ∙ ap Picked r.field-0-0-is)) c.reserve_for.ensures.reserved;
    }

pub unreachable-requires : goal.unreachable-requires
unreachable-requires g c =
    never_absent (λ (key : List ℕ). key) job_token c.args.now c.args.client.now c.args.quota.now
    c.reserve_for.new.self c.reserve_for.result c.requires.listed
    (c.in-Ok-NoClient.is ∙ ap Ok c.in-Ok-NoClient.field-0-is) c.reserve_for.ensures.reserved
