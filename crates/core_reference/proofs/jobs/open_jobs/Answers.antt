use Rattle.std.proofs.Common.{◌∙◌, sym, ◌≤◌, length, arith}
use Rattle.core_rules.specs.Cuts.{cuts}
use Rattle.core_rules.specs.Job.{committed_at, is_open}
use Rattle.core_rules.specs.Rows.{open_of}
use Rattle.core_reference.specs.Plain.{shown}
use Rattle.core_reference.proofs.PlainLemmas.{cut_end, shown_all}
use Rattle.core_reference.proofs.jobs.open_jobs.Goals as goal

pub returns : goal.returns
returns c =
    let le : length c.args.log.now ≤ c.loop-place.place = omega arith in
    cut_end (shown committed_at is_open (open_of c.args.log.now)) c.args.log.now c.loop-place.place
    c.loop-place.rows.items _ le c.loop-place.invariant
    ∙ sym (shown_all committed_at is_open (open_of c.args.log.now) (cuts c.args.log.now))
