use Rattle.std.proofs.Common.{◌∙◌, sym, ◌≤◌, length, arith}
use Rattle.core_rules.specs.Cuts.{cuts}
use Rattle.core_rules.specs.Standing.{registered_at, stands}
use Rattle.core_reference.specs.Plain.{shown, signed}
use Rattle.core_reference.proofs.PlainLemmas.{cut_end, shown_all}
use Rattle.core_reference.proofs.servers.standing.Goals as goal

pub returns : goal.returns
returns c =
    let le : length c.args.log.now ≤ c.loop-place.place = omega arith in
    cut_end (shown registered_at stands signed) c.args.log.now c.loop-place.place c.loop-place.rows.items _ le
    c.loop-place.invariant
    ∙ sym (shown_all registered_at stands signed (cuts c.args.log.now))
