use Rattle.std.proofs.Common.{◌-◌, ◌^◌, ◌∙◌, min, ap}
use Rattle.std.specs.Prelude.{sum_by}
use Rattle.row_index.specs.Slots.{rows_in}
use Rattle.sched_core.specs.Registrations.{cpus_at}
use Rattle.sched_core.proofs.IndexLemmas.{left_sum}
use Rattle.sched_core.proofs.registrations.Registrations.cpus_left.Goals as goal

pub returns : goal.returns
returns c = rw (← c.self.view_is) (λ now is.
    let rows = rows_in c.self.inside.ranks.places in
    c.sum_without.ensures
    ∙ ap (λ n. min (2 ^ 64 - 1) (n - sum_by (cpus_at rows) c.args.pruned.now)) c.self.invariant.0.sum
    ∙ ap (λ ns. min (2 ^ 64 - 1) (sum_by (λ r. r.cpus) rows - sum_by (cpus_at rows) ns)) is
    ∙ ap (λ n. min (2 ^ 64 - 1) n) (left_sum now rows c.self.invariant.0.sound.rising))
