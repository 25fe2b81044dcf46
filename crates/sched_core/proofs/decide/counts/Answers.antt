use Rattle.std.proofs.Common.{◌≡◌, ◌≤◌, ◌-◌, ◌∙◌, length, refl, ap, sym, subst}
use Rattle.core_rules.specs.Prune.{left}
use Rattle.sched_core.proofs.RegistrationLemmas.{left_count}
use Rattle.sched_core.proofs.decide.counts.Goals as goal

pub overflow_sub-result : goal.overflow_sub-result
overflow_sub-result c = subst (λ n. length c.args.pruned.now ≤ n) (sym c.len.ensures)
    (left_count c.args.now c.args.rows.now.rows c.args.pruned.now c.requires).0

pub returns : goal.returns
returns c =
    let rows = c.args.rows.now.rows in
    let servers : c.len.result - length c.args.pruned.now ≡ length (left c.args.now rows) =
    ap (λ n. n - length c.args.pruned.now) c.len.ensures
    ∙ sym (left_count c.args.now rows c.args.pruned.now c.requires).1 in
    rw (servers, c.cpus_left.ensures c.args.now c.requires) refl
