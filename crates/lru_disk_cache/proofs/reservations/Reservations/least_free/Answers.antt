use Rattle.std.proofs.Common.{◌≡◌, length, ap, ◌∙◌, arith}
use Rattle.lru_disk_cache.proofs.Numbers.{next_free}
use Rattle.lru_disk_cache.proofs.reservations.Reservations.least_free.Goals as goal

pub returns : goal.returns
returns c =
    let all : c.len.result ≡ length c.args.self.now = c.len.ensures
    ∙ (c.self.inside.pending.ok.0 ∙ ap length c.self.view_is) in
    let same : c.len.result ≡ c.len-number-end.result = omega (arith, c.len.ensures, c.len-number-end.ensures)
    in
    next_free c.len.result c.args.self.now all
    (λ m below. c.loop-number.invariant m (omega (arith, below, same, c.loop-number-test.false)))
