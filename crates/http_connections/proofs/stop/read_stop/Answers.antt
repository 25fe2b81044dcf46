use Rattle.std.proofs.Common.{◌≡◌, ◌++◌, ◌∷◌, [], length, ap, ◌∙◌, arith}
use Rattle.dist_types.proofs.Contents.{taken_then}
use Rattle.http_connections.proofs.StopLemmas.{lines-push, goes_on, stops, stop_by_end, stop_by_length}
use Rattle.http_connections.proofs.StopLemmas.{no_stop, so_far_within, byte_within}
use Rattle.http_connections.proofs.TakingLemmas.{on_err}
use Rattle.http_connections.proofs.stop.read_stop.Goals as goal

pub returns-in-Err-clause-front : goal.returns-in-Err-clause-front
returns-in-Err-clause-front g c = (
  _,
  taken_then _ (c.in-Some.byte ∷ []) _ _ _ c.loop-out.invariant.taken
      (rw c.in-Some.is at c.in_ok-byte.ensures.taken),
)

pub returns-then-ended-clause-stop : goal.returns-then-ended-clause-stop
returns-then-ended-clause-stop g c =
    let before = c.loop-out.invariant in
    let taken = rw c.in-Some.is at c.in_ok-byte.ensures.taken in
    rw c.in-Ok.ensures.items
    (stops _ _ _ _ _ before.taken taken before.goes
    (stop_by_end _ _ _ (c.ends-ended.ensures _ before.sees) c.if-ended.true))

pub returns-then-len-eq-MAX_STOP_BYTES-clause-stop : goal.returns-then-len-eq-MAX_STOP_BYTES-clause-stop
returns-then-len-eq-MAX_STOP_BYTES-clause-stop g c =
    let before = c.loop-out.invariant in
    let taken = rw c.in-Some.is at c.in_ok-byte.ensures.taken in
    let all : length (c.loop-out.out.items ++ c.in-Some.byte ∷ []) ≡ 65537 =
    omega (arith, c.push.new.self.ok.0, ap length c.in-Ok.ensures.items, c.len.ensures) in
    rw c.in-Ok.ensures.items (stops _ _ _ _ _ before.taken taken before.goes (stop_by_length _ _ all))

pub loop-out-preserved : goal.loop-out-preserved
loop-out-preserved g c =
    let before = c.loop-out.invariant in
    let taken = rw c.in-Some.is at c.in_ok-byte.ensures.taken in
    let more = c.in-Ok.ensures.items in
    record {
      below = omega (arith, c.in-Ok.ensures.len, c.len.ensures);
      taken = rw more (taken_then _ _ _ _ _ before.taken taken);
      sees = rw (more, lines-push) (c.step-scan.ensures _ before.sees);
      goes = rw more (goes_on _ _ _ _ taken before.goes
          (no_stop _ _ _ (c.ends-ended.ensures _ before.sees) c.if-ended.false
          (λ e. absurd (omega (arith, c.push.new.self.ok.0, ap length more, c.len.ensures)))));
      steady = c.in_ok-byte.ensures.steady ∙ before.steady;
      apart = c.read_byte.ensures.apart ∙ before.apart;
    }

pub returns-in_err-byte-clause-within : goal.returns-in_err-byte-clause-within
returns-in_err-byte-clause-within g c =
    let before = c.loop-out.invariant in
    on_err c.from_residual.result
    (so_far_within _ _ _ _ before.taken before.goes c.in_err-byte.ensures.same)

pub returns-in-Err-clause-within : goal.returns-in-Err-clause-within
returns-in-Err-clause-within g c =
    let before = c.loop-out.invariant in
    byte_within _ c.in-Some.byte _ _ _ before.taken (rw c.in-Some.is at c.in_ok-byte.ensures.taken)
    before.goes
