use Rattle.std.proofs.Common.{arith}
use Rattle.http_head.proofs.HeadLemmas.{none_by}
use Rattle.http_head.proofs.head.parse_head.Goals as goal

pub returns-then-head-gt-MAX_HEADERS : goal.returns-then-head-gt-MAX_HEADERS
returns-then-head-gt-MAX_HEADERS c =
    none_by c.args.bytes.now c.in-Ok-Complete.len c.parse.new.self
    (rw c.in-Ok-Complete.field-0-is at c.in-Ok-Complete.ensures.complete) (λ few short. absurd (omega arith))

pub returns-then-len-gt-MAX_HEAD_BYTES : goal.returns-then-len-gt-MAX_HEAD_BYTES
returns-then-len-gt-MAX_HEAD_BYTES c =
    none_by c.args.bytes.now c.in-Ok-Complete.len c.parse.new.self
    (rw c.in-Ok-Complete.field-0-is at c.in-Ok-Complete.ensures.complete) (λ few short. absurd (omega arith))
