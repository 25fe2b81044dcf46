use Rattle.std.proofs.Common.{Err, refl, subst}
use Rattle.std.specs.Fn.{FnOnceReturnsAtMut}
use Rattle.lru_disk_cache.proofs.moving.written.Goals as goal

pub returns-in-Ok-clause-ok : goal.returns-in-Ok-clause-ok
returns-in-Ok-clause-ok g c = (
  c.new-bytes.result,
  c.write_into.new.out,
  c.in-Ok.ensures,
  c.new-bytes.ensures.items,
  refl,
)

pub returns-in-Err-Refused-clause-fails : goal.returns-in-Err-Refused-clause-fails
returns-in-Err-Refused-clause-fails g c = (
  c.write_into.new.out.items,
  (
    c.new-bytes.result,
    c.write_into.new.out,
    subst (λ e. FnOnceReturnsAtMut g.W.FnOnce c.args.with c.new-bytes.result (Err e) c.write_into.new.out)
        c.in-Err-Refused.field-0-is c.in-Err-Refused.ensures,
    c.new-bytes.ensures.items,
    refl,
  ),
)
