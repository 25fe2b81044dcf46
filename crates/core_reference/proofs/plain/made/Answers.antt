use Rattle.std.proofs.Common.{refl}
use Rattle.core_reference.proofs.plain.made.Goals as goal

pub returns-in_ok-reserved-in-Reserve : goal.returns-in_ok-reserved-in-Reserve
returns-in_ok-reserved-in-Reserve c = rw (
  c.in_ok-reserved-in-Reserve.ensures,
  c.given-ids.ensures.given,
  c.deref.ensures.value,
  c.in_ok-rows-in-Reserve.ensures.rows,
  c.in-Reserve.is,
) refl

pub returns-in_ok-rows-in-Update : goal.returns-in_ok-rows-in-Update
returns-in_ok-rows-in-Update c = rw (
  c.answer_by.ensures,
  c.open_job-found.ensures,
  c.deref-in-Update.ensures.value,
  c.in_ok-rows-in-Update.ensures,
  c.in-Update.is,
) refl
