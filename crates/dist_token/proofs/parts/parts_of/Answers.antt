use Rattle.std.proofs.Common.{sym}
use Rattle.dist_token.proofs.DotCuts.{three_and_more, take_signed}
use Rattle.dist_token.proofs.parts.parts_of.Goals as goal

pub returns-in-Some-clause-parts : goal.returns-in-Some-clause-parts
returns-in-Some-clause-parts c = rw (
  c.in_ok-header.ensures.parts,
  c.in_ok-claims.ensures.parts,
  c.in-Some.ensures.parts,
) (sym (three_and_more _ _ _ _))

pub returns-clause-signed : goal.returns-clause-signed
returns-clause-signed c = rw (
  c.as_bytes.ensures.value,
  c.as_bytes-2.ensures.value,
  c.as_bytes-bytes.ensures.value,
)
    (take_signed _ _ _ _ _ c.in_ok-header.ensures.whole c.in_ok-claims.ensures.whole)
