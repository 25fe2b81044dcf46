use Rattle.std.proofs.Common.{length, ap, arith}
use Rattle.lru_metered.proofs.ListingLemmas.{length-pairs}
use Rattle.lru_metered.proofs.iter.IntoIterIterator.size_hint.Goals as goal

pub returns-clause-lower : goal.returns-clause-lower
returns-clause-lower g c = λ _.
    omega (
      arith,
      c.len.ensures,
      c.self.invariant.counted,
      length-pairs c.self.inside.nodes c.self.invariant,
      ap length c.self.view_is,
    )

pub returns-clause-upper : goal.returns-clause-upper
returns-clause-upper g c = (
  tt,
  omega (
    arith,
    c.len-2.ensures,
    c.self.invariant.counted,
    length-pairs c.self.inside.nodes c.self.invariant,
    ap length c.self.view_is,
  ),
)
