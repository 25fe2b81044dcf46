use Rattle.std.proofs.Common.{length, ap, arith}
use Rattle.lru_metered.proofs.PartLemmas.{length-left}
use Rattle.lru_metered.proofs.iter.IterIterator.size_hint.Goals as goal

pub returns-clause-lower : goal.returns-clause-lower
returns-clause-lower g c = λ _.
    let i = c.self.inside in
    omega (
      arith,
      length-left i.nodes.now i.end i.left i.first i.last c.self.invariant,
      ap length c.self.view_is,
    )

pub returns-clause-upper : goal.returns-clause-upper
returns-clause-upper g c =
    let i = c.self.inside in (
      tt,
      omega (
        arith,
        length-left i.nodes.now i.end i.left i.first i.last c.self.invariant,
        ap length c.self.view_is,
      ),
    )
