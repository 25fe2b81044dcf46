use Rattle.std.proofs.Common.{◌<◌, ◌-◌, length, is_some, refl, sym, ap, ◌∙◌, arith}
use Rattle.lru_metered.specs.Listing.{pairs_of}
use Rattle.lru_metered.proofs.PartLemmas.{last-there}
use Rattle.lru_metered.proofs.SeenLemmas.{held-at, last-place}
use Rattle.lru_metered.proofs.TableLemmas.{value-there}
use Rattle.lru_metered.proofs.table.Table.latest.Goals as goal

pub unwrap-at-requires : goal.unwrap-at-requires
unwrap-at-requires g c =
    let nodes = c.self.inside.nodes in let n = length (pairs_of nodes) in
    let some : 0 < n = omega (arith, c.requires, ap length c.self.view_is) in
    ap is_some (c.last.ensures ∙ (last-there nodes c.self.invariant.full n refl some).1)

pub item-requires : goal.item-requires
item-requires g c =
    let nodes = c.self.inside.nodes in let full = c.self.invariant.full in let n = length (pairs_of nodes) in
    let some : 0 < n = omega (arith, c.requires, ap length c.self.view_is) in
    held-at nodes full (n - 1) c.unwrap-at.result
    (last-place nodes full n c.unwrap-at.result refl some (sym c.last.ensures ∙ c.unwrap-at.ensures))

pub returns : goal.returns
returns g c =
    let t = c.self.invariant in let nodes = c.self.inside.nodes in
    let n = length (pairs_of nodes) in
    let some : 0 < n = omega (arith, c.requires, ap length c.self.view_is) in
    let there = last-place nodes t.full n c.unwrap-at.result refl some
    (sym c.last.ensures ∙ c.unwrap-at.ensures) in
    let e = c.item.result.now in
    rw (← c.self.view_is) (value-there _ _ g.met.K.Eq.laws nodes _ t c.unwrap-at.result e e c.item.ensures refl
    refl (n - 1) there)
