use Rattle.std.proofs.Common.{sym, ap, subst}
use Rattle.std.specs.Option.{option_map}
use Rattle.lru_metered.specs.Index.{hash_of, pair_of, IsIndexed}
use Rattle.lru_metered.proofs.ListingLemmas.{absent-listed}
use Rattle.lru_metered.proofs.TableLemmas.{key-found, value-found}
use Rattle.lru_metered.proofs.table.Table.get_pair.Goals as goal

pub find-requires : goal.find-requires
find-requires g c =
    let hash = λ (l : g.row.K.Denot). hash_of g.S.BuildHasher g.S.Hasher.Hasher c.self.inside.hasher
    (g.K.Hash.hash_input l) in
    subst (λ h. IsIndexed hash c.self.inside.nodes.items h)
    (sym c.as_slice.ensures.value) c.self.invariant.indexed

pub returns-in_err-found-clause-key : goal.returns-in_err-found-clause-key
returns-in_err-found-clause-key g c =
    rw (c.from_residual.ensures, ← c.self.view_is)
    (sym (absent-listed (g.K.PartialEq.eq c.args.key.now) c.self.inside.nodes
    c.in_err-found.ensures.absent).key)

pub returns-in_err-found-clause-value : goal.returns-in_err-found-clause-value
returns-in_err-found-clause-value g c =
    rw (c.from_residual.ensures, ← c.self.view_is)
    (sym (absent-listed (g.K.PartialEq.eq c.args.key.now) c.self.inside.nodes
    c.in_err-found.ensures.absent).value)

pub returns-clause-key : goal.returns-clause-key
returns-clause-key g c =
    rw (← c.self.view_is) (sym
    (key-found _ _ g.met.K.Eq.laws c.self.inside.nodes _ c.self.invariant c.args.key.now c.in_ok-found.found.at
    c.in_ok-found.ensures.matches (pair_of c.item-entry.result.now)
    (ap (option_map pair_of) c.item-entry.ensures)))

pub returns-clause-value : goal.returns-clause-value
returns-clause-value g c =
    rw (← c.self.view_is) (sym
    (value-found _ _ g.met.K.Eq.laws c.self.inside.nodes _ c.self.invariant c.args.key.now c.in_ok-found.found.at
    c.in_ok-found.ensures.matches (pair_of c.item-entry.result.now)
    (ap (option_map pair_of) c.item-entry.ensures)))
