use Rattle.std.proofs.Common.{Some, ap, ◌∙◌, sym}
use Rattle.std.specs.Option.{option_map}
use Rattle.quota.specs.Quota.{held_at}
use Rattle.quota.proofs.QuotaLemmas.{held_is, within_seen, owned_seen}
use Rattle.quota.proofs.state.QuotaState.held.Goals as goal
use Rattle.quota.proofs.KeptWords.{quota_of}

pub returns-in-Some-clause-held : goal.returns-in-Some-clause-held
returns-in-Some-clause-held g c =
    let s = c.self.inside in
    rw (← c.self.view_is)
    (ap Some (c.held_at.ensures.held ∙ sym (held_is s.state.log s.holdings.owned c.in-Some.place
    c.self.invariant.agree))
    ∙ ap (option_map (held_at (quota_of s.state s.clients s.holdings.owned)))
    (sym c.in-Some.is ∙ c.place_of.ensures.place))

pub returns-in-Some-clause-within : goal.returns-in-Some-clause-within
returns-in-Some-clause-within g c = let s = c.self.inside in
    rw (← c.self.view_is) (within_seen s.state s.clients s.holdings c.self.invariant)

pub returns-in-Some-clause-owned : goal.returns-in-Some-clause-owned
returns-in-Some-clause-owned g c = let s = c.self.inside in
    rw (← c.self.view_is) (owned_seen s.state s.clients s.holdings c.self.invariant)

pub returns-in-None-clause-within : goal.returns-in-None-clause-within
returns-in-None-clause-within g c = let s = c.self.inside in
    rw (← c.self.view_is) (within_seen s.state s.clients s.holdings c.self.invariant)

pub returns-in-None-clause-owned : goal.returns-in-None-clause-owned
returns-in-None-clause-owned g c = let s = c.self.inside in
    rw (← c.self.view_is) (owned_seen s.state s.clients s.holdings c.self.invariant)
