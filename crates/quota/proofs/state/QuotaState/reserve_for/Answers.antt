use Rattle.std.proofs.Common.{◌∙◌, sym}
use Rattle.std.proofs.lemmas.Result.{err_from_is_err_and}
use Rattle.quota.proofs.QuotaLemmas.{within_seen, kept_alike}
use Rattle.quota.proofs.ReserveLemmas.{full_told, memory_told, below_roomy, picked_told, picked_keeps}
use Rattle.quota.proofs.ReserveLemmas.{refused_told, refused_keeps}
use Rattle.quota.proofs.state.QuotaState.reserve_for.Goals as goal

pub returns-in_default-clause-within : goal.returns-in_default-clause-within
returns-in_default-clause-within g c =
    let s = c.self.inside in
    rw (← c.self.view_is) (within_seen s.state s.clients s.holdings c.self.invariant)

pub returns-then-is_full-clause-reserved : goal.returns-then-is_full-clause-reserved
returns-then-is_full-clause-reserved g c =
    let s = c.self.inside in
    rw (← c.self.view_is)
    (full_told g.A.JobAuthorizer.key_of g.A.JobAuthorizer.token_for s.state s.clients s.holdings c.args.now
    c.args.client.now c.in-Some.place c.held_at-held.result c.limit_at-limit.result (record {
      kept = c.self.invariant;
      listed = sym c.place_of.ensures.place ∙ c.in-Some.is;
      within = c.in-Some.ensures.within;
      counts = c.held_at-held.ensures.held;
      may = c.limit_at-limit.ensures.limit;
    }) (sym c.is_full.ensures ∙ c.if-is_full.true))

pub returns-then-is_full-clause-within : goal.returns-then-is_full-clause-within
returns-then-is_full-clause-within g c =
    let s = c.self.inside in
    rw (← c.self.view_is) (within_seen s.state s.clients s.holdings c.self.invariant)

pub returns-in_err-make_room-clause-reserved : goal.returns-in_err-make_room-clause-reserved
returns-in_err-make_room-clause-reserved g c =
    let s = c.self.inside in
    let told = err_from_is_err_and c.from_residual.result c.from_residual.ensures.1 in
    rw (← c.self.view_is, told.1, told.2)
    (memory_told g.A.JobAuthorizer.key_of g.A.JobAuthorizer.token_for s.state s.clients s.holdings
    c.make_room.new.self c.args.now c.args.client.now c.in-Some.place c.held_at-held.result
    c.limit_at-limit.result (record {
      kept = c.self.invariant;
      listed = sym c.place_of.ensures.place ∙ c.in-Some.is;
      within = c.in-Some.ensures.within;
      counts = c.held_at-held.ensures.held;
      may = c.limit_at-limit.ensures.limit;
    }) (sym c.is_full.ensures ∙ c.if-is_full.false) c.make_room.ensures.owned)

pub returns-in_err-make_room-clause-within : goal.returns-in_err-make_room-clause-within
returns-in_err-make_room-clause-within g c =
    let s = c.self.inside in
    within_seen s.state s.clients c.make_room.new.self
    (kept_alike s.state s.clients s.holdings c.make_room.new.self c.make_room.ensures.first
    c.make_room.ensures.owned c.make_room.ensures.clients c.self.invariant)

pub invariant_of-self-in-Err : goal.invariant_of-self-in-Err
invariant_of-self-in-Err g c =
    let s = c.self.inside in
    refused_keeps g.A.JobAuthorizer.key_of g.A.JobAuthorizer.token_for s.state c.reserve.new.self s.clients
    c.make_room.new.self c.args.now c.in-Some.place c.in-Err.e
    (kept_alike s.state s.clients s.holdings c.make_room.new.self c.make_room.ensures.first
    c.make_room.ensures.owned c.make_room.ensures.clients c.self.invariant)
    (below_roomy s.state s.clients s.holdings c.make_room.new.self c.args.client.now c.in-Some.place
    c.held_at-held.result c.limit_at-limit.result (record {
      kept = c.self.invariant;
      listed = sym c.place_of.ensures.place ∙ c.in-Some.is;
      within = c.in-Some.ensures.within;
      counts = c.held_at-held.ensures.held;
      may = c.limit_at-limit.ensures.limit;
    }) (sym c.is_full.ensures ∙ c.if-is_full.false) c.make_room.ensures.owned)
    c.in-Err.ensures.refused c.in-Err.ensures.err

pub returns-in-Err-clause-reserved : goal.returns-in-Err-clause-reserved
returns-in-Err-clause-reserved g c =
    let s = c.self.inside in
    rw (← c.self.view_is, c.fault_of.ensures)
    (refused_told g.A.JobAuthorizer.key_of g.A.JobAuthorizer.token_for s.state c.reserve.new.self s.clients
    s.holdings c.make_room.new.self c.args.now c.args.client.now c.in-Some.place c.held_at-held.result
    c.limit_at-limit.result c.in-Err.e (record {
      kept = c.self.invariant;
      listed = sym c.place_of.ensures.place ∙ c.in-Some.is;
      within = c.in-Some.ensures.within;
      counts = c.held_at-held.ensures.held;
      may = c.limit_at-limit.ensures.limit;
    }) (sym c.is_full.ensures ∙ c.if-is_full.false) c.make_room.ensures.owned
    (kept_alike s.state s.clients s.holdings c.make_room.new.self c.make_room.ensures.first
    c.make_room.ensures.owned c.make_room.ensures.clients c.self.invariant)
    c.in-Err.ensures.refused c.in-Err.ensures.err)

pub returns-in-Err-clause-within : goal.returns-in-Err-clause-within
returns-in-Err-clause-within g c =
    within_seen c.reserve.new.self c.self.inside.clients c.make_room.new.self (invariant_of-self-in-Err g c)

pub invariant_of-self-2 : goal.invariant_of-self-2
invariant_of-self-2 g c =
    let s = c.self.inside in
    picked_keeps g.A.JobAuthorizer.key_of g.A.JobAuthorizer.token_for s.state c.reserve.new.self s.clients
    c.make_room.new.self c.note.new.holdings c.args.now c.in-Some.place c.in-Ok.picked
    (kept_alike s.state s.clients s.holdings c.make_room.new.self c.make_room.ensures.first
    c.make_room.ensures.owned c.make_room.ensures.clients c.self.invariant)
    (below_roomy s.state s.clients s.holdings c.make_room.new.self c.args.client.now c.in-Some.place
    c.held_at-held.result c.limit_at-limit.result (record {
      kept = c.self.invariant;
      listed = sym c.place_of.ensures.place ∙ c.in-Some.is;
      within = c.in-Some.ensures.within;
      counts = c.held_at-held.ensures.held;
      may = c.limit_at-limit.ensures.limit;
    }) (sym c.is_full.ensures ∙ c.if-is_full.false) c.make_room.ensures.owned)
    c.note.ensures.owned c.note.ensures.first c.note.ensures.clients c.in-Ok.ensures.logged
    c.in-Ok.ensures.picked

pub returns-clause-reserved : goal.returns-clause-reserved
returns-clause-reserved g c =
    let s = c.self.inside in
    rw (← c.self.view_is)
    (picked_told g.A.JobAuthorizer.key_of g.A.JobAuthorizer.token_for s.state c.reserve.new.self s.clients
    s.holdings c.make_room.new.self c.note.new.holdings c.args.now c.args.client.now c.in-Some.place
    c.held_at-held.result c.limit_at-limit.result c.in-Ok.picked (record {
      kept = c.self.invariant;
      listed = sym c.place_of.ensures.place ∙ c.in-Some.is;
      within = c.in-Some.ensures.within;
      counts = c.held_at-held.ensures.held;
      may = c.limit_at-limit.ensures.limit;
    }) (sym c.is_full.ensures ∙ c.if-is_full.false) c.make_room.ensures.owned c.note.ensures.owned
    c.in-Ok.ensures.logged c.in-Ok.ensures.picked)

pub returns-clause-within : goal.returns-clause-within
returns-clause-within g c =
    within_seen c.reserve.new.self c.self.inside.clients c.note.new.holdings (invariant_of-self-2 g c)
