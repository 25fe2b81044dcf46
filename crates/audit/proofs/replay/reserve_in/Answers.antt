use Rattle.std.proofs.Common.{subst, sym, ◌∙◌}
use Rattle.core_rules.specs.declared.call.Call.TheVariants as call
use Rattle.core_rules.specs.Rule.{rule}
use Rattle.sched_core.specs.declared.answers.Picked.{Picked}
use Rattle.core_rules.specs.declared.error.SchedError.{SchedError}
use Rattle.core_rules.specs.Answers.{Leaves, RefusesReserve}
use Rattle.audit.specs.Kept.{IsKeptOf}
use Rattle.audit.proofs.ReplayLemmas.{IsReserved, picked_ticket, picked_follows, kept_no_room, kept_refused}
use Rattle.audit.proofs.replay.reserve_in.Goals as goal

pub keep-requires-clause-follows : goal.keep-requires-clause-follows
keep-requires-clause-follows c =
    let s = c.args.r.now.state in
    picked_follows c.args.r.now.kept s (rule s (call.Reserve c.args.now)).kind c.in-Ok-Reserved.t
    (picked_ticket s c.args.now c.in-Ok-Reserved.t c.history-log.ensures.count c.history-log.ensures.legal
    (subst (λ (p : Picked). IsReserved s.log (rule s (call.Reserve c.args.now)).kind p) c.in-Ok-Reserved.field-0-is
    c.in-Ok-Reserved.ensures.picked)) c.requires.kept

pub returns-in-Ok-NoRoom-clause-kept : goal.returns-in-Ok-NoRoom-clause-kept
returns-in-Ok-NoRoom-clause-kept c =
    let s = c.args.r.now.state in
    kept_no_room c.args.r.now.kept s c.reserve.new.self c.args.now
    c.in-Ok-NoRoom.field-0-0 c.in-Ok-NoRoom.ensures.logged
    (subst (λ (p : Picked). IsReserved s.log (rule s (call.Reserve c.args.now)).kind p) c.in-Ok-NoRoom.field-0-is
    c.in-Ok-NoRoom.ensures.picked) c.requires.kept

pub returns-in-Err-IdsSpent-clause-kept : goal.returns-in-Err-IdsSpent-clause-kept
returns-in-Err-IdsSpent-clause-kept c =
    let s = c.args.r.now.state in
    let made = rule s (call.Reserve c.args.now) in
    kept_refused c.args.r.now.kept s c.reserve.new.self c.args.now
    (subst (λ (e : SchedError). Leaves e s c.reserve.new.self made) c.in-Err-IdsSpent.field-0-is
    c.in-Err-IdsSpent.ensures.err)
    (subst (λ (e : SchedError). RefusesReserve made.kind e) c.in-Err-IdsSpent.field-0-is
    c.in-Err-IdsSpent.ensures.refused) c.requires.kept

pub returns-in_ok-keep-in-Ok-Reserved-clause-kept : goal.returns-in_ok-keep-in-Ok-Reserved-clause-kept
returns-in_ok-keep-in-Ok-Reserved-clause-kept c =
    let s = c.args.r.now.state in
    let made = rule s (call.Reserve c.args.now) in
    let new = picked_ticket s c.args.now c.in-Ok-Reserved.t c.history-log.ensures.count c.history-log.ensures.legal
    (subst (λ (p : Picked). IsReserved s.log made.kind p) c.in-Ok-Reserved.field-0-is c.in-Ok-Reserved.ensures.picked)
    in
    subst (IsKeptOf c.keep.new.r.kept)
    (sym (c.in_ok-keep-in-Ok-Reserved.ensures.state ∙ c.in-Ok-Reserved.ensures.logged))
    (c.in_ok-keep-in-Ok-Reserved.ensures.kept s made c.requires.kept new.reserves new.number new.fresh)
