use Rattle.std.proofs.Common.{ℕ, List, length, sym, ap}
use Rattle.dist_token.specs.Token.{token_text, job_claims_text}
use Rattle.farm_run.proofs.ResultLemmas.{ok_then}
use Rattle.farm_run.proofs.ServeLemmas.{full_answers, spent_answers, kept_none}
use Rattle.farm_run.proofs.serve.allocate.Goals as goal

pub returns-in-Ok-NoRoom-clause-answer : goal.returns-in-Ok-NoRoom-clause-answer
returns-in-Ok-NoRoom-clause-answer c =
    ok_then c.unpicked.result c.unpicked.ensures.told (λ m told.
    (full_answers (λ (key : List ℕ). key) (λ (key : List ℕ) (id : ℕ). token_text key (job_claims_text id))
    c.args.state.now c.reserve.new.state c.args.turn.root c.args.turn.at _ c.in-Ok-NoRoom.standing
    c.args.turn.json c.args.tc.now c.no_room.result m.effect
    (rw c.in-Ok-NoRoom.field-0-is at c.in-Ok-NoRoom.ensures.step)
    (ap length (sym c.history-before.ensures.log)) c.no_room.ensures told).0)

pub returns-in-Ok-NoRoom-clause-core : goal.returns-in-Ok-NoRoom-clause-core
returns-in-Ok-NoRoom-clause-core c =
    ok_then c.unpicked.result c.unpicked.ensures.told (λ m told.
    (full_answers (λ (key : List ℕ). key) (λ (key : List ℕ) (id : ℕ). token_text key (job_claims_text id))
    c.args.state.now c.reserve.new.state c.args.turn.root c.args.turn.at _ c.in-Ok-NoRoom.standing
    c.args.turn.json c.args.tc.now c.no_room.result m.effect
    (rw c.in-Ok-NoRoom.field-0-is at c.in-Ok-NoRoom.ensures.step)
    (ap length (sym c.history-before.ensures.log)) c.no_room.ensures told).1)

pub returns-in-Ok-NoRoom-clause-kept : goal.returns-in-Ok-NoRoom-clause-kept
returns-in-Ok-NoRoom-clause-kept c = kept_none _ c.unpicked.result c.unpicked.ensures.silent

pub returns-in-Err-clause-answer : goal.returns-in-Err-clause-answer
returns-in-Err-clause-answer c =
    ok_then c.unpicked-in-Err.result c.unpicked-in-Err.ensures.told (λ m told.
    (spent_answers (λ (key : List ℕ). key) (λ (key : List ℕ) (id : ℕ). token_text key (job_claims_text id))
    c.args.state.now c.reserve.new.state c.args.turn.root c.args.turn.at _ c.args.turn.json c.args.tc.now
    c.in-Err.refusal m.effect c.in-Err.ensures.step (ap length (sym c.history-before.ensures.log)) told).0)

pub returns-in-Err-clause-core : goal.returns-in-Err-clause-core
returns-in-Err-clause-core c =
    ok_then c.unpicked-in-Err.result c.unpicked-in-Err.ensures.told (λ m told.
    (spent_answers (λ (key : List ℕ). key) (λ (key : List ℕ) (id : ℕ). token_text key (job_claims_text id))
    c.args.state.now c.reserve.new.state c.args.turn.root c.args.turn.at _ c.args.turn.json c.args.tc.now
    c.in-Err.refusal m.effect c.in-Err.ensures.step (ap length (sym c.history-before.ensures.log)) told).1)

pub returns-in-Err-clause-kept : goal.returns-in-Err-clause-kept
returns-in-Err-clause-kept c = kept_none _ c.unpicked-in-Err.result c.unpicked-in-Err.ensures.silent
