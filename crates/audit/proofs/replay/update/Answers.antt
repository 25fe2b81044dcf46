use Rattle.std.proofs.Common.{refl, sym, subst}
use Rattle.core_rules.specs.declared.call.Call.TheVariants as call
use Rattle.core_rules.specs.Rule.{rule}
use Rattle.core_rules.specs.Rows.{open_rows}
use Rattle.core_rules.specs.Advance.{advance}
use Rattle.audit.specs.Kept.{IsKeptOf}
use Rattle.audit.proofs.ReplayLemmas.{update_told}
use Rattle.audit.proofs.replay.update.Goals as goal

pub returns-in-Some-clause-logged : goal.returns-in-Some-clause-logged
returns-in-Some-clause-logged c =
    let s = c.args.r.now.state in
    (update_told s c.update-answer.new.self (rule s (call.Update c.args.now c.args.server c.args.job c.args.state))
    c.args.state (advance (open_rows s.log) c.args.server c.args.job c.args.state) c.update-answer.result
    c.in-Some.is_accepted c.update-answer.ensures.logged c.update-answer.ensures.err c.update-answer.ensures.answer
    c.in-Some.ensures).is_logged

pub returns-in-Some-clause-kept : goal.returns-in-Some-clause-kept
returns-in-Some-clause-kept c =
    let s = c.args.r.now.state in
    let made = rule s (call.Update c.args.now c.args.server c.args.job c.args.state) in
    let told = update_told s c.update-answer.new.self made
    c.args.state (advance (open_rows s.log) c.args.server c.args.job c.args.state) c.update-answer.result
    c.in-Some.is_accepted c.update-answer.ensures.logged c.update-answer.ensures.err c.update-answer.ensures.answer
    c.in-Some.ensures in
    subst (IsKeptOf c.note_state.new.kept) (sym told.is_logged)
    (c.note_state.ensures.noted s made c.requires (refl, refl, told.says))
