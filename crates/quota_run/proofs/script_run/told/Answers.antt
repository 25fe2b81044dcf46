use Rattle.std.proofs.Common.{◌∙◌, ap}
use Rattle.std.specs.List.{flat_map}
use Rattle.quota_run.specs.Lines.{told_text}
use Rattle.quota_run.proofs.LineLemmas.{lines_are}
use Rattle.quota_run.proofs.script_run.told.Goals as goal

pub returns-in-Ok : goal.returns-in-Ok
returns-in-Ok c = c.in-Ok.ensures ∙ ap (flat_map (told_text c.history.result.now)) c.deref.ensures.value
    ∙ lines_are c.args.run.now c.args.calls.now c.history.result.now
    c.in_ok-answers.answers.items (c.history.ensures.log ∙ ap (λ q. q.core.log) c.in_ok-answers.ensures.made.left)
    c.in_ok-answers.ensures.made.told
