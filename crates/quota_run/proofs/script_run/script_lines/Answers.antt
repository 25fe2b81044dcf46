use Rattle.std.proofs.Common.{map, string_bytes, ◌∙◌}
use Rattle.quota.specs.Clients.{client_of}
use Rattle.quota_script.specs.Script.{said_of}
use Rattle.quota_run.specs.Lines.{lines_of}
use Rattle.quota_run.specs.Program.{script_lines}
use Rattle.quota_run.proofs.LineLemmas.{clients_are, script_is, lines_then}
use Rattle.quota_run.proofs.script_run.script_lines.Goals as goal

pub returns-in-Ok : goal.returns-in-Ok
returns-in-Ok c =
    let s = said_of c.args.script in
    lines_then string_bytes c.told_once.result (lines_of c.in-Ok.run' c.deref.result.now) (script_lines s)
    (script_is s c.in-Ok.run' c.deref.result.now
    (map (λ e. client_of (string_bytes e.0) e.1) c.in_ok-clients.clients.items) c.in-Ok.ensures.empty
    (clients_are string_bytes c.in_ok-clients.clients.items c.args.script.clients c.in_ok-clients.ensures.list)
    (c.deref.ensures.value ∙ c.in_ok-calls.ensures)) c.told_once.ensures
