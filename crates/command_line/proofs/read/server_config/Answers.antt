use Rattle.command_line.proofs.ReadLemmas.{read_from}
use Rattle.command_line.proofs.read.server_config.Goals as goal

pub returns-clause-read : goal.returns-clause-read
returns-clause-read g c =
    read_from _ c.server_config_in.result c.in-Ok.bytes.items c.args.path.now
    (g.D.Files.files c.args.files.now) _ _ c.in-Ok.ensures.read
    (rw c.deref.ensures.value at c.server_config_in.ensures)
