use Rattle.disk_cache.proofs.client_toolchains.ClientToolchains.put.Goals as goal

pub returns-in-Ok-clause-puts : goal.returns-in-Ok-clause-puts
returns-in-Ok-clause-puts g c = rw c.parts_of.ensures c.in-Ok.ensures.puts
