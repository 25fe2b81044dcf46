use Rattle.std.proofs.Common.{ap, ◌∙◌, Option, Some}
use Rattle.toolchain_cache.specs.Archives.{Archives}
use Rattle.folders.specs.Files.{Files}
use Rattle.folders.specs.InMemory.{folder_held}
use Rattle.farm_stations.specs.Post.{outside_of}
use Rattle.farm_entries.specs.Sites.{site_server}
use Rattle.farm_run.proofs.BeginLemmas.{own_found}
use Rattle.farm_run.proofs.begin.own_server.Goals as goal

pub returns-in-Ok-copy_server-clause-site : goal.returns-in-Ok-copy_server-clause-site
returns-in-Ok-copy_server-clause-site c =
    c.in-Ok-copy_server.ensures ∙ ap (λ (found : Option Archives). site_server found c.args.server.now)
    (own_found c.args.server.now.capacity (folder_held c.own_folder-folder.result) c.in_ok-station.found
    (outside_of c.in_ok-station.station)
    (ap (λ (files : Files). Some files) c.own_folder-folder.ensures.files)
    c.in_ok-station.ensures.begun)
