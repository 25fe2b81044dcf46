use Rattle.std.proofs.Common.{ap, sym, ◌∙◌}
use Rattle.farm_stations.proofs.StationLemmas.{reopens}
use Rattle.farm_stations.proofs.station.open_again.Goals as goal

pub returns-clause-opened : goal.returns-clause-opened
returns-clause-opened g c =
    reopens g.F.Folder.held c.args.capacity c.args.state c.into_cache-cache.result.archives
    c.into_cache-cache.result.capacity c.into_folder.result c.open.result
    (sym c.into_cache-cache.ensures.folder ∙ ap g.F.Folder.held (sym c.into_folder.ensures))
    c.requires.at.0 c.requires.at.1 c.into_cache-cache.ensures.archives c.into_cache-cache.ensures.at.1
    c.fits.ensures c.reopening_gives_the_archives.ensures c.open.ensures.held c.open.ensures.archives
    c.open.ensures.at c.open.ensures.step c.open.ensures.steady c.open.ensures.clears
