use Rattle.std.proofs.Common.{sym}
use Rattle.run_lines.specs.Grammar.{ArchiveFits}
use Rattle.farm_audit.proofs.ValueLemmas.{each_push}
use Rattle.farm_audit.proofs.fit.archives_fit.Goals as goal

pub loop-archive-preserved : goal.loop-archive-preserved
loop-archive-preserved c =
    each_push ArchiveFits c.args.archives.now c.loop-archive.archive-index c.archive-item.result _ c.loop-archive.invariant
    c.loop-archive-test.true (sym c.archive-item.is) (c.id_fits.ensures, c.number_fits.ensures)
