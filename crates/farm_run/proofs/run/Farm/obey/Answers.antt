use Rattle.std.proofs.Common.{subst}
use Rattle.farm_run.specs.Farm.{Farmed}
use Rattle.farm_entries.specs.Next.{IsRun}
use Rattle.farm_entries.specs.Passage.{AreOwn}
use Rattle.farm_entries.specs.Weather.{calm}
use Rattle.farm_run.proofs.run.Farm.obey.Goals as goal

pub returns-clause-calmly : goal.returns-clause-calmly
returns-clause-calmly g c =
    subst (λ (f : Farmed). AreOwn f.outside → IsRun calm f.setup f.entries) c.self.view_is
    c.self.invariant.calmly
