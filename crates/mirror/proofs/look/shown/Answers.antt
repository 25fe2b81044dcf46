use Rattle.std.proofs.Common.{sym, ◌∙◌}
use Rattle.build_server.proofs.StoreLemmas.{none_stand}
use Rattle.mirror.proofs.look.shown.Goals as goal

pub returns-in_default : goal.returns-in_default
returns-in_default g c = record {
  stands = none_stand _ _ _ _ (sym c.archives-archives.ensures.rest ∙ c.in_default.ensures.steps.0);
}
