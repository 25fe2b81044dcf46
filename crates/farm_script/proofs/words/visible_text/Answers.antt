use Rattle.farm_script.proofs.VisibleLemmas.{IsUtf8-visible}
use Rattle.farm_script.proofs.words.visible_text.Goals as goal

pub unreachable-requires : goal.unreachable-requires
unreachable-requires c = c.in-Err.ensures.cases.0 (IsUtf8-visible c.args.word.now c.requires)
