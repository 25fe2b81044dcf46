use Rattle.std.proofs.Common.{◌+◌, ◌∙◌, length, sym, ap}
use Rattle.toolchain_cache.proofs.Judged.{wrong_length}
use Rattle.folders.proofs.Removals.{none_same}
use Rattle.folders.proofs.CallLemmas.{left_same}
use Rattle.toolchain_cache.proofs.cleaning.is_sound.Goals as goal

pub returns-then-get-clause-sound : goal.returns-then-get-clause-sound
returns-then-get-clause-sound g c = λ files told bytes there size.
    wrong_length c.args.root.now c.args.file.now.path bytes c.args.capacity (λ same.
    c.if-get.true (ap length c.get.ensures.text
    ∙ (same ∙ ap (λ r. length r + 68) (sym c.get-2.ensures.text))))

pub returns-then-file-capacity-clause-kept : goal.returns-then-file-capacity-clause-kept
returns-then-file-capacity-clause-kept g c = none_same _

pub returns-then-get-clause-kept : goal.returns-then-get-clause-kept
returns-then-get-clause-kept g c = none_same _

pub returns-in_err-bytes-clause-kept : goal.returns-in_err-bytes-clause-kept
returns-in_err-bytes-clause-kept g c = left_same _ c.read.result _ _ c.read.ensures.leaves

pub returns-in_err-sound-clause-kept : goal.returns-in_err-sound-clause-kept
returns-in_err-sound-clause-kept g c = left_same _ c.read.result _ _ c.read.ensures.leaves

pub returns-clause-kept : goal.returns-clause-kept
returns-clause-kept g c = left_same _ c.read.result _ _ c.read.ensures.leaves
