-- Over a folder that never fails no fault has a cause, but that a file is missing.
use Rattle.std.proofs.Common.{is_some, ap, refl, true≢false, inl, inr, arith}
use Rattle.dist_types.specs.declared.folder_fault.FolderFault.TheVariants.{Missing, Failed, Memory}
use Rattle.lru_disk_cache.specs.Reliable.{NeverFails, FailsToMove, FailsUnsure}

pub never_fails : NeverFails
never_fails Missing old new cause = true≢false (ap is_some cause)
never_fails Failed old new cause = omega (arith, cause)
never_fails Memory old new cause = cause

pub fails_to_move : FailsToMove
fails_to_move path d e Missing old new cause =
    elim cause [ inl none ↦ absurd (true≢false (ap is_some none)) | inr gone ↦ (refl, gone.2) ]
fails_to_move path d e Failed old new cause = absurd (omega (arith, cause))
fails_to_move path d e Memory old new cause = absurd cause

pub fails_unsure : FailsUnsure
fails_unsure entry d e Missing old new cause =
    elim cause [ inl none ↦ absurd (true≢false (ap is_some none)) | inr gone ↦ (refl, gone) ]
fails_unsure entry d e Failed old new cause = absurd (omega (arith, cause))
fails_unsure entry d e Memory old new cause = absurd cause
