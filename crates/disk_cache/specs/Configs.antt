-- What is configured for compilers.
use Rattle.std.specs.Prelude.{◌≡◌, ℕ, List, [], ◌∷◌, ◌++◌, Bool, true, false, if◌then◌else◌, Option, Some}
use Rattle.std.specs.Prelude.{None, Result, Ok, Err}
use Rattle.std.specs.Str.{bytes_eq}
use Rattle.disk_cache.specs.declared.config.CustomToolchain.{CustomToolchain}
use Rattle.disk_cache.specs.declared.config.Choice.{Choice}
use Rattle.disk_cache.specs.declared.config.Choice.TheVariants.{Nothing, Disabled, Archive}
use Rattle.disk_cache.specs.declared.config.DistToolchainConfig.{DistToolchainConfig}
use Rattle.disk_cache.specs.declared.config.DistToolchainConfig.TheVariants.{PathOverride, NoDist}
use Rattle.dist_types.specs.declared.toolchain_error.ToolchainError.{ToolchainError}
use Rattle.dist_types.specs.declared.toolchain_error.ToolchainError.TheVariants.{DuplicateConfig}
use Rattle.dist_types.specs.declared.toolchain_error.ToolchainError.TheVariants.{ConflictConfig}

-- the compiler that it is of
abbrev pub compiler_of : DistToolchainConfig → List ℕ
compiler_of (PathOverride compiler archive inside) = compiler
compiler_of (NoDist compiler) = compiler

-- the first that is of a compiler
abbrev pub config_of : List ℕ → List DistToolchainConfig → Option DistToolchainConfig
config_of path [] = None
config_of path (c ∷ cs) = if bytes_eq path (compiler_of c) then Some c else config_of path cs

-- the archive that is configured, where one is
abbrev pub custom_in : Option DistToolchainConfig → Option CustomToolchain
custom_in None = None
custom_in (Some (NoDist compiler)) = None
custom_in (Some (PathOverride compiler archive inside)) =
    Some (record { archive = archive; compiler_executable = inside })

-- the archive that is configured for a compiler
abbrev pub custom_of : List ℕ → List DistToolchainConfig → Option CustomToolchain
custom_of path configs = custom_in (config_of path configs)

-- whether it says that no archive is wanted
abbrev pub says_no_dist : DistToolchainConfig → Bool
says_no_dist (NoDist compiler) = true
says_no_dist (PathOverride compiler archive inside) = false

-- why two of one compiler cannot stand beside each other: they say the same, or not
abbrev pub clash : DistToolchainConfig → DistToolchainConfig → ToolchainError
clash c d = if says_no_dist c then (if says_no_dist d then DuplicateConfig else ConflictConfig)
    else (if says_no_dist d then ConflictConfig else DuplicateConfig)

-- whether one can stand behind the first of its compiler among those before it
abbrev pub beside : Option DistToolchainConfig → DistToolchainConfig → Result (Unit {0}) ToolchainError
beside None config = Ok (tt {0})
beside (Some earlier) config = Err (clash earlier config)

abbrev pub and_next : Result (Unit {0}) ToolchainError → Result (Unit {0}) ToolchainError
    → Result (Unit {0}) ToolchainError
and_next (Ok done) next = next
and_next (Err e) next = Err e

-- each in turn beside those before it
abbrev pub judged_from : List DistToolchainConfig → List DistToolchainConfig
    → Result (Unit {0}) ToolchainError
judged_from before [] = Ok (tt {0})
judged_from before (c ∷ cs) = and_next (beside (config_of (compiler_of c) before) c)
    (judged_from (before ++ c ∷ []) cs)

-- the verdict on what is configured, in the order of the list
abbrev pub config_verdict : List DistToolchainConfig → Result (Unit {0}) ToolchainError
config_verdict configs = judged_from [] configs

-- ---- what is asked before a toolchain is put

-- the code's choice is what is configured; want of memory says nothing of the archive
abbrev pub IsChoice : Option DistToolchainConfig → Choice → Type 0
IsChoice None Nothing = Unit {0}
IsChoice (Some (NoDist compiler)) Disabled = Unit {0}
IsChoice (Some (PathOverride compiler archive inside)) (Archive (Ok c)) =
    c ≡ record { archive = archive; compiler_executable = inside }
IsChoice (Some (PathOverride compiler archive inside)) (Archive (Err e)) = Unit {0}
IsChoice None Disabled = ⊥
IsChoice None (Archive c) = ⊥
IsChoice (Some (NoDist compiler)) Nothing = ⊥
IsChoice (Some (NoDist compiler)) (Archive c) = ⊥
IsChoice (Some (PathOverride compiler archive inside)) Nothing = ⊥
IsChoice (Some (PathOverride compiler archive inside)) Disabled = ⊥
