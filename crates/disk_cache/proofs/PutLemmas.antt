-- Putting where memory ran out before anything was done.
use Rattle.std.proofs.Common.{ℕ, List, Option, Some, None, IsSome, Err, refl, sym, true≢false}
use Rattle.dist_types.specs.declared.fault.Memory.{Memory as OutOfMem}
use Rattle.folders.specs.Files.{Same}
use Rattle.folders.proofs.Became.{became_same}
use Rattle.disk_cache.specs.declared.config.Choice.TheVariants.{Archive}
use Rattle.disk_cache.specs.declared.config.CustomToolchain.{CustomToolchain}
use Rattle.disk_cache.specs.declared.config.DistToolchainConfig.{DistToolchainConfig}
use Rattle.disk_cache.specs.declared.config.DistToolchainConfig.TheVariants.{PathOverride, NoDist}
use Rattle.disk_cache.specs.declared.custom.Taken.{Taken}
use Rattle.dist_types.specs.declared.toolchain_error.ToolchainError.TheVariants.{Memory}
use Rattle.disk_cache.specs.Configs.{IsChoice}
use Rattle.disk_cache.specs.Custom.{Takes, taken_of}
use Rattle.disk_cache.specs.Putting.{GetsArchive, PutsBy}
use Rattle.disk_cache.specs.Toolchains.{Toolchains}

takes_starved : (o : Option Taken) (path : List ℕ) (c : CustomToolchain) (t : Toolchains)
    → Takes o path c (Err Memory) t t
takes_starved None path c t = (became_same Same t.held.files (λ f. refl), refl, refl)
takes_starved (Some x) path c t = (refl, refl)

-- there was no memory for the name of the configured archive that was taken last
pub gets_starved : (o : Option Taken) (id : List ℕ) (t : Toolchains) → IsSome o
    → GetsArchive o id (Err Memory) t t
gets_starved None id t h = absurd (true≢false (sym h))
gets_starved (Some x) id t h = (became_same Same t.held.files (λ f. refl), refl, refl)

pub put_starved : (Uncalled Called : Type 0) (told : Option (List ℕ)) (before after : ℕ)
    (o : Option DistToolchainConfig) (e : OutOfMem) (path key : List ℕ) (t : Toolchains)
    → IsChoice o (Archive (Err e)) → Uncalled
    → PutsBy Uncalled Called told before after o path key (Err Memory) t t
put_starved Uncalled Called told before after None e path key t h u = absurd h
put_starved Uncalled Called told before after (Some (NoDist c)) e path key t h u = absurd h
put_starved Uncalled Called told before after (Some (PathOverride c archive inside)) e path key t h u = (
  record {
    custom = Err Memory;
    takes = takes_starved (taken_of path t.taken) path
        (record { archive = archive; compiler_executable = inside }) t;
    gives = refl;
  },
  u,
)
