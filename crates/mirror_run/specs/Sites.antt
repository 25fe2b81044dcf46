-- The two caches of a script's run, as a moment finds them, and what a run of steps leaves.
use Rattle.std.specs.Prelude.{◌≡◌, ℕ, ◌≤◌, List, ◌++◌, length, Result, Ok, Err, ⊤, codes}
use Rattle.dist_types.specs.Cause.{Rose}
use Rattle.dist_types.specs.Content.{Added, Began}
use Rattle.folders.specs.declared.reliable_folder.ReliableFolder.{ReliableFolder}
use Rattle.line_program.specs.declared.fault.FarmFault.{FarmFault}
use Rattle.line_program.specs.declared.fault.FarmFault.TheVariants.{WriteFault, Memory}
use Rattle.line_program.specs.Side.{Side}
use Rattle.mirror_script.specs.declared.line.Step.{Step}
use Rattle.mirror_script.specs.declared.said.Said.{Said}
use Rattle.toolchain_cache.specs.Archives.{ArchiveStore}
use Rattle.mirror.specs.Far.{FarParts}
use Rattle.mirror.specs.Getting.{Parts}
use Rattle.mirror.specs.Sides.{Sides, GoThrough}
use Rattle.mirror_run.specs.Steps.{Rooms, Says, after, Lines, empty, lines_text}

-- a mirror over folders in memory, whose dialer asks a far cache over another one
abbrev pub InMemory : Type 0
InMemory = Parts ReliableFolder (FarParts (ArchiveStore ReliableFolder))

-- The caches take so many bytes, and list these archives, and this waits, all of which goes through replies; the far
-- one is asked at that place.
pub record IsAt (rooms : Rooms) (s : Sides) (m : InMemory) : Type 0 where
  pub near_room : m.near.capacity ≡ rooms.near
  pub near_lists : m.near.archives ≡ s.near
  pub far_room : m.dialer.cache.capacity ≡ rooms.far
  pub far_lists : m.dialer.cache.archives ≡ s.far
  pub waits : m.dialer.waiting ≡ s.waiting
  pub through : GoThrough s
  pub host : m.host ≡ codes "far"
  pub port : m.port ≡ 80

-- a step was done by the rules, and this is its line
abbrev pub Does : Step → Said → InMemory → InMemory → Type 0
Does x l m n = (rooms : Rooms) (s : Sides) → IsAt rooms s m → Says rooms s x l × IsAt rooms (after rooms x s) n

-- the lines of the first of these steps; others are left
pub record Begins (rooms : Rooms) (steps left : List Step) (ls : List Said) : Type 0 where
  pub done : List Step
  pub all : steps ≡ done ++ left
  pub lines : Lines rooms empty done ls

-- The lines of all steps were written; or out failed, and has a front of the lines of the first; or memory ran out,
-- and it has those.
abbrev pub StepsRun : Rooms → List Step → Result ⊤ FarmFault → Side → Side → Type 0
StepsRun rooms steps (Ok x) out out_after = (ls : List Said) × Lines rooms empty steps ls
    × Added (lines_text ls) out.content out_after.content × (out_after.faults ≡ out.faults)
StepsRun rooms steps (Err WriteFault) out out_after = (ls : List Said) × (left : List Step)
    × Begins rooms steps left ls × Began (lines_text ls) out.content out_after.content
    × Rose out.faults out_after.faults
StepsRun rooms steps (Err Memory) out out_after = (ls : List Said) × (left : List Step)
    × Begins rooms steps left ls × Added (lines_text ls) out.content out_after.content
    × (out_after.faults ≡ out.faults)
StepsRun rooms steps (Err other) out out_after = ⊥
