-- What a build server keeps: the jobs that it holds, and its archives.
use Rattle.std.specs.Prelude.{◌≡◌, ◌⊎◌, ◌<◌, ℕ, Bool, not, nat_lt, is_some, if◌then◌else◌, List, [], ◌∷◌}
use Rattle.std.specs.Prelude.{◌==◌, map, filter, Option, None}
use Rattle.std.specs.List.{list_any, AllByRecursion}
use Rattle.std.specs.Map.{lookup}
use Rattle.std.specs.Str.{bytes_eq}
use Rattle.dist_types.specs.Cause.{Rose}
use Rattle.dist_types.specs.declared.ids.JobId.{JobId}
use Rattle.toolchain_cache.specs.Archives.{Archives, IsInStep}
use Rattle.folders.specs.Held.{Held}

-- the jobs that are held, each with its toolchain's id, by rising job
abbrev pub Table : Type 0
Table = List (JobId × List ℕ)

-- whether a job is this one
abbrev pub is_job : JobId → JobId → Bool
is_job job other = job.0 == other.0

-- the toolchain that is held for a job
abbrev pub held_for : JobId → Table → Option (List ℕ)
held_for job table = lookup (is_job job) table

-- with a job and its toolchain, before the first job that is greater
abbrev pub placed : JobId → List ℕ → Table → Table
placed job tc [] = (job, tc) ∷ []
placed job tc (h ∷ hs) = if nat_lt job.0 h.0.0 then (job, tc) ∷ h ∷ hs else h ∷ placed job tc hs

-- without a job
abbrev pub without_job : JobId → Table → Table
without_job job table = filter (λ h. not (is_job job h.0)) table

-- whether an archive is listed
abbrev pub is_listed : List ℕ → Archives → Bool
is_listed tc archives = is_some (lookup (bytes_eq tc) archives)

-- the ids of some archives
abbrev pub ids : Archives → List (List ℕ)
ids archives = map (λ a. a.0) archives

-- the archives without those of these ids
abbrev pub without_ids : List (List ℕ) → Archives → Archives
without_ids gone archives = filter (λ a. not (list_any (bytes_eq a.0) gone)) archives

-- What a server keeps: the jobs that it holds, its archives with their sizes, least recent first, the most
-- that these sum to, the path of their directory, and what their folder tells.
pub record Books : Type 0 where
  pub held : Table
  pub archives : Archives
  pub capacity : ℕ
  pub path : List ℕ
  pub folder : Held

-- The folder failed: its count of faults rose, or it does not tell its files and lacks one.
abbrev pub Fails : Held → Held → Type 0
Fails old new = Rose old.faults new.faults ⊎ (old.files ≡ None)

-- Where the archives among the folder's files were those listed, in their order, they are so still: what
-- reopening stands on.
abbrev pub KeepsStep : Books → Books → Type 0
KeepsStep old new = IsInStep old.path old.folder old.archives → IsInStep new.path new.folder new.archives

-- the jobs of a table rise
abbrev pub AreRising : Table → Type 0
AreRising [] = Unit {0}
AreRising (h ∷ hs) = AllByRecursion (λ k. h.0.0 < k.0.0) hs × AreRising hs
