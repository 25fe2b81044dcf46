-- The rules of a build server, over what it keeps.
use Rattle.std.specs.Prelude.{◌≡◌, ◌≢◌, ◌≤◌, ◌⊎◌, ℕ, Bool, true, false, not, nat_lt, is_some, if◌then◌else◌}
use Rattle.std.specs.Prelude.{List, [], ◌∷◌, ◌++◌, ◌-◌, length, Option, Some, None, Result, Ok, Err, OnOk}
use Rattle.std.specs.Prelude.{OnErr, IfErr}
use Rattle.std.specs.Str.{bytes_eq}
use Rattle.dist_types.specs.declared.ids.JobId.{JobId}
use Rattle.dist_types.specs.declared.outgoing.CallFault.{CallFault}
use Rattle.dist_types.specs.declared.outgoing.CallFault.TheVariants as call
use Rattle.dist_types.specs.declared.results.AssignJobResult.{AssignJobResult}
use Rattle.dist_types.specs.declared.results.JobState.TheVariants.{Pending, Ready}
use Rattle.dist_types.specs.declared.results.SubmitToolchainResult.{SubmitToolchainResult}
use Rattle.dist_types.specs.declared.results.SubmitToolchainResult.TheVariants as answer
use Rattle.dist_types.specs.declared.results.UpdateJobStateResult.{UpdateJobStateResult}
use Rattle.toolchain_cache.specs.Archives.{Archives, id_of, archive_path, IsInStep}
use Rattle.toolchain_cache.specs.Archiving.{archive_verdict, with_archive, StoreFails}
use Rattle.listed_files.specs.Disk.{dropped}
use Rattle.listed_files.specs.Calls.{Uncounted}
use Rattle.dist_types.specs.declared.cache_error.Error.{Error}
use Rattle.folders.specs.Changed.{ButUnder}
use Rattle.listed_files.specs.Entries.{promoted_key}
use Rattle.folders.specs.Files.{front, file_at}
use Rattle.folders.specs.Held.{Held, Holds, Became}
use Rattle.build_server.specs.Books.{Books, held_for, placed, without_job, is_listed, ids, without_ids, Fails}
use Rattle.build_server.specs.Books.{KeepsStep}
use Rattle.build_server.specs.declared.fault.ServerFault.{ServerFault}
use Rattle.build_server.specs.declared.fault.ServerFault.TheVariants as fault
use Rattle.build_server.specs.declared.submit.Submitted.{Submitted}
use Rattle.build_server.specs.declared.submit.Submitted.TheVariants as submitted
use Rattle.build_server.specs.declared.run.Taken.{Taken}
use Rattle.build_server.specs.declared.run.Taken.TheVariants as taken

-- the answer of the scheduler to an update
abbrev pub Update : Type 0
Update = Result UpdateJobStateResult CallFault

-- how an update that was not accepted is told
abbrev pub fault_of : CallFault → ServerFault
fault_of call.Memory = fault.Memory
fault_of e = fault.UpdateFailed e

-- assigning

-- the answer where the archive is listed, and where it is not
abbrev pub need_by : Bool → AssignJobResult
need_by true = record { state = Ready; need_toolchain = false }
need_by false = record { state = Pending; need_toolchain = true }

-- the answer to an assignment
abbrev pub assign_verdict : Books → JobId → List ℕ → Result AssignJobResult ServerFault
assign_verdict old job tc =
    if is_some (held_for job old.held) then Err (fault.AlreadyAssigned job) else Ok
    (need_by (is_listed tc old.archives))

-- A job is assigned with a toolchain: it is held where the answer is Ok, and else nothing changes. Memory
-- may come in place of any answer.
pub record Assigns (job : JobId) (tc : List ℕ) (old new : Books)
    (result : Result AssignJobResult ServerFault) : Type 0 where
  pub answer : result ≢ Err fault.Memory → result ≡ assign_verdict old job tc
  pub ok : OnOk result (new ≡ record old { held = placed job tc old.held })
  pub err : OnErr result (new ≡ old)

-- what an assignment may answer, whatever is kept
abbrev pub TellsAssign : JobId → Result AssignJobResult ServerFault → Type 0
TellsAssign job (Ok x) = (x ≡ need_by true) ⊎ (x ≡ need_by false)
TellsAssign job (Err e) = (e ≡ fault.AlreadyAssigned job) ⊎ (e ≡ fault.Memory)

-- submitting

-- what an archive that is not listed comes to, within a capacity, where the folder does not fail: its
-- digest is tested before its size
abbrev pub store_verdict : ℕ → Archives → List ℕ → List ℕ → Submitted
store_verdict capacity archives tc bytes =
    if not (bytes_eq (id_of bytes) tc) then submitted.Digest
    else if nat_lt capacity (length bytes) then submitted.Capacity
    else submitted.Stored (length bytes) (ids (dropped (capacity - length bytes) archives))

-- the same of an archive that is submitted under a job which holds this toolchain
abbrev pub submit_verdict : Books → Option (List ℕ) → List ℕ → Submitted
submit_verdict old None bytes = submitted.None
submit_verdict old (Some tc) bytes =
    if is_listed tc old.archives then submitted.Listed else store_verdict old.capacity old.archives tc bytes

-- a front of those that a store would drop went
abbrev pub IsFrontOfDropped : Submitted → List (List ℕ) → Type 0
IsFrontOfDropped (submitted.Stored size dropped) gone = (rest : List (List ℕ)) × (dropped ≡ gone ++ rest)
IsFrontOfDropped other gone = ⊥

-- Which outcome an accepted submission has: the verdict's, and the folder's count stays; or Folder, only
-- where a store was due and the folder failed.
abbrev pub Comes : Submitted → Submitted → Held → Held → Type 0
Comes verdict (submitted.Folder gone) old new = IsFrontOfDropped verdict gone × Fails old new
Comes verdict other old new = (other ≡ verdict) × (new.faults ≡ old.faults)

-- the archives behind a submission for this toolchain: the dropped ones go, and a stored one is the most
-- recent
abbrev pub archives_after_submit : Option (List ℕ) → Submitted → Archives → Archives
archives_after_submit (Some tc) (submitted.Stored size dropped) archives =
    without_ids dropped archives ++ (tc, size) ∷ []
archives_after_submit tc (submitted.Folder dropped) archives = without_ids dropped archives
archives_after_submit tc other archives = archives

-- some of those went that a store of these bytes would drop
abbrev pub MayDrop : ℕ → List ℕ → Archives → List (List ℕ) → Type 0
MayDrop capacity bytes archives gone = (rest : List (List ℕ))
    × (ids (dropped (capacity - length bytes) archives) ≡ gone ++ rest)

-- what no call changes: the capacity, the path, and each file outside of the archives' directory, where files
-- are told; the folder's count of faults never falls
pub record SamePlace (old new : Books) : Type 0 where
  pub capacity : new.capacity ≡ old.capacity
  pub path : new.path ≡ old.path
  pub others : Became (ButUnder (front old.path)) old.folder.files new.folder.files
  pub later : old.folder.faults ≤ new.folder.faults

-- the folder did not fail in it
abbrev pub NotFolder : Submitted → Type 0
NotFolder (submitted.Folder dropped) = ⊥
NotFolder other = Unit {0}

-- no store was begun
abbrev pub IsUnstored : Submitted → Type 0
IsUnstored (submitted.Stored size dropped) = ⊥
IsUnstored (submitted.Folder dropped) = ⊥
IsUnstored other = Unit {0}

-- an archive was submitted under a job, after Ready was accepted: where no store was begun, the folder is as
-- it was
pub record IsSubmitted (job : JobId) (bytes : List ℕ) (old new : Books) (outcome : Submitted) : Type 0 where
  pub comes : Comes (submit_verdict old (held_for job old.held) bytes) outcome old.folder new.folder
  pub held : new.held ≡ old.held
  pub archives : new.archives ≡ archives_after_submit (held_for job old.held) outcome old.archives
  pub untouched : IsUnstored outcome → new.folder ≡ old.folder
  pub step : NotFolder outcome → KeepsStep old new
  pub place : SamePlace old new

-- What want of memory leaves of a submission: all as it was, or some of those gone that the store would drop.
pub record SubmitStarved (job : JobId) (bytes : List ℕ) (old new : Books) : Type 0 where
  pub held : new.held ≡ old.held
  pub archives : (new.archives ≡ old.archives)
      ⊎ ((gone : List (List ℕ)) × MayDrop old.capacity bytes old.archives gone
      × (new.archives ≡ without_ids gone old.archives))
  pub place : SamePlace old new

abbrev pub TakesIn : JobId → List ℕ → Books → Books → Result Submitted ServerFault → Type 0
TakesIn job bytes old new (Ok outcome) = IsSubmitted job bytes old new outcome
TakesIn job bytes old new (Err fault.Memory) = SubmitStarved job bytes old new
TakesIn job bytes old new (Err other) = ⊥

-- A submission ends by what the scheduler answered to Ready: where that is not accepted nothing changes.
abbrev pub Submits : JobId → Update → List ℕ → Books → Books → Result Submitted ServerFault → Type 0
Submits job (Ok x) bytes old new result = TakesIn job bytes old new result
Submits job (Err e) bytes old new result = (result ≡ Err (fault_of e)) × (new ≡ old)

-- what a submitter is told
abbrev pub submit_result : Submitted → SubmitToolchainResult
submit_result submitted.None = answer.JobNotFound
submit_result submitted.Listed = answer.Success
submit_result (submitted.Stored size dropped) = answer.Success
submit_result submitted.Digest = answer.CannotCache
submit_result submitted.Capacity = answer.CannotCache
submit_result (submitted.Folder dropped) = answer.CannotCache

-- adopting

-- An archive is stored under no job, as a cache of archives stores it: what is held stays. Where it is refused the
-- refusal is that cache's, and leaves what it leaves there.
pub record Adopts (tc bytes : List ℕ) (old new : Books) (result : Result (Unit {0}) Error) : Type 0 where
  pub held : new.held ≡ old.held
  pub admits : OnOk result (archive_verdict old.capacity tc bytes ≡ Ok (tt {0}))
  pub archives : OnOk result (new.archives ≡ with_archive old.capacity tc (length bytes) old.archives)
  pub content : OnOk result (Holds new.folder (λ files. file_at files (archive_path old.path tc) ≡ Some bytes))
  pub fails : IfErr result
      (λ e. StoreFails old.capacity tc bytes e old.archives new.archives old.folder new.folder)
  pub step : IsInStep old.path old.folder old.archives → OnOk result (IsInStep new.path new.folder new.archives)
  pub steady : OnOk result (new.folder.faults ≡ old.folder.faults)
  pub uncounted : IfErr result (λ e. Uncounted e old.folder new.folder)
  pub place : SamePlace old new

-- taking out

-- Which outcome the taking out has, by the toolchain that was held: that toolchain, and whether it is
-- listed. The archive that was read has the toolchain's id, where the folder tells its files.
abbrev pub Finds : Option (List ℕ) → Books → Books → Taken → Type 0
Finds None old new taken.None = new.folder ≡ old.folder
Finds (Some held) old new (taken.Unlisted tc) =
    (tc ≡ held) × (is_listed held old.archives ≡ false) × (new.folder ≡ old.folder)
Finds (Some held) old new (taken.Folder tc) = (tc ≡ held) × (is_listed held old.archives ≡ true)
    × Fails old.folder new.folder
Finds (Some held) old new (taken.Read tc archive) =
    (tc ≡ held) × (is_listed held old.archives ≡ true) × Holds old.folder (λ files. id_of archive ≡ held)
    × (new.folder.faults ≡ old.folder.faults)
Finds found old new other = ⊥

-- the archives behind a look-up: a listed one is the most recent
abbrev pub archives_after_taking : Taken → Archives → Archives
archives_after_taking (taken.Folder tc) archives = promoted_key tc archives
archives_after_taking (taken.Read tc archive) archives = promoted_key tc archives
archives_after_taking other archives = archives

-- the folder did not fail in it
abbrev pub FolderHeld : Taken → Type 0
FolderHeld (taken.Folder tc) = ⊥
FolderHeld other = Unit {0}

-- a job was taken out, after Started was accepted
pub record IsTaken (job : JobId) (old new : Books) (outcome : Taken) : Type 0 where
  pub finds : Finds (held_for job old.held) old new outcome
  pub held : new.held ≡ without_job job old.held
  pub archives : new.archives ≡ archives_after_taking outcome old.archives
  pub step : FolderHeld outcome → KeepsStep old new
  pub place : SamePlace old new

-- What want of memory leaves of a taking out: the job stays held, and its archive in its place or most
-- recent.
pub record TakeStarved (job : JobId) (old new : Books) : Type 0 where
  pub held : new.held ≡ old.held
  pub archives : (new.archives ≡ old.archives)
      ⊎ ((tc : List ℕ) × (held_for job old.held ≡ Some tc) × (new.archives ≡ promoted_key tc old.archives))
  pub place : SamePlace old new

abbrev pub TakesOut : JobId → Books → Books → Result Taken ServerFault → Type 0
TakesOut job old new (Ok outcome) = IsTaken job old new outcome
TakesOut job old new (Err fault.Memory) = TakeStarved job old new
TakesOut job old new (Err other) = ⊥

-- A run begins by what the scheduler answered to Started: where that is not accepted nothing changes.
abbrev pub Begins : JobId → Update → Books → Books → Result Taken ServerFault → Type 0
Begins job (Ok x) old new result = TakesOut job old new result
Begins job (Err e) old new result = (result ≡ Err (fault_of e)) × (new ≡ old)

-- whatever is kept: where the update was not accepted that is told, and else want of memory alone is refused
abbrev pub TellsUpdate : {X : Type 0} → Update → Result X ServerFault → Type 0
TellsUpdate (Ok x) (Ok y) = Unit {0}
TellsUpdate (Ok x) (Err e) = e ≡ fault.Memory
TellsUpdate (Err e) result = result ≡ Err (fault_of e)

-- what is kept changes so where it is told, and stays told
abbrev pub Turns : (Books → Books → Type 0) → Option Books → Option Books → Type 0
Turns part None new = new ≡ None
Turns part (Some old) new = (books : Books) × (new ≡ Some books) × part old books
