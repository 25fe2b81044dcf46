-- What storing an archive that is not listed leaves of a cache, and what reading one that is listed does.
use Rattle.std.specs.Prelude.{◌≡◌, ◌⊎◌, ℕ, List, Some, Result, Ok, Err}
use Rattle.dist_types.specs.declared.fault.Memory as want
use Rattle.toolchain_cache.specs.Archives.{Archives, id_of}
use Rattle.listed_files.specs.Entries.{promoted_key}
use Rattle.folders.specs.Held.{Held, Holds}
use Rattle.dist_types.specs.declared.cache_error.Error.{Error}
use Rattle.dist_types.specs.declared.cache_error.Error.TheVariants as error
use Rattle.build_server.specs.Books.{without_ids, Fails}
use Rattle.build_server.specs.Rules.{store_verdict, MayDrop, Comes, archives_after_submit, IsUnstored}
use Rattle.build_server.specs.declared.fault.ServerFault.{ServerFault}
use Rattle.build_server.specs.declared.fault.ServerFault.TheVariants as fault
use Rattle.build_server.specs.declared.run.Taken.{Taken}
use Rattle.build_server.specs.declared.run.Taken.TheVariants as taken
use Rattle.build_server.specs.declared.submit.Submitted.{Submitted}
use Rattle.build_server.specs.declared.submit.Submitted.TheVariants as submitted

-- a store ended so: which outcome, and the archives behind it; where none was begun, the folder is as it was
pub record IsStored (capacity : ℕ) (tc bytes : List ℕ) (outcome : Submitted) (old new : Archives)
    (before after : Held) : Type 0 where
  pub comes : Comes (store_verdict capacity old tc bytes) outcome before after
  pub archives : new ≡ archives_after_submit (Some tc) outcome old
  pub untouched : IsUnstored outcome → after ≡ before

-- what want of memory leaves of a store: the list as it was, or some of those gone that it would drop
abbrev pub StoreStarved : ℕ → List ℕ → Archives → Archives → Type 0
StoreStarved capacity bytes old new =
    (new ≡ old) ⊎ ((gone : List (List ℕ)) × MayDrop capacity bytes old gone × (new ≡ without_ids gone old))

abbrev pub Stores : ℕ → List ℕ → List ℕ → Result Submitted ServerFault → Archives → Archives → Held → Held
    → Type 0
Stores capacity tc bytes (Ok outcome) old new before after =
    IsStored capacity tc bytes outcome old new before after
Stores capacity tc bytes (Err fault.Memory) old new before after = StoreStarved capacity bytes old new
Stores capacity tc bytes (Err other) old new before after = ⊥

-- how a store may be refused
abbrev pub MayRefuse : Error → Type 0
MayRefuse error.WrongDigest = Unit {0}
MayRefuse error.FileTooLarge = Unit {0}
MayRefuse (error.Io fault) = Unit {0}
MayRefuse error.Memory = Unit {0}
MayRefuse other = ⊥

-- what a refused store comes to, where these went
abbrev pub refusal : Error → List (List ℕ) → Result Submitted ServerFault
refusal error.WrongDigest gone = Ok submitted.Digest
refusal error.FileTooLarge gone = Ok submitted.Capacity
refusal (error.Io fault) gone = Ok (submitted.Folder gone)
refusal other gone = Err fault.Memory

-- a listed archive was read, or the folder failed; want of memory leaves it in its place or most recent
abbrev pub Reads : List ℕ → Result Taken want.Memory → Archives → Archives → Held → Held → Type 0
Reads tc (Ok (taken.Folder t)) old new before after =
    (t ≡ tc) × (new ≡ promoted_key tc old) × Fails before after
Reads tc (Ok (taken.Read t archive)) old new before after =
    (t ≡ tc) × (new ≡ promoted_key tc old) × Holds before (λ files. id_of archive ≡ tc)
    × (after.faults ≡ before.faults)
Reads tc (Ok other) old new before after = ⊥
Reads tc (Err e) old new before after = (new ≡ old) ⊎ (new ≡ promoted_key tc old)
