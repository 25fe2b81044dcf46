-- What a store that failed left of the list, as its folder tells by its counts of failures.
use Rattle.std.specs.Prelude.{◌≡◌, ℕ, ◌⊎◌, List, ◌∷◌, ◌++◌, Result, Ok, Err}
use Rattle.dist_types.specs.Cause.{counted}
use Rattle.dist_types.specs.declared.cache_error.Error.{Error}
use Rattle.dist_types.specs.declared.cache_error.Error.TheVariants.{NotPending}
use Rattle.dist_types.specs.declared.cache_error.Error.TheVariants.{Memory as NoMemory}
use Rattle.folders.specs.Failures.{Failures}
use Rattle.listed_files.specs.Entries.{Entries}
use Rattle.listed_files.specs.Disk.{without_key, staying}

-- no rename and no removal failed
abbrev pub NoneFailed : Failures → Failures → Type 0
NoneFailed old new = (new.renames ≡ old.renames) × (new.removals ≡ old.removals)

-- no call failed where there is no error, and neither a rename nor a removal where there is one
abbrev pub ToldCall : {T E : Type 0} → Result T E → Failures → Failures → Type 0
ToldCall (Ok x) old new = new ≡ old
ToldCall (Err e) old new = NoneFailed old new

-- a rename failed, and no removal
abbrev pub RenameFailed : Failures → Failures → Type 0
RenameFailed old new = (new.renames ≡ counted old.renames) × (new.removals ≡ old.removals)

-- a rename may have failed, and no removal
abbrev pub TellsRename : {E : Type 0} → Result (Unit {0}) E → Failures → Failures → Type 0
TellsRename (Ok x) old new = new ≡ old
TellsRename (Err e) old new = RenameFailed old new

-- a removal failed, and no rename
abbrev pub RemovalFailed : Failures → Failures → Type 0
RemovalFailed old new = (new.renames ≡ old.renames) × (new.removals ≡ counted old.removals)

-- the key is out, and the least recent others are up to one of them
abbrev pub GoneUpTo : List ℕ → Entries → Entries → Type 0
GoneUpTo key old new = (gone : Entries) × (last : List ℕ × ℕ) × (without_key key old ≡ gone ++ last ∷ new)

-- Where neither a rename nor a removal failed, the list is as it was. Where a removal did, the key is out, and
-- the least recent others up to that whose file it was. Where the rename did, the key is out, and all that had
-- to go.
abbrev pub ToldLeft : List ℕ → ℕ → Entries → Entries → Failures → Failures → Type 0
ToldLeft key limit old new before after =
    ((new ≡ old) × NoneFailed before after)
    ⊎ ((GoneUpTo key old new × RemovalFailed before after)
    ⊎ ((new ≡ staying key limit old) × RenameFailed before after))

-- the same of a store that may have succeeded, where no call failed
abbrev pub ToldStored : {T E : Type 0} → Result T E → List ℕ → ℕ → Entries → Entries → Failures → Failures
    → Type 0
ToldStored (Ok x) key limit old new before after = after ≡ before
ToldStored (Err e) key limit old new before after = ToldLeft key limit old new before after

-- The same of a store of a size that is known of it alone: the list is as it was, or this is so for such a
-- size, with the room that it leaves for the others.
abbrev pub ToldSized : {E : Type 0} → Result (Unit {0}) E → List ℕ → (ℕ → ℕ) → (ℕ → Type 0) → Entries → Entries
    → Failures → Failures → Type 0
ToldSized (Ok x) key room IsSize old new before after = after ≡ before
ToldSized (Err e) key room IsSize old new before after =
    ((new ≡ old) × NoneFailed before after)
    ⊎ ((n : ℕ) × IsSize n × ToldLeft key (room n) old new before after)

-- What the counts tell of closing a reservation: its file's removal failed, and so want of memory is the
-- folder's.
abbrev pub ToldClosed : Error → Failures → Failures → Type 0
ToldClosed NotPending before after = after ≡ before
ToldClosed NoMemory before after =
    RemovalFailed before after × (after.memory ≡ counted before.memory)
ToldClosed error before after = RemovalFailed before after
