-- What a get gives, and what it leaves.
use Rattle.std.specs.Prelude.{◌≡◌, ◌≢◌, ◌⊎◌, ℕ, Bool, true, false, List, Option, Some, None, Result, Ok, Err}
use Rattle.dist_types.specs.declared.dialer.Asked.{Asked}
use Rattle.dist_types.specs.declared.dialer.AskFault.{AskFault}
use Rattle.dist_types.specs.declared.dialer.AskFault.TheVariants.{Failed, Memory as OutOfMemory}
use Rattle.folders.specs.Held.{Held}
use Rattle.dist_types.specs.declared.folder_fault.FolderFault.TheVariants.{Missing}
use Rattle.dist_types.specs.declared.cache_error.Error.{Error}
use Rattle.dist_types.specs.declared.cache_error.Error.TheVariants.{FileNotInCache, FileTooLarge, Io}
use Rattle.dist_types.specs.declared.cache_error.Error.TheVariants.{Memory as NoMemory}
use Rattle.toolchain_cache.specs.Archives.{ArchiveStore, id_of}
use Rattle.mirror.specs.Asking.{Ask, IsAskedFor, Tells}
use Rattle.mirror.specs.Caches.{Cache, told_of, Looks, Stores}
use Rattle.mirror.specs.declared.error.MirrorError.{MirrorError}
use Rattle.mirror.specs.declared.error.MirrorError.TheVariants as mirror
use Rattle.mirror.specs.declared.got.Got.{Got}
use Rattle.mirror.specs.declared.got.Got.TheVariants.{Near, Fetched}
use Rattle.mirror.specs.declared.said.Said.{Said}
use Rattle.mirror.specs.declared.said.Said.TheVariants.{Archive, NotThere, Bad}

-- a mirror: its near cache, its dialer, and whom it asks
pub record Parts (F D : Type 0) : Type 0 where
  pub near : ArchiveStore F
  pub dialer : D
  pub host : List ℕ
  pub port : ℕ

-- the answer of a get
abbrev pub Answer : Type 0
Answer = Result Got MirrorError

-- these bytes were got near
abbrev pub GivesNear : List ℕ → Answer → Type 0
GivesNear bytes (Ok (Near v)) = v.items ≡ bytes
GivesNear bytes (Ok (Fetched v listed)) = ⊥
GivesNear bytes (Err e) = ⊥

-- these bytes were fetched, and this says whether they are listed near
abbrev pub GivesFetched : List ℕ → Bool → Answer → Type 0
GivesFetched bytes listed (Ok (Near v)) = ⊥
GivesFetched bytes listed (Ok (Fetched v l)) = (v.items ≡ bytes) × (l ≡ listed)
GivesFetched bytes listed (Err e) = ⊥

-- what the look near comes to: the archive; or none, where it is not listed or its file is missing; or why it
-- failed
abbrev pub near_of : Result (List ℕ) Error → Result (Option (List ℕ)) MirrorError
near_of (Ok bytes) = Ok (Some bytes)
near_of (Err FileNotInCache) = Ok None
near_of (Err (Io Missing)) = Ok None
near_of (Err NoMemory) = Err mirror.Memory
near_of (Err e) = Err (mirror.Near e)

-- the answer behind the store of an archive that was verified: it is fetched, and listed near or not
abbrev pub AfterStore : List ℕ → Result (Unit {0}) Error → Answer → Type 0
AfterStore bytes (Ok x) answer = GivesFetched bytes true answer
AfterStore bytes (Err FileTooLarge) answer = GivesFetched bytes false answer
AfterStore bytes (Err (Io fault)) answer = GivesFetched bytes false answer
AfterStore bytes (Err NoMemory) answer = answer ≡ Err mirror.Memory
AfterStore bytes (Err other) answer = ⊥

-- bytes whose SHA-256 is the id were stored near, and given
pub record Keeps (id bytes : List ℕ) (answer : Answer) (old new : Cache) : Type 0 where
  pub stored : Result (Unit {0}) Error
  pub verified : id_of bytes ≡ id
  pub stores : Stores id bytes stored old new
  pub gives : AfterStore bytes stored answer

-- bytes whose SHA-256 is another than the id are not stored
pub record Refuses (id bytes : List ℕ) (answer : Answer) (old new : Cache) : Type 0 where
  pub another : id_of bytes ≢ id
  pub gives : answer ≡ Err mirror.WrongDigest
  pub same : new ≡ old

-- by what the far side said
abbrev pub AfterSaid : List ℕ → Said → Answer → Cache → Cache → Type 0
AfterSaid id (Archive bytes) answer old new = Keeps id bytes answer old new ⊎ Refuses id bytes answer old new
AfterSaid id NotThere answer old new = (answer ≡ Err mirror.NotAnywhere) × (new ≡ old)
AfterSaid id (Bad code) answer old new = (answer ≡ Err (mirror.BadReply code)) × (new ≡ old)

-- a reply was read, and what it says decides
pub record Reads (id reply : List ℕ) (answer : Answer) (old new : Cache) : Type 0 where
  pub said : Said
  pub tells : Tells reply said
  pub follows : AfterSaid id said answer old new

-- by what was heard of the far side: its reply, which memory may not suffice to read; or none
abbrev pub AfterHeard : List ℕ → Result (List ℕ) AskFault → Answer → Cache → Cache → Type 0
AfterHeard id (Ok reply) answer old new =
    Reads id reply answer old new ⊎ ((answer ≡ Err mirror.Memory) × (new ≡ old))
AfterHeard id (Err Failed) answer old new = (answer ≡ Err mirror.FetchFault) × (new ≡ old)
AfterHeard id (Err OutOfMemory) answer old new = (answer ≡ Err mirror.Memory) × (new ≡ old)

-- the far side was asked once, and what was heard decides
pub record GoesOn (Asks : Result (List ℕ) AskFault → Type 0) (id : List ℕ) (answer : Answer) (old new : Cache)
    : Type 0 where
  pub heard : Result (List ℕ) AskFault
  pub asks : Asks heard
  pub follows : AfterHeard id heard answer old new

-- by what the look near comes to: where that is an answer, the far side is not asked
abbrev pub AfterNear : Type 0 → (Result (List ℕ) AskFault → Type 0) → List ℕ
    → Result (Option (List ℕ)) MirrorError → Answer → Cache → Cache → Type 0
AfterNear Unasked Asks id (Ok (Some bytes)) answer old new = GivesNear bytes answer × (new ≡ old) × Unasked
AfterNear Unasked Asks id (Ok None) answer old new = GoesOn Asks id answer old new
AfterNear Unasked Asks id (Err e) answer old new = (answer ≡ Err e) × (new ≡ old) × Unasked

-- An archive was got: near is asked first, and the far side only where near has none.
pub record Gets (Unasked : Type 0) (Asks : Result (List ℕ) AskFault → Type 0) (id : List ℕ) (answer : Answer)
    (old new : Cache) : Type 0 where
  pub found : Result (List ℕ) Error
  pub between : Cache
  pub looks : Looks id found old between
  pub follows : AfterNear Unasked Asks id (near_of found) answer between new

-- the same over a far side, by what its trait says of it: it is as it was where it is not asked, and whom a mirror
-- asks stays
pub record GetsBy {F D : Type 0} (held : F → Held) (asked : D → Option (List Asked)) (faults : D → ℕ)
    (asks : Ask D) (id : List ℕ) (answer : Answer) (old new : Parts F D) : Type 0 where
  pub gets : Gets (new.dialer ≡ old.dialer)
      (IsAskedFor asked faults asks old.host old.port id old.dialer new.dialer)
      id answer (told_of held old.near) (told_of held new.near)
  pub host : new.host ≡ old.host
  pub port : new.port ≡ old.port

-- all bytes that are given by a fetch have the asked id as SHA-256
abbrev pub FetchedHave : List ℕ → Answer → Type 0
FetchedHave id (Ok (Near v)) = Unit {0}
FetchedHave id (Ok (Fetched v listed)) = id_of v.items ≡ id
FetchedHave id (Err e) = Unit {0}

-- all bytes that are given have it
abbrev pub AllHave : List ℕ → Answer → Type 0
AllHave id (Ok (Near v)) = id_of v.items ≡ id
AllHave id (Ok (Fetched v listed)) = id_of v.items ≡ id
AllHave id (Err e) = Unit {0}
