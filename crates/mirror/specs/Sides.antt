-- Two caches, one behind the other, by the ids and sizes of their archives: what is put, and what is got.
use Rattle.std.specs.Prelude.{◌≡◌, ℕ, ◌≤◌, Bool, true, false, nat_lt, nat_le, List, [], ◌∷◌, length}
use Rattle.std.specs.Prelude.{if◌then◌else◌, Option, Some, None, Err}
use Rattle.std.specs.List.{AllByRecursion}
use Rattle.std.specs.Map.{lookup}
use Rattle.std.specs.Str.{bytes_eq}
use Rattle.listed_files.specs.Entries.{promoted_key}
use Rattle.toolchain_cache.specs.Archives.{Archives, id_of, archive_of}
use Rattle.toolchain_cache.specs.Archiving.{with_archive}
use Rattle.mirror.specs.Getting.{Answer, GivesNear, GivesFetched}
use Rattle.mirror.specs.declared.error.MirrorError.TheVariants as mirror
use Rattle.mirror.specs.declared.far.Wait.{Wait}
use Rattle.mirror.specs.declared.far.Wait.TheVariants.{Lose, Lie}

-- the archives of the near cache and of the far one, least recent first, and what waits for asks to come
pub record Sides : Type 0 where
  pub near : Archives
  pub far : Archives
  pub waiting : List Wait

-- the archives of a cache once one of this size is stored, unless that is too large
abbrev pub put_in : ℕ → List ℕ → ℕ → Archives → Archives
put_in capacity id size archives =
    if nat_lt capacity size then archives else with_archive capacity id size archives

-- once bytes are put
abbrev pub put_bytes : ℕ → List ℕ → Archives → Archives
put_bytes capacity bytes archives = put_in capacity (id_of bytes) (length bytes) archives

-- ---- a get within a near capacity

-- which sides follow, by whether the far cache lists the archive: then it is fetched
abbrev pub after_far : ℕ → List ℕ → Option ℕ → Sides → Sides
after_far capacity id (Some size) s =
    record { near = put_in capacity id size s.near; far = promoted_key id s.far; waiting = s.waiting }
after_far capacity id None s = s

-- by whether a body has the SHA-256
abbrev pub after_lie : ℕ → List ℕ → Bool → List ℕ → List Wait → Sides → Sides
after_lie capacity id true bytes rest s =
    record { near = put_in capacity id (length bytes) s.near; far = s.far; waiting = rest }
after_lie capacity id false bytes rest s = record { near = s.near; far = s.far; waiting = rest }

-- by what waits
abbrev pub after_ask : ℕ → List ℕ → List Wait → Sides → Sides
after_ask capacity id [] s = after_far capacity id (lookup (bytes_eq id) s.far) s
after_ask capacity id (Lose ∷ rest) s = record { near = s.near; far = s.far; waiting = rest }
after_ask capacity id (Lie bytes ∷ rest) s = after_lie capacity id (bytes_eq (id_of bytes) id) bytes rest s

-- by whether the near cache lists the archive
abbrev pub after_near : ℕ → List ℕ → Option ℕ → Sides → Sides
after_near capacity id (Some size) s =
    record { near = promoted_key id s.near; far = s.far; waiting = s.waiting }
after_near capacity id None s = after_ask capacity id s.waiting s

-- the sides once an archive is asked for
abbrev pub after_get : ℕ → List ℕ → Sides → Sides
after_get capacity id s = after_near capacity id (lookup (bytes_eq id) s.near) s

-- bytes of that SHA-256 and size
abbrev pub IsArchive : List ℕ → ℕ → List ℕ → Type 0
IsArchive id size bytes = archive_of bytes ≡ (id, size)

-- what is answered, by whether the far cache lists the archive: it is listed near where that takes it
abbrev pub FarGives : ℕ → List ℕ → Option ℕ → Answer → Type 0
FarGives capacity id (Some size) answer =
    (bytes : List ℕ) × IsArchive id size bytes × GivesFetched bytes (nat_le size capacity) answer
FarGives capacity id None answer = answer ≡ Err mirror.NotAnywhere

-- by whether a body has the SHA-256
abbrev pub LieGives : ℕ → Bool → List ℕ → Answer → Type 0
LieGives capacity true bytes answer = GivesFetched bytes (nat_le (length bytes) capacity) answer
LieGives capacity false bytes answer = answer ≡ Err mirror.WrongDigest

-- by what waits
abbrev pub AskGives : ℕ → List ℕ → List Wait → Archives → Answer → Type 0
AskGives capacity id [] far answer = FarGives capacity id (lookup (bytes_eq id) far) answer
AskGives capacity id (Lose ∷ rest) far answer = answer ≡ Err mirror.FetchFault
AskGives capacity id (Lie bytes ∷ rest) far answer =
    LieGives capacity (bytes_eq (id_of bytes) id) bytes answer

-- by whether the near cache lists the archive
abbrev pub NearGives : ℕ → List ℕ → Option ℕ → Sides → Answer → Type 0
NearGives capacity id (Some size) s answer =
    (bytes : List ℕ) × IsArchive id size bytes × GivesNear bytes answer
NearGives capacity id None s answer = AskGives capacity id s.waiting s.far answer

-- what is answered where an archive is asked for
abbrev pub Gives : ℕ → List ℕ → Sides → Answer → Type 0
Gives capacity id s answer = NearGives capacity id (lookup (bytes_eq id) s.near) s answer

-- ---- what goes through a reply

-- a body goes through a reply: it has at most 1,073,741,824 bytes
abbrev pub IsShortLie : Wait → Type 0
IsShortLie Lose = Unit {0}
IsShortLie (Lie bytes) = length bytes ≤ 1073741824

-- each archive of the far side goes through a reply, and so does each body that waits
pub record GoThrough (s : Sides) : Type 0 where
  pub far : AllByRecursion (λ a. a.1 ≤ 1073741824) s.far
  pub waiting : AllByRecursion IsShortLie s.waiting
