-- One cache that takes all that is put near and far, and that a mirror gives what it gives.
use Rattle.std.specs.Prelude.{◌≡◌, ◌≢◌, ◌⊎◌, ℕ, ◌≤◌, Bool, true, false, ◌||◌, List, [], ◌∷◌, ◌++◌}
use Rattle.std.specs.Prelude.{length, max}
use Rattle.std.specs.Prelude.{unwrap_or, Err}
use Rattle.std.specs.Map.{lookup}
use Rattle.std.specs.Str.{bytes_eq}
use Rattle.listed_files.specs.Disk.{without_key}
use Rattle.listed_files.specs.Entries.{total, promoted_key}
use Rattle.toolchain_cache.specs.Archives.{Archives, id_of}
use Rattle.build_server.specs.Books.{is_listed}
use Rattle.mirror.specs.Getting.{Answer, GivesNear, GivesFetched}
use Rattle.mirror.specs.Sides.{Sides, put_bytes, after_get}
use Rattle.mirror.specs.declared.error.MirrorError.TheVariants as mirror

-- what is done: bytes are put near or far, or an archive is asked for
pub data Deed : Type 0 where
  put_near : List ℕ → Deed
  put_far : List ℕ → Deed
  get : List ℕ → Deed

-- the most that the sizes sum to near, far, and in the one cache
pub record Capacities : Type 0 where
  pub near : ℕ
  pub far : ℕ
  pub one : ℕ

-- the two sides once that is done
abbrev pub next : Capacities → Sides → Deed → Sides
next c s (put_near bytes) = record { near = put_bytes c.near bytes s.near; far = s.far; waiting = s.waiting }
next c s (put_far bytes) = record { near = s.near; far = put_bytes c.far bytes s.far; waiting = s.waiting }
next c s (get id) = after_get c.near id s

-- once all of that is done, in order
abbrev pub after : Capacities → Sides → List Deed → Sides
after c s [] = s
after c s (d ∷ ds) = after c (next c s d) ds

-- nothing is listed, and nothing waits
abbrev pub no_sides : Sides
no_sides = record { near = []; far = []; waiting = [] }

-- the archives of the one cache once that is done: it takes all that is put
abbrev pub one_next : Capacities → Archives → Deed → Archives
one_next c archives (put_near bytes) = put_bytes c.one bytes archives
one_next c archives (put_far bytes) = put_bytes c.one bytes archives
one_next c archives (get id) = promoted_key id archives

abbrev pub one_after : Capacities → Archives → List Deed → Archives
one_after c archives [] = archives
one_after c archives (d ∷ ds) = one_after c (one_next c archives d) ds

-- ---- room

-- an archive with the larger of its size and what is kept of that id
abbrev pub larger : List ℕ → ℕ → Archives → ℕ
larger id size all = max size (unwrap_or (lookup (bytes_eq id) all) 0)

-- all archives that were put, each id once
abbrev pub with_put : List ℕ → ℕ → Archives → Archives
with_put id size all = without_key id all ++ (id, larger id size all) ∷ []

abbrev pub put_next : Archives → Deed → Archives
put_next all (put_near bytes) = with_put (id_of bytes) (length bytes) all
put_next all (put_far bytes) = with_put (id_of bytes) (length bytes) all
put_next all (get id) = all

abbrev pub put_after : Archives → List Deed → Archives
put_after all [] = all
put_after all (d ∷ ds) = put_after (put_next all d) ds

-- there is room for all that is put, near, far, and in the one cache
pub record HasRoom (c : Capacities) (deeds : List Deed) : Type 0 where
  pub near : total (put_after [] deeds) ≤ c.near
  pub far : total (put_after [] deeds) ≤ c.far
  pub one : total (put_after [] deeds) ≤ c.one

-- ---- the law

-- Where there is room for all, and nothing is lost or made up, one of the two sides lists an id exactly where
-- the one cache does.
abbrev pub SidesAreOne : Type 0
SidesAreOne = (c : Capacities) (deeds : List Deed) (id : List ℕ) → HasRoom c deeds
    → (is_listed id (after c no_sides deeds).near || is_listed id (after c no_sides deeds).far)
    ≡ is_listed id (one_after c [] deeds)

-- the same bytes, or a collision of SHA-256
abbrev pub SameOrCollision : List ℕ → List ℕ → Type 0
SameOrCollision a b = (a ≡ b) ⊎ ((a ≢ b) × (id_of a ≡ id_of b))

-- an answer gives these bytes, near or fetched
abbrev pub GivesBytes : List ℕ → Answer → Type 0
GivesBytes bytes answer = GivesNear bytes answer ⊎ ((listed : Bool) × GivesFetched bytes listed answer)

-- An answer is that of one cache, by whether that lists the id: the bytes that it gives, which have the id as
-- SHA-256; or that there are none.
abbrev pub AsOne : List ℕ → Bool → Answer → Type 0
AsOne id true answer = (bytes : List ℕ) × (id_of bytes ≡ id) × GivesBytes bytes answer
    × ((given : List ℕ) → id_of given ≡ id → SameOrCollision bytes given)
AsOne id false answer = answer ≡ Err mirror.NotAnywhere
