-- What contracts see of the station of a build server.
use Rattle.std.specs.Prelude.{◌≡◌, ℕ, List, [], Bool, true, false, is_some, Option, Some, None, codes}
use Rattle.toolchain_cache.specs.Archives.{IsInStep, opened_archives}
use Rattle.dist_types.specs.declared.cache_error.Error.{Error}
use Rattle.dist_types.specs.declared.cache_error.Error.TheVariants.{Io}
use Rattle.folders.specs.Held.{Held, Holds}
use Rattle.build_server.specs.Books.{Books}
use Rattle.build_server.specs.Builds.{Builder}
use Rattle.farm_entries.specs.Passage.{Leaves}
use Rattle.farm_entries.specs.Weather.{Outside, OnlyClears}
use Rattle.farm_stations.specs.Hands.{Hand, IsCalled}

-- A station: the number of its life with that life's nonce and key, whether it runs, what it keeps, whether
-- its folder failed since its last opening began, how many builds its builder was asked for, a builder that
-- was handed in, and the builder that it asks, whoever made it.
pub record Post : Type 0 where
  pub life : ℕ
  pub nonce : ℕ
  pub authorizer : List ℕ
  pub running : Bool
  pub state : Books
  pub failed : Bool
  pub builds : ℕ
  pub builder : Option Builder
  pub hand : Hand

-- what a station keeps over that folder, where its cache is not open
abbrev pub closed_over : Option Held → Books
closed_over None = record {
  held = [];
  archives = [];
  capacity = 0;
  path = [];
  folder = record { files = None; faults = 0 };
}
closed_over (Some folder) = record { held = []; archives = []; capacity = 0; path = []; folder = folder }

abbrev pub shelf : Option Books → Option Held → Books
shelf None closed = closed_over closed
shelf (Some books) closed = books

-- what is outside of it
abbrev pub outside_of : Post → Outside
outside_of st = record { failed = st.failed; folder = st.state.folder; builder = st.builder }

-- what is around a station: what is outside of it, and the builder that it asks
pub record Around : Type 0 where
  pub outside : Outside
  pub hand : Hand

abbrev pub around_of : Post → Around
around_of st = record { outside = outside_of st; hand = st.hand }

-- what one event leaves around the server that it reaches for
pub record LeavesAround (old new : Around) : Type 0 where
  pub leaves : Leaves old.outside new.outside
  pub called : IsCalled old.hand new.hand

-- ---- openings

-- a folder of that type tells its files
abbrev pub IsTelling : {F : Type 0} → (F → Held) → Type 0
IsTelling {F} held = (folder : F) → is_some (held folder).files ≡ true

-- whether an error is a fault of a folder
abbrev pub is_io : Error → Bool
is_io (Io fault) = true
is_io other = false

-- Books over a cache that was opened again, where the server ran or not: nothing is held, the archives are
-- those that the files give, and those that it had where they were in step with the files.
pub record IsReopened {F : Type 0} (held : F → Held) (ran : Bool) (capacity : ℕ)
    (old new : Books) : Type 0 where
  pub holds : new.held ≡ []
  pub origin : F
  pub from : old.folder ≡ held origin
  pub archives : Holds old.folder (λ files. new.archives ≡ opened_archives (codes "tc") capacity files)
  pub keeps : ran ≡ true → IsInStep old.path old.folder old.archives
      → Holds old.folder (λ files. new.archives ≡ old.archives)
  pub capacity_is : new.capacity ≡ capacity
  pub path_is : new.path ≡ codes "tc"
  pub step : IsInStep new.path new.folder new.archives
  pub steady : new.folder.faults ≡ old.folder.faults
  pub clears : OnlyClears old.folder new.folder
