-- What a run leaves outside of the servers.
use Rattle.std.specs.Prelude.{◌≡◌, ◌≤◌, ◌⊎◌, ℕ, List, [], ◌∷◌, ◌++◌, length, slice_get, set, true, false}
use Rattle.std.specs.Prelude.{is_some, Option, Some, None, codes}
use Rattle.dist_types.specs.Builder.{Built}
use Rattle.dist_types.specs.Content.{Recorded}
use Rattle.toolchain_cache.specs.Archives.{Archives, IsInStep, opened_archives}
use Rattle.folders.specs.Changed.{ButUnder}
use Rattle.folders.specs.Files.{front}
use Rattle.folders.specs.Held.{Held, Holds, Became}
use Rattle.build_server.specs.Books.{Fails}
use Rattle.build_server.specs.Builds.{Builder}
use Rattle.dist_types.specs.declared.addr.Addr.{Addr}
use Rattle.farm_script.specs.declared.event.Event.{Event}
use Rattle.farm_script.specs.declared.event.EventKind.{EventKind}
use Rattle.farm_script.specs.declared.event.EventKind.TheVariants.{Request, Deliver, Fail, Return, Answer}
use Rattle.farm_script.specs.declared.event.EventKind.TheVariants.{Beat, Restart}
use Rattle.farm_entries.specs.declared.site.Site.{Site as Setup}
use Rattle.farm_entries.specs.declared.site.SiteServer.{SiteServer}
use Rattle.farm_entries.specs.declared.entry.Entry.{Entry}
use Rattle.farm_entries.specs.declared.entry.Step.{Step}
use Rattle.farm_entries.specs.declared.entry.StepKind.{StepKind}
use Rattle.farm_entries.specs.declared.entry.StepKind.TheVariants as step
use Rattle.farm_entries.specs.Next.{IsNext}
use Rattle.farm_entries.specs.Servers.{server_at, server_of}
use Rattle.farm_entries.specs.Weather.{Outside, Weather, calm, weather_of, OnlyClears}

-- ---- which server's folder and builder an event may reach

-- whether the server reaches for its folder or its builder in a step of that kind
abbrev pub reaches : StepKind → Addr → Option Addr
reaches (step.Heard as_what) addr = None
reaches (step.Assigned job tc ready) addr = None
reaches (step.Submitted job outcome) addr = Some addr
reaches (step.Ran job ran result) addr = Some addr
reaches (step.Finished job) addr = None
reaches (step.Unreported job) addr = None
reaches (step.Opened archives) addr = Some addr

abbrev pub reached_in : Option Step → Option Addr
reached_in None = None
reached_in (Some step) = reaches step.kind step.server

-- the server that the event restarts, or whose step reaches so
abbrev pub reached : EventKind → Option Step → Option Addr
reached (Request target peer bytes) step = reached_in step
reached (Deliver call) step = reached_in step
reached (Fail call) step = reached_in step
reached (Return delivery) step = reached_in step
reached (Answer call bytes) step = reached_in step
reached (Beat server) step = reached_in step
reached (Restart server key nonce) step = Some server

-- ---- what an opening finds as a farm begins

-- The first opening of a server over that folder: it lists what the files give; none where the folder fails,
-- which one of the farm's own does not.
abbrev pub IsBegun : ℕ → Option Builder → Held → Option Archives → Outside → Type 0
IsBegun capacity builder folder (Some list) new =
    Holds folder (λ files. list ≡ opened_archives (codes "tc") capacity files)
    × (new.failed ≡ false) × (new.folder.faults ≡ folder.faults) × (new.builder ≡ builder)
    × OnlyClears folder new.folder
IsBegun capacity builder folder None new =
    Fails folder new.folder × (new.failed ≡ true) × (new.builder ≡ builder) × (is_some builder ≡ true)
    × OnlyClears folder new.folder

-- ---- what an entry leaves

-- What no event changes outside of a server, and so no run: a builder that the farm made stays one, and so does
-- one that was handed in; each file outside of the directory of the archives is as it was, where files are
-- told; the count of the folder never falls; and the folder is one that failed only where it was, or did.
pub record Stays (old new : Outside) : Type 0 where
  pub own : is_some new.builder ≡ is_some old.builder
  pub others : Became (ButUnder (front (codes "tc"))) old.folder.files new.folder.files
  pub later : old.folder.faults ≤ new.folder.faults
  pub cause : new.failed ≡ true → (old.failed ≡ true) ⊎ Fails old.folder new.folder

-- a builder was called at most once: its record is the old one or has one row more, and its count of refusals
-- has not fallen
pub record IsAsked (old new : Builder) : Type 0 where
  pub rows : (new.rows ≡ old.rows) ⊎ ((row : Built) × Recorded row old.rows new.rows)
  pub later : old.refusals ≤ new.refusals

-- the same of one that was handed in, if any
abbrev pub AsksOnce : Option Builder → Option Builder → Type 0
AsksOnce None new = new ≡ None
AsksOnce (Some old) None = ⊥
AsksOnce (Some old) (Some new) = IsAsked old new

-- what one event leaves outside of the server that it reaches for
pub record Leaves (old new : Outside) : Type 0 where
  pub stays : Stays old new
  pub asked : AsksOnce old.builder new.builder

abbrev pub LeavesTo : Option Addr → Outside → Outside → Type 0
LeavesTo None old new = new ≡ old
LeavesTo (Some addr) old new = Leaves old new

-- what a step leaves outside of its server
abbrev pub LeavesOutside : Option Step → Outside → Outside → Type 0
LeavesOutside step old new = LeavesTo (reached_in step) old new

-- the farm made all its builders, and its folders in memory
abbrev pub AreOwn : List Outside → Type 0
AreOwn all = (i : ℕ) (o : Outside) → slice_get all i ≡ Some o → o.builder ≡ None

-- nothing outside of the servers is reached for
pub record IsStill (w : Weather) (old new : List Outside) : Type 0 where
  pub left : new ≡ old
  pub own : AreOwn old → w ≡ calm

-- What is outside of the server at the address changed from what it was to what it is, as that weather says,
-- and nothing outside of others.
pub record MovesAt (setup : Setup) (addr : Addr) (w : Weather) (old new : List Outside) : Type 0 where
  pub place : ℕ
  pub server : SiteServer
  pub there : slice_get setup.servers place ≡ Some server
  pub at : server.addr ≡ addr
  pub was : Outside
  pub is : Outside
  pub before : slice_get old place ≡ Some was
  pub left : new ≡ set old place is
  pub weather : w ≡ weather_of was is
  pub leaves : Leaves was is

-- the same where an event restarts no server of the farm
pub record IsNobody (setup : Setup) (addr : Addr) (w : Weather) (old new : List Outside) : Type 0 where
  pub none : server_at setup addr ≡ None
  pub still : IsStill w old new

abbrev pub Moves : Setup → Option Addr → Weather → List Outside → List Outside → Type 0
Moves setup None w old new = IsStill w old new
Moves setup (Some addr) w old new = MovesAt setup addr w old new ⊎ IsNobody setup addr w old new

-- what an entry leaves outside of the servers, in that weather
abbrev pub IsMoved : Setup → Entry → Weather → List Outside → List Outside → Type 0
IsMoved setup e w old new = Moves setup (reached e.event.kind e.step) w old new

-- One entry for each event, each next over those before it, in the weather that what was outside of its
-- server before it and after it makes.
abbrev pub Passage : Setup → List Entry → List Outside → List Event → List Entry → List Outside → Type 0
Passage setup log old [] [] new = new ≡ old
Passage setup log old (event ∷ events) (e ∷ es) new =
    (w : Weather) × (mid : List Outside) × IsNext w setup log event e × IsMoved setup e w old mid
    × Passage setup (log ++ e ∷ []) mid events es new
Passage setup log old [] (e ∷ es) new = ⊥
Passage setup log old (event ∷ events) [] new = ⊥

-- what a run leaves outside of all servers
pub record AllStay (old new : List Outside) : Type 0 where
  pub size : length new ≡ length old
  pub each : (i : ℕ) (was is : Outside) → slice_get old i ≡ Some was → slice_get new i ≡ Some is
      → Stays was is

-- Each server that runs, and whose folder did not fail since its last opening began, lists what its folder
-- holds: the archives among the files below the path of its cache are those that it lists, in their order,
-- where files are told.
abbrev pub AreInStep : Setup → List Entry → List Outside → Type 0
AreInStep setup log outside = (i : ℕ) (s : SiteServer) (o : Outside) → slice_get setup.servers i ≡ Some s
    → slice_get outside i ≡ Some o → (server_of s log).running ≡ true → o.failed ≡ false
    → IsInStep (codes "tc") o.folder (server_of s log).archives
