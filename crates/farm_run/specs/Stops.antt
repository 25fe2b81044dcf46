-- What a farm hands back of what is outside of its servers, at its end and where memory ran out in an event.
use Rattle.std.specs.Prelude.{◌≡◌, ◌≤◌, ◌⊎◌, ℕ, List, [], ◌∷◌, length, map, drop, set, slice_get, Option, Some}
use Rattle.std.specs.Prelude.{None}
use Rattle.dist_types.specs.declared.addr.Addr.{Addr}
use Rattle.folders.specs.Held.{Held}
use Rattle.dist_types.specs.Builder.{Answering}
use Rattle.build_server.specs.Builds.{Builder}
use Rattle.core_rules.specs.Log.{Core}
use Rattle.farm_entries.specs.declared.site.Site.{Site as Setup}
use Rattle.farm_entries.specs.declared.entry.Entry.{Entry}
use Rattle.farm_entries.specs.declared.pending.Pending.{Pending}
use Rattle.farm_run.specs.Farm.{IsFarm}
use Rattle.farm_entries.specs.Next.{IsRun}
use Rattle.farm_entries.specs.Passage.{AreOwn, AreInStep, reached}
use Rattle.farm_entries.specs.Servers.{server_of}
use Rattle.farm_entries.specs.Begun.{IsCallOf}
use Rattle.farm_entries.specs.Calls.{settles_by}
use Rattle.farm_entries.specs.declared.pending.Ask.{Ask}
use Rattle.farm_entries.specs.declared.pending.Ask.TheVariants.{Assign, Report}
use Rattle.farm_entries.specs.declared.site.SiteServer.{SiteServer}
use Rattle.farm_script.specs.declared.event.EventKind.{EventKind}
use Rattle.farm_script.specs.declared.event.EventKind.TheVariants.{Restart}
use Rattle.farm_stations.specs.Hands.{Hand, IsGiven, IsHandOf}
use Rattle.farm_stations.specs.Post.{Post as Station, Around, LeavesAround, outside_of}
use Rattle.farm_entries.specs.Weather.{Outside, calm, OnlyClears}

-- what each server's folder tells, in the order of the setup
abbrev pub folders_in : List Outside → List Held
folders_in all = map (λ o. o.folder) all

-- One builder a server, in the order of the setup: each tells what the one that the server asks does, and answers
-- by its lines.
pub record AreGiven {B : Type 0} (told : B → Builder) (answers : B → Option Answering) (hands : List Hand)
    (builders : List B) : Type 0 where
  pub size : length builders ≡ length hands
  pub each : (i : ℕ) (hand : Hand) (b : B) → slice_get hands i ≡ Some hand → slice_get builders i ≡ Some b
      → IsGiven told answers hand b

-- The builder that each server asks: one that was handed in tells what is outside of the server; one that the farm
-- made tells its whole record, and has the lines left that are not built.
pub record AreHands (setup : Setup) (log : List Entry) (outside : List Outside) (hands : List Hand) : Type 0 where
  pub size : length hands ≡ length setup.servers
  pub each : (i : ℕ) (s : SiteServer) (o : Outside) (hand : Hand) → slice_get setup.servers i ≡ Some s
      → slice_get outside i ≡ Some o → slice_get hands i ≡ Some hand
      → IsHandOf (drop (server_of s log).builds s.builder) o.builder hand

-- what is around each server
abbrev pub around_in : List Outside → List Hand → List Around
around_in [] hands = []
around_in (o ∷ os) [] = []
around_in (o ∷ os) (h ∷ hs) = record { outside = o; hand = h } ∷ around_in os hs

-- ---- events that memory ran out in

-- the server whose report a call is, if it is one
abbrev pub reporter : Ask → Option Addr
reporter (Assign t) = None
reporter (Report server life told) = Some server

-- the call of that number is a report of the server at the address
abbrev pub IsReportOf : Setup → List Entry → ℕ → Addr → Type 0
IsReportOf setup log n addr = (call : Pending) × IsCallOf setup log n call × (reporter call.ask ≡ Some addr)

-- the call that is to be settled is one
abbrev pub SettlesReport : Setup → List Entry → Option (ℕ × Option (List ℕ)) → Addr → Type 0
SettlesReport setup log None addr = ⊥
SettlesReport setup log (Some p) addr = IsReportOf setup log p.0 addr

-- an event reaches for the server at the address: it restarts it, or is to settle a report of it
abbrev pub ReachesFor : Setup → List Entry → EventKind → Addr → Type 0
ReachesFor setup log k addr = (reached k None ≡ Some addr) ⊎ SettlesReport setup log (settles_by log k) addr

-- What is around the server at the address may have changed, as an event leaves it, and nothing around others: the
-- count of its folder has not fallen, each file outside of the directory of its archives is as it was, and its
-- builder's record, whoever made that, is the old one or has one row more.
pub record IsCutAt (setup : Setup) (addr : Addr) (old new : List Around) : Type 0 where
  pub place : ℕ
  pub server : SiteServer
  pub there : slice_get setup.servers place ≡ Some server
  pub at : server.addr ≡ addr
  pub was : Around
  pub is : Around
  pub before : slice_get old place ≡ Some was
  pub left : new ≡ set old place is
  pub leaves : LeavesAround was is

-- nothing changed, or what is around a server alone, at an address and so as passes
abbrev pub IsCutFor : (Addr → Around → Around → Type 0) → Setup → List Around → List Around → Type 0
IsCutFor Passes setup old new = (new ≡ old)
    ⊎ ((addr : Addr) × (cut : IsCutAt setup addr old new) × Passes addr cut.was cut.is)

-- What an opening leaves in which memory ran out: files were removed at most, and no builder was called. Of
-- other events no more is said here.
abbrev pub LeavesOpened : EventKind → Around → Around → Type 0
LeavesOpened (Restart server key nonce) was is = OnlyClears was.outside.folder is.outside.folder
    × (is.outside.builder ≡ was.outside.builder) × (is.hand ≡ was.hand)
LeavesOpened other was is = Unit {0}

-- What an event leaves around the servers in which memory ran out: what was there, but at the one server that it
-- reaches for.
abbrev pub IsCutOff : Setup → List Entry → EventKind → List Around → List Around → Type 0
IsCutOff setup log k old new =
    IsCutFor (λ addr was is. ReachesFor setup log k addr × LeavesOpened k was is) setup old new

-- What is handed back where memory ran out in an event: the folder and the builder of each server, as that event
-- left them of what was there before it. Before it the lists were in step, and the builders had their lines left.
pub record AreHandedBack (setup : Setup) (log : List Entry) (k : EventKind) (before : List Outside)
    (hands : List Hand) (folders : List Held) (Given : List Hand → Type 0) : Type 0 where
  pub step : AreInStep setup log before
  pub had : AreHands setup log before hands
  pub left : List Around
  pub cut : IsCutOff setup log k (around_in before hands) left
  pub folders_are : folders ≡ folders_in (map (λ a. a.outside) left)
  pub given : Given (map (λ a. a.hand) left)

-- A farm with room to hand all back; where it made its folders and builders itself, its entries are those of
-- a run in calm weather.
pub record IsWhole (setup : Setup) (core : Core) (entries : List Entry) (ps : List (Option Pending))
    (sts : List Station) (room : ℕ) : Type 0 where
  pub farm : IsFarm setup core entries ps sts
  pub room_is : length setup.servers ≤ room
  pub calmly : AreOwn (map outside_of sts) → IsRun calm setup entries
