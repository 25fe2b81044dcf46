-- What the stations of a farm's build servers hold.
use Rattle.std.specs.Prelude.{◌≡◌, ℕ, List, [], ◌∷◌, length, map, drop, slice_get, set, true, false, is_some}
use Rattle.std.specs.Prelude.{Option, Some, None}
use Rattle.std.specs.Prelude.{codes, Ok}
use Rattle.toolchain_cache.specs.Archives.{Archives, IsInStep}
use Rattle.farm_script.specs.Setups.{AreApart}
use Rattle.farm_entries.specs.declared.site.Site.{Site as Setup}
use Rattle.farm_entries.specs.declared.site.SiteServer.{SiteServer as SetupServer}
use Rattle.farm_entries.specs.declared.entry.Entry.{Entry}
use Rattle.farm_entries.specs.declared.entry.Step.{Step}
use Rattle.farm_entries.specs.declared.entry.Effect.{Effect}
use Rattle.farm_entries.specs.Passage.{Leaves, LeavesOutside}
use Rattle.farm_stations.specs.Hands.{IsHandOf}
use Rattle.farm_stations.specs.Post.{Post as Station, outside_of}
use Rattle.farm_entries.specs.Servers.{ServerNow, listed_in, restarted, stepped, server_of}
use Rattle.farm_entries.specs.Served.{build_answer}
use Rattle.farm_entries.specs.Weather.{Opens, weather_of, opened_effect, IsOrdered, order_of}
use Rattle.build_server.specs.Builds.{Builder, outcome_by}
use Rattle.build_server.specs.declared.run.Outcome.{Outcome}
use Rattle.build_server.specs.declared.run.Taken.{Taken}
use Rattle.dist_wire.specs.declared.run.RunJobHttpRequest.{RunJobHttpRequest}

-- the server that a station is
abbrev pub now_of : SetupServer → Station → ServerNow
now_of s st = record {
  setup = s;
  life = st.life;
  key = st.authorizer;
  nonce = st.nonce;
  running = st.running;
  held = st.state.held;
  archives = st.state.archives;
  builds = st.builds;
}

-- the server as it was set up, in its first life, with what its opening found and a builder that was asked for
-- nothing
abbrev pub begun_again : ServerNow → Option Archives → ServerNow
begun_again now found = record {
  setup = now.setup;
  life = 0;
  key = now.setup.key;
  nonce = now.setup.nonce;
  running = is_some found;
  held = [];
  archives = listed_in found;
  builds = 0;
}

-- A cache that is open: it has the server's capacity, in one place of its folder, and lists what the folder
-- holds, unless the folder failed since the opening began. A folder of the farm's own never fails.
pub record IsOpen (s : SetupServer) (st : Station) : Type 0 where
  pub capacity : st.state.capacity ≡ s.capacity
  pub path : st.state.path ≡ codes "tc"
  pub step : st.failed ≡ false → IsInStep st.state.path st.state.folder st.state.archives
  pub own : st.builder ≡ None → st.failed ≡ false

-- a station of a server: where it runs its cache is open, and the builder that it asks was handed in, or has
-- the lines left that are not built
abbrev pub IsWell : SetupServer → Station → Type 0
IsWell s st = (st.running ≡ true → IsOpen s st) × IsHandOf (drop st.builds s.builder) st.builder st.hand

-- a build of what was taken out by a builder of the farm's own, which answers by its lines, or by one that
-- was handed in
abbrev pub BuildsBy : SetupServer → ℕ → Option Builder → Option Builder → Taken → RunJobHttpRequest → List ℕ
    → Outcome → Type 0
BuildsBy s n None new t run inputs o = (new ≡ None)
    × (outcome_by t (build_answer (slice_get s.builder n) run.outputs inputs) ≡ Ok o)
BuildsBy s n (Some old) new t run inputs o = IsOrdered (Some old) new t (order_of run inputs) o

-- a station is the server after those entries
pub record IsStation (s : SetupServer) (log : List Entry) (st : Station) : Type 0 where
  pub now : now_of s st ≡ server_of s log
  pub well : IsWell s st

-- a station for each server, in the order of the setup
pub record AreStations (servers : List SetupServer) (log : List Entry) (sts : List Station) : Type 0 where
  pub size : length sts ≡ length servers
  pub each : (i : ℕ) (s : SetupServer) (st : Station) → slice_get servers i ≡ Some s
      → slice_get sts i ≡ Some st → IsStation s log st

-- each station of a server is well
abbrev pub AreWell : List SetupServer → List Station → Type 0
AreWell servers sts = (i : ℕ) (s : SetupServer) (st : Station) → slice_get servers i ≡ Some s
    → slice_get sts i ≡ Some st → IsWell s st

-- the station of a server, at its place, did that step, and no other station did anything
pub record IsStepAt (s : SetupServer) (place : ℕ) (st : Station) (step : Option Step)
    (old new : List Station) : Type 0 where
  pub after : Station
  pub is : new ≡ set old place after
  pub now : now_of s after ≡ stepped step (now_of s st)
  pub well : IsWell s after
  pub outside : LeavesOutside step (outside_of st) (outside_of after)

-- A server starts again with that key and nonce, by an opening that comes to what is found in the weather
-- that is outside of it.
pub record IsRestartedSo (s : SetupServer) (st after : Station) (key : List ℕ) (nonce : ℕ)
    (x : Effect) : Type 0 where
  pub found : Option Archives
  pub opens : Opens (weather_of (outside_of st) (outside_of after)) (now_of s st) found
  pub effect : x ≡ opened_effect (now_of s st) found
  pub now : now_of s after ≡ stepped x.step (restarted (Some (key, nonce)) (now_of s st))
  pub well : IsWell s after
  pub leaves : Leaves (outside_of st) (outside_of after)

-- the same at a place; no other station did anything
pub record IsRestartAt (s : SetupServer) (place : ℕ) (st : Station) (key : List ℕ) (nonce : ℕ) (x : Effect)
    (old new : List Station) : Type 0 where
  pub after : Station
  pub is : new ≡ set old place after
  pub so : IsRestartedSo s st after key nonce x

-- the addresses of the scheduler and of its servers differ
abbrev pub HasApart : Setup → Type 0
HasApart setup = AreApart (setup.scheduler.addr ∷ map (λ s. s.addr) setup.servers)
