-- The build servers of a farm, as its entries tell.
use Rattle.std.specs.Prelude.{ℕ, List, [], Bool, true, false, not, ◌==◌, if◌then◌else◌, fold, find, is_some}
use Rattle.std.specs.Prelude.{Option, Some, None}
use Rattle.std.specs.Option.{option_map}
use Rattle.dist_types.specs.Addr.{same_addr}
use Rattle.dist_types.specs.Cause.{counted}
use Rattle.dist_types.specs.declared.addr.Addr.{Addr}
use Rattle.toolchain_cache.specs.Archives.{Archives}
use Rattle.listed_files.specs.Entries.{promoted_key}
use Rattle.build_server.specs.Books.{Table, held_for, placed, without_job}
use Rattle.build_server.specs.Rules.{archives_after_submit}
use Rattle.build_server.specs.declared.run.Ran.{Ran}
use Rattle.build_server.specs.declared.run.Ran.TheVariants as ran
use Rattle.farm_entries.specs.declared.site.Site.{Site as Setup}
use Rattle.farm_entries.specs.declared.site.SiteServer.{SiteServer as SetupServer}
use Rattle.farm_script.specs.declared.event.EventKind.{EventKind}
use Rattle.farm_script.specs.declared.event.EventKind.TheVariants.{Request, Deliver, Fail, Return, Answer}
use Rattle.farm_script.specs.declared.event.EventKind.TheVariants.{Beat, Restart}
use Rattle.farm_entries.specs.declared.entry.Entry.{Entry}
use Rattle.farm_entries.specs.declared.entry.Step.{Step}
use Rattle.farm_entries.specs.declared.entry.StepKind.{StepKind}
use Rattle.farm_entries.specs.declared.entry.StepKind.TheVariants as step

-- A build server at a moment: how it was set up, the number of its life with the key and the nonce of that
-- life, whether it runs, the jobs that it holds by rising id, its archives, least recent first, and how many
-- builds its builder was asked for.
pub record ServerNow : Type 0 where
  pub setup : SetupServer
  pub life : ℕ
  pub key : List ℕ
  pub nonce : ℕ
  pub running : Bool
  pub held : Table
  pub archives : Archives
  pub builds : ℕ

-- the archives that an opening listed, if it listed any
abbrev pub listed_in : Option Archives → Archives
listed_in None = []
listed_in (Some archives) = archives

-- as it was set up: its first life, with nothing held, and the archives that its opening listed; where that
-- failed it does not run
abbrev pub server_begun : SetupServer → ServerNow
server_begun s = record {
  setup = s;
  life = 0;
  key = s.key;
  nonce = s.nonce;
  running = is_some s.found;
  held = [];
  archives = listed_in s.found;
  builds = 0;
}

-- the key and the nonce with which an event restarts the server at an address
abbrev pub restart_by : Addr → EventKind → Option (List ℕ × ℕ)
restart_by addr (Request target peer bytes) = None
restart_by addr (Deliver call) = None
restart_by addr (Fail call) = None
restart_by addr (Return delivery) = None
restart_by addr (Answer call bytes) = None
restart_by addr (Beat server) = None
restart_by addr (Restart server key nonce) = if same_addr server addr then Some (key, nonce) else None

-- a restart ends a life, and begins one with that key and nonce; nothing is held, and the server does not run
-- and has no archive until its cache was opened
abbrev pub restarted : Option (List ℕ × ℕ) → ServerNow → ServerNow
restarted None s = s
restarted (Some p) s = record {
  setup = s.setup;
  life = counted s.life;
  key = p.0;
  nonce = p.1;
  running = false;
  held = [];
  archives = [];
  builds = s.builds;
}

-- the archives behind a run: the one that was looked up is the most recent
abbrev pub archives_after_run : Ran → Archives → Archives
archives_after_run (ran.Built tc) archives = promoted_key tc archives
archives_after_run (ran.Refused tc) archives = promoted_key tc archives
archives_after_run (ran.Folder tc) archives = promoted_key tc archives
archives_after_run (ran.Unlisted tc) archives = archives
archives_after_run ran.None archives = archives

-- the number of builds behind a run: one more where the builder was asked
abbrev pub builds_after_run : Ran → ℕ → ℕ
builds_after_run (ran.Built tc) builds = counted builds
builds_after_run (ran.Refused tc) builds = counted builds
builds_after_run (ran.Folder tc) builds = builds
builds_after_run (ran.Unlisted tc) builds = builds
builds_after_run ran.None builds = builds

-- What a step of the server leaves: an assigned job is held until it is run; a stored archive is the most
-- recent, and the dropped ones are gone; an opening lists its archives, and the server runs.
abbrev pub kind_after : StepKind → ServerNow → ServerNow
kind_after (step.Heard as_what) s = s
kind_after (step.Assigned job tc ready) s = record s { held = placed job tc s.held }
kind_after (step.Submitted job outcome) s =
    record s { archives = archives_after_submit (held_for job s.held) outcome s.archives }
kind_after (step.Ran job ran result) s =
    record {
      setup = s.setup;
      life = s.life;
      key = s.key;
      nonce = s.nonce;
      running = s.running;
      held = without_job job s.held;
      archives = archives_after_run ran s.archives;
      builds = builds_after_run ran s.builds;
    }
kind_after (step.Finished job) s = s
kind_after (step.Unreported job) s = s
kind_after (step.Opened archives) s = record {
  setup = s.setup;
  life = s.life;
  key = s.key;
  nonce = s.nonce;
  running = true;
  held = s.held;
  archives = archives;
  builds = s.builds;
}

-- what an entry's step leaves, where it is the server's
abbrev pub stepped : Option Step → ServerNow → ServerNow
stepped None s = s
stepped (Some step) s = if same_addr step.server s.setup.addr then kind_after step.kind s else s

-- what an entry leaves of a server: its event may restart it, and then comes its step
abbrev pub server_after : ServerNow → Entry → ServerNow
server_after s e = stepped e.step (restarted (restart_by s.setup.addr e.event.kind) s)

-- a server after some entries
abbrev pub server_of : SetupServer → List Entry → ServerNow
server_of s log = fold server_after (server_begun s) log

-- the server of the farm at an address
abbrev pub server_at : Setup → Addr → Option SetupServer
server_at setup addr = find (λ s. same_addr s.addr addr) setup.servers

-- the same after some entries
abbrev pub server_now : Setup → List Entry → Addr → Option ServerNow
server_now setup log addr = option_map (λ s. server_of s log) (server_at setup addr)

-- whether that life is over
abbrev pub is_over : ℕ → ServerNow → Bool
is_over life s = not (s.life == life)
