-- Which registrations stand, and when each was last heard of, asked of the whole log.
use Rattle.std.specs.Prelude.{ℕ, List, [], ◌∷◌, ◌++◌, length, map, filter, Bool, true, false, not, ◌&&◌, ◌||◌}
use Rattle.std.specs.Prelude.{◌==◌, Option, Some, None, if◌then◌else◌}
use Rattle.std.specs.List.{list_any, filter_map}
use Rattle.dist_types.specs.declared.addr.Addr.{Addr}
use Rattle.dist_types.specs.declared.ids.JobId.{JobId}
use Rattle.core_rules.specs.Cuts.{Cut, cuts, lasting}
use Rattle.core_rules.specs.declared.entry.CoreEntry.{CoreEntry}
use Rattle.core_rules.specs.declared.entry.CoreKind.{CoreKind}
use Rattle.core_rules.specs.declared.entry.CoreKind.TheVariants.{Beat, Reserve, Update, Status, Drain}
use Rattle.core_rules.specs.declared.entry.Reserved.TheVariants.{Job}
use Rattle.core_rules.specs.declared.entry.UpdateAnswer.{UpdateAnswer}
use Rattle.core_rules.specs.declared.entry.UpdateAnswer.TheVariants.{Accepted, Transition}
use Rattle.dist_types.specs.Addr.{same_addr}
use Rattle.core_rules.specs.Log.{same_job, names, is_this, latest, newest}

-- a registration: the number of a heartbeat that says new, what it says, the entries up to it and those after
-- it
pub record Registered : Type 0 where
  pub reg : ℕ
  pub now : ℕ
  pub server : Addr
  pub nonce : ℕ
  pub cpus : ℕ
  pub key : List ℕ
  pub earlier : List CoreEntry
  pub later : List CoreEntry

-- the registration that an entry makes between the entries before and after it, if it makes one
abbrev pub registered_by : CoreKind → ℕ → List CoreEntry → CoreEntry → List CoreEntry → Option Registered
registered_by (Beat server nonce cpus key pruned reaped replaced is_new) now before at later =
    if is_new then Some (record {
      reg = length before;
      now = now;
      server = server;
      nonce = nonce;
      cpus = cpus;
      key = key;
      earlier = before ++ at ∷ [];
      later = later;
    }) else None
registered_by other now before at later = None

-- the registration that the entry at the cut makes, if it makes one
abbrev pub registered_at : Cut CoreEntry → Option Registered
registered_at c = registered_by c.at.kind c.at.now c.before c.at c.after

-- every registration that was ever made, by rising number
abbrev pub registrations : List CoreEntry → List Registered
registrations log = filter_map registered_at (cuts log)

-- whether an entry names the registration as pruned or replaced
abbrev pub ends_by : CoreKind → ℕ → Bool
ends_by (Beat server nonce cpus key pruned reaped replaced is_new) reg = names pruned reg
    || is_this replaced reg
ends_by (Status pruned servers cpus jobs) reg = names pruned reg
ends_by other reg = false

-- whether one of the entries does
abbrev pub ended : List CoreEntry → ℕ → Bool
ended entries reg = list_any (λ e. ends_by e.kind reg) entries

-- it stands while no later entry names it as pruned or replaced
abbrev pub stands : Registered → Bool
stands g = not (ended g.later g.reg)

-- every registration that stands, by rising number
abbrev pub standing : List CoreEntry → List Registered
standing log = lasting registered_at stands log

-- whether an entry is a heartbeat at the address that says old
abbrev pub renews_by : CoreKind → Addr → Bool
renews_by (Beat server nonce cpus key pruned reaped replaced is_new) other = not is_new
    && same_addr other server
renews_by kind other = false

-- whether an entry reserves the job at the registration
abbrev pub reserves_by : CoreKind → JobId → ℕ → Bool
reserves_by (Reserve (Job job reg forgiven)) j r = same_job job j && (reg == r)
reserves_by kind j r = false

-- whether an entry reserves the job
abbrev pub reserves_job : CoreKind → JobId → Bool
reserves_job (Reserve (Job job reg forgiven)) j = same_job job j
reserves_job kind j = false

-- an update counts as a sign where it was accepted, or refused for its transition alone
abbrev pub is_heard : UpdateAnswer → Bool
is_heard Accepted = true
is_heard (Transition state) = true
is_heard answer = false

-- whether an entry is such an update of a job that the log before it reserves at the registration
abbrev pub serves : List CoreEntry → CoreKind → ℕ → Bool
serves log (Update server job state answer) reg = is_heard answer
    && list_any (λ d. reserves_by d.kind job reg) log
serves log kind reg = false

-- a sign of a registration with those entries up to it, among the entries after it: a heartbeat at its
-- address that says old while it stands, or such an update
abbrev pub is_sign : Addr → ℕ → List CoreEntry → Cut CoreEntry → Bool
is_sign server reg earlier c = (renews_by c.at.kind server && not (ended c.before reg))
    || serves (earlier ++ c.before) c.at.kind reg

-- the moment of its last sign, or of its own heartbeat where there is none
abbrev pub last_sign : Registered → ℕ
last_sign g = latest g.now (map (λ c. c.at.now) (filter (is_sign g.server g.reg g.earlier) (cuts g.later)))

-- what a drain entry that names the registration says: whether it drains from now on
abbrev pub drains_by : CoreKind → ℕ → Option Bool
drains_by (Drain server nonce on named) reg = if is_this named reg then Some on else None
drains_by other reg = None

-- it is draining where the last of those among some entries says on
abbrev pub drained_in : List CoreEntry → ℕ → Bool
drained_in entries reg = latest false (filter_map (λ e. drains_by e.kind reg) entries)

-- a registration is draining where the last drain entry that names it says on
abbrev pub is_draining : Registered → Bool
is_draining g = drained_in g.later g.reg

-- the address of the registration of that number, if one was ever made
abbrev pub address_of : List CoreEntry → ℕ → Option Addr
address_of log reg = newest None (map (λ g. g.server) (lasting registered_at (λ g. g.reg == reg) log))

-- the key that the heartbeat of the registration of that number carried, if one was ever made
abbrev pub key_at : List CoreEntry → ℕ → Option (List ℕ)
key_at log reg = newest None (map (λ g. g.key) (lasting registered_at (λ g. g.reg == reg) log))
