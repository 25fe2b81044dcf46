-- The grammar of lines: which bytes spell which value.
use Rattle.std.specs.Prelude.{◌≡◌, ℕ, ◌^◌, ◌<◌, ◌⊎◌, Bool, true, false, List, [], ◌++◌, codes}
use Rattle.std.specs.Fmt.{decimal}
use Rattle.dist_types.specs.Ids.{state_text}
use Rattle.dist_types.specs.declared.addr.Addr.{Addr}
use Rattle.dist_types.specs.declared.results.JobState.{JobState}
use Rattle.line_program.specs.Texts.{◌⧺◌}
use Rattle.farm_script.specs.Grammar.{IsHost, IsToken}
use Rattle.farm_script.specs.declared.lines.Scopes.{Scopes}
use Rattle.quota_script.specs.declared.event.EventKind.{EventKind}
use Rattle.quota_script.specs.declared.event.EventKind.TheVariants.{Alloc, Commit, Undo, Beat, Update, Status}
use Rattle.quota_script.specs.declared.event.Event.{Event}
use Rattle.quota_script.specs.declared.line.Line.{Line}
use Rattle.quota_script.specs.declared.line.Line.TheVariants as lines

-- the name of the state that a job begins in
abbrev pub ready_text : Bool → List ℕ
ready_text true = codes "ready"
ready_text false = codes "pending"

-- alloc TOKEN
pub record IsAlloc (t client : List ℕ) : Type 0 where
  pub token : List ℕ
  pub is_client : IsToken token client
  pub spelled : t ≡ codes "alloc " ⧺ token

-- commit N and the state that the job begins in
pub record IsCommit (t : List ℕ) (job : ℕ) (is_ready : Bool) : Type 0 where
  pub fits : job < 2 ^ 64
  pub spelled : t ≡ codes "commit " ⧺ decimal job ⧺ codes " " ⧺ ready_text is_ready

-- undo N
pub record IsUndo (t : List ℕ) (job : ℕ) : Type 0 where
  pub fits : job < 2 ^ 64
  pub spelled : t ≡ codes "undo " ⧺ decimal job

-- beat ADDR nonce N cpus N
pub record IsBeat (scopes : Scopes) (t : List ℕ) (addr : Addr) (nonce cpus : ℕ) : Type 0 where
  pub server : List ℕ
  pub is_server : IsHost scopes server addr
  pub nonce_fits : nonce < 2 ^ 64
  pub cpus_fit : cpus < 2 ^ 64
  pub spelled : t ≡ codes "beat " ⧺ server ⧺ codes " nonce " ⧺ decimal nonce ⧺ codes " cpus " ⧺ decimal cpus

-- update ADDR N and the name of a state
pub record IsUpdate (scopes : Scopes) (t : List ℕ) (addr : Addr) (job : ℕ) (state : JobState) : Type 0 where
  pub server : List ℕ
  pub is_server : IsHost scopes server addr
  pub fits : job < 2 ^ 64
  pub spelled : t ≡ codes "update " ⧺ server ⧺ codes " " ⧺ decimal job ⧺ codes " " ⧺ state_text state

-- what happens
abbrev pub IsKind : Scopes → List ℕ → EventKind → Type 0
IsKind scopes t (Alloc client) = IsAlloc t client
IsKind scopes t (Commit job is_ready) = IsCommit t job is_ready
IsKind scopes t (Undo job) = IsUndo t job
IsKind scopes t (Beat server nonce cpus) = IsBeat scopes t server nonce cpus
IsKind scopes t (Update server job state) = IsUpdate scopes t server job state
IsKind scopes t Status = t ≡ codes "status"

-- a moment, and what happens at it
pub record IsEventLine (scopes : Scopes) (t : List ℕ) (e : Event) : Type 0 where
  pub kind : List ℕ
  pub at : e.at < 2 ^ 64
  pub is_kind : IsKind scopes kind e.kind
  pub spelled : t ≡ decimal e.at ⧺ codes " " ⧺ kind

-- client TOKEN limit N
pub record IsClientLine (t name : List ℕ) (limit : ℕ) : Type 0 where
  pub token : List ℕ
  pub is_name : IsToken token name
  pub fits : limit < 2 ^ 64
  pub spelled : t ≡ codes "client " ⧺ token ⧺ codes " limit " ⧺ decimal limit

-- A line is skipped, or says the number of the first job, as ids N, or a client, or what happens. Its addresses may
-- have scopes where those are taken.
abbrev pub Spells : Scopes → List ℕ → Line → Type 0
Spells scopes t lines.Skip = (t ≡ []) ⊎ ((rest : List ℕ) × (t ≡ codes "#" ++ rest))
Spells scopes t (lines.Ids base) = (base < 2 ^ 64) × (t ≡ codes "ids " ⧺ decimal base)
Spells scopes t (lines.Client name limit) = IsClientLine t name limit
Spells scopes t (lines.Event e) = IsEventLine scopes t e
