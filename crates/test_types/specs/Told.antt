-- A state that is told over a dialer: its request, and what the reply says.
use Rattle.std.specs.Prelude.{◌≡◌, ◌≢◌, ℕ, List, [], ◌∷◌, ◌++◌, codes, bytes_eq, Option, Some, IfSome, Result}
use Rattle.std.specs.Prelude.{Ok, Err, if◌then◌else◌}
use Rattle.std.specs.Fmt.{decimal}
use Rattle.dist_types.specs.Ids.{state_text}
use Rattle.dist_types.specs.Outgoing.{Updated, Peer, Lent, Calls, updated_row}
use Rattle.dist_types.specs.declared.dialer.Asked.{Asked}
use Rattle.dist_types.specs.declared.dialer.AskFault.{AskFault}
use Rattle.dist_types.specs.declared.dialer.AskFault.TheVariants.{Failed, Memory}
use Rattle.dist_types.specs.declared.outgoing.CallFault.{CallFault}
use Rattle.dist_types.specs.declared.outgoing.CallFault.TheVariants.{Unreadable, Lost, Memory as OutOfMemory}
use Rattle.dist_types.specs.declared.results.JobState.{JobState}
use Rattle.dist_types.specs.declared.results.UpdateJobStateResult.{UpdateJobStateResult}
use Rattle.dist_types.specs.declared.results.UpdateJobStateResult.TheVariants.{Success}

-- the token, the job and its state, with a space between two
unfoldable pub update_text : List ℕ → ℕ → JobState → List ℕ
update_text token job state = token ++ (32 ∷ (decimal job ++ (32 ∷ state_text state)))

-- what a reply says
unfoldable pub answer_in : List ℕ → Result UpdateJobStateResult CallFault
answer_in reply = if bytes_eq reply (codes "ok") then Ok Success else Err Unreadable

-- what is heard of a call of the dialer
abbrev pub answer_heard : Result (List ℕ) AskFault → Result UpdateJobStateResult CallFault
answer_heard (Ok reply) = answer_in reply
answer_heard (Err Failed) = Err Lost
answer_heard (Err Memory) = Err OutOfMemory

-- the dialer's row is the call of that row: its request to the peer under the peer's token, and what the
-- reply says
pub record IsTold (peer : Peer) (row : Updated) (a : Asked) : Type 0 where
  pub host : a.host ≡ peer.host
  pub port : a.port ≡ peer.port
  pub request : a.request ≡ update_text peer.token row.job row.state
  pub answer : row.answer ≡ answer_heard a.answer

-- a call, and then another over what the first one left
abbrev pub CallsTwice : (Peer → Updated → Asked → Type 0) → ℕ → JobState → JobState
    → Result UpdateJobStateResult CallFault → Result UpdateJobStateResult CallFault → Lent → Lent → Type 0
CallsTwice says job first second a b old new =
    (between : Lent) × Calls (says old.peer) (updated_row job first) a old between
    × Calls (says between.peer) (updated_row job second) b between new

-- two rows more: the two states that were told, with the replies that the answers come from
abbrev pub ToldTwice : Peer → ℕ → JobState → JobState → Result UpdateJobStateResult CallFault
    → Result UpdateJobStateResult CallFault → Option (List Asked) → Option (List Asked) → Type 0
ToldTwice peer job first second a b old new = IfSome old (λ rows. (x : Asked) × (y : Asked)
    × (new ≡ Some (rows ++ x ∷ y ∷ [])) × IsTold peer (updated_row job first a) x
    × IsTold peer (updated_row job second b) y)
