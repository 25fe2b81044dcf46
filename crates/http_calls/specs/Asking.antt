-- What a client's calls ask over its dialer, and what they answer.
use Rattle.std.specs.Prelude.{◌≡◌, ◌⊎◌, ℕ, List, ◌++◌, codes}
use Rattle.std.specs.Prelude.{Option, Result, Ok, Err}
use Rattle.std.specs.Net.Text.{ipv6_text}
use Rattle.dist_types.specs.Addr.{v4_text}
use Rattle.dist_types.specs.Content.{Recorded}
use Rattle.dist_types.specs.Dialer.{asked_row}
use Rattle.dist_types.specs.declared.addr.Addr.{Addr}
use Rattle.dist_types.specs.declared.addr.Addr.TheVariants.{V4, V6}
use Rattle.dist_types.specs.declared.dialer.Asked.{Asked}
use Rattle.dist_types.specs.declared.dialer.AskFault.{AskFault}
use Rattle.dist_types.specs.declared.dialer.AskFault.TheVariants.{Failed, Memory as OutOfMemory}
use Rattle.http_routes.specs.CallReply.{Reads}
use Rattle.http_head.specs.declared.error.HttpError.{HttpError}
use Rattle.http_head.specs.declared.error.HttpError.TheVariants.{LinkFault, Memory}

-- the host of an address as it is dialed, eight groups in brackets
abbrev pub dialed_host : Addr → List ℕ
dialed_host (V4 octets port) = v4_text octets
dialed_host (V6 groups port) = codes "[" ++ ipv6_text groups ++ codes "]"

-- what the answer to a row is: what its reply says; LinkFault exactly where the dialer failed
abbrev pub AnswersRow : {M : Type 0} → (List ℕ → Option (M × List ℕ)) → Result (List ℕ) AskFault
    → Result M HttpError → Type 0
AnswersRow at (Ok reply) answer = Reads at reply answer
AnswersRow at (Err Failed) answer = answer ≡ Err LinkFault
AnswersRow at (Err OutOfMemory) answer = answer ≡ Err Memory

-- the record has one more row, of this request to that host, and its reply gives the answer
pub record AsksOnce {M : Type 0} (at : List ℕ → Option (M × List ℕ)) (host : List ℕ) (port : ℕ)
    (request : List ℕ) (answer : Result M HttpError) (old new : Option (List Asked)) : Type 0 where
  pub heard : Result (List ℕ) AskFault
  pub row : Recorded (asked_row host port request heard) old new
  pub answers : AnswersRow at heard answer

-- the same, or memory ran out and the record is as it was
abbrev pub Asks : {M : Type 0} → (List ℕ → Option (M × List ℕ)) → List ℕ → ℕ → List ℕ → Result M HttpError
    → Option (List Asked) → Option (List Asked) → Type 0
Asks at host port request answer old new = AsksOnce at host port request answer old new
    ⊎ ((answer ≡ Err Memory) × (new ≡ old))
