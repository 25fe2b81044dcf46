-- What is heard of a dialer's answer to a call.
use Rattle.std.specs.Prelude.{◌≡◌, ◌≢◌, ℕ, List, Option, Result, Ok, Err}
use Rattle.dist_types.specs.declared.dialer.AskFault.{AskFault}
use Rattle.dist_types.specs.declared.dialer.AskFault.TheVariants.{Failed, Memory}
use Rattle.dist_types.specs.declared.outgoing.CallFault.{CallFault}
use Rattle.dist_types.specs.declared.outgoing.CallFault.TheVariants.{Lost, Memory as OutOfMemory}
use Rattle.http_routes.specs.CallReply.{IsAnswer}

-- what is heard of a dialer's answer: what the reply says, unless memory ran out; a call that failed is lost
abbrev pub Hears : {M : Type 0} → (List ℕ → Option (M × List ℕ)) → Result (List ℕ) AskFault
    → Result M CallFault → Type 0
Hears at (Ok reply) heard = heard ≢ Err OutOfMemory → IsAnswer at reply heard
Hears at (Err Failed) heard = heard ≡ Err Lost
Hears at (Err Memory) heard = heard ≡ Err OutOfMemory
