-- A dialer in memory, behind which a far cache answers by the route of a mirror.
use Rattle.std.specs.Prelude.{◌≡◌, ◌⊎◌, ℕ, List, [], ◌++◌, option_to_list, Option, Some, None}
use Rattle.std.specs.Prelude.{Result, Ok, Err}
use Rattle.dist_types.specs.Cause.{counted}
use Rattle.dist_types.specs.declared.dialer.AskFault.{AskFault}
use Rattle.dist_types.specs.declared.dialer.AskFault.TheVariants.{Failed, Memory as OutOfMemory}
use Rattle.dist_types.specs.declared.fault.Memory as want
use Rattle.folders.specs.Held.{Held}
use Rattle.http_head.specs.Head.{IsRequest, IsNoRequest}
use Rattle.http_head.specs.declared.request.Request.{Request}
use Rattle.http_routes.specs.Reply.{reply_text}
use Rattle.http_routes.specs.declared.reply.Response.{Response}
use Rattle.http_routes.specs.declared.reply.Response.TheVariants.{Binary, NotFound}
use Rattle.toolchain_cache.specs.Archives.{ArchiveStore}
use Rattle.mirror.specs.Asking.{Ask}
use Rattle.mirror.specs.Caches.{Cache, told_of}
use Rattle.mirror.specs.Routing.{Routes}
use Rattle.mirror.specs.declared.far.Wait.{Wait}
use Rattle.mirror.specs.declared.far.Wait.TheVariants.{Lose, Lie}

-- the far cache, what waits for asks to come, the earliest first, and how often asks failed
pub record FarParts (C : Type 0) : Type 0 where
  pub cache : C
  pub waiting : List Wait
  pub faults : ℕ

-- the same with what the folder tells
abbrev pub Far : Type 0
Far = FarParts Cache

abbrev pub far_of : {G : Type 0} → (G → Held) → FarParts (ArchiveStore G) → Far
far_of held d = record { cache = told_of held d.cache; waiting = d.waiting; faults = d.faults }

-- a reply is sent, unless memory runs out
abbrev pub Sends : List ℕ → Result (List ℕ) AskFault → Type 0
Sends reply heard = (heard ≡ Ok reply) ⊎ (heard ≡ Err OutOfMemory)

-- what the route answers is sent
abbrev pub SendsAnswer : Result Response want.Memory → Result (List ℕ) AskFault → Type 0
SendsAnswer (Ok response) heard = Sends (reply_text response) heard
SendsAnswer (Err memory) heard = heard ≡ Err OutOfMemory

-- the bytes are a request, and the route answers it over the far cache
pub record Serves (request : List ℕ) (old new : Cache) (heard : Result (List ℕ) AskFault) : Type 0 where
  pub asked : Request
  pub is : IsRequest request asked
  pub answer : Result Response want.Memory
  pub routes : Routes asked answer old new
  pub sends : SendsAnswer answer heard

-- nothing waits: the route answers, or 404 where the bytes are no request; or memory does not suffice to read
-- them
abbrev pub ServesOrNot : List ℕ → Cache → Cache → Result (List ℕ) AskFault → Type 0
ServesOrNot request old new heard = Serves request old new heard
    ⊎ (IsNoRequest request × (new ≡ old) × Sends (reply_text NotFound) heard)
    ⊎ ((heard ≡ Err OutOfMemory) × (new ≡ old))

-- by what waited: the ask fails, and is counted; or a reply of 200 comes in place of the far cache's
abbrev pub Strikes : Wait → ℕ → ℕ → Result (List ℕ) AskFault → Type 0
Strikes Lose before after heard = (heard ≡ Err Failed) × (after ≡ counted before)
Strikes (Lie bytes) before after heard = Sends (reply_text (Binary bytes)) heard × (after ≡ before)

-- by what waits for this ask: that, or nothing
abbrev pub AfterWait : Option Wait → List ℕ → Far → Far → Result (List ℕ) AskFault → Type 0
AfterWait (Some wait) request old new heard =
    Strikes wait old.faults new.faults heard × (new.cache ≡ old.cache)
AfterWait None request old new heard =
    ServesOrNot request old.cache new.cache heard × (old.waiting ≡ []) × (new.faults ≡ old.faults)

-- the far side was asked once: the earliest of what waits is used up
pub record AsksFar (request : List ℕ) (old new : Far) (heard : Result (List ℕ) AskFault) : Type 0 where
  pub due : Option Wait
  pub waits : old.waiting ≡ option_to_list due ++ new.waiting
  pub follows : AfterWait due request old new heard

-- the same, or memory did not suffice to write the request
abbrev pub AsksFarOrNot : List ℕ → Far → Far → Result (List ℕ) AskFault → Type 0
AsksFarOrNot request old new heard = AsksFar request old new heard ⊎ ((heard ≡ Err OutOfMemory) × (new ≡ old))

-- the same of a dialer over a folder, whatever the host and the port
abbrev pub FarAsks : {G : Type 0} → (G → Held) → Ask (FarParts (ArchiveStore G))
FarAsks held old host port request new heard = AsksFar request (far_of held old) (far_of held new) heard
