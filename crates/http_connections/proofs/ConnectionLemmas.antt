-- The halves of a connection, put together.
use Rattle.std.proofs.Common.{◌≡◌, ℕ, List, Option, Some, None, Ok, Err, refl, subst, inr, ap, sym, ◌∙◌}
use Rattle.std.specs.Prelude.{IfSome}
use Rattle.dist_types.specs.Cause.{Rose}
use Rattle.dist_types.specs.Content.{Added, Began}
use Rattle.dist_types.specs.declared.fault.Memory as want
use Rattle.http_head.specs.declared.request.Request.{Request}
use Rattle.http_routes.specs.Reply.{reply_text}
use Rattle.http_routes.specs.declared.reply.Response.{Response}
use Rattle.http_connections.specs.Served.{Shown, MadeReply, Serves, IsServedBy}
use Rattle.http_connections.specs.Taking.{TakesCut, TakesOrDrops, IsTakenAs}
use Rattle.http_connections.specs.declared.served.Served.{Served}
use Rattle.http_connections.specs.declared.served.Served.TheVariants.{Answered, ReadFault, WriteFault, Memory}

-- what sending a reply does
pub record Sends (reply : Response) (served : Served) (held now : Option (List ℕ))
    (writes risen : ℕ) : Type 0 where
  pub answered : served ≡ Answered → Added (reply_text reply) held now
  pub failed : served ≡ WriteFault → Rose writes risen × Began (reply_text reply) held now
  pub memory : served ≡ Memory → now ≡ held
  pub steady : ¬ (served ≡ WriteFault) → risen ≡ writes
  pub no_read : ¬ (served ≡ ReadFault)

sends : {A : Type 0} (replies : Option Request → A → A → MadeReply → Type 0) (old new : Shown)
    (before after : A) (request : Option Request) (reply : Response) (served : Served)
    → IfSome old.left (λ bytes. TakesCut bytes new.left request) → replies request before after (Ok reply)
    → Sends reply served old.held new.held old.writes new.writes → Serves replies old new before after served
sends replies old new before after request reply Answered took did s =
    (request, reply, took, did, s.answered refl)
sends replies old new before after request reply WriteFault took did s =
    ((s.failed refl).0, request, reply, took, did, (s.failed refl).1)
sends replies old new before after request reply ReadFault took did s = absurd (s.no_read refl)
sends replies old new before after request reply Memory took did s =
    (s.memory refl, inr (request, Ok reply, took, did))

-- after the taking, which wrote nothing, and the sending, which read nothing
pub sent : {A : Type 0} (replies : Option Request → A → A → MadeReply → Type 0) (before after : A)
    (request : Option Request) (reply : Response) (served : Served)
    (first mid last held wrote now : Option (List ℕ)) (reads taken risen writes counted after_writes : ℕ)
    → IfSome first (λ bytes. TakesCut bytes mid request) → taken ≡ reads
    → mid ≡ last → taken ≡ risen → wrote ≡ held → counted ≡ writes
    → replies request before after (Ok reply)
    → Sends reply served wrote now counted after_writes
    → IsServedBy replies (record { left = first; held = held; reads = reads; writes = writes })
    (record { left = last; held = now; reads = risen; writes = after_writes }) before after served
sent replies before after request reply served first mid last held wrote now reads taken risen writes counted
    after_writes took unfailed same as_many kept steady did s =
    record {
      serves = sends replies _ _ before after request reply served
          (subst (λ o. IfSome first (λ bytes. TakesCut bytes o request)) same took)
          did
          (subst (λ n. Sends reply served held now n after_writes) steady
          (subst (λ o. Sends reply served o now counted after_writes) kept s));
      reads = λ unread. sym as_many ∙ unfailed;
      writes = λ unfailed. s.steady unfailed ∙ steady;
    }

-- ---- a request whose body may have been dropped

-- the request that was taken whole, and the reply to it, where it is replied to as it was taken
pub record Whole {A : Type 0} (replies : Option Request → A → A → MadeReply → Type 0)
    (first mid : Option (List ℕ)) (before after : A) (made : MadeReply) : Type 0 where
  pub request : Option Request
  pub took : IfSome first (λ bytes. TakesCut bytes mid request)
  pub did : replies request before after made

-- what is replied to a request as it was taken is replied to it as a whole
abbrev pub AsWhole : {A : Type 0} → (Request → Type 0) → (Option Request → A → A → MadeReply → Type 0) → A → A
    → MadeReply → Type 0
AsWhole settled replies before after made = (whole taken : Request) → IsTakenAs settled whole taken
    → replies (Some taken) before after made
    → replies (Some whole) before after made

whole_of : {A : Type 0} (replies : Option Request → A → A → MadeReply → Type 0) (settled : Request → Type 0)
    (first mid : Option (List ℕ)) (request : Option Request) (before after : A) (made : MadeReply)
    → IfSome first (λ bytes. TakesOrDrops settled bytes mid request)
    → AsWhole settled replies before after made
    → replies request before after made
    → Whole replies first mid before after made
whole_of replies settled None mid request before after made took law did =
    record { request = request; took = tt; did = did }
whole_of replies settled (Some bytes) mid None before after made took law did =
    record { request = None; took = took; did = did }
whole_of replies settled (Some bytes) mid (Some taken) before after made (whole, took, taken_as) law did =
    record { request = Some whole; took = took; did = law whole taken taken_as did }

-- after the taking, which wrote nothing, and the sending, which read nothing
pub sent_by : {A : Type 0} (replies : Option Request → A → A → MadeReply → Type 0) (settled : Request → Type 0)
    (before after : A) (request : Option Request) (reply : Response) (served : Served)
    (first mid last held wrote now : Option (List ℕ)) (reads taken risen writes counted after_writes : ℕ)
    → IfSome first (λ bytes. TakesOrDrops settled bytes mid request) → taken ≡ reads
    → mid ≡ last → taken ≡ risen → wrote ≡ held → counted ≡ writes
    → AsWhole settled replies before after (Ok reply)
    → replies request before after (Ok reply)
    → Sends reply served wrote now counted after_writes
    → IsServedBy replies (record { left = first; held = held; reads = reads; writes = writes })
    (record { left = last; held = now; reads = risen; writes = after_writes }) before after served
sent_by replies settled before after request reply served first mid last held wrote now reads taken risen
    writes counted after_writes took unfailed same as_many kept steady law did s =
    let w = whole_of replies settled first mid request before after (Ok reply) took law did in
    sent replies before after w.request reply served first mid last held wrote now reads taken risen writes counted
    after_writes w.took unfailed same as_many kept steady w.did s

-- after the taking, where memory ran out before a reply was made
pub unsent : {A : Type 0} (replies : Option Request → A → A → MadeReply → Type 0) (settled : Request → Type 0)
    (before after : A) (request : Option Request) (e : want.Memory)
    (first mid held now : Option (List ℕ)) (reads risen writes after_writes : ℕ)
    → IfSome first (λ bytes. TakesOrDrops settled bytes mid request) → risen ≡ reads
    → (now ≡ held) × (after_writes ≡ writes)
    → AsWhole settled replies before after (Err e)
    → replies request before after (Err e)
    → IsServedBy replies (record { left = first; held = held; reads = reads; writes = writes })
    (record { left = mid; held = now; reads = risen; writes = after_writes }) before after Memory
unsent replies settled before after request e first mid held now reads risen writes after_writes took same kept
    law did =
    let w = whole_of replies settled first mid request before after (Err e) took law did in
    record {
      serves = (kept.0, inr (w.request, Err e, w.took, w.did));
      reads = λ unread. same;
      writes = λ unfailed. kept.1;
    }
