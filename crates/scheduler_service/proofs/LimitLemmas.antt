-- What a limit on a link or on a call can do to an answer.
use Rattle.std.proofs.Common.{◌≡◌, ◌≢◌, ◌⊎◌, ℕ, zero, suc, List, [], ◌∷◌, drop, length, Option, Some, Result, Ok, Err}
use Rattle.std.proofs.Common.{refl, sym, ap, ◌∙◌, subst, inl, inr}
use Rattle.std.specs.Prelude.{Bool, slice_get, ⊤}
use Rattle.dist_types.specs.Cause.{Rose}
use Rattle.dist_types.specs.declared.addr.Addr.{Addr}
use Rattle.dist_types.specs.declared.dialer.AskFault.{AskFault}
use Rattle.dist_types.specs.declared.dialer.AskFault.TheVariants as ask
use Rattle.dist_types.specs.declared.dialer.Asked.{Asked}
use Rattle.dist_types.specs.declared.outgoing.CallFault.{CallFault}
use Rattle.dist_types.specs.declared.outgoing.CallFault.TheVariants.{Lost}
use Rattle.dist_types.specs.declared.results.AssignJobResult.{AssignJobResult}
use Rattle.dist_types.specs.declared.token_error.TokenError.{TokenError}
use Rattle.dist_wire.specs.Reading.{assign_at}
use Rattle.scheduler_steps.specs.Settling.{judged}
use Rattle.http_head.specs.declared.request.Request.{Request}
use Rattle.http_routes.specs.declared.reply.Response.{Response}
use Rattle.http_routes.specs.declared.route.SchedRouted.TheVariants.{Alloc, Beat, Update, Status, Drain, Done}
use Rattle.http_connections.specs.Form.{form_of}
use Rattle.http_connections.specs.Hearing.{Hears}
use Rattle.http_connections.specs.Served.{Shown, IsServedBy}
use Rattle.http_connections.specs.declared.served.Served.{Served}
use Rattle.http_connections.specs.declared.served.Served.TheVariants.{Answered, ReadFault, WriteFault, Memory}
use Rattle.http_connections.proofs.AlikeLemmas.{some_same}
use Rattle.scheduler_service.specs.ByEntries.{IsAskedAt}
use Rattle.scheduler_service.specs.Connection.{Around, Routing, Does, IsReplied}
use Rattle.scheduler_service.specs.OneAnswer.{MeetAlike, EndAlike, IsGivenUp, HasOneAnswer}
use Rattle.scheduler_service.specs.Replied.{Means}
use Rattle.scheduler_service.proofs.OneAnswerLemmas.{one_answer, one_row}

-- ---- links

pub limited : {K : Type 0} (may_answer : K → ℕ → List ℕ → Result ⊤ TokenError → K → Type 0)
    (shown : K → TokenError → List ℕ) (serves : List ℕ → Option Addr) (peer : Addr) (bytes : List ℕ)
    (begun done begun_too done_too : Shown) (old new before after : Around K) (served served_too : Served)
    → begun.left ≡ Some bytes → begun_too.left ≡ Some bytes
    → IsServedBy (IsReplied may_answer shown serves peer) begun done old new served
    → IsServedBy (IsReplied may_answer shown serves peer) begun_too done_too before after served_too
    → served ≢ Memory → served_too ≢ Memory → MeetAlike may_answer shown old new before after
    → IsGivenUp begun done ⊎ (IsGivenUp begun_too done_too
    ⊎ EndAlike may_answer shown serves peer begun done begun_too done_too old new before after)
limited may_answer shown serves peer bytes begun done begun_too done_too old new before after Answered Answered is
    is_too a b room room_too meet =
    inr (inr (one_answer may_answer shown serves peer bytes begun done begun_too done_too old new before after
    is is_too a b meet))
limited may_answer shown serves peer bytes begun done begun_too done_too old new before after Answered ReadFault is
    is_too a b room room_too meet =
    inr (inl (inl b.serves.0))
limited may_answer shown serves peer bytes begun done begun_too done_too old new before after Answered WriteFault is
    is_too a b room room_too meet =
    inr (inl (inr b.serves.0))
limited may_answer shown serves peer bytes begun done begun_too done_too old new before after Answered Memory is
    is_too a b room room_too meet =
    absurd (room_too refl)
limited may_answer shown serves peer bytes begun done begun_too done_too old new before after ReadFault served_too is
    is_too a b room room_too meet =
    inl (inl a.serves.0)
limited may_answer shown serves peer bytes begun done begun_too done_too old new before after WriteFault served_too is
    is_too a b room room_too meet =
    inl (inr a.serves.0)
limited may_answer shown serves peer bytes begun done begun_too done_too old new before after Memory served_too is
    is_too a b room room_too meet =
    absurd (room refl)

pub has_one : {K : Type 0} (may_answer : K → ℕ → List ℕ → Result ⊤ TokenError → K → Type 0)
    (shown : K → TokenError → List ℕ) (serves : List ℕ → Option Addr) (peer : Addr) (begun done : Shown)
    (old new : Around K) (served : Served)
    → IsServedBy (IsReplied may_answer shown serves peer) begun done old new served
    → HasOneAnswer may_answer shown serves peer begun done old new served
has_one may_answer shown serves peer begun done old new served a = record {
  alike = λ bytes begun_too done_too before after is left left_too b meet.
      one_answer may_answer shown serves peer bytes begun done begun_too done_too old new before after left left_too
      (subst (λ v. IsServedBy (IsReplied may_answer shown serves peer) begun done old new v) is a) b meet;
  limits = λ bytes begun_too done_too before after served_too left left_too b room room_too meet.
      limited may_answer shown serves peer bytes begun done begun_too done_too old new before after served served_too
      left left_too a b room room_too meet;
}

-- ---- calls

drop_all : (xs : List Asked) → drop (length xs) xs ≡ []
drop_all [] = refl
drop_all (x ∷ xs) = drop_all xs

no_row : (place : ℕ) (row : Asked) → slice_get [] place ≡ Some row → ⊥
no_row zero row is = cc is
no_row (suc place) row is = cc is

the_row : (x : Asked) (place : ℕ) (row : Asked) → slice_get (x ∷ []) place ≡ Some row → x ≡ row
the_row x zero row is = some_same x row is
the_row x (suc place) row is = absurd (no_row place row is)

-- where the record stayed, there is no new row
none_new : {X : Type 0} (old new : Means) (first last : List Asked) (row : Asked) (place : ℕ)
    → new.asked ≡ old.asked → old.asked ≡ Some first → new.asked ≡ Some last
    → slice_get (drop (length first) last) place ≡ Some row → X
none_new old new first last row place same is new_is at =
    let one : last ≡ first = some_same last first (sym new_is ∙ (same ∙ is)) in
    let none : drop (length first) last ≡ [] = ap (drop (length first)) one ∙ drop_all first in
    absurd (no_row place row (subst (λ rows. slice_get rows place ≡ Some row) none at))

lost_heard : (heard : Result AssignJobResult CallFault) (answer : Result (List ℕ) AskFault)
    → answer ≡ Err ask.Failed → Hears assign_at answer heard → heard ≡ Err Lost
lost_heard heard answer is hears = subst (λ a. Hears assign_at a heard) is hears

asked_lost : (json : Bool) (tc : List ℕ) (old new : Means) (reply : Response) (first last : List Asked)
    (row : Asked) (place : ℕ)
    → IsAskedAt json tc old new (Ok reply) → old.asked ≡ Some first → new.asked ≡ Some last
    → slice_get (drop (length first) last) place ≡ Some row → row.answer ≡ Err ask.Failed
    → Rose old.faults new.faults
asked_lost json tc old new reply first last row place asked is new_is at failed =
    let x = one_row asked.name asked.r tc asked.heard old new first last asked.called
    (λ h. asked.replies.0 (ap judged h)) is new_is in
    let same = the_row x.0 place row (subst (λ rows. slice_get rows place ≡ Some row) x.1 at) in
    let answer = ap (λ (z : Asked). z.answer) same ∙ failed in
    asked.called.cause (lost_heard asked.heard x.0.answer answer x.2.answer)

does_lost : (json : Bool) (routing : Routing) (old new : Means) (reply : Response) (first last : List Asked)
    (row : Asked) (place : ℕ)
    → Does json routing old new (Ok reply) → old.asked ≡ Some first → new.asked ≡ Some last
    → slice_get (drop (length first) last) place ≡ Some row → row.answer ≡ Err ask.Failed
    → Rose old.faults new.faults
does_lost json (Err e) old new reply first last row place done is new_is at failed = absurd (cc done.0)
does_lost json (Ok (Alloc tc)) old new reply first last row place (inl done) is new_is at failed =
    none_new old new first last row place done.unasked.asked is new_is at
does_lost json (Ok (Alloc tc)) old new reply first last row place (inr done) is new_is at failed =
    asked_lost json tc old new reply first last row place done is new_is at failed
does_lost json (Ok (Beat server beat)) old new reply first last row place done is new_is at failed =
    none_new old new first last row place done.unasked.asked is new_is at
does_lost json (Ok (Update server job state)) old new reply first last row place done is new_is at failed =
    none_new old new first last row place done.unasked.asked is new_is at
does_lost json (Ok Status) old new reply first last row place done is new_is at failed =
    none_new old new first last row place done.unasked.asked is new_is at
does_lost json (Ok (Drain server drain)) old new reply first last row place done is new_is at failed =
    none_new old new first last row place done.unasked.asked is new_is at
does_lost json (Ok (Done response)) old new reply first last row place done is new_is at failed =
    none_new old new first last row place (ap (λ (m : Means). m.asked) done.1) is new_is at

pub lost : {K : Type 0} (may_answer : K → ℕ → List ℕ → Result ⊤ TokenError → K → Type 0)
    (shown : K → TokenError → List ℕ) (serves : List ℕ → Option Addr) (peer : Addr) (request : Option Request)
    (reply : Response) (old new : Around K) (first last : List Asked) (row : Asked) (place : ℕ)
    → IsReplied may_answer shown serves peer request old new (Ok reply)
    → old.means.asked ≡ Some first → new.means.asked ≡ Some last
    → slice_get (drop (length first) last) place ≡ Some row → row.answer ≡ Err ask.Failed
    → Rose old.means.faults new.means.faults
lost may_answer shown serves peer request reply old new first last row place replied is new_is at failed =
    does_lost (form_of request) replied.routing (record old.means { clock = replied.between }) new.means reply
    first last row place replied.done is new_is at failed
