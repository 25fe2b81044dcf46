-- What a reserve for a client of that name leaves and answers, by whether it holds as many as it may.
use Rattle.std.proofs.Common.{◌≡◌, ℕ, ◌<◌, List, ◌++◌, true, false, length, Option, Some, refl, ap, ◌∙◌, sym}
use Rattle.std.proofs.Common.{subst}
use Rattle.std.specs.Prelude.{slice_get, ◌==◌, Result, Ok, Err}
use Rattle.core_rules.specs.declared.error.SchedError.{SchedError}
use Rattle.core_rules.specs.Answers.{Leaves, RefusesReserve}
use Rattle.core_rules.specs.Log.{Core, logged}
use Rattle.sched_core.specs.Picked.{IsPicked}
use Rattle.sched_core.specs.declared.answers.Picked.{Picked}
use Rattle.quota.specs.Asked.{IsReserve, IsReserveFor, ByRefusal, fault_of}
use Rattle.quota.specs.Clients.{Client, place_of}
use Rattle.quota.specs.Holdings.{Held, count_of}
use Rattle.quota.specs.Kept.{IsKept, owned_picked}
use Rattle.quota.specs.Quota.{Quota}
use Rattle.quota.specs.declared.fault.QuotaFault.{QuotaFault}
use Rattle.quota.specs.declared.fault.QuotaFault.TheVariants as fault
use Rattle.quota.specs.declared.picked.QuotaPicked.{QuotaPicked}
use Rattle.quota.specs.declared.picked.QuotaPicked.TheVariants as answer
use Rattle.quota.proofs.ListLemmas.{got_some}
use Rattle.quota.proofs.PickedLemmas.{entry_of, picked_kept, seen_reserved, kept_reserved, not_reserved}
use Rattle.quota.proofs.QuotaLemmas.{held_is, full_is, free_is, below_is, kept_alike, for_listed}
use Rattle.quota.proofs.KeptWords.{IsBelow, quota_of}

-- The client of that name, its place, how many it holds and how many it may.
pub record Asker (core : Core) (clients : List Client) (held : Held) (name : List ℕ) (place holds limit : ℕ)
    : Type 0 where
  pub kept : IsKept core clients held
  pub listed : place_of clients name ≡ Some place
  pub within : place < length clients
  pub counts : holds ≡ count_of held.owned place
  pub may : (c : Client) → slice_get clients place ≡ Some c → limit ≡ c.limit

-- one that holds as many as it may is told so
pub full_told : {A : Type 0} (key_of : A → List ℕ) (token_for : A → ℕ → List ℕ) (core : Core)
    (clients : List Client) (held : Held) (now : ℕ) (name : List ℕ) (place holds limit : ℕ)
    → Asker core clients held name place holds limit → (holds == limit) ≡ true
    → IsReserveFor key_of token_for now name (quota_of core clients held.owned)
    (quota_of core clients held.owned) (Ok (answer.Full holds limit))
full_told key_of token_for core clients held now name place holds limit asker is =
    let q = quota_of core clients held.owned in
    let c = got_some clients place asker.within in
    let full = full_is q place holds limit c.0 c.1
    (asker.counts ∙ sym (held_is core.log held.owned place asker.kept.agree)) (asker.may c.0 c.1) is in
    for_listed key_of token_for now name q q (Ok (answer.Full holds limit)) place asker.listed
    (subst (λ w. ByRefusal w q q (Ok (answer.Full holds limit)) (IsReserve key_of token_for now place q q
    (Ok (answer.Full holds limit)))) (sym full) (refl, refl))

-- for one that holds less it is a reserve
free_told : {A : Type 0} (key_of : A → List ℕ) (token_for : A → ℕ → List ℕ) (core : Core)
    (clients : List Client) (held : Held) (now : ℕ) (name : List ℕ) (place holds limit : ℕ) (new : Quota)
    (told : Result QuotaPicked QuotaFault)
    → Asker core clients held name place holds limit → (holds == limit) ≡ false
    → IsReserve key_of token_for now place (quota_of core clients held.owned) new told
    → IsReserveFor key_of token_for now name (quota_of core clients held.owned) new told
free_told key_of token_for core clients held now name place holds limit new told asker is made =
    let q = quota_of core clients held.owned in
    let c = got_some clients place asker.within in
    let free = free_is q place holds limit c.0 c.1
    (asker.counts ∙ sym (held_is core.log held.owned place asker.kept.agree)) (asker.may c.0 c.1) is in
    for_listed key_of token_for now name q new told place asker.listed
    (subst (λ w. ByRefusal w q new told (IsReserve key_of token_for now place q new told)) (sym free) made)

-- where there was no memory for it nothing changed
pub memory_told : {A : Type 0} (key_of : A → List ℕ) (token_for : A → ℕ → List ℕ) (core : Core)
    (clients : List Client) (held after : Held) (now : ℕ) (name : List ℕ) (place holds limit : ℕ)
    → Asker core clients held name place holds limit → (holds == limit) ≡ false → after.owned ≡ held.owned
    → IsReserveFor key_of token_for now name (quota_of core clients held.owned)
    (quota_of core clients after.owned) (Err fault.Memory)
memory_told key_of token_for core clients held after now name place holds limit asker is owned =
    free_told key_of token_for core clients held now name place holds limit
    (quota_of core clients after.owned) (Err fault.Memory) asker is (ap (quota_of core clients) owned)

-- that one still holds less once there is room
pub below_roomy : (core : Core) (clients : List Client) (held roomy : Held) (name : List ℕ)
    (place holds limit : ℕ) → Asker core clients held name place holds limit → (holds == limit) ≡ false
    → roomy.owned ≡ held.owned → IsBelow clients roomy.owned place
below_roomy core clients held roomy name place holds limit asker is owned =
    subst (λ l. IsBelow clients l place) (sym owned)
    (below_is core clients held place holds limit asker.kept asker.counts asker.may is)

-- what was picked is told
pub picked_told : {A : Type 0} (key_of : A → List ℕ) (token_for : A → ℕ → List ℕ) (core new : Core)
    (clients : List Client) (held roomy after : Held) (now : ℕ) (name : List ℕ) (place holds limit : ℕ)
    (p : Picked) → Asker core clients held name place holds limit → (holds == limit) ≡ false
    → roomy.owned ≡ held.owned → after.owned ≡ roomy.owned ++ owned_picked p place
    → new ≡ logged core (entry_of core now) → IsPicked key_of token_for core.log (entry_of core now).kind p
    → IsReserveFor key_of token_for now name (quota_of core clients held.owned)
    (quota_of new clients after.owned) (Ok (answer.Picked p))
picked_told key_of token_for core new clients held roomy after now name place holds limit p asker is owned
    noted log picks =
    let made = noted ∙ ap (λ l. l ++ owned_picked p place) owned
    ∙ ap (λ l. held.owned ++ l) (picked_kept key_of token_for core now place p picks) in
    free_told key_of token_for core clients held now name place holds limit (quota_of new clients after.owned)
    (Ok (answer.Picked p)) asker is (
      ap (λ s. quota_of s clients after.owned) log
          ∙ seen_reserved core clients held.owned after.owned now place made,
      picks,
    )

-- and kept
pub picked_keeps : {A : Type 0} (key_of : A → List ℕ) (token_for : A → ℕ → List ℕ) (core new : Core)
    (clients : List Client) (roomy after : Held) (now place : ℕ) (p : Picked) → IsKept core clients roomy
    → IsBelow clients roomy.owned place → after.owned ≡ roomy.owned ++ owned_picked p place
    → after.first ≡ roomy.first → after.clients ≡ roomy.clients
    → new ≡ logged core (entry_of core now) → IsPicked key_of token_for core.log (entry_of core now).kind p
    → IsKept new clients after
picked_keeps key_of token_for core new clients roomy after now place p kept below noted first listed log
    picks =
    subst (λ s. IsKept s clients after) (sym log)
    (kept_reserved core clients roomy after now place kept below
    (noted ∙ ap (λ l. roomy.owned ++ l) (picked_kept key_of token_for core now place p picks)) first listed)

-- and why it was refused
pub refused_told : {A : Type 0} (key_of : A → List ℕ) (token_for : A → ℕ → List ℕ) (core new : Core)
    (clients : List Client) (held roomy : Held) (now : ℕ) (name : List ℕ) (place holds limit : ℕ)
    (e : SchedError) → Asker core clients held name place holds limit → (holds == limit) ≡ false
    → roomy.owned ≡ held.owned → IsKept core clients roomy → RefusesReserve (entry_of core now).kind e
    → Leaves e core new (entry_of core now)
    → IsReserveFor key_of token_for now name (quota_of core clients held.owned)
    (quota_of new clients roomy.owned) (Err (fault_of e))
refused_told key_of token_for core new clients held roomy now name place holds limit e asker is owned kept
    refused left =
    free_told key_of token_for core clients held now name place holds limit (quota_of new clients roomy.owned)
    (Err (fault_of e)) asker is
    (subst (λ l. IsReserve key_of token_for now place (quota_of core clients l)
    (quota_of new clients roomy.owned) (Err (fault_of e))) owned
    (not_reserved key_of token_for core new clients roomy roomy now place e kept
    (below_roomy core clients held roomy name place holds limit asker is owned) refl refused left).0)

-- which is kept too
pub refused_keeps : {A : Type 0} (key_of : A → List ℕ) (token_for : A → ℕ → List ℕ) (core new : Core)
    (clients : List Client) (roomy : Held) (now place : ℕ) (e : SchedError) → IsKept core clients roomy
    → IsBelow clients roomy.owned place → RefusesReserve (entry_of core now).kind e
    → Leaves e core new (entry_of core now) → IsKept new clients roomy
refused_keeps key_of token_for core new clients roomy now place e kept below refused left =
    (not_reserved key_of token_for core new clients roomy roomy now place e kept below refl refused left).1
