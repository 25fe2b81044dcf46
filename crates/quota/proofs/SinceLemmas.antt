-- What a call of the scheduler leaves, once what its entry ends is ended.
use Rattle.std.proofs.Common.{◌≡◌, ℕ, List, [], ◌∷◌, ◌++◌, Bool, true, false, map, length, Option}
use Rattle.std.proofs.Common.{Some, None}
use Rattle.std.proofs.Common.{Result, Ok, Err, refl, ap, ◌∙◌, sym, subst}
use Rattle.std.proofs.Common.{◌&&◌}
use Rattle.std.specs.Prelude.{slice_get, OnOk, OnErr, IfErr, IsErrOf, if◌then◌else◌}
use Rattle.dist_types.specs.declared.addr.Addr.{Addr}
use Rattle.dist_types.specs.declared.ids.JobId.{JobId}
use Rattle.dist_types.specs.declared.results.JobState.{JobState}
use Rattle.dist_types.specs.declared.results.UpdateJobStateResult.{UpdateJobStateResult}
use Rattle.core_rules.specs.declared.answers.Undone.{Undone}
use Rattle.core_rules.specs.declared.entry.CoreEntry.{CoreEntry}
use Rattle.core_rules.specs.declared.entry.CoreKind.TheVariants.{Undo, Update}
use Rattle.core_rules.specs.declared.entry.UpdateAnswer.{UpdateAnswer}
use Rattle.core_rules.specs.declared.entry.UpdateAnswer.TheVariants.{Accepted, Unknown, Wrong, Transition}
use Rattle.core_rules.specs.declared.error.SchedError.{SchedError}
use Rattle.core_rules.specs.declared.error.SchedError.TheVariants as error
use Rattle.core_rules.specs.Answers.{Leaves, unended_by, undo_answer, verdict}
use Rattle.core_rules.specs.Log.{Core, logged}
use Rattle.core_rules.specs.Reservation.{is_accepted, is_complete}
use Rattle.core_rules.specs.Rule.{commit_by, undo_by}
use Rattle.quota.specs.Clients.{Client}
use Rattle.quota.specs.Holdings.{Owned, Held, owned_after, ended_job_if}
use Rattle.quota.specs.Kept.{IsKept, with_made, after_made, ends_undone}
use Rattle.quota.specs.Kept.{ends_updated}
use Rattle.quota.specs.Quota.{over_core, LeavesOver}
use Rattle.quota.proofs.EndLemmas.{commit_is, undo_is, update_is, job_no}
use Rattle.quota.proofs.ListLemmas.{got_end, got_none, got_once}
use Rattle.quota.proofs.QuotaLemmas.{kept_after, seen_after}
use Rattle.quota.proofs.KeptWords.{MakesNone, quota_of, owned_new}

-- the entry in the place behind the log that there was is the one that was made
pub since_some : (core new : Core) (made : Option CoreEntry) (before : ℕ) (e : CoreEntry) (old after : List
    Owned)
    → slice_get new.log before ≡ Some e → length core.log ≡ before → new ≡ with_made core made
    → after ≡ map (owned_after e.kind) old → after ≡ after_made made old
since_some core new None before e old after got is left does =
    let there : slice_get core.log (length core.log) ≡ Some e =
    ap (slice_get core.log) is ∙ ap (λ s. slice_get s.log before) (sym left) ∙ got in
    let none = got_none core.log in
    absurd (some_none (sym there ∙ none))
  where
    some_none : Some e ≡ None → ⊥
    some_none h = absurd cc
since_some core new (Some d) before e old after got is left does =
    let there : slice_get (core.log ++ d ∷ []) (length core.log) ≡ Some e =
    ap (slice_get (core.log ++ d ∷ [])) is ∙ ap (λ s. slice_get s.log before) (sym left) ∙ got in
    does ∙ ap (λ x. map (owned_after x.kind) old) (got_once (core.log ++ d ∷ []) (length core.log) e d there
    (got_end core.log d))

pub since_none : (core new : Core) (made : Option CoreEntry) (before : ℕ) (old after : List Owned)
    → slice_get new.log before ≡ None → length core.log ≡ before → new ≡ with_made core made
    → after ≡ old → after ≡ after_made made old
since_none core new None before old after got is left same = same
since_none core new (Some d) before old after got is left same =
    let there : slice_get (core.log ++ d ∷ []) (length core.log) ≡ None =
    ap (slice_get (core.log ++ d ∷ [])) is ∙ ap (λ s. slice_get s.log before) (sym left) ∙ got in
    absurd (some_none (sym (got_end core.log d) ∙ there))
  where
    some_none : Some d ≡ None → ⊥
    some_none h = absurd cc

-- the entry that was made, if one was, stands behind the log that there was
got_next : (core : Core) (made : Option CoreEntry) → slice_get (with_made core made).log (length core.log) ≡ made
got_next core None = got_none core.log
got_next core (Some e) = got_end core.log e

-- so it is one alone
made_once : (core : Core) (one other : Option CoreEntry) → with_made core one ≡ with_made core other
    → one ≡ other
made_once core one other is =
    sym (got_next core one) ∙ ap (λ s. slice_get s.log (length core.log)) is ∙ got_next core other

-- What became of what is kept, whatever entry was made.
pub record Since (core new : Core) (old after : Held) : Type 0 where
  pub owned : (made : Option CoreEntry) → new ≡ with_made core made
      → after.owned ≡ after_made made old.owned
  pub first : after.first ≡ old.first
  pub listed : after.clients ≡ old.clients

-- where the entry is known, or that there is none
since_made : (core new : Core) (old after : Held) (made : Option CoreEntry) → new ≡ with_made core made
    → after.owned ≡ after_made made old.owned → after.first ≡ old.first → after.clients ≡ old.clients
    → Since core new old after
since_made core new old after made left owned first listed = record {
  owned = λ other is. owned ∙ ap (λ m. after_made m old.owned) (made_once core made other (sym left ∙ is));
  first = first;
  listed = listed;
}

-- a commit ends nothing
pub since_commit : (own kept : Bool) (core new : Core) (held : Held) (now : ℕ) (job : JobId) (state : JobState)
    → new ≡ (if own then logged core (commit_by kept now job state) else core) → Since core new held held
since_commit true kept core new held now job state left = since_made core new held held
    (Some (commit_by kept now job state)) left (commit_is job state kept held.owned) refl refl
since_commit false kept core new held now job state left =
    since_made core new held held None left refl refl refl

-- an undo ends its reservation where its answer says so
undone_is : (told : Undone) (ends : Bool) (noted : Option ℕ) (job : JobId) (owned : List Owned)
    → ends_undone told ≡ ends
    → map (ended_job_if (ends_undone told) job) owned ≡ map (owned_after (Undo job noted ends)) owned
undone_is told ends noted job owned is =
    ap (λ b. map (ended_job_if b job) owned) is ∙ undo_is job noted ends owned

unended_ends : (noted : Option ℕ) → ends_undone (unended_by noted) ≡ false
unended_ends None = refl
unended_ends (Some reg) = refl

pub since_undo : (own ends : Bool) (noted : Option ℕ) (core new : Core) (old after : Held) (now : ℕ)
    (job : JobId) (told : Undone) → new ≡ (if own then logged core (undo_by noted ends now job) else core)
    → told ≡ undo_answer own (Undo job noted ends)
    → after.owned ≡ map (ended_job_if (ends_undone told) job) old.owned → after.first ≡ old.first
    → after.clients ≡ old.clients → Since core new old after
since_undo true true noted core new old after now job told left is owned first listed =
    since_made core new old after (Some (undo_by noted true now job)) left
    (owned ∙ undone_is told true noted job old.owned (ap ends_undone is)) first listed
since_undo true false noted core new old after now job told left is owned first listed =
    since_made core new old after (Some (undo_by noted false now job)) left
    (owned ∙ undone_is told false noted job old.owned (ap ends_undone is ∙ unended_ends noted)) first listed
since_undo false ends noted core new old after now job told left is owned first listed =
    since_made core new old after None left
    (owned ∙ sym (job_no (ends_undone told) job old.owned (ap ends_undone is))) first listed

-- a report ends its job's reservation where it is complete, and its answer is no refusal
refused_is : (why : SchedError) (answer : UpdateAnswer) (state : JobState)
    → Err why ≡ verdict answer state → is_accepted answer ≡ false
refused_is why Accepted state is = absurd cc
refused_is why Unknown state is = refl
refused_is why Wrong state is = refl
refused_is why (Transition from) state is = refl

and_no : (b : Bool) → (b && false) ≡ false
and_no true = refl
and_no false = refl

and_yes : (b : Bool) → (b && true) ≡ b
and_yes true = refl
and_yes false = refl

refused_none : (why : SchedError) (server : Addr) (job : JobId) (state : JobState) (answer : UpdateAnswer)
    (owned : List Owned) → Err why ≡ verdict answer state
    → map (ended_job_if false job) owned ≡ map (owned_after (Update server job state answer)) owned
refused_none why server job state answer owned is =
    ap (λ b. map (ended_job_if b job) owned) (sym (ap (λ a. is_complete state && a)
    (refused_is why answer state is) ∙ and_no (is_complete state)))
    ∙ update_is server job state answer owned

taken_is : (done : UpdateJobStateResult) (server : Addr) (job : JobId) (state : JobState)
    (answer : UpdateAnswer) (owned : List Owned) → Ok done ≡ verdict answer state
    → map (ended_job_if (is_complete state) job) owned
    ≡ map (owned_after (Update server job state answer)) owned
taken_is done server job state Accepted owned is =
    ap (λ b. map (ended_job_if b job) owned) (sym (and_yes (is_complete state)))
    ∙ update_is server job state Accepted owned
taken_is done server job state Unknown owned is = absurd cc
taken_is done server job state Wrong owned is = absurd cc
taken_is done server job state (Transition from) owned is = absurd cc

pub since_update : (told : Result UpdateJobStateResult SchedError) (core new : Core) (old after : Held)
    (now : ℕ) (server : Addr) (job : JobId) (state : JobState) (answer : UpdateAnswer)
    → OnOk told (new ≡ logged core (record { now = now; kind = Update server job state answer }))
    → IfErr told (λ why. Leaves why core new (record { now = now; kind = Update server job state answer }))
    → (¬ IsErrOf told error.Memory → told ≡ verdict answer state)
    → after.owned ≡ map (ended_job_if (ends_updated state told) job) old.owned → after.first ≡ old.first
    → after.clients ≡ old.clients → Since core new old after
since_update (Ok done) core new old after now server job state answer left refused is owned first listed =
    since_made core new old after (Some (record { now = now; kind = Update server job state answer })) left
    (owned ∙ taken_is done server job state answer old.owned (is (λ h. absurd cc))) first listed
since_update (Err error.Memory) core new old after now server job state answer left refused is owned first
    listed =
    since_made core new old after None refused (owned ∙ sym (job_no false job old.owned refl)) first listed
since_update (Err error.IdsSpent) core new old after now server job state answer left refused is owned first
    listed =
    since_made core new old after (Some (record { now = now; kind = Update server job state answer })) refused
    (owned ∙ refused_none error.IdsSpent server job state answer old.owned (is (λ h. absurd cc))) first listed
since_update (Err (error.BadCpus cpus)) core new old after now server job state answer left refused is owned
    first listed =
    since_made core new old after (Some (record { now = now; kind = Update server job state answer })) refused
    (owned ∙ refused_none (error.BadCpus cpus) server job state answer old.owned (is (λ h. absurd cc))) first
    listed
since_update (Err error.UnknownJob) core new old after now server job state answer left refused is owned first
    listed =
    since_made core new old after (Some (record { now = now; kind = Update server job state answer })) refused
    (owned ∙ refused_none error.UnknownJob server job state answer old.owned (is (λ h. absurd cc))) first
    listed
since_update (Err error.WrongServer) core new old after now server job state answer left refused is owned
    first listed =
    since_made core new old after (Some (record { now = now; kind = Update server job state answer })) refused
    (owned ∙ refused_none error.WrongServer server job state answer old.owned (is (λ h. absurd cc))) first
    listed
since_update (Err (error.BadTransition from to)) core new old after now server job state answer left refused
    is owned first listed =
    since_made core new old after (Some (record { now = now; kind = Update server job state answer })) refused
    (owned ∙ refused_none (error.BadTransition from to) server job state answer old.owned (is (λ h. absurd
    cc))) first listed

-- all stays kept after an entry that makes no reservation
pub kept_since : (core new : Core) (clients : List Client) (old after : Held) (made : Option CoreEntry)
    → Since core new old after → new ≡ with_made core made → MakesNone made → IsKept core clients old
    → IsKept new clients after
kept_since core new clients old after made since left none kept =
    subst (λ s. IsKept s clients after) (sym left)
    (kept_after core clients old after made since.first (since.owned made left) since.listed none kept)

-- the same, by what a call answers
pub kept_answered : {X E : Type 0} (result : Result X E) (core new : Core) (clients : List Client)
    (old after : Held) (e : CoreEntry) → OnOk result (new ≡ logged core e) → OnErr result (new ≡ core)
    → ((number client : ℕ) → owned_new e.kind number client ≡ []) → Since core new old after
    → IsKept core clients old → IsKept new clients after
kept_answered (Ok x) core new clients old after e left stays none since kept =
    kept_since core new clients old after (Some e) since left none kept
kept_answered (Err x) core new clients old after e left stays none since kept =
    kept_since core new clients old after None since stays tt kept

pub seen_made : (core new : Core) (clients : List Client) (old after : Held) (made : Option CoreEntry)
    → Since core new old after → new ≡ with_made core made
    → quota_of new clients after.owned ≡ over_core (quota_of core clients old.owned) (with_made core made)
seen_made core new clients old after made since left =
    ap (λ s. quota_of s clients after.owned) left
    ∙ seen_after core clients old.owned after.owned made (since.owned made left)

pub seen_ok : {X E : Type 0} (result : Result X E) (core new : Core) (clients : List Client) (old after :
    Held)
    (e : CoreEntry) → OnOk result (new ≡ logged core e) → Since core new old after
    → OnOk result (quota_of new clients after.owned ≡ over_core (quota_of core clients old.owned) (logged
    core e))
seen_ok (Ok x) core new clients old after e left since = seen_made core new clients old after (Some e)
    since left
seen_ok (Err x) core new clients old after e left since = tt

pub seen_err : {X E : Type 0} (result : Result X E) (core new : Core) (clients : List Client) (old after :
    Held)
    → OnErr result (new ≡ core) → Since core new old after
    → OnErr result (quota_of new clients after.owned ≡ quota_of core clients old.owned)
seen_err (Ok x) core new clients old after left since = tt
seen_err (Err x) core new clients old after left since = seen_made core new clients old after None since left

-- a report, every answer to which is logged but want of memory
pub seen_leaves : {X : Type 0} (result : Result X SchedError) (core new : Core) (clients : List Client)
    (old after : Held) (e : CoreEntry) → IfErr result (λ why. Leaves why core new e) → Since core new old
    after
    → IfErr result (λ why. LeavesOver why (quota_of core clients old.owned) (quota_of new clients
    after.owned) e)
seen_leaves (Ok x) core new clients old after e left since = tt
seen_leaves (Err error.Memory) core new clients old after e left since =
    seen_made core new clients old after None since left
seen_leaves (Err error.IdsSpent) core new clients old after e left since =
    seen_made core new clients old after (Some e) since left
seen_leaves (Err (error.BadCpus cpus)) core new clients old after e left since =
    seen_made core new clients old after (Some e) since left
seen_leaves (Err error.UnknownJob) core new clients old after e left since =
    seen_made core new clients old after (Some e) since left
seen_leaves (Err error.WrongServer) core new clients old after e left since =
    seen_made core new clients old after (Some e) since left
seen_leaves (Err (error.BadTransition from to)) core new clients old after e left since =
    seen_made core new clients old after (Some e) since left

pub kept_leaves : {X : Type 0} (result : Result X SchedError) (core new : Core) (clients : List Client)
    (old after : Held) (e : CoreEntry) → OnOk result (new ≡ logged core e)
    → IfErr result (λ why. Leaves why core new e)
    → ((number client : ℕ) → owned_new e.kind number client ≡ []) → Since core new old after
    → IsKept core clients old → IsKept new clients after
kept_leaves (Ok x) core new clients old after e left refused none since kept =
    kept_since core new clients old after (Some e) since left none kept
kept_leaves (Err error.Memory) core new clients old after e left refused none since kept =
    kept_since core new clients old after None since refused tt kept
kept_leaves (Err error.IdsSpent) core new clients old after e left refused none since kept =
    kept_since core new clients old after (Some e) since refused none kept
kept_leaves (Err (error.BadCpus cpus)) core new clients old after e left refused none since kept =
    kept_since core new clients old after (Some e) since refused none kept
kept_leaves (Err error.UnknownJob) core new clients old after e left refused none since kept =
    kept_since core new clients old after (Some e) since refused none kept
kept_leaves (Err error.WrongServer) core new clients old after e left refused none since kept =
    kept_since core new clients old after (Some e) since refused none kept
kept_leaves (Err (error.BadTransition from to)) core new clients old after e left refused none since kept =
    kept_since core new clients old after (Some e) since refused none kept

-- a commit or an undo, which makes its entry where the reservation is the scheduler's own
abbrev pub spent_made : Bool → CoreEntry → Option CoreEntry
spent_made own e = if own then Some e else None

spent_core : (own : Bool) (core : Core) (e : CoreEntry) → (if own then logged core e else core)
    ≡ with_made core (spent_made own e)
spent_core true core e = refl
spent_core false core e = refl

spent_none : (own : Bool) (e : CoreEntry) → ((number client : ℕ) → owned_new e.kind number client ≡ [])
    → MakesNone (spent_made own e)
spent_none true e none = none
spent_none false e none = tt

pub kept_spent : (own : Bool) (core new : Core) (clients : List Client) (old after : Held) (e : CoreEntry)
    → new ≡ (if own then logged core e else core)
    → ((number client : ℕ) → owned_new e.kind number client ≡ []) → Since core new old after
    → IsKept core clients old → IsKept new clients after
kept_spent own core new clients old after e left none since kept =
    kept_since core new clients old after (spent_made own e) since (left ∙ spent_core own core e)
    (spent_none own e none) kept

pub seen_spent : (own : Bool) (core new : Core) (clients : List Client) (old after : Held) (e : CoreEntry)
    → new ≡ (if own then logged core e else core) → Since core new old after
    → quota_of new clients after.owned
    ≡ over_core (quota_of core clients old.owned) (if own then logged core e else core)
seen_spent own core new clients old after e left since =
    seen_made core new clients old after (spent_made own e) since (left ∙ spent_core own core e)
    ∙ ap (over_core (quota_of core clients old.owned)) (sym (spent_core own core e))
