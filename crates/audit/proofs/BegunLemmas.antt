-- A job whose build has begun was reserved.
use Rattle.std.proofs.Common.{◌≡◌, ◌<◌, ◌^◌, ℕ, List, [], ◌∷◌, ◌++◌, Bool, true, false, ◌&&◌, ◌||◌, refl, sym, ap, subst, ◌∙◌}
use Rattle.std.specs.List.{list_any, AllByRecursion}
use Rattle.dist_types.specs.declared.ids.JobId.{JobId}
use Rattle.dist_types.specs.declared.results.JobState.{JobState}
use Rattle.core_rules.specs.declared.start.Start.{Start}
use Rattle.core_rules.specs.declared.entry.CoreEntry.{CoreEntry}
use Rattle.core_rules.specs.declared.entry.CoreKind.{CoreKind}
use Rattle.core_rules.specs.declared.entry.CoreKind.TheVariants as core
use Rattle.core_rules.specs.declared.entry.UpdateAnswer.{UpdateAnswer}
use Rattle.core_rules.specs.Log.{same_job}
use Rattle.core_rules.specs.Reservation.{is_accepted, is_started, claims_by}
use Rattle.core_rules.specs.Advance.{follows}
use Rattle.core_rules.specs.Job.{Committed, open_jobs, state_now}
use Rattle.core_rules.specs.Laws.{IsRule, IsLegal}
use Rattle.core_rules.proofs.Lists.{list_any-push, list_any-map}
use Rattle.core_rules.proofs.AllLemmas.{found}
use Rattle.core_rules.proofs.LegalLemmas.{core_of, legal_has}
use Rattle.core_rules.proofs.StepLemmas.{bare_commit, begun}
use Rattle.core_rules.proofs.FactLemmas.{Facts, facts}
use Rattle.core_rules.proofs.HeldLemmas.{IsKnown, IsPast, Sound, known-on, sound-step, no_sound}
use Rattle.core_rules.proofs.MovedLemmas.{accepted_job}
use Rattle.run_lines.specs.Fields.{job_of}
use Rattle.std.proofs.lemmas.Bool.{eqb-true, and_parts}
use Rattle.audit.specs.Replay.{is_begun}

job_is : (a b : JobId) → same_job a b ≡ true → a ≡ b
job_is a b e = ap job_of (eqb-true a.0 b.0 e)

any_left : {X : Type 0} (p q : X → Bool) (xs : List X) → list_any (λ x. p x && q x) xs ≡ true
    → list_any p xs ≡ true
any_left p q [] e = absurd cc
any_left p q (x ∷ xs) e = split (p x) (q x) e (any_left p q xs)
  where
    split : (a b : Bool) → ((a && b) || list_any (λ y. p y && q y) xs) ≡ true
        → (list_any (λ y. p y && q y) xs ≡ true → list_any p xs ≡ true) → (a || list_any p xs) ≡ true
    split true b e later = refl
    split false b e later = later e

-- the job of an open job was reserved
open_known : (start : Start) (log : List CoreEntry) (job : JobId) → Sound start log
    → list_any (λ c. same_job c.job job) (open_jobs log) ≡ true → IsKnown log job
open_known start log job sound e =
    let f : (c : Committed) × IsPast log c.job × (same_job c.job job ≡ true) =
    found (λ c. IsPast log c.job) (λ c. same_job c.job job) (begun log) sound.begun_past
    (list_any-map (λ (c : Committed). same_job c.job job) bare_commit (open_jobs log) ∙ e) in
    subst (IsKnown log) (job_is f.0.job job f.2) f.1.0

-- the job that an entry begins was reserved
claim_known : (start : Start) (log : List CoreEntry) (k : CoreKind) (job : JobId) → Sound start log
    → Facts (core_of start log) k → claims_by k job ≡ true → IsKnown log job
claim_known start log (core.Update server j state answer) job sound is e =
    let p = and_parts (is_started state && is_accepted answer) (same_job j job) e in
    let q = and_parts (is_started state) (is_accepted answer) p.0 in
    subst (IsKnown log) (job_is j job p.1) (open_known start log j sound
    (any_left (λ (c : Committed). same_job c.job j) (λ (c : Committed). follows (state_now c) state) (open_jobs log)
    (accepted_job log server j state (sym (ap is_accepted is) ∙ q.1))))
claim_known start log (core.Reserve r) job sound is e = absurd cc
claim_known start log (core.Commit j state kept) job sound is e = absurd cc
claim_known start log (core.Undo j noted ended) job sound is e = absurd cc
claim_known start log (core.Beat server nonce cpus key pruned reaped replaced is_new) job sound is e = absurd cc
claim_known start log (core.Status pruned servers cpus jobs) job sound is e = absurd cc
claim_known start log (core.Drain server nonce on reg) job sound is e = absurd cc

record IsBegunKnown (start : Start) (log : List CoreEntry) : Type 0 where
  sound : Sound start log
  known : (job : JobId) → is_begun log job ≡ true → IsKnown log job

begun_step : (start : Start) (log : List CoreEntry) (e : CoreEntry) → IsBegunKnown start log
    → IsRule (core_of start log) e → IsBegunKnown start (log ++ e ∷ [])
begun_step start log e old is = record {
  sound = sound-step start log e old.sound is;
  known = λ job t. known-on log e job (split job (is_begun log job) (claims_by e.kind job) refl refl
      (sym (list_any-push (λ (d : CoreEntry). claims_by d.kind job) log e) ∙ t));
}
  where
    split : (job : JobId) (a b : Bool) → is_begun log job ≡ a → claims_by e.kind job ≡ b → (a || b) ≡ true
        → IsKnown log job
    split job true b at claims t = old.known job at
    split job false true at claims t =
        claim_known start log e.kind job old.sound (facts (core_of start log) e is) claims
    split job false false at claims t = absurd cc

pub begun_known : (start : Start) (log : List CoreEntry) → start.count < 2 ^ 64 → IsLegal start log
    → (job : JobId) → is_begun log job ≡ true → IsKnown log job
begun_known start log fits legal job e =
    (legal_has start (IsBegunKnown start) (record { sound = no_sound start fits; known = λ j t. absurd cc })
    (λ l d p is. begun_step start l d p is) log legal).known job e
