-- A job that is ready became so at some moment.
use Rattle.std.proofs.Common.{◌≡◌, ℕ, List, Bool, true, false, cond, ◌&&◌, Option, Some, None}
use Rattle.std.proofs.Common.{refl, ap, ◌∙◌, sym, unwrap_or}
use Rattle.std.specs.Prelude.{is_some}
use Rattle.std.specs.Option.{option_map}
use Rattle.dist_types.specs.declared.ids.JobId.{JobId}
use Rattle.dist_types.specs.declared.results.JobState.{JobState}
use Rattle.dist_types.specs.declared.results.JobState.TheVariants.{Pending, Ready, Started, Complete}
use Rattle.core_rules.specs.declared.entry.CoreEntry.{CoreEntry}
use Rattle.core_rules.specs.declared.entry.CoreKind.{CoreKind}
use Rattle.core_rules.specs.declared.entry.CoreKind.TheVariants.{Beat, Reserve, Commit, Undo, Update, Status}
use Rattle.core_rules.specs.declared.entry.CoreKind.TheVariants.{Drain}
use Rattle.core_rules.specs.Log.{newer, same_job}
use Rattle.core_rules.specs.Reservation.{is_accepted}
use Rattle.core_rules.specs.Job.{is_ready, readied_by, ready_at, state_of}
use Rattle.core_rules.specs.Next.{state_after}
use Rattle.core_rules.proofs.GrowLemmas.{grow_has}
use Rattle.core_rules.proofs.KeptLemmas.{state_of-push, ready_at-push}

-- a state and a moment: where the state is ready, there is the moment
abbrev HasMoment : Option JobState → Option ℕ → Type 0
HasMoment state moment = state ≡ Some Ready → is_some moment ≡ true

kept_moment : (state : Option JobState) (moment : Option ℕ) → HasMoment state moment
    → HasMoment (newer None (option_map (λ s. unwrap_or None s) state)) (newer None moment)
kept_moment None moment has is = cc
kept_moment (Some s) moment has is = has is

begun_moment : (b : Bool) (s : JobState) (now : ℕ) (state : Option JobState) (moment : Option ℕ)
    → HasMoment state moment → HasMoment
    (newer (cond b (Some s) None) (option_map (λ t. unwrap_or None t) state))
    (newer (cond (b && is_ready s) (Some now) None) moment)
begun_moment false s now state moment has is = kept_moment state moment has is
begun_moment true Ready now state moment has is = refl
begun_moment true Pending now state moment has is = cc
begun_moment true Started now state moment has is = cc
begun_moment true Complete now state moment has is = cc

moved_moment : (b : Bool) (s : JobState) (now : ℕ) (state : Option JobState) (moment : Option ℕ)
    → HasMoment state moment → HasMoment
    (newer None (option_map (λ t. unwrap_or (cond b (Some s) None) t) state))
    (newer (cond (b && is_ready s) (Some now) None) moment)
moved_moment false s now state moment has is = kept_moment state moment has is
moved_moment true Ready now state moment has is = refl
moved_moment true Pending now None moment has is = cc
moved_moment true Pending now (Some t) moment has is = cc
moved_moment true Started now None moment has is = cc
moved_moment true Started now (Some t) moment has is = cc
moved_moment true Complete now None moment has is = cc
moved_moment true Complete now (Some t) moment has is = cc

swap_first : (a b c : Bool) → (a && b && c) ≡ ((a && c) && b)
swap_first true true c = and_end c
  where
    and_end : (c : Bool) → c ≡ (c && true)
    and_end true = refl
    and_end false = refl
swap_first true false true = refl
swap_first true false false = refl
swap_first false b c = refl

swap_last : (a b c : Bool) → (a && b && c) ≡ ((b && c) && a)
swap_last true true true = refl
swap_last true true false = refl
swap_last true false c = refl
swap_last false true true = refl
swap_last false true false = refl
swap_last false false c = refl

next_moment : (k : CoreKind) (now : ℕ) (job : JobId) (state : Option JobState) (moment : Option ℕ)
    → HasMoment state moment → HasMoment (state_after k job state) (newer (readied_by k now job) moment)
next_moment (Commit j s kept) now job state moment has is =
    ap (λ b. is_some (newer (cond b (Some now) None) moment)) (swap_first kept (is_ready s) (same_job j job))
    ∙ begun_moment (kept && same_job j job) s now state moment has is
next_moment (Update server j s answer) now job state moment has is =
    ap (λ b. is_some (newer (cond b (Some now) None) moment))
    (swap_last (is_ready s) (is_accepted answer) (same_job j job))
    ∙ moved_moment (is_accepted answer && same_job j job) s now state moment has is
next_moment (Beat server nonce cpus key pruned reaped replaced is_new) now job state moment has is =
    kept_moment state moment has is
next_moment (Reserve r) now job state moment has is = kept_moment state moment has is
next_moment (Undo j noted was_ended) now job state moment has is = kept_moment state moment has is
next_moment (Status pruned servers cpus jobs) now job state moment has is = kept_moment state moment has is
next_moment (Drain addr nonce on named) now job state moment has is = kept_moment state moment has is

pub ready_moment : (job : JobId) (entries : List CoreEntry) → state_of job entries ≡ Some Ready
    → is_some (ready_at job entries) ≡ true
ready_moment job entries =
    grow_has (λ l. HasMoment (state_of job l) (ready_at job l)) (λ is. cc)
    (λ l e has is. ap is_some (ready_at-push job l e)
    ∙ next_moment e.kind e.now job (state_of job l) (ready_at job l) has
    (sym (state_of-push job l e) ∙ is)) entries
