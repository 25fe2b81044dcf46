-- What spends a reservation: a commit or an undo of its job. It makes no registration and no reservation, and
-- it is for one of those that are unspent.
use Rattle.std.proofs.Common.{◌≡◌, ℕ, List, Bool, true, ◌&&◌, Option, None, refl, ap, ◌∙◌}
use Rattle.std.specs.Prelude.{◌==◌}
use Rattle.std.specs.List.{list_any}
use Rattle.std.proofs.lemmas.Bool.{false≢true}
use Rattle.dist_types.specs.declared.ids.JobId.{JobId}
use Rattle.dist_types.specs.declared.results.JobState.{JobState}
use Rattle.core_rules.specs.declared.entry.CoreKind.{CoreKind}
use Rattle.core_rules.specs.declared.entry.CoreKind.TheVariants.{Reserve, Commit, Undo, Beat, Update}
use Rattle.core_rules.specs.declared.entry.CoreKind.TheVariants.{Status, Drain}
use Rattle.core_rules.specs.Next.{UnspentRow}
use Rattle.core_rules.specs.Log.{same_job}
use Rattle.sched_core.specs.Books.{HasJobRoom}
use Rattle.core_rules.specs.Reservation.{spends_by}
use Rattle.core_rules.specs.Rule.{undo_by}
use Rattle.sched_core.specs.Books.{MayRegister, MakesNothing, key_by}
use Rattle.core_rules.proofs.AllLemmas.{and_right, any-weaker, same_job-sym, same_job-trans}

-- an entry that spends one of the reservations
abbrev pub SpendsOne : CoreKind → List UnspentRow → Type 0
SpendsOne (Commit job state kept) unspent = list_any (λ u. same_job job u.job) unspent ≡ true
SpendsOne (Undo job noted was_ended) unspent = list_any (λ u. same_job job u.job) unspent ≡ true
SpendsOne other unspent = ⊥

-- what holds of each commit and each undo of a job holds of what spends it
by_spender : (P : CoreKind → Type 0) (job : JobId)
    → ((j : JobId) (state : JobState) (kept : Bool) → same_job j job ≡ true → P (Commit j state kept))
    → ((j : JobId) (noted : Option ℕ) (ended : Bool) → same_job j job ≡ true → P (Undo j noted ended))
    → (kind : CoreKind) → spends_by kind job ≡ true → P kind
by_spender P job commits undoes (Commit j state kept) spends = commits j state kept spends
by_spender P job commits undoes (Undo j noted ended) spends = undoes j noted ended spends
by_spender P job commits undoes (Reserve reserved) spends = absurd (false≢true spends)
by_spender P job commits undoes (Beat server nonce cpus key pruned reaped replaced is_new) spends =
    absurd (false≢true spends)
by_spender P job commits undoes (Update server j state answer) spends = absurd (false≢true spends)
by_spender P job commits undoes (Status pruned servers cpus jobs) spends = absurd (false≢true spends)
by_spender P job commits undoes (Drain addr nonce on named) spends = absurd (false≢true spends)

-- what makes nothing brings no key, and wants no room
pub record IsQuiet (kind : CoreKind) : Type 0 where
  pub key : (number : ℕ) → None ≡ key_by kind number
  pub row : MayRegister kind → ⊥
  pub job : (room : Option ℕ) → HasJobRoom kind room

pub quiet : (kind : CoreKind) → MakesNothing kind → IsQuiet kind
quiet (Commit job state kept) none = record { key = λ n. refl; row = λ may. may; job = λ room. tt }
quiet (Undo job noted was_ended) none = record { key = λ n. refl; row = λ may. may; job = λ room. tt }
quiet (Update server job state answer) none = record { key = λ n. refl; row = λ may. may; job = λ room. tt }
quiet (Status pruned servers cpus n) none = record { key = λ n. refl; row = λ may. may; job = λ room. tt }
quiet (Drain server nonce on named) none = record { key = λ n. refl; row = λ may. may; job = λ room. tt }
quiet (Reserve reserved) none = absurd none
quiet (Beat server nonce cpus key pruned reaped replaced is_new) none = absurd none

module _ (job : JobId) (kind : CoreKind) (spends : spends_by kind job ≡ true) where
  pub spends_quietly : IsQuiet kind
  spends_quietly = quiet kind (by_spender MakesNothing job (λ j state kept same. tt)
      (λ j noted ended same. tt) kind spends)

  -- the test of the number and the job finds one that it spends
  pub spends_one : (us : List UnspentRow) (number : ℕ)
      → list_any (λ u. (u.number == number) && same_job u.job job) us ≡ true → SpendsOne kind us
  spends_one us number some =
      let found : (j : JobId) → same_job j job ≡ true → list_any (λ u. same_job j u.job) us ≡ true =
      λ j same. any-weaker (λ u. (u.number == number) && same_job u.job job) (λ u. same_job j u.job)
      (λ u t. same_job-trans j job u.job same
      (same_job-sym u.job job (and_right (u.number == number) (same_job u.job job) t))) us some in
      by_spender (λ k. SpendsOne k us) job (λ j state kept same. found j same)
      (λ j noted ended same. found j same) kind spends

pub undo_same : (now : ℕ) (job : JobId) (noted other : Option ℕ) (ended gone : Bool) → noted ≡ other → ended ≡ gone
    → undo_by noted ended now job ≡ undo_by other gone now job
undo_same now job noted other ended gone same so =
    ap (λ n. undo_by n ended now job) same ∙ ap (λ b. undo_by other b now job) so
