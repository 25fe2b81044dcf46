-- The ids that a life gives are of its range.
use Rattle.std.proofs.Common.{◌≡◌, ℕ, ◌+◌, ◌-◌, ◌%◌, ◌^◌, ◌<◌, ◌≤◌, ◌||◌, List, [], ◌∷◌, length, map, filter, Bool}
use Rattle.std.proofs.Common.{take, true, false, cond, Option, Some, None, refl, sym, ap, subst, ◌∙◌, arith}
use Rattle.std.specs.Prelude.{slice_get}
use Rattle.std.specs.List.{list_any}
use Rattle.dist_types.specs.declared.addr.Addr.{Addr}
use Rattle.dist_types.specs.declared.ids.JobId.{JobId}
use Rattle.dist_types.specs.declared.results.JobState.{JobState}
use Rattle.core_rules.specs.Job.{Committed, commits, state_now, state_of}
use Rattle.core_rules.specs.Laws.{IsLegal}
use Rattle.core_rules.specs.Log.{newest, same_job}
use Rattle.core_rules.specs.declared.entry.CoreEntry.{CoreEntry}
use Rattle.core_rules.specs.declared.start.Start.{Start}
use Rattle.core_rules.proofs.AllLemmas.{found, same_job-eq}
use Rattle.core_rules.proofs.HeldLemmas.{IsPast, legal_sound}
use Rattle.core_rules.proofs.Lists.{list_any-map}
use Rattle.core_rules.proofs.SoundLemmas.{jobs}
use Rattle.core_rules.proofs.StepLemmas.{bare_commit, kept}
use Rattle.farm_entries.specs.Builds.{IsBuild}
use Rattle.farm_entries.specs.Seen.{core_log, ids_start}
use Rattle.farm_entries.specs.declared.entry.Entry.{Entry}
use Rattle.lives.specs.Lives.{Lived, IsLived, base_of, given_before}
use Rattle.lives_script.specs.Ids.{IsIn, IsRange}
use Rattle.lives_script.specs.Place.{ids_of}
use lib.Seq.{take_all}

-- where the newest of those that pass is there, one passes
any_newest : {X Y : Type 0} (f : X → Y) (p : X → Bool) (xs : List X) (y : Y)
    → newest None (map f (filter p xs)) ≡ Some y → list_any p xs ≡ true
any_newest f p [] y e = absurd cc
any_newest {X} {Y} f p (x ∷ xs) y e = split (p x) (any_newest f p xs y) e
  where
    split : (b : Bool) → (newest None (map f (filter p xs)) ≡ Some y → list_any p xs ≡ true)
        → newest None (map f (cond b (x ∷ filter p xs) (filter p xs))) ≡ Some y → (b || list_any p xs) ≡ true
    split true rest h = refl
    split false rest h = rest h

-- a job that has a state was reserved, so it has an id behind those that were given before
pub given_of : (start : Start) (log : List CoreEntry) (job : JobId) (s : JobState) → start.count < 2 ^ 64
    → IsLegal start log → state_of job log ≡ Some s
    → (k : ℕ) × (start.count + k + 1 < 2 ^ 64) × (job.0 ≡ (start.base + (start.count + k)) % 2 ^ 64)
given_of start log job s fits legal is =
    let sound = legal_sound start log fits legal in
    let there : list_any (λ c. same_job c.job job) (kept log) ≡ true =
    list_any-map (λ c. same_job c.job job) bare_commit (commits log)
    ∙ any_newest state_now (λ c. same_job c.job job) (commits log) s is in
    let one = found (λ c. IsPast log c.job) (λ c. same_job c.job job) (kept log) sound.kept_past there in
    let id = found _ (λ k. same_job k one.0.job) (jobs log) sound.ids.given one.1.0 in
    let same : id.0 ≡ job = same_job-eq id.0 one.0.job id.2 ∙ same_job-eq one.0.job job one.2 in
    let less = id.1.1 in
    let few = sound.ids.fits in
    (id.1.0, omega (arith, less, few), ap (λ (j : JobId). j.0) (sym same) ∙ id.1.2)

-- so many ids behind those that were given before stands the same id of the range
in_range : (from count k id base given : ℕ) → count < 2 ^ 64 → base ≡ base_of from count
    → given ≡ given_before count → given + k + 1 < 2 ^ 64 → id ≡ (base + (given + k)) % 2 ^ 64
    → (k < count) × (id ≡ (from + k) % 2 ^ 64)
in_range from count k id base given fits base_is given_is few is =
    (omega (arith, fits, given_is, few), omega (arith, fits, base_is, given_is, few, is))

-- the ids of a farm are those of the life
pub record HasIds (l : Lived) : Type 0 where
  pub base : l.site.scheduler.base ≡ base_of l.life.from l.life.count
  pub given : l.site.scheduler.count ≡ given_before l.life.count

-- what is built in a life is of its range
pub built_in : (l : Lived) (m : ℕ) (e : Entry) (server : Addr) (job : JobId) → IsLived l → HasIds l
    → IsRange (ids_of l.life) → slice_get l.entries m ≡ Some e → IsBuild e server job
    → IsIn job.0 (ids_of l.life)
built_in l m e server job lived ids range at build =
    let n = length l.entries in
    let all = take_all n l.entries (omega arith) in
    let started = lived.builds.started n m e server job
    (subst (λ (es : List Entry). slice_get es m ≡ Some e) (sym all) at) build in
    let count_fits = range.count_fits in
    let given = ids.given in
    let fits : l.site.scheduler.count < 2 ^ 64 = omega (arith, given) in
    let front = take started.delivery (take n l.entries) in
    let legal : IsLegal (ids_start l.site) (core_log front) =
    subst (λ (es : List Entry). IsLegal (ids_start l.site)
    (core_log (take started.delivery es))) (sym all)
    (lived.lawful started.delivery).legal in
    let k = given_of (ids_start l.site) (core_log front) job _ fits legal started.starts.was in
    let is = in_range l.life.from l.life.count k.0 job.0 l.site.scheduler.base l.site.scheduler.count
    count_fits ids.base given k.1 k.2 in
    (k.0, is.0, is.1)
