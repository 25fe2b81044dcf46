-- The table of held jobs, as a map in the order of the jobs.
use Rattle.std.proofs.Common.{◌≡◌, ℕ, ◌<◌, Bool, true, false, cond, List, [], ◌∷◌, Option, Some, None, refl}
use Rattle.std.proofs.Common.{sym, ◌∙◌, ap, arith}
use Rattle.std.specs.Prelude.{nat_lt, ◌==◌, not, filter}
use Rattle.std.specs.List.{AllByRecursion}
use Rattle.std.specs.List.Sorted.{IsStrictlySortedBy}
use Rattle.std.specs.Map.{keys_of, remove_entry}
use Rattle.std.specs.Ordering.{nat_cmp, is_eq, match_ordering}
use Rattle.std.specs.BTreeMap.{insert_entry, is_at}
use Rattle.std.specs.declared.cmp.Ordering.{Ordering}
use Rattle.std.specs.declared.cmp.Ordering.TheVariants.{Less, Equal, Greater}
use Rattle.std.proofs.lemmas.Bool.Decides.{nat_tests}
use Rattle.dist_types.specs.declared.ids.JobId.{JobId}
use Rattle.build_server.specs.Books.{Table, is_job, held_for, placed, without_job, AreRising}

-- a look-up that finds nothing went past each entry
passed : (b : Bool) (x : List ℕ) (rest : Option (List ℕ)) → cond b (Some x) rest ≡ None → b ≡ false
passed true x rest e = cc
passed false x rest e = refl

rest_of : (b : Bool) (x : List ℕ) (rest : Option (List ℕ)) → cond b (Some x) rest ≡ None → rest ≡ None
rest_of true x rest e = cc
rest_of false x rest e = e

-- where two numbers differ, one of them is below the other
by_tests : {X : Type 0} → (less same : Bool) (x y z : X) → same ≡ false
    → match_ordering (cond less Less (cond same Equal Greater)) x y z ≡ cond less x z
by_tests true same x y z e = refl
by_tests false true x y z e = cc
by_tests false false x y z e = refl

module _ (cmp : JobId → JobId → Ordering) (is : (a b : JobId) → cmp a b ≡ nat_cmp a.0 b.0) where
  -- a job that is not held goes to its place
  pub inserted : (es : Table) (job : JobId) (tc : List ℕ) → held_for job es ≡ None
      → insert_entry cmp es job tc ≡ placed job tc es
  inserted [] job tc free = refl
  inserted (e ∷ es) job tc free =
      ap (λ o. match_ordering o ((job, tc) ∷ e ∷ es) ((e.0, tc) ∷ es) (e ∷ insert_entry cmp es job tc))
      (is job e.0)
      ∙ by_tests (nat_lt job.0 e.0.0) (job.0 == e.0.0) _ _ _ (passed _ _ _ free)
      ∙ ap (λ rest. cond (nat_lt job.0 e.0.0) ((job, tc) ∷ e ∷ es) (e ∷ rest))
      (inserted es job tc (rest_of _ _ _ free))

  -- a job is found by its number
  pub at_job : (job other : JobId) → is_at (cmp job) other ≡ is_job job other
  at_job job other = ap is_eq (is job other) ∙ at_number job.0 other.0
    where
      by_cases : (less same : Bool) → (less ≡ true → same ≡ false)
          → is_eq (cond less Less (cond same Equal Greater)) ≡ same
      by_cases true same e = sym (e refl)
      by_cases false true e = refl
      by_cases false false e = refl

      at_number : (a b : ℕ) → is_eq (nat_cmp a b) ≡ (a == b)
      at_number a b = by_cases (nat_lt a b) (a == b) (λ e. grind (arith, nat_tests))

  above : (job other : JobId) → cmp job other ≡ Less → job.0 < other.0
  above job other e = let f : nat_cmp job.0 other.0 ≡ Less = sym (is job other) ∙ e in
      below (nat_lt job.0 other.0) (job.0 == other.0) job.0 other.0 refl f
    where
      below : (less same : Bool) (a b : ℕ) → nat_lt a b ≡ less
          → cond less Less (cond same Equal Greater) ≡ Less → a < b
      below true same a b e f = grind (arith, nat_tests)
      below false true a b e f = cc
      below false false a b e f = cc

  all_above : (job : JobId) (es : Table) → AllByRecursion (λ k. cmp job k ≡ Less) (keys_of es)
      → AllByRecursion (λ h. job.0 < h.0.0) es
  all_above job [] a = tt
  all_above job (e ∷ es) a = (above job e.0 a.0, all_above job es a.1)

  pub rising : (es : Table) → IsStrictlySortedBy cmp (keys_of es) → AreRising es
  unfolding IsStrictlySortedBy
  rising [] a = tt
  rising (e ∷ es) a = (all_above e.0 es a.0, rising es a.1)

  -- no later job is one that is found
  none_above : (job : JobId) (n : ℕ) (es : Table) → job.0 ≡ n → AllByRecursion (λ h. n < h.0.0) es
      → without_job job es ≡ es
  none_above job n [] e a = refl
  none_above job n (h ∷ hs) e a =
      let f : (job.0 == h.0.0) ≡ false = grind (arith, nat_tests, a.0) in
      ap (λ b. cond (not b) (h ∷ filter (λ h. not (is_job job h.0)) hs)
      (filter (λ h. not (is_job job h.0)) hs)) f ∙ ap (λ rest. h ∷ rest) (none_above job n hs e a.1)

  removed_by : (b : Bool) (job : JobId) (e : JobId × List ℕ) (es : Table) → (job.0 == e.0.0) ≡ b
      → AllByRecursion (λ h. e.0.0 < h.0.0) es → remove_entry (is_at (cmp job)) es ≡ without_job job es
      → cond b es (e ∷ remove_entry (is_at (cmp job)) es)
      ≡ cond (not b) (e ∷ without_job job es) (without_job job es)
  removed_by true job e es t a rest = sym (none_above job e.0.0 es (grind (arith, nat_tests)) a)
  removed_by false job e es t a rest = ap (λ r. e ∷ r) rest

  -- a job is taken out
  pub removed : (es : Table) (job : JobId) → IsStrictlySortedBy cmp (keys_of es)
      → remove_entry (is_at (cmp job)) es ≡ without_job job es
  unfolding IsStrictlySortedBy
  removed [] job a = refl
  removed (e ∷ es) job a =
      ap (λ b. cond b es (e ∷ remove_entry (is_at (cmp job)) es)) (at_job job e.0)
      ∙ removed_by (job.0 == e.0.0) job e es refl (all_above e.0 es a.0) (removed es job a.1)
