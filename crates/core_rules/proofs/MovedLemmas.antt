-- A rule moves a job to a state that follows its own alone.
use Rattle.std.proofs.Common.{◌≡◌, List, [], ◌∷◌, Bool, true, false, cond, ◌&&◌, ◌||◌, map, Some, None}
use Rattle.std.proofs.Common.{refl, ap, ◌∙◌, sym, subst}
use Rattle.std.specs.Prelude.{if◌then◌else◌}
use Rattle.std.specs.List.{AllByRecursion, list_any, find}
use Rattle.std.proofs.lemmas.Bool.{false≢true}
use Rattle.core_rules.specs.declared.start.Start.{Start}
use Rattle.dist_types.specs.declared.addr.Addr.{Addr}
use Rattle.dist_types.specs.declared.ids.JobId.{JobId}
use Rattle.dist_types.specs.declared.results.JobState.{JobState}
use Rattle.core_rules.specs.declared.entry.CoreEntry.{CoreEntry}
use Rattle.core_rules.specs.declared.entry.CoreKind.{CoreKind}
use Rattle.core_rules.specs.declared.entry.CoreKind.TheVariants.{Beat, Reserve, Commit, Undo, Update}
use Rattle.core_rules.specs.declared.entry.CoreKind.TheVariants.{Status, Drain}
use Rattle.core_rules.specs.declared.entry.UpdateAnswer.TheVariants.{Accepted, Wrong, Transition}
use Rattle.core_rules.specs.declared.rows.OpenRow.{OpenRow}
use Rattle.core_rules.specs.Log.{same_job}
use Rattle.core_rules.specs.Reservation.{is_accepted}
use Rattle.core_rules.specs.Job.{Committed, commits, state_now, is_open, open_jobs}
use Rattle.core_rules.specs.Rows.{open_of, open_rows}
use Rattle.core_rules.specs.Advance.{follows, is_at, advance_by, advance}
use Rattle.core_rules.specs.Laws.{AreDistinct}
use Rattle.core_rules.proofs.LegalLemmas.{core_of}
use Rattle.core_rules.proofs.Lists.{list_any-map}
use Rattle.core_rules.proofs.AllLemmas.{and_left, and_right, both, same_job-sym, all-weaker, any-all, any-kept}
use Rattle.core_rules.proofs.AllLemmas.{each_same}
use Rattle.core_rules.proofs.StepLemmas.{MovesEachOn}
use Rattle.core_rules.proofs.FactLemmas.{Facts}

-- an update is accepted of an open job alone, whose state it follows
accepted_open : (p : OpenRow → Bool) (rows : List OpenRow) (server : Addr) (state : JobState)
    → is_accepted (advance_by (find p rows) server state) ≡ true
    → list_any (λ o. p o && follows o.state state) rows ≡ true
accepted_open p [] server state t = absurd (false≢true t)
accepted_open p (o ∷ rows) server state t = split (p o) refl (accepted_open p rows server state) t
  where
    by_state : (b : Bool) → is_accepted
        (if is_at o.server server then (if b then Accepted else Transition o.state) else Wrong) ≡ true
        → b ≡ true
    by_state true h = refl
    by_state false h = absurd
        (false≢true (elim (is_at o.server server) as
        (λ c. is_accepted (if c then Transition o.state else Wrong) ≡ true → false ≡ true) [
          | true ↦ λ x.
              x
          | false ↦ λ x. x
        ] h))

    split : (b : Bool) → p o ≡ b → (is_accepted (advance_by (find p rows) server state) ≡ true
        → list_any (λ o. p o && follows o.state state) rows ≡ true)
        → is_accepted (advance_by (cond b (Some o) (find p rows)) server state) ≡ true
        → ((p o && follows o.state state) || list_any (λ o. p o && follows o.state state) rows) ≡ true
    split true is rest h = ap (λ c. c || list_any (λ o. p o && follows o.state state) rows)
        (both (p o) (follows o.state state) is (by_state (follows o.state state) h))
    split false is rest h = ap
        (λ c. (c && follows o.state state) || list_any (λ o. p o && follows o.state state) rows) is ∙ rest h

-- so an open job of that id is in a state that it follows
pub accepted_job : (log : List CoreEntry) (server : Addr) (job : JobId) (state : JobState)
    → is_accepted (advance (open_rows log) server job state) ≡ true
    → list_any (λ c. same_job c.job job && follows (state_now c) state) (open_jobs log) ≡ true
accepted_job log server job state t =
    sym (list_any-map (λ o. same_job o.job job && follows o.state state) (open_of log) (open_jobs log))
    ∙ accepted_open (λ o. same_job o.job job) (open_rows log) server state t

-- what an entry moves is in a state that it follows
pub moved_on : (start : Start) (log : List CoreEntry) (k : CoreKind)
    → AreDistinct (map (λ c. c.job) (commits log)) → Facts (core_of start log) k → MovesEachOn log k
moved_on start log (Update server job state answer) distinct is =
    let q : Committed → Bool = λ c. follows (state_now c) state in
    let by : is_accepted answer ≡ true → AllByRecursion (λ c. same_job c.job job ≡ true → q c ≡ true)
    (commits log) =
    λ accepted. each_same (λ c. c.job) q job (commits log) distinct
    (any-kept (λ c. Unit {0}) (λ c. same_job c.job job && q c) (λ c. same_job c.job job) q
    (λ c u h. (and_left (same_job c.job job) (q c) h, and_right (same_job c.job job) (q c) h))
    (commits log) (all_unit (commits log))
    (any-all (λ c. same_job c.job job && q c) is_open (commits log)
    (accepted_job log server job state (ap is_accepted (sym is) ∙ accepted)))) in
    split (is_accepted answer) refl by
  where
    all_unit : (cs : List Committed) → AllByRecursion (λ c. Unit {0}) cs
    all_unit [] = tt
    all_unit (c ∷ cs) = (tt, all_unit cs)

    one : (c : Committed) → (same_job c.job job ≡ true → follows (state_now c) state ≡ true) → (to : JobState)
        → (b : Bool) → same_job job c.job ≡ b → cond b (Some state) None ≡ Some to
        → follows (state_now c) to ≡ true
    one c h to true same e = let st : state ≡ to = cc in subst (λ t. follows (state_now c) t ≡ true) st
        (h (same_job-sym job c.job same))
    one c h to false same e = cc

    split : (b : Bool) → is_accepted answer ≡ b
        → (is_accepted answer ≡ true
        → AllByRecursion (λ c. same_job c.job job ≡ true → follows (state_now c) state ≡ true) (commits log))
        → AllByRecursion (λ c. (to : JobState) → cond (is_accepted answer && same_job job c.job)
        (Some state) None ≡ Some to → follows (state_now c) to ≡ true) (commits log)
    split true acc by = all-weaker (λ c. same_job c.job job ≡ true → follows (state_now c) state ≡ true)
        (λ c. (to : JobState) → cond (is_accepted answer && same_job job c.job) (Some state) None ≡ Some to
        → follows (state_now c) to ≡ true)
        (λ c h to e. one c h to (same_job job c.job) refl
        (ap (λ b. cond (b && same_job job c.job) (Some state) None) (sym acc) ∙ e)) (commits log) (by acc)
    split false acc by = all-weaker (λ c. Unit {0})
        (λ c. (to : JobState) → cond (is_accepted answer && same_job job c.job) (Some state) None ≡ Some to
        → follows (state_now c) to ≡ true)
        (λ c h to e. let none : None ≡ Some to = ap (λ b. cond (b && same_job job c.job) (Some state) None)
        (sym acc) ∙ e in cc) (commits log) (all_unit (commits log))
moved_on start log (Reserve r) distinct is = unmoved (commits log)
  where
    unmoved : (cs : List Committed)
        → AllByRecursion (λ c. (to : JobState) → None ≡ Some to → follows (state_now c) to ≡ true) cs
    unmoved [] = tt
    unmoved (c ∷ cs) = ((λ to e. cc), unmoved cs)
moved_on start log (Commit job state is_kept) distinct is = unmoved (commits log)
  where
    unmoved : (cs : List Committed)
        → AllByRecursion (λ c. (to : JobState) → None ≡ Some to → follows (state_now c) to ≡ true) cs
    unmoved [] = tt
    unmoved (c ∷ cs) = ((λ to e. cc), unmoved cs)
moved_on start log (Undo job noted was_ended) distinct is = unmoved (commits log)
  where
    unmoved : (cs : List Committed)
        → AllByRecursion (λ c. (to : JobState) → None ≡ Some to → follows (state_now c) to ≡ true) cs
    unmoved [] = tt
    unmoved (c ∷ cs) = ((λ to e. cc), unmoved cs)
moved_on start log (Beat server nonce cpus key pruned reaped replaced is_new) distinct is =
    unmoved (commits log)
  where
    unmoved : (cs : List Committed)
        → AllByRecursion (λ c. (to : JobState) → None ≡ Some to → follows (state_now c) to ≡ true) cs
    unmoved [] = tt
    unmoved (c ∷ cs) = ((λ to e. cc), unmoved cs)
moved_on start log (Status pruned servers cpus n) distinct is = unmoved (commits log)
  where
    unmoved : (cs : List Committed)
        → AllByRecursion (λ c. (to : JobState) → None ≡ Some to → follows (state_now c) to ≡ true) cs
    unmoved [] = tt
    unmoved (c ∷ cs) = ((λ to e. cc), unmoved cs)
moved_on start log (Drain addr nonce on named) distinct is = unmoved (commits log)
  where
    unmoved : (cs : List Committed)
        → AllByRecursion (λ c. (to : JobState) → None ≡ Some to → follows (state_now c) to ≡ true) cs
    unmoved [] = tt
    unmoved (c ∷ cs) = ((λ to e. cc), unmoved cs)
