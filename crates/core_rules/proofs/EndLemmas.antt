-- In each legal log a registration ends at most once.
use Rattle.std.proofs.Common.{◌≡◌, ℕ, ◌+◌, ◌^◌, ◌<◌, List, [], ◌∷◌, ◌++◌, Bool, true, false, cond, not, ◌||◌}
use Rattle.std.proofs.Common.{map, filter, length, Option, Some, None, refl, ap, ◌∙◌, sym, subst, arith}
use Rattle.std.proofs.Common.{append-nil, eqb-true, length-append}
use Rattle.std.specs.Prelude.{◌==◌, option_to_list, if◌then◌else◌}
use Rattle.std.specs.List.{AllByRecursion, list_any, filter_map, find}
use Rattle.std.proofs.lemmas.Bool.{false≢true}
use Rattle.std.proofs.lemmas.List.{map-append}
use Rattle.std.proofs.lemmas.List.Elements.{filter_map-append}
use Rattle.core_rules.specs.declared.start.Start.{Start}
use Rattle.core_rules.specs.Cuts.{Cut, cuts}
use Rattle.dist_types.specs.declared.ids.JobId.{JobId}
use Rattle.core_rules.proofs.Lists.{map-map, filter_map-map, followed, cuts_behind-push, end_cut, cons_nil}
use Rattle.core_rules.specs.declared.entry.CoreEntry.{CoreEntry}
use Rattle.core_rules.specs.declared.entry.CoreKind.{CoreKind}
use Rattle.core_rules.specs.declared.entry.CoreKind.TheVariants.{Beat, Reserve, Commit, Undo, Update}
use Rattle.core_rules.specs.declared.entry.CoreKind.TheVariants.{Status, Drain}
use Rattle.core_rules.specs.declared.rows.ServerRow.{ServerRow}
use Rattle.core_rules.specs.Log.{same_job, names, is_this}
use Rattle.core_rules.specs.Standing.{Registered, registered_by, registered_at, registrations, standing}
use Rattle.core_rules.specs.Standing.{stands, ends_by, ended}
use Rattle.core_rules.specs.Rows.{row_of, servers_of}
use Rattle.core_rules.specs.Prune.{prune, left, is_expired}
use Rattle.core_rules.specs.Rule.{replaced_by}
use Rattle.core_rules.specs.Laws.{IsRule, IsLegal, AreDistinct, EndsOnce}
use Rattle.core_rules.proofs.LegalLemmas.{core_of, legal_has}
use Rattle.core_rules.proofs.Lists.{list_any-map}
use Rattle.core_rules.proofs.StandingLemmas.{grown, registered-grown}
use Rattle.core_rules.proofs.AllLemmas.{or_true, not_true, true_false, is_false, all-weaker, all-both}
use Rattle.core_rules.proofs.AllLemmas.{all-append, all-map, any-all, distinct-push, each_own}
use Rattle.core_rules.proofs.FactLemmas.{Facts, facts, all_there}

-- numbers of registrations, as ids
abbrev num : ℕ → JobId
num n = record { 0 = n }

-- every registration, each with one more entry after it, and the one that the entry makes
registrations-push : (log : List CoreEntry) (e : CoreEntry) → registrations (log ++ e ∷ []) ≡ map (grown e)
    (registrations log) ++ option_to_list (registered_at (end_cut log e))
registrations-push log e =
    ap (filter_map registered_at) (cuts_behind-push [] log e)
    ∙ filter_map-append registered_at (map (followed e) (cuts log)) (end_cut log e ∷ [])
    ∙ ap (λ gs. gs ++ filter_map registered_at (end_cut log e ∷ []))
    (filter_map-map registered_at registered_at (followed e) (grown e)
    (λ c. registered-grown c.at.kind c.at.now c.before c.at c.after e) (cuts log))
    ∙ ap (λ gs. map (grown e) (registrations log) ++ gs) (cons_nil (registered_at (end_cut log e)))

-- what is found is among those
found_there : (p : ServerRow → Bool) (rows : List ServerRow) (row : ServerRow) → find p rows ≡ Some row
    → list_any (λ r. r.reg == row.reg) rows ≡ true
found_there p [] row e = cc
found_there p (r ∷ rows) row e = split (p r) refl e (found_there p rows row)
  where
    split : (b : Bool) → p r ≡ b → cond b (Some r) (find p rows) ≡ Some row
        → (find p rows ≡ Some row → list_any (λ r. r.reg == row.reg) rows ≡ true)
        → list_any (λ x. x.reg == row.reg) (r ∷ rows) ≡ true
    split true is f rest = let same : r ≡ row =
        cc in subst (λ x. list_any (λ q. q.reg == x.reg) (r ∷ rows) ≡ true) same (all_there [] (r ∷ rows)).0
    split false is f rest = or_true (r.reg == row.reg) (list_any (λ x. x.reg == row.reg) rows) (rest f)

-- what is pruned stands
pruned_there : (now : ℕ) (rows : List ServerRow) (reg : ℕ) → names (prune now rows) reg ≡ true
    → list_any (λ r. r.reg == reg) rows ≡ true
pruned_there now rows reg t = any-all (λ r. r.reg == reg) (is_expired now) rows
    (sym (list_any-map (λ n. n == reg) (λ r. r.reg) (filter (is_expired now) rows)) ∙ t)

-- what is replaced stands
replaced_there : (now nonce : ℕ) (rows : List ServerRow) (p : ServerRow → Bool) (reg : ℕ)
    → is_this (replaced_by nonce (find p (left now rows))) reg ≡ true
    → list_any (λ r. r.reg == reg) rows ≡ true
replaced_there now nonce rows p reg t = split (find p (left now rows)) refl t
  where
    split : (o : Option ServerRow) → find p (left now rows) ≡ o → is_this (replaced_by nonce o) reg ≡ true
        → list_any (λ r. r.reg == reg) rows ≡ true
    split None is h = absurd (false≢true h)
    split (Some row) is h =
        let there : list_any (λ r. r.reg == row.reg) rows ≡ true = any-all (λ r. r.reg == row.reg)
        (λ r. not (is_expired now r)) rows (found_there p (left now rows) row is) in
        elim (row.nonce == nonce) as (λ b. is_this (if b then None else Some row.reg) reg ≡ true
        → list_any (λ r. r.reg == reg) rows ≡ true) [
          | true ↦ λ k. absurd (false≢true k)
          | false ↦ λ k. subst (λ n. list_any (λ r. r.reg == n) rows ≡ true) (eqb-true row.reg reg k) there
        ] h

-- what an entry ends stands
ended_stands : (start : Start) (log : List CoreEntry) (k : CoreKind) → Facts (core_of start log) k
    → (reg : ℕ) → ends_by k reg ≡ true → list_any (λ r. r.reg == reg) (servers_of log) ≡ true
ended_stands start log (Beat server nonce cpus key pruned reaped replaced is_new) is reg t =
    split (names pruned reg) refl t
  where
    split : (b : Bool) → names pruned reg ≡ b → (b || is_this replaced reg) ≡ true
        → list_any (λ r. r.reg == reg) (servers_of log) ≡ true
    split true h u = pruned_there is.now (servers_of log) reg (ap (λ l. names l reg) (sym is.pruned_are) ∙ h)
    split false h u = replaced_there is.now nonce (servers_of log) _ reg
        (ap (λ o. is_this o reg) (sym is.replaced_is) ∙ u)
ended_stands start log (Status pruned servers cpus n) is reg t = pruned_there is.0 (servers_of log) reg
    (ap (λ l. names l reg) (sym is.1) ∙ t)
ended_stands start log (Drain addr nonce on named) is reg t = absurd (false≢true t)
ended_stands start log (Reserve r) is reg t = absurd (false≢true t)
ended_stands start log (Commit job state kept) is reg t = absurd (false≢true t)
ended_stands start log (Undo job noted was_ended) is reg t = absurd (false≢true t)
ended_stands start log (Update server job state answer) is reg t = absurd (false≢true t)

record Ends (log : List CoreEntry) : Type 0 where
  below : AllByRecursion (λ g. g.reg < length log) (registrations log)
  distinct : AreDistinct (map (λ g. num g.reg) (registrations log))
  once : AllByRecursion EndsOnce (registrations log)

new_reg : (now : ℕ) (k : CoreKind) (log : List CoreEntry) (at : CoreEntry)
    → AllByRecursion (λ g. (g.reg ≡ length log) × EndsOnce g) (option_to_list (registered_by k now log at []))
new_reg now (Beat server nonce cpus key pruned reaped replaced true) log at = ((refl, tt), tt)
new_reg now (Beat server nonce cpus key pruned reaped replaced false) log at = tt
new_reg now (Reserve r) log at = tt
new_reg now (Commit job state kept) log at = tt
new_reg now (Undo job noted was_ended) log at = tt
new_reg now (Update server job state answer) log at = tt
new_reg now (Status pruned servers cpus n) log at = tt
new_reg now (Drain addr nonce on named) log at = tt

distinct_more : (n : ℕ) (gs : List Registered) (o : Option Registered) → AllByRecursion (λ g. g.reg < n) gs
    → AreDistinct (map (λ g. num g.reg) gs) → AllByRecursion (λ g. g.reg ≡ n) (option_to_list o)
    → AreDistinct (map (λ g. num g.reg) gs ++ map (λ g. num g.reg) (option_to_list o))
distinct_more n gs None below distinct new = subst AreDistinct (sym (append-nil (map (λ g. num g.reg) gs)))
    distinct
distinct_more n gs (Some h) below distinct new = distinct-push (map (λ g. num g.reg) gs) (num h.reg) distinct
    (all-map (λ k. same_job k (num h.reg) ≡ false) (λ g. num g.reg) gs
    (all-weaker (λ g. g.reg < n) (λ g. same_job (num g.reg) (num h.reg) ≡ false)
    (λ g lt. is_false (g.reg == h.reg) (λ t. let e : g.reg ≡ h.reg = eqb-true g.reg h.reg t
    in let at = new.0 in omega (arith, e, at, lt))) gs below))

once-grown : (e : CoreEntry) (g : Registered) → EndsOnce g → (ends_by e.kind g.reg ≡ true → stands g ≡ true)
    → EndsOnce (grown e g)
once-grown e g old up =
    let P : Cut CoreEntry → Type 0 = λ c. ended c.before g.reg ≡ true → ends_by c.at.kind g.reg ≡ false in
    subst (AllByRecursion P) (sym (cuts_behind-push [] g.later e))
    (all-append P (map (followed e) (cuts g.later)) (end_cut g.later e ∷ [])
    (all-map P (followed e) (cuts g.later) old) (
      (λ gone. is_false (ends_by e.kind g.reg)
          (λ t. true_false (ended g.later g.reg) gone (not_true (ended g.later g.reg) (up t)))),
      tt,
    ))

ends-step : (start : Start) (log : List CoreEntry) (e : CoreEntry) → Ends log
    → IsRule (core_of start log) e → Ends (log ++ e ∷ [])
ends-step start log e old rule_is =
    let next : List CoreEntry = log ++ e ∷ [] in
    let made : Option Registered = registered_at (end_cut log e) in
    let longer : length next ≡ length log + 1 = length-append log (e ∷ []) in
    let is : Facts (core_of start log) e.kind = facts (core_of start log) e rule_is in
    let new : AllByRecursion (λ g. (g.reg ≡ length log) × EndsOnce g) (option_to_list made) =
    new_reg e.now e.kind log e in
    record {
      below = subst (AllByRecursion (λ g. g.reg < length next)) (sym (registrations-push log e))
          (all-append (λ g. g.reg < length next) (map (grown e) (registrations log)) (option_to_list made)
          (all-map (λ g. g.reg < length next) (grown e) (registrations log)
          (all-weaker (λ g. g.reg < length log) (λ g. g.reg < length next)
          (λ g lt. omega (arith, lt, longer)) (registrations log) old.below))
          (all-weaker (λ g. (g.reg ≡ length log) × EndsOnce g) (λ g. g.reg < length next)
          (λ g h. let here = h.0 in omega (arith, here, longer)) (option_to_list made) new));
      distinct = subst AreDistinct
          (sym (ap (map (λ g. num g.reg)) (registrations-push log e) ∙ map-append (λ g. num g.reg)
          (map (grown e) (registrations log)) (option_to_list made)
          ∙ ap (λ ns. ns ++ map (λ g. num g.reg) (option_to_list made))
          (map-map (λ g. num g.reg) (grown e) (registrations log))))
          (distinct_more (length log) (registrations log) made old.below old.distinct
          (all-weaker (λ g. (g.reg ≡ length log) × EndsOnce g) (λ g. g.reg ≡ length log) (λ g h. h.0)
          (option_to_list made) new));
      once = subst (AllByRecursion EndsOnce) (sym (registrations-push log e))
          (all-append EndsOnce (map (grown e) (registrations log)) (option_to_list made)
          (all-map EndsOnce (grown e) (registrations log)
          (all-both EndsOnce (λ g. list_any (λ h. same_job (num h.reg) (num g.reg)) (standing log) ≡ true
          → stands g ≡ true) (λ g. EndsOnce (grown e g))
          (λ g h own. once-grown e g h
          (λ t. own (sym (list_any-map (λ r. r.reg == g.reg) (row_of log) (standing log))
          ∙ ended_stands start log e.kind is g.reg t)))
          (registrations log) old.once (each_own (λ g. num g.reg) stands (registrations log) old.distinct)))
          (all-weaker (λ g. (g.reg ≡ length log) × EndsOnce g) EndsOnce (λ g h. h.1)
          (option_to_list made) new));
    }

pub legal_ends : (start : Start) (log : List CoreEntry) → start.count < 2 ^ 64 → IsLegal start log
    → AllByRecursion EndsOnce (registrations log)
legal_ends start log fits legal =
    (legal_has start Ends (record { below = tt; distinct = tt; once = tt })
    (ends-step start) log legal).once
