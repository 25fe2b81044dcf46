-- A life gives the ids of its range in their order, and says that they are spent exactly after the last of them.
use Rattle.std.proofs.Common.{◌≡◌, inl, inr, ℕ, zero, suc, ◌+◌, ◌-◌, ◌%◌, ◌^◌, ◌<◌, ◌≤◌, ◌==◌, List, [], ◌∷◌, ◌++◌, length, map, take}
use Rattle.std.proofs.Common.{Bool, true, false, Option, Some, None, refl, sym, ap, subst, ◌∙◌, arith, append-nil}
use Rattle.std.specs.Prelude.{slice_get, option_to_list, if◌then◌else◌}
use Rattle.std.specs.List.{AllByRecursion}
use Rattle.std.specs.Option.{option_map}
use Rattle.std.proofs.lemmas.Bool.{cases_lt, eqb-true, false≢true}
use Rattle.std.proofs.lemmas.List.{length-map}
use Rattle.dist_types.specs.declared.ids.JobId.{JobId}
use Rattle.core_rules.specs.Cuts.{Cut, cuts}
use Rattle.core_rules.specs.Laws.{IsRule, IsLegal}
use Rattle.core_rules.specs.Log.{Core}
use Rattle.core_rules.specs.Pick.{pick, forgiven}
use Rattle.core_rules.specs.Reservation.{Booking, booked_by, bookings}
use Rattle.core_rules.specs.Rows.{servers_of}
use Rattle.core_rules.specs.Rule.{rule, reserved_at}
use Rattle.core_rules.specs.declared.call.Call.{Call}
use Rattle.core_rules.specs.declared.call.Call.TheVariants as call
use Rattle.core_rules.specs.declared.entry.CoreEntry.{CoreEntry}
use Rattle.core_rules.specs.declared.entry.CoreKind.{CoreKind}
use Rattle.core_rules.specs.declared.entry.CoreKind.TheVariants.{Beat, Reserve, Commit, Undo, Update, Status, Drain}
use Rattle.core_rules.specs.declared.entry.Reserved.TheVariants.{Job, NoRoom, Spent}
use Rattle.core_rules.specs.declared.rows.ServerRow.{ServerRow}
use Rattle.core_rules.specs.declared.start.Start.{Start}
use Rattle.core_rules.proofs.AllLemmas.{all-append, all-map}
use Rattle.core_rules.proofs.FactLemmas.{Facts, facts, given}
use Rattle.core_rules.proofs.LegalLemmas.{core_of, legal_has}
use Rattle.core_rules.proofs.Lists.{followed, cuts_behind-push, end_cut}
use Rattle.core_rules.proofs.SoundLemmas.{jobs, jobs-push, legal_ids}
use Rattle.farm_entries.specs.Seen.{core_log, ids_start}
use Rattle.farm_entries.specs.declared.entry.Entry.{Entry}
use Rattle.farm_run.proofs.BeginLemmas.{get_left, get_end}
use Rattle.farm_entries.specs.Sites.{site_of}
use Rattle.lives.specs.Lives.{Lived, IsLived, AreLives, GivesIds, says_spent}
use Rattle.lives.proofs.GivenLemmas.{HasIds}
use Rattle.lives.proofs.TurnLemmas.{all_ids}
use Rattle.lives_script.specs.Ids.{IsRange}
use Rattle.lives_script.specs.Place.{ids_of}
use Rattle.lives_script.specs.declared.script.Life.{Life}
use Rattle.lives_script.specs.declared.script.Script.{Script}
use lib.Seq.{take_all}

-- ---- the ids in their order

abbrev IsIdAt : Start → ℕ → JobId → Type 0
IsIdAt start k job = job.0 ≡ (start.base + (start.count + k)) % 2 ^ 64

abbrev InOrder : Start → List JobId → Type 0
InOrder start js = (k : ℕ) (j : JobId) → slice_get js k ≡ Some j → IsIdAt start k j

order_made : (start : Start) (log : List CoreEntry) (kind : CoreKind) (number now : ℕ) → InOrder start (jobs log)
    → Facts (core_of start log) kind
    → InOrder start (jobs log ++ option_to_list (option_map (λ b. b.job) (booked_by kind number now [])))
order_made start log (Reserve (Job job reg forgiven)) number now old is = λ k j at.
    elim (cases_lt k (length (jobs log))) [
      | inl before ↦ old k j (sym (get_left (jobs log) job k before) ∙ at)
      | inr past ↦
          let e = get_end (jobs log) job j k past at in
          let size : length (bookings log) ≡ k = sym (e.0 ∙ length-map (bookings log) (λ b. b.job)) in
          ap (λ (i : JobId). i.0) (sym e.1) ∙ is.id
          ∙ ap (λ (n : ℕ). (start.base + (start.count + n)) % 2 ^ 64) size
    ]
order_made start log (Reserve (NoRoom n)) number now old is =
    subst (InOrder start) (sym (append-nil (jobs log))) old
order_made start log (Reserve Spent) number now old is =
    subst (InOrder start) (sym (append-nil (jobs log))) old
order_made start log (Beat server nonce cpus key pruned reaped replaced is_new) number now old is =
    subst (InOrder start) (sym (append-nil (jobs log))) old
order_made start log (Commit job state is_kept) number now old is =
    subst (InOrder start) (sym (append-nil (jobs log))) old
order_made start log (Undo job noted was_ended) number now old is =
    subst (InOrder start) (sym (append-nil (jobs log))) old
order_made start log (Update server job state answer) number now old is =
    subst (InOrder start) (sym (append-nil (jobs log))) old
order_made start log (Status pruned servers cpus n) number now old is =
    subst (InOrder start) (sym (append-nil (jobs log))) old
order_made start log (Drain addr nonce on named) number now old is =
    subst (InOrder start) (sym (append-nil (jobs log))) old

no_order : (start : Start) → InOrder start []
no_order start k j at = absurd cc

legal_order : (start : Start) (log : List CoreEntry) → IsLegal start log → InOrder start (jobs log)
legal_order start log legal = legal_has start (λ l. InOrder start (jobs l)) (no_order start)
    (λ l e old is. subst (InOrder start) (sym (jobs-push l e))
    (order_made start l e.kind (length l) e.now old (facts (core_of start l) e is))) log legal

-- ---- where they are spent

-- a reserve says that the ids are spent only where all are given
spent_by : (s : Core) (c : Call) → says_spent (rule s c).kind ≡ true → given s ≡ 2 ^ 64 - 1
spent_by s (call.Reserve now) h = by_pick (pick (servers_of s.log)) h
  where
    by_left : (row : ServerRow) (b : Bool) → (given s == 2 ^ 64 - 1) ≡ b
        → says_spent (Reserve (if b then Spent
        else Job (record { 0 = (s.start.base + given s) % 2 ^ 64 }) row.reg (forgiven now (servers_of s.log))))
        ≡ true
        → given s ≡ 2 ^ 64 - 1
    by_left row true e t = eqb-true (given s) (2 ^ 64 - 1) e
    by_left row false e t = absurd (false≢true t)

    by_pick : (o : Option ServerRow)
        → says_spent (Reserve (reserved_at o (servers_of s.log) now s.start.base (given s))) ≡ true
        → given s ≡ 2 ^ 64 - 1
    by_pick None t = absurd (false≢true t)
    by_pick (Some row) t = by_left row (given s == 2 ^ 64 - 1) refl t
spent_by s (call.Commit now number job state) h = absurd (false≢true h)
spent_by s (call.Undo now number job) h = absurd (false≢true h)
spent_by s (call.Beat now server nonce cpus key) h = absurd (false≢true h)
spent_by s (call.Update now server job state) h = absurd (false≢true h)
spent_by s (call.Status now) h = absurd (false≢true h)
spent_by s (call.Drain now server nonce on) h = absurd (false≢true h)

abbrev SpentAt : Start → Cut CoreEntry → Type 0
SpentAt start c = says_spent c.at.kind ≡ true → start.count + length (bookings c.before) ≡ 2 ^ 64 - 1

legal_spent : (start : Start) (log : List CoreEntry) → IsLegal start log → AllByRecursion (SpentAt start) (cuts log)
legal_spent start log legal = legal_has start (λ l. AllByRecursion (SpentAt start) (cuts l)) tt
    (λ l e old is. subst (AllByRecursion (SpentAt start)) (sym (cuts_behind-push [] l e))
    (all-append (SpentAt start) (map (followed e) (cuts l)) (end_cut l e ∷ [])
    (all-map (SpentAt start) (followed e) (cuts l) old)
    ((λ t. spent_by (core_of start l) is.0 (subst (λ (d : CoreEntry). says_spent d.kind ≡ true) is.2 t)), tt)))
    log legal

-- ---- of a life

at_job : (bs : List Booking) (k : ℕ) (b : Booking) → slice_get bs k ≡ Some b
    → slice_get (map (λ (c : Booking). c.job) bs) k ≡ Some b.job
at_job [] k b at = absurd cc
at_job (c ∷ cs) zero b at = ap (option_map (λ (d : Booking). d.job)) at
at_job (c ∷ cs) (suc k) b at = at_job cs k b at

id_is : (from count base before k id : ℕ) → count < 2 ^ 64 → base ≡ (from + count + 1) % 2 ^ 64
    → before ≡ 2 ^ 64 - 1 - count → before + k < 2 ^ 64 → id ≡ (base + (before + k)) % 2 ^ 64
    → id ≡ (from + k) % 2 ^ 64
id_is from count base before k id fits base_is before_is few is = omega (arith, fits, base_is, before_is, few, is)

within_jobs : {A : Type 0} (xs : List A) (k : ℕ) (x : A) → slice_get xs k ≡ Some x → k < length xs
within_jobs [] k x at = absurd cc
within_jobs (y ∷ ys) zero x at = omega arith
within_jobs (y ∷ ys) (suc k) x at = omega (arith, within_jobs ys k x at)

all_weaker : {X : Type 0} (P Q : X → Type 0) → ((x : X) → P x → Q x) → (xs : List X) → AllByRecursion P xs
    → AllByRecursion Q xs
all_weaker P Q h [] all = tt
all_weaker P Q h (x ∷ xs) all = (h x all.0, all_weaker P Q h xs all.1)

pub gives : (l : Lived) → IsLived l → HasIds l → IsRange (ids_of l.life) → GivesIds l
gives l lived ids range =
    let start = ids_start l.site in
    let log = core_log l.entries in
    let count_fits = range.count_fits in
    let before_is = ids.given in
    let fits : start.count < 2 ^ 64 = omega (arith, before_is) in
    let legal : IsLegal start log = subst (λ (es : List Entry). IsLegal start (core_log es))
    (take_all (length l.entries) l.entries (omega arith)) (lived.lawful (length l.entries)).legal in
    let has = legal_ids start log fits legal in
    let size = length-map (bookings log) (λ (b : Booking). b.job) in
    let all_fit = has.fits in record {
      each = λ k b at.
          let less = within_jobs (bookings log) k b at in
          id_is l.life.from l.life.count l.site.scheduler.base l.site.scheduler.count k b.job.0 count_fits ids.base
          before_is (omega (arith, less, size, all_fit))
          (legal_order start log legal k b.job (at_job (bookings log) k b at));
      few = omega (arith, before_is, size, all_fit, count_fits);
      spent = all_weaker (SpentAt start) (λ c. says_spent c.at.kind ≡ true → length (bookings c.before) ≡ l.life.count)
          (λ c is t. let full = is t in omega (arith, full, before_is, count_fits)) (cuts log)
          (legal_spent start log legal);
    }

each_gives : (ls : List Lived) → AllByRecursion IsLived ls → AllByRecursion HasIds ls
    → AllByRecursion (λ (life : Life). IsRange (ids_of life)) (map (λ (l : Lived). l.life) ls)
    → AllByRecursion GivesIds ls
each_gives [] lived ids ranges = tt
each_gives (l ∷ ls) lived ids ranges =
    (gives l lived.0 ids.0 ranges.0, each_gives ls lived.1 ids.1 ranges.1)

pub all_give : (s : Script) (lived : List Lived) → AllByRecursion (λ life. IsRange (ids_of life)) s.lives
    → AreLives s lived → AllByRecursion GivesIds lived
all_give s lived ranges are = each_gives lived are.each (all_ids (site_of s.setup) [] lived are.in_turn)
    (subst (AllByRecursion (λ (life : Life). IsRange (ids_of life))) (sym are.lives) ranges)
