-- What the core rule says of each kind of entry.
use Rattle.std.proofs.Common.{◌≡◌, ℕ, ◌+◌, ◌-◌, ◌^◌, ◌%◌, ◌≤◌, List, [], ◌∷◌, Bool, true, false, cond, filter}
use Rattle.std.proofs.Common.{length, Option, Some, None, refl, ap, ◌∙◌, sym, subst, eq-eqb}
use Rattle.std.specs.Prelude.{◌==◌, ◌||◌, if◌then◌else◌}
use Rattle.std.specs.List.{AllByRecursion, list_any, best_of}
use Rattle.dist_types.specs.declared.addr.Addr.{Addr}
use Rattle.dist_types.specs.declared.ids.JobId.{JobId}
use Rattle.core_rules.specs.declared.entry.CoreEntry.{CoreEntry}
use Rattle.core_rules.specs.declared.entry.CoreKind.{CoreKind}
use Rattle.core_rules.specs.declared.entry.CoreKind.TheVariants.{Beat, Reserve, Commit, Undo, Update}
use Rattle.core_rules.specs.declared.entry.CoreKind.TheVariants.{Status, Drain}
use Rattle.core_rules.specs.declared.entry.Reserved.TheVariants.{Job, NoRoom, Spent}
use Rattle.core_rules.specs.declared.rows.ServerRow.{ServerRow}
use Rattle.core_rules.specs.declared.call.Call.{Call}
use Rattle.core_rules.specs.declared.call.Call.TheVariants as call
use Rattle.core_rules.specs.Log.{Core}
use Rattle.core_rules.specs.Reservation.{bookings, unspent, unended}
use Rattle.core_rules.specs.Rows.{servers_of, held_rows, open_rows}
use Rattle.core_rules.specs.Pick.{pick, first_best, or_else, is_lighter, is_older, is_faultless, roomy}
use Rattle.core_rules.specs.Pick.{has_room, forgiven}
use Rattle.core_rules.specs.Prune.{prune, left, at_address}
use Rattle.core_rules.specs.Advance.{advance}
use Rattle.core_rules.specs.Rule.{rule, IsCall, is_among, is_initial, reserve_at, reaped_by, replaced_by}
use Rattle.core_rules.specs.Rule.{says_new, named_by}
use Rattle.dist_types.specs.declared.rules.Rules.TheVariants.{Two}
use Rattle.core_rules.specs.Laws.{IsRule}
use Rattle.core_rules.proofs.AllLemmas.{or_true, all-weaker, all-filter}

-- how many ids were given before
abbrev pub given : Core → ℕ
given s = s.start.count + length (bookings s.log)

-- a job is reserved under the next id at the pick
pub record JobFacts (s : Core) (job : JobId) (reg : ℕ) : Type 0 where
  pub id : job.0 ≡ (s.start.base + given s) % 2 ^ 64
  pub left : (given s == 2 ^ 64 - 1) ≡ false
  pub row : ServerRow
  pub picked : pick (servers_of s.log) ≡ Some row
  pub at : reg ≡ row.reg

-- a commit or an undo spends an unspent reservation, and says whether it is unended
pub record SpendFacts (s : Core) (job : JobId) (says : Bool) : Type 0 where
  pub number : ℕ
  pub unspent : is_among (unspent s.log) number job ≡ true
  pub says_held : says ≡ is_among (unended s.log) number job

-- a heartbeat says what the books give
pub record BeatFacts (s : Core) (server : Addr) (nonce cpus : ℕ) (pruned : List ℕ) (reaped : List JobId)
    (replaced : Option ℕ) (is_new : Bool) : Type 0 where
  pub now : ℕ
  pub some : 1 ≤ cpus
  pub pruned_are : pruned ≡ prune now (servers_of s.log)
  pub reaped_are : reaped ≡ reaped_by s.start.rules now nonce (held_rows s.log)
      (at_address server (left now (servers_of s.log)))
  pub replaced_is : replaced ≡ replaced_by nonce (at_address server (left now (servers_of s.log)))
  pub says : is_new ≡ says_new nonce (at_address server (left now (servers_of s.log)))

abbrev pub Facts : Core → CoreKind → Type 0
Facts s (Reserve (Job job reg forgiven)) = JobFacts s job reg
Facts s (Reserve (NoRoom n)) = (pick (servers_of s.log) ≡ None) × (n ≡ length (servers_of s.log))
Facts s (Reserve Spent) = Unit {0}
Facts s (Commit job state kept) = SpendFacts s job kept × (is_initial state ≡ true)
Facts s (Undo job noted ended) = SpendFacts s job ended
Facts s (Beat server nonce cpus key pruned reaped replaced is_new) =
    BeatFacts s server nonce cpus pruned reaped replaced is_new
Facts s (Update server job state answer) = answer ≡ advance (open_rows s.log) server job state
Facts s (Status pruned servers cpus jobs) = (now : ℕ) × (pruned ≡ prune now (servers_of s.log))
Facts s (Drain addr nonce on named) = (s.start.rules ≡ Two)
    × (named ≡ named_by nonce (at_address addr (servers_of s.log)))

fact_of : (s : Core) (c : Call) → IsCall s c → Facts s (rule s c).kind
fact_of s (call.Reserve now) is = split (pick (servers_of s.log)) refl
  where
    spend : (row : ServerRow) → pick (servers_of s.log) ≡ Some row → (b : Bool) → (given s == 2 ^ 64 - 1) ≡ b
        → Facts s (Reserve (if b then Spent else Job (record { 0 = (s.start.base + given s) % 2 ^ 64 })
        row.reg (forgiven now (servers_of s.log))))
    spend row e true f = tt
    spend row e false f = record { id = refl; left = f; row = row; picked = e; at = refl }

    split : (o : Option ServerRow) → pick (servers_of s.log) ≡ o
        → Facts s (reserve_at o (servers_of s.log) now s.start.base (given s)).kind
    split None e = (e, refl)
    split (Some row) e = spend row e (given s == 2 ^ 64 - 1) refl
fact_of s (call.Commit now number job state) is =
    (record { number = number; unspent = is.0; says_held = refl }, is.1)
fact_of s (call.Undo now number job) is = record { number = number; unspent = is; says_held = refl }
fact_of s (call.Beat now server nonce cpus key) is =
    record { now = now; some = is.0; pruned_are = refl; reaped_are = refl; replaced_is = refl; says = refl }
fact_of s (call.Update now server job state) is = refl
fact_of s (call.Status now) is = (now, refl)
fact_of s (call.Drain now addr nonce on) is = (is, refl)

-- the facts of a legal entry
pub facts : (s : Core) (e : CoreEntry) → IsRule s e → Facts s e.kind
facts s e is = subst (λ d. Facts s d.kind) (sym is.2) (fact_of s is.0 is.1)

-- the best of a list is one of it
pub best_has : {X : Type 0} (P : X → Type 0) (beats : X → X → Bool) (first : X) (xs : List X) → P first
    → AllByRecursion P xs → P (best_of beats first xs)
best_has P beats first [] p all = p
best_has P beats first (x ∷ xs) p all = best_has P beats (cond (beats x first) x first) xs
    (elim (beats x first) as (λ b. P (cond b x first)) [ true ↦ all.0 | false ↦ p ]) all.1

pub first_has : (P : ServerRow → Type 0) (beats : ServerRow → ServerRow → Bool) (rows : List ServerRow)
    (row : ServerRow) → AllByRecursion P rows → first_best beats rows ≡ Some row → P row
first_has P beats [] row all e = cc
first_has P beats (r ∷ rows) row all e = let same : best_of beats r rows ≡ row =
    cc in subst P same (best_has P beats r rows all.0 all.1)

-- what each registration with room has, the pick has
pub pick_has : (P : ServerRow → Type 0) (rows : List ServerRow) (row : ServerRow)
    → AllByRecursion P (roomy rows) → pick rows ≡ Some row → P row
pick_has P rows row all e = split (first_best is_lighter (filter is_faultless (roomy rows))) refl
  where
    other : first_best is_older (roomy rows) ≡ Some row → P row
    other f = first_has P is_older (roomy rows) row all f

    split : (o : Option ServerRow) → first_best is_lighter (filter is_faultless (roomy rows)) ≡ o → P row
    split None f = other (ap (λ o. or_else o (first_best is_older (roomy rows))) (sym f) ∙ e)
    split (Some r) f =
        let same : r ≡ row = (let g : Some r ≡ Some row = ap
        (λ o. or_else o (first_best is_older (roomy rows))) (sym f) ∙ e in cc) in
        first_has P is_lighter (filter is_faultless (roomy rows)) row
        (all-filter P P is_faultless (λ x h t. h) (roomy rows) all) (f ∙ ap (λ x. Some x) same)

-- each row is among the rows
pub all_there : (front rows : List ServerRow)
    → AllByRecursion (λ r. list_any (λ q. q.reg == r.reg) rows ≡ true) rows
all_there front [] = tt
all_there front (r ∷ rows) = (
  ap (λ b. b || list_any (λ q. q.reg == r.reg) rows) (eq-eqb r.reg r.reg refl),
  all-weaker (λ x. list_any (λ q. q.reg == x.reg) rows ≡ true)
      (λ x. list_any (λ q. q.reg == x.reg) (r ∷ rows) ≡ true)
      (λ x h. or_true (r.reg == x.reg) (list_any (λ q. q.reg == x.reg) rows) h) rows (all_there front rows),
)

room_there : (P : ServerRow → Type 0) (rows : List ServerRow) → AllByRecursion P rows
    → AllByRecursion (λ r. P r × (has_room r ≡ true)) (roomy rows)
room_there P rows all = all-filter P (λ r. P r × (has_room r ≡ true)) has_room (λ x h t. (h, t)) rows all

-- the pick is among the rows, and has room
pub pick_there : (rows : List ServerRow) (row : ServerRow) → pick rows ≡ Some row
    → (list_any (λ q. q.reg == row.reg) rows ≡ true) × (has_room row ≡ true)
pick_there rows row e = pick_has (λ r. (list_any (λ q. q.reg == r.reg) rows ≡ true) × (has_room r ≡ true))
    rows row (room_there (λ r. list_any (λ q. q.reg == r.reg) rows ≡ true) rows (all_there [] rows)) e
