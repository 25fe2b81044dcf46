-- What a reserve costs in looks.
use Rattle.std.proofs.Common.{◌≡◌, ◌≤◌, ℕ, suc, ◌+◌, ◌*◌, ◌^◌, List, length, max, ap, ap₂, ◌∙◌, subst, arith}
use Rattle.std.proofs.Math.Nat.{pow-suc}
use Rattle.core_rules.specs.declared.start.Start.{Start}
use Rattle.core_rules.specs.declared.entry.CoreEntry.{CoreEntry}
use Rattle.core_rules.specs.declared.entry.Reserved.{Reserved}
use Rattle.core_rules.specs.declared.entry.Reserved.TheVariants.{Job, NoRoom, Spent}
use Rattle.sched_core.specs.Books.{Kept, Keys, IsState}
use Rattle.core_rules.specs.declared.call.Call.TheVariants as call
use Rattle.core_rules.specs.Reservation.{bookings}
use Rattle.core_rules.specs.Rows.{servers_of}
use Rattle.core_rules.specs.Pick.{pick}
use Rattle.core_rules.specs.Rule.{rule, reserved_at}
use Rattle.sched_core.specs.Most.{most_standing, forgiven_count}
use Rattle.sched_core.specs.Registrations.{forgiven_in, reserve_looks, decide_looks}
use Rattle.core_rules.proofs.LegalLemmas.{core_of}

-- the sum of both parts, where there are at most 2^(h + 1) places
sum_of : (h k first second third : ℕ) → second ≤ first + (2 * (h + 1) * k + 3)
    → third ≤ second + (2 * k + 1) * (2 * (h + 1) + 1) → third ≤ first + (6 * h + 8) * (1 + k)
sum_of h k first second third one two = omega (arith, one, two)

decided : (h k first second : ℕ) → second ≤ first + (2 * (h + 1) * k + 3)
    → second ≤ first + (6 * h + 8) * (1 + k)
decided h k first second one = omega (arith, one)

little : (h first second : ℕ) → second ≤ first + 2 → second ≤ first + (6 * h + 8) * (1 + 0)
little h first second one = omega (arith, one)

-- deciding alone is within the bound
pub decide_bound : (reserved : Reserved) (h first second : ℕ)
    → second ≤ first + decide_looks reserved (h + 1)
    → second ≤ first + (6 * h + 8) * (1 + length (forgiven_in reserved))
decide_bound (Job job reg forgiven) h first second one = decided h (length forgiven) first second one
decide_bound (NoRoom n) h first second one = little h first second one
decide_bound Spent h first second one = little h first second one

-- and so is the whole
pub reserve_bound : (reserved : Reserved) (h first second third : ℕ)
    → second ≤ first + decide_looks reserved (h + 1)
    → third ≤ second + reserve_looks reserved (h + 1)
    → third ≤ first + (6 * h + 8) * (1 + length (forgiven_in reserved))
reserve_bound (Job job reg forgiven) h first second third one two =
    sum_of h (length forgiven) first second third one two
reserve_bound (NoRoom n) h first second third one two = little h first third (omega (arith, one, two))
reserve_bound Spent h first second third one two = little h first third (omega (arith, one, two))

-- the places are at most twice the power
pub twice_power : (places most h : ℕ) → places ≤ 2 * max 1 most → max 1 most ≤ 2 ^ h → places ≤ 2 ^ (h + 1)
twice_power places most h few fits =
    let twice : 2 ^ (h + 1) ≡ 2 * 2 ^ h = ap (λ n. 2 ^ n) (one_more h) ∙ double h in
    omega (arith, few, fits, twice)
  where
    one_more : (n : ℕ) → n + 1 ≡ suc n
    one_more n = omega arith

    double : (n : ℕ) → 2 ^ suc n ≡ 2 * 2 ^ n
    double n = let p = pow-suc 2 n in omega (arith, p)

-- so a reserve that ends once it is decided is within the bound over its log
pub decided_looks : (start : Start) (log : List CoreEntry) (kept : Kept) (keys : Keys)
    (len capacity now count made old new : ℕ) → IsState start kept keys log len capacity
    → count ≡ start.count → made ≡ length kept.lists.booked
    → ((h : ℕ) → kept.places ≤ 2 ^ h → new ≤ old
    + decide_looks (reserved_at (pick kept.lists.rows) kept.lists.rows now start.base (count + made)) h)
    → (h : ℕ) → max 1 (most_standing log) ≤ 2 ^ h
    → new ≤ old + (6 * h + 8) * (1 + forgiven_count (rule (core_of start log) (call.Reserve now)).kind)
decided_looks start log kept keys len capacity now count made old new is count_is made_is looks h fits =
    let entry = reserved_at (pick (servers_of log)) (servers_of log) now start.base in
    decide_bound (entry (start.count + length (bookings log))) h old new
    (subst (λ n. new ≤ old + decide_looks (entry n) (h + 1))
    (ap₂ (λ m n. m + n) count_is (made_is ∙ is.books.made))
    (subst (λ rs. new ≤ old
    + decide_looks (reserved_at (pick rs) rs now start.base (count + made)) (h + 1)) is.books.rows
    (looks (h + 1) (twice_power kept.places (most_standing log) h is.places fits))))
