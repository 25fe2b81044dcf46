-- The rows of jobs are the lines of the unended reservations; lines are compared one after the other.
use Rattle.std.proofs.Common.{◌≡◌, ℕ, suc, ◌+◌, ◌<◌, ◌≤◌, Bool, true, false, cond, List, [], ◌∷◌, length, get_or, drop}
use Rattle.std.proofs.Common.{map, Option, Some, None, refl, sym, ap, ◌∙◌, arith, ◌⊎◌, inl, inr}
use Rattle.std.specs.Option.{option_map}
use Rattle.std.proofs.lemmas.Option.{same_Some}
use Rattle.std.proofs.lemmas.List.{at_drop_more, at_drop_all}
use Rattle.run_lines.specs.Fields.{job_of}
use Rattle.audit.specs.declared.mark.Book.TheVariants.{Job}
use Rattle.dist_types.specs.declared.addr.Addr.{Addr}
use Rattle.core_rules.specs.declared.entry.CoreEntry.{CoreEntry}
use Rattle.core_rules.specs.declared.rows.JobRow.{JobRow}
use Rattle.core_rules.specs.Standing.{address_of}
use Rattle.core_rules.specs.Reservation.{Booking}
use Rattle.core_rules.specs.Rows.{job_row, unended_by_id}
use Rattle.audit.specs.declared.mark.Book.{Book}
use Rattle.audit.specs.Books.{booked, job_book, same_book, first_wrong}

row_is : (log : List CoreEntry) (b : Booking) (row : JobRow) (o : Option Addr) → address_of log b.reg ≡ o
    → Some row ≡ job_row log b → job_book row ≡ booked b
row_is log b row None is e =
    let none : Some row ≡ None = e ∙ ap (option_map _) is in absurd cc
row_is log b row (Some server) is e =
    let one : Some row ≡ Some _ = e ∙ ap (option_map _) is in
    ap job_book (same_Some row _ one)

rows_are : (log : List CoreEntry) (rows : List JobRow) (bs : List Booking)
    → map Some rows ≡ map (job_row log) bs → map job_book rows ≡ map booked bs
rows_are log [] [] e = refl
rows_are log [] (b ∷ bs) e = absurd cc
rows_are log (r ∷ rs) [] e = absurd cc
rows_are log (r ∷ rs) (b ∷ bs) e =
    let first : Some r ≡ job_row log b = cc in
    let rest : map Some rs ≡ map (job_row log) bs = cc in
    ap (λ (x : Book). x ∷ map job_book rs) (row_is log b r (address_of log b.reg) refl first)
    ∙ ap (λ (xs : List Book). booked b ∷ xs) (rows_are log rs bs rest)

pub jobs_are_booked : (log : List CoreEntry) (rows : List JobRow)
    → map Some rows ≡ map (job_row log) (unended_by_id log)
    → map job_book rows ≡ map booked (unended_by_id log)
jobs_are_booked log rows e = rows_are log rows (unended_by_id log) e

-- so many places later
abbrev pub later : ℕ → Option ℕ → Option ℕ
later i o = option_map (λ n. n + i) o

wrong_step : (printed due : List Book) (i : ℕ) (p d : Book) → i < length printed → i < length due
    → p ≡ get_or printed i p → d ≡ get_or due i d
    → first_wrong (drop i printed) (drop i due)
    ≡ cond (same_book p d) (option_map suc (first_wrong (drop (i + 1) printed) (drop (i + 1) due))) (Some 0)
unfolding first_wrong
wrong_step printed due i p d lp ld is_p is_d =
    at_drop_more (λ x. first_wrong x (drop i due)) printed i p lp
    ∙ at_drop_more (λ y. first_wrong (get_or printed i p ∷ drop (i + 1) printed) y) due i d ld
    ∙ ap (λ (x : Book). cond (same_book x (get_or due i d))
    (option_map suc (first_wrong (drop (i + 1) printed) (drop (i + 1) due))) (Some 0)) (sym is_p)
    ∙ ap (λ (y : Book). cond (same_book p y)
    (option_map suc (first_wrong (drop (i + 1) printed) (drop (i + 1) due))) (Some 0)) (sym is_d)

pub wrong_here : (printed due : List Book) (i : ℕ) (p d : Book) → i < length printed → i < length due
    → p ≡ get_or printed i p → d ≡ get_or due i d → same_book p d ≡ false
    → first_wrong printed due ≡ later i (first_wrong (drop i printed) (drop i due))
    → Some i ≡ first_wrong printed due
wrong_here printed due i p d lp ld is_p is_d off so_far =
    sym (so_far ∙ ap (later i) (wrong_step printed due i p d lp ld is_p is_d
    ∙ ap (λ (b : Bool). cond b (option_map suc (first_wrong (drop (i + 1) printed) (drop (i + 1) due))) (Some 0)) off)
    ∙ ap (λ (n : ℕ). Some n) zero)
  where
    zero : 0 + i ≡ i
    zero = omega arith

later_suc : (i : ℕ) (o : Option ℕ) → later i (option_map suc o) ≡ later (i + 1) o
later_suc i None = refl
later_suc i (Some n) = ap (λ (m : ℕ). Some m) next
  where
    next : suc n + i ≡ n + (i + 1)
    next = omega arith

pub right_here : (printed due : List Book) (i : ℕ) (p d : Book) → i < length printed → i < length due
    → p ≡ get_or printed i p → d ≡ get_or due i d → same_book p d ≡ true
    → first_wrong printed due ≡ later i (first_wrong (drop i printed) (drop i due))
    → first_wrong printed due ≡ later (i + 1) (first_wrong (drop (i + 1) printed) (drop (i + 1) due))
right_here printed due i p d lp ld is_p is_d on so_far =
    so_far ∙ ap (later i) (wrong_step printed due i p d lp ld is_p is_d
    ∙ ap (λ (b : Bool). cond b (option_map suc (first_wrong (drop (i + 1) printed) (drop (i + 1) due))) (Some 0)) on)
    ∙ later_suc i (first_wrong (drop (i + 1) printed) (drop (i + 1) due))

-- some line, which is asked of no place
abbrev some_book : Book
some_book = Job (job_of 0) 0 None false

none_left : (printed due : List Book) (i : ℕ) → length printed ≤ i → length due ≤ i
    → first_wrong (drop i printed) (drop i due) ≡ None
unfolding first_wrong
none_left printed due i lp ld = at_drop_all (λ x. first_wrong x (drop i due)) printed i lp
    ∙ at_drop_all (λ y. first_wrong [] y) due i ld

too_many : (printed due : List Book) (i : ℕ) → i < length printed → length due ≤ i
    → first_wrong (drop i printed) (drop i due) ≡ Some 0
unfolding first_wrong
too_many printed due i lp ld = at_drop_all (λ y. first_wrong (drop i printed) y) due i ld
    ∙ at_drop_more (λ x. first_wrong x []) printed i some_book lp

too_few : (printed due : List Book) (i : ℕ) → length printed ≤ i → i < length due
    → first_wrong (drop i printed) (drop i due) ≡ Some 0
unfolding first_wrong
too_few printed due i lp ld = at_drop_all (λ x. first_wrong x (drop i due)) printed i lp
    ∙ at_drop_more (λ y. first_wrong [] y) due i some_book ld

pub all_right : (printed due : List Book) (i : ℕ) → length printed ≤ i → length due ≤ i
    → first_wrong printed due ≡ later i (first_wrong (drop i printed) (drop i due))
    → None ≡ first_wrong printed due
all_right printed due i lp ld so_far = sym (so_far ∙ ap (later i) (none_left printed due i lp ld))

pub wrong_end : (printed due : List Book) (i : ℕ) → ((i < length printed) × (length due ≤ i))
    ⊎ ((length printed ≤ i) × (i < length due))
    → first_wrong printed due ≡ later i (first_wrong (drop i printed) (drop i due))
    → Some i ≡ first_wrong printed due
wrong_end printed due i (inl p) so_far = sym (so_far ∙ ap (later i) (too_many printed due i p.0 p.1)
    ∙ ap (λ (n : ℕ). Some n) (zero i))
  where
    zero : (i : ℕ) → 0 + i ≡ i
    zero i = omega arith
wrong_end printed due i (inr p) so_far = sym (so_far ∙ ap (later i) (too_few printed due i p.0 p.1)
    ∙ ap (λ (n : ℕ). Some n) (zero i))
  where
    zero : (i : ℕ) → 0 + i ≡ i
    zero i = omega arith
