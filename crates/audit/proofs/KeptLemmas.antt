-- What is kept of the reservations, behind an entry and behind a build.
use Rattle.std.proofs.Common.{◌≡◌, ℕ, zero, suc, ◌+◌, ◌-◌, ◌%◌, ◌^◌, ◌<◌, ◌==◌, Bool, true, false, cond, not, ◌&&◌, ◌||◌}
use Rattle.std.proofs.Common.{List, [], ◌∷◌, ◌++◌, length, get_or, set, map, filter, Option, Some, None, refl, sym, ap}
use Rattle.std.proofs.Common.{subst, ◌∙◌, append-nil, arith}
use Rattle.std.specs.Prelude.{option_to_list, find, slice_get, slice_set}
use Rattle.std.specs.List.{list_any, AllByRecursion}
use Rattle.std.specs.Option.{option_map}
use Rattle.std.proofs.lemmas.Bool.{eqb-true, eqb-false, ne_eqb, and_parts}
use Rattle.std.proofs.lemmas.Cmp.{nat_eq_equiv}
use Rattle.std.proofs.lemmas.List.{map-append, length-map, length-append}
use Rattle.std.proofs.lemmas.Option.{same_Some}
use Rattle.dist_types.specs.Addr.{◌>>=◌}
use Rattle.dist_types.specs.declared.ids.JobId.{JobId}
use Rattle.dist_types.specs.declared.results.JobState.{JobState}
use Rattle.row_index.specs.Following.{HasNone, IsRowOf, IsPlaceOf}
use Rattle.core_rules.specs.declared.entry.CoreEntry.{CoreEntry}
use Rattle.core_rules.specs.declared.entry.CoreKind.{CoreKind}
use Rattle.core_rules.specs.declared.entry.CoreKind.TheVariants as core
use Rattle.core_rules.specs.Log.{Core, logged, same_job, names_job}
use Rattle.core_rules.specs.Reservation.{Booking, bookings, is_unspent, unspent, spends_by, claims_by, is_accepted}
use Rattle.core_rules.specs.Reservation.{is_started}
use Rattle.core_rules.specs.Calls.{number_of}
use Rattle.core_rules.specs.Ticket.{Ticket}
use Rattle.core_rules.proofs.Lists.{map-map, list_any-push}
use Rattle.core_rules.specs.declared.entry.Reserved.TheVariants as reserve
use Rattle.core_rules.specs.Laws.{IsLegal}
use Rattle.core_rules.proofs.AllLemmas.{found}
use Rattle.core_rules.proofs.FactLemmas.{JobFacts}
use Rattle.core_rules.proofs.SoundLemmas.{jobs, legal_ids, fresh_job}
use Rattle.core_rules.proofs.StepLemmas.{booked, grown, bookings-push}
use Rattle.run_lines.specs.Fields.{job_of}
use Rattle.audit.specs.declared.progress.Progress.{Progress}
use Rattle.audit.specs.Replay.{Judged, is_begun, booking_key, ticket_key}
use Rattle.audit.specs.Kept.{row_due, key_due, key_held, held_at, AreKept, row_begun, row_built, IsTaken}
use Rattle.audit.specs.Kept.{SpendsJob, ReservesJob, BeginsJob, TellsState}
use Rattle.audit.proofs.BegunLemmas.{begun_known}

-- ---- lists

map_all : {X Y : Type 0} (f g : X → Y) → ((x : X) → f x ≡ g x) → (xs : List X) → map f xs ≡ map g xs
map_all f g same [] = refl
map_all f g same (x ∷ xs) = ap (λ y. y ∷ map f xs) (same x) ∙ ap (λ ys. g x ∷ ys) (map_all f g same xs)

set_at : {X : Type 0} (front rest : List X) (x y : X) (n : ℕ) → length front ≡ n
    → set (front ++ x ∷ rest) n y ≡ front ++ y ∷ rest
set_at [] rest x y n is = ap (λ m. set (x ∷ rest) m y) (sym is)
set_at (f ∷ front) rest x y zero is = absurd (omega (arith, is))
set_at (f ∷ front) rest x y (suc n) is = ap (λ l. f ∷ l) (set_at front rest x y n (omega (arith, is)))

got_or : {X : Type 0} (front rest : List X) (x d : X) (n : ℕ) → length front ≡ n
    → get_or (front ++ x ∷ rest) n d ≡ x
got_or [] rest x d n is = ap (λ m. get_or (x ∷ rest) m d) (sym is)
got_or (f ∷ front) rest x d zero is = absurd (omega (arith, is))
got_or (f ∷ front) rest x d (suc n) is = got_or front rest x d n (omega (arith, is))

got_at : {X : Type 0} (front rest : List X) (x : X) (n : ℕ) → length front ≡ n
    → slice_get (front ++ x ∷ rest) n ≡ Some x
got_at [] rest x n is = ap (λ m. slice_get (x ∷ rest) m) (sym is)
got_at (f ∷ front) rest x zero is = absurd (omega (arith, is))
got_at (f ∷ front) rest x (suc n) is = got_at front rest x n (omega (arith, is))

-- where a list was mapped to one that is cut, it is cut so
pub record IsCut {X Y : Type 0} (f : X → Y) (xs : List X) (ys : List Y) (y : Y) (zs : List Y) : Type 0 where
  pub front : List X
  pub at : X
  pub rest : List X
  pub are : xs ≡ front ++ at ∷ rest
  pub front_are : map f front ≡ ys
  pub at_is : f at ≡ y
  pub rest_are : map f rest ≡ zs

cut_map : {X Y : Type 0} (f : X → Y) (xs : List X) (ys : List Y) (y : Y) (zs : List Y) → map f xs ≡ ys ++ y ∷ zs
    → IsCut f xs ys y zs
cut_map f [] [] y zs e = absurd cc
cut_map f [] (w ∷ ys) y zs e = absurd cc
cut_map f (x ∷ xs) [] y zs e =
    let first : f x ≡ y = cc in
    let more : map f xs ≡ zs = cc in
    record { front = []; at = x; rest = xs; are = refl; front_are = refl; at_is = first; rest_are = more }
cut_map f (x ∷ xs) (w ∷ ys) y zs e =
    let first : f x ≡ w = cc in
    let more : map f xs ≡ ys ++ y ∷ zs = cc in
    let c = cut_map f xs ys y zs more in
    record {
      front = x ∷ c.front;
      at = c.at;
      rest = c.rest;
      are = ap (λ l. x ∷ l) c.are;
      front_are = ap (λ v. v ∷ map f c.front) first ∙ ap (λ l. w ∷ l) c.front_are;
      at_is = c.at_is;
      rest_are = c.rest_are;
    }

length_is : {X Y : Type 0} (f : X → Y) (xs : List X) (ys : List Y) → map f xs ≡ ys → length xs ≡ length ys
length_is f xs ys e = sym (length-map xs f) ∙ ap length e

-- ---- the rows behind an entry

-- a row behind an entry
abbrev pub row_after : CoreKind → Progress → Progress
row_after kind r = record r { is_begun = r.is_begun || claims_by kind r.job }

key_grown : (a s : Bool) (k : ℕ × JobId) → cond (not (a || s)) (Some k) None ≡ cond s None (cond (not a) (Some k) None)
key_grown true true k = refl
key_grown true false k = refl
key_grown false true k = refl
key_grown false false k = refl

-- the key of a reservation behind an entry
abbrev key_after : CoreKind → Booking → Option (ℕ × JobId)
key_after kind b = cond (spends_by kind b.job) None (key_due b)

keys-push : (log : List CoreEntry) (e : CoreEntry) → map key_due (bookings (log ++ e ∷ []))
    ≡ map (key_after e.kind) (bookings log) ++ map key_due (option_to_list (booked log e))
keys-push log e =
    ap (map key_due) (bookings-push log e)
    ∙ map-append key_due (map (grown e) (bookings log)) (option_to_list (booked log e))
    ∙ ap (λ ks. ks ++ map key_due (option_to_list (booked log e)))
    (map-map key_due (grown e) (bookings log)
    ∙ map_all (λ b. key_due (grown e b)) (key_after e.kind)
    (λ b. ap (λ t. cond (not t) (Some (booking_key b)) None)
    (list_any-push (λ (d : CoreEntry). spends_by d.kind b.job) b.later e)
    ∙ key_grown (list_any (λ (d : CoreEntry). spends_by d.kind b.job) b.later) (spends_by e.kind b.job)
    (booking_key b)) (bookings log))

-- the scheduler behind an entry, and the same builds
abbrev pub behind : Judged → CoreEntry → Judged
behind j e = record { core = logged j.core e; built = j.built }

rows-push : (j : Judged) (e : CoreEntry) → map (row_due (behind j e)) (bookings (j.core.log ++ e ∷ []))
    ≡ map (row_after e.kind) (map (row_due j) (bookings j.core.log))
    ++ map (row_due (behind j e)) (option_to_list (booked j.core.log e))
rows-push j e =
    ap (map (row_due (behind j e))) (bookings-push j.core.log e)
    ∙ map-append (row_due (behind j e)) (map (grown e) (bookings j.core.log)) (option_to_list (booked j.core.log e))
    ∙ ap (λ rs. rs ++ map (row_due (behind j e)) (option_to_list (booked j.core.log e)))
    (map-map (row_due (behind j e)) (grown e) (bookings j.core.log)
    ∙ map_all (λ b. row_due (behind j e) (grown e b)) (λ b. row_after e.kind (row_due j b))
    (λ b. ap (λ t. record { job = b.job; is_begun = t; is_built = names_job j.built b.job })
    (list_any-push (λ (d : CoreEntry). claims_by d.kind b.job) j.core.log e)) (bookings j.core.log)
    ∙ sym (map-map (row_after e.kind) (row_due j) (bookings j.core.log)))

begun_on : (log : List CoreEntry) (e : CoreEntry) (job : JobId) → is_begun log job ≡ true
    → is_begun (log ++ e ∷ []) job ≡ true
begun_on log e job t = list_any-push (λ (d : CoreEntry). claims_by d.kind job) log e
    ∙ ap (λ b. b || claims_by e.kind job) t

all_begun_on : (log : List CoreEntry) (e : CoreEntry) (built : List JobId)
    → AllByRecursion (λ job. is_begun log job ≡ true) built
    → AllByRecursion (λ job. is_begun (log ++ e ∷ []) job ≡ true) built
all_begun_on log e [] all = tt
all_begun_on log e (job ∷ jobs) all = (begun_on log e job all.0, all_begun_on log e jobs all.1)

-- ---- one reservation

others_unlike : (wanted : JobId) (rows : List Progress) → HasNone (λ p. p.job.0) rows wanted.0
    → AllByRecursion (λ (p : Progress). same_job p.job wanted ≡ false) rows
others_unlike wanted [] none = tt
others_unlike wanted (p ∷ ps) none = (none.0, others_unlike wanted ps none.1)

-- no reservation is of the job
abbrev NoneIs : JobId → List Booking → Type 0
NoneIs job bs = AllByRecursion (λ (b : Booking). same_job b.job job ≡ false) bs

none_booked : (j : Judged) (job : JobId) (bs : List Booking) (rows : List Progress) → map (row_due j) bs ≡ rows
    → HasNone (λ p. p.job.0) rows job.0 → NoneIs job bs
none_booked j job [] rows e none = tt
none_booked j job (b ∷ bs) [] e none = absurd cc
none_booked j job (b ∷ bs) (p ∷ ps) e none =
    let first : row_due j b ≡ p = cc in
    let more : map (row_due j) bs ≡ ps = cc in
    (ap (λ (r : Progress). same_job r.job job) first ∙ none.0, none_booked j job bs ps more none.1)

find_none : (job : JobId) (bs : List Booking) → NoneIs job bs
    → find (λ b. same_job b.job job) (filter is_unspent bs) ≡ None
find_none job [] none = refl
find_none job (b ∷ bs) none = elim (is_unspent b) as
    (λ v. find (λ c. same_job c.job job) (cond v (b ∷ filter is_unspent bs) (filter is_unspent bs)) ≡ None) [
      | true ↦ ap (λ (v : Bool). cond v (Some b) (find (λ c. same_job c.job job) (filter is_unspent bs))) none.0
          ∙ find_none job bs none.1
      | false ↦ find_none job bs none.1
    ]

find_at : (job : JobId) (front : List Booking) (b : Booking) (rest : List Booking) → NoneIs job front
    → same_job b.job job ≡ true → NoneIs job rest
    → find (λ c. same_job c.job job) (filter is_unspent (front ++ b ∷ rest)) ≡ cond (is_unspent b) (Some b) None
find_at job [] b rest before own after = elim (is_unspent b) as
    (λ v. find (λ c. same_job c.job job) (cond v (b ∷ filter is_unspent rest) (filter is_unspent rest))
    ≡ cond v (Some b) None) [
      | true ↦ ap (λ (v : Bool). cond v (Some b) (find (λ c. same_job c.job job) (filter is_unspent rest))) own
      | false ↦ find_none job rest after
    ]
find_at job (x ∷ xs) b rest before own after = elim (is_unspent x) as
    (λ v. find (λ c. same_job c.job job) (cond v (x ∷ filter is_unspent (xs ++ b ∷ rest))
    (filter is_unspent (xs ++ b ∷ rest))) ≡ cond (is_unspent b) (Some b) None) [
      | true ↦ ap (λ (v : Bool). cond v (Some x) (find (λ c. same_job c.job job)
          (filter is_unspent (xs ++ b ∷ rest)))) before.0 ∙ find_at job xs b rest before.1 own after
      | false ↦ find_at job xs b rest before.1 own after
    ]

-- The reservation of a job in a place, and what is in hand of it.
pub record IsBookedAt (j : Judged) (rows : List Progress) (held : List (Option Ticket)) (job : JobId) (place : ℕ)
    : Type 0 where
  pub front : List Booking
  pub at : Booking
  pub rest : List Booking
  pub are : bookings j.core.log ≡ front ++ at ∷ rest
  pub before : NoneIs job front
  pub own : same_job at.job job ≡ true
  pub behind_it : NoneIs job rest
  pub held_front : List (Option Ticket)
  pub held_one : Option Ticket
  pub held_rest : List (Option Ticket)
  pub held_are : held ≡ held_front ++ held_one ∷ held_rest
  pub front_held : map key_held held_front ≡ map key_due front
  pub one_held : key_held held_one ≡ key_due at
  pub rest_held : map key_held held_rest ≡ map key_due rest
  pub place_is : length held_front ≡ place

own_is : (row : Progress) (job : JobId) → row.job.0 ≡ job.0 → same_job row.job job ≡ true
own_is row job e = ap (λ n. row.job.0 == n) (sym e) ∙ nat_eq_equiv.refl row.job.0

pub booked_at_place : (first : ℕ) (rows : List Progress) (held : List (Option Ticket)) (j : Judged) (job : JobId)
    (place : ℕ) → AreKept first rows held j → IsPlaceOf (λ p. p.job.0) rows job.0 place
    → IsBookedAt j rows held job place
booked_at_place first rows held j job place kept is =
    let bs = bookings j.core.log in
    let c = cut_map (row_due j) bs is.whole.front is.row is.whole.rest (sym kept.rows_are ∙ is.whole.are) in
    let keys : map key_held held ≡ map key_due c.front ++ key_due c.at ∷ map key_due c.rest =
    kept.held_are ∙ ap (map key_due) c.are ∙ map-append key_due c.front (c.at ∷ c.rest) in
    let h = cut_map key_held held (map key_due c.front) (key_due c.at) (map key_due c.rest) keys in
    record {
      front = c.front;
      at = c.at;
      rest = c.rest;
      are = c.are;
      before = none_booked j job c.front is.whole.front c.front_are is.whole.before;
      own = ap (λ (r : Progress). same_job r.job job) c.at_is ∙ own_is is.row job is.whole.own;
      behind_it = none_booked j job c.rest is.whole.rest c.rest_are is.whole.behind;
      held_front = h.front;
      held_one = h.at;
      held_rest = h.rest;
      held_are = h.are;
      front_held = h.front_are;
      one_held = h.at_is;
      rest_held = h.rest_are;
      place_is = length_is key_held h.front (map key_due c.front) h.front_are ∙ length-map c.front key_due
          ∙ length_is (row_due j) c.front is.whole.front c.front_are ∙ is.at;
    }

-- what is in hand in that place
pub in_hand : (j : Judged) (rows : List Progress) (held : List (Option Ticket)) (job : JobId) (place : ℕ)
    → (at : IsBookedAt j rows held job place) → held_at held place ≡ at.held_one
in_hand j rows held job place at =
    ap (λ (l : List (Option Ticket)). slice_get l place >>= λ o. o) at.held_are
    ∙ ap (λ (o : Option (Option Ticket)). o >>= λ p. p)
    (got_at at.held_front at.held_rest at.held_one place at.place_is)

number_here : (j : Judged) (rows : List Progress) (held : List (Option Ticket)) (job : JobId) (place : ℕ)
    → (at : IsBookedAt j rows held job place)
    → number_of j.core.log job ≡ option_map (λ b. b.number) (cond (is_unspent at.at) (Some at.at) None)
number_here j rows held job place at =
    ap (λ bs. option_map (λ b. b.number) (find (λ b. same_job b.job job) (filter is_unspent bs))) at.are
    ∙ ap (option_map (λ b. b.number)) (find_at job at.front at.at at.rest at.before at.own at.behind_it)

-- the number and the job of a ticket are those of the reservation, which is unspent
key_some : (b : Booking) (t : Ticket) → Some (ticket_key t) ≡ key_due b
    → (is_unspent b ≡ true) × (t.number ≡ b.number) × (t.job ≡ b.job)
key_some b t e = split (is_unspent b) refl e
  where
    split : (v : Bool) → is_unspent b ≡ v → Some (ticket_key t) ≡ cond v (Some (booking_key b)) None
        → (is_unspent b ≡ true) × (t.number ≡ b.number) × (t.job ≡ b.job)
    split true is e = let same : ticket_key t ≡ booking_key b = same_Some _ _ e in
        (is, ap (λ (p : ℕ × JobId). p.0) same, ap (λ (p : ℕ × JobId). p.1) same)
    split false is e = absurd cc

key_none : (b : Booking) → None ≡ key_due b → is_unspent b ≡ false
key_none b e = split (is_unspent b) refl e
  where
    split : (v : Bool) → is_unspent b ≡ v → None ≡ cond v (Some (booking_key b)) None → is_unspent b ≡ false
    split true is e = absurd cc
    split false is e = is

pub held_number : (j : Judged) (rows : List Progress) (held : List (Option Ticket)) (job : JobId) (place : ℕ)
    (t : Ticket) → (at : IsBookedAt j rows held job place) → held_at held place ≡ Some t
    → number_of j.core.log job ≡ Some t.number
held_number j rows held job place t at e =
    let one : at.held_one ≡ Some t = sym (in_hand j rows held job place at) ∙ e in
    let k = key_some at.at t (sym (ap key_held one) ∙ at.one_held) in
    number_here j rows held job place at
    ∙ ap (λ (v : Bool). option_map (λ (b : Booking). b.number) (cond v (Some at.at) None)) k.0
    ∙ ap (λ (n : ℕ). Some n) (sym k.1)

pub held_job : (j : Judged) (rows : List Progress) (held : List (Option Ticket)) (job : JobId) (place : ℕ)
    (t : Ticket) → (at : IsBookedAt j rows held job place) → held_at held place ≡ Some t → t.job ≡ job
held_job j rows held job place t at e =
    let one : at.held_one ≡ Some t = sym (in_hand j rows held job place at) ∙ e in
    let k = key_some at.at t (sym (ap key_held one) ∙ at.one_held) in
    k.2 ∙ ap job_of (eqb-true at.at.job.0 job.0 at.own)

pub spent_number : (j : Judged) (rows : List Progress) (held : List (Option Ticket)) (job : JobId) (place : ℕ)
    → (at : IsBookedAt j rows held job place) → held_at held place ≡ None → number_of j.core.log job ≡ None
spent_number j rows held job place at e =
    let one : at.held_one ≡ None = sym (in_hand j rows held job place at) ∙ e in
    let off = key_none at.at (sym (ap key_held one) ∙ at.one_held) in
    number_here j rows held job place at
    ∙ ap (λ (v : Bool). option_map (λ (b : Booking). b.number) (cond v (Some at.at) None)) off

pub no_number : (first : ℕ) (rows : List Progress) (held : List (Option Ticket)) (j : Judged) (job : JobId)
    → AreKept first rows held j → HasNone (λ p. p.job.0) rows job.0 → number_of j.core.log job ≡ None
no_number first rows held j job kept none =
    ap (option_map (λ b. b.number)) (find_none job (bookings j.core.log)
    (none_booked j job (bookings j.core.log) rows (sym kept.rows_are) none))

-- ---- behind an entry that spends the reservation of a job

keys_unlike : (k : CoreKind) (job : JobId) → ((x : JobId) → same_job x job ≡ false → spends_by k x ≡ false)
    → (bs : List Booking) → NoneIs job bs → map (key_after k) bs ≡ map key_due bs
keys_unlike k job leaves [] none = refl
keys_unlike k job leaves (b ∷ bs) none =
    ap (λ (v : Bool). cond v None (key_due b) ∷ map (key_after k) bs) (leaves b.job none.0)
    ∙ ap (λ ks. key_due b ∷ ks) (keys_unlike k job leaves bs none.1)

rows_same : (k : CoreKind) → ((x : JobId) → claims_by k x ≡ false) → (rows : List Progress)
    → map (row_after k) rows ≡ rows
rows_same k none [] = refl
rows_same k none (r ∷ rs) =
    ap (λ (v : Bool). record r { is_begun = r.is_begun || v } ∷ map (row_after k) rs) (none r.job)
    ∙ ap (λ (v : Bool). record r { is_begun = v } ∷ map (row_after k) rs) (or_off r.is_begun)
    ∙ ap (λ l. r ∷ l) (rows_same k none rs)
  where
    or_off : (b : Bool) → (b || false) ≡ b
    or_off true = refl
    or_off false = refl

-- an entry that makes no reservation, behind which the rows and what is in hand are these
pub kept_on : (first : ℕ) (rows new_rows : List Progress) (held new_held : List (Option Ticket)) (j : Judged)
    (e : CoreEntry) → booked j.core.log e ≡ None → new_rows ≡ map (row_after e.kind) rows
    → map key_held new_held ≡ map (key_after e.kind) (bookings j.core.log)
    → AreKept first rows held j → AreKept first new_rows new_held (behind j e)
kept_on first rows new_rows held new_held j e no_booking rows_are held_are kept = record {
  rows_are = rows_are ∙ ap (map (row_after e.kind)) kept.rows_are
      ∙ sym (rows-push j e
      ∙ ap (λ o. map (row_after e.kind) (map (row_due j) (bookings j.core.log))
      ++ map (row_due (behind j e)) (option_to_list o)) no_booking
      ∙ append-nil (map (row_after e.kind) (map (row_due j) (bookings j.core.log))));
  held_are = held_are ∙ sym (keys-push j.core.log e
      ∙ ap (λ o. map (key_after e.kind) (bookings j.core.log) ++ map key_due (option_to_list o)) no_booking
      ∙ append-nil (map (key_after e.kind) (bookings j.core.log)));
  first_is = kept.first_is;
  built_are = all_begun_on j.core.log e j.built kept.built_are;
}

keys_same : (k : CoreKind) → ((x : JobId) → spends_by k x ≡ false) → (bs : List Booking)
    → map key_due bs ≡ map (key_after k) bs
keys_same k none bs = map_all key_due (key_after k)
    (λ b. sym (ap (λ (v : Bool). cond v None (key_due b)) (none b.job))) bs

pub kept_quiet : (first : ℕ) (rows : List Progress) (held : List (Option Ticket)) (j : Judged) (e : CoreEntry)
    → booked j.core.log e ≡ None → ((x : JobId) → claims_by e.kind x ≡ false)
    → ((x : JobId) → spends_by e.kind x ≡ false) → AreKept first rows held j → AreKept first rows held (behind j e)
kept_quiet first rows held j e no_booking no_claim no_spend kept =
    kept_on first rows rows held held j e no_booking (sym (rows_same e.kind no_claim rows))
    (kept.held_are ∙ keys_same e.kind no_spend (bookings j.core.log)) kept

pub kept_spent : (first : ℕ) (rows : List Progress) (held : List (Option Ticket)) (j : Judged) (e : CoreEntry)
    (job : JobId) (place : ℕ) → booked j.core.log e ≡ None → ((x : JobId) → claims_by e.kind x ≡ false)
    → ((x : JobId) → spends_by e.kind x ≡ same_job job x) → IsBookedAt j rows held job place
    → AreKept first rows held j → AreKept first rows (slice_set held place None) (behind j e)
kept_spent first rows held j e job place no_booking no_claim spends at kept =
    kept_on first rows rows held (slice_set held place None) j e no_booking (sym (rows_same e.kind no_claim rows))
    (ap (map key_held) (ap (λ (l : List (Option Ticket)). set l place None) at.held_are
    ∙ set_at at.held_front at.held_rest at.held_one None place at.place_is)
    ∙ map-append key_held at.held_front (None ∷ at.held_rest)
    ∙ ap (λ ks. ks ++ None ∷ map key_held at.held_rest) at.front_held
    ∙ ap (λ ks. map key_due at.front ++ None ∷ ks) at.rest_held
    ∙ sym (ap (map (key_after e.kind)) at.are
    ∙ map-append (key_after e.kind) at.front (at.at ∷ at.rest)
    ∙ ap (λ ks. ks ++ map (key_after e.kind) (at.at ∷ at.rest))
    (keys_unlike e.kind job leaves at.front at.before)
    ∙ ap (λ (v : Bool). map key_due at.front ++ cond v None (key_due at.at) ∷ map (key_after e.kind) at.rest)
    (spends at.at.job ∙ turned at.at.job job at.own)
    ∙ ap (λ ks. map key_due at.front ++ None ∷ ks) (keys_unlike e.kind job leaves at.rest at.behind_it))) kept
  where
    turned : (a b : JobId) → same_job a b ≡ true → same_job b a ≡ true
    turned a b t = ap (λ n. b.0 == n) (eqb-true a.0 b.0 t) ∙ nat_eq_equiv.refl b.0

    leaves : (x : JobId) → same_job x job ≡ false → spends_by e.kind x ≡ false
    leaves x off = spends x ∙ ne_eqb job.0 x.0 (λ one. eqb-false x.0 job.0 off (sym one))

-- ---- behind an entry that accepts that a job has begun

pub rows_unlike : (f : Progress → Progress) (job : JobId)
    → ((r : Progress) → same_job r.job job ≡ false → f r ≡ r) → (rows : List Progress)
    → HasNone (λ p. p.job.0) rows job.0 → map f rows ≡ rows
rows_unlike f job leaves [] none = refl
rows_unlike f job leaves (r ∷ rs) none = ap (λ x. x ∷ map f rs) (leaves r none.0)
    ∙ ap (λ l. r ∷ l) (rows_unlike f job leaves rs none.1)

pub row_put : (f : Progress → Progress) (job : JobId) (rows : List Progress) (place : ℕ) (new : Progress)
    → ((r : Progress) → same_job r.job job ≡ false → f r ≡ r)
    → (is : IsPlaceOf (λ p. p.job.0) rows job.0 place) → new ≡ f is.row → slice_set rows place new ≡ map f rows
row_put f job rows place new leaves is same =
    ap (λ (l : List Progress). set l place new) is.whole.are
    ∙ set_at is.whole.front is.whole.rest is.row new place is.at
    ∙ ap (λ (r : Progress). is.whole.front ++ r ∷ is.whole.rest) same
    ∙ sym (ap (map f) is.whole.are ∙ map-append f is.whole.front (is.row ∷ is.whole.rest)
    ∙ ap (λ l. l ++ f is.row ∷ map f is.whole.rest) (rows_unlike f job leaves is.whole.front is.whole.before)
    ∙ ap (λ l. is.whole.front ++ f is.row ∷ l) (rows_unlike f job leaves is.whole.rest is.whole.behind))

-- ---- behind a reserve that makes a job

-- none of those is the job, so it is not among them
not_known : (job : JobId) (ks : List JobId) → AllByRecursion (λ k. same_job k job ≡ false) ks
    → list_any (λ k. same_job k job) ks ≡ true → ⊥
not_known job ks none e =
    let f = found (λ k. same_job k job ≡ false) (λ k. same_job k job) ks none e in
    let clash : true ≡ false = sym f.2 ∙ f.1 in absurd cc

off_by : (b : Bool) → (b ≡ true → ⊥) → b ≡ false
off_by true h = absurd (h refl)
off_by false h = refl

job_is : (a b : JobId) → same_job a b ≡ true → a ≡ b
job_is a b e = ap job_of (eqb-true a.0 b.0 e)

-- a job that has not begun was not built
not_built : (log : List CoreEntry) (built : List JobId) (job : JobId)
    → AllByRecursion (λ x. is_begun log x ≡ true) built → is_begun log job ≡ false → names_job built job ≡ false
not_built log built job all off = off_by (names_job built job) (λ on.
    let f = found (λ x. is_begun log x ≡ true) (λ x. same_job x job) built all on in
    let clash : true ≡ false = sym f.1 ∙ ap (is_begun log) (job_is f.0 job f.2) ∙ off in absurd cc)

pub kept_new : (first : ℕ) (rows : List Progress) (held : List (Option Ticket)) (j : Judged) (now : ℕ) (job : JobId)
    (reg : ℕ) (forgiven : List ℕ) (t : Ticket) → t.number ≡ length j.core.log → t.job ≡ job
    → is_begun j.core.log job ≡ false → AreKept first rows held j
    → AreKept first (rows ++ record { job = t.job; is_begun = false; is_built = false } ∷ []) (held ++ Some t ∷ [])
    (behind j (record { now = now; kind = core.Reserve (reserve.Job job reg forgiven) }))
kept_new first rows held j now job reg forgiven t number_is job_is_it fresh kept =
    let e : CoreEntry = record { now = now; kind = core.Reserve (reserve.Job job reg forgiven) } in
    let later : is_begun (j.core.log ++ e ∷ []) job ≡ false =
    list_any-push (λ (d : CoreEntry). claims_by d.kind job) j.core.log e
    ∙ ap (λ b. b || false) fresh in
    let unbuilt = not_built j.core.log j.built job kept.built_are fresh in
    record {
      rows_are = ap (λ rs. rs ++ record { job = t.job; is_begun = false; is_built = false } ∷ [])
          (sym (rows_same e.kind (λ x. refl) rows) ∙ ap (map (row_after e.kind)) kept.rows_are)
          ∙ ap (λ (x : JobId). map (row_after e.kind) (map (row_due j) (bookings j.core.log))
          ++ record { job = x; is_begun = false; is_built = false } ∷ []) job_is_it
          ∙ ap (λ (b : Bool). map (row_after e.kind) (map (row_due j) (bookings j.core.log))
          ++ record { job = job; is_begun = b; is_built = false } ∷ []) (sym later)
          ∙ ap (λ (b : Bool). map (row_after e.kind) (map (row_due j) (bookings j.core.log))
          ++ record { job = job; is_begun = is_begun (j.core.log ++ e ∷ []) job; is_built = b } ∷ []) (sym unbuilt)
          ∙ sym (rows-push j e);
      held_are = map-append key_held held (Some t ∷ [])
          ∙ ap (λ ks. ks ++ Some (ticket_key t) ∷ [])
          (kept.held_are ∙ keys_same e.kind (λ x. refl) (bookings j.core.log))
          ∙ ap (λ (p : ℕ × JobId). map (key_after e.kind) (bookings j.core.log) ++ Some p ∷ [])
          (ap (λ (n : ℕ). (n, t.job)) number_is ∙ ap (λ (x : JobId). (length j.core.log, x)) job_is_it)
          ∙ sym (keys-push j.core.log e);
      first_is = kept.first_is;
      built_are = all_begun_on j.core.log e j.built kept.built_are;
    }

-- ---- behind a build

all_push : (log : List CoreEntry) (built : List JobId) (job : JobId)
    → AllByRecursion (λ x. is_begun log x ≡ true) built → is_begun log job ≡ true
    → AllByRecursion (λ x. is_begun log x ≡ true) (built ++ job ∷ [])
all_push log [] job all one = (one, tt)
all_push log (x ∷ xs) job all one = (all.0, all_push log xs job all.1 one)

pub kept_built : (first : ℕ) (rows new_rows : List Progress) (held : List (Option Ticket)) (j : Judged) (job : JobId)
    → is_begun j.core.log job ≡ true → new_rows ≡ map (row_built job) rows → AreKept first rows held j
    → AreKept first new_rows held (record { core = j.core; built = j.built ++ job ∷ [] })
kept_built first rows new_rows held j job begun rows_are kept =
    let k : Judged = record { core = j.core; built = j.built ++ job ∷ [] } in
    record {
      rows_are = rows_are ∙ ap (map (row_built job)) kept.rows_are
          ∙ map-map (row_built job) (row_due j) (bookings j.core.log)
          ∙ map_all (λ b. row_built job (row_due j b)) (row_due k)
          (λ b. ap (λ (v : Bool). record {
            job = b.job;
            is_begun = is_begun j.core.log b.job;
            is_built = v;
          }) (sym (list_any-push (λ (x : JobId). same_job x b.job) j.built job))) (bookings j.core.log);
      held_are = kept.held_are;
      first_is = kept.first_is;
      built_are = all_push j.core.log j.built job kept.built_are begun;
    }

-- what the row of a job says
pub row_says : (first : ℕ) (rows : List Progress) (held : List (Option Ticket)) (j : Judged) (job : JobId) (place : ℕ)
    → AreKept first rows held j → (is : IsPlaceOf (λ p. p.job.0) rows job.0 place)
    → (is.row.is_begun ≡ is_begun j.core.log job) × (is.row.is_built ≡ names_job j.built job)
row_says first rows held j job place kept is =
    let c = cut_map (row_due j) (bookings j.core.log) is.whole.front is.row is.whole.rest
    (sym kept.rows_are ∙ is.whole.are) in
    let same : c.at.job ≡ job = ap (λ (r : Progress). r.job) c.at_is ∙ ap job_of is.whole.own in (
      sym (ap (λ (r : Progress). r.is_begun) c.at_is) ∙ ap (is_begun j.core.log) same,
      sym (ap (λ (r : Progress). r.is_built) c.at_is) ∙ ap (names_job j.built) same,
    )

not_there : (job : JobId) (bs : List Booking) → NoneIs job bs
    → list_any (λ k. same_job k job) (map (λ b. b.job) bs) ≡ true → ⊥
not_there job [] none e = absurd cc
not_there job (b ∷ bs) none e = not_there job bs none.1
    (sym (ap (λ (v : Bool). v || list_any (λ k. same_job k job) (map (λ (c : Booking). c.job) bs)) none.0) ∙ e)

-- a job without a row has not begun
pub none_begun_there : (first : ℕ) (rows : List Progress) (held : List (Option Ticket)) (j : Judged) (job : JobId)
    → j.core.start.count < 2 ^ 64 → IsLegal j.core.start j.core.log → AreKept first rows held j
    → HasNone (λ p. p.job.0) rows job.0 → is_begun j.core.log job ≡ false
none_begun_there first rows held j job fits legal kept none = off_by (is_begun j.core.log job) (λ on.
    not_there job (bookings j.core.log) (none_booked j job (bookings j.core.log) rows (sym kept.rows_are) none)
    (begun_known j.core.start j.core.log fits legal job on))

-- the job of a new reservation has not begun
pub fresh_begun : (s : Core) (job : JobId) (reg : ℕ) → s.start.count < 2 ^ 64 → IsLegal s.start s.log
    → JobFacts s job reg → is_begun s.log job ≡ false
fresh_begun s job reg fits legal facts = off_by (is_begun s.log job) (λ on.
    not_known job (jobs s.log) (fresh_job s.start s.log job reg (legal_ids s.start s.log fits legal) facts)
    (begun_known s.start s.log fits legal job on))

-- the next row has the next id
pub follows_on : (first : ℕ) (rows : List Progress) (held : List (Option Ticket)) (j : Judged) (job : JobId) (reg : ℕ)
    → AreKept first rows held j → JobFacts j.core job reg → job.0 ≡ (first + length rows) % 2 ^ 64
follows_on first rows held j job reg kept facts =
    let count : length rows ≡ length (bookings j.core.log) = ap length kept.rows_are
    ∙ length-map (bookings j.core.log) (row_due j) in
    let at = kept.first_is in
    let id = facts.id in
    omega (arith, count, at, id)

-- ---- as the code keeps it

-- the entries that spend the reservation of a job
spends_is : (k : CoreKind) (job : JobId) → SpendsJob k job
    → ((x : JobId) → spends_by k x ≡ same_job job x) × ((x : JobId) → claims_by k x ≡ false)
spends_is (core.Commit j state kept) job is = (λ x. ap (λ (y : JobId). same_job y x) is, λ x. refl)
spends_is (core.Undo j noted ended) job is = (λ x. ap (λ (y : JobId). same_job y x) is, λ x. refl)
spends_is (core.Reserve r) job is = absurd is
spends_is (core.Beat server nonce cpus key pruned reaped replaced is_new) job is = absurd is
spends_is (core.Update server j state answer) job is = absurd is
spends_is (core.Status pruned servers cpus jobs) job is = absurd is
spends_is (core.Drain server nonce on reg) job is = absurd is

spends_books : (log : List CoreEntry) (now : ℕ) (k : CoreKind) (job : JobId) → SpendsJob k job
    → booked log (record { now = now; kind = k }) ≡ None
spends_books log now (core.Commit j state kept) job is = refl
spends_books log now (core.Undo j noted ended) job is = refl
spends_books log now (core.Reserve r) job is = absurd is
spends_books log now (core.Beat server nonce cpus key pruned reaped replaced is_new) job is = absurd is
spends_books log now (core.Update server j state answer) job is = absurd is
spends_books log now (core.Status pruned servers cpus jobs) job is = absurd is
spends_books log now (core.Drain server nonce on reg) job is = absurd is

-- where nothing is in hand in a place, taking it out changes nothing
held_same : (j : Judged) (rows : List Progress) (held : List (Option Ticket)) (job : JobId) (place : ℕ)
    → (at : IsBookedAt j rows held job place) → held_at held place ≡ None → slice_set held place None ≡ held
held_same j rows held job place at e =
    let one : at.held_one ≡ None = sym (in_hand j rows held job place at) ∙ e in
    ap (λ (l : List (Option Ticket)). set l place None) at.held_are
    ∙ set_at at.held_front at.held_rest at.held_one None place at.place_is
    ∙ ap (λ (o : Option Ticket). at.held_front ++ o ∷ at.held_rest) (sym one) ∙ sym at.held_are

-- what was taken out of a place
pub taken_at : (first : ℕ) (rows : List Progress) (held : List (Option Ticket)) (built : List JobId) (s : Core)
    (job : JobId) (place : ℕ) (o : Option Ticket) → IsPlaceOf (λ p. p.job.0) rows job.0 place
    → o ≡ held_at held place → AreKept first rows held (record { core = s; built = built })
    → IsTaken first rows (slice_set held place None) built job s o
taken_at first rows held built s job place None is e kept =
    let j : Judged = record { core = s; built = built } in
    let at = booked_at_place first rows held j job place kept is in (
      spent_number j rows held job place at (sym e),
      subst (λ (h : List (Option Ticket)). AreKept first rows h j) (sym (held_same j rows held job place at (sym e)))
          kept,
    )
taken_at first rows held built s job place (Some t) is e kept =
    let j : Judged = record { core = s; built = built } in
    let at = booked_at_place first rows held j job place kept is in (
      held_number j rows held job place t at (sym e),
      held_job j rows held job place t at (sym e),
      λ d spends.
          let both = spends_is d.kind job spends in
          kept_spent first rows held j d job place (spends_books s.log d.now d.kind job spends) both.1 both.0 at kept,
    )

pub none_taken : (first : ℕ) (rows : List Progress) (held : List (Option Ticket)) (built : List JobId) (s : Core)
    (job : JobId) → HasNone (λ p. p.job.0) rows job.0 → AreKept first rows held (record { core = s; built = built })
    → IsTaken first rows held built job s None
none_taken first rows held built s job none kept =
    (no_number first rows held (record { core = s; built = built }) job kept none, kept)

-- behind an entry that accepts that the build of a job has begun
pub kept_begun : (first : ℕ) (rows new_rows : List Progress) (held : List (Option Ticket)) (built : List JobId) (s : Core)
    (e : CoreEntry) (job : JobId) → new_rows ≡ map (row_begun job) rows → BeginsJob e.kind job
    → AreKept first rows held (record { core = s; built = built })
    → AreKept first new_rows held (record { core = logged s e; built = built })
kept_begun first rows new_rows held built s e job rows_are begins kept =
    kept_on first rows new_rows held held (record { core = s; built = built }) e (no_booking e.now e.kind begins)
    (rows_are ∙ map_all (row_begun job) (row_after e.kind)
    (λ r. ap (λ (b : Bool). record r { is_begun = r.is_begun || b }) (sym (claims e.kind begins r.job))) rows)
    (kept.held_are ∙ keys_same e.kind (no_spend e.kind begins) (bookings s.log)) kept
  where
    no_booking : (now : ℕ) (k : CoreKind) → BeginsJob k job → booked s.log (record { now = now; kind = k }) ≡ None
    no_booking now (core.Update server j state answer) is = refl
    no_booking now (core.Commit j state was) is = absurd is
    no_booking now (core.Undo j noted ended) is = absurd is
    no_booking now (core.Reserve r) is = absurd is
    no_booking now (core.Beat server nonce cpus key pruned reaped replaced is_new) is = absurd is
    no_booking now (core.Status pruned servers cpus n) is = absurd is
    no_booking now (core.Drain server nonce flag reg) is = absurd is

    claims : (k : CoreKind) → BeginsJob k job → (x : JobId) → claims_by k x ≡ same_job job x
    claims (core.Update server j state answer) is x =
        ap (λ (b : Bool). b && is_accepted answer && same_job j x) is.1
        ∙ ap (λ (b : Bool). b && same_job j x) is.2 ∙ ap (λ (y : JobId). same_job y x) is.0
    claims (core.Commit j state was) is x = absurd is
    claims (core.Undo j noted ended) is x = absurd is
    claims (core.Reserve r) is x = absurd is
    claims (core.Beat server nonce cpus key pruned reaped replaced is_new) is x = absurd is
    claims (core.Status pruned servers cpus n) is x = absurd is
    claims (core.Drain server nonce flag reg) is x = absurd is

    no_spend : (k : CoreKind) → BeginsJob k job → (x : JobId) → spends_by k x ≡ false
    no_spend (core.Update server j state answer) is x = refl
    no_spend (core.Commit j state was) is x = absurd is
    no_spend (core.Undo j noted ended) is x = absurd is
    no_spend (core.Reserve r) is x = refl
    no_spend (core.Beat server nonce cpus key pruned reaped replaced is_new) is x = refl
    no_spend (core.Status pruned servers cpus n) is x = refl
    no_spend (core.Drain server nonce flag reg) is x = refl

-- behind an entry that reserves a job
pub kept_added : (first : ℕ) (rows : List Progress) (held : List (Option Ticket)) (built : List JobId) (s : Core)
    (now : ℕ) (k : CoreKind) (t : Ticket) → ReservesJob k t.job → t.number ≡ length s.log
    → is_begun s.log t.job ≡ false → AreKept first rows held (record { core = s; built = built })
    → AreKept first (rows ++ record { job = t.job; is_begun = false; is_built = false } ∷ []) (held ++ Some t ∷ [])
    (record { core = logged s (record { now = now; kind = k }); built = built })
kept_added first rows held built s now (core.Reserve (reserve.Job job reg forgiven)) t is number_is fresh kept =
    kept_new first rows held (record { core = s; built = built }) now job reg forgiven t number_is (sym is)
    (ap (is_begun s.log) is ∙ fresh) kept
kept_added first rows held built s now (core.Reserve (reserve.NoRoom n)) t is number_is fresh kept = absurd is
kept_added first rows held built s now (core.Reserve reserve.Spent) t is number_is fresh kept = absurd is
kept_added first rows held built s now (core.Commit j state was) t is number_is fresh kept = absurd is
kept_added first rows held built s now (core.Undo j noted ended) t is number_is fresh kept = absurd is
kept_added first rows held built s now (core.Beat server nonce cpus key pruned reaped replaced is_new) t is number_is
    fresh kept = absurd is
kept_added first rows held built s now (core.Update server j state answer) t is number_is fresh kept = absurd is
kept_added first rows held built s now (core.Status pruned servers cpus n) t is number_is fresh kept = absurd is
kept_added first rows held built s now (core.Drain server nonce flag reg) t is number_is fresh kept = absurd is

pub place_within : (rows : List Progress) (wanted place : ℕ) → IsPlaceOf (λ p. p.job.0) rows wanted place
    → place < length rows
place_within rows wanted place is =
    let whole : length rows ≡ length is.whole.front + length (is.row ∷ is.whole.rest) = ap length is.whole.are
    ∙ length-append is.whole.front (is.row ∷ is.whole.rest) in
    let at = is.at in
    omega (arith, whole, at)

-- the row in that place
pub row_is : (rows : List Progress) (wanted place : ℕ) (r : Progress) → (is : IsPlaceOf (λ p. p.job.0) rows wanted place)
    → ((d : Progress) → r ≡ get_or rows place d) → r ≡ is.row
row_is rows wanted place r is same =
    same is.row ∙ ap (λ (l : List Progress). get_or l place is.row) is.whole.are
    ∙ got_or is.whole.front is.whole.rest is.row is.row place is.at

unlike : (a b : JobId) → same_job b a ≡ false → same_job a b ≡ false
unlike a b off = ne_eqb a.0 b.0 (λ one. eqb-false b.0 a.0 off (sym one))

pub begun_other : (job : JobId) (r : Progress) → same_job r.job job ≡ false → row_begun job r ≡ r
begun_other job r off = ap (λ (b : Bool). record r { is_begun = r.is_begun || b }) (unlike job r.job off)
    ∙ ap (λ (b : Bool). record r { is_begun = b }) (or_off r.is_begun)
  where
    or_off : (b : Bool) → (b || false) ≡ b
    or_off true = refl
    or_off false = refl

built_other : (job : JobId) (r : Progress) → same_job r.job job ≡ false → row_built job r ≡ r
built_other job r off = ap (λ (b : Bool). record r { is_built = r.is_built || b }) (unlike job r.job off)
    ∙ ap (λ (b : Bool). record r { is_built = b }) (or_off r.is_built)
  where
    or_off : (b : Bool) → (b || false) ≡ b
    or_off true = refl
    or_off false = refl

like : (job : JobId) (r : Progress) → r.job.0 ≡ job.0 → same_job job r.job ≡ true
like job r e = ap (λ n. job.0 == n) e ∙ nat_eq_equiv.refl job.0

or_on : (b : Bool) → (b || true) ≡ true
or_on true = refl
or_on false = refl

pub begun_put : (job : JobId) (rows : List Progress) (place : ℕ) (r : Progress)
    → (is : IsPlaceOf (λ p. p.job.0) rows job.0 place) → r ≡ is.row
    → slice_set rows place (record { job = job; is_begun = true; is_built = r.is_built }) ≡ map (row_begun job) rows
begun_put job rows place r is same =
    row_put (row_begun job) job rows place (record { job = job; is_begun = true; is_built = r.is_built })
    (begun_other job) is
    (ap (λ (x : JobId). record { job = x; is_begun = true; is_built = r.is_built }) (sym (ap job_of is.whole.own))
    ∙ ap (λ (b : Bool). record { job = is.row.job; is_begun = true; is_built = b }) (ap (λ (x : Progress). x.is_built) same)
    ∙ ap (λ (b : Bool). record { job = is.row.job; is_begun = b; is_built = is.row.is_built })
    (sym (ap (λ (b : Bool). is.row.is_begun || b) (like job is.row is.whole.own) ∙ or_on is.row.is_begun)))

pub built_put : (job : JobId) (rows : List Progress) (place : ℕ) (r : Progress)
    → (is : IsPlaceOf (λ p. p.job.0) rows job.0 place) → r ≡ is.row
    → slice_set rows place (record { job = job; is_begun = r.is_begun; is_built = true }) ≡ map (row_built job) rows
built_put job rows place r is same =
    row_put (row_built job) job rows place (record { job = job; is_begun = r.is_begun; is_built = true })
    (built_other job) is
    (ap (λ (x : JobId). record { job = x; is_begun = r.is_begun; is_built = true }) (sym (ap job_of is.whole.own))
    ∙ ap (λ (b : Bool). record { job = is.row.job; is_begun = b; is_built = true }) (ap (λ (x : Progress). x.is_begun) same)
    ∙ ap (λ (b : Bool). record { job = is.row.job; is_begun = is.row.is_begun; is_built = b })
    (sym (ap (λ (b : Bool). is.row.is_built || b) (like job is.row is.whole.own) ∙ or_on is.row.is_built)))

-- the id of the row in that place
pub id_is : (rows : List Progress) (wanted place : ℕ) → IsPlaceOf (λ p. p.job.0) rows wanted place
    → (d : Progress) → (get_or rows place d).job.0 ≡ wanted
id_is rows wanted place is d =
    ap (λ (l : List Progress). (get_or l place d).job.0) is.whole.are
    ∙ ap (λ (r : Progress). r.job.0) (got_or is.whole.front is.whole.rest is.row d place is.at) ∙ is.whole.own

-- a build that is good, and one that is not
pub is_due_as : (first : ℕ) (rows : List Progress) (held : List (Option Ticket)) (built : List JobId) (s : Core)
    (job : JobId) (place : ℕ) (b : Bool) → AreKept first rows held (record { core = s; built = built })
    → (is : IsPlaceOf (λ p. p.job.0) rows job.0 place) → b ≡ (is.row.is_begun && not is.row.is_built)
    → b ≡ (is_begun s.log job && not (names_job built job))
is_due_as first rows held built s job place b kept is due =
    let says = row_says first rows held (record { core = s; built = built }) job place kept is in
    due ∙ ap (λ (v : Bool). v && not is.row.is_built) says.0
    ∙ ap (λ (v : Bool). is_begun s.log job && not v) says.1

-- with an empty log
pub kept_start : (first : ℕ) (rows : List Progress) (held : List (Option Ticket)) (built : List JobId) (s : Core)
    → rows ≡ [] → held ≡ [] → built ≡ [] → s.log ≡ [] → first ≡ (s.start.base + s.start.count) % 2 ^ 64
    → AreKept first rows held (record { core = s; built = built })
kept_start first rows held built s no_rows none_held none_built none is =
    subst (λ (rs : List Progress). AreKept first rs held (record { core = s; built = built })) (sym no_rows)
    (subst (λ (h : List (Option Ticket)). AreKept first [] h (record { core = s; built = built })) (sym none_held)
    (subst (λ (b : List JobId). AreKept first [] [] (record { core = s; built = b })) (sym none_built)
    (record {
      rows_are = sym (ap (λ (log : List CoreEntry). map (row_due (record { core = s; built = [] })) (bookings log)) none);
      held_are = sym (ap (λ (log : List CoreEntry). map key_due (bookings log)) none);
      first_is = is;
      built_are = tt;
    })))

-- the same, of what the code has then
pub added : (first new_first : ℕ) (rows new_rows : List Progress) (held new_held : List (Option Ticket))
    (built : List JobId) (s : Core) (e : CoreEntry) (t : Ticket) → new_first ≡ first
    → new_rows ≡ rows ++ record { job = t.job; is_begun = false; is_built = false } ∷ []
    → new_held ≡ held ++ Some t ∷ [] → ReservesJob e.kind t.job → t.number ≡ length s.log
    → is_begun s.log t.job ≡ false → AreKept first rows held (record { core = s; built = built })
    → AreKept new_first new_rows new_held (record { core = logged s e; built = built })
added first new_first rows new_rows held new_held built s e t first_is rows_are held_are reserves number_is fresh kept =
    subst (λ (n : ℕ). AreKept n new_rows new_held (record { core = logged s e; built = built })) (sym first_is)
    (subst (λ (rs : List Progress). AreKept first rs new_held (record { core = logged s e; built = built }))
    (sym rows_are)
    (subst (λ (h : List (Option Ticket)). AreKept first (rows ++ record {
      job = t.job;
      is_begun = false;
      is_built = false;
    } ∷ []) h (record { core = logged s e; built = built })) (sym held_are)
    (kept_added first rows held built s e.now e.kind t reserves number_is fresh kept)))

-- behind a build
pub built_kept : (first new_first : ℕ) (rows new_rows : List Progress) (held : List (Option Ticket))
    (built new_built : List JobId) (s : Core) (job : JobId) → new_first ≡ first → new_rows ≡ map (row_built job) rows
    → new_built ≡ built ++ job ∷ [] → true ≡ (is_begun s.log job && not (names_job built job))
    → AreKept first rows held (record { core = s; built = built })
    → AreKept new_first new_rows held (record { core = s; built = new_built })
built_kept first new_first rows new_rows held built new_built s job first_is rows_are built_are good kept =
    let begun = and_parts (is_begun s.log job) (not (names_job built job)) (sym good) in
    subst (λ (n : ℕ). AreKept n new_rows held (record { core = s; built = new_built })) (sym first_is)
    (subst (λ (b : List JobId). AreKept first new_rows held (record { core = s; built = b })) (sym built_are)
    (kept_built first rows new_rows held (record { core = s; built = built }) job begun.0 rows_are kept))

-- a job that has not begun
pub not_due : (first : ℕ) (rows : List Progress) (held : List (Option Ticket)) (built : List JobId) (s : Core)
    (job : JobId) → s.start.count < 2 ^ 64 → IsLegal s.start s.log
    → AreKept first rows held (record { core = s; built = built }) → HasNone (λ p. p.job.0) rows job.0
    → false ≡ (is_begun s.log job && not (names_job built job))
not_due first rows held built s job fits legal kept none =
    sym (ap (λ (b : Bool). b && not (names_job built job))
    (none_begun_there first rows held (record { core = s; built = built }) job fits legal kept none))

-- with other room
pub kept_room : (first new_first : ℕ) (rows new_rows : List Progress) (held : List (Option Ticket)) (j : Judged)
    → new_first ≡ first → new_rows ≡ rows → AreKept first rows held j → AreKept new_first new_rows held j
kept_room first new_first rows new_rows held j first_is rows_are kept =
    subst (λ (n : ℕ). AreKept n new_rows held j) (sym first_is)
    (subst (λ (rs : List Progress). AreKept first rs held j) (sym rows_are) kept)

pub tells_begins : (k : CoreKind) (job : JobId) (state : JobState) (accepted : Bool)
    → (is_started state && accepted) ≡ true → TellsState k job state accepted → BeginsJob k job
tells_begins (core.Update server j is answer) job state accepted on tells =
    let p = and_parts (is_started state) accepted on in
    (tells.0, ap is_started tells.1 ∙ p.0, tells.2 ∙ p.1)
tells_begins (core.Commit j is was) job state accepted on tells = absurd tells
tells_begins (core.Undo j noted ended) job state accepted on tells = absurd tells
tells_begins (core.Reserve r) job state accepted on tells = absurd tells
tells_begins (core.Beat server nonce cpus key pruned reaped replaced is_new) job state accepted on tells = absurd tells
tells_begins (core.Status pruned servers cpus n) job state accepted on tells = absurd tells
tells_begins (core.Drain server nonce flag reg) job state accepted on tells = absurd tells

pub kept_unbegun : (first : ℕ) (rows : List Progress) (held : List (Option Ticket)) (built : List JobId) (s : Core)
    (now : ℕ) (k : CoreKind) (job : JobId) (state : JobState) (accepted : Bool) → (is_started state && accepted) ≡ false
    → TellsState k job state accepted → AreKept first rows held (record { core = s; built = built })
    → AreKept first rows held (record { core = logged s (record { now = now; kind = k }); built = built })
kept_unbegun first rows held built s now (core.Update server j is answer) job state accepted off tells kept =
    kept_quiet first rows held (record { core = s; built = built })
    (record { now = now; kind = core.Update server j is answer }) refl
    (λ x. ap (λ (b : Bool). b && same_job j x) (ap (λ (st : JobState). is_started st && is_accepted answer) tells.1
    ∙ ap (λ (b : Bool). is_started state && b) tells.2 ∙ off)) (λ x. refl) kept
kept_unbegun first rows held built s now (core.Commit j is was) job state accepted off tells kept = absurd tells
kept_unbegun first rows held built s now (core.Undo j noted ended) job state accepted off tells kept = absurd tells
kept_unbegun first rows held built s now (core.Reserve r) job state accepted off tells kept = absurd tells
kept_unbegun first rows held built s now (core.Beat server nonce cpus key pruned reaped replaced is_new) job state
    accepted off tells kept = absurd tells
kept_unbegun first rows held built s now (core.Status pruned servers cpus n) job state accepted off tells kept =
    absurd tells
kept_unbegun first rows held built s now (core.Drain server nonce flag reg) job state accepted off tells kept =
    absurd tells
