-- What one entry ends, one job or registration after another.
use Rattle.std.proofs.Common.{◌≡◌, ℕ, zero, suc, List, [], ◌∷◌, ◌++◌, Bool, true, false}
use Rattle.std.proofs.Common.{not, ◌&&◌}
use Rattle.std.proofs.Common.{◌||◌, map, set, length, drop, Option, Some, None, refl, ap, ◌∙◌, sym, subst}
use Rattle.std.proofs.Common.{arith}
use Rattle.std.specs.Prelude.{slice_get, ◌==◌, if◌then◌else◌}
use Rattle.std.specs.Option.{option_map}
use Rattle.std.proofs.lemmas.Bool.{eq-eqb, eqb-true}
use Rattle.dist_types.specs.declared.addr.Addr.{Addr}
use Rattle.dist_types.specs.declared.ids.JobId.{JobId}
use Rattle.dist_types.specs.declared.results.JobState.{JobState}
use Rattle.row_index.specs.Following.{HasNone, IsPlaceOf}
use Rattle.core_rules.specs.declared.entry.CoreKind.TheVariants.{Beat, Reserve, Commit, Undo, Update}
use Rattle.core_rules.specs.declared.entry.CoreKind.TheVariants.{Status, Drain}
use Rattle.core_rules.specs.declared.entry.Reserved.{Reserved}
use Rattle.core_rules.specs.declared.entry.UpdateAnswer.{UpdateAnswer}
use Rattle.core_rules.specs.Log.{same_job, names, names_job, is_this}
use Rattle.core_rules.specs.Reservation.{frees_by, is_accepted, is_complete}
use Rattle.quota.specs.Holdings.{Owned, owned_by, owned_in, owned_of, owned_after, owned_ended, ended_job}
use Rattle.quota.specs.Holdings.{ended_jobs, ended_at, ended_if, ended_at_all, ended_job_if, share_ended_at}
use Rattle.quota.specs.Holdings.{share_ended, link_of}
use Rattle.quota.specs.declared.rows.OwnedRow.{OwnedRow}
use Rattle.quota.specs.declared.rows.Share.{Share}
use Rattle.core_rules.proofs.AllLemmas.{true_false}
use Rattle.quota.proofs.ListLemmas.{got_map}

map_map : {X Y Z : Type 0} (g : Y → Z) (f : X → Y) (xs : List X) → map g (map f xs) ≡ map (λ x. g (f x)) xs
map_map g f [] = refl
map_map g f (x ∷ xs) = ap (λ zs. g (f x) ∷ zs) (map_map g f xs)

map_all : {X Y : Type 0} (f g : X → Y) → ((x : X) → f x ≡ g x) → (xs : List X) → map f xs ≡ map g xs
map_all f g same [] = refl
map_all f g same (x ∷ xs) = ap (λ y. y ∷ map f xs) (same x) ∙ ap (λ ys. g x ∷ ys) (map_all f g same xs)

-- a reservation with another answer to whether it is unended
abbrev with_unended : Owned → Bool → Owned
with_unended o b = record o { unended = b }

and_yes : (b : Bool) → (b && true) ≡ b
and_yes true = refl
and_yes false = refl

-- nothing ends: all stay
all_stay : (f : Owned → Bool) (owned : List Owned) → ((o : Owned) → f o ≡ false)
    → map (λ o. with_unended o (o.unended && not (f o))) owned ≡ owned
all_stay f [] none = refl
all_stay f (o ∷ owned) none =
    ap (λ b. with_unended o (o.unended && not b) ∷ map (λ q. with_unended q (q.unended && not (f q))) owned)
    (none o)
    ∙ ap (λ b. with_unended o b ∷ map (λ q. with_unended q (q.unended && not (f q))) owned) (and_yes
    o.unended)
    ∙ ap (λ l. o ∷ l) (all_stay f owned none)

-- the same ends by two tests that agree
same_ends : (f g : Owned → Bool) (owned : List Owned) → ((o : Owned) → f o ≡ g o)
    → map (λ o. with_unended o (o.unended && not (f o))) owned
    ≡ map (λ o. with_unended o (o.unended && not (g o))) owned
same_ends f g owned agree = map_all (λ o. with_unended o (o.unended && not (f o)))
    (λ o. with_unended o (o.unended && not (g o)))
    (λ o. ap (λ b. with_unended o (o.unended && not b)) (agree o)) owned

-- one test after another
ends_twice : (f g : Owned → Bool) (owned : List Owned)
    → ((o : Owned) (b : Bool) → f (with_unended o b) ≡ f o)
    → map (λ o. with_unended o (o.unended && not (f o))) (map (λ o. with_unended o (o.unended && not (g
    o))) owned)
    ≡ map (λ o. with_unended o (o.unended && not (g o || f o))) owned
ends_twice f g owned blind =
    map_map (λ o. with_unended o (o.unended && not (f o))) (λ o. with_unended o (o.unended && not (g o)))
    owned
    ∙ map_all (λ o. with_unended o ((o.unended && not (g o))
    && not (f (with_unended o (o.unended && not (g o))))))
    (λ o. with_unended o (o.unended && not (g o || f o)))
    (λ o. ap (λ b. with_unended o ((o.unended && not (g o)) && not b))
    (blind o (o.unended && not (g o)))
    ∙ ap (with_unended o) (either o.unended (g o) (f o))) owned
  where
    either : (u a b : Bool) → ((u && not a) && not b) ≡ (u && not (a || b))
    either true true b = refl
    either true false b = refl
    either false true b = refl
    either false false b = refl

-- some jobs after one, some registrations after one, and none
pub jobs_next : (job : JobId) (jobs : List JobId) (owned : List Owned)
    → map (ended_jobs jobs) (map (ended_job job) owned) ≡ map (ended_jobs (job ∷ jobs)) owned
jobs_next job jobs owned = ends_twice (λ o. names_job jobs o.job) (λ o. same_job job o.job) owned (λ o b.
    refl)

pub jobs_none : (owned : List Owned) → map (ended_jobs []) owned ≡ owned
jobs_none owned = all_stay (λ o. false) owned (λ o. refl)

pub regs_next : (reg : ℕ) (regs : List ℕ) (owned : List Owned)
    → map (ended_at_all regs) (map (ended_at reg) owned) ≡ map (ended_at_all (reg ∷ regs)) owned
regs_next reg regs owned = ends_twice (λ o. names regs o.reg) (λ o. reg == o.reg) owned (λ o b. refl)

pub regs_none : (owned : List Owned) → map (ended_at_all []) owned ≡ owned
regs_none owned = all_stay (λ o. false) owned (λ o. refl)

pub if_none : (owned : List Owned) → owned ≡ map (ended_if None) owned
if_none owned = sym (all_stay (λ o. false) owned (λ o. refl))

pub if_some : (reg : ℕ) (owned : List Owned) → map (ended_at reg) owned ≡ map (ended_if (Some reg)) owned
if_some reg owned = refl

pub job_yes : (job : JobId) (owned : List Owned) → map (ended_job job) owned ≡ map (ended_job_if true job)
    owned
job_yes job owned = refl

pub job_no : (ends : Bool) (job : JobId) (owned : List Owned) → ends ≡ false
    → owned ≡ map (ended_job_if ends job) owned
job_no ends job owned none = sym (all_stay (λ o. ends && same_job job o.job) owned
    (λ o. ap (λ b. b && same_job job o.job) none))

-- what each kind of entry ends

pub reserve_is : (r : Reserved) (owned : List Owned) → owned ≡ map (owned_after (Reserve r)) owned
reserve_is r owned = sym (all_stay (λ o. false) owned (λ o. refl))

pub commit_is : (job : JobId) (state : JobState) (kept : Bool) (owned : List Owned)
    → owned ≡ map (owned_after (Commit job state kept)) owned
commit_is job state kept owned = sym (all_stay (λ o. false) owned (λ o. refl))

pub drain_is : (server : Addr) (nonce : ℕ) (on : Bool) (reg : Option ℕ) (owned : List Owned)
    → owned ≡ map (owned_after (Drain server nonce on reg)) owned
drain_is server nonce on reg owned = sym (all_stay (λ o. false) owned (λ o. refl))

or_no : (b : Bool) → (b || false) ≡ b
or_no true = refl
or_no false = refl

pub undo_is : (job : JobId) (noted : Option ℕ) (ends : Bool) (owned : List Owned)
    → map (ended_job_if ends job) owned ≡ map (owned_after (Undo job noted ends)) owned
undo_is job noted ends owned = same_ends (λ o. ends && same_job job o.job)
    (λ o. frees_by (Undo job noted ends) o.job o.reg) owned
    (λ o. sym (or_no (((ends && same_job job o.job) || false) || false)
    ∙ or_no ((ends && same_job job o.job) || false) ∙ or_no (ends && same_job job o.job)))

pub update_is : (server : Addr) (job : JobId) (state : JobState) (answer : UpdateAnswer) (owned : List Owned)
    → map (ended_job_if (is_complete state && is_accepted answer) job) owned
    ≡ map (owned_after (Update server job state answer)) owned
update_is server job state answer owned =
    same_ends (λ o. (is_complete state && is_accepted answer) && same_job job o.job)
    (λ o. frees_by (Update server job state answer) o.job o.reg) owned
    (λ o. sym (or_no ((is_complete state && is_accepted answer) && same_job job o.job)))

pub status_is : (pruned : List ℕ) (servers cpus jobs : ℕ) (owned : List Owned)
    → map (ended_at_all pruned) owned ≡ map (owned_after (Status pruned servers cpus jobs)) owned
status_is pruned servers cpus jobs owned = refl

pub beat_is : (server : Addr) (nonce cpus : ℕ) (key pruned : List ℕ) (reaped : List JobId)
    (replaced : Option ℕ) (is_new : Bool) (owned : List Owned)
    → map (ended_jobs reaped) (map (ended_if replaced) (map (ended_at_all pruned) owned))
    ≡ map (owned_after (Beat server nonce cpus key pruned reaped replaced is_new)) owned
beat_is server nonce cpus key pruned reaped replaced is_new owned =
    ap (map (ended_jobs reaped)) (ends_twice (λ o. is_this replaced o.reg) (λ o. names pruned o.reg) owned
    (λ o b. refl))
    ∙ ends_twice (λ o. names_job reaped o.job) (λ o. names pruned o.reg || is_this replaced o.reg) owned
    (λ o b. refl)
    ∙ same_ends (λ o. (names pruned o.reg || is_this replaced o.reg) || names_job reaped o.job)
    (λ o. frees_by (Beat server nonce cpus key pruned reaped replaced is_new) o.job o.reg) owned
    (λ o. turned (names pruned o.reg) (is_this replaced o.reg) (names_job reaped o.job))
  where
    turned : (p r j : Bool) → ((p || r) || j) ≡ ((j || false) || (p || r))
    turned true r true = refl
    turned true r false = refl
    turned false true true = refl
    turned false true false = refl
    turned false false true = refl
    turned false false false = refl

-- one job

-- the job of a row is its reservation's
read_job : (o : Option Share) (r : OwnedRow) → (owned_by o r).job ≡ r.job
read_job None r = refl
read_job (Some s) r = refl

pub none_ended : (rows : List OwnedRow) (shares : List Share) (job : JobId) → HasNone (λ r. r.job.0) rows
    job.0
    → owned_of rows shares ≡ map (ended_job job) (owned_of rows shares)
none_ended [] shares job none = refl
none_ended (r ∷ rows) shares job none =
    ap (λ b. with_unended (owned_in shares r) b ∷ owned_of rows shares) (sym (and_yes (owned_in shares
    r).unended))
    ∙ ap (λ b. with_unended (owned_in shares r) ((owned_in shares r).unended && not b) ∷ owned_of rows shares)
    (sym (ap (λ j. same_job job j) (read_job (slice_get shares r.share) r)
    ∙ apart (job.0 == r.job.0) refl none.0))
    ∙ ap (λ l. ended_job job (owned_in shares r) ∷ l) (none_ended rows shares job none.1)
  where
    apart : (b : Bool) → (job.0 == r.job.0) ≡ b → (r.job.0 == job.0) ≡ false → (job.0 == r.job.0) ≡ false
    apart true e other =
        let same : job.0 ≡ r.job.0 = eqb-true job.0 r.job.0 e in
        absurd (true_false (r.job.0 == job.0) (eq-eqb r.job.0 job.0 (sym same)) other)
    apart false e other = e

one_ended : (front rest : List OwnedRow) (row : OwnedRow) (shares : List Share) (job : JobId) (place : ℕ)
    → length front ≡ place → HasNone (λ r. r.job.0) front job.0 → HasNone (λ r. r.job.0) rest job.0
    → row.job.0 ≡ job.0
    → set (owned_of (front ++ row ∷ rest) shares) place (owned_ended (owned_in shares row))
    ≡ map (ended_job job) (owned_of (front ++ row ∷ rest) shares)
one_ended [] rest row shares job place is before behind own =
    ap (λ n. set (owned_of (row ∷ rest) shares) n (owned_ended (owned_in shares row))) (sym is)
    ∙ ap (λ b. with_unended (owned_in shares row) b ∷ owned_of rest shares)
    (sym (ap (λ b. (owned_in shares row).unended && not b)
    (ap (λ j. same_job job j) (read_job (slice_get shares row.share) row) ∙ eq-eqb job.0 row.job.0 (sym own))
    ∙ and_no (owned_in shares row).unended))
    ∙ ap (λ l. ended_job job (owned_in shares row) ∷ l) (none_ended rest shares job behind)
  where
    and_no : (b : Bool) → (b && false) ≡ false
    and_no true = refl
    and_no false = refl
one_ended (f ∷ front) rest row shares job zero is before behind own = absurd (omega (arith, is))
one_ended (f ∷ front) rest row shares job (suc place) is before behind own =
    ap (λ l. owned_in shares f ∷ l)
    (one_ended front rest row shares job place (omega (arith, is)) before.1 behind own)
    ∙ ap (λ l. l ++ map (ended_job job) (owned_of (front ++ row ∷ rest) shares))
    (none_ended (f ∷ []) shares job (before.0, tt))

got_at : {X : Type 0} (front rest : List X) (x : X) (n : ℕ) → length front ≡ n
    → slice_get (front ++ x ∷ rest) n ≡ Some x
got_at [] rest x n is = ap (slice_get (x ∷ rest)) (sym is)
got_at (f ∷ front) rest x zero is = absurd (omega (arith, is))
got_at (f ∷ front) rest x (suc n) is = got_at front rest x n (omega (arith, is))

pub row_there : (rows : List OwnedRow) (job : JobId) (place : ℕ) (is : IsPlaceOf (λ r. r.job.0) rows job.0
    place)
    → slice_get rows place ≡ Some is.row
row_there rows job place is = ap (λ l. slice_get l place) is.whole.are
    ∙ got_at is.whole.front is.whole.rest is.row place is.at

pub job_ended : (rows : List OwnedRow) (shares : List Share) (job : JobId) (place : ℕ)
    (is : IsPlaceOf (λ r. r.job.0) rows job.0 place)
    → set (owned_of rows shares) place (owned_ended (owned_in shares is.row))
    ≡ map (ended_job job) (owned_of rows shares)
job_ended rows shares job place is = subst (λ l. set (owned_of l shares) place
    (owned_ended (owned_in shares is.row)) ≡ map (ended_job job) (owned_of l shares)) (sym is.whole.are)
    (one_ended is.whole.front is.whole.rest is.row shares job place is.at is.whole.before is.whole.behind
    is.whole.own)

-- one registration

read_over : (reg : ℕ) (s : Share) (r : OwnedRow)
    → owned_by (Some (share_ended_at reg s)) r ≡ ended_at reg (owned_by (Some s) r)
read_over reg s r = by (reg == s.reg)
  where
    both : (a b : Bool) → (a && not true) ≡ ((a && b) && not true)
    both true true = refl
    both true false = refl
    both false true = refl
    both false false = refl

    by : (t : Bool) → owned_by (Some (if t then share_ended s else s)) r
        ≡ with_unended (owned_by (Some s) r) ((r.unended && not s.over) && not t)
    by true = ap (with_unended (owned_by (Some s) r)) (both r.unended (not s.over))
    by false = ap (with_unended (owned_by (Some s) r)) (sym (and_yes (r.unended && not s.over)))

pub reg_ended : (rows : List OwnedRow) (shares : List Share) (reg : ℕ)
    → owned_of rows (map (share_ended_at reg) shares) ≡ map (ended_at reg) (owned_of rows shares)
reg_ended rows shares reg =
    map_all (owned_in (map (share_ended_at reg) shares)) (λ r. ended_at reg (owned_in shares r))
    (λ r. ap (λ o. owned_by o r) (got_map (share_ended_at reg) shares r.share)
    ∙ each (slice_get shares r.share) r) rows
    ∙ sym (map_map (ended_at reg) (owned_in shares) rows)
  where
    each : (o : Option Share) (r : OwnedRow)
        → owned_by (option_map (share_ended_at reg) o) r ≡ ended_at reg (owned_by o r)
    each None r = refl
    each (Some s) r = read_over reg s r

-- which leaves the links
pub reg_links : (reg : ℕ) (shares : List Share) → map link_of (map (share_ended_at reg) shares) ≡ map
    link_of shares
reg_links reg shares = map_map link_of (share_ended_at reg) shares
    ∙ map_all (λ s. link_of (share_ended_at reg s)) link_of (λ s. each s (reg == s.reg)) shares
  where
    each : (s : Share) (t : Bool) → link_of (if t then share_ended s else s) ≡ link_of s
    each s true = refl
    each s false = refl

-- what is left of a list before its first element
pub drop_none : {X : Type 0} (xs : List X) → drop 0 xs ≡ xs
drop_none xs = refl
