-- What is kept beside the rows: the numbers by their addresses, and the sum of all processors.
use Rattle.std.proofs.Common.{◌≡◌, ◌≢◌, ◌<◌, ◌≤◌, ℕ, ◌+◌, ◌*◌, ◌-◌, ◌^◌, List, [], ◌∷◌, ◌++◌, Bool, true}
use Rattle.std.proofs.Common.{cond, not, map, filter, length, Option, Some, None, refl, ap, ◌∙◌, sym}
use Rattle.std.proofs.Common.{false, subst, arith, eqb-true, eq-eqb}
use Rattle.std.specs.Prelude.{◌==◌, find, sum_by}
use Rattle.std.specs.List.{AllByRecursion}
use Rattle.std.specs.Option.{option_map}
use Rattle.std.proofs.lemmas.List.Sums.{sum_by-cons, sum_by-append}
use Rattle.dist_types.specs.declared.addr.Addr.{Addr}
use Rattle.dist_types.specs.Addr.{same_addr}
use Rattle.row_index.specs.Lookup.{HaveSame, Puts}
use Rattle.core_rules.specs.declared.rows.ServerRow.{ServerRow}
use Rattle.sched_core.specs.declared.change.Change.{Change}
use Rattle.core_rules.specs.Laws.{AreRising, AreDifferent}
use Rattle.core_rules.specs.Prune.{at_address, left, is_expired, prune}
use Rattle.sched_core.specs.Changes.{row_changed_at}
use Rattle.sched_core.specs.Registrations.{AreSoundRows, AreIndexed, HasWordOfCpus, number_at, cpus_at}
use Rattle.sched_core.specs.Registrations.{cpus_in}
use Rattle.core_rules.proofs.AllLemmas.{all-both, all-weaker, all-append, all-filter, all-map, all-unmap}
use Rattle.core_rules.proofs.AllLemmas.{is_false, true_false}
use Rattle.core_rules.proofs.AddressLemmas.{same_is}
use Rattle.core_rules.proofs.RowLemmas.{at_there}
use Rattle.sched_core.proofs.ChangeLemmas.{different_only, sound_filter}
use Rattle.sched_core.proofs.RegistrationLemmas.{reg_kept, server_kept, cpus_kept, at_kept, sound_changed}

below_apart : (m n : ℕ) → m < n → (m == n) ≡ false
below_apart m n lt = is_false (m == n) (λ t. let e : m ≡ n = eqb-true m n t in omega (arith, lt, e))

-- each row is the one of its number
each_found : (rows : List ServerRow) → AreRising (map (λ r. r.reg) rows)
    → AllByRecursion (λ x. find (λ q. q.reg == x.reg) rows ≡ Some x) rows
each_found [] rising = tt
each_found (r ∷ rows) rising = (
  ap (λ b. cond b (Some r) (find (λ q. q.reg == r.reg) rows)) (eq-eqb r.reg r.reg refl),
  all-both (λ x. r.reg < x.reg) (λ x. find (λ q. q.reg == x.reg) rows ≡ Some x)
      (λ x. find (λ q. q.reg == x.reg) (r ∷ rows) ≡ Some x)
      (λ x lt found. ap (λ b. cond b (Some r) (find (λ q. q.reg == x.reg) rows)) (below_apart r.reg x.reg lt)
      ∙ found)
      rows (all-unmap (λ m. r.reg < m) (λ q. q.reg) rows rising.0) (each_found rows rising.1),
)

-- the row of the number at an address is the row at the address
pub by_number : (rows : List ServerRow) (server : Addr) (n : ℕ) → AreRising (map (λ r. r.reg) rows)
    → number_at server rows ≡ Some n → find (λ r. r.reg == n) rows ≡ at_address server rows
by_number rows server n rising is = split (at_address server rows) refl is
  where
    split : (o : Option ServerRow) → at_address server rows ≡ o → option_map (λ r. r.reg) o ≡ Some n
        → find (λ r. r.reg == n) rows ≡ o
    split None at e = absurd cc
    split (Some r) at e =
        let same : r.reg ≡ n = cc in
        ap (λ k. find (λ q. q.reg == k) rows) (sym same)
        ∙ (at_there (λ x. same_addr x.server server) rows r at
        (λ x. find (λ q. q.reg == x.reg) rows ≡ Some x) (each_found rows rising)).0

pub none_at : (rows : List ServerRow) (server : Addr) → number_at server rows ≡ None
    → None ≡ at_address server rows
none_at rows server is = split (at_address server rows) is
  where
    split : (o : Option ServerRow) → option_map (λ r. r.reg) o ≡ None → None ≡ o
    split None e = refl
    split (Some r) e = absurd cc

-- one registration less

find_skipped : {X : Type 0} (test p : X → Bool) (xs : List X)
    → AllByRecursion (λ x. p x ≡ false → test x ≡ false) xs → find test (filter p xs) ≡ find test xs
find_skipped test p [] all = refl
find_skipped {X} test p (x ∷ xs) all = split (p x) refl (find_skipped test p xs all.1)
  where
    split : (b : Bool) → p x ≡ b → find test (filter p xs) ≡ find test xs
        → find test (cond b (x ∷ filter p xs) (filter p xs)) ≡ cond (test x) (Some x) (find test xs)
    split true is rest = ap (λ o. cond (test x) (Some x) o) rest
    split false is rest = rest ∙ sym (ap (λ b. cond b (Some x) (find test xs)) (all.0 is))

find_gone : {X : Type 0} (test p : X → Bool) (xs : List X)
    → AllByRecursion (λ x. test x ≡ true → p x ≡ false) xs → find test (filter p xs) ≡ None
find_gone test p [] all = refl
find_gone {X} test p (x ∷ xs) all = split (p x) (test x) refl refl (find_gone test p xs all.1)
  where
    split : (b c : Bool) → p x ≡ b → test x ≡ c → find test (filter p xs) ≡ None
        → find test (cond b (x ∷ filter p xs) (filter p xs)) ≡ None
    split false c is t rest = rest
    split true false is t rest = ap (λ b. cond b (Some x) (find test (filter p xs))) t ∙ rest
    split true true is t rest = absurd (true_false (p x) is (all.0 t))

unnot : (b : Bool) → not b ≡ false → b ≡ true
unnot true e = refl
unnot false e = absurd cc

-- nothing is at the address of a registration that ended, and each other address has what it had
ended_at : (rows : List ServerRow) (n : ℕ) (row : ServerRow) → AreDifferent (map (λ r. r.server) rows)
    → AllByRecursion (λ r. (r.reg == n) ≡ true → r ≡ row) rows → find (λ r. r.reg == n) rows ≡ Some row
    → (server : Addr)
    → at_address server (filter (λ r. not (r.reg == n)) rows)
    ≡ cond (same_addr row.server server) None (at_address server rows)
ended_at rows n row apart only found server = split (same_addr row.server server) refl
  where
    own : (row.reg == n) ≡ true
    own = (at_there (λ r. r.reg == n) rows row found (λ r. (r.reg == n) ≡ true → r ≡ row) only).1

    alone : AllByRecursion (λ y. y.server ≡ row.server → y ≡ row) rows
    alone = (at_there (λ r. r.reg == n) rows row found
        (λ x. AllByRecursion (λ y. y.server ≡ x.server → y ≡ x) rows)
        (different_only (λ r. r.server) rows apart)).0

    split : (b : Bool) → same_addr row.server server ≡ b
        → at_address server (filter (λ r. not (r.reg == n)) rows) ≡ cond b None (at_address server rows)
    split true is = find_gone (λ r. same_addr r.server server) (λ r. not (r.reg == n)) rows
        (all-weaker (λ y. y.server ≡ row.server → y ≡ row)
        (λ y. same_addr y.server server ≡ true → not (y.reg == n) ≡ false)
        (λ y one t. ap (λ (z : ServerRow). not (z.reg == n))
        (one (same_is y.server server t ∙ sym (same_is row.server server is))) ∙ ap not own) rows alone)
    split false is = find_skipped (λ r. same_addr r.server server) (λ r. not (r.reg == n)) rows
        (all-weaker (λ r. (r.reg == n) ≡ true → r ≡ row)
        (λ r. not (r.reg == n) ≡ false → same_addr r.server server ≡ false)
        (λ r one gone. ap (λ (z : ServerRow). same_addr z.server server) (one (unnot (r.reg == n) gone)) ∙ is)
        rows only)

taken_number : (b : Bool) (o : Option ServerRow)
    → option_map (λ r. r.reg) (cond b None o) ≡ cond b None (option_map (λ r. r.reg) o)
taken_number true o = refl
taken_number false o = refl

filter_none : (p : ServerRow → Bool) (rows : List ServerRow) → AllByRecursion (λ r. p r ≡ false) rows
    → filter p rows ≡ []
filter_none p [] none = refl
filter_none p (r ∷ rows) none =
    ap (λ b. cond b (r ∷ filter p rows) (filter p rows)) none.0 ∙ filter_none p rows none.1

one_left : (rows : List ServerRow) (n : ℕ) (row : ServerRow) → AreRising (map (λ r. r.reg) rows)
    → find (λ r. r.reg == n) rows ≡ Some row → filter (λ r. r.reg == n) rows ≡ row ∷ []
one_left [] n row rising found = absurd cc
one_left (r ∷ rows) n row rising found = split (r.reg == n) refl found (one_left rows n row rising.1)
  where
    split : (b : Bool) → (r.reg == n) ≡ b → cond b (Some r) (find (λ r. r.reg == n) rows) ≡ Some row
        → (find (λ r. r.reg == n) rows ≡ Some row → filter (λ r. r.reg == n) rows ≡ row ∷ [])
        → cond b (r ∷ filter (λ r. r.reg == n) rows) (filter (λ r. r.reg == n) rows) ≡ row ∷ []
    split true is f rest =
        let same : r ≡ row = cc in
        let own : r.reg ≡ n = eqb-true r.reg n is in
        ap (λ l. r ∷ l) (filter_none (λ q. q.reg == n) rows
        (all-weaker (λ q. r.reg < q.reg) (λ q. (q.reg == n) ≡ false)
        (λ q lt. is_false (q.reg == n) (λ t. let e : q.reg ≡ n = eqb-true q.reg n t in
        omega (arith, lt, own, e))) rows
        (all-unmap (λ m. r.reg < m) (λ q. q.reg) rows rising.0))) ∙ ap (λ q. q ∷ []) same
    split false is f rest = rest f

-- sums of processors

abbrev sum_of : List ServerRow → ℕ
sum_of rows = sum_by (λ r. r.cpus) rows

parts_sum : (p : ServerRow → Bool) (rows : List ServerRow)
    → sum_of (filter (λ r. not (p r)) rows) + sum_of (filter p rows) ≡ sum_of rows
parts_sum p [] = refl
parts_sum p (r ∷ rows) = split (p r) (parts_sum p rows)
  where
    split : (b : Bool) → sum_of (filter (λ r. not (p r)) rows) + sum_of (filter p rows) ≡ sum_of rows
        → sum_of (cond (not b) (r ∷ filter (λ r. not (p r)) rows) (filter (λ r. not (p r)) rows))
        + sum_of (cond b (r ∷ filter p rows) (filter p rows)) ≡ sum_of (r ∷ rows)
    split true rest =
        let all = sum_by-cons (λ (q : ServerRow). q.cpus) r rows in
        let more = sum_by-cons (λ (q : ServerRow). q.cpus) r (filter p rows) in
        omega (arith, rest, all, more)
    split false rest =
        let all = sum_by-cons (λ (q : ServerRow). q.cpus) r rows in
        let more = sum_by-cons (λ (q : ServerRow). q.cpus) r (filter (λ r. not (p r)) rows) in
        omega (arith, rest, all, more)

-- the sum without a registration that ended
pub ended_sum : (rows : List ServerRow) (n : ℕ) (row : ServerRow) → AreRising (map (λ r. r.reg) rows)
    → find (λ r. r.reg == n) rows ≡ Some row
    → sum_of (filter (λ r. not (r.reg == n)) rows) + row.cpus ≡ sum_of rows
ended_sum rows n row rising found =
    let one : sum_of (filter (λ r. r.reg == n) rows) ≡ row.cpus =
    ap sum_of (one_left rows n row rising found) ∙ omega arith in
    let both = parts_sum (λ r. r.reg == n) rows in
    omega (arith, one, both)

numbers_sum : (g : ℕ → ℕ) (rows : List ServerRow) → AllByRecursion (λ x. g x.reg ≡ x.cpus) rows
    → sum_by g (map (λ r. r.reg) rows) ≡ sum_of rows
numbers_sum g [] all = refl
numbers_sum g (r ∷ rows) all =
    let rest = numbers_sum g rows all.1 in
    let own = all.0 in
    let here = sum_by-cons g r.reg (map (λ q. q.reg) rows) in
    let there = sum_by-cons (λ (q : ServerRow). q.cpus) r rows in
    omega (arith, rest, own, here, there)

-- the sum of all without the pruned is the sum of those that are left
pub left_sum : (now : ℕ) (rows : List ServerRow) → AreRising (map (λ r. r.reg) rows)
    → sum_of rows - sum_by (cpus_at rows) (prune now rows) ≡ sum_of (left now rows)
left_sum now rows rising =
    let both = parts_sum (is_expired now) rows in
    let gone = numbers_sum (cpus_at rows) (filter (is_expired now) rows)
    (all-filter (λ x. find (λ q. q.reg == x.reg) rows ≡ Some x) (λ x. cpus_at rows x.reg ≡ x.cpus)
    (is_expired now) (λ x found t. ap cpus_in found) rows (each_found rows rising)) in
    omega (arith, both, gone)

-- words of so many rows
pub sum_few : (rows : List ServerRow) → AllByRecursion HasWordOfCpus rows
    → sum_of rows ≤ length rows * 18446744073709551615
sum_few [] all = omega arith
sum_few (r ∷ rows) all =
    let rest = sum_few rows all.1 in
    let own = all.0 in
    let here = sum_by-cons (λ (q : ServerRow). q.cpus) r rows in
    omega (arith, rest, own, here)

-- the index over no row, and under other room

pub indexed_same : (rows : List ServerRow) (entries new : List (Addr × ℕ)) (total : ℕ)
    → AreIndexed rows entries total → HaveSame same_addr entries new → AreIndexed rows new total
indexed_same rows entries new total is same = record {
  sound = is.sound;
  at = λ server. same server ∙ is.at server;
  sum = is.sum;
  words = is.words;
}

-- a registration ends
pub indexed_ended : (rows : List ServerRow) (entries new : List (Addr × ℕ)) (total less n : ℕ)
    (row : ServerRow) → AreIndexed rows entries total
    → AllByRecursion (λ r. (r.reg == n) ≡ true → r ≡ row) rows → find (λ r. r.reg == n) rows ≡ Some row
    → Puts same_addr row.server None entries new → less ≡ total - row.cpus
    → AreIndexed (filter (λ r. not (r.reg == n)) rows) new less
indexed_ended rows entries new total less n row is only found puts is_less = record {
  sound = sound_filter (λ r. not (r.reg == n)) rows is.sound;
  at = λ server. puts server ∙ ap (λ o. cond (same_addr row.server server) None o) (is.at server)
      ∙ sym (ap (option_map (λ r. r.reg)) (ended_at rows n row is.sound.apart only found server)
      ∙ taken_number (same_addr row.server server) (at_address server rows));
  sum =
      let all = is.sum in
      let both = ended_sum rows n row is.sound.rising found in
      omega (arith, is_less, all, both);
  words = all-filter HasWordOfCpus HasWordOfCpus (λ r. not (r.reg == n)) (λ r h t. h) rows is.words;
}

-- no row has the number
pub none_ends : (rows : List ServerRow) (n : ℕ) → find (λ r. r.reg == n) rows ≡ None
    → filter (λ r. not (r.reg == n)) rows ≡ rows
none_ends [] n none = refl
none_ends (r ∷ rows) n none = split (r.reg == n) refl none (none_ends rows n)
  where
    split : (b : Bool) → (r.reg == n) ≡ b → cond b (Some r) (find (λ r. r.reg == n) rows) ≡ None
        → (find (λ r. r.reg == n) rows ≡ None → filter (λ r. not (r.reg == n)) rows ≡ rows)
        → cond (not b) (r ∷ filter (λ r. not (r.reg == n)) rows) (filter (λ r. not (r.reg == n)) rows)
        ≡ r ∷ rows
    split true is gone rest = absurd cc
    split false is gone rest = ap (λ l. r ∷ l) (rest gone)

-- a registration more

pub all_end : {X : Type 0} (P : X → Type 0) (xs : List X) (x : X) → AllByRecursion P (xs ++ x ∷ []) → P x
all_end P [] x all = all.0
all_end P (y ∷ xs) x all = all_end P xs x all.1

pushed_at : (rows : List ServerRow) (row : ServerRow)
    → AreDifferent (map (λ r. r.server) (rows ++ row ∷ [])) → (server : Addr)
    → number_at server (rows ++ row ∷ [])
    ≡ cond (same_addr row.server server) (Some row.reg) (number_at server rows)
pushed_at [] row apart server = elim (same_addr row.server server) as
    (λ b. option_map (λ (r : ServerRow). r.reg) (cond b (Some row) None) ≡ cond b (Some row.reg) None)
    [ true ↦ refl | false ↦ refl ]
pushed_at (r ∷ rows) row apart server =
    split (same_addr r.server server) (same_addr row.server server) refl refl
    (pushed_at rows row apart.1 server)
  where
    split : (a b : Bool) → same_addr r.server server ≡ a → same_addr row.server server ≡ b
        → number_at server (rows ++ row ∷ []) ≡ cond b (Some row.reg) (number_at server rows)
        → option_map (λ (q : ServerRow). q.reg) (cond a (Some r) (at_address server (rows ++ row ∷ [])))
        ≡ cond b (Some row.reg)
        (option_map (λ (q : ServerRow). q.reg) (cond a (Some r) (at_address server rows)))
    split false b own other rest = rest
    split true false own other rest = refl
    split true true own other rest = absurd (all_end (λ (q : ServerRow). q.server ≢ r.server) rows row
        (all-unmap (λ a. a ≢ r.server) (λ (q : ServerRow). q.server) (rows ++ row ∷ []) apart.0)
        (same_is row.server server other ∙ sym (same_is r.server server own)))

pub indexed_pushed : (rows : List ServerRow) (entries new : List (Addr × ℕ)) (total more : ℕ)
    (row : ServerRow) → AreIndexed rows entries total → AreSoundRows (rows ++ row ∷ [])
    → row.cpus < 2 ^ 64 → Puts same_addr row.server (Some row.reg) entries new → more ≡ total + row.cpus
    → AreIndexed (rows ++ row ∷ []) new more
indexed_pushed rows entries new total more row is sound word puts is_more = record {
  sound = sound;
  at = λ server. puts server
      ∙ ap (λ o. cond (same_addr row.server server) (Some row.reg) o) (is.at server)
      ∙ sym (pushed_at rows row sound.apart server);
  sum =
      let all = is.sum in
      let both = sum_by-append (λ (q : ServerRow). q.cpus) rows (row ∷ []) in
      omega (arith, is_more, all, both);
  words = all-append HasWordOfCpus rows (row ∷ []) is.words (word, tt);
}

-- a registration changes

mapped_at : (f : ServerRow → ServerRow) → ((r : ServerRow) → (f r).server ≡ r.server)
    → ((r : ServerRow) → (f r).reg ≡ r.reg) → (rows : List ServerRow) (server : Addr)
    → number_at server (map f rows) ≡ number_at server rows
mapped_at f same_server same_reg [] server = refl
mapped_at f same_server same_reg (r ∷ rows) server =
    ap (λ a. option_map (λ (q : ServerRow). q.reg)
    (cond (same_addr a server) (Some (f r)) (at_address server (map f rows)))) (same_server r)
    ∙ split (same_addr r.server server) (mapped_at f same_server same_reg rows server)
  where
    split : (b : Bool) → number_at server (map f rows) ≡ number_at server rows
        → option_map (λ (q : ServerRow). q.reg) (cond b (Some (f r)) (at_address server (map f rows)))
        ≡ option_map (λ (q : ServerRow). q.reg) (cond b (Some r) (at_address server rows))
    split true rest = ap Some (same_reg r)
    split false rest = rest

mapped_sum : (f : ServerRow → ServerRow) → ((r : ServerRow) → (f r).cpus ≡ r.cpus) → (rows : List ServerRow)
    → sum_of rows ≡ sum_of (map f rows)
mapped_sum f same [] = refl
mapped_sum f same (r ∷ rows) =
    let rest = mapped_sum f same rows in
    let own = same r in
    let here = sum_by-cons (λ (q : ServerRow). q.cpus) r rows in
    let there = sum_by-cons (λ (q : ServerRow). q.cpus) (f r) (map f rows) in
    omega (arith, rest, own, here, there)

pub indexed_changed : (change : Change) (n : ℕ) (rows : List ServerRow) (entries : List (Addr × ℕ))
    (total : ℕ) → AreIndexed rows entries total
    → AreIndexed (map (row_changed_at change n) rows) entries total
indexed_changed change n rows entries total is = record {
  sound = sound_changed change n rows is.sound;
  at = λ server. is.at server ∙ sym (mapped_at (row_changed_at change n)
      (at_kept (λ r. r.server) change (server_kept change) n)
      (at_kept (λ r. r.reg) change (reg_kept change) n) rows server);
  sum = is.sum ∙ mapped_sum (row_changed_at change n)
      (at_kept (λ r. r.cpus) change (cpus_kept change) n) rows;
  words = all-map HasWordOfCpus (row_changed_at change n) rows (all-weaker HasWordOfCpus
      (λ r. HasWordOfCpus (row_changed_at change n r))
      (λ r word. subst (λ c. c < 2 ^ 64) (sym (at_kept (λ r. r.cpus) change (cpus_kept change) n r)) word)
      rows is.words);
}
