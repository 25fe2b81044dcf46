-- What an entry does to all rows, as changes of single rows.
use Rattle.std.proofs.Common.{◌≡◌, ◌<◌, ℕ, ◌+◌, ◌-◌, ◌^◌, List, [], ◌∷◌, ◌++◌, ◌≤◌, Bool, true, false, cond}
use Rattle.std.proofs.Common.{not, ◌||◌, ◌&&◌, map, filter}
use Rattle.std.proofs.Common.{Option, Some, None, refl, ap, ◌∙◌, sym, subst, take, get_or, length, arith}
use Rattle.std.proofs.Common.{eqb-true, eq-eqb, unwrap_or}
use Rattle.std.specs.Prelude.{◌==◌, if◌then◌else◌, find}
use Rattle.std.specs.List.{AllByRecursion}
use Rattle.std.specs.Option.{option_map}
use Rattle.std.proofs.lemmas.List.{take_more}
use Rattle.std.proofs.lemmas.List.Elements.{filter_agree}
use Rattle.std.proofs.lemmas.List.Folds.{list_any-append}
use Rattle.dist_types.specs.declared.addr.Addr.{Addr}
use Rattle.dist_types.specs.declared.ids.JobId.{JobId}
use Rattle.dist_types.specs.Addr.{same_addr}
use Rattle.core_rules.specs.declared.start.Start.{Start}
use Rattle.core_rules.specs.declared.entry.CoreEntry.{CoreEntry}
use Rattle.core_rules.specs.declared.entry.CoreKind.TheVariants.{Reserve, Commit, Update, Status, Drain}
use Rattle.core_rules.specs.declared.entry.Reserved.{Reserved}
use Rattle.core_rules.specs.declared.entry.Reserved.TheVariants.{Job, NoRoom, Spent}
use Rattle.sched_core.specs.declared.change.Change.{Change}
use Rattle.sched_core.specs.declared.change.Change.TheVariants.{Raise, Forgive, See, Draining}
use Rattle.dist_types.specs.declared.results.JobState.{JobState}
use Rattle.core_rules.specs.declared.entry.UpdateAnswer.{UpdateAnswer}
use Rattle.core_rules.specs.declared.rows.ServerRow.{ServerRow}
use Rattle.core_rules.specs.declared.rows.OpenRow.{OpenRow}
use Rattle.core_rules.specs.Log.{names, is_this, same_job}
use Rattle.core_rules.specs.Standing.{is_heard, standing}
use Rattle.core_rules.specs.Rows.{row_of, servers_of}
use Rattle.core_rules.specs.Prune.{at_address}
use Rattle.core_rules.specs.Laws.{AreRising, AreDifferent, IsLegal}
use Rattle.std.specs.Prelude.{count_by}
use Rattle.core_rules.specs.declared.rows.HeldRow.{HeldRow}
use Rattle.core_rules.specs.Next.{one_more_if, row_after, row_freed, row_stays, freed_at, served_by}
use Rattle.core_rules.specs.Next.{place_if, settled}
use Rattle.sched_core.specs.Changes.{row_changed, row_changed_at, row_changed_if, row_forgiven}
use Rattle.sched_core.specs.Changes.{row_reserved, row_renewed}
use Rattle.sched_core.specs.Registrations.{AreSoundRows}
use Rattle.core_rules.specs.Pick.{HasCpus}
use Rattle.core_rules.proofs.Lists.{map-map, map-same, filter-filter}
use Rattle.core_rules.proofs.GrowLemmas.{map-agree}
use Rattle.core_rules.proofs.AllLemmas.{all-both, all-weaker, all-map, all-filter, is_false, true_false}
use Rattle.core_rules.proofs.AddressLemmas.{same_is, legal_apart}
use Rattle.core_rules.proofs.PickLemmas.{rising_only, rows_rising, rows_positive}
use Rattle.core_rules.proofs.RoomLemmas.{legal_fits}
use Rattle.core_rules.proofs.RowLemmas.{at_there}
use Rattle.core_rules.proofs.RisingLemmas.{rising-filter, different-filter}

-- one row by its number

-- where a row is the only one of its number, its change is a pass that leaves the others
pub change_is : (n : ℕ) (change : Change) (row : ServerRow) (rows : List ServerRow)
    → AllByRecursion (λ r. (r.reg == n) ≡ true → r ≡ row) rows
    → map (λ r. if r.reg == n then row_changed change row else r) rows ≡ map (row_changed_at change n) rows
change_is n change row [] only = refl
change_is n change row (r ∷ rows) only =
    ap (λ x. x ∷ map (λ r. if r.reg == n then row_changed change row else r) rows) (head (r.reg == n) refl)
    ∙ ap (λ l. row_changed_at change n r ∷ l) (change_is n change row rows only.1)
  where
    turned : (r.reg == n) ≡ true → (n == r.reg) ≡ true
    turned e = eq-eqb n r.reg (sym (eqb-true r.reg n e))

    head : (b : Bool) → (r.reg == n) ≡ b → cond b (row_changed change row) r ≡ row_changed_at change n r
    head true is = ap (row_changed change) (sym (only.0 is)) ∙ sym (rw (turned is) refl)
    head false is = sym (rw (is_false (n == r.reg)
        (λ t. true_false (r.reg == n) (eq-eqb r.reg n (sym (eqb-true n r.reg t))) is)) refl)

-- what a reserve does

-- one more is forgiven
forgiven_one : (ns : List ℕ) (n : ℕ) (r : ServerRow)
    → row_changed_at Forgive n (row_forgiven ns r) ≡ row_forgiven (ns ++ n ∷ []) r
forgiven_one ns n r = both (names ns r.reg) (n == r.reg)
    ∙ ap (λ b. record r { error = if b then None else r.error })
    (sym (list_any-append (λ k. k == r.reg) ns (n ∷ [])))
  where
    both : (a b : Bool) → cond b (record r { error = None })
        (record r { error = if a then None else r.error })
        ≡ record r { error = if a || (b || false) then None else r.error }
    both true true = refl
    both true false = refl
    both false true = refl
    both false false = refl

pub forgive-none : (rows : List ServerRow) → rows ≡ map (row_forgiven []) rows
forgive-none rows = sym (map-same (row_forgiven []) (λ r. refl) rows)

pub forgive-more : (numbers : List ℕ) (i : ℕ) (first rows new : List ServerRow) → i < length numbers
    → rows ≡ map (row_forgiven (take i numbers)) first
    → new ≡ map (row_changed_at Forgive (get_or numbers i 0)) rows
    → new ≡ map (row_forgiven (take (i + 1) numbers)) first
forgive-more numbers i first rows new within so_far does =
    does ∙ ap (map (row_changed_at Forgive (get_or numbers i 0))) so_far
    ∙ map-map (row_changed_at Forgive (get_or numbers i 0)) (row_forgiven (take i numbers)) first
    ∙ map-agree (λ r. row_changed_at Forgive (get_or numbers i 0) (row_forgiven (take i numbers) r))
    (row_forgiven (take i numbers ++ get_or numbers i 0 ∷ []))
    (forgiven_one (take i numbers) (get_or numbers i 0)) first
    ∙ ap (λ ns. map (row_forgiven ns) first) (sym (take_more numbers i 0 within))

-- a job is reserved
pub reserved_job : (job : JobId) (reg : ℕ) (forgiven : List ℕ) (rows : List ServerRow)
    → map (row_forgiven forgiven) (map (row_changed_at Raise reg) rows)
    ≡ map (row_reserved (Job job reg forgiven)) rows
reserved_job job reg forgiven rows = map-map (row_forgiven forgiven) (row_changed_at Raise reg) rows
    ∙ map-agree (λ r. row_forgiven forgiven (row_changed_at Raise reg r))
    (row_reserved (Job job reg forgiven)) each rows
  where
    each : (r : ServerRow) → row_forgiven forgiven (row_changed_at Raise reg r)
        ≡ row_reserved (Job job reg forgiven) r
    each r = elim (reg == r.reg) as
        (λ b. row_forgiven forgiven (cond b (record r { load = one_more_if true r.load }) r)
        ≡ record r { load = one_more_if b r.load; error = if names forgiven r.reg then None else r.error }) [
          | true ↦ refl
          | false ↦ refl
        ]

pub not_reserved : (n : ℕ) (rows : List ServerRow) → rows ≡ map (row_reserved (NoRoom n)) rows
not_reserved n rows = sym (map-same (row_reserved (NoRoom n)) (λ r. refl) rows)

pub spent : (rows : List ServerRow) → rows ≡ map (row_reserved Spent) rows
spent rows = sym (map-same (row_reserved Spent) (λ r. refl) rows)

pub not_changed : (change : Change) (rows : List ServerRow) → rows ≡ map (row_changed_if change None) rows
not_changed change rows = sym (map-same (row_changed_if change None) (λ r. refl) rows)

-- what a heartbeat that says old does

-- rows with different addresses and one address are one
different_apart : {X Y : Type 0} (f : X → Y) (x : X) (xs : List X)
    → AllByRecursion (λ y. y ≡ f x → ⊥) (map f xs)
    → AllByRecursion (λ y. f y ≡ f x → y ≡ x) xs × AllByRecursion (λ y. f x ≡ f y → x ≡ y) xs
different_apart f x [] all = (tt, tt)
different_apart f x (y ∷ ys) all = let rest = different_apart f x ys all.1 in
    (((λ e. absurd (all.0 e)), rest.0), ((λ e. absurd (all.0 (sym e))), rest.1))

pub different_only : {X Y : Type 0} (f : X → Y) (xs : List X) → AreDifferent (map f xs)
    → AllByRecursion (λ x. AllByRecursion (λ y. f y ≡ f x → y ≡ x) xs) xs
different_only f [] apart = tt
different_only f (x ∷ xs) apart = let own = different_apart f x xs apart.0 in (
  ((λ e. refl), own.0),
  all-both (λ y. f x ≡ f y → x ≡ y) (λ y. AllByRecursion (λ z. f z ≡ f y → z ≡ y) xs)
      (λ y. AllByRecursion (λ z. f z ≡ f y → z ≡ y) (x ∷ xs)) (λ y first rest. (first, rest)) xs own.1
      (different_only f xs apart.1),
)

map_where : (P : ServerRow → Type 0) (f g : ServerRow → ServerRow) → ((r : ServerRow) → P r → f r ≡ g r)
    → (rows : List ServerRow)
    → AllByRecursion P rows → map f rows ≡ map g rows
map_where P f g same [] all = refl
map_where P f g same (r ∷ rows) all =
    ap (λ x. x ∷ map f rows) (same r all.0) ∙ ap (λ l. g r ∷ l) (map_where P f g same rows all.1)

none_there : (server : Addr) (rows : List ServerRow) → find (λ r. same_addr r.server server) rows ≡ None
    → AllByRecursion (λ r. same_addr r.server server ≡ false) rows
none_there server [] none = tt
none_there server (r ∷ rows) none = split (same_addr r.server server) refl none (none_there server rows)
  where
    split : (b : Bool) → same_addr r.server server ≡ b
        → cond b (Some r) (find (λ r. same_addr r.server server) rows) ≡ None
        → (find (λ r. same_addr r.server server) rows ≡ None
        → AllByRecursion (λ r. same_addr r.server server ≡ false) rows)
        → (same_addr r.server server ≡ false) × AllByRecursion (λ r. same_addr r.server server ≡ false) rows
    split true is e rest = absurd cc
    split false is e rest = (is, rest e)

-- the registration at the address is the only one there
pub renew_is : (now : ℕ) (server : Addr) (rows : List ServerRow) → AreSoundRows rows
    → map (row_changed_if (See now) (option_map (λ r. r.reg) (at_address server rows))) rows
    ≡ map (row_renewed now server false) rows
renew_is now server rows sound = split (at_address server rows) refl
  where
    split : (o : Option ServerRow) → at_address server rows ≡ o
        → map (row_changed_if (See now) (option_map (λ r. r.reg) o)) rows
        ≡ map (row_renewed now server false) rows
    split None is = map_where (λ r. same_addr r.server server ≡ false) (row_changed_if (See now) None)
        (row_renewed now server false)
        (λ r other. sym (ap (λ b. record r { seen = if b then now else r.seen }) other)) rows
        (none_there server rows is)
    split (Some row) is =
        let there : same_addr row.server server ≡ true =
        (at_there (λ r. same_addr r.server server) rows row is (λ r. Unit {0}) (all_unit rows)).1 in
        let one_number = (at_there (λ r. same_addr r.server server) rows row is
        (λ x. AllByRecursion (λ y. y.reg ≡ x.reg → y ≡ x) rows) (rising_only rows sound.rising)).0 in
        let one_address = (at_there (λ r. same_addr r.server server) rows row is
        (λ x. AllByRecursion (λ y. y.server ≡ x.server → y ≡ x) rows)
        (different_only (λ r. r.server) rows sound.apart)).0 in
        map_where (λ r. (row.reg == r.reg) ≡ same_addr r.server server)
        (row_changed_if (See now) (Some row.reg)) (row_renewed now server false)
        (λ r same. seen r (row.reg == r.reg) ∙ ap (λ b. record r { seen = if b then now else r.seen }) same)
        rows
        (all-both (λ r. r.reg ≡ row.reg → r ≡ row) (λ r. r.server ≡ row.server → r ≡ row)
        (λ r. (row.reg == r.reg) ≡ same_addr r.server server)
        (λ r by_number by_address. tested r row there by_number by_address (row.reg == r.reg)
        (same_addr r.server server) refl refl) rows one_number one_address)
      where
        all_unit : (rs : List ServerRow) → AllByRecursion (λ r. Unit {0}) rs
        all_unit [] = tt
        all_unit (r ∷ rs) = (tt, all_unit rs)

        seen : (r : ServerRow) (b : Bool)
            → cond b (record r { seen = now }) r ≡ record r { seen = if b then now else r.seen }
        seen r true = refl
        seen r false = refl

        tested : (r row : ServerRow) → same_addr row.server server ≡ true → (r.reg ≡ row.reg → r ≡ row)
            → (r.server ≡ row.server → r ≡ row)
            → (a b : Bool) → (row.reg == r.reg) ≡ a → same_addr r.server server ≡ b → a ≡ b
        tested r row there by_number by_address true true x y = refl
        tested r row there by_number by_address false false x y = refl
        tested r row there by_number by_address true false x y =
            let same : r ≡ row = by_number (sym (eqb-true row.reg r.reg x)) in
            absurd (true_false (same_addr r.server server)
            (subst (λ q. same_addr q.server server ≡ true) (sym same) there) y)
        tested r row there by_number by_address false true x y =
            let same : r ≡ row = by_address
            (same_is r.server server y ∙ sym (same_is row.server server there)) in
            absurd (true_false (row.reg == r.reg) (eq-eqb row.reg r.reg (ap (λ q. q.reg) (sym same))) x)

pub renewed_new : (now : ℕ) (server : Addr) (rows : List ServerRow)
    → rows ≡ map (row_renewed now server true) rows
renewed_new now server rows = sym (map-same (row_renewed now server true) (λ r. refl) rows)

-- what the other kinds do

pub commit_quiet : (e : CoreEntry) (open_ones : List OpenRow) (rows : List ServerRow) (job : JobId)
    (state : JobState) (kept : Bool)
    → e.kind ≡ Commit job state kept → rows ≡ map (row_after e (served_by e.kind open_ones)) rows
commit_quiet e open_ones rows job state kept is =
    subst (λ k. rows ≡ map (row_after (record { now = e.now; kind = k }) (served_by k open_ones)) rows)
    (sym is)
    (sym (map-same (row_after (record { now = e.now; kind = Commit job state kept }) None) (λ r. refl) rows))

pub status_quiet : (e : CoreEntry) (open_ones : List OpenRow) (rows : List ServerRow) (pruned : List ℕ)
    (servers cpus n : ℕ)
    → e.kind ≡ Status pruned servers cpus n → rows ≡ map (row_after e (served_by e.kind open_ones)) rows
status_quiet e open_ones rows pruned servers cpus n is =
    subst (λ k. rows ≡ map (row_after (record { now = e.now; kind = k }) (served_by k open_ones)) rows)
    (sym is)
    (sym (map-same (row_after (record { now = e.now; kind = Status pruned servers cpus n }) None)
    (λ r. refl) rows))

drained_is : (now : ℕ) (server : Addr) (nonce : ℕ) (on : Bool) (named : Option ℕ) (r : ServerRow)
    → row_changed_if (Draining on) named r
    ≡ row_after (record { now = now; kind = Drain server nonce on named }) None r
drained_is now server nonce on named r = by_test (is_this named r.reg)
  where
    by_test : (b : Bool) → cond b (record r { draining = on }) r
        ≡ record r { draining = unwrap_or (if b then Some on else None) r.draining }
    by_test true = refl
    by_test false = refl

pub drain_marks : (e : CoreEntry) (open_ones : List OpenRow) (rows : List ServerRow) (server : Addr)
    (nonce : ℕ) (on : Bool) (named : Option ℕ) → e.kind ≡ Drain server nonce on named
    → map (row_changed_if (Draining on) named) rows ≡ map (row_after e (served_by e.kind open_ones)) rows
drain_marks e open_ones rows server nonce on named is =
    subst (λ k. map (row_changed_if (Draining on) named) rows
    ≡ map (row_after (record { now = e.now; kind = k }) (served_by k open_ones)) rows) (sym is)
    (map-agree (row_changed_if (Draining on) named)
    (row_after (record { now = e.now; kind = Drain server nonce on named }) None)
    (drained_is e.now server nonce on named) rows)

seen_is : (now : ℕ) (server : Addr) (job : JobId) (state : JobState) (answer : UpdateAnswer)
    (served : Option ℕ) (r : ServerRow)
    → row_changed_if (See now) served r
    ≡ row_after (record { now = now; kind = Update server job state answer }) served r
seen_is now server job state answer served r = by_test (is_this served r.reg)
  where
    by_test : (b : Bool) → cond b (record r { seen = now }) r ≡ record r { seen = if b then now else r.seen }
    by_test true = refl
    by_test false = refl

pub update_seen : (e : CoreEntry) (open_ones : List OpenRow) (rows : List ServerRow) (server : Addr)
    (job : JobId) (state : JobState)
    (answer : UpdateAnswer) (served : Option ℕ) → e.kind ≡ Update server job state answer
    → served ≡ (if is_heard answer then place_if (find (λ o. same_job o.job job) open_ones) else None)
    → map (row_changed_if (See e.now) served) rows ≡ map (row_after e (served_by e.kind open_ones)) rows
update_seen e open_ones rows server job state answer served is by =
    subst (λ k. map (row_changed_if (See e.now) served) rows
    ≡ map (row_after (record { now = e.now; kind = k }) (served_by k open_ones)) rows) (sym is)
    (ap (λ s. map (row_changed_if (See e.now) s) rows) by
    ∙ map-agree (row_changed_if (See e.now) (served_by (Update server job state answer) open_ones))
    (row_after (record { now = e.now; kind = Update server job state answer })
    (served_by (Update server job state answer) open_ones))
    (seen_is e.now server job state answer (served_by (Update server job state answer) open_ones)) rows)

-- which rows end

-- one registration more ends
pub end_more : (ns : List ℕ) (n : ℕ) (rows : List ServerRow)
    → filter (λ r. not (names (ns ++ n ∷ []) r.reg)) rows
    ≡ filter (λ r. not (n == r.reg)) (filter (λ r. not (names ns r.reg)) rows)
end_more ns n rows = filter_agree (λ r. not (names (ns ++ n ∷ []) r.reg))
    (λ r. not (names ns r.reg) && not (n == r.reg)) each rows
    ∙ filter-filter (λ r. not (n == r.reg)) (λ r. not (names ns r.reg)) rows
  where
    neither : (a b : Bool) → not (a || (b || false)) ≡ (not a && not b)
    neither true true = refl
    neither true false = refl
    neither false true = refl
    neither false false = refl

    each : (r : ServerRow) → not (names (ns ++ n ∷ []) r.reg) ≡ (not (names ns r.reg) && not (n == r.reg))
    each r = ap not (list_any-append (λ k. k == r.reg) ns (n ∷ [])) ∙ neither (names ns r.reg) (n == r.reg)

-- rows of other registrations, and fewer of them, are of different registrations still
pub sound_map : (f : ServerRow → ServerRow) → ((r : ServerRow) → (f r).reg ≡ r.reg)
    → ((r : ServerRow) → (f r).server ≡ r.server) → ((r : ServerRow) → (f r).cpus ≡ r.cpus)
    → (rows : List ServerRow) → AreSoundRows rows → AreSoundRows (map f rows)
sound_map f same_reg same_server same_cpus rows sound = record {
  rising = subst AreRising (map-agree (λ r. r.reg) (λ r. (f r).reg) (λ r. sym (same_reg r)) rows
      ∙ sym (map-map (λ r. r.reg) f rows)) sound.rising;
  apart = subst AreDifferent (map-agree (λ r. r.server) (λ r. (f r).server) (λ r. sym (same_server r)) rows
      ∙ sym (map-map (λ r. r.server) f rows)) sound.apart;
  cpus = all-map HasCpus f rows (all-weaker HasCpus (λ r. HasCpus (f r))
      (λ r some. subst (λ n. 1 ≤ n) (sym (same_cpus r)) some) rows sound.cpus);
}

pub sound_filter : (p : ServerRow → Bool) (rows : List ServerRow) → AreSoundRows rows
    → AreSoundRows (filter p rows)
sound_filter p rows sound = record {
  rising = rising-filter (λ r. r.reg) p rows sound.rising;
  apart = different-filter (λ r. r.server) p rows sound.apart;
  cpus = all-filter HasCpus HasCpus p (λ r some t. some) rows sound.cpus;
}

-- the registrations that stand over a legal log
pub sound_rows : (start : Start) (log : List CoreEntry) → start.count < 2 ^ 64 → IsLegal start log
    → AreSoundRows (servers_of log)
sound_rows start log fits legal = record {
  rising = rows_rising log (legal_fits start log fits legal).room.rising;
  apart = subst AreDifferent (sym (map-map (λ r. r.server) (row_of log) (standing log)))
      (legal_apart start log legal);
  cpus = rows_positive log (legal_fits start log fits legal).room.positive;
}

-- which rows end, one number after the other
keep_each : {X : Type 0} (xs : List X) → xs ≡ filter (λ x. true) xs
keep_each [] = refl
keep_each (x ∷ xs) = ap (λ l. x ∷ l) (keep_each xs)

pub end-none : (rows : List ServerRow) → rows ≡ filter (λ r. not (names [] r.reg)) rows
end-none rows = keep_each rows

pub end-step : (numbers : List ℕ) (i : ℕ) (first rows new : List ServerRow) → i < length numbers
    → rows ≡ filter (λ r. not (names (take i numbers) r.reg)) first
    → new ≡ filter (λ r. not (get_or numbers i 0 == r.reg)) rows
    → new ≡ filter (λ r. not (names (take (i + 1) numbers) r.reg)) first
end-step numbers i first rows new within so_far does =
    does ∙ ap (filter (λ r. not (get_or numbers i 0 == r.reg))) so_far
    ∙ sym (end_more (take i numbers) (get_or numbers i 0) first)
    ∙ ap (λ ns. filter (λ r. not (names ns r.reg)) first) (sym (take_more numbers i 0 within))

pub end_both : (ns : List ℕ) (o : Option ℕ) (rows : List ServerRow)
    → filter (λ r. not (is_this o r.reg)) (filter (λ r. not (names ns r.reg)) rows)
    ≡ filter (λ r. not (names ns r.reg || is_this o r.reg)) rows
end_both ns o rows = sym (filter-filter (λ r. not (is_this o r.reg)) (λ r. not (names ns r.reg)) rows)
    ∙ filter_agree (λ r. not (names ns r.reg) && not (is_this o r.reg))
    (λ r. not (names ns r.reg || is_this o r.reg))
    (λ r. each (names ns r.reg) (is_this o r.reg)) rows
  where
    each : (a b : Bool) → (not a && not b) ≡ not (a || b)
    each true b = refl
    each false b = refl

pub keep_all : {X : Type 0} (xs : List X) → xs ≡ filter (λ x. true) xs
keep_all [] = refl
keep_all (x ∷ xs) = ap (λ l. x ∷ l) (keep_all xs)

-- a reserve ends no registration and no reservation
pub reserve_whole : (e : CoreEntry) (held : List HeldRow) (open_ones : List OpenRow) (rows : List ServerRow)
    (reserved : Reserved)
    → e.kind ≡ Reserve reserved → map (row_reserved reserved) rows ≡ settled e held open_ones rows
reserve_whole e held open_ones rows reserved is =
    subst (λ k. map (row_reserved reserved) rows
    ≡ settled (record { now = e.now; kind = k }) held open_ones rows) (sym is)
    (by_reserved reserved)
  where
    none_freed : (r : Reserved) (hs : List HeldRow) (n : ℕ) → freed_at (Reserve r) hs n ≡ 0
    none_freed r hs n = count_none hs
      where
        count_none : (xs : List HeldRow) → count_by (λ (x : HeldRow). false) xs ≡ 0
        count_none [] = refl
        count_none (x ∷ xs) = count_none xs

    unfreed : (r : Reserved) → map (row_freed (Reserve r) held) (filter (row_stays (Reserve r)) rows) ≡ rows
    unfreed r = map-same (row_freed (Reserve r) held)
        (λ x. ap (λ n. record x { load = x.load - n }) (none_freed r held x.reg)
        ∙ ap (λ n. record x { load = n }) (less_none x.load))
        (filter (row_stays (Reserve r)) rows) ∙ sym (keep_all rows)
      where
        less_none : (n : ℕ) → n - 0 ≡ n
        less_none n = omega arith

    by_reserved : (r : Reserved) → map (row_reserved r) rows
        ≡ settled (record { now = e.now; kind = Reserve r }) held open_ones rows
    by_reserved (Job job reg forgiven) =
        ap (map (row_reserved (Job job reg forgiven))) (sym (unfreed (Job job reg forgiven)))
        ∙ map-agree (row_reserved (Job job reg forgiven))
        (row_after (record { now = e.now; kind = Reserve (Job job reg forgiven) }) None) (λ r. refl) _
    by_reserved (NoRoom n) = ap (map (row_reserved (NoRoom n))) (sym (unfreed (NoRoom n)))
        ∙ map-agree (row_reserved (NoRoom n))
        (row_after (record { now = e.now; kind = Reserve (NoRoom n) }) None) (λ r. refl) _
    by_reserved Spent = ap (map (row_reserved Spent)) (sym (unfreed Spent))
        ∙ map-agree (row_reserved Spent) (row_after (record { now = e.now; kind = Reserve Spent }) None)
        (λ r. refl) _
