-- The first rows by the keys are the pick, the forgiven and the pruned.
use Rattle.std.proofs.Common.{◌≡◌, ℕ, ◌*◌, ◌-◌, ◌<◌, ◌≤◌, List, Bool, true, false, ◌&&◌}
use Rattle.std.proofs.Common.{map, max}
use Rattle.std.proofs.Common.{Option, Some, None, ◌⊎◌, inl, inr, refl, ap, ◌∙◌, sym, subst, arith, eqb-true}
use Rattle.std.proofs.lemmas.List.Elements.{filter_agree}
use Rattle.std.proofs.lemmas.Bool.{cases_lt}
use Rattle.std.specs.Prelude.{◌==◌, nat_lt, MatchOption}
use Rattle.std.specs.List.{AllByRecursion}
use Rattle.row_index.specs.declared.keys.LoadKey.{LoadKey}
use Rattle.row_index.specs.declared.keys.MomentKey.{MomentKey}
use Rattle.row_index.specs.Keys.{less_or, load_before, moment_before}
use Rattle.row_index.specs.KeyLaws.{not_less, less_not}
use Rattle.row_index.specs.Ranks.{HaveNoKey, IsFirstBy, is_early, early_numbers}
use Rattle.core_rules.specs.declared.rows.ServerRow.{ServerRow}
use Rattle.core_rules.specs.Pick.{pick, has_room, is_faultless, is_lighter, is_older, is_stale}
use Rattle.core_rules.specs.Pick.{forgiven}
use Rattle.core_rules.specs.Prune.{prune, is_expired}
use Rattle.core_rules.specs.Laws.{AreRising, IsFirst}
use Rattle.core_rules.specs.Pick.{HasCpus}
use Rattle.sched_core.specs.Registrations.{AreSoundRows}
use Rattle.core_rules.specs.Ranked.{load_key_by, load_key_of, error_key_by}
use Rattle.core_rules.specs.Ranked.{error_key_of}
use Rattle.core_rules.specs.Ranked.{sign_key_of}
use Rattle.core_rules.proofs.AllLemmas.{all-weaker, all-both, true_false, is_false}
use Rattle.core_rules.proofs.RoomLemmas.{lt_false, lt_is, ge_is}
use Rattle.core_rules.proofs.RowLemmas.{at_there}
use Rattle.core_rules.proofs.PickLemmas.{light_pick, old_pick, none_picked}
use Rattle.core_rules.proofs.Lists.{filter-filter}

least : (c : ℕ) → 1 ≤ c → max c 1 ≡ c
least c some = omega (arith, some)

-- a row that no key by load goes before is the first by load
light_first : (row r : ServerRow) → HasCpus row → HasCpus r
    → load_before (record { load = r.load; cpus = r.cpus; number = r.reg })
    (record { load = row.load; cpus = row.cpus; number = row.reg }) ≡ false
    → IsFirst is_lighter row r
light_first row r some more not_before =
    let at = not_less (r.load * max row.cpus 1) (row.load * max r.cpus 1)
    (less_or r.reg row.reg (nat_lt r.cpus row.cpus)) not_before in
    let le : row.load * r.cpus ≤ r.load * row.cpus = rw (least row.cpus some, least r.cpus more) at at.0 in (
      ge_is (r.load * row.cpus) (row.load * r.cpus) le,
      λ h.
          let ge : r.load * row.cpus ≤ row.load * r.cpus =
          lt_false (row.load * r.cpus) (r.load * row.cpus) h in
          let same : r.load * row.cpus ≡ row.load * r.cpus = omega (arith, le, ge) in
          (not_less r.reg row.reg (nat_lt r.cpus row.cpus)
          (at.1 (rw (least row.cpus some, least r.cpus more) same))).0,
    )

-- what a key by load says of its row, and back
light_key : (r : ServerRow) → has_room r ≡ true → is_faultless r ≡ true
    → load_key_of r ≡ Some (record { load = r.load; cpus = r.cpus; number = r.reg })
light_key r room free = split r.error refl
  where
    split : (o : Option ℕ) → r.error ≡ o
        → load_key_by o r ≡ Some (record { load = r.load; cpus = r.cpus; number = r.reg })
    split None is = rw room refl
    split (Some moment) is = let no_error : is_faultless r ≡ false = rw is refl in
        absurd (true_false (is_faultless r) free no_error)

record Light (r : ServerRow) (k : LoadKey) : Type 0 where
  room : has_room r ≡ true
  free : is_faultless r ≡ true
  is : k ≡ record { load = r.load; cpus = r.cpus; number = r.reg }

is_light : (r : ServerRow) (k : LoadKey) → load_key_of r ≡ Some k → Light r k
is_light r k own = split r.error (has_room r) refl refl own
  where
    split : (o : Option ℕ) (b : Bool) → r.error ≡ o → has_room r ≡ b → load_key_by o r ≡ Some k → Light r k
    split (Some moment) b is room key = let none : None ≡ Some k = key in absurd cc
    split None false is room key = let none : None ≡ Some k = sym (rw room refl) ∙ key in absurd cc
    split None true is room key =
        let one : Some (record { load = r.load; cpus = r.cpus; number = r.reg }) ≡ Some k =
        sym (rw room refl) ∙ key in
        record { room = room; free = rw is refl; is = cc }

-- the row that the key by load puts first is the pick
pub light_is : (rows : List ServerRow) (row : ServerRow) → AllByRecursion HasCpus rows
    → AreRising (map (λ r. r.reg) rows)
    → IsFirstBy (λ r. r.reg) load_key_of load_before rows row → pick rows ≡ Some row
light_is rows row cpus rising first =
    let light : Light row first.own = is_light row first.own first.is in
    let some : HasCpus row = (at_there (λ r. r.reg == row.reg) rows row first.listed HasCpus cpus).0 in
    light_pick rows row cpus rising
    (λ Q all. (at_there (λ r. r.reg == row.reg) rows row first.listed Q all).0) light.room light.free
    (all-both HasCpus (λ r. (k : LoadKey) → load_key_of r ≡ Some k → load_before k first.own ≡ false)
    (λ r. has_room r ≡ true → is_faultless r ≡ true → IsFirst is_lighter row r)
    (λ r more behind room free. light_first row r some more
    (subst (λ k. load_before (record { load = r.load; cpus = r.cpus; number = r.reg }) k ≡ false)
    light.is (behind (record { load = r.load; cpus = r.cpus; number = r.reg })
    (light_key r room free))))
    rows cpus first.none_before)

-- a row that no key by error goes before is the first by its error
old_first : (row r : ServerRow) (e d : ℕ) → row.error ≡ Some e → r.error ≡ Some d
    → moment_before (record { moment = d; number = r.reg }) (record { moment = e; number = row.reg })
    ≡ false → IsFirst is_older row r
old_first row r e d own other not_before =
    let at = not_less d e (nat_lt r.reg row.reg) not_before in
    let le : e ≤ d = at.0 in
    rw (own, other) (
      ge_is d e le,
      λ h.
          let ge : d ≤ e = lt_false e d h in
          let same : d ≡ e = omega (arith, le, ge) in
          lt_false r.reg row.reg (at.1 same),
    )

record Faulty (r : ServerRow) (k : MomentKey) : Type 0 where
  room : has_room r ≡ true
  moment : ℕ
  error : r.error ≡ Some moment
  is : k ≡ record { moment = moment; number = r.reg }

is_faulty : (r : ServerRow) (k : MomentKey) → error_key_of r ≡ Some k → Faulty r k
is_faulty r k own = split r.error (has_room r) refl refl own
  where
    split : (o : Option ℕ) (b : Bool) → r.error ≡ o → has_room r ≡ b → error_key_by o r ≡ Some k → Faulty r k
    split None b is room key = let none : None ≡ Some k = key in absurd cc
    split (Some moment) false is room key = let none : None ≡ Some k = sym (rw room refl) ∙ key in absurd cc
    split (Some moment) true is room key =
        let one : Some (record { moment = moment; number = r.reg }) ≡ Some k = sym (rw room refl) ∙ key in
        record { room = room; moment = moment; error = is; is = cc }

-- where no row has a key by load, each with room has an error
no_light : (rows : List ServerRow) → HaveNoKey load_key_of rows
    → AllByRecursion (λ r. has_room r ≡ true → is_faultless r ≡ true → ⊥) rows
no_light rows none = all-weaker (λ r. load_key_of r ≡ None)
    (λ r. has_room r ≡ true → is_faultless r ≡ true → ⊥)
    (λ r no_key room free. differ (sym no_key ∙ light_key r room free)) rows none
  where
    differ : {k : LoadKey} → None ≡ Some k → ⊥
    differ e = absurd cc

old_key : (r : ServerRow) → has_room r ≡ true → (is_faultless r ≡ true → ⊥)
    → (d : ℕ) × (r.error ≡ Some d) × (error_key_of r ≡ Some (record { moment = d; number = r.reg }))
old_key r room faulty = split r.error refl
  where
    split : (o : Option ℕ) → r.error ≡ o
        → (d : ℕ) × (o ≡ Some d) × (error_key_by o r ≡ Some (record { moment = d; number = r.reg }))
    split None is = absurd (faulty (rw is refl))
    split (Some d) is = (d, refl, rw room refl)

-- where no row has a key by load, the row that the key by error puts first is the pick
pub old_is : (rows : List ServerRow) (row : ServerRow) → AreRising (map (λ r. r.reg) rows)
    → HaveNoKey load_key_of rows
    → IsFirstBy (λ r. r.reg) error_key_of moment_before rows row → pick rows ≡ Some row
old_is rows row rising none first =
    let faulty : Faulty row first.own = is_faulty row first.own first.is in
    old_pick rows row rising (λ Q all. (at_there (λ r. r.reg == row.reg) rows row first.listed Q all).0)
    faulty.room (no_light rows none)
    (all-both (λ r. has_room r ≡ true → is_faultless r ≡ true → ⊥)
    (λ r. (k : MomentKey) → error_key_of r ≡ Some k → moment_before k first.own ≡ false)
    (λ r. has_room r ≡ true → IsFirst is_older row r)
    (λ r no_free behind room. behind_it r (old_key r room (no_free room)) behind)
    rows (no_light rows none) first.none_before)
  where
    behind_it : (r : ServerRow) → (d : ℕ) × (r.error ≡ Some d)
        × (error_key_of r ≡ Some (record { moment = d; number = r.reg }))
        → ((k : MomentKey) → error_key_of r ≡ Some k → moment_before k first.own ≡ false)
        → IsFirst is_older row r
    behind_it r at behind =
        let faulty : Faulty row first.own = is_faulty row first.own first.is in
        old_first row r faulty.moment at.0 faulty.error at.1
        (subst (λ k. moment_before (record { moment = at.0; number = r.reg }) k ≡ false) faulty.is
        (behind (record { moment = at.0; number = r.reg }) at.2))

-- where no row has a key, there is no pick
pub no_pick_is : (rows : List ServerRow) → HaveNoKey load_key_of rows → HaveNoKey error_key_of rows
    → pick rows ≡ None
no_pick_is rows light old = none_picked rows
    (all-both (λ r. has_room r ≡ true → is_faultless r ≡ true → ⊥) (λ r. error_key_of r ≡ None)
    (λ r. has_room r ≡ true → ⊥)
    (λ r no_free no_key room. full r (old_key r room (no_free room)) no_key) rows (no_light rows light) old)
  where
    full : (r : ServerRow) → (d : ℕ) × (r.error ≡ Some d)
        × (error_key_of r ≡ Some (record { moment = d; number = r.reg })) → error_key_of r ≡ None → ⊥
    full r at no_key = let differ : None ≡ Some (record { moment = at.0; number = r.reg }) =
        sym no_key ∙ at.2 in absurd cc

-- over so long ago is before a bound
late : (now moment number limit : ℕ)
    → nat_lt limit (now - moment) ≡ less_or moment (now - limit) (nat_lt number 0)
late now moment number limit = split (cases_lt moment (now - limit))
  where
    split : (moment < now - limit) ⊎ (now - limit ≤ moment)
        → nat_lt limit (now - moment) ≡ less_or moment (now - limit) (nat_lt number 0)
    split (inl lt) = lt_is limit (now - moment) (omega (arith, lt))
        ∙ sym (rw (is_false (moment == (now - limit))
        (λ t. let e : moment ≡ now - limit = eqb-true moment (now - limit) t in omega (arith, lt, e)))
        (lt_is moment (now - limit) lt))
    split (inr le) = ge_is limit (now - moment) (omega (arith, le))
        ∙ sym (less_not moment (now - limit) (nat_lt number 0) le (λ e. ge_is number 0 (omega arith)))

-- the forgiven are those whose key by error goes before the bound
pub forgiven_is : (now : ℕ) (rows : List ServerRow)
    → forgiven now rows ≡ early_numbers (λ r. r.reg) error_key_of moment_before
    (record { moment = now - 300000; number = 0 }) rows
forgiven_is now rows = ap (map (λ r. r.reg)) (sym (filter-filter (λ r. is_stale now r.error) has_room rows)
    ∙ filter_agree (λ r. has_room r && is_stale now r.error)
    (λ r. is_early moment_before (record { moment = now - 300000; number = 0 }) (error_key_of r)) each
    rows)
  where
    each : (r : ServerRow) → (has_room r && is_stale now r.error)
        ≡ is_early moment_before (record { moment = now - 300000; number = 0 }) (error_key_by r.error r)
    each r = split r.error (has_room r) refl
      where
        split : (o : Option ℕ) (b : Bool) → has_room r ≡ b
            → (has_room r && is_stale now o)
            ≡ is_early moment_before (record { moment = now - 300000; number = 0 }) (error_key_by o r)
        split None true is = rw is refl
        split None false is = rw is refl
        split (Some moment) true is = rw is (late now moment r.reg 300000)
        split (Some moment) false is = rw is refl

-- the pruned are those whose last sign goes before the bound
pub prune_is : (now : ℕ) (rows : List ServerRow)
    → prune now rows ≡ early_numbers (λ r. r.reg) sign_key_of moment_before
    (record { moment = now - 90000; number = 0 }) rows
prune_is now rows = ap (map (λ r. r.reg))
    (filter_agree (is_expired now) (λ r. is_early moment_before (record { moment = now - 90000; number = 0 })
    (sign_key_of r)) (λ r. late now r.seen r.reg 90000) rows)

-- what the second tree gives where the first gives nothing
pub second_is : (rows : List ServerRow) (o : Option ServerRow) → AreSoundRows rows
    → HaveNoKey load_key_of rows
    → MatchOption o (HaveNoKey error_key_of rows) (IsFirstBy (λ r. r.reg) error_key_of moment_before rows)
    → o ≡ pick rows
second_is rows None sound none first = sym (no_pick_is rows none first)
second_is rows (Some row) sound none first = sym (old_is rows row sound.rising none first)
