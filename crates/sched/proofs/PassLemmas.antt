-- The steps of a seat as it is found, and what they make of its view.
use Rattle.std.proofs.Common.{◌≡◌, ℕ, ◌+◌, ◌-◌, ◌<◌, ◌≤◌, List, [], ◌∷◌, ◌++◌, length, true, false}
use Rattle.std.proofs.Common.{cond, Option, Some, None, refl, sym, ap, ◌∙◌, subst, arith, append-nil, lt-ltb}
use Rattle.std.proofs.Common.{le-ltb}
use Rattle.std.proofs.Common.{length-append}
use Rattle.std.specs.Prelude.{MatchBool, ◌==◌, min, IfSome, slice_get}
use mathlib.Core.List.{IsPrefix}
use prog.Atomic.{either}
use Rattle.atomic_table.specs.Seated.{TableId}
use Rattle.atomic_table.specs.Table.{Allows, rest}
use Rattle.core_rules.specs.Laws.{AreRising, IsLegal}
use Rattle.core_rules.specs.Log.{Core}
use Rattle.core_rules.specs.Reservation.{spends_by}
use Rattle.core_rules.specs.Rule.{rule}
use Rattle.core_rules.specs.declared.call.Call.{Call}
use Rattle.core_rules.specs.declared.entry.CoreEntry.{CoreEntry}
use Rattle.core_rules.specs.declared.start.Start.{Start}
use Rattle.dist_types.specs.declared.ids.JobId.{JobId}
use Rattle.dist_types.specs.declared.rules.Rules.{Rules}
use Rattle.scheduler_steps.specs.Step.{with_core, Gives, IsStep}
use Rattle.sched.specs.Hand.{HasTurn, IsIdle, MayEnter, Begins, MayEnd, MayRecord, IsRecorded, desk_with}
use Rattle.sched.specs.Hand.{noted, ended}
use Rattle.sched.specs.Lists.{AreBelow}
use Rattle.sched.specs.Outside.{Moments, IsReadAt}
use Rattle.sched.specs.Pass.{Told, Whose, IsPassOf}
use Rattle.sched.specs.Plays.{Sat, claimed, recorded, entered, released, Claims, Records, Enters, Releases}
use Rattle.sched.specs.Rule.{Seen, Holds, desk_of, IsOwnSpending}
use Rattle.sched.specs.Turn.{IsTurn}
use Rattle.sched.specs.View.{told_of, told_by, IsPass}
use Rattle.sched.specs.declared.view.View.{View}
use Rattle.sched.proofs.PrefixLemmas.{prefix_length, prefix_more, prefix_take, prefix_trans, prefix_self}
use Rattle.sched.proofs.PrefixLemmas.{got_last}
use Rattle.sched.proofs.RisingLemmas.{below_wide, below_push, rising_push}
use Rattle.sched.proofs.StepLemmas.{claims, records, enters, releases}

pub claims_at : (start : Start) (n id : ℕ) (me : Sat) → me.1 ≡ [] → me.0.live ≡ true
    → Allows (Holds start) n id me 1 (λ x. either (x == 0) 1 x)
    (λ r x. MatchBool (r == 0) (Claims me x) (x ≡ me))
claims_at start n id me bare live =
    subst (λ (l : List (ℕ × Option Seen)). Allows (Holds start) n id (me.0, l) 1 (λ x. either (x == 0) 1 x)
    (λ r x. MatchBool (r == 0) (Claims (me.0, l) x) (x ≡ (me.0, l)))) (sym bare)
    (claims start n id me.0 live)

same_head : {X : Type 0} (x y : X) (xs ys : List X) → x ∷ xs ≡ y ∷ ys → x ≡ y
same_head x y xs ys e = cc e

some_same : {A : Type 0} (x y : A) → Some x ≡ Some y → x ≡ y
some_same x y e = cc e

-- the desk lies in the slot
pub in_slot : (m n : Sat) → Claims m n → (old : Option Seen) × (n.1 ≡ (0, old) ∷ rest n.1)
in_slot m n won =
    let desk : Option Seen = Some (desk_of m.0.start won.log won.made) in
    let slot : n.1 ≡ (0, desk) ∷ [] = ap (λ (x : Sat). x.1) won.is in
    (desk, slot ∙ ap (λ (l : List (ℕ × Option Seen)). (0, desk) ∷ rest l) (sym slot))

-- the desk in hand
pub begun : (m n x : Sat) (found : Option Seen) (desk : Seen) → Claims m n → n.1 ≡ (0, found) ∷ rest n.1
    → found ≡ Some desk → x ≡ (n.0, (0, None) ∷ rest n.1) → Begins m.0 x.0 desk
begun m n x found desk won slot is after =
    let there : Option Seen = Some (desk_of m.0.start won.log won.made) in
    let out : n.1 ≡ (0, there) ∷ [] = ap (λ (y : Sat). y.1) won.is in
    let pair = same_head (0, there) (0, found) [] (rest n.1) (sym out ∙ slot) in
    let same : there ≡ Some desk = ap (λ (p : ℕ × Option Seen). p.1) pair ∙ is in
    record {
      log = won.log;
      made = won.made;
      view = ap (λ (y : Sat). y.0) after ∙ ap (λ (y : Sat). y.0) won.is;
      desk_is = sym (some_same (desk_of m.0.start won.log won.made) desk same);
      front = won.front;
      legal = won.legal;
      spends = won.spends;
      few = won.few;
      held = won.held;
      whole = won.whole;
    }

-- the log behind a step

abbrev log_by : List CoreEntry → Option CoreEntry → List CoreEntry
log_by log None = log
log_by log (Some e) = log ++ e ∷ []

log_is : (start : Start) (log : List CoreEntry) (n : ℕ) (made : Option CoreEntry)
    → (desk_with (desk_of start log n) made).core.log ≡ log_by log made
log_is start log n None = refl
log_is start log n (Some e) = refl

-- the view by what was made
abbrev noted_by : View → Option CoreEntry → List CoreEntry → View
noted_by v None log = v
noted_by v (Some e) log = recorded v log

noted_is : (v : View) (made : Option CoreEntry) (log : List CoreEntry) → log ≡ log_by v.front made
    → noted v log ≡ noted_by v made log
noted_is v None log is = ap (λ b. cond b (recorded v log) v) (le-ltb (length v.front) (length log)
    (let e = ap length is in omega arith))
noted_is v (Some e) log is = ap (λ b. cond b (recorded v log) v) (lt-ltb (length v.front) (length log)
    (omega (arith, ap length is, length-append v.front (e ∷ []))))

-- the log of what may be given back
log_of : (v : View) (desk : Seen) (may : MayEnd v desk) → desk.core.log ≡ log_by v.front may.made
log_of v desk may = ap (λ (d : Seen). d.core.log) may.desk_is ∙ log_is v.start v.front v.note may.made

-- record, where the log has one entry more

records_by : (start : Start) (n id : ℕ) (me : Sat) (len : ℕ) (m : MayRecord me len) (made : Option CoreEntry)
    → m.desk ≡ desk_with (desk_of me.0.start me.0.front me.0.note) made
    → IfSome made (IsOwnSpending me.0.front me.0.own) → IfSome made (λ e. 0 < me.0.held)
    → length me.0.front < len → Allows (Holds start) n id me 0 (λ _. len) (λ _ x. Records me x)
records_by start n id me len m None is own holds more =
    let same : length m.desk.core.log ≡ length me.0.front = ap (λ (d : Seen). length d.core.log) is in
    absurd (omega (arith, same, m.len_is, more))
records_by start n id me len m (Some e) is own holds more =
    let v = me.0 in
    let there : Allows (Holds start) n id (v, (0, Some m.desk) ∷ []) 0 (λ _. len)
    (λ _ x. Records (v, (0, Some m.desk) ∷ []) x) =
    records start n id v m.desk e len m.turn m.live holds m.len_is
    (ap (λ (d : Seen). d.core.log) is) m.legal own in
    subst (λ (l : List (ℕ × Option Seen)). Allows (Holds start) n id (v, l) 0 (λ _. len)
    (λ _ x. Records (v, l) x))
    (sym m.slot) there

pub records_at : (start : Start) (n id : ℕ) (me : Sat) (len found : ℕ) → found < len
    → found ≡ length me.0.front
    → MayRecord me len → Allows (Holds start) n id me 0 (λ _. len) (λ _ x. Records me x)
records_at start n id me len found more is m =
    records_by start n id me len m m.may.made m.may.desk_is m.may.own m.may.holds (omega (arith, more, is))

-- what is put back may be recorded
pub may_record : (v : View) (carried : List (ℕ × Option Seen)) (desk : Seen) (m : Sat) (len : ℕ)
    → v.turn ≡ true
    → v.live ≡ true → MayEnd v desk → m ≡ (v, (0, Some desk) ∷ carried) → carried ≡ []
    → IsLegal desk.core.start desk.core.log → len ≡ length desk.core.log → MayRecord m len
may_record v carried desk m len has live may put bare legal len_is =
    let there : m ≡ (v, (0, Some desk) ∷ []) = put
    ∙ ap (λ (l : List (ℕ × Option Seen)). (v, (0, Some desk) ∷ l)) bare in
    subst (λ (x : Sat). MayRecord x len) (sym there) (record {
      desk = desk;
      slot = refl;
      turn = has;
      live = live;
      may = may;
      legal = subst (λ s. IsLegal s desk.core.log) (start_of v desk may.made may.desk_is) legal;
      len_is = len_is;
    })
  where
    start_of : (u : View) (d : Seen) (made : Option CoreEntry)
        → d ≡ desk_with (desk_of u.start u.front u.note) made → d.core.start ≡ u.start
    start_of u d None is = ap (λ (x : Seen). x.core.start) is
    start_of u d (Some e) is = ap (λ (x : Seen). x.core.start) is

-- the desk is the one of the view
desk_back : (v : View) (desk : Seen) (made : Option CoreEntry)
    → desk ≡ desk_with (desk_of v.start v.front v.note) made
    → desk ≡ desk_of (noted_by v made desk.core.log).start (noted_by v made desk.core.log).front
    (noted_by v made desk.core.log).note
desk_back v desk None is = is
desk_back v desk (Some e) is =
    is ∙ ap (λ (l : List CoreEntry). desk_of v.start l v.note) (sym (ap (λ (d : Seen). d.core.log) is))

noted_turn : (v : View) (made : Option CoreEntry) (log : List CoreEntry)
    → ((noted_by v made log).turn ≡ v.turn) × ((noted_by v made log).live ≡ v.live)
noted_turn v None log = (refl, refl)
noted_turn v (Some e) log = (refl, refl)

-- release, of a seat that was recorded
pub releases_at : (start : Start) (n id : ℕ) (v : View) (carried : List (ℕ × Option Seen)) (desk : Seen)
    (m me : Sat)
    → v.turn ≡ true → v.live ≡ true → MayEnd v desk → m ≡ (v, (0, Some desk) ∷ carried) → IsRecorded m me
    → Allows (Holds start) n id me 1 (λ _. 0) (λ _ x. Releases me x)
releases_at start n id v carried desk m me has live may put r =
    let slot : (0, Some r.desk) ∷ [] ≡ (0, Some desk) ∷ carried = sym r.slot ∙ ap (λ (x : Sat). x.1) put in
    let same : r.desk ≡ desk = some_same r.desk desk
    (ap (λ (p : ℕ × Option Seen). p.1) (same_head (0, Some r.desk) (0, Some desk) [] carried slot)) in
    let w = noted v desk.core.log in
    let there : me ≡ (w, (0, Some desk) ∷ []) =
    r.view ∙ (ap (λ (x : Sat). (noted x.0 r.desk.core.log, x.1)) put
    ∙ (ap (λ (d : Seen). (noted v d.core.log, (0, Some desk) ∷ carried)) same
    ∙ ap (λ (l : List (ℕ × Option Seen)). (w, l)) (sym slot ∙ ap (λ (d : Seen). (0, Some d) ∷ []) same))) in
    let by = noted_by v may.made desk.core.log in
    let kept = noted_turn v may.made desk.core.log in
    subst (λ (x : Sat). Allows (Holds start) n id x 1 (λ _. 0) (λ _ y. Releases x y))
    (sym (there ∙ ap (λ (u : View). (u, (0, Some desk) ∷ []))
    (noted_is v may.made desk.core.log (log_of v desk may))))
    (releases start n id by desk (kept.0 ∙ has) (kept.1 ∙ live) (desk_back v desk may.made may.desk_is))

-- what the holder of the turn gives back behind a step
pub may_end : {X : Type 0} (asked : Call) (tells : Core → CoreEntry → X → Type 0) (refuses : Core → X
    → Type 0)
    (answer : X) (v w : View) (before desk : Seen) (made : Option CoreEntry) → Begins v w before → 0 < v.held
    → desk.core ≡ with_core before.core made → desk.made ≡ before.made
    → Gives asked tells refuses before.core made answer
    → ((log : List CoreEntry) → IsPrefix v.front log
    → IsOwnSpending log v.own (rule (record { start = v.start; log = log }) asked))
    → MayEnd w desk
may_end asked tells refuses answer v w before desk made b holds left same gives own =
    subst (λ u. MayEnd u desk) (sym b.view) (record {
      made = made;
      desk_is = ap (λ (k : Core). record { core = k; made = desk.made }) left
          ∙ (ap (λ (m : ℕ). record { core = with_core before.core made; made = m }) same
          ∙ ap (λ (d : Seen). desk_with d made) b.desk_is);
      own = owns made gives;
      holds = held made;
    })
  where
    owns : (made : Option CoreEntry) → Gives asked tells refuses before.core made answer
        → IfSome made (IsOwnSpending b.log v.own)
    owns None gives = tt
    owns (Some e) gives = subst (IsOwnSpending b.log v.own)
        (sym (gives.0 ∙ ap (λ (d : Seen). rule d.core asked) b.desk_is)) (own b.log b.front)

    held : (made : Option CoreEntry) → IfSome made (λ e. 0 < v.held)
    held None = tt
    held (Some e) = holds

-- a call that spends nothing
pub spends_nothing : (front : List CoreEntry) (own : List ℕ) (e : CoreEntry)
    → ((job : JobId) → spends_by e.kind job ≡ false) → IsOwnSpending front own e
spends_nothing front own e none job is = absurd (cc (none job, is))

-- the pass behind a turn

pass_after : (entries more passes : ℕ) (v : View) (log : List CoreEntry) (n : ℕ) (made : Option CoreEntry)
    (grown : List CoreEntry) → v.live ≡ true → 0 < v.held → AreRising v.own → AreBelow (length v.front) v.own
    → entries ≡ length v.own → passes ≡ v.held → IsPrefix v.front log → length v.own ≤ length log
    → length grown < 18446744073709551616 → grown ≡ log_by log made
    → more ≡ min (entries + (length grown - length log)) 18446744073709551615
    → IsPass more passes (released (noted_by (claimed v log n) made grown) ∷ [])
pass_after entries more passes v log n None grown live holds rising low count held front few small is
    raised =
    record {
      view = released (claimed v log n);
      is = refl;
      idle = refl;
      live = live;
      holds = holds;
      rising = rising;
      low = below_wide (length v.front) (length log) v.own low (prefix_length v.front log front);
      entries_are = (let same : length grown ≡ length log = ap length is in
          omega (arith, raised, same, count, few, small));
      passes_are = held;
    }
pass_after entries more passes v log n (Some e) grown live holds rising low count held front few small is
    raised =
    let le = prefix_length v.front log front in
    let len : length grown ≡ length log + 1 = ap length is ∙ length-append log (e ∷ []) in
    let low' : AreBelow (length log) v.own = below_wide (length v.front) (length log) v.own low le in
    record {
      view = released (recorded (claimed v log n) grown);
      is = refl;
      idle = refl;
      live = live;
      holds = holds;
      rising = rising_push v.own (length log) rising low';
      low = below_push (length grown) v.own (length log)
          (below_wide (length log) (length grown) v.own low' (omega arith)) (omega arith);
      entries_are = omega (arith, raised, len, count, few, small, length-append v.own (length log ∷ []));
      passes_are = held;
    }

-- the view behind a turn, by what was made
ended_is : (v w : View) (before desk : Seen) (made : Option CoreEntry) (b : Begins v w before)
    → desk.core ≡ with_core before.core made
    → (desk.core.log ≡ log_by b.log made)
    × (ended w desk.core.log ≡ released (noted_by (claimed v b.log b.made) made desk.core.log))
ended_is v w before desk made b left =
    let log : desk.core.log ≡ log_by b.log made =
    ap (λ (k : Core). k.log) left ∙ (ap (λ (d : Seen). (with_core d.core made).log) b.desk_is
    ∙ log_is v.start b.log b.made made) in (
      log,
      ap (λ (u : View). ended u desk.core.log) b.view
          ∙ ap released (noted_is (claimed v b.log b.made) made desk.core.log log),
    )

pub is_pass : (entries more passes : ℕ) (views new : List View) (w : View) (before desk : Seen)
    (made : Option CoreEntry) (p : IsPass entries passes views) → Begins p.view w before
    → desk.core ≡ with_core before.core made → new ≡ ended w desk.core.log ∷ []
    → length desk.core.log < 18446744073709551616
    → more ≡ min (entries + (length desk.core.log - length w.front)) 18446744073709551615
    → IsPass more passes new
is_pass entries more passes views new w before desk made p b left views_are small raised =
    let is = ended_is p.view w before desk made b left in
    let front : w.front ≡ b.log = ap (λ (u : View). u.front) b.view in
    subst (IsPass more passes) (sym (views_are ∙ ap (λ (u : View). u ∷ []) is.1))
    (pass_after entries more passes p.view b.log b.made made desk.core.log p.live p.holds p.rising p.low
    p.entries_are p.passes_are b.front b.few small is.0
    (raised ∙ ap (λ (l : List CoreEntry). min
    (entries + (length desk.core.log - length l)) 18446744073709551615)
    front))

-- a turn in which nothing was done
pub ended_idle : (v w : View) (desk : Seen) (b : Begins v w desk)
    → ended w desk.core.log ≡ released (claimed v b.log b.made)
ended_idle v w desk b = (ended_is v w desk desk None b refl).1

-- what a turn tells

turned : {X : Type 0} (asked : ℕ → Call) (tells : Core → CoreEntry → X → Type 0) (refuses : Core → X
    → Type 0)
    (clock ticked : Moments) (answer : X) (now : ℕ) (of : TableId) (v : View) (log : List CoreEntry) (n : ℕ)
    (made : Option CoreEntry) (grown : List CoreEntry) → IsPrefix v.front log → grown ≡ log_by log made
    → IsReadAt now clock ticked
    → Gives (asked now) tells refuses (record { start = v.start; log = log }) made answer
    → IsTurn asked tells refuses (told_of of v)
    (told_of of (released (noted_by (claimed v log n) made grown)))
    clock ticked answer
turned asked tells refuses clock ticked answer now of v log n None grown front is read gives = record {
  place = length log;
  made = None;
  step = record {
    now = now;
    read = read;
    there = tt;
    gives = subst (λ (l : List CoreEntry). Gives (asked now) tells refuses
        (record { start = v.start; log = l }) None answer)
        (sym (prefix_take log log (prefix_self log))) gives;
  };
  ends = omega arith;
  added = record {
    begins = front;
    later = tt;
    own = sym (append-nil v.own);
    counted = record { of = refl; start = refl; count = omega arith; held = refl; splits = refl };
  };
}
turned asked tells refuses clock ticked answer now of v log n (Some e) grown front is read gives =
    let more : IsPrefix log grown = subst (IsPrefix log) (sym is) (prefix_more log (e ∷ [])) in
    record {
      place = length log;
      made = Some e;
      step = record {
        now = now;
        read = read;
        there = ap (λ (l : List CoreEntry). slice_get l (length log)) is ∙ got_last log e;
        gives = subst (λ (l : List CoreEntry). Gives (asked now) tells refuses
            (record { start = v.start; log = l })
            (Some e) answer) (sym (prefix_take log grown more)) gives;
      };
      ends = ap length is ∙ length-append log (e ∷ []);
      added = record {
        begins = prefix_trans v.front log grown front more;
        later = (prefix_length v.front log front, tt);
        own = refl;
        counted = record {
          of = refl;
          start = refl;
          count = length-append v.own (length log ∷ []);
          held = refl;
          splits = refl;
        };
      };
    }

pub took_turn : {X : Type 0} (asked : ℕ → Call) (tells : Core → CoreEntry → X → Type 0)
    (refuses : Core → X → Type 0) (clock ticked : Moments) (answer : X) (now entries passes : ℕ)
    (of of' : TableId)
    (views new : List View) (w : View) (before desk : Seen) (made : Option CoreEntry) (told : Told)
    (p : IsPass entries passes views) → Begins p.view w before → desk.core ≡ with_core before.core made
    → Gives (asked now) tells refuses before.core made answer → new ≡ ended w desk.core.log ∷ [] → of' ≡ of
    → told_by of views ≡ told → IsReadAt now clock ticked
    → IsTurn asked tells refuses told (told_by of' new) clock ticked answer
took_turn asked tells refuses clock ticked answer now entries passes of of' views new w before desk made told
    p b left
    gives views_are same told_is read =
    let is = ended_is p.view w before desk made b left in
    let new_is : told_by of' new ≡ told_of of
    (released (noted_by (claimed p.view b.log b.made) made desk.core.log)) =
    ap (λ z. told_by z new) same ∙ ap (told_by of) (views_are ∙ ap (λ (u : View). u ∷ []) is.1) in
    let old_is : told ≡ told_of of p.view = sym told_is ∙ ap (told_by of) p.is in
    subst (λ (o : Told). IsTurn asked tells refuses o (told_by of' new) clock ticked answer) (sym old_is)
    (subst (λ (n : Told). IsTurn asked tells refuses (told_of of p.view) n clock ticked answer) (sym new_is)
    (turned asked tells refuses clock ticked answer now of p.view b.log b.made made desk.core.log b.front
    is.0 read
    (subst (λ (d : Seen). Gives (asked now) tells refuses d.core made answer) b.desk_is gives)))

-- the own places of a pass are below its front's length
pub own_low : (entries passes : ℕ) (of : TableId) (views : List View) (told : Told)
    (p : IsPass entries passes views)
    → told_by of views ≡ told → AreBelow (length told.front) told.own
own_low entries passes of views told p told_is =
    subst (λ (o : Told). AreBelow (length o.front) o.own) (ap (told_by of) (sym p.is) ∙ told_is) p.low

-- one pass more

pub enters_at : (start : Start) (n id : ℕ) (v : View) (desk : Seen) (carried : List (ℕ × Option Seen))
    (m : Sat) (made : ℕ) → v.turn ≡ true → made ≡ desk.made → MayEnter v desk
    → m ≡ (v, (0, Some desk) ∷ carried)
    → Allows (Holds start) n id m 2 (λ _. made) (λ _ x. Enters m x)
enters_at start n id v desk carried m made has is may put =
    subst (λ (y : Sat). Allows (Holds start) n id y 2 (λ _. made) (λ _ x. Enters y x)) (sym put)
    (enters start n id v ((0, Some desk) ∷ carried) made has
    (is ∙ ap (λ (d : Seen). d.made) may.desk_is) may.own)

pub leaves_at : (start : Start) (n id : ℕ) (old : Sat) (desk : Seen) (m me : Sat) → HasTurn old
    → MayEnter old.0 desk → m ≡ (old.0, (0, Some desk) ∷ rest old.1) → Enters m me
    → Allows (Holds start) n id me 1 (λ _. 0) (λ _ x. Releases me x)
leaves_at start n id old desk m me has may put is =
    let there : me ≡ (entered old.0, (0, Some desk) ∷ []) = is
    ∙ (ap (λ (y : Sat). (entered y.0, y.1)) put
    ∙ ap (λ (l : List (ℕ × Option Seen)). (entered old.0, (0, Some desk) ∷ rest l)) has.slot) in
    subst (λ (y : Sat). Allows (Holds start) n id y 1 (λ _. 0) (λ _ x. Releases y x)) (sym there)
    (releases start n id (entered old.0) desk has.turn has.live may.desk_is)

pub idle_seat : (views : List View) → IsIdle views → (v : View) → views ≡ v ∷ [] → v.turn ≡ false
idle_seat views i v is = ap (λ (w : View). w.turn) (same_head v i.view [] [] (sym is ∙ i.is)) ∙ i.idle

-- the rules of the state are the scheduler's
pub rules_at : (entries passes : ℕ) (of : TableId) (views : List View) (w : View) (state : Core) (n : ℕ)
    (before : Seen) (told : Told) (scheduler : Whose) (rules : Rules) (p : IsPass entries passes views)
    → record { core = state; made = n } ≡ before → Begins p.view w before → told_by of views ≡ told
    → IsPassOf scheduler told → scheduler.start.rules ≡ rules → state.start.rules ≡ rules
rules_at entries passes of views w state n before told scheduler rules p is b told_is mine version =
    ap (λ (d : Seen). d.core.start.rules) is ∙ (ap (λ (d : Seen). d.core.start.rules) b.desk_is
    ∙ (ap (λ (t : Told). t.start.rules) (sym (ap (told_by of) p.is) ∙ told_is)
    ∙ (ap (λ (s : Start). s.rules) mine.start ∙ version)))

-- ---- the same of a step of the desk's state

-- the state of the desk in hand is its core
stepped : {X : Type 0} (asked : Call) (tells : Core → CoreEntry → X → Type 0) (refuses : Core → X → Type 0)
    (answer : X) (state after : Core) (n : ℕ) (before : Seen) → record { core = state; made = n } ≡ before
    → IsStep asked tells refuses state after answer → IsStep asked tells refuses before.core after answer
stepped asked tells refuses answer state after n before is step =
    subst (λ (k : Core). IsStep asked tells refuses k after answer) (ap (λ (d : Seen). d.core) is) step

pub ends_step : {X : Type 0} (asked : Call) (tells : Core → CoreEntry → X → Type 0) (refuses : Core → X
    → Type 0)
    (answer : X) (v w : View) (state after : Core) (n : ℕ) (before : Seen)
    → record { core = state; made = n } ≡ before
    → Begins v w before → 0 < v.held → IsStep asked tells refuses state after answer
    → ((log : List CoreEntry) → IsPrefix v.front log
    → IsOwnSpending log v.own (rule (record { start = v.start; log = log }) asked))
    → MayEnd w (record { core = after; made = n })
ends_step asked tells refuses answer v w state after n before is b holds step own =
    let s = stepped asked tells refuses answer state after n before is step in
    may_end asked tells refuses answer v w before (record { core = after; made = n }) s.made b holds s.left
    (ap (λ (d : Seen). d.made) is) s.gives own

pub pass_step : {X : Type 0} (asked : Call) (tells : Core → CoreEntry → X → Type 0) (refuses : Core → X
    → Type 0)
    (answer : X) (entries more passes : ℕ) (views new : List View) (w : View) (state after : Core) (n : ℕ)
    (before : Seen) (p : IsPass entries passes views) → record { core = state; made = n } ≡ before
    → Begins p.view w before → IsStep asked tells refuses state after answer → new ≡ ended w after.log ∷ []
    → length after.log < 18446744073709551616
    → more ≡ min (entries + (length after.log - length w.front)) 18446744073709551615
    → IsPass more passes new
pass_step asked tells refuses answer entries more passes views new w state after n before p is b step
    views_are small
    raised =
    let s = stepped asked tells refuses answer state after n before is step in
    is_pass entries more passes views new w before (record { core = after; made = n }) s.made p b s.left
    views_are small
    raised

pub turn_step : {X : Type 0} (asked : ℕ → Call) (tells : Core → CoreEntry → X → Type 0)
    (refuses : Core → X → Type 0) (answer : X) (clock ticked : Moments) (now entries passes : ℕ)
    (of of' : TableId)
    (views new : List View) (w : View) (state after : Core) (n : ℕ) (before : Seen) (told : Told)
    (p : IsPass entries passes views) → record { core = state; made = n } ≡ before → Begins p.view w before
    → IsStep (asked now) tells refuses state after answer → new ≡ ended w after.log ∷ [] → of' ≡ of
    → told_by of views ≡ told → IsReadAt now clock ticked
    → IsTurn asked tells refuses told (told_by of' new) clock ticked answer
turn_step asked tells refuses answer clock ticked now entries passes of of' views new w state after n before
    told p is b
    step views_are same told_is read =
    let s = stepped (asked now) tells refuses answer state after n before is step in
    took_turn asked tells refuses clock ticked answer now entries passes of of' views new w before
    (record { core = after; made = n }) s.made told p b s.left s.gives views_are same told_is read
