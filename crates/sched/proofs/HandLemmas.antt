-- How passes are made, joined and handed in.
use Rattle.std.proofs.Common.{◌≡◌, ℕ, ◌+◌, ◌<◌, ◌≤◌, List, [], ◌∷◌, length, true, None, refl, sym, ap, ◌∙◌}
use Rattle.std.proofs.Common.{subst, arith}
use Rattle.std.specs.Prelude.{min}
use Rattle.atomic_table.specs.Seated.{TableId}
use Rattle.core_rules.specs.declared.entry.CoreEntry.{CoreEntry}
use Rattle.core_rules.specs.Log.{Core}
use Rattle.sched.specs.Hand.{Begins, MayEnd, MayEnter, AreUnited, ended}
use Rattle.sched.specs.Lists.{only, longer, merged}
use Rattle.sched.specs.Pass.{Told, IsSplit, IsJoined, IsClosed, AreOut, split_off}
use Rattle.sched.specs.Plays.{claimed, entered, released, compared, newcomer, joined, with_split}
use Rattle.sched.specs.Rule.{Seen}
use Rattle.sched.specs.View.{told_of, told_by, IsPass}
use Rattle.sched.specs.declared.view.View.{View}
use Rattle.sched.proofs.OwnLemmas.{total-merged}
use Rattle.sched.proofs.PassLemmas.{ended_idle}
use Rattle.sched.proofs.PrefixLemmas.{prefix_length}
use Rattle.sched.proofs.RisingLemmas.{below_wide, below_merged, rising_merged, every_place}
use Rattle.sched.proofs.SumLemmas.{below_one, total_one}

-- a turn in which nothing was done
pub ends_idle : (v w : View) (desk : Seen) → Begins v w desk → MayEnd w desk
ends_idle v w desk b = subst (λ u. MayEnd u desk) (sym b.view)
    (record { made = None; desk_is = b.desk_is; own = tt; holds = tt })

-- split

pub may_enter : (v w : View) (before desk : Seen) → Begins (newcomer v) w before
    → desk ≡ record before { made = before.made + 1 } → MayEnter w desk
may_enter v w before desk b is = subst (λ u. MayEnter u desk) (sym b.view) (record {
  desk_is = is ∙ ap (λ (d : Seen). record d { made = d.made + 1 }) b.desk_is;
  own = refl;
})

new_views : (v w : View) (before : Seen) (views : List View) (b : Begins (newcomer v) w before)
    → views ≡ released (entered w) ∷ [] → views ≡ released (entered (claimed (newcomer v) b.log b.made)) ∷ []
new_views v w before views b is = is ∙ ap (λ u. released (entered u) ∷ []) b.view

pub new_pass : (v w : View) (before : Seen) (views : List View) → v.live ≡ true
    → Begins (newcomer v) w before → views ≡ released (entered w) ∷ [] → IsPass 0 1 views
new_pass v w before views live b is = subst (IsPass 0 1) (sym (new_views v w before views b is)) (record {
  view = released (entered (claimed (newcomer v) b.log b.made));
  is = refl;
  idle = refl;
  live = live;
  holds = omega arith;
  rising = tt;
  low = tt;
  entries_are = refl;
  passes_are = refl;
})

pub is_split : (v w : View) (before : Seen) (views old : List View) (of of' : TableId) (told : Told)
    → old ≡ v ∷ [] → of' ≡ of → told_by of old ≡ told → Begins (newcomer v) w before
    → views ≡ released (entered w) ∷ [] → IsSplit told (told_by of' views)
is_split v w before views old of of' told one same told_is b is =
    let new_is : told_by of' views ≡ told_of of (released (entered (claimed (newcomer v) b.log b.made))) =
    ap (λ z. told_by z views) same ∙ ap (told_by of) (new_views v w before views b is) in
    let old_is : told ≡ told_of of v = sym told_is ∙ ap (told_by of) one in
    subst (λ (o : Told). IsSplit o (told_by of' views)) (sym old_is)
    (subst (λ (n : Told). IsSplit (told_of of v) n) (sym new_is)
    (record { of = refl; start = refl; front = b.front; own = refl; held = refl; splits = refl; count = refl }))

-- the pass that it was split off

pub counts_one : (entries passes : ℕ) (views new : List View) (p : IsPass entries passes views)
    → new ≡ with_split p.view ∷ [] → IsPass entries passes new
counts_one entries passes views new p is = subst (IsPass entries passes) (sym is) (record {
  view = with_split p.view;
  is = refl;
  idle = p.idle;
  live = p.live;
  holds = p.holds;
  rising = p.rising;
  low = p.low;
  entries_are = p.entries_are;
  passes_are = p.passes_are;
})

pub is_counted : (v : View) (old new : List View) (of of' : TableId) (told : Told)
    → old ≡ v ∷ [] → of' ≡ of → told_by of old ≡ told → new ≡ with_split v ∷ []
    → told_by of' new ≡ split_off 1 told
is_counted v old new of of' told one same told_is is =
    ap (λ z. told_by z new) same
    ∙ (ap (told_by of) is ∙ ap (split_off 1) (sym (ap (told_by of) one) ∙ told_is))

-- join

longer_front : (xs ys : List CoreEntry) → (length xs ≤ length (longer xs ys))
    × (length ys ≤ length (longer xs ys))
longer_front xs ys = grind arith

pub joined_pass : (entries passes more held : ℕ) (views others new : List View) (sum total_held : ℕ)
    (p : IsPass entries passes views) (q : IsPass more held others) → AreUnited p.view q.view new
    → sum ≡ min (entries + more) 18446744073709551615 → total_held ≡ min (passes + held) 18446744073709551615
    → IsPass sum total_held new
joined_pass entries passes more held views others new sum total_held p q u is held_is =
    let long = longer_front p.view.front q.view.front in
    let len : length (merged p.view.own q.view.own) ≡ length p.view.own + length q.view.own =
    omega (
      arith,
      total-merged (λ _. 1) p.view.own q.view.own,
      total_one (merged p.view.own q.view.own),
      total_one p.view.own,
      total_one q.view.own,
    ) in
    subst (IsPass sum total_held) (sym u.is) (record {
      view = compared (joined p.view q.view);
      is = refl;
      idle = refl;
      live = p.live;
      holds = omega (arith, p.holds);
      rising = rising_merged p.view.own q.view.own q.rising u.once;
      low = below_merged (length (longer p.view.front q.view.front)) p.view.own q.view.own
          (below_wide (length p.view.front) (length (longer p.view.front q.view.front)) p.view.own p.low
          long.0)
          (below_wide (length q.view.front) (length (longer p.view.front q.view.front)) q.view.own q.low
          long.1);
      entries_are = omega (arith, is, len, u.few, p.entries_are, q.entries_are);
      passes_are = omega (arith, held_is, u.held, p.passes_are, q.passes_are);
    })

pub is_joined : (entries passes more held : ℕ) (views others new : List View) (of of' that : TableId)
    (told other : Told) (p : IsPass entries passes views) (q : IsPass more held others)
    → AreUnited p.view q.view new → of' ≡ of → told_by of views ≡ told → told_by that others ≡ other
    → IsJoined told other (told_by of' new)
is_joined entries passes more held views others new of of' that told other p q u same told_is other_is =
    let new_is : told_by of' new ≡ told_of of (compared (joined p.view q.view)) =
    ap (λ z. told_by z new) same ∙ ap (told_by of) u.is in
    let old_is : told ≡ told_of of p.view = sym told_is ∙ ap (told_by of) p.is in
    let that_is : other ≡ told_of that q.view = sym other_is ∙ ap (told_by that) q.is in
    subst (λ (o : Told). IsJoined o other (told_by of' new)) (sym old_is)
    (subst (λ (o : Told). IsJoined (told_of of p.view) o (told_by of' new)) (sym that_is)
    (subst (λ (n : Told). IsJoined (told_of of p.view) (told_of that q.view) n) (sym new_is) (record {
      of = refl;
      start = refl;
      front = refl;
      begins = u.other;
      own = refl;
      apart = λ k one two. let once = u.once k in omega (arith, total-merged (only k) p.view.own q.view.own);
      held = refl;
      splits = refl;
      count = omega (
        arith,
        total-merged (λ _. 1) p.view.own q.view.own,
        total_one (merged p.view.own q.view.own),
        total_one p.view.own,
        total_one q.view.own,
      );
    })))

-- close

pub are_out : (entries passes : ℕ) (views new : List View) (of of' : TableId) (told : Told) (w : View)
    (desk : Seen) (made : ℕ) (p : IsPass entries passes views)
    → Begins p.view w desk → new ≡ ended w desk.core.log ∷ [] → of' ≡ of → told_by of views ≡ told
    → made ≡ desk.made → passes < made → AreOut told (told_by of' new) made passes
are_out entries passes views new of of' told w desk made p b is same told_is made_is fewer =
    let new_is : told_by of' new ≡ told_of of (released (claimed p.view b.log b.made)) =
    ap (λ z. told_by z new) same
    ∙ ap (told_by of) (is ∙ ap (λ (u : View). u ∷ []) (ended_idle p.view w desk b)) in
    let old_is : told ≡ told_of of p.view = sym told_is ∙ ap (told_by of) p.is in
    subst (λ (o : Told). AreOut o (told_by of' new) made passes) (sym old_is)
    (subst (λ (n : Told). AreOut (told_of of p.view) n made passes) (sym new_is) (record {
      of = refl;
      start = refl;
      front = b.front;
      own = refl;
      count = refl;
      same = refl;
      splits = refl;
      made_is = made_is ∙ ap (λ (d : Seen). d.made) b.desk_is;
      held_is = p.passes_are;
      fewer = fewer;
    }))

pub is_closed : (entries passes : ℕ) (views : List View) (of : TableId) (told : Told) (w : View)
    (desk : Seen) (state : Core) (made : ℕ) (p : IsPass entries passes views)
    → Begins p.view w desk → told_by of views ≡ told → made ≡ desk.made → made ≤ passes → state ≡ desk.core
    → IsClosed told state
is_closed entries passes views of told w desk state made p b told_is made_is most is =
    let v = p.view in
    let old_is : told ≡ told_of of v = sym told_is ∙ ap (told_by of) p.is in
    let state_is : state ≡ record { start = v.start; log = b.log } = is
    ∙ ap (λ (d : Seen). d.core) b.desk_is in
    let all : v.held ≡ b.made =
    omega (arith, made_is, ap (λ (d : Seen). d.made) b.desk_is, p.passes_are, b.held) in
    let len : length v.own ≡ length b.log =
    omega (arith, b.whole all (λ _. 1), total_one v.own, below_one (length b.log)) in
    subst (λ (o : Told). IsClosed o state) (sym old_is)
    (subst (IsClosed (told_of of v)) (sym state_is) (record {
      start = refl;
      front = b.front;
      legal = b.legal;
      own = every_place (length b.log) v.own p.rising
          (below_wide (length v.front) (length b.log) v.own p.low (prefix_length v.front b.log b.front)) len;
      count = len;
    }))
