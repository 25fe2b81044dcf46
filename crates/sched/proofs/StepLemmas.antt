-- Each step of the turn keeps the rule.
use Rattle.std.proofs.Common.{◌≡◌, ℕ, zero, suc, ◌+◌, ◌<◌, ◌^◌, ◌≢◌, ◌⊎◌, List, [], ◌∷◌, ◌++◌, length}
use Rattle.std.proofs.Common.{slice_index, set, true, false, cond, Option, Some, refl, sym, ap, ◌∙◌, subst}
use Rattle.std.proofs.Common.{inl, inr, ⊎_elim, arith, length-append}
use Rattle.std.specs.Prelude.{MatchBool, ◌==◌, nat_le}
use mathlib.Core.Option.{some}
use mathlib.Core.Option as table
use mathlib.Core.List.{IsPrefix}
use lib.ListN.{get_elem?}
use prog.Atomic.{either}
use Rattle.atomic_table.specs.Table.{State, Act, keeps, takes, gives, Valid, homes_after, carried_after}
use Rattle.atomic_table.specs.Table.{Allows, Splits, Joins, opening}
use Rattle.atomic_table.proofs.Lists.{at_set, set_else, set_again, at_snoc}
use Rattle.sched.specs.declared.view.View.{View}
use Rattle.core_rules.specs.declared.entry.CoreEntry.{CoreEntry}
use Rattle.core_rules.specs.Laws.{IsLegal}
use Rattle.core_rules.specs.declared.start.Start.{Start}
use Rattle.sched.specs.Lists.{total, below, longer, shorter, merged}
use Rattle.sched.specs.Rule.{Seen, Holds, Fits, IsHome, IsOut, has_turn, desk_of, SpendsOwn, IsOwnSpending}
use Rattle.sched.specs.Plays.{Sat, first_view, claimed, recorded, entered, released, compared, newcomer}
use Rattle.sched.specs.Plays.{joined, spent, with_split, Claims, Records, Enters, Releases, Compares, Counts}
use Rattle.sched.specs.Plays.{CountsSplit}
use Rattle.sched.proofs.PrefixLemmas.{prefix_self, prefix_nil, prefix_more, prefix_trans, prefix_shorter}
use Rattle.sched.proofs.SumLemmas.{total-append, total-set, total-alone, term_le, below_more}
use Rattle.sched.proofs.OwnLemmas.{own_grown, own_kept, own_joined, total-merged}
use Rattle.sched.proofs.RuleLemmas.{own_below, own_once, own_alone, own_few, held_few, turn_taken}
use Rattle.sched.proofs.RuleLemmas.{turn_alone}

-- one view changed
moved : (start : Start) (s : State (Option Seen) View) (h : Holds start s) (id : ℕ) (v w : View)
    → get_elem? s.views id ≡ some v
    → (log : List CoreEntry) (made turn : ℕ) (ws : List ℕ) (hs : List (table.Option (Option Seen)))
    → ws ≡ length log ∷ turn ∷ made ∷ [] → IsHome start log made turn hs ⊎ IsOut turn hs → IsLegal start log
    → Fits start log made w
    → ((j : ℕ) (u : View) → j ≢ id → get_elem? s.views j ≡ some u → Fits start log made u)
    → ((f : ℕ → ℕ) → total f w.own + below f (length h.log) ≡ total f v.own + below f (length log))
    → w.held + h.made ≡ v.held + made
    → has_turn w + h.turn ≡ has_turn v + turn
    → Holds start (record { words = ws; homes = hs; views = set s.views id w })
moved start s h id v w at log made turn ws hs words slot legal fits others own held turns = record {
  log = log;
  made = made;
  turn = turn;
  words = words;
  slot = slot;
  counts = h.counts;
  legal = legal;
  fits = λ j u e. ⊎_elim (λ t. subst (Fits start log made) t.1 fits) (λ t. others j u t.0 t.1)
      (at_set s.views id j w u e);
  own = λ f. omega (arith, own f, h.own f, total-set (λ u. total f u.own) s.views id v w at);
  held = omega (arith, held, h.held, total-set (λ u. u.held) s.views id v w at);
  turns = omega (arith, turns, h.turns, total-set has_turn s.views id v w at);
}

-- what a step may do, at these words and homes
abbrev Goes : Start → List View → ℕ → Sat → ℕ → (ℕ → ℕ) → (ℕ → Sat → Type 0) → List ℕ
    → List (table.Option (Option Seen)) → Type 0
Goes start views id me i f then ws hs = (w : View) × (a : Act (Option Seen)) × Valid hs me.1 a
    × Holds start (record {
      words = set ws i (f (slice_index ws i));
      homes = homes_after hs me.1 a;
      views =
          set views id w;
    }) × then (slice_index ws i) (w, carried_after me.1 a)

at_words : (start : Start) (views : List View) (id : ℕ) (me : Sat) (i : ℕ) (f : ℕ → ℕ) (then : ℕ → Sat
    → Type 0) (ws us : List ℕ) (hs gs : List (table.Option (Option Seen)))
    → ws ≡ us → hs ≡ gs → Goes start views id me i f then us gs → Goes start views id me i f then ws hs
at_words start views id me i f then ws us hs gs e d goes = subst (λ x. Goes start views id me i f then x hs)
    (sym e) (subst (λ x. Goes start views id me i f then us x) (sym d) goes)

module _ (start : Start) where
  -- claim
  pub claims : (n id : ℕ) (v : View) → v.live ≡ true
      → Allows (Holds start) n id (v, []) 1 (λ x. either (x == 0) 1 x)
      (λ r me. MatchBool (r == 0) (Claims (v, []) me) (me ≡ (v, [])))
  claims n id v live s h wide at _ =
      let old = h.fits id v at in
      let then : ℕ → Sat → Type 0 = λ r me. MatchBool (r == 0) (Claims (v, []) me) (me ≡ (v, [])) in
      ⊎_elim
      (λ (home : IsHome start h.log h.made h.turn s.homes). at_words start s.views id (v, []) 1
      (λ x. either (x == 0) 1 x) then s.words (length h.log ∷ 0 ∷ h.made ∷ []) s.homes _
      (h.words ∙ ap (λ t. length h.log ∷ t ∷ h.made ∷ []) home.free) home.is (
        claimed v h.log h.made,
        takes 0 (Some (desk_of start h.log h.made)),
        refl,
        moved start s h id v (claimed v h.log h.made) at h.log h.made 1 (length h.log ∷ 1 ∷ h.made ∷ [])
            (table.none ∷ []) refl (inr (record { taken = refl; is = refl })) h.legal
            (record {
              front = prefix_self h.log;
              other = old.other;
              turn = λ _. (refl, refl);
              idle =
                  old.idle;
              spent = old.spent;
              live = old.live;
            })
            (λ j u ne there. h.fits j u there) (λ f. refl) refl
            (omega (arith, home.free, h.turns, term_le has_turn s.views id v at)),
        record {
          log = h.log;
          made = h.made;
          is = ap (λ b. (claimed v h.log h.made, (0, Some (desk_of b h.log h.made)) ∷ []))
              (sym (old.live live));
          front = old.front;
          legal = subst (λ b. IsLegal b h.log) (sym (old.live live)) h.legal;
          spends = old.spent;
          few = own_few start s h id v at;
          held = held_few start s h id v at;
          whole = λ e f. sym (total-alone (λ u. u.held) (λ u. total f u.own) s.views
              (λ j u there none. ap (total f) ((h.fits j u there).idle none)) id v at
              (omega (arith, h.held))) ∙ h.own f;
        },
      ))
      (λ (out : IsOut h.turn s.homes). at_words start s.views id (v, []) 1
      (λ x. either (x == 0) 1 x) then s.words (length h.log ∷ 1 ∷ h.made ∷ []) s.homes s.homes
      (h.words ∙ ap (λ t. length h.log ∷ t ∷ h.made ∷ []) out.taken) refl (
        v,
        keeps,
        tt,
        moved start s h id v v at h.log h.made 1 (length h.log ∷ 1 ∷ h.made ∷ []) s.homes refl
            (inr (record { taken = refl; is = out.is })) h.legal old (λ j u ne there. h.fits j u there)
            (λ f. refl) refl (omega (arith, out.taken)),
        refl,
      ))
      h.slot

  -- record
  pub records : (n id : ℕ) (v : View) (desk : Seen) (e : CoreEntry) (len : ℕ) → v.turn ≡ true → v.live ≡ true
      → 0 < v.held → len ≡ length desk.core.log
      → desk.core.log ≡ v.front ++ e ∷ [] → IsLegal v.start desk.core.log → IsOwnSpending v.front v.own e
      → Allows (Holds start) n id (v, (0, Some desk) ∷ []) 0 (λ _. len)
      (λ _ me. Records (v, (0, Some desk) ∷ []) me)
  records n id v desk e len has live some_held is added legal spends s h wide at _ =
      let old = h.fits id v at in
      let out = turn_taken start s h id v at has in
      let front : v.front ≡ h.log = (old.turn has).0 in
      let grown : desk.core.log ≡ h.log ++ e ∷ [] = added ∙ ap (λ (l : List CoreEntry). l ++ e ∷ []) front in
      let more : IsPrefix h.log desk.core.log = subst (IsPrefix h.log) (sym grown)
      (prefix_more h.log (e ∷ [])) in
      let me : Sat = (v, (0, Some desk) ∷ []) in
      let w = recorded v desk.core.log in
      let mine : IsOwnSpending h.log v.own e =
      subst (λ (l : List CoreEntry). IsOwnSpending l v.own e) front spends in
      at_words start s.views id me 0 (λ _. len) (λ _ x. Records me x) s.words
      (length h.log ∷ h.turn ∷ h.made ∷ []) s.homes s.homes h.words refl (
        w,
        keeps,
        tt,
        moved start s h id v w at desk.core.log h.made h.turn (len ∷ h.turn ∷ h.made ∷ []) s.homes
            (ap (λ (k : ℕ). k ∷ h.turn ∷ h.made ∷ []) is) (inr out)
            (subst (λ b. IsLegal b desk.core.log) (old.live live) legal)
            (record {
              front = prefix_self desk.core.log;
              other = prefix_trans v.other h.log desk.core.log old.other more;
              turn = λ _. (refl, (old.turn has).1);
              idle = λ none. absurd (omega arith);
              spent = subst (λ (l : List CoreEntry). SpendsOwn l (v.own ++ length v.front ∷ [])) (sym grown)
                  (subst (λ (l : List CoreEntry). SpendsOwn (h.log ++ e ∷ []) (v.own ++ length l ∷ []))
                  (sym front) (own_grown h.log e v.own old.spent));
              live = old.live;
            })
            (λ j u ne there. let theirs = h.fits j u there in record {
              front = prefix_trans u.front h.log desk.core.log theirs.front more;
              other = prefix_trans u.other h.log desk.core.log theirs.other more;
              turn = λ too. absurd (turn_alone start s h id j v u at there ne has too);
              idle = theirs.idle;
              spent = subst (λ (l : List CoreEntry). SpendsOwn l u.own) (sym grown)
                  (own_kept start h.log e u.own v.own h.counts h.legal theirs.spent mine
                  (λ k a b. own_alone start s h id j v u k at there ne a b)
                  (λ k a. own_below start s h j u k there a));
              live = theirs.live;
            })
            (λ f. omega (
              arith,
              total-append f v.own (length v.front ∷ []),
              ap (λ (l : List CoreEntry). f (length l)) front,
              ap (λ (l : List CoreEntry). below f (length l)) grown,
              ap (below f) (length-append h.log (e ∷ [])),
              below_more f (length h.log),
            ))
            refl refl,
        record { desk = desk; slot = refl; is = refl },
      )

  -- enter
  pub enters : (n id : ℕ) (v : View) (carried : List (ℕ × Option Seen)) (made : ℕ) → v.turn ≡ true
      → made ≡ v.note + 1 → v.own ≡ []
      → Allows (Holds start) n id (v, carried) 2 (λ _. made) (λ _ me. Enters (v, carried) me)
  enters n id v carried made has is none s h wide at _ =
      let old = h.fits id v at in
      let out = turn_taken start s h id v at has in
      let me : Sat = (v, carried) in
      let now : made ≡ h.made + 1 = is ∙ ap (λ k. k + 1) (old.turn has).1 in
      at_words start s.views id me 2 (λ _. made) (λ _ x. Enters me x) s.words
      (length h.log ∷ h.turn ∷ h.made ∷ []) s.homes s.homes h.words refl (
        entered v,
        keeps,
        tt,
        moved start s h id v (entered v) at h.log made h.turn
            (length h.log ∷ h.turn ∷ made ∷ []) s.homes refl (inr out) h.legal
            (record {
              front = old.front;
              other = old.other;
              turn = λ _. ((old.turn has).0, sym is);
              idle =
                  λ _. none;
              spent = old.spent;
              live = old.live;
            })
            (λ j u ne there. let theirs = h.fits j u there in record {
              front = theirs.front;
              other = theirs.other;
              turn = λ too. absurd (turn_alone start s h id j v u at there ne has too);
              idle = theirs.idle;
              spent = theirs.spent;
              live = theirs.live;
            })
            (λ f. refl) (omega (arith, now)) refl,
        refl,
      )

  -- release
  pub releases : (n id : ℕ) (v : View) (desk : Seen) → v.turn ≡ true → v.live ≡ true
      → desk ≡ desk_of v.start v.front v.note
      → Allows (Holds start) n id (v, (0, Some desk) ∷ []) 1 (λ _. 0)
      (λ _ me. Releases (v, (0, Some desk) ∷ []) me)
  releases n id v desk has live is s h wide at _ =
      let old = h.fits id v at in
      let out = turn_taken start s h id v at has in
      let me : Sat = (v, (0, Some desk) ∷ []) in
      let mine : has_turn v ≡ 1 = ap (λ b. cond b 1 0) has in
      let whole : desk ≡ desk_of start h.log h.made = is
      ∙ (ap (λ b. desk_of b v.front v.note) (old.live live)
      ∙ (ap (λ l. desk_of start l v.note) (old.turn has).0 ∙ ap (desk_of start h.log) (old.turn has).1))
      in
      at_words start s.views id me 1 (λ _. 0) (λ _ x. Releases me x) s.words
      (length h.log ∷ h.turn ∷ h.made ∷ []) s.homes (table.none ∷ []) h.words out.is (
        released v,
        gives,
        tt,
        moved start s h id v (released v) at h.log h.made 0 (length h.log ∷ 0 ∷ h.made ∷ [])
            (some (Some desk) ∷ []) refl
            (inl (record { free = refl; is = ap (λ d. some (Some d) ∷ []) whole })) h.legal
            (record {
              front = old.front;
              other = old.other;
              turn = λ not. absurd (cc not);
              idle =
                  old.idle;
              spent = old.spent;
              live = old.live;
            })
            (λ j u ne there. h.fits j u there) (λ f. refl) refl (omega (arith, mine, out.taken)),
        refl,
      )

  -- the front that was taken in
  pub compares : (n id : ℕ) (v : View) (carried : List (ℕ × Option Seen))
      → Allows (Holds start) n id (v, carried) 0 (λ x. x) (λ r me. Compares (v, carried) r me)
  compares n id v carried s h wide at _ =
      let old = h.fits id v at in
      let me : Sat = (v, carried) in
      at_words start s.views id me 0 (λ x. x) (λ r x. Compares me r x) s.words
      (length h.log ∷ h.turn ∷ h.made ∷ []) s.homes s.homes h.words refl (
        compared v,
        keeps,
        tt,
        moved start s h id v (compared v) at h.log h.made h.turn
            (length h.log ∷ h.turn ∷ h.made ∷ []) s.homes refl h.slot h.legal
            (record {
              front = old.front;
              other = prefix_nil h.log;
              turn = old.turn;
              idle = old.idle;
              spent =
                  old.spent;
              live = old.live;
            })
            (λ j u ne there. h.fits j u there) (λ f. refl) refl refl,
        record {
          is = refl;
          other = λ le. prefix_shorter v.other v.front h.log old.other old.front le;
          once = λ k. own_once start s h id v k at;
          few = own_few start s h id v at;
        },
      )

  -- how many were made
  pub counts : (n id : ℕ) (v : View) (carried : List (ℕ × Option Seen))
      → Allows (Holds start) n id (v, carried) 2 (λ x. x) (λ r me. Counts (v, carried) r me)
  counts n id v carried s h wide at _ =
      let me : Sat = (v, carried) in
      at_words start s.views id me 2 (λ x. x) (λ r x. Counts me r x) s.words
      (length h.log ∷ h.turn ∷ h.made ∷ []) s.homes s.homes h.words refl (
        v,
        keeps,
        tt,
        moved start s h id v v at h.log h.made h.turn (length h.log ∷ h.turn ∷ h.made ∷ []) s.homes refl
            h.slot h.legal (h.fits id v at) (λ j u ne there. h.fits j u there) (λ f. refl) refl refl,
        record { is = refl; held = held_few start s h id v at },
      )

  -- one pass more was split off
  pub counts_split : (n id : ℕ) (v : View) (carried : List (ℕ × Option Seen))
      → Allows (Holds start) n id (v, carried) 2 (λ x. x) (λ r me. CountsSplit (v, carried) me)
  counts_split n id v carried s h wide at _ =
      let old = h.fits id v at in
      let me : Sat = (v, carried) in
      at_words start s.views id me 2 (λ x. x) (λ r x. CountsSplit me x) s.words
      (length h.log ∷ h.turn ∷ h.made ∷ []) s.homes s.homes h.words refl (
        with_split v,
        keeps,
        tt,
        moved start s h id v (with_split v) at h.log h.made h.turn
            (length h.log ∷ h.turn ∷ h.made ∷ []) s.homes refl h.slot h.legal
            (record {
              front = old.front;
              other = old.other;
              turn = old.turn;
              idle = old.idle;
              spent = old.spent;
              live = old.live;
            })
            (λ j u ne there. h.fits j u there) (λ f. refl) refl refl,
        refl,
      )

  -- split
  pub splits : (id : ℕ) (v : View) → Splits (Holds start) id v v (newcomer v)
  splits id v s h at =
      let old = h.fits id v at in
      let fresh : Fits start h.log h.made (newcomer v) = record {
        front = old.front;
        other = prefix_nil h.log;
        turn = λ not. absurd (cc not);
        idle = λ _. refl;
        spent = λ q p spends has. absurd (omega arith);
        live = old.live;
      } in
      let grown : Holds start
      (record { words = s.words; homes = s.homes; views = s.views ++ newcomer v ∷ [] }) = record {
        log = h.log;
        made = h.made;
        turn = h.turn;
        words = h.words;
        slot = h.slot;
        counts = h.counts;
        legal = h.legal;
        fits = λ j u e. ⊎_elim (λ there. h.fits j u there) (λ is. subst (Fits start h.log h.made) is fresh)
            (at_snoc s.views (newcomer v) u j e);
        own = λ f. omega (arith, h.own f, total-append (λ u. total f u.own) s.views (newcomer v ∷ []));
        held = omega (arith, h.held, total-append (λ u. u.held) s.views (newcomer v ∷ []));
        turns = omega (arith, h.turns, total-append has_turn s.views (newcomer v ∷ []));
      } in
      subst (λ (l : List View). Holds start
      (record { words = s.words; homes = s.homes; views = l ++ newcomer v ∷ [] }))
      (sym (set_again s.views id v at)) grown

  longer_fits : (xs ys log : List CoreEntry) → IsPrefix xs log → IsPrefix ys log
      → IsPrefix (longer xs ys) log
  longer_fits xs ys log p q = elim (nat_le (length xs) (length ys)) as
      (λ b. IsPrefix (cond b ys xs) log) [ true ↦ q | false ↦ p ]

  shorter_fits : (xs ys log : List CoreEntry) → IsPrefix xs log → IsPrefix ys log
      → IsPrefix (shorter xs ys) log
  shorter_fits xs ys log p q = elim (nat_le (length xs) (length ys)) as
      (λ b. IsPrefix (cond b xs ys) log) [ true ↦ p | false ↦ q ]

  -- join
  pub joins : (id : ℕ) (v : View) (other : ℕ) (u : View) → v.turn ≡ false → u.turn ≡ false
      → Joins (Holds start) id v other u (joined v u) spent
  joins id v other u idle theirs s h at apart them =
      let there : get_elem? s.views other ≡ some u = sym (set_else s.views id other (joined v u) apart)
      ∙ them in
      let old = h.fits id v at in
      let new = h.fits other u there in
      let none : has_turn v ≡ 0 = ap (λ b. cond b 1 0) idle in
      let none_too : has_turn u ≡ 0 = ap (λ b. cond b 1 0) theirs in
      let w = joined v u in
      let both : (g : View → ℕ)
      → total g (set (set s.views id w) other spent) + g u + g v ≡ total g s.views + g w + g spent =
      λ g. omega (arith, total-set g s.views id v w at, total-set g (set s.views id w) other u spent them) in
      let fits_both : Fits start h.log h.made w = record {
        front = longer_fits v.front u.front h.log old.front new.front;
        other = shorter_fits v.front u.front h.log old.front new.front;
        turn = λ not. absurd (cc not);
        idle = λ nil. ap (λ (l : List ℕ). merged l u.own) (old.idle (omega arith)) ∙ new.idle (omega arith);
        spent = own_joined h.log v.own u.own old.spent new.spent;
        live = old.live;
      } in
      let fits_spent : Fits start h.log h.made spent = record {
        front = prefix_nil h.log;
        other = prefix_nil h.log;
        turn = λ not. absurd (cc not);
        idle = λ _. refl;
        spent = λ q p spends has. absurd (omega arith);
        live = λ not. absurd (cc not);
      } in
      record {
        log = h.log;
        made = h.made;
        turn = h.turn;
        words = h.words;
        slot = h.slot;
        counts = h.counts;
        legal = h.legal;
        fits = λ j x e. ⊎_elim (λ t. subst (Fits start h.log h.made) t.1 fits_spent)
            (λ t. ⊎_elim (λ q. subst (Fits start h.log h.made) q.1 fits_both) (λ q. h.fits j x q.1)
            (at_set s.views id j w x t.1))
            (at_set (set s.views id w) other j spent x e);
        own = λ f. omega (arith, h.own f, both (λ x. total f x.own), total-merged f v.own u.own);
        held = omega (arith, h.held, both (λ x. x.held));
        turns = omega (arith, h.turns, both has_turn, none, none_too);
      }

  -- the table at the start
  pub opens : (desk : Seen) (first : View) → start.count < 2 ^ 64 → desk ≡ desk_of start [] 1
      → first ≡ first_view start
      → Holds start (opening (0 ∷ 0 ∷ 1 ∷ []) (Some desk ∷ []) first)
  opens desk first counts fresh is = subst (λ v. Holds start (opening (0 ∷ 0 ∷ 1 ∷ []) (Some desk ∷ []) v))
      (sym is) (record {
        log = [];
        made = 1;
        turn = 0;
        words = refl;
        slot = inl (record { free = refl; is = ap (λ d. some (Some d) ∷ []) fresh });
        counts = counts;
        legal = tt;
        fits = λ j u e. one_fits j u e;
        own = λ f. refl;
        held = refl;
        turns = refl;
      })
    where
      fits_first : Fits start [] 1 (first_view start)
      fits_first = record {
        front = prefix_nil [];
        other = prefix_nil [];
        turn = λ not. absurd (cc not);
        idle = λ _. refl;
        spent = λ q p spends has. absurd (omega arith);
        live = λ _. refl;
      }

      one_fits : (j : ℕ) (u : View) → get_elem? (first_view start ∷ []) j ≡ some u → Fits start [] 1 u
      one_fits zero u e = subst (Fits start [] 1) (table.some-injective (first_view start) u e) fits_first
      one_fits (suc j) u e = absurd (table.some-ne-none u (sym e))
