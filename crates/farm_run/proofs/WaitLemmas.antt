-- What is kept for the calls that wait, after one more entry.
use Rattle.std.proofs.Common.{◌≡◌, inl, inr, ℕ, ◌<◌, Bool, true, false, cond, List, [], ◌∷◌, ◌++◌, length}
use Rattle.std.proofs.Common.{Option, Some, None, sym, ap, subst, ◌∙◌, arith}
use Rattle.std.proofs.lemmas.Bool.{cases_lt}
use Rattle.std.proofs.lemmas.List.{length-append}
use Rattle.std.proofs.lemmas.Option.{slice_get_past}
use Rattle.dist_types.specs.Addr.{◌>>=◌}
use Rattle.core_rules.proofs.Lists.{end_cut}
use Rattle.farm_entries.specs.declared.site.Site.{Site as Setup}
use Rattle.farm_entries.specs.declared.entry.Entry.{Entry}
use Rattle.farm_entries.specs.declared.pending.Pending.{Pending}
use Rattle.farm_entries.specs.Begun.{IsMadeBy, IsCallOf}
use Rattle.farm_entries.specs.Calls.{settled_at, is_settled, waiting_at}
use Rattle.farm_entries.specs.Effects.{effect_of}
use Rattle.farm_entries.specs.Waiting.{IsKept, kept_at, AreKept}
use Rattle.farm_run.specs.Farm.{IsAfter}
use Rattle.farm_entries.specs.Ways.{way_of}
use Rattle.farm_laws.proofs.CallLemmas.{get_left, get_end, waiting-push}
use Rattle.farm_laws.proofs.NumberLemmas.{take_left, take_end}

-- what is kept of a call of before
pub call-left : (setup : Setup) (log : List Entry) (e : Entry) (n : ℕ) (p : Pending) → n < length log
    → IsCallOf setup log n p → IsCallOf setup (log ++ e ∷ []) n p
call-left setup log e n p h is = record {
  entry = is.entry;
  there = get_left log (e ∷ []) n h ∙ is.there;
  made = subst (λ (l : List Entry). IsMadeBy setup l (way_of setup l is.entry.event.kind)
      (effect_of is.entry) p) (sym (take_left log (e ∷ []) n (omega arith))) is.made;
}

-- what is kept of the call that the entry makes
pub call-end : (setup : Setup) (log : List Entry) (e : Entry) (p : Pending)
    → IsMadeBy setup log (way_of setup log e.event.kind) (effect_of e) p
    → IsCallOf setup (log ++ e ∷ []) (length log) p
call-end setup log e p is = record {
  entry = e;
  there = get_end log e;
  made = subst (λ (l : List Entry). IsMadeBy setup l (way_of setup l e.event.kind) (effect_of e) p)
      (sym (take_end log e)) is;
}

-- an entry that does not settle the call leaves it as it was
pub kept-left : (setup : Setup) (log : List Entry) (e : Entry) (n : ℕ) (o : Option Pending) → n < length log
    → settled_at n (end_cut log e) ≡ false
    → IsKept setup log n o → IsKept setup (log ++ e ∷ []) n o
kept-left setup log e n None h off is = waiting-push log e n h
    ∙ ap (λ (b : Bool). cond b None (waiting_at log n)) off ∙ is
kept-left setup log e n (Some p) h off is = record {
  entry = is.entry;
  waits = waiting-push log e n h ∙ ap (λ (b : Bool). cond b None (waiting_at log n)) off ∙ is.waits;
  call = call-left setup log e n p h is.call;
}

-- an entry that settles it leaves nothing
pub kept-settled : (setup : Setup) (log : List Entry) (e : Entry) (n : ℕ) → n < length log
    → settled_at n (end_cut log e) ≡ true → IsKept setup (log ++ e ∷ []) n None
kept-settled setup log e n h on = waiting-push log e n h
    ∙ ap (λ (b : Bool). cond b None (waiting_at log n)) on

-- what is kept after an entry, with what the entry itself makes
pub kept-push : (setup : Setup) (log : List Entry) (e : Entry) (ps : List (Option Pending))
    (x : Option Pending) → IsAfter setup log e ps x
    → AreKept setup (log ++ e ∷ []) (ps ++ x ∷ [])
kept-push setup log e ps x is = record {
  size = omega (arith, length-append ps (x ∷ []), length-append log (e ∷ []), is.size);
  each = λ n. elim (cases_lt n (length log)) [
    | inl lt ↦
        let at : kept_at (ps ++ x ∷ []) n ≡ kept_at ps n = ap (λ (o : Option (Option Pending)). o >>= λ p. p)
        (get_left ps (x ∷ []) n (omega (arith, is.size))) in
        subst (λ (o : Option Pending). IsKept setup (log ++ e ∷ []) n o) (sym at) (is.old n lt)
    | inr ge ↦ elim (cases_lt (length log) n) [
      | inl past ↦
          let none : kept_at (ps ++ x ∷ []) n ≡ None = ap (λ (o : Option (Option Pending)). o >>= λ p. p)
          (slice_get_past (ps ++ x ∷ []) n (omega (arith, length-append ps (x ∷ []), is.size))) in
          let over : waiting_at (log ++ e ∷ []) n ≡ None =
          ap (λ (o : Option Entry). o >>= λ y. y.call >>= λ c. cond (is_settled (log ++ e ∷ []) n) None
          (Some y)) (slice_get_past (log ++ e ∷ []) n (omega (arith, length-append log (e ∷ [])))) in
          subst (λ (o : Option Pending). IsKept setup (log ++ e ∷ []) n o) (sym none) over
      | inr le ↦
          let last : length log ≡ n = omega arith in
          let at : kept_at (ps ++ x ∷ []) (length log) ≡ x =
          ap (λ (m : ℕ). kept_at (ps ++ x ∷ []) m) (sym is.size)
          ∙ ap (λ (o : Option (Option Pending)). o >>= λ p. p) (get_end ps x) in
          subst (λ (m : ℕ). IsKept setup (log ++ e ∷ []) m (kept_at (ps ++ x ∷ []) m)) last
          (subst (λ (o : Option Pending). IsKept setup (log ++ e ∷ []) (length log) o) (sym at) is.new)
    ]
  ];
}
