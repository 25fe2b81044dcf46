-- What is in hand, once one more is taken in or one is given out.
use Rattle.std.proofs.Common.{◌≡◌, ℕ, List, [], ◌∷◌, ◌++◌, Bool, true, false, cond, Option, Some, None}
use Rattle.std.proofs.Common.{refl, sym, ap, subst, ◌∙◌, set, length, eq-eqb, eqb-true}
use Rattle.std.specs.Prelude.{slice_get, nat_eq}
use Rattle.std.proofs.lemmas.Option.{same_Some}
use Rattle.dist_types.specs.Addr.{◌>>=◌}
use Rattle.core_rules.specs.Ticket.{Ticket}
use Rattle.core_rules.proofs.AllLemmas.{true_false}
use Rattle.row_index.specs.Lookup.{value_at, Puts, HaveSame}
use Rattle.quota.proofs.ListLemmas.{got_front, got_end, got_apart}
use Rattle.quota_run.specs.Hand.{held_at, found_at, IsFound, AreFound}

-- ---- the same values

pub same_found : (old new : List (ℕ × ℕ)) (held : List (Option Ticket)) (job : ℕ) → HaveSame nat_eq old new
    → found_at new held job ≡ found_at old held job
same_found old new held job same = ap (λ o. o >>= held_at held) (same job)

pub same_are : (old new : List (ℕ × ℕ)) (held : List (Option Ticket)) → HaveSame nat_eq old new
    → AreFound old held → AreFound new held
same_are old new held same are job = subst (IsFound held job) (sym (same job)) (are job)

-- ---- one more

found_front : (held : List (Option Ticket)) (x : Option Ticket) (job : ℕ) (o : Option ℕ) → IsFound held job o
    → (o >>= held_at (held ++ x ∷ [])) ≡ (o >>= held_at held)
found_front held x job None is = refl
found_front held x job (Some place) is =
    ap (λ s. s >>= λ o. o) (got_front held (x ∷ []) place (Some is.0) is.1 ∙ sym is.1)

still_found : (held : List (Option Ticket)) (x : Option Ticket) (job : ℕ) (o : Option ℕ) → IsFound held job o
    → IsFound (held ++ x ∷ []) job o
still_found held x job None is = tt
still_found held x job (Some place) is = (is.0, got_front held (x ∷ []) place (Some is.0) is.1, is.2)

pub added : (old new : List (ℕ × ℕ)) (held : List (Option Ticket)) (t : Ticket) (job : ℕ) → AreFound old held
    → Puts nat_eq t.job.0 (Some (length held)) old new
    → found_at new (held ++ Some t ∷ []) job ≡ cond (nat_eq t.job.0 job) (Some t) (found_at old held job)
added old new held t job are puts =
    ap (λ o. o >>= held_at (held ++ Some t ∷ [])) (puts job)
    ∙ elim (nat_eq t.job.0 job) as (λ v. (cond v (Some (length held)) (value_at nat_eq job old)
    >>= held_at (held ++ Some t ∷ [])) ≡ cond v (Some t) (found_at old held job)) [
      | true ↦ ap (λ s. s >>= λ o. o) (got_end held (Some t))
      | false ↦ found_front held (Some t) job (value_at nat_eq job old) (are job)
    ]

pub added_are : (old new : List (ℕ × ℕ)) (held : List (Option Ticket)) (t : Ticket) → AreFound old held
    → Puts nat_eq t.job.0 (Some (length held)) old new → AreFound new (held ++ Some t ∷ [])
added_are old new held t are puts job = subst (IsFound (held ++ Some t ∷ []) job) (sym (puts job))
    (by (nat_eq t.job.0 job) refl)
  where
    by : (v : Bool) → nat_eq t.job.0 job ≡ v
        → IsFound (held ++ Some t ∷ []) job (cond v (Some (length held)) (value_at nat_eq job old))
    by true own = (t, got_end held (Some t), eqb-true t.job.0 job own)
    by false apart = still_found held (Some t) job (value_at nat_eq job old) (are job)

-- ---- one less

-- reservations of different jobs are in different places
apart_by : (held : List (Option Ticket)) (place other : ℕ) (t u : Ticket) (job key : ℕ)
    → slice_get held place ≡ Some (Some t) → t.job.0 ≡ job → slice_get held other ≡ Some (Some u) → u.job.0 ≡ key
    → nat_eq job key ≡ false → place ≡ other → ⊥
apart_by held place other t u job key at is there was apart same =
    let one : Some (Some t) ≡ Some (Some u) = sym at ∙ ap (slice_get held) same ∙ there in
    let two : t ≡ u = same_Some t u (same_Some (Some t) (Some u) one) in
    let jobs : job ≡ key = sym is ∙ ap (λ (x : Ticket). x.job.0) two ∙ was in
    true_false (nat_eq job key) (eq-eqb job key jobs) apart

found_left : (held : List (Option Ticket)) (place job key : ℕ) (o : Option ℕ) → IsFound held job (Some place)
    → nat_eq job key ≡ false → IsFound held key o → (o >>= held_at (set held place None)) ≡ (o >>= held_at held)
found_left held place job key None is apart was = refl
found_left held place job key (Some other) is apart was = ap (λ s. s >>= λ o. o)
    (got_apart held place other None (apart_by held place other is.0 was.0 job key is.1 is.2 was.1 was.2 apart))

still_left : (held : List (Option Ticket)) (place job key : ℕ) (o : Option ℕ) → IsFound held job (Some place)
    → nat_eq job key ≡ false → IsFound held key o → IsFound (set held place None) key o
still_left held place job key None is apart was = tt
still_left held place job key (Some other) is apart was = (
  was.0,
  got_apart held place other None (apart_by held place other is.0 was.0 job key is.1 is.2 was.1 was.2 apart) ∙ was.1,
  was.2,
)

pub taken_left : (old new : List (ℕ × ℕ)) (held : List (Option Ticket)) (job place key : ℕ) → AreFound old held
    → value_at nat_eq job old ≡ Some place → Puts nat_eq job None old new
    → found_at new (set held place None) key ≡ cond (nat_eq job key) None (found_at old held key)
taken_left old new held job place key are at puts =
    ap (λ o. o >>= held_at (set held place None)) (puts key) ∙ by (nat_eq job key) refl
  where
    by : (v : Bool) → nat_eq job key ≡ v → (cond v None (value_at nat_eq key old) >>= held_at (set held place None))
        ≡ cond v None (found_at old held key)
    by true own = refl
    by false apart = found_left held place job key (value_at nat_eq key old) (subst (IsFound held job) at (are job))
        apart (are key)

pub taken_are : (old new : List (ℕ × ℕ)) (held : List (Option Ticket)) (job place : ℕ) → AreFound old held
    → value_at nat_eq job old ≡ Some place → Puts nat_eq job None old new → AreFound new (set held place None)
taken_are old new held job place are at puts key = subst (IsFound (set held place None) key) (sym (puts key))
    (by (nat_eq job key) refl)
  where
    by : (v : Bool) → nat_eq job key ≡ v → IsFound (set held place None) key (cond v None (value_at nat_eq key old))
    by true own = tt
    by false apart = still_left held place job key (value_at nat_eq key old) (subst (IsFound held job) at (are job))
        apart (are key)

pub none_left : (places : List (ℕ × ℕ)) (held : List (Option Ticket)) (job key : ℕ) → value_at nat_eq job places ≡ None
    → found_at places held key ≡ cond (nat_eq job key) None (found_at places held key)
none_left places held job key none = by (nat_eq job key) refl
  where
    by : (v : Bool) → nat_eq job key ≡ v → found_at places held key ≡ cond v None (found_at places held key)
    by true own = ap (found_at places held) (sym (eqb-true job key own)) ∙ ap (λ o. o >>= held_at held) none
    by false apart = refl
