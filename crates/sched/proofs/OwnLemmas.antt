-- What is spent at an own place stays spent by oneself as the log grows.
use Rattle.std.proofs.Common.{◌≡◌, ℕ, ◌+◌, ◌<◌, ◌^◌, List, [], ◌∷◌, ◌++◌, length, true, false, cond, Some}
use Rattle.std.proofs.Common.{refl, sym, ap, ◌∙◌, subst, arith, length-append}
use Rattle.std.specs.Prelude.{slice_get, nat_le}
use mathlib.Core.Logic.{dite}
use native.Mathlib.Decide.{dec_le}
use Rattle.core_rules.specs.declared.entry.CoreEntry.{CoreEntry}
use Rattle.core_rules.specs.Reservation.{spends_by}
use Rattle.core_rules.specs.declared.start.Start.{Start}
use Rattle.core_rules.specs.Laws.{IsLegal, Reserves}
use Rattle.sched.specs.Lists.{Has, total, only, times, merged, put_in}
use Rattle.sched.specs.Rule.{IsSpentAt, SpendsOwn, IsOwnSpending}
use Rattle.sched.proofs.PrefixLemmas.{prefix_got, prefix_more, got_below, got_last}
use Rattle.core_rules.proofs.ReserveLemmas.{one_reserve}
use Rattle.sched.proofs.SumLemmas.{times_last, only_same, only_other}

some_same : {A : Type 0} (x y : A) → Some x ≡ Some y → x ≡ y
some_same x y e = cc e

-- what the longer log spends before its last entry, the log spends
spent_before : (log : List CoreEntry) (e : CoreEntry) (q p : ℕ) → p < length log
    → IsSpentAt (log ++ e ∷ []) q p → IsSpentAt log q p
spent_before log e q p l at =
    let more = prefix_more log (e ∷ []) in
    let later = at.later in
    record {
      job = at.job;
      later = at.later;
      reserved = (
        at.reserved.0,
        prefix_got log (log ++ e ∷ []) q at.reserved.0 more
            (omega arith) at.reserved.1,
        at.reserved.2,
      );
      spent = (at.spent.0, prefix_got log (log ++ e ∷ []) p at.spent.0 more l at.spent.1, at.spent.2);
    }

within : (log : List CoreEntry) (e : CoreEntry) (q p : ℕ) → IsSpentAt (log ++ e ∷ []) q p
    → p < length log + 1
within log e q p at =
    omega (arith, got_below (log ++ e ∷ []) p at.spent.0 at.spent.1, length-append log (e ∷ []))

-- one's own entry
pub own_grown : (log : List CoreEntry) (e : CoreEntry) (own : List ℕ) → SpendsOwn log own
    → SpendsOwn (log ++ e ∷ []) (own ++ length log ∷ [])
own_grown log e own before q p at has =
    let later = at.later in
    let in_log = within log e q p at in
    dite (dec_le (length log) p)
    (λ le. omega (arith, times_last p (length log) own, only_same p (length log) (omega arith)))
    (λ lt. let old = before q p (spent_before log e q p (omega arith) at)
    (omega (arith, has, times_last q (length log) own, only_other q (length log) (λ same. omega arith)))
    in
    omega (arith, old, times_last p (length log) own))

-- another's entry, which spends a reservation of theirs
pub own_kept : (start : Start) (log : List CoreEntry) (e : CoreEntry) (own theirs : List ℕ)
    → start.count < 2 ^ 64 → IsLegal start log → SpendsOwn log own → IsOwnSpending log theirs e
    → ((k : ℕ) → Has k theirs → Has k own → ⊥) → ((k : ℕ) → Has k own → k < length log)
    → SpendsOwn (log ++ e ∷ []) own
own_kept start log e own theirs counts legal before spends apart low q p at has =
    let in_log = within log e q p at in
    dite (dec_le (length log) p)
    (λ le.
    let last : p ≡ length log = omega arith in
    let is : at.spent.0 ≡ e =
    some_same at.spent.0 e (sym at.spent.1 ∙ ap (λ k. slice_get (log ++ e ∷ []) k) last
    ∙ got_last log e) in
    let mine = spends at.job (ap (λ x. spends_by x.kind at.job) (sym is) ∙ at.spent.2) in
    let reserved : Reserves log q at.job = (
      at.reserved.0,
      prefix_got log (log ++ e ∷ []) q at.reserved.0 (prefix_more log (e ∷ []))
          (low q has) at.reserved.1,
      at.reserved.2,
    ) in
    let same : mine.0 ≡ q = one_reserve start log at.job mine.0 q counts legal mine.2 reserved in
    absurd (apart q (subst (λ k. Has k theirs) same mine.1) has))
    (λ lt. before q p (spent_before log e q p (omega arith) at) has)

-- two lists as one

pub total-put_in : (f : ℕ → ℕ) (n : ℕ) (xs : List ℕ) → total f (put_in n xs) ≡ f n + total f xs
total-put_in f n [] = refl
total-put_in f n (m ∷ ms) =
    elim (nat_le n m) as (λ b. total f (cond b (n ∷ m ∷ ms) (m ∷ put_in n ms)) ≡ f n + (f m + total f ms))
    [ true ↦ refl | false ↦ omega (arith, total-put_in f n ms) ]

pub total-merged : (f : ℕ → ℕ) (xs ys : List ℕ) → total f (merged xs ys) ≡ total f xs + total f ys
total-merged f [] ys = omega arith
total-merged f (x ∷ xs) ys = omega (arith, total-put_in f x (merged xs ys), total-merged f xs ys)

pub own_joined : (log : List CoreEntry) (xs ys : List ℕ) → SpendsOwn log xs → SpendsOwn log ys
    → SpendsOwn log (merged xs ys)
own_joined log xs ys one other q p at has =
    dite (dec_le (times q xs) 0)
    (λ le. omega (
      arith,
      other q p at (omega (arith, has, total-merged (only q) xs ys)),
      total-merged (only p) xs ys,
    ))
    (λ lt. omega (arith, one q p at (omega arith), total-merged (only p) xs ys))
