-- A run of calls, one call more.
use Rattle.std.proofs.Common.{◌≡◌, ℕ, ◌+◌, ◌<◌, ◌≤◌, List, [], ◌∷◌, ◌++◌, length, take, drop, get_or, refl, sym, ap, subst}
use Rattle.std.proofs.Common.{◌∙◌, Result, Ok, Err}
use Rattle.std.specs.Prelude.{OnErr}
use Rattle.std.proofs.lemmas.List.{take_more, take_all, take-append-drop}
use Rattle.quota.specs.Calls.{outcome, after_all, answers_of}
use Rattle.quota.specs.Quota.{Quota}
use Rattle.quota.specs.declared.call.QuotaAnswer.{QuotaAnswer}
use Rattle.quota.specs.declared.call.QuotaCall.{QuotaCall}
use Rattle.quota_run.specs.Run.{IsMade, AreMade, AreBegun}

after_push : (q : Quota) (xs : List QuotaCall) (x : QuotaCall)
    → after_all q (xs ++ x ∷ []) ≡ (outcome (after_all q xs) x).left
after_push q [] x = refl
after_push q (y ∷ ys) x = after_push (outcome q y).left ys x

answers_push : (q : Quota) (xs : List QuotaCall) (x : QuotaCall)
    → answers_of q (xs ++ x ∷ []) ≡ answers_of q xs ++ (outcome (after_all q xs) x).told ∷ []
answers_push q [] x = refl
answers_push q (y ∷ ys) x = ap (λ l. (outcome q y).told ∷ l) (answers_push (outcome q y).left ys x)

pub none_made : (q : Quota) (calls : List QuotaCall) → AreMade q (take 0 calls) q []
none_made q calls = record { left = refl; told = refl }

-- one call more was made
made_push : (q now new : Quota) (xs : List QuotaCall) (x : QuotaCall) (answers : List QuotaAnswer) (a : QuotaAnswer)
    → AreMade q xs now answers → IsMade now x new a → AreMade q (xs ++ x ∷ []) new (answers ++ a ∷ [])
made_push q now new xs x answers a so made = record {
  left = made.left ∙ ap (λ s. (outcome s x).left) so.left ∙ sym (after_push q xs x);
  told = ap (λ l. l ++ a ∷ []) so.told
      ∙ ap (λ b. answers_of q xs ++ b ∷ []) (made.told ∙ ap (λ s. (outcome s x).told) so.left)
      ∙ sym (answers_push q xs x);
}

taken : (calls : List QuotaCall) (i : ℕ) (x : QuotaCall) → i < length calls → x ≡ get_or calls i x
    → take (i + 1) calls ≡ take i calls ++ x ∷ []
taken calls i x below is = take_more calls i x below ∙ ap (λ (y : QuotaCall). take i calls ++ y ∷ []) (sym is)

pub one_more : (q now new : Quota) (calls : List QuotaCall) (i : ℕ) (x : QuotaCall) (answers pushed : List QuotaAnswer)
    (a : QuotaAnswer) → i < length calls → x ≡ get_or calls i x → AreMade q (take i calls) now answers
    → IsMade now x new a → pushed ≡ answers ++ a ∷ [] → AreMade q (take (i + 1) calls) new pushed
one_more q now new calls i x answers pushed a below is so made push =
    subst (AreMade q (take (i + 1) calls) new) (sym push)
    (subst (λ xs. AreMade q xs new (answers ++ a ∷ [])) (sym (taken calls i x below is))
    (made_push q now new (take i calls) x answers a so made))

pub all_made : (q now : Quota) (calls : List QuotaCall) (i : ℕ) (answers : List QuotaAnswer) → length calls ≤ i
    → AreMade q (take i calls) now answers → AreMade q calls now answers
all_made q now calls i answers past so = subst (λ xs. AreMade q xs now answers) (take_all i calls past) so

-- memory ran out behind the first calls
pub begun : (q now : Quota) (calls : List QuotaCall) (i : ℕ) (answers : List QuotaAnswer)
    → AreMade q (take i calls) now answers → AreBegun q calls now
begun q now calls i answers so = record {
  done = take i calls;
  rest = drop i calls;
  all = sym (take-append-drop i calls);
  left = so.left;
}

pub on_err : {A E : Type 0} (r : Result A E) (X : Type 0) → X → OnErr r X
on_err (Ok a) X x = tt
on_err (Err e) X x = x
