-- Which calls wait after one more entry.
use Rattle.std.proofs.Common.{◌≡◌, ℕ, zero, suc, ◌+◌, ◌<◌, ◌≤◌, Bool, true, false, cond, ◌||◌, List, [], ◌∷◌}
use Rattle.std.proofs.Common.{◌++◌, length, map, Option, Some, None, refl, ap, ◌∙◌, arith}
use Rattle.std.specs.Prelude.{slice_get}
use Rattle.std.specs.List.{list_any}
use Rattle.std.proofs.lemmas.Bool.{ltb-true}
use Rattle.std.proofs.lemmas.List.{length-append}
use Rattle.dist_types.specs.Addr.{◌>>=◌}
use Rattle.core_rules.specs.Cuts.{Cut, cuts, cuts_behind}
use Rattle.core_rules.proofs.Lists.{list_any-push, followed, cuts_behind-push, end_cut}
use Rattle.core_rules.proofs.AllLemmas.{is_false}
use Rattle.core_rules.proofs.Lists.{list_any-map}
use Rattle.farm_entries.specs.declared.entry.Entry.{Entry}
use Rattle.farm_entries.specs.declared.entry.OutCall.{OutCall}
use Rattle.farm_entries.specs.Calls.{settled_at, is_settled, waiting_at}

-- ---- places

pub get_left : {X : Type 0} (xs ys : List X) (i : ℕ) → i < length xs → slice_get (xs ++ ys) i ≡ slice_get xs i
get_left [] ys i h = absurd (omega arith)
get_left (x ∷ xs) ys zero h = refl
get_left (x ∷ xs) ys (suc i) h = get_left xs ys i (omega arith)

pub get_end : {X : Type 0} (xs : List X) (x : X) → slice_get (xs ++ x ∷ []) (length xs) ≡ Some x
get_end [] x = refl
get_end (y ∷ ys) x = get_end ys x

-- ---- settlements

pub settled-push : (log : List Entry) (e : Entry) (n : ℕ) → is_settled (log ++ e ∷ []) n ≡
    (is_settled log n || settled_at n (end_cut log e))
settled-push log e n =
    ap (list_any (settled_at n)) (cuts_behind-push [] log e)
    ∙ list_any-push (settled_at n) (map (followed e) (cuts log)) (end_cut log e)
    ∙ ap (λ (b : Bool). b || settled_at n (end_cut log e))
    (list_any-map (settled_at n) (followed e) (cuts log))

-- no entry is later than that
early : (n : ℕ) (c : Cut Entry) → length c.before ≤ n → settled_at n c ≡ false
early n c h = is_false (settled_at n c)
    (λ on. absurd (omega (arith, ltb-true n (length c.before) (grind (arith)))))

none_later : (n : ℕ) (front xs : List Entry) → length front + length xs ≤ n + 1
    → list_any (settled_at n) (cuts_behind front xs) ≡ false
none_later n front [] h = refl
none_later n front (x ∷ xs) h =
    ap (λ (b : Bool). b || list_any (settled_at n) (cuts_behind (front ++ x ∷ []) xs))
    (early n (record { before = front; at = x; after = xs }) (omega arith))
    ∙ none_later n (front ++ x ∷ []) xs (omega (arith, length-append front (x ∷ [])))

pub unsettled_last : (log : List Entry) (n : ℕ) → length log ≤ n + 1 → is_settled log n ≡ false
unsettled_last log n h = none_later n [] log (omega arith)

-- ---- calls that wait

by_call : (x : Entry) (call : Option OutCall) (s t : Bool)
    → (call >>= λ c. cond (s || t) None (Some x)) ≡ cond t None (call >>= λ c. cond s None (Some x))
by_call x None s true = refl
by_call x None s false = refl
by_call x (Some c) true true = refl
by_call x (Some c) true false = refl
by_call x (Some c) false true = refl
by_call x (Some c) false false = refl

by_entry : (o : Option Entry) (s t : Bool) → (o >>= λ x. x.call >>= λ c. cond (s || t) None (Some x)) ≡ cond t
    None (o >>= λ x. x.call >>= λ c. cond s None (Some x))
by_entry None s true = refl
by_entry None s false = refl
by_entry (Some x) s t = by_call x x.call s t

-- a call that was made before waits on, unless the entry settles it
pub waiting-push : (log : List Entry) (e : Entry) (n : ℕ) → n < length log
    → waiting_at (log ++ e ∷ []) n ≡ cond (settled_at n (end_cut log e)) None (waiting_at log n)
waiting-push log e n h =
    ap (λ (o : Option Entry). o >>= λ x. x.call >>= λ c. cond (is_settled (log ++ e ∷ []) n) None (Some x))
    (get_left log (e ∷ []) n h)
    ∙ ap (λ (b : Bool). slice_get log n >>= λ x. x.call >>= λ c. cond b None (Some x)) (settled-push log e n)
    ∙ by_entry (slice_get log n) (is_settled log n) (settled_at n (end_cut log e))

-- a call that the entry makes waits
pub waiting-end : (log : List Entry) (e : Entry) → waiting_at (log ++ e ∷ []) (length log) ≡
    (e.call >>= λ c. Some e)
waiting-end log e =
    ap (λ (o : Option Entry). o >>= λ x. x.call >>= λ c. cond (is_settled (log ++ e ∷ []) (length log)) None
    (Some x)) (get_end log e)
    ∙ ap (λ (b : Bool). e.call >>= λ c. cond b None (Some e))
    (unsettled_last (log ++ e ∷ []) (length log) (omega (arith, length-append log (e ∷ []))))
