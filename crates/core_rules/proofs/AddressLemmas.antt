-- In each legal log an address has at most one registration that stands.
use Rattle.std.proofs.Common.{◌≡◌, ◌≢◌, ℕ, List, [], ◌∷◌, ◌++◌, Bool, true, false, cond, not, ◌||◌, map}
use Rattle.std.proofs.Common.{filter, length, Option, Some, None, refl, ap, ◌∙◌, sym, subst, append-nil}
use Rattle.std.proofs.Common.{eq-eqb, eqb-true}
use Rattle.std.specs.Prelude.{◌==◌, option_to_list, if◌then◌else◌, nat_eq}
use Rattle.std.specs.List.{AllByRecursion, list_any}
use Rattle.std.specs.Option.{option_map}
use Rattle.std.specs.Cmp.Lexicographic.{pointwise, same_text}
use Rattle.std.proofs.lemmas.Bool.{false≢true}
use Rattle.std.proofs.lemmas.Cmp.{nat_list_eq_equiv}
use Rattle.std.proofs.lemmas.List.{map-append}
use Rattle.dist_types.specs.declared.addr.Addr.{Addr}
use Rattle.dist_types.specs.declared.addr.Addr.TheVariants.{V4, V6}
use Rattle.dist_types.specs.Addr.{same_addr}
use Rattle.core_rules.specs.declared.start.Start.{Start}
use Rattle.core_rules.proofs.Lists.{map-map, map-same, end_cut}
use Rattle.core_rules.specs.declared.entry.CoreEntry.{CoreEntry}
use Rattle.core_rules.specs.declared.entry.CoreKind.{CoreKind}
use Rattle.core_rules.specs.declared.entry.CoreKind.TheVariants.{Beat, Reserve, Commit, Undo, Update}
use Rattle.core_rules.specs.declared.entry.CoreKind.TheVariants.{Status, Drain}
use Rattle.core_rules.specs.declared.rows.ServerRow.{ServerRow}
use Rattle.core_rules.specs.Log.{names, is_this}
use Rattle.core_rules.specs.Standing.{Registered, registered_by, registered_at, standing, ends_by}
use Rattle.core_rules.specs.Rows.{row_of, servers_of}
use Rattle.core_rules.specs.Prune.{prune, left, is_expired, at_address}
use Rattle.core_rules.specs.Rule.{replaced_by, says_new}
use Rattle.core_rules.specs.Laws.{IsRule, IsLegal, AreDifferent}
use Rattle.core_rules.proofs.LegalLemmas.{core_of, legal_has}
use Rattle.core_rules.proofs.Lists.{list_any-map}
use Rattle.core_rules.proofs.StandingLemmas.{standing-push}
use Rattle.core_rules.proofs.AllLemmas.{both, and_left, and_right, or_left, or_right, or_true, not_true}
use Rattle.core_rules.proofs.AllLemmas.{not_false, true_false, is_false, all-weaker, all-both, all-filter}
use Rattle.core_rules.proofs.AllLemmas.{all-map, all-unmap}
use Rattle.core_rules.proofs.RisingLemmas.{different-filter, different-push}
use Rattle.core_rules.proofs.FactLemmas.{Facts, facts}

-- the test on addresses is equality

pub same_is : (a b : Addr) → same_addr a b ≡ true → a ≡ b
same_is (V4 a p) (V4 b q) e =
    let ip : a ≡ b = same_text a b (sym (and_left (pointwise nat_eq a b) (p == q) e)) in
    let port : p ≡ q = eqb-true p q (and_right (pointwise nat_eq a b) (p == q) e) in
    cc
same_is (V6 a p) (V6 b q) e =
    let ip : a ≡ b = same_text a b (sym (and_left (pointwise nat_eq a b) (p == q) e)) in
    let port : p ≡ q = eqb-true p q (and_right (pointwise nat_eq a b) (p == q) e) in
    cc
same_is (V4 a p) (V6 b q) e = absurd (false≢true e)
same_is (V6 a p) (V4 b q) e = absurd (false≢true e)

pub same_self : (a : Addr) → same_addr a a ≡ true
same_self (V4 a p) = both (pointwise nat_eq a a) (p == p) (nat_list_eq_equiv.refl a) (eq-eqb p p refl)
same_self (V6 a p) = both (pointwise nat_eq a a) (p == p) (nat_list_eq_equiv.refl a) (eq-eqb p p refl)

-- what passes the filter is there by its number
kept_there : (p : ServerRow → Bool) (rows : List ServerRow)
    → AllByRecursion (λ r. p r ≡ true → list_any (λ q. q.reg == r.reg) (filter p rows) ≡ true) rows
kept_there p [] = tt
kept_there p (x ∷ rows) = (
  head (p x),
  all-weaker (λ r. p r ≡ true → list_any (λ q. q.reg == r.reg) (filter p rows) ≡ true)
      (λ r. p r ≡ true → list_any (λ q. q.reg == r.reg) (filter p (x ∷ rows)) ≡ true)
      (λ r h t. more (p x) r (h t)) rows (kept_there p rows),
)
  where
    head : (b : Bool) → b ≡ true → list_any (λ q. q.reg == x.reg) (cond b (x ∷ filter p rows) (filter p rows))
        ≡ true
    head true t = ap (λ c. c || list_any (λ q. q.reg == x.reg) (filter p rows)) (eq-eqb x.reg x.reg refl)
    head false t = absurd (false≢true t)

    more : (b : Bool) (r : ServerRow) → list_any (λ q. q.reg == r.reg) (filter p rows) ≡ true
        → list_any (λ q. q.reg == r.reg) (cond b (x ∷ filter p rows) (filter p rows)) ≡ true
    more true r t = or_true (x.reg == r.reg) (list_any (λ q. q.reg == r.reg) (filter p rows)) t
    more false r t = t

-- among different addresses, the one at an address that passes the filter is found
found_only : (server : Addr) (p : ServerRow → Bool) (rows : List ServerRow)
    → AreDifferent (map (λ r. r.server) rows)
    → AllByRecursion (λ r. p r ≡ true → server ≡ r.server → at_address server (filter p rows) ≡ Some r) rows
found_only server p [] apart = tt
found_only server p (x ∷ rows) apart = (
  head (p x),
  all-both (λ r. r.server ≢ x.server) (λ r. p r ≡ true → server ≡ r.server
      → at_address server (filter p rows) ≡ Some r) (λ r. p r ≡ true → server ≡ r.server
      → at_address server (filter p (x ∷ rows)) ≡ Some r)
      (λ r other h t e. more (p x) r other e (h t e)) rows
      (all-unmap (λ a. a ≢ x.server) (λ r. r.server) rows apart.0) (found_only server p rows apart.1),
)
  where
    head : (b : Bool) → b ≡ true → server ≡ x.server
        → at_address server (cond b (x ∷ filter p rows) (filter p rows)) ≡ Some x
    head true t e = ap (λ c. cond c (Some x) (at_address server (filter p rows)))
        (subst (λ a. same_addr x.server a ≡ true) (sym e) (same_self x.server))
    head false t e = absurd (false≢true t)

    more : (b : Bool) (r : ServerRow) → r.server ≢ x.server → server ≡ r.server
        → at_address server (filter p rows) ≡ Some r
        → at_address server (cond b (x ∷ filter p rows) (filter p rows)) ≡ Some r
    more true r other e found = ap (λ c. cond c (Some x) (at_address server (filter p rows)))
        (is_false (same_addr x.server server) (λ t. other (sym e ∙ sym (same_is x.server server t)))) ∙ found
    more false r other e found = found

-- a heartbeat that says new leaves no registration at its address
vacated : (now nonce : ℕ) (server : Addr) (rows : List ServerRow) (pruned : List ℕ) (replaced : Option ℕ)
    → AreDifferent (map (λ r. r.server) rows) → pruned ≡ prune now rows
    → replaced ≡ replaced_by nonce (at_address server (left now rows)) →
    says_new nonce (at_address server (left now rows)) ≡ true
    → AllByRecursion (λ r. not (names pruned r.reg || is_this replaced r.reg) ≡ true → server ≢ r.server)
    rows
vacated now nonce server rows pruned replaced apart is_pruned is_replaced says =
    all-both (λ r. is_expired now r ≡ true → list_any (λ q. q.reg == r.reg) (filter (is_expired now) rows)
    ≡ true) (λ r. not (is_expired now r) ≡ true → server ≡ r.server
    → at_address server (left now rows) ≡ Some r)
    (λ r. not (names pruned r.reg || is_this replaced r.reg) ≡ true → server ≢ r.server)
    (λ r gone here stays e.
    let neither : (names pruned r.reg || is_this replaced r.reg) ≡ false =
    not_true (names pruned r.reg || is_this replaced r.reg) stays in
    let young : is_expired now r ≡ false = is_false (is_expired now r)
    (λ t. true_false (names pruned r.reg) (ap (λ l. names l r.reg) is_pruned
    ∙ list_any-map (λ n. n == r.reg) (λ q. q.reg) (filter (is_expired now) rows) ∙ gone t)
    (or_left (names pruned r.reg) (is_this replaced r.reg) neither)) in
    let there : at_address server (left now rows) ≡ Some r = here (not_false (is_expired now r) young) e in
    let other : (r.nonce == nonce) ≡ false = not_true (r.nonce == nonce)
    (sym (ap (says_new nonce) there) ∙ says) in
    let named : replaced ≡ Some r.reg = is_replaced ∙ ap (replaced_by nonce) there
    ∙ ap (λ b. if b then None else Some r.reg) other in
    true_false (is_this replaced r.reg) (ap (λ o. is_this o r.reg) named ∙ eq-eqb r.reg r.reg refl)
    (or_right (names pruned r.reg) (is_this replaced r.reg) neither)) rows
    (kept_there (is_expired now) rows) (found_only server (λ r. not (is_expired now r)) rows apart)

-- a registration that stands, with its address
abbrev view : Registered → ℕ × Addr
view g = (g.reg, g.server)

abbrev addresses : List CoreEntry → List (ℕ × Addr)
addresses log = map view (standing log)

abbrev address_stays : CoreEntry → ℕ × Addr → Bool
address_stays e p = not (ends_by e.kind p.0)

addresses-push : (log : List CoreEntry) (e : CoreEntry) → addresses (log ++ e ∷ []) ≡ filter (address_stays e)
    (addresses log) ++ option_to_list (option_map view (registered_at (end_cut log e)))
addresses-push log e =
    standing-push view (λ l d p. p) address_stays (λ d g. refl) (λ l d g whole up. refl) log e
    ∙ ap (λ ps. ps ++ option_to_list (option_map view (registered_at (end_cut log e))))
    (map-same (λ p. p) (λ p. refl) (filter (address_stays e) (addresses log)))

abbrev AreApart : List (ℕ × Addr) → Type 0
AreApart ps = AreDifferent (map (λ p. p.1) ps)

-- the addresses after an entry of this kind
apart_after : (start : Start) (log : List CoreEntry) (now : ℕ) (k : CoreKind) (at : CoreEntry)
    → Facts (core_of start log) k → AreDifferent (map (λ r. r.server) (servers_of log))
    → (ps : List (ℕ × Addr)) → AreApart ps →
    ((server : Addr) → AllByRecursion (λ r. not (ends_by k r.reg) ≡ true → server ≢ r.server) (servers_of log)
    → AllByRecursion (λ p. server ≢ p.1) ps)
    → AreApart (ps ++ option_to_list (option_map view (registered_by k now log at [])))
apart_after start log now (Beat server nonce cpus key pruned reaped replaced true) at is apart ps old
    away =
    subst AreDifferent (sym (map-append (λ p. p.1) ps ((length log, server) ∷ [])))
    (different-push (map (λ p. p.1) ps) server old
    (all-map (λ a. server ≢ a) (λ p. p.1) ps
    (away server (vacated is.now nonce server (servers_of log) pruned replaced apart is.pruned_are
    is.replaced_is (sym is.says)))))
apart_after start log now (Beat server nonce cpus key pruned reaped replaced false) at is apart ps old
    away = subst AreApart (sym (append-nil ps)) old
apart_after start log now (Reserve r) at is apart ps old away = subst AreApart (sym (append-nil ps)) old
apart_after start log now (Commit job state kept) at is apart ps old away =
    subst AreApart (sym (append-nil ps)) old
apart_after start log now (Undo job noted was_ended) at is apart ps old away =
    subst AreApart (sym (append-nil ps)) old
apart_after start log now (Update server job state answer) at is apart ps old away =
    subst AreApart (sym (append-nil ps)) old
apart_after start log now (Status pruned servers cpus n) at is apart ps old away =
    subst AreApart (sym (append-nil ps)) old
apart_after start log now (Drain addr nonce on named) at is apart ps old away =
    subst AreApart (sym (append-nil ps)) old

apart-step : (start : Start) (log : List CoreEntry) (e : CoreEntry) → AreApart (addresses log)
    → IsRule (core_of start log) e → AreApart (addresses (log ++ e ∷ []))
apart-step start log e old rule_is =
    subst AreApart (sym (addresses-push log e))
    (apart_after start log e.now e.kind e (facts (core_of start log) e rule_is)
    (subst AreDifferent (map-map (λ p. p.1) view (standing log)
    ∙ sym (map-map (λ r. r.server) (row_of log) (standing log))) old)
    (filter (address_stays e) (addresses log))
    (different-filter (λ p. p.1) (address_stays e) (addresses log) old)
    (λ server away. all-filter (λ p. not (ends_by e.kind p.0) ≡ true → server ≢ p.1) (λ p. server ≢ p.1)
    (address_stays e) (λ p h t. h t) (addresses log)
    (all-map (λ p. not (ends_by e.kind p.0) ≡ true → server ≢ p.1) view (standing log)
    (all-unmap (λ r. not (ends_by e.kind r.reg) ≡ true → server ≢ r.server) (row_of log)
    (standing log) away))))

pub legal_apart : (start : Start) (log : List CoreEntry) → IsLegal start log
    → AreDifferent (map (λ g. g.server) (standing log))
legal_apart start log legal = subst AreDifferent (map-map (λ p. p.1) view (standing log))
    (legal_has start (λ l. AreApart (addresses l)) tt (apart-step start) log legal)
