-- A share that is added, and the reservation that is counted there.
use Rattle.std.proofs.Common.{◌≡◌, ℕ, zero, suc, ◌+◌, ◌<◌, ◌≤◌, ◌^◌, List, [], ◌∷◌, ◌++◌, Bool, true, false}
use Rattle.std.proofs.Common.{not, ◌&&◌}
use Rattle.std.proofs.Common.{set, length, get_or, Option, Some, None, refl, ap, ◌∙◌, sym, subst, arith}
use Rattle.std.proofs.Common.{length-append, replicate}
use Rattle.std.specs.Prelude.{slice_get, ◌==◌, if◌then◌else◌, nat_eq}
use Rattle.std.proofs.lemmas.Bool.{eq-eqb, eqb-true, and_parts}
use Rattle.std.proofs.lemmas.List.{length-map, map-append}
use Rattle.std.proofs.lemmas.List.Sums.{count_by-le-length}
use Rattle.core_rules.proofs.AllLemmas.{true_false, not_true}
use Rattle.quota.specs.Holdings.{owned_by, owned_in, owned_of, share_raised, share_new}
use Rattle.quota.specs.Holdings.{count_in}
use Rattle.quota.specs.Holdings.{AreCounted, AreKept, AreNewest, AreLinked, IsNewest, IsGrown, regs_of}
use Rattle.quota.specs.Holdings.{new_shares}
use Rattle.quota.specs.Holdings.{is_of}
use Rattle.quota.specs.declared.rows.OwnedRow.{OwnedRow}
use Rattle.quota.specs.declared.rows.Share.{Share}
use Rattle.quota.proofs.ListLemmas.{got_front, got_end, got_pushed, got_before, got_within, got_some, got_or}
use Rattle.quota.proofs.ListLemmas.{got_once}
use Rattle.quota.proofs.AddLemmas.{owned_raised, owned_more, counted_raised, counted_grown}

flipped : (a b : ℕ) → (a == b) ≡ false → (b == a) ≡ false
flipped a b apart = by (b == a) refl
  where
    by : (t : Bool) → (b == a) ≡ t → (b == a) ≡ false
    by true e = absurd (true_false (a == b) (eq-eqb a b (sym (eqb-true b a e))) apart)
    by false e = e

-- the newest share among those before a place, where more stand behind it
newest_more : (n bound : ℕ) (regs more : List ℕ) (at : Option ℕ) → bound ≤ length regs
    → IsNewest n bound regs at → IsNewest n bound (regs ++ more) at
newest_more n bound regs more None le is =
    λ i m lt got. is i m lt (sym (got_before regs more i (omega (arith, le, lt))) ∙ got)
newest_more n bound regs more (Some at) le is = (
  is.0,
  got_front regs more at n is.1,
  λ i m after lt got. is.2 i m after lt (sym (got_before regs more i (omega (arith, le, lt))) ∙ got),
)

-- one more, of another registration, behind all of them
newest_other : (n : ℕ) (regs : List ℕ) (reg : ℕ) (at : Option ℕ) → (n == reg) ≡ false
    → IsNewest n (length regs) regs at → IsNewest n (length (regs ++ reg ∷ [])) (regs ++ reg ∷ []) at
newest_other n regs reg None apart is = λ i m lt got. by i m got (i == length regs) refl
  where
    by : (i m : ℕ) → slice_get (regs ++ reg ∷ []) i ≡ Some m → (t : Bool) → (i == length regs) ≡ t
        → (n == m) ≡ false
    by i m got true e =
        let same : i ≡ length regs = eqb-true i (length regs) e in
        let one = got_once (regs ++ reg ∷ []) (length regs) m reg
        (sym (ap (slice_get (regs ++ reg ∷ [])) same) ∙ got) (got_end regs reg) in
        ap (λ k. n == k) one ∙ apart
    by i m got false e =
        let old = got_pushed regs reg m i got e in
        is i m (got_within regs i m old) old
newest_other n regs reg (Some at) apart is = (
  (let longer = length-append regs (reg ∷ []) in let lt = is.0 in omega (arith, longer, lt)),
  got_front regs (reg ∷ []) at n is.1,
  λ i m after lt got. by i m after got (i == length regs) refl,
)
  where
    by : (i m : ℕ) → at < i → slice_get (regs ++ reg ∷ []) i ≡ Some m → (t : Bool) → (i == length regs) ≡ t
        → (n == m) ≡ false
    by i m after got true e =
        let same : i ≡ length regs = eqb-true i (length regs) e in
        let one = got_once (regs ++ reg ∷ []) (length regs) m reg
        (sym (ap (slice_get (regs ++ reg ∷ [])) same) ∙ got) (got_end regs reg) in
        ap (λ k. n == k) one ∙ apart
    by i m after got false e =
        let old = got_pushed regs reg m i got e in
        is.2 i m after (got_within regs i m old) old

-- one more of this registration
newest_own : (n : ℕ) (regs : List ℕ) → IsNewest n (length (regs ++ n ∷ [])) (regs ++ n ∷ []) (Some (length
    regs))
newest_own n regs = (
  (let longer = length-append regs (n ∷ []) in omega (arith, longer)),
  got_end regs n,
  λ i m after lt got. let longer = length-append regs (n ∷ []) in absurd (omega (arith, longer, after, lt)),
)

regs_push : (shares : List Share) (s : Share) → regs_of (shares ++ s ∷ []) ≡ regs_of shares ++ s.reg ∷ []
regs_push shares s = map-append (λ q. q.reg) shares (s ∷ [])

regs_length : (shares : List Share) → length (regs_of shares) ≡ length shares
regs_length shares = length-map shares (λ q. q.reg)

-- the newest shares, with one more
pub newest_push : (shares : List Share) (newest after : ℕ → Option ℕ) (s : Share) (place : ℕ)
    → place ≡ length shares
    → ((q : ℕ) → after q ≡ (if nat_eq s.reg q then Some place else newest q))
    → AreNewest shares newest → AreNewest (shares ++ s ∷ []) after
newest_push shares newest after s place is does are n =
    subst (IsNewest n (length (shares ++ s ∷ [])) (regs_of (shares ++ s ∷ []))) (sym (does n))
    (subst (λ r. IsNewest n (length (shares ++ s ∷ [])) r (if nat_eq s.reg n then Some place else newest n))
    (sym (regs_push shares s))
    (subst (λ k. IsNewest n k (regs_of shares ++ s.reg ∷ []) (if nat_eq s.reg n then Some place else newest
    n))
    lengths (by (nat_eq s.reg n) refl)))
  where
    lengths : length (regs_of shares ++ s.reg ∷ []) ≡ length (shares ++ s ∷ [])
    lengths = sym (ap length (regs_push shares s)) ∙ regs_length (shares ++ s ∷ [])

    by : (t : Bool) → nat_eq s.reg n ≡ t → IsNewest n (length (regs_of shares ++ s.reg ∷ []))
        (regs_of shares ++ s.reg ∷ []) (if t then Some place else newest n)
    by true e =
        let same : s.reg ≡ n = eqb-true s.reg n e in
        let there : length (regs_of shares) ≡ place = regs_length shares ∙ sym is in
        subst (λ k. IsNewest n (length (regs_of shares ++ k ∷ [])) (regs_of shares ++ k ∷ []) (Some place))
        (sym same)
        (subst (λ k. IsNewest n (length (regs_of shares ++ n ∷ [])) (regs_of shares ++ n ∷ []) (Some k)) there
        (newest_own n (regs_of shares)))
    by false e = newest_other n (regs_of shares) s.reg (newest n) (flipped s.reg n e)
        (subst (λ k. IsNewest n k (regs_of shares) (newest n)) (sym (regs_length shares)) (are n))

-- and each names the newest before it
pub linked_push : (shares : List Share) (newest : ℕ → Option ℕ) (s : Share) → s.before ≡ newest s.reg
    → AreNewest shares newest → AreLinked shares → AreLinked (shares ++ s ∷ [])
linked_push shares newest s named are linked place t got =
    subst (λ r. IsNewest t.reg place r t.before) (sym (regs_push shares s)) (by (place == length shares) refl)
  where
    by : (b : Bool) → (place == length shares) ≡ b
        → IsNewest t.reg place (regs_of shares ++ s.reg ∷ []) t.before
    by true e =
        let same : place ≡ length shares = eqb-true place (length shares) e in
        let one = got_once (shares ++ s ∷ []) (length shares) t s
        (sym (ap (slice_get (shares ++ s ∷ [])) same) ∙ got) (got_end shares s) in
        let le : length shares ≤ length (regs_of shares) =
        (let l = regs_length shares in omega (arith, l)) in
        subst (λ q. IsNewest q.reg place (regs_of shares ++ s.reg ∷ []) q.before) (sym one)
        (subst (λ k. IsNewest s.reg k (regs_of shares ++ s.reg ∷ []) s.before) (sym same)
        (subst (IsNewest s.reg (length shares) (regs_of shares ++ s.reg ∷ [])) (sym named)
        (newest_more s.reg (length shares) (regs_of shares) (s.reg ∷ []) (newest s.reg) le (are s.reg))))
    by false e =
        let old = got_pushed shares s t place got e in
        let lt = got_within shares place t old in
        let l = regs_length shares in
        newest_more t.reg place (regs_of shares) (s.reg ∷ []) t.before (omega (arith, lt, l))
        (linked place t old)

-- a new share is its client's at its registration
pub new_is_of : (reg client : ℕ) (before : Option ℕ) → is_of reg client (share_new reg client before) ≡ true
new_is_of reg client before =
    ap (λ b. (b && (client == client)) && not false) (eq-eqb reg reg refl)
    ∙ ap (λ b. (true && b) && not false) (eq-eqb client client refl)

-- of a share that is counted, and of its client, there are no more than rows
pub few_counted : (rows : List OwnedRow) (shares : List Share) (held : List ℕ) (c : ℕ) (s : Share)
    → AreCounted rows shares held → length rows < 2 ^ 63 → slice_get shares c ≡ Some s
    → (s.count < 2 ^ 63) × (get_or held s.client 0 < 2 ^ 63)
few_counted rows shares held c s counted few at =
    let in_rows = count_by-le-length (λ r. r.unended && (r.share == c)) rows in
    let of_client = count_by-le-length (λ o. o.unended && (o.client == s.client)) (owned_of rows shares) in
    let as_many = length-map rows (owned_in shares) in
    let there = got_some held s.client (counted.listed c s at) in
    let holds = counted.held_are s.client there.0 there.1 in
    let read = got_or held s.client there.0 0 there.1 in
    let count = at_most s.over s.count (count_in rows c) (counted.counted c s at) in
    (omega (arith, in_rows, count, few), omega (arith, of_client, as_many, holds, read, few))
  where
    at_most : (over : Bool) (count rows : ℕ) → count ≡ (if over then 0 else rows) → count ≤ rows
    at_most true count rows is = omega (arith, is)
    at_most false count rows is = omega (arith, is)

-- the three facts of a share
parts : (reg client : ℕ) (s : Share) → is_of reg client s ≡ true
    → (s.reg ≡ reg) × (s.client ≡ client) × (s.over ≡ false)
parts reg client s is =
    let whole = and_parts ((s.reg == reg) && (s.client == client)) (not s.over) is in
    let front = and_parts (s.reg == reg) (s.client == client) whole.0 in
    (eqb-true s.reg reg front.0, eqb-true s.client client front.1, not_true s.over whole.1)

-- all stays counted once a reservation is added to a share that was found or made for it
pub added_counted : (rows : List OwnedRow) (shares grown : List Share) (held : List ℕ) (reg client c : ℕ)
    (s : Share) (row : OwnedRow) → IsGrown shares grown reg client → client < length held
    → slice_get grown c ≡ Some s → is_of reg client s ≡ true → row.share ≡ c → row.unended ≡ true
    → AreCounted rows shares held
    → AreCounted (rows ++ row ∷ []) (set grown c (share_raised s)) (set held s.client (get_or held s.client
    0 + 1))
added_counted rows shares grown held reg client c s row grows listed at is own unended counted =
    counted_raised rows grown held c s row at (parts reg client s is).2 own unended
    (subst (λ l. AreCounted rows l held) (sym grows.1)
    (counted_grown rows shares held reg client grows.0 listed counted))

pub grown_counted : (rows : List OwnedRow) (shares grown : List Share) (held : List ℕ) (reg client : ℕ)
    → IsGrown shares grown reg client → client < length held → AreCounted rows shares held
    → AreCounted rows grown held
grown_counted rows shares grown held reg client grows listed counted =
    subst (λ l. AreCounted rows l held) (sym grows.1)
    (counted_grown rows shares held reg client grows.0 listed counted)

-- and it is what was asked
pub added_owned : (rows : List OwnedRow) (shares grown : List Share) (held : List ℕ) (reg client c : ℕ)
    (s : Share) (row : OwnedRow) → IsGrown shares grown reg client → slice_get grown c ≡ Some s
    → is_of reg client s ≡ true → row.share ≡ c → row.unended ≡ true → AreCounted rows shares held
    → owned_of (rows ++ row ∷ []) (set grown c (share_raised s)) ≡ owned_of rows shares ++ record {
      number = row.number;
      job = row.job;
      reg = reg;
      client = client;
      unended = true;
    } ∷ []
added_owned rows shares grown held reg client c s row grows at is own unended counted =
    let of = parts reg client s is in
    owned_raised rows grown c s row at own
    ∙ ap (λ l. l ++ owned_by (Some s) row ∷ [])
    (ap (owned_of rows) grows.1 ∙ owned_more rows shares (new_shares reg client grows.0) counted.placed)
    ∙ ap (λ n. owned_of rows shares ++ record (owned_by (Some s) row) { reg = n } ∷ []) of.0
    ∙ ap (λ n. owned_of rows shares ++ record (owned_by (Some s) row) { reg = reg; client = n } ∷ []) of.1
    ∙ ap (λ b. owned_of rows shares
    ++ record (owned_by (Some s) row) { reg = reg; client = client; unended = b && not s.over } ∷ []) unended
    ∙ ap (λ b. owned_of rows shares
    ++ record (owned_by (Some s) row) { reg = reg; client = client; unended = true && not b } ∷ []) of.2

got_replicate : (k client n : ℕ) → slice_get (replicate k 0) client ≡ Some n → n ≡ 0
got_replicate zero client n is = absurd cc
got_replicate (suc k) zero n is = cc
got_replicate (suc k) (suc client) n is = got_replicate k client n is

-- nothing is kept where there is no row and no share
pub kept_none : (held : List ℕ) (newest : ℕ → Option ℕ) → held ≡ replicate (length held) 0
    → ((n : ℕ) → newest n ≡ None) → AreKept [] [] newest held
kept_none held newest zeros none = record {
  linked = λ place s is. absurd cc;
  newest_are = λ reg. subst (IsNewest reg 0 []) (sym (none reg)) (λ i n lt is. absurd cc);
  counted = record {
    placed = λ place r is. absurd cc;
    listed = λ place s is. absurd cc;
    counted = λ place s is. absurd cc;
    held_are = λ client n is. got_replicate (length held) client n (ap (λ l. slice_get l client) (sym
        zeros) ∙ is);
  };
}
