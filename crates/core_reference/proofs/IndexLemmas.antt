-- What is asked by its number, read at its place in the log.
use Rattle.std.proofs.Common.{◌≡◌, ℕ, ◌+◌, ◌<◌, ◌≤◌, List, [], ◌∷◌, ◌++◌, Bool, true, false, cond, length}
use Rattle.std.proofs.Common.{Option, Some, None, refl, ap, ◌∙◌, sym, arith, eqb-true, eq-eqb, length-append}
use Rattle.std.specs.Prelude.{◌≢◌}
use Rattle.core_rules.proofs.AllLemmas.{true_false}
use Rattle.core_rules.proofs.RoomLemmas.{lt_true, lt_false}
use Rattle.std.specs.Prelude.{option_and_then, ◌==◌, nat_lt, slice_get}
use Rattle.std.specs.Option.{option_map}
use Rattle.std.proofs.lemmas.List.{get_or_push, get_or_append_left}
use Rattle.std.proofs.lemmas.Option.{slice_get-get_or, slice_get_read, slice_get_past}
use Rattle.core_rules.specs.declared.entry.CoreEntry.{CoreEntry}
use Rattle.core_rules.specs.declared.entry.CoreKind.{CoreKind}
use Rattle.core_rules.specs.declared.entry.CoreKind.TheVariants.{Beat, Reserve, Commit, Undo, Update, Status}
use Rattle.core_rules.specs.declared.entry.CoreKind.TheVariants.{Drain}
use Rattle.core_rules.specs.declared.entry.Reserved.TheVariants.{Job, NoRoom, Spent}
use Rattle.core_rules.specs.Cuts.{Cut}
use Rattle.core_rules.specs.Log.{newer}
use Rattle.core_rules.specs.Standing.{address_of, registered_at, registered_by}
use Rattle.core_rules.specs.Reservation.{booked_at, booked_by}
use Rattle.core_rules.specs.Rule.{place_at}
use Rattle.core_rules.proofs.Lists.{seen, end_cut}
use Rattle.core_rules.proofs.GrowLemmas.{Numbered, seen_of, asked-push, asked-other, asked-beyond, grow_has}
use Rattle.core_rules.proofs.PlaceLemmas.{registered_numbered, booked_numbered}
use Rattle.core_reference.specs.Plain.{reg_by, address_by}

numbered_so : {X B : Type 0} (number : X → ℕ) (view : X → B) (n : ℕ) (o : Option X)
    → ((x : X) → o ≡ Some x → number x ≡ n) → option_and_then (seen (λ x. number x == n) view) o ≡ option_map view o
numbered_so number view n None is = refl
numbered_so number view n (Some x) is = ap (λ b. cond b (Some (view x)) None) (eq-eqb (number x) n (is x refl))

newer_none : {B : Type 0} (o : Option B) → newer o None ≡ o
newer_none None = refl
newer_none (Some b) = refl

got_last : (l : List CoreEntry) (e : CoreEntry) (n : ℕ) → length l ≡ n → slice_get (l ++ e ∷ []) n ≡ Some e
got_last l e n is =
    let longer : length (l ++ e ∷ []) ≡ length l + 1 = length-append l (e ∷ []) in
    slice_get_read (l ++ e ∷ []) (length (l ++ e ∷ [])) n e refl (omega (arith, is, longer))
    (sym (get_or_push l e e n is))

got_other : (l : List CoreEntry) (e : CoreEntry) (n : ℕ) → (length l == n) ≡ false
    → slice_get (l ++ e ∷ []) n ≡ slice_get l n
got_other l e n other = split (nat_lt n (length l)) refl
  where
    longer : length (l ++ e ∷ []) ≡ length l + 1
    longer = length-append l (e ∷ [])

    split : (b : Bool) → nat_lt n (length l) ≡ b → slice_get (l ++ e ∷ []) n ≡ slice_get l n
    split true h =
        let within : n < length l = lt_true n (length l) h in
        slice_get-get_or (l ++ e ∷ []) n e (omega (arith, within, longer))
        ∙ ap Some (get_or_append_left l (e ∷ []) e n within)
        ∙ sym (slice_get-get_or l n e within)
    split false h =
        let past : length l ≤ n = lt_false n (length l) h in
        let apart : n ≢ length l = λ same. true_false (length l == n) (eq-eqb (length l) n (sym same)) other in
        slice_get_past (l ++ e ∷ []) n (omega (arith, past, longer, apart)) ∙ sym (slice_get_past l n past)

-- what is asked by its number is what its entry makes
asked_step : {X B : Type 0} (make : Cut CoreEntry → Option X) (number : X → ℕ) (view : X → B)
    (numbered : Numbered make number) → ((e : CoreEntry) (x : X) → view (numbered.grow e x) ≡ view x)
    → (f : CoreEntry → Option B) (l : List CoreEntry) (e : CoreEntry)
    → option_map view (make (end_cut l e)) ≡ f e → (n : ℕ)
    → seen_of make number view l n ≡ option_and_then f (slice_get l n)
    → seen_of make number view (l ++ e ∷ []) n ≡ option_and_then f (slice_get (l ++ e ∷ []) n)
asked_step make number view numbered keeps f l e makes n before = split (length l == n) refl
  where
    split : (b : Bool) → (length l == n) ≡ b
        → seen_of make number view (l ++ e ∷ []) n ≡ option_and_then f (slice_get (l ++ e ∷ []) n)
    split true h =
        let is : length l ≡ n = eqb-true (length l) n h in
        let none : seen_of make number view l n ≡ None =
        asked-beyond make number view numbered keeps l n (omega (arith, is)) in
        asked-push make number view numbered keeps l e n
        ∙ ap (newer (option_and_then (seen (λ x. number x == n) view) (make (end_cut l e)))) none
        ∙ newer_none (option_and_then (seen (λ x. number x == n) view) (make (end_cut l e)))
        ∙ numbered_so number view n (make (end_cut l e)) (λ x made. numbered.at_end l e x made ∙ is)
        ∙ makes
        ∙ ap (option_and_then f) (sym (got_last l e n is))
    split false h = asked-other make number view numbered keeps l e n h ∙ before
        ∙ ap (option_and_then f) (sym (got_other l e n h))

asked_at : {X B : Type 0} (make : Cut CoreEntry → Option X) (number : X → ℕ) (view : X → B)
    (numbered : Numbered make number) → ((e : CoreEntry) (x : X) → view (numbered.grow e x) ≡ view x)
    → (f : CoreEntry → Option B)
    → ((l : List CoreEntry) (e : CoreEntry) → option_map view (make (end_cut l e)) ≡ f e)
    → (log : List CoreEntry) (n : ℕ) → seen_of make number view log n ≡ option_and_then f (slice_get log n)
asked_at make number view numbered keeps f makes log n =
    grow_has (λ l. (m : ℕ) → seen_of make number view l m ≡ option_and_then f (slice_get l m)) (λ m. refl)
    (λ l e before m. asked_step make number view numbered keeps f l e (makes l e) m (before m)) log n

reg_is : (k : CoreKind) (number now : ℕ) (later : List CoreEntry)
    → option_map (λ b. b.reg) (booked_by k number now later) ≡ reg_by k
reg_is (Reserve (Job job reg forgiven)) number now later = refl
reg_is (Reserve (NoRoom n)) number now later = refl
reg_is (Reserve Spent) number now later = refl
reg_is (Beat server nonce cpus key pruned reaped replaced is_new) number now later = refl
reg_is (Commit job state kept) number now later = refl
reg_is (Undo job noted was_ended) number now later = refl
reg_is (Update server job state answer) number now later = refl
reg_is (Status pruned servers cpus jobs) number now later = refl
reg_is (Drain server nonce on named) number now later = refl

server_is : (k : CoreKind) (now : ℕ) (before : List CoreEntry) (at : CoreEntry) (later : List CoreEntry)
    → option_map (λ g. g.server) (registered_by k now before at later) ≡ address_by k
server_is (Beat server nonce cpus key pruned reaped replaced true) now before at later = refl
server_is (Beat server nonce cpus key pruned reaped replaced false) now before at later = refl
server_is (Reserve r) now before at later = refl
server_is (Commit job state kept) now before at later = refl
server_is (Undo job noted was_ended) now before at later = refl
server_is (Update server job state answer) now before at later = refl
server_is (Status pruned servers cpus jobs) now before at later = refl
server_is (Drain server nonce on named) now before at later = refl

pub place_is : (log : List CoreEntry) (n : ℕ) → place_at log n ≡ option_and_then (λ e. reg_by e.kind) (slice_get log n)
place_is log n = asked_at booked_at (λ b. b.number) (λ b. b.reg) booked_numbered (λ d b. refl) (λ e. reg_by e.kind)
    (λ l e. reg_is e.kind (length l) e.now []) log n

pub address_is : (log : List CoreEntry) (n : ℕ)
    → address_of log n ≡ option_and_then (λ e. address_by e.kind) (slice_get log n)
address_is log n = asked_at registered_at (λ g. g.reg) (λ g. g.server) registered_numbered (λ d g. refl)
    (λ e. address_by e.kind) (λ l e. server_is e.kind e.now l e []) log n
