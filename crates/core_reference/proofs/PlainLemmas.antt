-- Passes over the log: a value that each entry changes, and what is shown at each cut.
use Rattle.std.proofs.Common.{◌≡◌, ℕ, ◌+◌, ◌<◌, ◌≤◌, List, [], ◌∷◌, ◌++◌, Bool, true, false, cond, map, filter}
use Rattle.std.proofs.Common.{length, get_or, take, drop, Option, Some, None, refl, ap, ◌∙◌, sym, append-nil}
use Rattle.std.specs.Prelude.{option_and_then, unwrap_or, if◌then◌else◌}
use Rattle.std.specs.List.{filter_map, cons_option, list_any}
use Rattle.std.proofs.lemmas.List.{take_more, drop_more, drop_all}
use Rattle.std.proofs.lemmas.List.Elements.{filter_map-append}
use Rattle.dist_types.specs.declared.results.JobState.{JobState}
use Rattle.core_rules.specs.declared.entry.CoreEntry.{CoreEntry}
use Rattle.core_rules.specs.declared.entry.CoreKind.{CoreKind}
use Rattle.core_rules.specs.declared.entry.CoreKind.TheVariants.{Beat, Reserve, Commit, Undo, Update, Status}
use Rattle.core_rules.specs.declared.entry.CoreKind.TheVariants.{Drain}
use Rattle.core_rules.specs.declared.entry.Reserved.TheVariants.{Job, NoRoom, Spent}
use Rattle.core_rules.specs.declared.rows.HeldRow.{HeldRow}
use Rattle.core_rules.specs.Cuts.{Cut, cuts_behind}
use Rattle.core_rules.specs.Log.{latest}
use Rattle.core_rules.specs.Reservation.{booked_by, claims_by}
use Rattle.core_rules.specs.Job.{state_of, ready_at}
use Rattle.core_rules.specs.Next.{held_by}
use Rattle.core_rules.specs.Rows.{held_of}
use Rattle.core_rules.proofs.Lists.{cons_nil, latest-push}
use Rattle.core_reference.specs.Plain.{seen, shown, lasts_as}
use Rattle.core_reference.specs.declared.jobs.Which.{Which}

-- the first so many and one more
pub next_taken : {A : Type 0} (i : ℕ) (xs : List A) (x : A) → i < length xs → x ≡ get_or xs i x
    → take (i + 1) xs ≡ take i xs ++ x ∷ []
next_taken i xs x within is = take_more xs i x within ∙ ap (λ y. take i xs ++ y ∷ []) (sym is)

-- and what is behind them, one first
pub next_left : {A : Type 0} (i : ℕ) (xs : List A) (x : A) → i < length xs → x ≡ get_or xs i x
    → drop i xs ≡ x ∷ drop (i + 1) xs
next_left i xs x within is = drop_more xs i x within ∙ ap (λ y. y ∷ drop (i + 1) xs) (sym is)

-- a value that each entry changes, after one more
pub fold_step : {A B : Type 0} (f : List A → B) (after : A → B → B)
    → ((l : List A) (e : A) → f (l ++ e ∷ []) ≡ after e (f l))
    → (xs : List A) (i : ℕ) (x : A) (so_far new : B) → i < length xs → x ≡ get_or xs i x
    → so_far ≡ f (take i xs) → new ≡ after x so_far → new ≡ f (take (i + 1) xs)
fold_step f after push xs i x so_far new within is before made =
    made ∙ ap (after x) before ∙ sym (push (take i xs) x) ∙ ap f (sym (next_taken i xs x within is))

pub latest_next : {A B : Type 0} (first : B) (f : A → Option B) (l : List A) (e : A)
    → latest first (filter_map f (l ++ e ∷ [])) ≡ unwrap_or (f e) (latest first (filter_map f l))
latest_next first f l e =
    ap (latest first) (filter_map-append f l (e ∷ []) ∙ ap (λ bs. filter_map f l ++ bs) (cons_nil (f e)))
    ∙ latest-push first (filter_map f l) (f e)

-- what is shown of what lasts is shown at each cut
pub shown_all : {X B : Type 0} (make : Cut CoreEntry → Option X) (lasts : X → Bool) (view : X → B)
    (cs : List (Cut CoreEntry))
    → map view (filter lasts (filter_map make cs)) ≡ filter_map (shown make lasts view) cs
shown_all make lasts view [] = refl
shown_all {X} {B} make lasts view (c ∷ cs) = split (make c) (shown_all make lasts view cs)
  where
    split : (o : Option X) → map view (filter lasts (filter_map make cs)) ≡ filter_map (shown make lasts view) cs
        → map view (filter lasts (cons_option o (filter_map make cs)))
        ≡ cons_option (option_and_then (seen lasts view) o) (filter_map (shown make lasts view) cs)
    split None rest = rest
    split (Some x) rest = elim (lasts x) as
        (λ b. map view (cond b (x ∷ filter lasts (filter_map make cs)) (filter lasts (filter_map make cs)))
        ≡ cons_option (cond b (Some (view x)) None) (filter_map (shown make lasts view) cs)) [
          | true ↦ ap (λ l. view x ∷ l) rest
          | false ↦ rest
        ]

-- all of it, at the end
pub cut_end : {B : Type 0} (f : Cut CoreEntry → Option B) (log : List CoreEntry) (i : ℕ) (done whole : List B)
    → length log ≤ i → done ++ filter_map f (cuts_behind (take i log) (drop i log)) ≡ whole → done ≡ whole
cut_end f log i done whole le before =
    sym (append-nil done)
    ∙ ap (λ d. done ++ filter_map f (cuts_behind (take i log) d)) (sym (drop_all i log le))
    ∙ before

-- a reservation as it begins, and over the entries after it
reserved_is : (which : Which) (k : CoreKind) (number now : ℕ) (later : List CoreEntry)
    → option_and_then (seen (λ b. lasts_as which b.job b.reg b.later) held_of) (booked_by k number now later)
    ≡ option_and_then (λ h. if lasts_as which h.job h.reg later then Some (record h {
      state = state_of h.job later;
      ready_at = ready_at h.job later;
      claimed = list_any (λ e. claims_by e.kind h.job) later;
    }) else None) (held_by k number now)
reserved_is which (Reserve (Job job reg forgiven)) number now later = refl
reserved_is which (Reserve (NoRoom n)) number now later = refl
reserved_is which (Reserve Spent) number now later = refl
reserved_is which (Beat server nonce cpus key pruned reaped replaced is_new) number now later = refl
reserved_is which (Commit job state kept) number now later = refl
reserved_is which (Undo job noted was_ended) number now later = refl
reserved_is which (Update server job state answer) number now later = refl
reserved_is which (Status pruned servers cpus jobs) number now later = refl
reserved_is which (Drain server nonce on named) number now later = refl

pub reserved_some : (which : Which) (k : CoreKind) (number now : ℕ) (later : List CoreEntry) (row : HeldRow)
    (state : Option JobState) (ready : Option ℕ) (claimed : Bool) → held_by k number now ≡ Some row
    → lasts_as which row.job row.reg later ≡ true → state ≡ state_of row.job later → ready ≡ ready_at row.job later
    → claimed ≡ list_any (λ e. claims_by e.kind row.job) later
    → Some (record row { state = state; ready_at = ready; claimed = claimed })
    ≡ option_and_then (seen (λ b. lasts_as which b.job b.reg b.later) held_of) (booked_by k number now later)
reserved_some which k number now later row state ready claimed is stays state_is ready_is claimed_is =
    let kept : HeldRow → Option HeldRow = λ h. if lasts_as which h.job h.reg later then Some (record h {
      state = state_of h.job later;
      ready_at = ready_at h.job later;
      claimed = list_any (λ e. claims_by e.kind h.job) later;
    }) else None in
    ap (λ s. Some (record row { state = s; ready_at = ready; claimed = claimed })) state_is
    ∙ ap (λ r. Some (record row { state = state_of row.job later; ready_at = r; claimed = claimed })) ready_is
    ∙ ap (λ c. Some (record row {
      state = state_of row.job later;
      ready_at = ready_at row.job later;
      claimed = c;
    })) claimed_is
    ∙ ap (λ b. cond b (Some (record row {
      state = state_of row.job later;
      ready_at = ready_at row.job later;
      claimed = list_any (λ e. claims_by e.kind row.job) later;
    })) None) (sym stays)
    ∙ ap (option_and_then kept) (sym is)
    ∙ sym (reserved_is which k number now later)
