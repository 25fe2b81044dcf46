-- The most registrations that stood at one time: no less than stand now, and never less later.
use Rattle.std.proofs.Common.{◌≡◌, ℕ, ◌+◌, ◌*◌, ◌≤◌, List, [], ◌∷◌, ◌++◌, map, length, max, ap, refl}
use Rattle.std.proofs.Common.{◌∙◌, sym, subst, arith}
use Rattle.std.proofs.lemmas.List.{map-append, length-map}
use Rattle.core_rules.specs.declared.start.Start.{Start}
use Rattle.core_rules.specs.declared.entry.CoreEntry.{CoreEntry}
use Rattle.core_rules.specs.Cuts.{Cut, cuts}
use Rattle.core_rules.specs.Standing.{standing}
use Rattle.core_rules.specs.Rows.{row_of}
use Rattle.reservations.specs.Booked.{unspent_view}
use Rattle.sched_core.specs.Books.{Kept, Keys, IsState}
use Rattle.sched_core.specs.Most.{fronts, greatest, most_standing}
use Rattle.core_rules.proofs.Lists.{map-map, followed, end_cut, cuts_behind-push}

greatest_left : (ns ms : List ℕ) → greatest ns ≤ greatest (ns ++ ms)
greatest_left [] ms = omega arith
greatest_left (n ∷ ns) ms = let rest = greatest_left ns ms in omega (arith, rest)

greatest_last : (ns : List ℕ) (n : ℕ) → n ≤ greatest (ns ++ n ∷ [])
greatest_last [] n = omega arith
greatest_last (m ∷ ns) n = let rest = greatest_last ns n in omega (arith, rest)

abbrev counted : List CoreEntry → ℕ
counted front = length (standing front)

pub most_here : (log : List CoreEntry) → length (standing log) ≤ most_standing log
most_here log = subst (λ ns. length (standing log) ≤ greatest ns)
    (sym (map-append (λ front. length (standing front)) (map (λ c. c.before) (cuts log)) (log ∷ [])))
    (greatest_last (map (λ front. length (standing front)) (map (λ c. c.before) (cuts log)))
    (length (standing log)))

fronts-push : (log : List CoreEntry) (e : CoreEntry)
    → map (λ c. c.before) (cuts (log ++ e ∷ [])) ≡ fronts log
fronts-push log e = ap (map (λ (c : Cut CoreEntry). c.before)) (cuts_behind-push [] log e)
    ∙ map-append (λ (c : Cut CoreEntry). c.before) (map (followed e) (cuts log)) (end_cut log e ∷ [])
    ∙ ap (λ fs. fs ++ log ∷ []) (map-map (λ (c : Cut CoreEntry). c.before) (followed e) (cuts log))

pub most_grows : (log : List CoreEntry) (e : CoreEntry) → most_standing log ≤ most_standing (log ++ e ∷ [])
most_grows log e = subst (λ fs. most_standing log ≤ greatest
    (map (λ front. length (standing front)) (fs ++ (log ++ e ∷ []) ∷ [])))
    (sym (fronts-push log e))
    (subst (λ ns. most_standing log ≤ greatest ns)
    (sym (map-append (λ front. length (standing front)) (fronts log) ((log ++ e ∷ []) ∷ [])))
    (greatest_left (map (λ front. length (standing front)) (fronts log)) (counted (log ++ e ∷ []) ∷ [])))

-- room changes nothing of what the state is
pub still_state : (start : Start) (old new : Kept) (keys new_keys : Keys)
    (log new_log : List CoreEntry)
    (len capacity new_len new_capacity : ℕ) → IsState start old keys log len capacity
    → new.lists ≡ old.lists
    → new_keys ≡ keys → new_log ≡ log
    → (len + length (unspent_view old.lists.booked) ≤ capacity
    → new_len + length (unspent_view old.lists.booked) ≤ new_capacity)
    → new.first ≡ old.first → new.top ≤ old.top
    → new.places ≤ max old.places (2 * max 1 (length old.lists.rows))
    → IsState start new new_keys new_log new_len new_capacity
still_state start old new keys new_keys log new_log len capacity new_len new_capacity is lists
    same_keys same_log room first top
    places =
    let rows : length old.lists.rows ≡ length (standing log) =
    ap length is.books.rows ∙ length-map (standing log) (row_of log) in
    let here = most_here log in
    let few = is.places in
    let top_few = is.top in
    let roomy = room is.log_room in
    rw (lists, same_keys, same_log) (record {
      books = is.books;
      fits = is.fits;
      legal = is.legal;
      log_room = roomy;
      first = first ∙ is.first;
      top = omega (arith, top, top_few);
      places = omega (arith, rows, here, few, places);
    })

-- and so does room in the log alone
pub roomy_log : (start : Start) (kept : Kept) (keys : Keys) (log new_log : List CoreEntry)
    (len capacity new_len new_capacity : ℕ) → IsState start kept keys log len capacity → new_log ≡ log
    → (len + length (unspent_view kept.lists.booked) ≤ capacity
    → new_len + length (unspent_view kept.lists.booked) ≤ new_capacity)
    → IsState start kept keys new_log new_len new_capacity
roomy_log start kept keys log new_log len capacity new_len new_capacity is same_log room =
    still_state start kept kept keys keys log new_log len capacity new_len new_capacity is refl refl same_log
    room refl (omega arith) (omega arith)
