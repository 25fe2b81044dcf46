-- Parts of what is to be written.
--
-- What an error leaves, as one clause that holds with and without an error (`rest`: `Ends reader.new
-- reader.old`; `kept`: `Begins writer.old.tokens writer.new.tokens`), so each step of a function hands
-- it on. Search found nearly every exit where the record's field gives the later list by the earlier one
-- (`rest ≡ drop count whole`); with `whole ≡ front ++ rest` for the rest it found none behind two steps.
-- What a part of a text leaves (`Adds text before after`) is found for one step, with `using(later,
-- sooner)` for two; from three on each exit is one line of `later` and `sooner` (`proofs/Parts`); left
-- out, `grind` took minutes to give up.
use Rattle.std.proofs.Common.{◌≡◌, ℕ, ◌+◌, List, [], ◌∷◌, ◌++◌, flat_map, take, drop, sym, ap, subst, ◌∙◌, append_assoc}
use Rattle.std.proofs.lemmas.Grind.{flat_map-append}
use Rattle.std.proofs.lemmas.List.{append-nil, take-append-drop}
use Rattle.dist_wire.specs.Left.{Adds}

-- more was to follow
pub sooner : {A : Type 0} (first second before after : List A) → Adds first before after
    → Adds (first ++ second) before after
sooner {A} first second before after p = record {
  front = p.front;
  rest = p.rest ++ second;
  written = p.written;
  whole = ap (λ (t : List A). t ++ second) p.whole ∙ append_assoc p.front p.rest second;
}

-- what goes first was written whole
pub later : {A : Type 0} (first second before between after : List A) → between ≡ before ++ first
    → Adds second between after → Adds (first ++ second) before after
later {A} first second before between after e p = record {
  front = first ++ p.front;
  rest = p.rest;
  written = p.written ∙ ap (λ (t : List A). t ++ p.front) e ∙ append_assoc before first p.front;
  whole = ap (λ (t : List A). first ++ t) p.whole ∙ simp append_assoc;
}

-- items, up to a part of one
pub part_items : {A : Type 0} (text : A → List ℕ) (xs : List A) (i : ℕ) (x : A)
    (before between after : List ℕ) → take (i + 1) xs ≡ take i xs ++ x ∷ []
    → between ≡ before ++ flat_map text (take i xs) → Adds (text x) between after
    → Adds (flat_map text xs) before after
part_items {A} text xs i x before between after t e p =
    let done = flat_map text (take i xs) in
    let more = flat_map text (drop (i + 1) xs) in
    let one : flat_map text (take i xs ++ x ∷ []) ≡ done ++ text x = flat_map-append text (take i xs) (x ∷ [])
    ∙ ap (λ (b : List ℕ). done ++ b) (append-nil (text x)) in
    let all : flat_map text xs ≡ done ++ (text x ++ more) =
    ap (λ (ys : List A). flat_map text ys) (sym (take-append-drop (i + 1) xs))
    ∙ flat_map-append text (take (i + 1) xs) (drop (i + 1) xs)
    ∙ ap (λ (ys : List A). flat_map text ys ++ more) t ∙ ap (λ (b : List ℕ). b ++ more) one
    ∙ append_assoc done (text x) more in
    subst (λ (b : List ℕ). Adds b before after) (sym all)
    (later done (text x ++ more) before between after e (sooner (text x) more between after p))
