-- A pair of an index map that is moved to the end is promoted.
use Rattle.std.proofs.Common.{◌≡◌, ℕ, ◌-◌, Bool, List, [], ◌∷◌, ◌++◌, length, remove, position, Option, Some}
use Rattle.std.proofs.Common.{None, slice_get, is_some, inl, inr, sym, ap, ◌∙◌, true, true≢false, unwrap_or}
use Rattle.std.proofs.Common.{arith, length-append}
use Rattle.std.specs.List.{insert}
use Rattle.std.specs.Option.{option_map_or}
use Rattle.std.specs.Map.{keys_of, lookup}
use Rattle.std.proofs.lemmas.List.Edits.{insert_end}
use Rattle.indexmap.specs.IndexMap.{move_index}
use Rattle.lru_metered.specs.Metered.{promoted}
use Rattle.lru_metered.proofs.Lookups.{Missed, Hit, look_up, slice_get-cut, remove-cut, place-miss, place-hit}
use Rattle.lru_metered.proofs.Lookups.{promoted-hit, promoted-miss}

module _ {K V : Type 0} (test : K → Bool) where
  -- moving the pair at the place of the key to the end promotes it
  pub move-hit : (es : List (K × V)) (h : Hit test es) → move_index es (length h.front)
      (length es - 1) ≡ promoted test es
  move-hit es h =
      let at : slice_get es (length h.front) ≡ Some h.pair = ap (λ l. slice_get l (length h.front)) h.whole
      ∙ slice_get-cut h.front h.pair h.back in
      let left : remove es (length h.front) ≡ h.front ++ h.back =
      ap (λ l. remove l (length h.front)) h.whole ∙ remove-cut h.front h.pair h.back in
      let end : length es - 1 ≡ length (h.front ++ h.back) =
      omega (arith, ap length h.whole, length-append h.front (h.pair ∷ h.back), length-append h.front h.back)
      in
      ap (λ o. option_map_or (λ p. insert (remove es (length h.front)) (length es - 1) p) o es) at
      ∙ ap (λ l. insert l (length es - 1) h.pair) left
      ∙ ap (λ n. insert (h.front ++ h.back) n h.pair) end
      ∙ insert_end (h.front ++ h.back) h.pair
      ∙ sym (promoted-hit test es h)

  -- a place that `position` gave, and the list once the pair there went last
  pub moved : (es : List (K × V)) (i : ℕ) → position test (keys_of es) ≡ Some i
      → (move_index es i (length es - 1) ≡ promoted test es) × (is_some (lookup test es) ≡ true)
  moved es i at = elim (look_up test es) [
    | inl m ↦ absurd (true≢false (ap is_some (sym at ∙ place-miss test es m)))
    | inr h ↦
        let i-is : length h.front ≡ i = ap (λ o. unwrap_or o i) (sym (place-hit test es h) ∙ at) in
        (ap (λ n. move_index es n (length es - 1)) (sym i-is) ∙ move-hit es h, ap is_some h.value)
  ]

  pub not_moved : (es : List (K × V)) → position test (keys_of es) ≡ None → (promoted test es ≡ es)
      × (lookup test es ≡ None)
  not_moved es none = elim (look_up test es) [
    | inl m ↦ (promoted-miss test es m, m.value)
    | inr h ↦ absurd (true≢false (ap is_some (sym (place-hit test es h) ∙ none)))
  ]
