-- Laws of the stop and of the cut.
use Rattle.std.proofs.Common.{◌≡◌, ℕ, ◌+◌, ◌<◌, ◌≤◌, ◌⊎◌, Bool, true, false, cond, List, [], ◌∷◌, ◌++◌}
use Rattle.std.proofs.Common.{length, take, drop, refl, sym, ap, ◌∙◌, inl, inr, subst, append_assoc, arith}
use Rattle.std.specs.Prelude.{map, Some}
use Rattle.std.proofs.lemmas.List.{append-nil, length-append, take-append-drop, take_at, length-take}
use Rattle.std.proofs.lemmas.List.{take-append-le}
use Rattle.httparse.specs.Spans.{name_and_value}
use Rattle.httparse.proofs.GrammarLemmas.{request_unique}
use Rattle.http_head.specs.Fields.{body_length}
use Rattle.http_head.specs.Head.{IsHead}
use Rattle.http_head.specs.Stop.{is_stop, stop_from, stop_of}
use Rattle.http_head.specs.Cut.{IsCut, Begins, IsShortest}

-- a test with what it came to
choose : (P : List ℕ → Type 0) (b : Bool) (x y : List ℕ) → (b ≡ true → P x) → (b ≡ false → P y)
    → P (cond b x y)
choose P true x y f g = f refl
choose P false x y f g = g refl

stop_begins : (front bytes : List ℕ) → Begins (stop_from front bytes) (front ++ bytes)
stop_begins front [] = ([], refl)
stop_begins front (b ∷ bytes) =
    choose (λ s. Begins s (front ++ b ∷ bytes)) (is_stop (front ++ b ∷ [])) (front ++ b ∷ [])
    (stop_from (front ++ b ∷ []) bytes)
    (λ _. (bytes, sym (append_assoc front (b ∷ []) bytes)))
    (λ _. subst (Begins (stop_from (front ++ b ∷ []) bytes)) (append_assoc front (b ∷ []) bytes)
    (stop_begins (front ++ b ∷ []) bytes))

stop_ends : (front bytes : List ℕ) → (is_stop (stop_from front bytes) ≡ true)
    ⊎ (stop_from front bytes ≡ front ++ bytes)
stop_ends front [] = inr (sym (append-nil front))
stop_ends front (b ∷ bytes) =
    choose (λ s. (is_stop s ≡ true) ⊎ (s ≡ front ++ b ∷ bytes)) (is_stop (front ++ b ∷ [])) (front ++ b ∷ [])
    (stop_from (front ++ b ∷ []) bytes)
    (λ e. inl e)
    (λ _. subst (λ l. (is_stop (stop_from (front ++ b ∷ []) bytes) ≡ true)
    ⊎ (stop_from (front ++ b ∷ []) bytes ≡ l)) (append_assoc front (b ∷ []) bytes)
    (stop_ends (front ++ b ∷ []) bytes))

stop_first : (front bytes more rest : List ℕ) → is_stop front ≡ false → bytes ≡ more ++ rest
    → length (front ++ more) < length (stop_from front bytes) → is_stop (front ++ more) ≡ false
stop_first front bytes [] rest none same short = ap is_stop (append-nil front) ∙ none
stop_first front [] (m ∷ more) rest none same short = absurd (cc same)
stop_first front (b ∷ bytes) (m ∷ more) rest none same short =
    let here : b ≡ m = cc same in
    let tail : bytes ≡ more ++ rest = cc same in
    choose (λ s. length (front ++ m ∷ more) < length s → is_stop (front ++ m ∷ more) ≡ false)
    (is_stop (front ++ b ∷ [])) (front ++ b ∷ []) (stop_from (front ++ b ∷ []) bytes)
    (λ _ less. absurd (omega (arith, length-append front (b ∷ []), length-append front (m ∷ more))))
    (λ no_stop less.
    let again : (front ++ b ∷ []) ++ more ≡ front ++ m ∷ more = append_assoc front (b ∷ []) more
    ∙ ap (λ x. front ++ x ∷ more) here in
    sym (ap is_stop again) ∙ stop_first (front ++ b ∷ []) bytes more rest no_stop tail
    (omega (arith, ap length again, less)))
    short

nothing_is_no_stop : is_stop [] ≡ false
unfolding is_stop
nothing_is_no_stop = refl

pub shortest : (bytes : List ℕ) → IsShortest bytes (stop_of bytes)
shortest bytes = record {
  begins = stop_begins [] bytes;
  ends = stop_ends [] bytes;
  first = λ front rest same less. stop_first [] bytes front rest nothing_is_no_stop same less;
}

-- a head says one number of bytes
one_number : (bytes : List ℕ) (n m : ℕ) → IsHead bytes n → IsHead bytes m → n ≡ m
one_number bytes n m (h, x, said) (k, y, told) =
    let same = request_unique bytes h k [] [] x.reads y.reads in
    let both : Some n ≡ Some m = sym said ∙ (ap (λ t. body_length (map name_and_value t.fields)) same.0
    ∙ told) in cc both

pub one_cut : (bytes a b : List ℕ) → IsCut bytes a → IsCut bytes b → a ≡ b
one_cut bytes a b (inl (n, x, e)) (inl (m, y, f)) =
    e ∙ (ap (λ k. take (length (stop_of bytes) + k) bytes) (one_number (stop_of bytes) n m x y) ∙ sym f)
one_cut bytes a b (inl (n, x, e)) (inr (none, f)) = absurd (none n x)
one_cut bytes a b (inr (none, e)) (inl (m, y, f)) = absurd (none m y)
one_cut bytes a b (inr (none, e)) (inr (nothing, f)) = e ∙ sym f

pub cut_begins : (bytes cut : List ℕ) → IsCut bytes cut → Begins cut bytes
cut_begins bytes cut (inl (n, x, e)) =
    let k = length (stop_of bytes) + n in
    (drop k bytes, sym (take-append-drop k bytes) ∙ ap (λ l. l ++ drop k bytes) (sym e))
cut_begins bytes cut (inr (none, e)) = subst (λ c. Begins c bytes) (sym e) (stop_begins [] bytes)

-- a stop is no shorter than the front that it is looked for behind
stop_length : (front bytes : List ℕ) → length front ≤ length (stop_from front bytes)
stop_length front [] = omega arith
stop_length front (b ∷ bytes) =
    choose (λ s. length front ≤ length s) (is_stop (front ++ b ∷ [])) (front ++ b ∷ [])
    (stop_from (front ++ b ∷ []) bytes)
    (λ _. omega (arith, length-append front (b ∷ [])))
    (λ _. omega (arith, length-append front (b ∷ []), stop_length (front ++ b ∷ []) bytes))

-- a stop that is not all of the bytes stays the stop of it and other bytes
stop_stays : (front more rest other : List ℕ) → 0 < length rest
    → stop_from front (more ++ rest) ≡ front ++ more → stop_from front (more ++ other) ≡ front ++ more
stop_stays front [] [] other some is = absurd (omega arith)
stop_stays front [] (r ∷ rest) other some is =
    absurd (choose (λ s. s ≡ front ++ [] → ⊥) (is_stop (front ++ r ∷ [])) (front ++ r ∷ [])
    (stop_from (front ++ r ∷ []) rest)
    (λ _ e. absurd (omega (arith, ap length e, length-append front (r ∷ []), length-append front [])))
    (λ _ e. absurd (omega (
      arith,
      ap length e,
      length-append front (r ∷ []),
      length-append front [],
      stop_length (front ++ r ∷ []) rest,
    )))
    is)
stop_stays front (m ∷ more) rest other some is =
    by_test (is_stop (front ++ m ∷ [])) (λ e. stop_stays (front ++ m ∷ []) more rest other some e) is
  where
    again : (front ++ m ∷ []) ++ more ≡ front ++ m ∷ more
    again = append_assoc front (m ∷ []) more

    by_test : (b : Bool)
        → (stop_from (front ++ m ∷ []) (more ++ rest) ≡ (front ++ m ∷ []) ++ more
        → stop_from (front ++ m ∷ []) (more ++ other) ≡ (front ++ m ∷ []) ++ more)
        → cond b (front ++ m ∷ []) (stop_from (front ++ m ∷ []) (more ++ rest)) ≡ front ++ m ∷ more
        → cond b (front ++ m ∷ []) (stop_from (front ++ m ∷ []) (more ++ other)) ≡ front ++ m ∷ more
    by_test true later e = e
    by_test false later e = later (e ∙ sym again) ∙ again

-- a beginning that is no longer than another is a beginning of it
front_of_front : (cut rest front r : List ℕ) → cut ++ rest ≡ front ++ r → length front ≤ length cut
    → cut ≡ front ++ drop (length front) cut
front_of_front cut rest front r same short =
    let here : take (length front) cut ≡ front = sym (take-append-le (length front) cut rest short)
    ∙ (ap (take (length front)) same ∙ take_at front r (length front) refl) in
    sym (take-append-drop (length front) cut) ∙ ap (λ l. l ++ drop (length front) cut) here

-- what is behind a stop within the cut changes nothing of the stop
stop_in_cut : (cut rest other stop : List ℕ) → 0 < length rest → stop_of (cut ++ rest) ≡ stop
    → cut ≡ stop ++ drop (length stop) cut → stop_of (cut ++ other) ≡ stop
stop_in_cut cut rest other stop some is split =
    let body = drop (length stop) cut in
    let before : cut ++ rest ≡ stop ++ (body ++ rest) = ap (λ l. l ++ rest) split
    ∙ append_assoc stop body rest in
    let after : cut ++ other ≡ stop ++ (body ++ other) = ap (λ l. l ++ other) split
    ∙ append_assoc stop body other in
    ap stop_of after ∙ stop_stays [] stop (body ++ rest) (body ++ other)
    (omega (arith, length-append body rest, some)) (sym (ap stop_of before) ∙ is)

pub cut_stays : (cut rest other : List ℕ) → 0 < length rest → IsCut (cut ++ rest) cut
    → IsCut (cut ++ other) cut
cut_stays cut rest other some (inl (n, x, e)) =
    let stop = stop_of (cut ++ rest) in
    let whole : length cut ≡ length stop + n =
    omega (arith, ap length e, length-take (length stop + n) (cut ++ rest), length-append cut rest, some)
    in
    let begins = stop_begins [] (cut ++ rest) in
    let split : cut ≡ stop ++ drop (length stop) cut = front_of_front cut rest stop begins.0 begins.1
    (omega (arith, whole)) in
    let same : stop_of (cut ++ other) ≡ stop = stop_in_cut cut rest other stop some refl split in
    inl (
      n,
      subst (λ s. IsHead s n) (sym same) x,
      sym (take_at cut other (length stop + n) whole)
          ∙ ap (λ s. take (length s + n) (cut ++ other)) (sym same),
    )
cut_stays cut rest other some (inr (none, e)) =
    let same : stop_of (cut ++ other) ≡ cut = stop_stays [] cut rest other some (sym e) in
    inr ((λ m y. none m (subst (λ s. IsHead s m) (same ∙ e) y)), sym same)
