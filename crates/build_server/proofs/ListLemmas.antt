-- Archives that go from the front.
use Rattle.std.proofs.Common.{◌≡◌, ℕ, ◌-◌, ◌≤◌, Bool, true, false, cond, List, [], ◌∷◌, ◌++◌, length, take}
use Rattle.std.proofs.Common.{Some, refl, sym, ◌∙◌, ap, arith, length-append}
use Rattle.std.specs.Prelude.{nat_le, not, is_some, ◌||◌}
use Rattle.std.specs.List.{AllByRecursion, IsDistinct, list_any}
use Rattle.std.specs.Map.{keys_of, lookup, remove_entry}
use Rattle.std.specs.Str.{bytes_eq}
use Rattle.std.proofs.Math.Seq.{take-append_seam}
use Rattle.std.proofs.lemmas.List.{length-map}
use Rattle.std.proofs.lemmas.Bool.{true≢false}
use Rattle.std.proofs.lemmas.Slice.Eq.{bytes_eq-Decides}
use Rattle.toolchain_cache.specs.Archives.{Archives}
use Rattle.listed_files.specs.Disk.{dropped, without_key}
use Rattle.listed_files.specs.Entries.{total, trim}
use Rattle.build_server.specs.Books.{ids, without_ids, is_listed}

-- what is not listed needs not be taken out
pub without_unlisted : (tc : List ℕ) (xs : Archives) → is_listed tc xs ≡ false → without_key tc xs ≡ xs
without_unlisted tc [] e = refl
without_unlisted tc (a ∷ xs) e = by (bytes_eq tc a.0) (without_unlisted tc xs) e
  where
    by : (b : Bool) → (is_some (lookup (bytes_eq tc) xs) ≡ false → remove_entry (bytes_eq tc) xs ≡ xs)
        → is_some (cond b (Some a.1) (lookup (bytes_eq tc) xs)) ≡ false
        → cond b xs (a ∷ remove_entry (bytes_eq tc) xs) ≡ a ∷ xs
    by true rest e = absurd (true≢false e)
    by false rest e = ap (λ l. a ∷ l) (rest e)

-- what is dropped and what stays are all
pub dropped-trim : (limit : ℕ) (xs : Archives) → dropped limit xs ++ trim limit xs ≡ xs
dropped-trim limit [] = refl
dropped-trim limit (a ∷ xs) = by (nat_le (total (a ∷ xs)) limit) (dropped-trim limit xs)
  where
    by : (b : Bool) → dropped limit xs ++ trim limit xs ≡ xs
        → cond b [] (a ∷ dropped limit xs) ++ cond b (a ∷ xs) (trim limit xs) ≡ a ∷ xs
    by true rest = refl
    by false rest = ap (λ l. a ∷ l) rest

-- an id that no archive has may be left out of those that go
other_ids : (x : List ℕ) (gone : List (List ℕ)) (xs : Archives)
    → AllByRecursion (λ y. bytes_eq x y ≡ false) (keys_of xs)
    → without_ids (x ∷ gone) xs ≡ without_ids gone xs
other_ids x gone [] h = refl
other_ids x gone (a ∷ xs) h = by (bytes_eq a.0 x) (list_any (bytes_eq a.0) gone) (flip x a.0 h.0)
    (other_ids x gone xs h.1)
  where
    flip : (x y : List ℕ) → bytes_eq x y ≡ false → bytes_eq y x ≡ false
    flip x y h = other (bytes_eq y x) refl
      where
        other : (b : Bool) → bytes_eq y x ≡ b → b ≡ false
        other true is = absurd (true≢false (sym
            ((bytes_eq-Decides x y).1 (sym ((bytes_eq-Decides y x).0 is))) ∙ h))
        other false is = refl

    by : (this other : Bool) → this ≡ false → without_ids (x ∷ gone) xs ≡ without_ids gone xs
        → cond (not (this || other)) (a ∷ without_ids (x ∷ gone) xs) (without_ids (x ∷ gone) xs)
        ≡ cond (not other) (a ∷ without_ids gone xs) (without_ids gone xs)
    by true other e rest = absurd (true≢false e)
    by false true e rest = rest
    by false false e rest = ap (λ l. a ∷ l) rest

-- where ids differ, those that go from the front leave the others
pub gone_out : (gone rest : Archives) → IsDistinct bytes_eq (keys_of (gone ++ rest))
    → without_ids (ids gone) (gone ++ rest) ≡ rest
unfolding IsDistinct
gone_out [] rest h = none rest
  where
    none : (xs : Archives) → without_ids [] xs ≡ xs
    none [] = refl
    none (a ∷ xs) = ap (λ l. a ∷ l) (none xs)
gone_out (a ∷ gone) rest h =
    ap (λ b. cond (not (b || list_any (bytes_eq a.0) (ids gone)))
    (a ∷ without_ids (a.0 ∷ ids gone) (gone ++ rest)) (without_ids (a.0 ∷ ids gone) (gone ++ rest)))
    ((bytes_eq-Decides a.0 a.0).1 refl)
    ∙ (other_ids a.0 (ids gone) (gone ++ rest) h.0 ∙ gone_out gone rest h.1)

pub none_gone : (xs : Archives) → without_ids [] xs ≡ xs
none_gone [] = refl
none_gone (a ∷ xs) = ap (λ l. a ∷ l) (none_gone xs)

trim_short : (limit : ℕ) (xs : Archives) → length (trim limit xs) ≤ length xs
trim_short limit xs = omega (
  arith,
  ap length (dropped-trim limit xs),
  length-append (dropped limit xs)
      (trim limit xs),
)

-- Some that went from the front, none more than had to go, are a front of those that go.
pub front_of_dropped : (limit : ℕ) (gone rest : Archives) → trim limit rest ≡ trim limit (gone ++ rest)
    → (more : Archives) × (dropped limit (gone ++ rest) ≡ gone ++ more)
front_of_dropped limit [] rest h = (dropped limit rest, refl)
front_of_dropped limit (a ∷ gone) rest h = by (nat_le (total (a ∷ (gone ++ rest))) limit) h
    (λ e. front_of_dropped limit gone rest e)
  where
    by : (b : Bool) → trim limit rest ≡ cond b (a ∷ (gone ++ rest)) (trim limit (gone ++ rest))
        → (trim limit rest ≡ trim limit (gone ++ rest)
        → (more : Archives) × (dropped limit (gone ++ rest) ≡ gone ++ more))
        → (more : Archives) × (cond b [] (a ∷ dropped limit (gone ++ rest)) ≡ a ∷ (gone ++ more))
    by true h later = absurd (omega (arith, ap length h, trim_short limit rest, length-append gone rest))
    by false h later = let f = later h in (f.0, ap (λ l. a ∷ l) f.1)

pub ids-append : (xs bs : Archives) → ids (xs ++ bs) ≡ ids xs ++ ids bs
ids-append [] bs = refl
ids-append (a ∷ xs) bs = ap (λ l. a.0 ∷ l) (ids-append xs bs)

-- a front that is xs long xs what went
pub take_front : (n : ℕ) (gone rest : Archives) (more : List (List ℕ))
    → n ≡ length (gone ++ rest) - length rest → take n (ids gone ++ more) ≡ ids gone
take_front n gone rest more e =
    let f : n ≡ length (ids gone) = omega (arith, length-append gone rest, length-map gone (λ a. a.0)) in
    ap (λ k. take k (ids gone ++ more)) f ∙ take-append_seam (ids gone) more
