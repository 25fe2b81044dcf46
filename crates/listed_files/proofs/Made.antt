-- What the files are exactly once the least recent entries are dropped.
use Rattle.std.proofs.Common.{◌≡◌, ℕ, ◌<◌, ◌≤◌, Bool, true, false, cond, nat_le, List, [], ◌∷◌, ◌++◌, take}
use Rattle.std.proofs.Common.{drop, Option, Some, None, refl, sym}
use Rattle.std.proofs.Common.{ap, ◌∙◌, arith, le-leb, leb-true}
use Rattle.std.specs.Option.{option_map}
use Rattle.folders.specs.Files.{Files, without}
use Rattle.folders.specs.Held.{BecameBy}
use Rattle.listed_files.specs.Entries.{Entries, Listed, total}
use Rattle.listed_files.specs.Disk.{dropped, without_each}
use Rattle.folders.proofs.Exactly.{made_then}

pub each_then : (root : List ℕ) (xs ys : Entries) (files : Files)
    → without_each root (xs ++ ys) files ≡ without_each root ys (without_each root xs files)
each_then root [] ys files = refl
each_then root (x ∷ xs) ys files = each_then root xs ys (without (root ++ x.0) files)

-- the first goes where the sizes are past the limit
pub dropped_more : (limit : ℕ) (es : Entries) → limit < total es
    → take 1 es ++ dropped limit (drop 1 es) ≡ dropped limit es
dropped_more limit [] over = absurd (omega (arith, over))
dropped_more limit (e ∷ es) over = by (nat_le (total (e ∷ es)) limit) refl
  where
    by : (b : Bool) → nat_le (total (e ∷ es)) limit ≡ b → e ∷ dropped limit es ≡ cond b []
        (e ∷ dropped limit es)
    by true is = absurd (omega (arith, over, leb-true (total (e ∷ es)) limit is))
    by false is = refl

pub none_dropped : (limit : ℕ) (es : Entries) → total es ≤ limit → dropped limit es ≡ []
none_dropped limit [] fits = refl
none_dropped limit (e ∷ es) fits = ap (λ b. cond b [] (e ∷ dropped limit es))
    (le-leb (total (e ∷ es)) limit fits)

-- what is still to go makes of the files what all that had to go makes of those at first
pub still_made : (root : List ℕ) (limit : ℕ) (first one two : Listed) (start old new : Option Files)
    → limit < total one.entries → two ≡ record one { entries = drop 1 one.entries }
    → option_map (without_each root (dropped limit one.entries)) old ≡ option_map
    (without_each root (dropped limit first.entries)) start
    → BecameBy (without_each root (take 1 one.entries)) old new
    → option_map (without_each root (dropped limit two.entries)) new ≡ option_map
    (without_each root (dropped limit first.entries)) start
still_made root limit first one two start old new over is so_far step =
    let now : two.entries ≡ drop 1 one.entries = ap (λ t. t.entries) is in
    ap (λ l. option_map (without_each root (dropped limit l)) new) now
    ∙ (made_then (without_each root (take 1 one.entries))
    (without_each root (dropped limit (drop 1 one.entries))) old new
    (option_map (without_each root (dropped limit (drop 1 one.entries))) new) step refl
    ∙ (by old ∙ so_far))
  where
    by : (o : Option Files) → option_map
        (λ x. without_each root (dropped limit (drop 1 one.entries))
        (without_each root (take 1 one.entries) x)) o ≡ option_map
        (without_each root (dropped limit one.entries)) o
    by None = refl
    by (Some x) = ap Some (sym (each_then root (take 1 one.entries) (dropped limit (drop 1 one.entries)) x)
        ∙ ap (λ l. without_each root l x) (dropped_more limit one.entries over))

pub all_made : (root : List ℕ) (limit : ℕ) (first last : Entries) (start now : Option Files)
    → total last ≤ limit → option_map (without_each root (dropped limit last)) now ≡ option_map
    (without_each root (dropped limit first)) start → BecameBy
    (without_each root (dropped limit first)) start now
all_made root limit first last start now fits h =
    sym (by now) ∙ (ap (λ l. option_map (without_each root l) now) (sym (none_dropped limit last fits)) ∙ h)
  where
    by : (o : Option Files) → option_map (without_each root []) o ≡ o
    by None = refl
    by (Some x) = refl
