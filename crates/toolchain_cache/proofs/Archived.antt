-- What an opening lists of archives.
use Rattle.std.proofs.Common.{◌≡◌, ℕ, ◌≤◌, cond, nat_le, List, [], ◌∷◌, filter, refl, ap, ◌∙◌, arith, le-leb}
use Rattle.std.proofs.lemmas.List.Sums.{sum_by-cons}
use Rattle.listed_files.specs.Entries.{total, trim}
use Rattle.toolchain_cache.specs.Archives.{Archives}
use Rattle.toolchain_cache.specs.Archiving.{ArchivesReopen}
use Rattle.listed_files.proofs.Trims.{trim_fits}

-- of archives that fit together each fits
all_small : (capacity : ℕ) (es : Archives) → total es ≤ capacity
    → filter (λ (a : List ℕ × ℕ). nat_le a.1 capacity) es ≡ es
all_small capacity [] fits = refl
all_small capacity (e ∷ es) fits =
    let sum = sum_by-cons (λ (x : List ℕ × ℕ). x.1) e es in
    let one : e.1 ≤ capacity = omega (arith, fits, sum) in
    ap (λ b. cond b (e ∷ filter (λ (a : List ℕ × ℕ). nat_le a.1 capacity) es)
    (filter (λ (a : List ℕ × ℕ). nat_le a.1 capacity) es)) (le-leb e.1 capacity one)
    ∙ ap (λ l. e ∷ l) (all_small capacity es (omega (arith, fits, sum)))

pub archives_reopen : ArchivesReopen
archives_reopen path capacity files archives in_step fits =
    ap (λ l. trim capacity (filter (λ (a : List ℕ × ℕ). nat_le a.1 capacity) l)) in_step
    ∙ (ap (trim capacity) (all_small capacity archives fits) ∙ trim_fits archives capacity fits)
