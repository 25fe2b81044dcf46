-- What an opening lists.
use Rattle.std.proofs.Common.{◌≡◌, ℕ, ◌≤◌, Bool, true, false, cond, ◌&&◌, nat_le, List, [], ◌∷◌, filter, refl}
use Rattle.std.proofs.Common.{sym, ap, subst, ◌∙◌, arith, le-leb}
use Rattle.std.proofs.lemmas.List.Sums.{sum_by-cons}
use Rattle.folders.specs.Files.{found_behind}
use Rattle.listed_files.specs.Key.{is_key}
use Rattle.listed_files.specs.Entries.{Entries, total, trim}
use Rattle.listed_files.specs.Opened.{keyed, is_kept, kept, Reopens}
use Rattle.listed_files.proofs.Trims.{trim_fits}

-- of entries whose keys all fit, those are kept that are keys
kept_keys : (capacity : ℕ) (es : Entries) → total (filter (λ e. is_key e.0) es) ≤ capacity
    → filter (is_kept capacity) es ≡ filter (λ e. is_key e.0) es
kept_keys capacity [] fits = refl
kept_keys capacity (e ∷ es) fits = by (is_key e.0) fits (kept_keys capacity es)
  where
    by : (b : Bool) → total (cond b (e ∷ filter (λ e. is_key e.0) es) (filter (λ e. is_key e.0) es))
        ≤ capacity
        → (total (filter (λ e. is_key e.0) es) ≤ capacity → filter (is_kept capacity) es ≡ filter
        (λ e. is_key e.0) es)
        → cond (b && nat_le e.1 capacity) (e ∷ filter (is_kept capacity) es) (filter (is_kept capacity) es)
        ≡ cond b (e ∷ filter (λ e. is_key e.0) es) (filter (λ e. is_key e.0) es)
    by false fits rest = rest fits
    by true fits rest =
        let sum = sum_by-cons (λ (x : List ℕ × ℕ). x.1) e (filter (λ e. is_key e.0) es) in
        let one : e.1 ≤ capacity = omega (arith, fits, sum) in
        ap (λ b. cond b (e ∷ filter (is_kept capacity) es) (filter (is_kept capacity) es))
        (le-leb e.1 capacity one)
        ∙ ap (λ l. e ∷ l) (rest (omega (arith, fits, sum)))

pub reopens : Reopens
reopens root capacity files entries in_step fits =
    let same : kept root capacity (found_behind root files) ≡ entries =
    kept_keys capacity (keyed root (found_behind root files))
    (subst (λ l. total l ≤ capacity) (sym in_step) fits) ∙ in_step in
    ap (trim capacity) same ∙ trim_fits entries capacity fits
