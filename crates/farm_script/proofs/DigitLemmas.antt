-- Reading digits one after the other, as a loop does.
use Rattle.std.proofs.Common.{◌≡◌, ℕ, ◌+◌, ◌<◌, ◌≤◌, List, length, get_or, drop, Option, Some, sym, ap, ◌∙◌}
use Rattle.std.proofs.lemmas.List.{at_drop_more, at_drop_all}
use Rattle.line_program.specs.declared.fault.LineFault.{LineFault}
use Rattle.line_program.specs.declared.fault.LineFault.TheVariants as faults
use Rattle.dist_types.specs.Addr.{◌>>=◌}
use Rattle.farm_script.specs.Reading.{Fails}
use Rattle.farm_script.specs.Fields.{append_digit, digits_on}

one : (n i : ℕ) (word : List ℕ) → i < length word
    → digits_on n (drop i word) ≡ (append_digit n (get_or word i 0) >>= λ k. digits_on k (drop (i + 1) word))
unfolding digits_on
one n i word lt = at_drop_more (digits_on n) word i 0 lt

pub digits_step : (n i : ℕ) (word : List ℕ) (m : ℕ) (total : Option ℕ) → i < length word
    → append_digit n (get_or word i 0) ≡ Some m
    → digits_on n (drop i word) ≡ total → digits_on m (drop (i + 1) word) ≡ total
digits_step n i word m total lt e so_far =
    sym (one n i word lt ∙ ap (λ (o : Option ℕ). o >>= λ k. digits_on k (drop (i + 1) word)) e) ∙ so_far

pub digits_stop : (fault : LineFault) (n i : ℕ) (word : List ℕ) (total : Option ℕ) → i < length word
    → Fails fault (append_digit n (get_or word i 0))
    → digits_on n (drop i word) ≡ total → Fails fault total
digits_stop faults.Memory n i word total lt e so_far = tt
digits_stop faults.Bad n i word total lt e so_far = sym so_far ∙ one n i word lt
    ∙ ap (λ (o : Option ℕ). o >>= λ k. digits_on k (drop (i + 1) word)) e

pub digits_done : (n i : ℕ) (word : List ℕ) (total : Option ℕ) → length word ≤ i
    → digits_on n (drop i word) ≡ total → total ≡ Some n
unfolding digits_on
digits_done n i word total le so_far = sym so_far ∙ at_drop_all (digits_on n) word i le
