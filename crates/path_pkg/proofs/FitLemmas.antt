-- The entries of a package fit, since its records do.
use Rattle.std.proofs.Common.{◌≡◌, ℕ, ◌≤◌, List, [], ◌∷◌, length, Bool, true, false, ◌&&◌, nat_le, ◌==◌, refl}
use Rattle.std.proofs.Common.{arith}
use Rattle.std.specs.List.{list_all, filter_map}
use Rattle.std.specs.BTreeMap.{insert_entry}
use Rattle.std.specs.Cmp.Lexicographic.{slice_cmp}
use Rattle.std.specs.Ordering.{nat_cmp}
use Rattle.std.specs.declared.cmp.Ordering.{Ordering}
use Rattle.std.specs.declared.cmp.Ordering.TheVariants.{Less, Equal, Greater}
use Rattle.std.proofs.lemmas.Bool.Decides.{nat_tests}
use Rattle.path_pkg.specs.Records.{record_fits, RecordsFit}
use Rattle.path_pkg.specs.Written.{Entry, put, put_all, rank_of, entry_of, in_rank, sorted, EntriesFit}
use Rattle.path_pkg.specs.declared.record.Record.{Record}
use Rattle.path_pkg.specs.declared.record.Record.TheVariants.{Dir, File, Link}

put_fits : (es : List Entry) (k v : List ℕ) → EntriesFit es → length k ≤ 65535 → length v ≤ 65535
    → EntriesFit (insert_entry (slice_cmp nat_cmp) es k v)
put_fits [] k v fit hk hv = (hk, hv, tt)
put_fits (e ∷ es) k v fit hk hv = by_order (slice_cmp nat_cmp k e.0) refl (put_fits es k v fit.2 hk hv)
  where
    by_order : (o : Ordering) → slice_cmp nat_cmp k e.0 ≡ o
        → EntriesFit (insert_entry (slice_cmp nat_cmp) es k v)
        → EntriesFit (insert_entry (slice_cmp nat_cmp) (e ∷ es) k v)
    by_order Less h later = rw h (hk, hv, fit)
    by_order Equal h later = rw h (fit.0, hv, fit.2)
    by_order Greater h later = rw h (fit.0, fit.1, later)

put_all_fits : (es fs : List Entry) → EntriesFit es → EntriesFit fs → EntriesFit (put_all es fs)
put_all_fits es [] he hf = he
put_all_fits es (f ∷ fs) he hf = put_all_fits (put es f) fs (put_fits es f.0 f.1 he hf.0 hf.1) hf.2

both : (a b : Bool) → (a && b) ≡ true → (a ≡ true) × (b ≡ true)
both true b h = (refl, h)
both false b h = absurd (cc)

at_most : (n : ℕ) → nat_le n 65535 ≡ true → n ≤ 65535
at_most n h = grind (arith, nat_tests)

one_fits : (r : Record) → record_fits r ≡ true → (length (entry_of r).0 ≤ 65535)
    × (length (entry_of r).1 ≤ 65535)
one_fits (Dir path) h = (at_most (length path) h, omega arith)
one_fits (File path) h = (at_most (length path) h, omega arith)
one_fits (Link path target) h = let p = both (nat_le (length path) 65535) (nat_le (length target) 65535) h
    in (at_most (length path) p.0, at_most (length target) p.1)

ranked_fits : (rank : ℕ) (records : List Record) → RecordsFit records
    → EntriesFit (filter_map (in_rank rank) records)
ranked_fits rank [] fit = tt
ranked_fits rank (r ∷ records) fit =
    by_rank (rank_of r == rank) refl (both (record_fits r) (list_all record_fits records) fit).0
    (ranked_fits rank records (both (record_fits r) (list_all record_fits records) fit).1)
  where
    by_rank : (b : Bool) → (rank_of r == rank) ≡ b → record_fits r ≡ true
        → EntriesFit (filter_map (in_rank rank) records)
        → EntriesFit (filter_map (in_rank rank) (r ∷ records))
    by_rank true h here later = rw h ((one_fits r here).0, (one_fits r here).1, later)
    by_rank false h here later = rw h later

pub sorted_fits : (rank : ℕ) (records : List Record) → RecordsFit records → EntriesFit (sorted rank records)
unfolding sorted
sorted_fits rank records fit = put_all_fits [] (filter_map (in_rank rank) records) tt
    (ranked_fits rank records fit)
