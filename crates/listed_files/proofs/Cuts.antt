-- What taking out the least recent leaves, where a key is awaited behind them.
use Rattle.std.proofs.Common.{◌≡◌, ℕ, zero, suc, ◌+◌, ◌<◌, ◌≤◌, Bool, true, false, cond, nat_le, List, [], ◌∷◌}
use Rattle.std.proofs.Common.{◌++◌, length, take, drop, Option, Some, None, Result, Ok, Err, OnOk, OnErr}
use Rattle.std.proofs.Common.{refl, sym, ap, subst, ◌∙◌, arith, length-append, take-append-drop, take_all}
use Rattle.std.proofs.Common.{drop_at, append_assoc, get_or, inl, inr}
use Rattle.std.proofs.lemmas.List.{drop-append-le, length-map, append-nil}
use Rattle.std.proofs.lemmas.List.Sums.{sum_by-cons}
use Rattle.std.proofs.lemmas.Slice.Eq.{bytes_eq-Decides}
use Rattle.std.specs.List.{AllByRecursion, IsDistinct}
use Rattle.std.specs.Map.{keys_of, lookup}
use Rattle.std.specs.Str.{bytes_eq}
use Rattle.dist_types.specs.declared.folder_fault.FolderFault.{FolderFault}
use Rattle.folders.specs.Changed.{OnlyRemoved}
use Rattle.folders.specs.Files.{Files, file_at, without, DoneOrNot}
use Rattle.folders.specs.Held.{Held, Became, BecameBy}
use Rattle.folders.proofs.Became.{became_map}
use Rattle.folders.proofs.Exactly.{made_is, without_was}
use Rattle.folders.proofs.Lookups.{without_other}
use Rattle.listed_files.specs.Arriving.{awaited, paths_of, without_paths, Cut}
use Rattle.listed_files.specs.Disk.{Stands, Avoids, Keeps, ButListed, Drops, dropped, without_each, without_key}
use Rattle.listed_files.specs.Entries.{Entries, Listed, total, trim, IsEnd}
use Rattle.listed_files.proofs.Fills.{stands_kept}
use Rattle.listed_files.proofs.Listings.{none_out}
use Rattle.listed_files.proofs.Made.{dropped_more, none_dropped}
use Rattle.listed_files.proofs.Outs.{dropped_and_rest, distinct_out, out_once}
use Rattle.listed_files.proofs.Standing.{all_both, all_end, apart_paths, kept_none, keeps_end}
use Rattle.listed_files.proofs.Standing.{stands_removed}
use Rattle.listed_files.proofs.Trims.{absent_end, unpushed}

-- ---- the files at the paths of entries

pub each_path : (root : List ℕ) (gone : Entries) (fs : Files)
    → without_paths (paths_of root gone) fs ≡ without_each root gone fs
each_path root [] fs = refl
each_path root (e ∷ es) fs = each_path root es (without (root ++ e.0) fs)

take_paths : (root : List ℕ) (n : ℕ) (es : Entries) → take n (paths_of root es) ≡ paths_of root (take n es)
take_paths root zero es = refl
take_paths root (suc n) [] = refl
take_paths root (suc n) (e ∷ es) = ap (λ l. (root ++ e.0) ∷ l) (take_paths root n es)

each_other : (root q : List ℕ) (gone : Entries) (fs : Files) → Avoids root q gone
    → file_at (without_each root gone fs) q ≡ file_at fs q
each_other root q [] fs away = refl
each_other root q (g ∷ gone) fs away =
    each_other root q gone (without (root ++ g.0) fs) away.1 ∙ without_other (root ++ g.0) q fs away.0

each_was : (root : List ℕ) (gone : Entries) (fs : Files) → OnlyRemoved fs (without_each root gone fs)
each_was root [] fs q b found = found
each_was root (g ∷ gone) fs q b found =
    without_was (root ++ g.0) q b fs (each_was root gone (without (root ++ g.0) fs) q b found)

-- those behind keep theirs
keeps_behind : (root : List ℕ) (gone rest : Entries) (fs : Files)
    → IsDistinct bytes_eq (keys_of (gone ++ rest)) → Keeps root rest fs (without_each root gone fs)
unfolding IsDistinct
keeps_behind root [] rest fs d = kept_none root rest fs
keeps_behind root (g ∷ gone) rest fs d =
    let away = all_end (λ e. bytes_eq (root ++ g.0) (root ++ e.0) ≡ false) gone rest
    (apart_paths root g.0 (gone ++ rest) d.0) in
    all_both rest away (keeps_behind root gone rest (without (root ++ g.0) fs) d.1)
    (λ e other same. same ∙ without_other (root ++ g.0) (root ++ e.0) fs other)

-- ---- one path behind others

take_next : (paths : List (List ℕ)) (i : ℕ) (p : List ℕ) → i < length paths → p ≡ get_or paths i p
    → take (suc i) paths ≡ take i paths ++ p ∷ []
take_next [] i p within is = absurd (omega (arith, within))
take_next (x ∷ paths) zero p within is = ap (λ y. y ∷ []) (sym is)
take_next (x ∷ paths) (suc i) p within is =
    ap (λ l. x ∷ l) (take_next paths i p (omega (arith, within)) is)

paths_then : (paths : List (List ℕ)) (p : List ℕ) (fs : Files)
    → without_paths (paths ++ p ∷ []) fs ≡ without p (without_paths paths fs)
paths_then [] p fs = refl
paths_then (q ∷ paths) p fs = paths_then paths p (without q fs)

module _ (paths : List (List ℕ)) (i : ℕ) (p : List ℕ) (within : i < length paths) (is : p ≡ get_or paths i p) where
  one_out : (fs : Files) → without_paths (take (i + 1) paths) fs ≡ without p (without_paths (take i paths) fs)
  one_out fs =
      let next : i + 1 ≡ suc i = omega arith in
      ap (λ k. without_paths (take k paths) fs) next
      ∙ (ap (λ ps. without_paths ps fs) (take_next paths i p within is) ∙ paths_then (take i paths) p fs)

  pub one_more : (one two three : Option Files) → BecameBy (without_paths (take i paths)) one two
      → Became (λ f g. g ≡ without p f) two three → BecameBy (without_paths (take (i + 1) paths)) one three
  one_more None two three so_far step = subst (λ o. Became (λ f g. g ≡ without p f) o three) so_far step
  one_more (Some f) two three so_far step =
      let now = subst (λ o. Became (λ f g. g ≡ without p f) o three) so_far step in
      now.1 ∙ ap Some (now.2 ∙ sym (one_out f))

  -- its removal fails
  pub cut_short : (e : FolderFault) (es now : Entries) (one two three : Option Files) → now ≡ drop (i + 1) es
      → BecameBy (without_paths (take i paths)) one two → Became (DoneOrNot (without p)) two three
      → Cut (Err e) paths es now one three
  cut_short e es now None two three rest so_far step = record {
    out = i + 1;
    gone = i;
    within = omega (arith, within);
    behind = omega arith;
    rest = rest;
    files = subst (λ o. Became (DoneOrNot (without p)) o three) so_far step;
    all = tt;
    some = omega arith;
  }
  cut_short e es now (Some f) two three rest so_far step =
      let left = subst (λ o. Became (DoneOrNot (without p)) o three) so_far step in
      elim left.2 [
        | inl same ↦ record {
          out = i + 1;
          gone = i;
          within = omega (arith, within);
          behind = omega arith;
          rest = rest;
          files = left.1 ∙ ap Some same;
          all = tt;
          some = omega arith;
        }
        | inr done ↦ record {
          out = i + 1;
          gone = i + 1;
          within = omega (arith, within);
          behind = omega arith;
          rest = rest;
          files = left.1 ∙ ap Some (done ∙ sym (one_out f));
          all = tt;
          some = omega arith;
        }
      ]

-- all went
pub cut_whole : (paths : List (List ℕ)) (i : ℕ) (es now : Entries) (one two : Option Files) → i ≡ length paths
    → now ≡ drop i es → BecameBy (without_paths (take i paths)) one two → Cut (Ok tt) paths es now one two
cut_whole paths i es now one two end rest files = record {
  out = i;
  gone = i;
  within = omega (arith, end);
  behind = omega arith;
  rest = rest;
  files = files;
  all = (end, end);
  some = tt;
}

-- ---- which paths these are

-- none is left to go
pub none_left : (root key : List ℕ) (limit : ℕ) (paths target : List (List ℕ)) (rest : ℕ) (es : Entries)
    → rest ≡ total (without_key key es) → rest ≤ limit
    → paths ++ paths_of root (dropped limit (without_key key es)) ≡ target → paths ≡ target
none_left root key limit paths target rest es is fits so_far =
    let none = none_dropped limit (without_key key es) (omega (arith, is, fits)) in
    sym (append-nil paths) ∙ (ap (λ gone. paths ++ paths_of root gone) (sym none) ∙ so_far)

module _ (key : List ℕ) (limit : ℕ) (k : List ℕ) (n : ℕ) (all rest : Entries) (is : all ≡ (k, n) ∷ rest)
  where
    pub distinct_rest : IsDistinct bytes_eq (keys_of all) → IsDistinct bytes_eq (keys_of rest)
    unfolding IsDistinct
    distinct_rest d = (subst (λ l. IsDistinct bytes_eq (keys_of l)) is d).1

    -- the key itself is passed over
    pub passed : bytes_eq key k ≡ true → IsDistinct bytes_eq (keys_of all)
        → without_key key all ≡ without_key key rest
    unfolding IsDistinct
    passed same d =
        let other = subst (λ l. IsDistinct bytes_eq (keys_of l)) is d in
        let P : List ℕ → Type 0 = λ q. AllByRecursion (λ x. bytes_eq q x ≡ false) (keys_of rest) in
        ap (without_key key) is
        ∙ (ap (λ b. cond b rest ((k, n) ∷ without_key key rest)) same
        ∙ sym (out_once key rest other.1
        ∙ none_out key rest (subst P (sym ((bytes_eq-Decides key k).0 same)) other.0)))

    pub more : bytes_eq key k ≡ false → without_key key all ≡ (k, n) ∷ without_key key rest
    more other = ap (without_key key) is ∙ ap (λ b. cond b rest ((k, n) ∷ without_key key rest)) other

    pub one_less : bytes_eq key k ≡ false → total (without_key key all) ≡ n + total (without_key key rest)
    one_less other =
        ap total (more other) ∙ sum_by-cons (λ (e : List ℕ × ℕ). e.1) (k, n) (without_key key rest)

    -- another goes where the sizes are past the limit
    pub goes_too : bytes_eq key k ≡ false → limit < total (without_key key all)
        → dropped limit (without_key key all) ≡ (k, n) ∷ dropped limit (without_key key rest)
    goes_too other over =
        ap (dropped limit) (more other)
        ∙ sym (dropped_more limit ((k, n) ∷ without_key key rest)
        (subst (λ l. limit < total l) (more other) over))

    -- and its path is one
    pub path_too : (root path : List ℕ) (paths now target : List (List ℕ)) → bytes_eq key k ≡ false
        → limit < total (without_key key all) → path ≡ root ++ k → now ≡ paths ++ path ∷ []
        → paths ++ paths_of root (dropped limit (without_key key all)) ≡ target
        → now ++ paths_of root (dropped limit (without_key key rest)) ≡ target
    path_too root path paths now target other over path_is now_is so_far =
        let left = paths_of root (dropped limit (without_key key rest)) in
        ap (λ l. l ++ left) now_is
        ∙ (append_assoc paths (path ∷ []) left
        ∙ (ap (λ p. paths ++ p ∷ left) path_is
        ∙ (ap (λ gone. paths ++ paths_of root gone) (sym (goes_too other over)) ∙ so_far)))

-- ---- the entries that are left

-- what goes of what had to go leaves what stays
trim_out : (limit n : ℕ) (es : Entries) → n ≤ length (dropped limit es)
    → trim limit (drop n es) ≡ trim limit es
trim_out limit zero es h = refl
trim_out limit (suc n) [] h = refl
trim_out limit (suc n) (e ∷ es) h = by (nat_le (total (e ∷ es)) limit) h (trim_out limit n es)
  where
    by : (b : Bool) → suc n ≤ length (cond b [] (e ∷ dropped limit es))
        → (n ≤ length (dropped limit es) → trim limit (drop n es) ≡ trim limit es)
        → trim limit (drop n es) ≡ cond b (e ∷ es) (trim limit es)
    by true within rest = absurd (omega (arith, within))
    by false within rest = rest (omega (arith, within))

-- once all of that went it is what stays
all_out : (limit : ℕ) (es : Entries) → drop (length (dropped limit es)) es ≡ trim limit es
all_out limit es =
    ap (drop (length (dropped limit es))) (dropped_and_rest limit es)
    ∙ drop_at (dropped limit es) (trim limit es) (length (dropped limit es)) refl

few_dropped : (limit : ℕ) (es : Entries) → length (dropped limit es) ≤ length es
few_dropped limit es =
    omega (arith, ap length (dropped_and_rest limit es), length-append (dropped limit es) (trim limit es))

end_drop : (n : ℕ) (es : Entries) → IsEnd (drop n es) es
end_drop n es = (take n es, sym (take-append-drop n es))

-- the last that went, and those before it
last_out : (n : ℕ) (es : Entries) → 0 < n → n ≤ length es
    → (gone : Entries) × (last : List ℕ × ℕ) × (es ≡ gone ++ last ∷ drop n es)
last_out zero es some within = absurd (omega (arith, some))
last_out (suc n) [] some within = absurd (omega (arith, within))
last_out (suc zero) (e ∷ es) some within = ([], e, refl)
last_out (suc (suc n)) (e ∷ es) some within =
    let rest = last_out (suc n) es (omega arith) (omega (arith, within)) in
    (e ∷ rest.0, rest.1, ap (λ l. e ∷ l) rest.2)

-- a front of a front
take_front : (m n : ℕ) (es : Entries) → m ≤ n → IsEnd (drop n es) (drop m es)
take_front zero n es h = end_drop n es
take_front (suc m) zero es h = absurd (omega (arith, h))
take_front (suc m) (suc n) [] h = ([], refl)
take_front (suc m) (suc n) (e ∷ es) h = take_front m n es (omega (arith, h))

-- What is left where the least recent go before a key that is awaited.
pub record Cleared (root key : List ℕ) (limit capacity : ℕ) (result : Result (Unit {0}) FolderFault)
    (others now : Entries) (before after : Held) : Type 0 where
  pub drops : Drops root limit (record { capacity = capacity; entries = others })
      (record { capacity = capacity; entries = without_key key now }) before after
  pub removed : Became OnlyRemoved before.files after.files
  pub awaits : now ≡ awaited key now
  pub unlisted : lookup (bytes_eq key) others ≡ None
  pub absent : lookup (bytes_eq key) (without_key key now) ≡ None
  pub stays : OnOk result (without_key key now ≡ trim limit others)
  pub exact : OnOk result (BecameBy (without_each root (dropped limit others)) before.files after.files)
  pub some : OnErr result ((gone : Entries) × (last : List ℕ × ℕ)
      × (others ≡ gone ++ last ∷ without_key key now))

module _ (root key : List ℕ) (limit : ℕ) (others : Entries) where
  -- the files are without those of a front of what had to go
  files_out : (n : ℕ) (before after : Option Files) → n ≤ length (dropped limit others)
      → BecameBy (without_paths (take n (paths_of root (dropped limit others)))) before after
      → BecameBy (without_each root (take n (dropped limit others))) before after
  files_out n None after h is = is
  files_out n (Some f) after h is =
      is ∙ ap Some (ap (λ ps. without_paths ps f) (take_paths root n (dropped limit others))
      ∙ each_path root (take n (dropped limit others)) f)

  -- that front is one of all entries
  front_of_all : (n : ℕ) → n ≤ length (dropped limit others)
      → others ≡ take n (dropped limit others) ++ drop n others
  front_of_all n h =
      let D = dropped limit others in let whole = dropped_and_rest limit others in
      let rest : drop n others ≡ drop n D ++ trim limit others =
      ap (drop n) whole ∙ drop-append-le n D (trim limit others) h in
      whole
      ∙ (ap (λ l. l ++ trim limit others) (sym (take-append-drop n D))
      ∙ (append_assoc (take n D) (drop n D) (trim limit others) ∙ ap (λ l. take n D ++ l) (sym rest)))

  module _ (n m : ℕ) (before after : Held) (h : n ≤ length (dropped limit others)) (le : m ≤ n)
      (distinct : IsDistinct bytes_eq (keys_of others))
      (made : BecameBy (without_each root (take m (dropped limit others))) before.files after.files) where
    -- how the front that went lies before what is left
    cut : others ≡ take m (dropped limit others) ++ drop m others
    cut = front_of_all m (omega (arith, h, le))

    kept : Became (Keeps root (drop n others)) before.files after.files
    kept =
        became_map (λ f g. g ≡ without_each root (take m (dropped limit others)) f)
        (Keeps root (drop n others)) before.files after.files
        (λ f g is. subst (Keeps root (drop n others) f) (sym is)
        (keeps_end root (drop m others) (drop n others) f
        (without_each root (take m (dropped limit others)) f) (take_front m n others le)
        (keeps_behind root (take m (dropped limit others)) (drop m others) f
        (subst (λ l. IsDistinct bytes_eq (keys_of l)) cut distinct))))
        (made_is (without_each root (take m (dropped limit others))) before.files after.files made)

    spared : Became (ButListed root others) before.files after.files
    spared =
        became_map (λ f g. g ≡ without_each root (take m (dropped limit others)) f) (ButListed root others)
        before.files after.files
        (λ f g is q away. ap (λ l. file_at l q) is
        ∙ each_other root q (take m (dropped limit others)) f (front_avoids q away))
        (made_is (without_each root (take m (dropped limit others))) before.files after.files made)
      where
        all_front : (P : List ℕ × ℕ → Type 0) (xs ys : Entries) → AllByRecursion P (xs ++ ys)
            → AllByRecursion P xs
        all_front P [] ys all = tt
        all_front P (x ∷ xs) ys all = (all.0, all_front P xs ys all.1)

        front_avoids : (q : List ℕ) → Avoids root q others → Avoids root q (take m (dropped limit others))
        front_avoids q away =
            all_front (λ e. bytes_eq (root ++ e.0) q ≡ false) (take m (dropped limit others)) (drop m others)
            (subst (Avoids root q) cut away)

    fewer : Became OnlyRemoved before.files after.files
    fewer =
        became_map (λ f g. g ≡ without_each root (take m (dropped limit others)) f) OnlyRemoved
        before.files after.files
        (λ f g is. subst (OnlyRemoved f) (sym is) (each_was root (take m (dropped limit others)) f))
        (made_is (without_each root (take m (dropped limit others))) before.files after.files made)

    drops_out : (capacity : ℕ) → Stands root before others
        → Drops root limit (record { capacity = capacity; entries = others })
        (record { capacity = capacity; entries = drop n others }) before after
    drops_out capacity stands = record {
      capacity = refl;
      rest = end_drop n others;
      needed = trim_out limit n others h;
      stands = stands_kept root (drop n others) before after
          (stands_end root before others (drop n others) (end_drop n others) stands) kept;
      others = spared;
      kept = kept;
    }
      where
        stands_end : (root : List ℕ) (held : Held) (es rest : Entries) → IsEnd rest es → Stands root held es
            → Stands root held rest
        stands_end root held es rest end h = record {
          keys = all_end _ end.0 rest (subst (AllByRecursion _) end.1 h.keys);
          backed = λ files told. all_end _ end.0 rest (subst (AllByRecursion _) end.1 (h.backed files told));
        }

  -- what is left of a list that awaits a key, by how many entries went
  left_behind : (n : ℕ) (was now : Entries) → n ≤ length (dropped limit others)
      → lookup (bytes_eq key) others ≡ None → was ≡ others ++ (key, 0) ∷ [] → now ≡ drop n was
      → (now ≡ drop n others ++ (key, 0) ∷ []) × (without_key key now ≡ drop n others)
  left_behind n was now h absent was_is now_is =
      let is : now ≡ drop n others ++ (key, 0) ∷ [] =
      now_is ∙ (ap (drop n) was_is
      ∙ drop-append-le n others ((key, 0) ∷ []) (omega (arith, h, few_dropped limit others))) in (
        is,
        ap (without_key key) is
            ∙ unpushed (drop n others) key 0 (absent_end key others (drop n others) (end_drop n others) absent),
      )

  pub cleared : (capacity : ℕ) (result : Result (Unit {0}) FolderFault) (paths : List (List ℕ))
      (was now : Entries) (before after : Held) → IsDistinct bytes_eq (keys_of others)
      → lookup (bytes_eq key) others ≡ None → Stands root before others → was ≡ others ++ (key, 0) ∷ []
      → paths ≡ paths_of root (dropped limit others) → Cut result paths was now before.files after.files
      → Cleared root key limit capacity result others now before after
  cleared capacity result paths was now before after distinct absent stands was_is paths_is c =
      let D = dropped limit others in
      let long : length paths ≡ length D = ap length paths_is ∙ length-map D (λ e. root ++ e.0) in
      let within : c.out ≤ length D = omega (arith, c.within, long) in
      let few : c.gone ≤ length D = omega (arith, c.behind, within) in
      let made : BecameBy (without_each root (take c.gone D)) before.files after.files =
      files_out c.gone before.files after.files few
      (subst (λ ps. BecameBy (without_paths (take c.gone ps)) before.files after.files) paths_is c.files) in
      let left = left_behind c.out was now within absent was_is c.rest in
      let gone_absent = absent_end key others (drop c.out others) (end_drop c.out others) absent in
      record {
        drops = subst (λ l. Drops root limit (record { capacity = capacity; entries = others })
            (record { capacity = capacity; entries = l }) before after) (sym left.1)
            (drops_out c.out c.gone before after within c.behind distinct made capacity stands);
        removed = fewer c.out c.gone before after within c.behind distinct made;
        awaits = left.0 ∙ ap (λ l. l ++ (key, 0) ∷ []) (sym left.1);
        unlisted = absent;
        absent = ap (lookup (bytes_eq key)) left.1 ∙ gone_absent;
        stays = all_stays result c.all left.1 long;
        exact = all_exact result c.all long made;
        some = some_gone result c.some left.1 within;
      }
    where
      all_stays : (result : Result (Unit {0}) FolderFault)
          → OnOk result ((c.out ≡ length paths) × (c.gone ≡ length paths))
          → without_key key now ≡ drop c.out others → length paths ≡ length (dropped limit others)
          → OnOk result (without_key key now ≡ trim limit others)
      all_stays (Ok x) all is long = is ∙ (ap (λ k. drop k others) (all.0 ∙ long) ∙ all_out limit others)
      all_stays (Err e) all is long = tt

      all_exact : (result : Result (Unit {0}) FolderFault)
          → OnOk result ((c.out ≡ length paths) × (c.gone ≡ length paths))
          → length paths ≡ length (dropped limit others)
          → BecameBy (without_each root (take c.gone (dropped limit others))) before.files after.files
          → OnOk result (BecameBy (without_each root (dropped limit others)) before.files after.files)
      all_exact (Ok x) all long made =
          subst (λ l. BecameBy (without_each root l) before.files after.files)
          (take_all c.gone (dropped limit others) (omega (arith, all.1, long))) made
      all_exact (Err e) all long made = tt

      some_gone : (result : Result (Unit {0}) FolderFault) → OnErr result (0 < c.out)
          → without_key key now ≡ drop c.out others → c.out ≤ length (dropped limit others)
          → OnErr result ((gone : Entries) × (last : List ℕ × ℕ)
          × (others ≡ gone ++ last ∷ without_key key now))
      some_gone (Ok x) some is within = tt
      some_gone (Err e) some is within =
          let w = last_out c.out others some (omega (arith, within, few_dropped limit others)) in
          (w.0, w.1, w.2 ∙ ap (λ l. w.0 ++ w.1 ∷ l) (sym is))

-- the same of a table in which a key is awaited
pub filled : (root key listed : List ℕ) (limit : ℕ) (table was now : Listed)
    (result : Result (Unit {0}) FolderFault) (paths : List (List ℕ)) (before after : Held) → listed ≡ key
    → IsDistinct bytes_eq (keys_of table.entries)
    → lookup (bytes_eq listed) (without_key listed table.entries) ≡ None → Stands root before table.entries
    → was ≡ record table { entries = awaited listed table.entries }
    → paths ≡ paths_of root (dropped limit (without_key key table.entries))
    → Cut result paths was.entries now.entries before.files after.files
    → Cleared root key limit table.capacity result (without_key key table.entries) now.entries before after
filled root key listed limit table was now result paths before after same distinct absent stands was_is is c =
    cleared root key limit (without_key key table.entries) table.capacity result paths was.entries now.entries
    before after (distinct_out (bytes_eq key) table.entries distinct)
    (subst (λ k. lookup (bytes_eq k) (without_key k table.entries) ≡ None) same absent)
    (stands_removed root before (bytes_eq key) table.entries stands)
    (ap (λ (t : Listed). t.entries) was_is ∙ ap (λ k. awaited k table.entries) same) is c
