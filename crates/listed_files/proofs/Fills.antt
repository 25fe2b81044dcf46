-- What an insert leaves, step by step.
use Rattle.std.proofs.Common.{◌≡◌, ℕ, ◌<◌, ◌^◌, false, true, List, [], ◌∷◌, ◌++◌, length, Option, Some}
use Rattle.std.proofs.Common.{None, Result, Ok, Err, IfOk, OnOk, OnErr, refl, sym, ap, subst, ◌∙◌}
use Rattle.std.specs.Map.{remove_entry}
use Rattle.std.specs.Option.{option_map}
use Rattle.std.specs.Str.{bytes_eq}
use Rattle.folders.specs.Files.{Files, file_at, size_at, put, PartWritten}
use Rattle.folders.specs.Held.{Held, Holds, Never, Became, Changes}
use Rattle.dist_types.specs.declared.folder_fault.FolderFault.{FolderFault}
use Rattle.folders.proofs.Became.{became_of, became_from, became_map, became_then}
use Rattle.folders.proofs.Distinct.{apart}
use Rattle.folders.proofs.Lookups.{put_same, put_other, part_other}
use Rattle.listed_files.specs.Key.{is_key, temp_name}
use Rattle.listed_files.specs.Entries.{Entries, Listed, IsEnd}
use Rattle.listed_files.specs.Disk.{Stands, AllKeys, Avoids, Keeps, ButListed}
use Rattle.folders.specs.Changed.{ButAt, ButUnder, ButUnderAnd}
use Rattle.listed_files.specs.Disk.{ButThese, IsKeyless}
use Rattle.folders.specs.Changed.{Counts}
use Rattle.listed_files.proofs.Paths.{same_front, temp_differs, none_differs}
use Rattle.listed_files.proofs.Standing.{all_both, avoids_removed, avoids_end}

-- ---- the temporary file

wrote_if : (o new : Option Files) (path bytes : List ℕ) → new ≡ option_map (put path bytes) o
    → (files : Files) → new ≡ Some files → file_at files path ≡ Some bytes
wrote_if None new path bytes is files told = let none : None ≡ Some files = sym is ∙ told in cc
wrote_if (Some f) new path bytes is files told =
    let same : put path bytes f ≡ files = let both : Some (put path bytes f) ≡ Some files = sym is ∙ told
    in cc in
    subst (λ l. file_at l path ≡ Some bytes) same (put_same path bytes f)

pub wrote : (path at bytes : List ℕ) (result : Result (Unit {0}) FolderFault) (old new : Held) → path ≡ at
    → Changes Never (put path bytes) (PartWritten path bytes) result old new
    → OnOk result (Holds new (λ files. file_at files at ≡ Some bytes))
wrote path at bytes (Ok x) old new same is = λ files told.
    subst (λ p. file_at files p ≡ Some bytes) same
    (wrote_if old.files new.files path bytes (ap (λ k. k.files) is.0) files told)
wrote path at bytes (Err e) old new same is = tt

pub wrote_others : (path at bytes : List ℕ) (result : Result (Unit {0}) FolderFault) (old new : Held)
    → path ≡ at → Changes Never (put path bytes) (PartWritten path bytes) result old new
    → Became (ButAt at) old.files new.files
wrote_others path at bytes result old new same is =
    subst (λ p. Became (ButAt p) old.files new.files) same
    (became_of Never (put path bytes) (PartWritten path bytes) (ButAt path) result old new
    (λ f q other. refl) (λ f q other. put_other path q bytes f other)
    (λ f g part q other. part_other path q bytes f g part other) is)

-- no listed key has the path of a temporary file
pub temp_avoids : (root temp : List ℕ) (n : ℕ) (es : Entries) → n < 2 ^ 64 → temp ≡ root ++ temp_name n
    → AllKeys es → Avoids root temp es
temp_avoids root temp n es h is keys =
    subst (λ p. Avoids root p es) (sym is)
    (all_both es keys keys (λ e fit same. same_front root e.0 (temp_name n) ∙ temp_differs n e.0 h fit))

pub keeps_avoided : (root path : List ℕ) (es : Entries) (old new : Option Files) → Avoids root path es
    → Became (ButAt path) old new → Became (Keeps root es) old new
keeps_avoided root path es old new avoids others =
    became_map (ButAt path) (Keeps root es) old new
    (λ f g but. all_both es avoids avoids
    (λ e away again. but (root ++ e.0) (apart (root ++ e.0) path away))) others

-- what stands still does where the file of each entry is as it was
pub stands_kept : (root : List ℕ) (es : Entries) (old new : Held) → Stands root old es
    → Became (Keeps root es) old.files new.files → Stands root new es
stands_kept root es old new h keeps = record {
  keys = h.keys;
  backed = λ files is.
      let w = became_from (Keeps root es) old.files new.files files keeps is in
      all_both es (h.backed w.0 w.1) w.2 (λ e sized same. ap (option_map length) same ∙ sized);
}

-- no removal of a listed file takes one that they avoid
pub from_kept : (root from : List ℕ) (n : ℕ) (es : Entries) (old new : Held) → Avoids root from es
    → Became (ButListed root es) old.files new.files → Holds old (λ f. size_at f from ≡ Some n)
    → Holds new (λ f. size_at f from ≡ Some n)
from_kept root from n es old new avoids others sized files told =
    let w = became_from (ButListed root es) old.files new.files files others told in
    ap (option_map length) (w.2 from avoids) ∙ sized w.0 w.1

pub content_after : (root from path : List ℕ) (es : Entries) (result : Result (Unit {0}) FolderFault)
    (one two three : Held) → Avoids root from es → Became (ButListed root es) one.files two.files
    → OnOk result (Became (λ f g. file_at g path ≡ file_at f from) two.files three.files)
    → OnOk result (Became (λ f g. file_at g path ≡ file_at f from) one.files three.files)
content_after root from path es (Ok x) one two three avoids others content =
    became_then (ButListed root es) (λ f g. file_at g path ≡ file_at f from)
    (λ f g. file_at g path ≡ file_at f from) one.files two.files three.files
    (λ f g h a b. b ∙ a from avoids) others content
content_after root from path es (Err e) one two three avoids others content = tt

pub all_avoid : (root q : List ℕ) (es : Entries) → ((k : List ℕ) → bytes_eq (root ++ k) q ≡ false)
    → Avoids root q es
all_avoid root q [] away = tt
all_avoid root q (e ∷ es) away = (away e.0, all_avoid root q es away)

-- files outside the root, but one
pub outside_listed : (root from : List ℕ) (es : Entries) (old new : Option Files)
    → Became (ButListed root es) old new → Became (ButUnderAnd root from) old new
outside_listed root from es old new others =
    became_map (ButListed root es) (ButUnderAnd root from) old new
    (λ f g but q away not_from. but q (all_avoid root q es away)) others

pub outside_then : (root from : List ℕ) (one two three : Option Files)
    → Became (ButUnderAnd root from) one two → Became (ButUnderAnd root from) two three
    → Became (ButUnderAnd root from) one three
outside_then root from one two three a b =
    became_then (ButUnderAnd root from) (ButUnderAnd root from) (ButUnderAnd root from) one two three
    (λ f g h x y q away not_from. y q away not_from ∙ x q away not_from) a b

-- ---- causes and other files

-- a step behind one that succeeded
pub under_then : (root : List ℕ) (one two three : Option Files) → Became (ButUnder root) one two
    → Became (ButUnder root) two three → Became (ButUnder root) one three
under_then root one two three a b =
    became_then (ButUnder root) (ButUnder root) (ButUnder root) one two three
    (λ f g h x y q away. y q away ∙ x q away) a b

pub under_at : (root name path : List ℕ) (old new : Option Files) → path ≡ root ++ name
    → Became (ButAt path) old new → Became (ButUnder root) old new
under_at root name path old new is h =
    became_map (ButAt (root ++ name)) (ButUnder root) old new (λ f g but q away. but q (away name))
    (subst (λ p. Became (ButAt p) old new) is h)

-- where the one lies under the root too, all files outside it
pub under_and : (root name from : List ℕ) (old new : Option Files) → from ≡ root ++ name
    → Became (ButUnderAnd root from) old new → Became (ButUnder root) old new
under_and root name from old new is h =
    became_map (ButUnderAnd root from) (ButUnder root) old new
    (λ f g but q away. but q away (subst (λ p. bytes_eq p q ≡ false) (sym is) (away name))) h

-- ---- what stays listed keeps its file

pub kept_ok : (root : List ℕ) (rest staying : Entries) (result : Result (Unit {0}) FolderFault)
    (one three : Held) → Became (Keeps root rest) one.files three.files → rest ≡ staying
    → OnOk result (Became (Keeps root staying) one.files three.files)
kept_ok root rest staying (Ok x) one three kept is =
    subst (λ l. Became (Keeps root l) one.files three.files) is kept
kept_ok root rest staying (Err e) one three kept is = tt

pub left_err : (root : List ℕ) (middle new : Listed) (result : Result (Unit {0}) FolderFault)
    (one three : Held) → OnErr result (new ≡ middle)
    → Became (Keeps root middle.entries) one.files three.files
    → OnErr result (Became (Keeps root new.entries) one.files three.files)
left_err root middle new (Ok x) one three is kept = tt
left_err root middle new (Err e) one three is kept =
    subst (λ (t : Listed). Became (Keeps root t.entries) one.files three.files) (sym is) kept

-- ---- the temporary file is written and then takes its place

pub temp_apart : (root path key from : List ℕ) → IsKeyless root from → path ≡ root ++ key → is_key key ≡ true
    → bytes_eq path from ≡ false
temp_apart root path key from temp is fit =
    (λ i. bytes_eq (is i) (temp.2 i))
    ∙ (same_front root key temp.0 ∙ none_differs temp.0 key temp.1 fit)

pub temp_avoided : (root from : List ℕ) (es : Entries) → IsKeyless root from → AllKeys es → Avoids root from es
temp_avoided root from es temp keys =
    subst (λ p. Avoids root p es) (sym temp.2)
    (all_both es keys keys (λ e fit same. same_front root e.0 temp.0 ∙ none_differs temp.0 e.0 temp.1 fit))

pub keeps_temp : (root from : List ℕ) (es : Entries) (old new : Option Files) → IsKeyless root from → AllKeys es
    → Became (ButAt from) old new → Became (Keeps root es) old new
keeps_temp root from es old new temp keys others =
    keeps_avoided root from es old new (temp_avoided root from es temp keys) others

pub under_temp : (root from : List ℕ) (old new : Option Files) → IsKeyless root from
    → Became (ButAt from) old new → Became (ButUnder root) old new
under_temp root from old new temp others = under_at root temp.0 from old new temp.2 others

pub under_both : (root from : List ℕ) (one two three : Option Files) → IsKeyless root from
    → Became (ButAt from) one two → Became (ButUnderAnd root from) two three
    → Became (ButUnder root) one three
under_both root from one two three temp a b =
    under_then root one two three (under_temp root from one two temp a)
    (under_and root temp.0 from two three temp.2 b)

pub both_keep : (root : List ℕ) (es : Entries) (one two three : Option Files) → Became (Keeps root es) one two
    → Became (Keeps root es) two three → Became (Keeps root es) one three
both_keep root es one two three a b =
    became_then (Keeps root es) (Keeps root es) (Keeps root es) one two three
    (λ f g h x y. all_both es x y (λ e p q. q ∙ p)) a b

keys_before : (es : Entries) (x : List ℕ × ℕ) → AllKeys (es ++ x ∷ []) → AllKeys es
keys_before [] x h = tt
keys_before (e ∷ es) x h = (h.0, keys_before es x h.1)

-- what stays keeps its file, also where the temporary one is written first
pub kept_behind : (root from key : List ℕ) (n : ℕ) (staying : Entries) (table new : Listed)
    (result : Result (Unit {0}) FolderFault) (one two three : Held) → IsKeyless root from
    → OnOk result (new ≡ record table { entries = staying ++ (key, n) ∷ [] }) → Stands root three new.entries
    → Became (ButAt from) one.files two.files
    → OnOk result (Became (Keeps root staying) two.files three.files)
    → OnOk result (Became (Keeps root staying) one.files three.files)
kept_behind root from key n staying table new (Ok x) one two three temp is stands others kept =
    let keys = keys_before staying (key, n) (subst (λ (t : Listed). AllKeys t.entries) is stands.keys) in
    both_keep root staying one.files two.files three.files
    (keeps_temp root from staying one.files two.files temp keys others) kept
kept_behind root from key n staying table new (Err e) one two three temp is stands others kept = tt

pub left_behind : (root from : List ℕ) (new : Listed) (result : Result (Unit {0}) FolderFault)
    (one two three : Held) → IsKeyless root from → Stands root three new.entries
    → Became (ButAt from) one.files two.files
    → OnErr result (Became (Keeps root new.entries) two.files three.files)
    → OnErr result (Became (Keeps root new.entries) one.files three.files)
left_behind root from new (Ok x) one two three temp stands others kept = tt
left_behind root from new (Err e) one two three temp stands others kept =
    both_keep root new.entries one.files two.files three.files
    (keeps_temp root from new.entries one.files two.files temp stands.keys others) kept

-- the file of the key has what was written
pub content_written : (from path bytes : List ℕ) (result : Result (Unit {0}) FolderFault) (two three : Held)
    → Holds two (λ f. file_at f from ≡ Some bytes)
    → OnOk result (Became (λ f g. file_at g path ≡ file_at f from) two.files three.files)
    → OnOk result (Holds three (λ f. file_at f path ≡ Some bytes))
content_written from path bytes (Ok x) two three written content = λ files told.
    let w = became_from (λ f g. file_at g path ≡ file_at f from) two.files three.files files content told in
    w.2 ∙ written w.0 w.1
content_written from path bytes (Err e) two three written content = tt

-- what holds anyway holds of an error
pub on_err : {T E P : Type 0} (result : Result T E) → P → OnErr result P
on_err (Ok x) p = tt
on_err (Err e) p = p

-- ---- files at no path that a step takes

module _ (root from path key : List ℕ) (es out : Entries) where
  -- no removal of a listed file takes one
  pub listed_untouched : (one two : Option Files) → out ≡ remove_entry (bytes_eq key) es
      → Became (ButListed root out) one two → Became (ButThese root from path es) one two
  listed_untouched one two is others =
      became_map (ButListed root out) (ButThese root from path es) one two
      (λ f g but q not_from not_path avoids. but q
      (avoids_removed root q (bytes_eq key) es out is avoids)) others

  -- nor what follows
  pub fill_untouched : (rest : Entries) (one two three : Option Files) → out ≡ remove_entry (bytes_eq key) es
      → IsEnd rest out → Became (ButListed root out) one two → Became (ButThese root from path rest) two three
      → Became (ButThese root from path es) one three
  fill_untouched rest one two three is end others these =
      became_then (ButListed root out) (ButThese root from path rest) (ButThese root from path es) one two
      three (λ f g h a b q not_from not_path avoids.
      let still = avoids_removed root q (bytes_eq key) es out is avoids in
      b q not_from not_path (avoids_end root q out rest end still) ∙ a q still) others these

pub temp_untouched : (root from path : List ℕ) (es : Entries) (one two : Option Files)
    → Became (ButAt from) one two → Became (ButThese root from path es) one two
temp_untouched root from path es one two h =
    became_map (ButAt from) (ButThese root from path es) one two
    (λ f g but q not_from not_path avoids. but q not_from) h

pub untouched_then : (root from path : List ℕ) (es : Entries) (one two three : Option Files)
    → Became (ButThese root from path es) one two → Became (ButThese root from path es) two three
    → Became (ButThese root from path es) one three
untouched_then root from path es one two three a b =
    became_then (ButThese root from path es) (ButThese root from path es) (ButThese root from path es) one two
    three (λ f g h x y q not_from not_path avoids. y q not_from not_path avoids
    ∙ x q not_from not_path avoids) a b

pub store_untouched : (root from path : List ℕ) (es : Entries) (one two three : Option Files)
    → Became (ButAt from) one two → Became (ButThese root from path es) two three
    → Became (ButThese root from path es) one three
store_untouched root from path es one two three a b =
    untouched_then root from path es one two three (temp_untouched root from path es one two a) b

pub untouched_listed : (root from path : List ℕ) (es : Entries) (one two : Option Files)
    → Became (ButListed root es) one two → Became (ButThese root from path es) one two
untouched_listed root from path es one two h =
    became_map (ButListed root es) (ButThese root from path es) one two
    (λ f g but q not_from not_path avoids. but q avoids) h

pub under_listed : (root : List ℕ) (es : Entries) (one two : Option Files)
    → Became (ButListed root es) one two → Became (ButUnder root) one two
under_listed root es one two h =
    became_map (ButListed root es) (ButUnder root) one two
    (λ f g but q away. but q (all_avoid root q es away)) h

-- a file that no entry has is found still
pub still_found : {T : Type 0} (root from bytes : List ℕ) (es : Entries) (result : Result T FolderFault)
    (one two : Held) → Avoids root from es → Became (ButListed root es) one.files two.files
    → Holds one (λ f. file_at f from ≡ Some bytes)
    → OnOk result (Holds two (λ f. file_at f from ≡ Some bytes))
still_found root from bytes es (Err e) one two avoids others there = tt
still_found root from bytes es (Ok x) one two avoids others there = λ files told.
    let w = became_from (ButListed root es) one.files two.files files others told in
    w.2 from avoids ∙ there w.0 w.1

-- ---- nothing changed before

pub on_ok : {T E P : Type 0} (result : Result T E) → P → OnOk result P
on_ok (Ok x) p = p
on_ok (Err e) p = tt

pub on_ok_then : {T E P Q : Type 0} (result : Result T E) → OnOk result P → (P → Q) → OnOk result Q
on_ok_then (Ok x) p more = more p
on_ok_then (Err e) p more = tt

-- what holds of the files holds where they are the same
pub if_same : {T E : Type 0} (P : T → Files → Type 0) (result : Result T E) (old new : Held)
    → OnOk result (new ≡ old) → IfOk result (λ x. Holds old (P x)) → IfOk result (λ x. Holds new (P x))
if_same P (Ok x) old new same h = subst (λ k. Holds k (P x)) (sym same) h
if_same P (Err e) old new same h = tt

pub counts_ok : {T : Type 0} (result : Result T FolderFault) (old new : Held) → Counts result old new
    → OnOk result (new.faults ≡ old.faults)
counts_ok (Ok x) old new counts = counts
counts_ok (Err e) old new counts = tt
