-- A disk whose list is in step with the files stays so behind each call that succeeds.
use Rattle.std.proofs.Common.{◌≡◌, ℕ, ◌<◌, ◌^◌, ◌||◌, Bool, true, false, List, [], ◌∷◌, ◌++◌, length, Option}
use Rattle.std.proofs.Common.{Some, None, IsSome, is_some, Result, Ok, Err, OnOk, refl, sym, ap, subst, ◌∙◌}
use Rattle.std.proofs.Common.{true≢false}
use Rattle.std.specs.List.{IsDistinct}
use Rattle.std.specs.Map.{keys_of, lookup}
use Rattle.std.specs.Option.{option_map}
use Rattle.std.specs.Str.{bytes_eq}
use Rattle.folders.specs.Files.{Files, file_at, put, without, touched, appended}
use Rattle.folders.specs.Held.{Held, Became, BecameBy}
use Rattle.listed_files.specs.Key.{is_key, temp_name, insert_name}
use Rattle.listed_files.specs.Disk.{AllKeys, Avoids, IsInsertTemp, dropped, files_placed, files_stored, stored}
use Rattle.listed_files.specs.Disk.{without_key}
use Rattle.lru_disk_cache.specs.Reserved.{Reservation, AddEntry, AllReserved, is_of, is_pending}
use Rattle.lru_disk_cache.specs.Store.{Disk, IsStore, DiskInStep, inserted, looked_up, removed, room_beside}
use Rattle.lru_disk_cache.specs.Store.{insert_verdict}
use Rattle.lru_disk_cache.specs.Adding.{HasSize, entry_path, prepared, room_for}
use Rattle.listed_files.specs.Disk.{files_prepared}
use Rattle.lru_disk_cache.specs.Adding.{commit_verdict, committed}
use Rattle.lru_disk_cache.specs.Moving.{IsSized}
use Rattle.folders.proofs.Became.{became_from}
use Rattle.folders.proofs.Exactly.{made_is}
use Rattle.listed_files.proofs.Fills.{temp_avoids, temp_avoided}
use Rattle.lru_disk_cache.proofs.KeySteps.{keys_in, temp_placed, moved_placed, keys_put_other, keys_touched}
use Rattle.lru_disk_cache.proofs.KeySteps.{keys_prepared, keys_appended, keys_gone, keys_without_other}
use Rattle.folders.proofs.Lookups.{put_same}
use Rattle.listed_files.proofs.Paths.{temp_is_none, insert_is_none}
use Rattle.lru_disk_cache.proofs.Reserving.{listed_key, own_path}
use Rattle.listed_files.proofs.Standing.{found_sized}

-- what a change of the files makes of the keys among them
made_step : (f : Files → Files) (e : Disk) (old new : Held) → BecameBy f old.files new.files
    → ((x : Files) → old.files ≡ Some x → keys_in e.root (f x) ≡ e.entries) → DiskInStep new e
made_step f e old new made h files told =
    let w = became_from (λ a b. b ≡ f a) old.files new.files files (made_is f old.files new.files made) told
    in
    ap (keys_in e.root) w.2 ∙ h w.0 w.1

pub step_stored : (d e : Disk) (old new : Held) (key bytes : List ℕ) → AllKeys d.entries → is_key key ≡ true
    → IsDistinct bytes_eq (keys_of d.entries) → e ≡ inserted d key (length bytes)
    → (temp : List ℕ) × IsInsertTemp d.root temp
    × BecameBy (files_stored d.root temp (d.root ++ key) bytes
    (dropped (room_beside d (length bytes)) (without_key key d.entries))) old.files new.files
    → DiskInStep old d → DiskInStep new e
step_stored d e old new key bytes keys fit distinct is exact h =
    let m = exact.1.0 in
    let below = exact.1.1 in
    let limit = room_beside d (length bytes) in
    let gone = dropped limit (without_key key d.entries) in
    subst (DiskInStep new) (sym is) (made_step (files_stored d.root exact.0 (d.root ++ key) bytes gone)
    (inserted d key (length bytes)) old new exact.2 (λ x told.
    ap (λ t. keys_in d.root (files_stored d.root t (d.root ++ key) bytes gone x)) exact.1.2
    ∙ temp_placed d.root (insert_name m) key bytes limit d.entries (put (d.root ++ insert_name m) bytes x) fit
    (insert_is_none m below) (temp_avoided d.root (d.root ++ insert_name m) d.entries
    (insert_name m, insert_is_none m below, refl) keys)
    (put_same (d.root ++ insert_name m) bytes x) distinct
    (keys_put_other d.root (insert_name m) bytes x (insert_is_none m below) ∙ h x told)))

-- a file of a size has bytes of that number
sized : (o : Option (List ℕ)) (n : ℕ) → option_map length o ≡ Some n → (b : List ℕ) × (o ≡ Some b)
    × (length b ≡ n)
sized None n h = absurd (true≢false (sym (ap is_some h)))
sized (Some b) n h = (b, refl, let same : length b ≡ n = cc in same)

number_in : (o : Option ℕ) → IsSome o → (n : ℕ) × (o ≡ Some n)
number_in None h = absurd (true≢false (sym h))
number_in (Some n) h = (n, refl)

pub step_touched : (d e : Disk) (old new : Held) (key : List ℕ) → IsStore old d
    → IsDistinct bytes_eq (keys_of d.entries) → IsSome (lookup (bytes_eq key) d.entries) → e ≡ looked_up d key
    → BecameBy (touched (d.root ++ key)) old.files new.files → DiskInStep old d → DiskInStep new e
step_touched d e old new key stands distinct found is made h =
    let n = number_in (lookup (bytes_eq key) d.entries) found in
    subst (DiskInStep new) (sym is) (made_step (touched (d.root ++ key)) (looked_up d key) old new made
    (λ x told.
    let w = sized (file_at x (d.root ++ key)) n.0
    (found_sized d.root key n.0 x d.entries (stands.stands.backed x told) n.1) in
    keys_touched d.root key w.0 n.0 d.entries x (listed_key key d.entries stands.stands.keys found) w.1 w.2
    n.1 distinct (h x told)))

pub step_removed : (d e : Disk) (old new : Held) (key : List ℕ) → IsDistinct bytes_eq (keys_of d.entries)
    → e ≡ removed d key → BecameBy (without (d.root ++ key)) old.files new.files → DiskInStep old d
    → DiskInStep new e
step_removed d e old new key distinct is made h =
    subst (DiskInStep new) (sym is) (made_step (without (d.root ++ key)) (removed d key) old new made
    (λ x told. keys_gone d.root key d.entries x distinct (h x told)))

pub step_prepared : (d e : Disk) (old new : Held) (entry : AddEntry) (m size : ℕ) → m < 2 ^ 64
    → entry.number ≡ m → entry.size ≡ size → IsDistinct bytes_eq (keys_of d.entries) → e ≡ prepared d entry
    → BecameBy (files_prepared d.root (entry_path d entry) (dropped (room_beside d size) d.entries)) old.files
    new.files → DiskInStep old d → DiskInStep new e
step_prepared d e old new entry m size below number_is size_is distinct is made h =
    let none : is_key (temp_name entry.number) ≡ false = ap (λ n. is_key (temp_name n)) number_is
    ∙ temp_is_none m below in
    subst (DiskInStep new) (sym is)
    (made_step (files_prepared d.root (entry_path d entry) (dropped (room_beside d size) d.entries))
    (prepared d entry) old new made (λ x told.
    ap (λ n. keys_in d.root (files_prepared d.root (entry_path d entry) (dropped (room_beside d n) d.entries)
    x)) (sym size_is)
    ∙ keys_prepared d.root (temp_name entry.number) (room_beside d entry.size) d.entries x none distinct
    (h x told)))

pub step_appended : {T E : Type 0} (result : Result T E) (d : Disk) (old new : Held) (path bytes : List ℕ)
    (n : ℕ) → path ≡ d.root ++ temp_name n → n < 2 ^ 64
    → OnOk result (BecameBy (appended path bytes) old.files new.files) → DiskInStep old d
    → OnOk result (DiskInStep new d)
step_appended (Err e) d old new path bytes n is below made h = tt
step_appended (Ok x) d old new path bytes n is below made h =
    made_step (appended path bytes) d old new made (λ f told. ap (λ p. keys_in d.root (appended p bytes f)) is
    ∙ (keys_appended d.root (temp_name n) bytes f (temp_is_none n below) ∙ h f told))

pub step_abandoned : {T E : Type 0} (result : Result T E) (d : Disk) (old new : Held) (path : List ℕ) (n : ℕ)
    → path ≡ d.root ++ temp_name n → n < 2 ^ 64
    → OnOk result (Became (λ f g. g ≡ without path f) old.files new.files) → DiskInStep old d
    → OnOk result (DiskInStep new d)
step_abandoned (Err e) d old new path n is below out h = tt
step_abandoned (Ok x) d old new path n is below out h = λ files told.
    let w = became_from (λ f g. g ≡ without path f) old.files new.files files out told in
    ap (keys_in d.root) w.2 ∙ (ap (λ p. keys_in d.root (without p w.0)) is
    ∙ (keys_without_other d.root (temp_name n) w.0 (temp_is_none n below) ∙ h w.0 w.1))

-- what is known of a pending entry
pub pending_known : (root : List ℕ) (e : AddEntry) (ps : List Reservation) → AllReserved root ps
    → is_pending e ps ≡ true → (e.number < 2 ^ 64) × (is_key e.key ≡ true)
pending_known root e [] all h = absurd (true≢false (sym h))
pending_known root e (r ∷ rs) all h = by (is_of e r) refl h (pending_known root e rs all.1)
  where
    by : (b : Bool) → is_of e r ≡ b → (b || is_pending e rs) ≡ true
        → (is_pending e rs ≡ true → (e.number < 2 ^ 64) × (is_key e.key ≡ true)) → (e.number < 2 ^ 64)
        × (is_key e.key ≡ true)
    by true own some rest = let w = own_path root e r own all.0 in (w.1, w.2)
    by false other some rest = rest some

pub step_committed : (d e : Disk) (old new : Held) (entry : AddEntry) → IsStore old d
    → IsDistinct bytes_eq (keys_of d.entries) → is_pending entry d.pending ≡ true
    → (n : ℕ) × HasSize d entry old n × (commit_verdict d entry n ≡ Ok (tt {0})) × (e ≡ committed d entry n)
    × BecameBy (files_placed d.root (entry_path d entry) (d.root ++ entry.key)
    (dropped (room_for d entry n) (without_key entry.key d.entries))) old.files new.files
    → DiskInStep old d → DiskInStep new e
step_committed d e old new entry stands distinct pending ok h =
    let n = ok.0 in
    let known = pending_known d.root entry d.pending stands.reserved pending in
    subst (DiskInStep new) (sym ok.3)
    (made_step (files_placed d.root (entry_path d entry) (d.root ++ entry.key)
    (dropped (room_for d entry n) (without_key entry.key d.entries))) (committed d entry n) old new ok.4
    (λ x told.
    let w = sized (file_at x (entry_path d entry)) n (ok.1 x told) in
    temp_placed d.root (temp_name entry.number) entry.key w.0 (room_for d entry n) d.entries x known.1
    (temp_is_none entry.number known.0)
    (temp_avoids d.root (entry_path d entry) entry.number d.entries known.0 refl stands.stands.keys) w.1
    distinct (h x told)
    ∙ ap (λ m. stored entry.key m (room_for d entry n) d.entries) w.2))

pub step_moved : (d e : Disk) (old new : Held) (key path : List ℕ) → is_key key ≡ true
    → Avoids d.root path d.entries → IsDistinct bytes_eq (keys_of d.entries)
    → (n : ℕ) × IsSized path old n × (insert_verdict d key n ≡ Ok (tt {0})) × (e ≡ inserted d key n)
    × BecameBy (files_placed d.root path (d.root ++ key)
    (dropped (room_beside d n) (without_key key d.entries))) old.files new.files
    → DiskInStep old d → DiskInStep new e
step_moved d e old new key path fit avoids distinct ok h =
    let n = ok.0 in
    subst (DiskInStep new) (sym ok.3)
    (made_step (files_placed d.root path (d.root ++ key)
    (dropped (room_beside d n) (without_key key d.entries))) (inserted d key n) old new ok.4 (λ x told.
    let w = sized (file_at x path) n (ok.1 x told) in
    moved_placed d.root path key w.0 (room_beside d n) d.entries x fit avoids w.1 distinct (h x told)
    ∙ ap (λ m. stored key m (room_beside d n) d.entries) w.2))
