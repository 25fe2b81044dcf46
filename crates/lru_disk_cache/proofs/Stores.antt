-- What a cache is behind each call.
use Rattle.std.proofs.Common.{◌≡◌, ℕ, ◌+◌, ◌<◌, ◌≤◌, ◌^◌, true, false, is_some, List, [], ◌∷◌, ◌++◌, length}
use Rattle.std.proofs.Common.{Some, None, Result, Ok, Err, OnOk, OnErr, inl, inr, sym, ap, subst, ◌∙◌}
use Rattle.std.proofs.Common.{true≢false, arith}
use Rattle.std.proofs.lemmas.List.Sums.{sum_by-append}
use Rattle.std.specs.Map.{lookup, remove_entry}
use Rattle.std.specs.Str.{bytes_eq}
use Rattle.lru_metered.proofs.Lookups.{size-others, total-promoted}
use Rattle.folders.specs.Files.{file_at}
use Rattle.folders.specs.Held.{Held, Holds, Became, BecameBy}
use Rattle.dist_types.specs.declared.folder_fault.FolderFault.{FolderFault}
use Rattle.listed_files.specs.Entries.{Entries, Listed, total, sizes, promoted_key, IsEnd}
use Rattle.listed_files.specs.Disk.{Stands, IsInsertTemp, Left, staying, stored, dropped}
use Rattle.folders.specs.Changed.{ButAt, SameAt}
use Rattle.listed_files.specs.Disk.{files_stored, without_key}
use Rattle.listed_files.specs.Key.{is_key, temp_name}
use Rattle.lru_disk_cache.specs.Reserved.{Reservation, IsReserved, AllSure, KeepsReserved, has, held_size}
use Rattle.lru_disk_cache.specs.Reserved.{without_number, unsure}
use Rattle.lru_disk_cache.specs.Store.{Disk, Store, IsStore, room_beside}
use Rattle.lru_disk_cache.proofs.Asides.{sure_kept, reserved_same}
use Rattle.folders.proofs.Became.{became_map, became_from}
use Rattle.listed_files.proofs.Opens.{trim_within}
use Rattle.lru_disk_cache.proofs.Reserving.{listed_key, key_reserved, all_without, differ_without}
use Rattle.lru_disk_cache.proofs.Reserving.{unsure_reserved, unsure_differ, unsure_held, unsure_sure}
use Rattle.lru_disk_cache.proofs.Reserving.{all_more, held_more, differ_more}
use Rattle.listed_files.proofs.Standing.{stands_promoted, stands_absent, stands_removed}
use Rattle.listed_files.proofs.Trims.{total_more}

module _ (path root : List ℕ) (pending : List Reservation) where
  -- the disk of a list
  abbrev pub disk_of : Listed → Disk
  disk_of t = record {
    path = path;
    root = root;
    capacity = t.capacity;
    entries = t.entries;
    pending = pending;
  }

  -- the reservations' files and what they take are as they were
  relisted : (old new : Held) (table now : Listed) → IsStore old (disk_of table) → Stands root new now.entries
      → total now.entries + held_size pending ≤ now.capacity → Became (KeepsReserved pending) old.files new.files
      → IsStore new (disk_of now)
  relisted old new table now h stands fits temps = record {
    stands = stands;
    root = h.root;
    reserved = h.reserved;
    numbers = h.numbers;
    sure = sure_kept pending old new h.sure temps;
    fits = fits;
  }

  pub promoted_store : (old new : Held) (key : List ℕ) (table now : Listed) → IsStore old (disk_of table)
      → now ≡ record table { entries = promoted_key key table.entries } → Became SameAt old.files new.files
      → IsStore new (disk_of now)
  promoted_store old new key table now h is same =
      subst (λ t. IsStore new (disk_of t)) (sym is)
      (relisted old new table (record table { entries = promoted_key key table.entries }) h
      (stands_promoted root old new key table.entries h.stands same)
      (omega (arith, h.fits, total-promoted (bytes_eq key) sizes table.entries))
      (became_map SameAt (KeepsReserved pending) old.files new.files
      (λ f g at. reserved_same pending f g at) same))

  pub removed_store : (old new : Held) (key : List ℕ) (table now : Listed) → IsStore old (disk_of table)
      → is_some (lookup (bytes_eq key) table.entries) ≡ true
      → now ≡ record table { entries = remove_entry (bytes_eq key) table.entries }
      → lookup (bytes_eq key) now.entries ≡ None → Became (ButAt (root ++ key)) old.files new.files
      → IsStore new (disk_of now)
  removed_store old new key table now h listed is absent others =
      let E = ap (λ (t : Listed). t.entries) is in
      subst (λ t. IsStore new (disk_of t)) (sym is)
      (relisted old new table (record table { entries = remove_entry (bytes_eq key) table.entries }) h
      (stands_absent root key (remove_entry (bytes_eq key) table.entries) old new
      (ap (lookup (bytes_eq key)) (sym E) ∙ absent)
      (stands_removed root old (bytes_eq key) table.entries h.stands) others)
      (omega (arith, h.fits, size-others (bytes_eq key) sizes table.entries))
      (key_reserved root key pending old.files new.files (listed_key key table.entries h.stands.keys listed)
      h.reserved others))

  -- what is left of a list is no more than it was
  end_total : (all rest : Entries) → IsEnd rest all → total rest ≤ total all
  end_total all rest end = omega (arith, ap total end.1, sum_by-append (λ (e : List ℕ × ℕ). e.1) end.0 rest)

  left_total : (key : List ℕ) (limit : ℕ) (old new : Entries) → Left key limit old new → total new ≤ total old
  left_total key limit old new left = elim left [
    | inl same ↦ omega (arith, ap total same)
    | inr less ↦ omega (
      arith,
      end_total (without_key key old) new less.0,
      size-others (bytes_eq key) sizes old,
    )
  ]

  pub stored_fits : (key : List ℕ) (n limit capacity : ℕ) (es : Entries)
      → limit + n + held_size pending ≤ capacity
      → total (stored key n limit es) + held_size pending ≤ capacity
  stored_fits key n limit capacity es room =
      omega (arith, room, total_more (staying key limit es) key n, trim_within limit (without_key key es))

  pub insert_store : (new old : Held) (key : List ℕ) (n limit : ℕ) (table now : Listed)
      (result : Result (Unit {0}) FolderFault) → IsStore old (disk_of table)
      → limit + n + held_size pending ≤ table.capacity
      → OnOk result (now ≡ record table { entries = stored key n limit table.entries })
      → OnErr result ((now.capacity ≡ table.capacity) × Left key limit table.entries now.entries)
      → Stands root new now.entries → Became (KeepsReserved pending) old.files new.files
      → IsStore new (disk_of now)
  insert_store new old key n limit table now (Ok x) h room ok err stands temps =
      relisted old new table now h stands
      (subst (λ (t : Listed). total t.entries + held_size pending ≤ t.capacity) (sym ok)
      (stored_fits key n limit table.capacity table.entries room)) temps
  insert_store new old key n limit table now (Err e) h room ok err stands temps =
      relisted old new table now h stands
      (omega (arith, h.fits, err.0, left_total key limit table.entries now.entries err.1)) temps

  -- where an entry is announced, and where that fails
  pub announced_store : (new old : Held) (table now : Listed) → IsStore old (disk_of table)
      → now.capacity ≡ table.capacity → IsEnd now.entries table.entries → Stands root new now.entries
      → Became (KeepsReserved pending) old.files new.files → IsStore new (disk_of now)
  announced_store new old table now h capacity end stands temps =
      relisted old new table now h stands
      (omega (arith, h.fits, capacity, end_total table.entries now.entries end)) temps

sure_more : (pending : List Reservation) (r : Reservation) (held : Held) → Holds held (λ f. AllSure f pending)
    → Holds held (λ f. file_at f r.temp ≡ Some []) → Holds held (λ f. AllSure f (pending ++ r ∷ []))
sure_more pending r held h there = λ files told.
    all_more (λ q. q.sure ≡ true → ¬ (file_at files q.temp ≡ None)) pending r (h files told)
    (λ sure lacks. let both : Some [] ≡ None = sym (there files told) ∙ lacks
    in absurd (true≢false (ap is_some both)))

-- one more reservation
pub prepared_store : (path root : List ℕ) (pending now_pending : List Reservation) (r : Reservation)
    (held : Held) (table : Listed) → IsStore held (disk_of path root pending table)
    → now_pending ≡ pending ++ r ∷ [] → total table.entries + held_size pending + r.size ≤ table.capacity
    → is_key r.key ≡ true → r.number < 2 ^ 64 → r.temp ≡ root ++ temp_name r.number
    → has r.number pending ≡ false
    → Holds held (λ f. file_at f r.temp ≡ Some []) → IsStore held (disk_of path root now_pending table)
prepared_store path root pending now_pending r held table h is room fit below temp free there =
    subst (λ ps. IsStore held (disk_of path root ps table)) (sym is)
    (record {
      stands = h.stands;
      root = h.root;
      reserved = all_more (IsReserved root) pending r h.reserved
          (record { key = fit; number = below; temp = temp });
      numbers = differ_more pending r h.numbers free;
      sure = sure_more pending r held h.sure there;
      fits = omega (arith, room, held_more pending r);
    })

-- one that is closed
pub closed_store : (path root : List ℕ) (pending now_pending : List Reservation) (n : ℕ) (old new : Held)
    (table now : Listed) → IsStore old (disk_of path root pending table)
    → now_pending ≡ without_number n pending → Stands root new now.entries → total now.entries + held_size
    (without_number n pending) ≤ now.capacity
    → Became (KeepsReserved (without_number n pending)) old.files new.files
    → IsStore new (disk_of path root now_pending now)
closed_store path root pending now_pending n old new table now h is stands room temps =
    subst (λ ps. IsStore new (disk_of path root ps now)) (sym is)
    (record {
      stands = stands;
      root = h.root;
      reserved = all_without (IsReserved root) n pending h.reserved;
      numbers = differ_without n pending h.numbers;
      sure = sure_kept (without_number n pending) old new
          (λ files told. all_without (λ q. q.sure ≡ true → ¬ (file_at files q.temp ≡ None)) n pending
          (h.sure files told)) temps;
      fits = room;
    })

-- one that is kept, whose file is not sure to be there any more
pub broken_store : (path root : List ℕ) (pending now_pending : List Reservation) (n limit : ℕ) (key : List ℕ)
    (old new : Held) (table now : Listed) → IsStore old (disk_of path root pending table)
    → now_pending ≡ unsure n pending → (now.capacity ≡ table.capacity)
    × Left key limit table.entries now.entries → Stands root new now.entries
    → Became (KeepsReserved (without_number n pending)) old.files new.files
    → IsStore new (disk_of path root now_pending now)
broken_store path root pending now_pending n limit key old new table now h is left stands temps =
    subst (λ ps. IsStore new (disk_of path root ps now)) (sym is)
    (record {
      stands = stands;
      root = h.root;
      reserved = unsure_reserved root n pending h.reserved;
      numbers = unsure_differ n pending h.numbers;
      sure = λ files told. let w = became_from (KeepsReserved (without_number n pending)) old.files new.files
          files temps told in unsure_sure n pending w.0 files (h.sure w.0 w.1) w.2;
      fits = omega (
        arith,
        h.fits,
        unsure_held n pending,
        left.0,
        left_total path root pending key limit table.entries now.entries left.1,
      );
    })

-- the files behind an insert, said of the cache as it was
pub stored_exact : {F : Type 0} (held : F → Held) (folder : F) (d : Disk) (spoiled : ℕ) (now : Store F) (new : Held)
    (from path own key bytes : List ℕ) (limit : ℕ)
    → (let whole : Store F = record { disk = d; folder = folder; spoiled = spoiled } in whole ≡ now) → IsInsertTemp d.root from
    → path ≡ d.root ++ key → own ≡ key → limit ≡ room_beside now.disk (length bytes)
    → BecameBy (files_stored d.root from path bytes (dropped limit (without_key own d.entries)))
    (held folder).files new.files
    → (temp : List ℕ) × IsInsertTemp now.disk.root temp
    × BecameBy (files_stored now.disk.root temp (now.disk.root ++ key) bytes
    (dropped (room_beside now.disk (length bytes)) (without_key key now.disk.entries)))
    (held now.folder).files new.files
stored_exact {F} held folder d spoiled now new from path own key bytes limit view temp path_is own_is limit_is made =
    let P : List ℕ → List ℕ → ℕ → Type 0 = λ p k n.
    BecameBy (files_stored d.root from p bytes (dropped n (without_key k d.entries)))
    (held folder).files new.files in
    let Q : Store F → Type 0 = λ s. limit ≡ room_beside s.disk (length bytes)
    → (temp : List ℕ) × IsInsertTemp s.disk.root temp
    × BecameBy (files_stored s.disk.root temp (s.disk.root ++ key) bytes
    (dropped (room_beside s.disk (length bytes)) (without_key key s.disk.entries)))
    (held s.folder).files new.files in
    subst Q view (λ l. (
      from,
      temp,
      subst (λ n. P (d.root ++ key) key n) l
          (subst (λ k. P (d.root ++ key) k limit) own_is (subst (λ p. P p own limit) path_is made)),
    )) limit_is
