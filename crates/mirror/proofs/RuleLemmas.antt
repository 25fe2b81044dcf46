-- What a get answers where folders tell their files and never fail.
use Rattle.std.proofs.Common.{◌≡◌, ◌≢◌, ℕ, Bool, true, false, cond, not, List, [], ◌∷◌}
use Rattle.std.proofs.Common.{Option, Some, None, is_some, Result, Ok, Err, IfOk, IfErr, OnOk, refl, sym, ap, subst, ◌∙◌}
use Rattle.std.proofs.Common.{true≢false, arith, length, IsSome, unwrap_or, nat_lt, nat_le}
use Rattle.std.specs.Map.{lookup}
use Rattle.std.specs.Option.{option_map}
use Rattle.std.specs.Str.{bytes_eq}
use Rattle.std.proofs.lemmas.Bool.Decides.{nat_tests}
use Rattle.std.proofs.lemmas.Slice.Eq.{bytes_eq-Decides}
use Rattle.folders.specs.Files.{Files, file_at}
use Rattle.folders.specs.Held.{Holds}
use Rattle.dist_types.specs.declared.folder_fault.FolderFault.{FolderFault}
use Rattle.dist_types.specs.declared.folder_fault.FolderFault.TheVariants as folder
use Rattle.lru_disk_cache.specs.Store.{IoCause}
use Rattle.dist_types.specs.declared.cache_error.Error.{Error}
use Rattle.dist_types.specs.declared.cache_error.Error.TheVariants as error
use Rattle.toolchain_cache.specs.Archives.{Archives, id_of, archive_of, archive_at, archive_path, AllVerified}
use Rattle.toolchain_cache.specs.Archiving.{FindFails, StoreFails, archive_verdict, with_archive}
use Rattle.mirror.specs.Caches.{Cache, Looks}
use Rattle.mirror.specs.Getting.{Answer, AfterStore, Keeps, GivesFetched}
use Rattle.mirror.specs.Rule.{IsReliable}
use Rattle.mirror.specs.Sides.{IsArchive, put_in}
use Rattle.mirror.specs.declared.error.MirrorError.TheVariants as mirror

-- ---- a look-up

-- the archive that is listed with a size is there
verified_at : (path : List ℕ) (files : Files) (id : List ℕ) (n : ℕ) (es : Archives) → AllVerified path files es
    → lookup (bytes_eq id) es ≡ Some n → archive_at path files id ≡ Some (id, n)
verified_at path files id n [] verified found = absurd (true≢false (sym (ap is_some found)))
verified_at path files id n (a ∷ es) verified found =
    by (bytes_eq id a.0) refl found (verified_at path files id n es verified.1)
  where
    by : (b : Bool) → bytes_eq id a.0 ≡ b → cond b (Some a.1) (lookup (bytes_eq id) es) ≡ Some n
        → (lookup (bytes_eq id) es ≡ Some n → archive_at path files id ≡ Some (id, n))
        → archive_at path files id ≡ Some (id, n)
    by true is found rest =
        let same : id ≡ a.0 = (bytes_eq-Decides id a.0).0 is in
        let sized : a.1 ≡ n = ap (λ o. unwrap_or o 0) found in
        ap (archive_at path files) same ∙ (verified.0 ∙ (λ i. Some (sym same i, sized i)))
    by false is found rest = rest found

-- so what is read there is that archive
archive_read : (path : List ℕ) (files : Files) (id : List ℕ) (n : ℕ) (es : Archives) (bytes : List ℕ)
    → AllVerified path files es → lookup (bytes_eq id) es ≡ Some n
    → file_at files (archive_path path id) ≡ Some bytes → IsArchive id n bytes
archive_read path files id n es bytes verified found read =
    let both : Some (archive_of bytes) ≡ Some (id, n) =
    ap (option_map archive_of) (sym read) ∙ verified_at path files id n es verified found in
    ap (λ o. unwrap_or o (id, n)) both

-- no fault of a folder that tells its files and did not fail
never_io : {X : Type 0} (fault : FolderFault) (old new : Cache) (r : IsReliable old new)
    → IoCause fault old.folder new.folder → X
never_io folder.Failed old new r cause = absurd (r.never cause)
never_io folder.Missing old new r cause = absurd (let clash = sym cause ∙ r.told in cc)
never_io folder.Memory old new r cause = absurd cause

-- what is listed is read
pub hit : (id : List ℕ) (n : ℕ) (found : Result (List ℕ) Error) (old new : Cache) → Looks id found old new
    → IsReliable old new → lookup (bytes_eq id) old.archives ≡ Some n → found ≢ Err error.Memory
    → (bytes : List ℕ) × (found ≡ Ok bytes) × IsArchive id n bytes
hit id n found old new looks r listed some = by found refl looks.content looks.fails
  where
    by : (f : Result (List ℕ) Error) → found ≡ f
        → IfOk f (λ bytes. Holds old.folder (λ files. file_at files (archive_path old.path id) ≡ Some bytes))
        → IfErr f (λ e. FindFails id e old.archives new.archives old.folder new.folder)
        → (bytes : List ℕ) × (found ≡ Ok bytes) × IsArchive id n bytes
    by (Ok bytes) is content fails = (
      bytes,
      is,
      archive_read old.path r.files id n old.archives bytes (looks.stood.verified r.files r.told) listed
          (content r.files r.told),
    )
    by (Err error.FileNotInCache) is content fails =
        absurd (true≢false (sym (ap is_some (sym fails.2 ∙ listed))))
    by (Err (error.Io fault)) is content fails = never_io fault old new r fails.1
    by (Err error.Memory) is content fails = absurd (some is)
    by (Err error.FileTooLarge) is content fails = absurd fails
    by (Err error.PendingSpace) is content fails = absurd fails
    by (Err error.BadKey) is content fails = absurd fails
    by (Err error.NotPending) is content fails = absurd fails
    by (Err error.WrongDigest) is content fails = absurd fails
    by (Err error.WriterRefused) is content fails = absurd fails

-- what a look-up leaves where nothing is listed
pub record IsMissed (found : Result (List ℕ) Error) (old new : Cache) : Type 0 where
  pub why : found ≡ Err error.FileNotInCache
  pub archives : new.archives ≡ old.archives
  pub folder : new.folder ≡ old.folder

not_some : (n : ℕ) (o : Option ℕ) → o ≡ None → IsSome o → ⊥
not_some n o e h = true≢false (sym h ∙ ap is_some e)

pub miss : (id : List ℕ) (found : Result (List ℕ) Error) (old new : Cache) → Looks id found old new
    → lookup (bytes_eq id) old.archives ≡ None → found ≢ Err error.Memory → IsMissed found old new
miss id found old new looks none some = by found refl looks.listed looks.fails
  where
    by : (f : Result (List ℕ) Error) → found ≡ f → OnOk f (IsSome (lookup (bytes_eq id) old.archives))
        → IfErr f (λ e. FindFails id e old.archives new.archives old.folder new.folder) → IsMissed found old new
    by (Ok bytes) is listed fails = absurd (not_some 0 (lookup (bytes_eq id) old.archives) none listed)
    by (Err error.FileNotInCache) is listed fails = record { why = is; archives = fails.0; folder = fails.1 }
    by (Err (error.Io fault)) is listed fails =
        absurd (not_some 0 (lookup (bytes_eq id) old.archives) none fails.2)
    by (Err error.Memory) is listed fails = absurd (some is)
    by (Err error.FileTooLarge) is listed fails = absurd fails
    by (Err error.PendingSpace) is listed fails = absurd fails
    by (Err error.BadKey) is listed fails = absurd fails
    by (Err error.NotPending) is listed fails = absurd fails
    by (Err error.WrongDigest) is listed fails = absurd fails
    by (Err error.WriterRefused) is listed fails = absurd fails

-- ---- a store

-- the two comparisons of a size with a capacity
small_fits : (n capacity : ℕ) → nat_lt capacity n ≡ false → nat_le n capacity ≡ true
small_fits n capacity h = grind (arith, nat_tests)

large_not : (n capacity : ℕ) → nat_lt capacity n ≡ true → nat_le n capacity ≡ false
large_not n capacity h = grind (arith, nat_tests)

admits_small : (same big : Bool) → cond (not same) (Err error.WrongDigest)
    (cond big (Err error.FileTooLarge) (Ok (tt {0}))) ≡ Ok (tt {0}) → big ≡ false
admits_small true true e = cc
admits_small true false e = refl
admits_small false big e = cc

refuses_large : (same big : Bool) → cond (not same) (Err error.WrongDigest)
    (cond big (Err error.FileTooLarge) (Ok (tt {0}))) ≡ Err error.FileTooLarge → big ≡ true
refuses_large true true e = refl
refuses_large true false e = cc
refuses_large false big e = cc

-- what a store of a fetched archive leaves, and what is answered
pub record IsKept (id bytes : List ℕ) (answer : Answer) (old new : Cache) : Type 0 where
  pub archives : new.archives ≡ put_in old.capacity id (length bytes) old.archives
  pub gives : GivesFetched bytes (nat_le (length bytes) old.capacity) answer

pub kept : (id bytes : List ℕ) (answer : Answer) (old new : Cache) → Keeps id bytes answer old new → IsReliable old new
    → answer ≢ Err mirror.Memory → IsKept id bytes answer old new
kept id bytes answer old new k r some = by k.stored k.stores.admits k.stores.archives k.stores.fails k.gives
  where
    by : (stored : Result (Unit {0}) Error) → OnOk stored (archive_verdict old.capacity id bytes ≡ Ok (tt {0}))
        → OnOk stored (new.archives ≡ with_archive old.capacity id (length bytes) old.archives)
        → IfErr stored (λ e. StoreFails old.capacity id bytes e old.archives new.archives old.folder new.folder)
        → AfterStore bytes stored answer → IsKept id bytes answer old new
    by (Ok x) admits archives fails h =
        let small : nat_lt old.capacity (length bytes) ≡ false =
        admits_small (bytes_eq (id_of bytes) id) (nat_lt old.capacity (length bytes)) admits in
        record {
          archives = archives ∙ sym (ap (λ b. cond b old.archives
              (with_archive old.capacity id (length bytes) old.archives)) small);
          gives = subst (λ l. GivesFetched bytes l answer) (sym (small_fits (length bytes) old.capacity small)) h;
        }
    by (Err error.FileTooLarge) admits archives fails h =
        let large : nat_lt old.capacity (length bytes) ≡ true =
        refuses_large (bytes_eq (id_of bytes) id) (nat_lt old.capacity (length bytes)) fails.2 in
        record {
          archives = fails.0 ∙ sym (ap (λ b. cond b old.archives
              (with_archive old.capacity id (length bytes) old.archives)) large);
          gives = subst (λ l. GivesFetched bytes l answer) (sym (large_not (length bytes) old.capacity large)) h;
        }
    by (Err (error.Io fault)) admits archives fails h = never_io fault old new r fails.1
    by (Err error.Memory) admits archives fails h = absurd (some h)
    by (Err error.FileNotInCache) admits archives fails h = absurd h
    by (Err error.PendingSpace) admits archives fails h = absurd h
    by (Err error.BadKey) admits archives fails h = absurd h
    by (Err error.NotPending) admits archives fails h = absurd h
    by (Err error.WrongDigest) admits archives fails h = absurd h
    by (Err error.WriterRefused) admits archives fails h = absurd h
