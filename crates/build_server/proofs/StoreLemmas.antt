-- What a store comes to, put together from the cache's own clauses.
use Rattle.std.proofs.Common.{◌≡◌, inl, inr, ℕ, ◌-◌, ◌≤◌, Bool, true, false, cond, List, [], ◌∷◌, ◌++◌}
use Rattle.std.proofs.Common.{length, take, Option, Ok, Err, refl, sym, ◌∙◌, ap, subst, arith, length-append}
use Rattle.std.specs.Prelude.{nat_lt, not}
use Rattle.std.specs.List.{IsDistinct}
use Rattle.std.specs.Map.{keys_of}
use Rattle.std.specs.Str.{bytes_eq}
use Rattle.toolchain_cache.specs.Archives.{Archives, IsArchiveStore, id_of}
use Rattle.toolchain_cache.specs.Archiving.{archive_verdict, with_archive, StoreFails}
use Rattle.folders.proofs.Became.{became_same}
use Rattle.listed_files.specs.Disk.{Left, dropped}
use Rattle.folders.specs.Changed.{ButUnder}
use Rattle.listed_files.specs.Entries.{trim}
use Rattle.folders.specs.Files.{Files, front}
use Rattle.folders.specs.Held.{Held, Became}
use Rattle.lru_disk_cache.specs.Store.{IoCause}
use Rattle.dist_types.specs.declared.cache_error.Error.{Error}
use Rattle.dist_types.specs.declared.cache_error.Error.TheVariants as error
use Rattle.dist_types.specs.declared.folder_fault.FolderFault.{FolderFault}
use Rattle.dist_types.specs.declared.folder_fault.FolderFault.TheVariants as folder
use Rattle.build_server.specs.Books.{ids, without_ids, is_listed, Fails}
use Rattle.build_server.specs.Rules.{store_verdict, IsFrontOfDropped}
use Rattle.build_server.specs.Stores.{IsStored, Stores, refusal}
use Rattle.build_server.specs.declared.submit.Submitted.{Submitted}
use Rattle.build_server.specs.declared.submit.Submitted.TheVariants.{Stored, Digest, Capacity, Folder}
use Rattle.build_server.proofs.ListLemmas.{without_unlisted, dropped-trim, gone_out, none_gone}
use Rattle.build_server.proofs.ListLemmas.{front_of_dropped, ids-append, take_front}

-- files that are as they were are so outside of a directory
pub others_same : (path : List ℕ) (files : Option Files) → Became (ButUnder (front path)) files files
others_same path files = became_same (ButUnder (front path)) files (λ f q outside. refl)

none_differ : IsDistinct bytes_eq []
unfolding IsDistinct
none_differ = tt

-- no archives stand in any folder
pub none_stand : (path : List ℕ) (capacity : ℕ) (archives : Archives) (held : Held) → archives ≡ []
    → IsArchiveStore path capacity archives held
none_stand path capacity archives held e = subst (λ l. IsArchiveStore path capacity l held) (sym e) record {
  ids = record {};
  distinct = none_differ;
  fits = omega arith;
  verified = λ files told. record {};
}

-- the verdict of the cache, as that of a submission
by_tests : (same big : Bool) (x : Submitted) → cond (not same) (Err error.WrongDigest)
    (cond big (Err error.FileTooLarge) (Ok (tt {0}))) ≡ Ok (tt {0})
    → cond (not same) Digest (cond big Capacity x) ≡ x
by_tests true true x e = cc
by_tests true false x e = refl
by_tests false big x e = cc

pub admitted : (capacity : ℕ) (archives : Archives) (tc bytes : List ℕ)
    → archive_verdict capacity tc bytes ≡ Ok (tt {0})
    → store_verdict capacity archives tc bytes
    ≡ Stored (length bytes) (ids (dropped (capacity - length bytes) archives))
admitted capacity archives tc bytes e = by_tests (bytes_eq (id_of bytes) tc)
    (nat_lt capacity (length bytes)) _ e

wrong_by : (same big : Bool) (x : Submitted) → cond (not same) (Err error.WrongDigest)
    (cond big (Err error.FileTooLarge) (Ok (tt {0}))) ≡ Err error.WrongDigest
    → cond (not same) Digest (cond big Capacity x) ≡ Digest
wrong_by true true x e = cc
wrong_by true false x e = cc
wrong_by false big x e = refl

large_by : (same big : Bool) (x : Submitted) → cond (not same) (Err error.WrongDigest)
    (cond big (Err error.FileTooLarge) (Ok (tt {0}))) ≡ Err error.FileTooLarge
    → cond (not same) Digest (cond big Capacity x) ≡ Capacity
large_by true true x e = refl
large_by true false x e = cc
large_by false big x e = cc

-- so many went from the front, and none more than had to go
record Went (limit : ℕ) (old new : Archives) (n : ℕ) : Type 0 where
  pub front : (more : List (List ℕ)) × (ids (dropped limit old) ≡ take n (ids (dropped limit old)) ++ more)
  pub rest : new ≡ without_ids (take n (ids (dropped limit old))) old
  pub short : length new ≤ length old

went_off : (limit : ℕ) (gone rest : Archives) (n : ℕ) → IsDistinct bytes_eq (keys_of (gone ++ rest))
    → trim limit rest ≡ trim limit (gone ++ rest) → n ≡ length (gone ++ rest) - length rest
    → Went limit (gone ++ rest) rest n
went_off limit gone rest n distinct trimmed e =
    let f = front_of_dropped limit gone rest trimmed in
    let all : ids (dropped limit (gone ++ rest)) ≡ ids gone ++ ids f.0 = ap ids f.1 ∙ ids-append gone f.0 in
    let taken : take n (ids (dropped limit (gone ++ rest))) ≡ ids gone =
    ap (λ l. take n l) all ∙ take_front n gone rest (ids f.0) e in
    record {
      front = (ids f.0, all ∙ ap (λ l. l ++ ids f.0) (sym taken));
      rest = sym (ap (λ l. without_ids l (gone ++ rest)) taken ∙ gone_out gone rest distinct);
      short = grind (arith, shorter gone rest);
    }
  where
    shorter : (gone rest : Archives) → length rest ≤ length (gone ++ rest)
    shorter gone rest = omega (arith, length-append gone rest)

went_none : (limit : ℕ) (old : Archives) (n : ℕ) → n ≡ 0 → Went limit old old n
went_none limit old n e =
    subst (λ k. Went limit old old k) (sym e) (record
    { front = (ids (dropped limit old), refl); rest = sym (none_gone old); short = omega arith })

went : (tc : List ℕ) (limit : ℕ) (old new : Archives) (n : ℕ) → is_listed tc old ≡ false
    → IsDistinct bytes_eq (keys_of old) → n ≡ length old - length new → Left tc limit old new
    → Went limit old new n
went tc limit old new n unlisted distinct e (inl same) =
    subst (λ l. Went limit old l n) (sym same) (went_none limit old n (let f = ap length same in omega arith))
went tc limit old new n unlisted distinct e (inr left) =
    let all : old ≡ left.0.0 ++ new = sym (without_unlisted tc old unlisted) ∙ left.0.1 in
    subst (λ l. Went limit l new n) (sym all)
    (went_off limit left.0.0 new n (subst (λ l. IsDistinct bytes_eq (keys_of l)) all distinct)
    (left.1 ∙ (ap (λ l. trim limit l) (without_unlisted tc old unlisted) ∙ ap (λ l. trim limit l) all))
    (e ∙ ap (λ l. length l - length new) all))

fails_of : (e : FolderFault) (before after : Held) → IoCause e before after → Fails before after
fails_of folder.Failed before after h = inl h
fails_of folder.Missing before after h = inr h
fails_of folder.Memory before after h = absurd h

-- a store that was refused
pub store_refused : (e : Error) (capacity : ℕ) (tc bytes : List ℕ) (gone : List (List ℕ)) (n : ℕ)
    (old new : Archives) (before after : Held)
    → gone ≡ ids (dropped (capacity - length bytes) old) → n ≡ length old - length new
    → is_listed tc old ≡ false → IsDistinct bytes_eq (keys_of old)
    → StoreFails capacity tc bytes e old new before after
    → Stores capacity tc bytes (refusal e (take n gone)) old new before after
store_refused error.WrongDigest capacity tc bytes gone n old new before after g e unlisted distinct h =
    record {
      comes = (
        sym (wrong_by (bytes_eq (id_of bytes) tc) (nat_lt capacity (length bytes)) _ h.2),
        ap
            (λ w. w.faults) h.1,
      );
      archives = h.0;
      untouched = λ _. h.1;
    }
store_refused error.FileTooLarge capacity tc bytes gone n old new before after g e unlisted distinct h =
    record {
      comes = (
        sym (large_by (bytes_eq (id_of bytes) tc) (nat_lt capacity (length bytes)) _ h.2),
        ap
            (λ w. w.faults) h.1,
      );
      archives = h.0;
      untouched = λ _. h.1;
    }
store_refused (error.Io fault) capacity tc bytes gone n old new before after g e unlisted distinct h =
    let w = went tc (capacity - length bytes) old new n unlisted distinct e h.0 in
    subst (λ l. Stores capacity tc bytes (Ok (Folder (take n l))) old new before after) (sym g)
    (record {
      comes = (
        subst (λ v. IsFrontOfDropped v
            (take n (ids (dropped (capacity - length bytes) old))))
            (sym (admitted capacity old tc bytes h.2)) w.front,
        fails_of fault before after h.1,
      );
      archives =
          w.rest;
      untouched = λ u. absurd u;
    })
store_refused error.Memory capacity tc bytes gone n old new before after g e unlisted distinct h =
    let w = went tc (capacity - length bytes) old new n unlisted distinct e h.0 in
    inr (take n (ids (dropped (capacity - length bytes) old)), w.front, w.rest)
store_refused error.FileNotInCache capacity tc bytes gone n old new before after g e unlisted distinct h =
    absurd h
store_refused error.PendingSpace capacity tc bytes gone n old new before after g e unlisted distinct h =
    absurd h
store_refused error.BadKey capacity tc bytes gone n old new before after g e unlisted distinct h = absurd h
store_refused error.NotPending capacity tc bytes gone n old new before after g e unlisted distinct h =
    absurd h
store_refused error.WriterRefused capacity tc bytes gone n old new before after g e unlisted distinct h =
    absurd h

-- none come with a store that was refused
pub store_shorter : (e : Error) (capacity : ℕ) (tc bytes : List ℕ) (old new : Archives)
    (before after : Held) → is_listed tc old ≡ false → IsDistinct bytes_eq (keys_of old)
    → StoreFails capacity tc bytes e old new before after → length new ≤ length old
store_shorter error.WrongDigest capacity tc bytes old new before after unlisted distinct h = let f =
    ap length h.0 in omega arith
store_shorter error.FileTooLarge capacity tc bytes old new before after unlisted distinct h = let f =
    ap length h.0 in omega arith
store_shorter (error.Io fault) capacity tc bytes old new before after unlisted distinct h =
    (went tc (capacity - length bytes) old new (length old - length new) unlisted distinct refl h.0).short
store_shorter error.Memory capacity tc bytes old new before after unlisted distinct h =
    (went tc (capacity - length bytes) old new (length old - length new) unlisted distinct refl h.0).short
store_shorter error.FileNotInCache capacity tc bytes old new before after unlisted distinct h = absurd h
store_shorter error.PendingSpace capacity tc bytes old new before after unlisted distinct h = absurd h
store_shorter error.BadKey capacity tc bytes old new before after unlisted distinct h = absurd h
store_shorter error.NotPending capacity tc bytes old new before after unlisted distinct h = absurd h
store_shorter error.WriterRefused capacity tc bytes old new before after unlisted distinct h = absurd h

trimmed : (limit : ℕ) (old : Archives) → IsDistinct bytes_eq (keys_of old)
    → trim limit old ≡ without_ids (ids (dropped limit old)) old
trimmed limit old distinct =
    sym (gone_out (dropped limit old) (trim limit old)
    (subst (λ l. IsDistinct bytes_eq (keys_of l)) (sym (dropped-trim limit old)) distinct))
    ∙ ap (λ l. without_ids (ids (dropped limit old)) l) (dropped-trim limit old)

-- a store that was made
pub store_made : (capacity : ℕ) (tc bytes : List ℕ) (gone : List (List ℕ)) (old new : Archives)
    (before after : Held)
    → gone ≡ ids (dropped (capacity - length bytes) old) → is_listed tc old ≡ false
    → IsDistinct bytes_eq (keys_of old)
    → new ≡ with_archive capacity tc (length bytes) old → archive_verdict capacity tc bytes ≡ Ok (tt {0})
    → after.faults ≡ before.faults
    → IsStored capacity tc bytes (Stored (length bytes) gone) old new before after
store_made capacity tc bytes gone old new before after g unlisted distinct made verdict steady = record {
  comes = (ap (λ l. Stored (length bytes) l) g ∙ sym (admitted capacity old tc bytes verdict), steady);
  archives =
      made
      ∙ ap (λ l. l ++ (tc, length bytes) ∷ [])
      (ap (λ l. trim (capacity - length bytes) l) (without_unlisted tc old unlisted)
      ∙ (trimmed (capacity - length bytes) old distinct ∙ ap (λ l. without_ids l old) (sym g)));
  untouched = λ u. absurd u;
}
