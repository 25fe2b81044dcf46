-- Which entries of a disk cache are pending.
use Rattle.std.proofs.Common.{◌≡◌, ℕ, ◌==◌, Bool, true, false, ◌||◌, List, [], ◌∷◌, ◌++◌, inl, inr, refl}
use Rattle.std.proofs.Common.{sym, ap, subst, ◌∙◌, arith}
use Rattle.std.specs.List.{list_any}
use Rattle.std.proofs.lemmas.Bool.Decides.{nat_tests}
use Rattle.std.proofs.lemmas.Slice.Eq.{bytes_eq-Decides}
use Rattle.folders.specs.Held.{Held}
use Rattle.dist_types.specs.declared.cache_error.Error.{Error}
use Rattle.dist_types.specs.declared.cache_error.Error.TheVariants.{FileTooLarge, FileNotInCache, Io}
use Rattle.dist_types.specs.declared.cache_error.Error.TheVariants.{PendingSpace, BadKey, NotPending}
use Rattle.dist_types.specs.declared.cache_error.Error.TheVariants.{WrongDigest, WriterRefused, Memory}
use Rattle.lru_disk_cache.specs.Adding.{CommitBroke, CommitFails, prepared, reservation}
use Rattle.lru_disk_cache.specs.Reserved.{Reservation, AddEntry, is_of, is_pending, unsure}
use Rattle.lru_disk_cache.specs.Store.{Disk}

still_of : (entry : AddEntry) (n : ℕ) (ps : List Reservation)
    → is_pending entry (unsure n ps) ≡ is_pending entry ps
still_of entry n [] = refl
still_of entry n (r ∷ rs) = ap (λ b. is_of entry r || b) (still_of entry n rs)

broke : (entry : AddEntry) (d e : Disk) (old : Held) → is_pending entry d.pending ≡ true
    → CommitBroke entry d e old → is_pending entry e.pending ≡ true
broke entry d e old is (inl same) = subst (λ (x : Disk). is_pending entry x.pending ≡ true) (sym same) is
broke entry d e old is (inr h) =
    ap (λ (x : Disk). is_pending entry x.pending) h.3.disk ∙ (still_of entry entry.number d.pending ∙ is)

same_pending : (entry : AddEntry) (d e : Disk) → is_pending entry d.pending ≡ true → e ≡ d
    → is_pending entry e.pending ≡ true
same_pending entry d e is same = subst (λ (x : Disk). is_pending entry x.pending ≡ true) (sym same) is

-- an entry whose commit failed is pending
pub still_pending : (entry : AddEntry) (error : Error) (d e : Disk) (old new : Held)
    → is_pending entry d.pending ≡ true → CommitFails entry error d e old new
    → is_pending entry e.pending ≡ true
still_pending entry NotPending d e old new is h = same_pending entry d e is h.0
still_pending entry FileTooLarge d e old new is h = same_pending entry d e is h.0
still_pending entry PendingSpace d e old new is h = same_pending entry d e is h.0
still_pending entry (Io fault) d e old new is h = broke entry d e old is h.0
still_pending entry Memory d e old new is h = broke entry d e old is h.0
still_pending entry BadKey d e old new is h = absurd h
still_pending entry FileNotInCache d e old new is h = absurd h
still_pending entry WrongDigest d e old new is h = absurd h
still_pending entry WriterRefused d e old new is h = absurd h

or_true : (b c : Bool) → c ≡ true → (b || c) ≡ true
or_true true c h = refl
or_true false c h = h

any_last : (p : Reservation → Bool) (rs : List Reservation) (r : Reservation) → p r ≡ true
    → list_any p (rs ++ r ∷ []) ≡ true
any_last p [] r h = ap (λ b. b || false) h
any_last p (s ∷ ss) r h = or_true (p s) (list_any p (ss ++ r ∷ [])) (any_last p ss r h)

number_own : (n : ℕ) → (n == n) ≡ true
number_own n = grind (arith, nat_tests)

own : (d : Disk) (entry : AddEntry) → is_of entry (reservation d entry) ≡ true
own d entry =
    rw (number_own entry.number, number_own entry.size, (bytes_eq-Decides entry.key entry.key).1 refl) refl

-- an entry that was announced is pending
pub now_pending : (entry : AddEntry) (d e : Disk) → e ≡ prepared d entry → is_pending entry e.pending ≡ true
now_pending entry d e is = ap (λ (x : Disk). is_pending entry x.pending) is
    ∙ any_last (is_of entry) d.pending (reservation d entry) (own d entry)
