-- What follows of a get.
use Rattle.std.proofs.Common.{◌≡◌, ℕ, ◌≤◌, ◌-◌, inl, inr, Bool, true, false, List}
use Rattle.std.proofs.Common.{Option, Some, None, is_some, Result, Ok, Err, IfErr, OnErr, refl, sym, ap, subst, ◌∙◌}
use Rattle.std.proofs.Common.{true≢false, arith, length}
use Rattle.std.specs.Prelude.{◌||◌}
use Rattle.std.specs.Map.{lookup}
use Rattle.std.specs.Str.{bytes_eq}
use Rattle.std.proofs.lemmas.Slice.Eq.{bytes_eq-Decides}
use Rattle.dist_types.specs.Cause.{Rose}
use Rattle.dist_types.specs.declared.dialer.AskFault.{AskFault}
use Rattle.dist_types.specs.declared.dialer.AskFault.TheVariants.{Failed, Memory as OutOfMemory}
use Rattle.folders.specs.Files.{front}
use Rattle.folders.specs.Held.{Became}
use Rattle.folders.proofs.Exactly.{outside_both, none_outside}
use Rattle.lru_metered.proofs.Lookups.{not_found}
use Rattle.listed_files.specs.Disk.{Left, without_key}
use Rattle.listed_files.specs.Entries.{promoted_key, IsEnd}
use Rattle.listed_files.proofs.Trims.{absent_end, unlisted}
use Rattle.dist_types.specs.declared.cache_error.Error.{Error}
use Rattle.dist_types.specs.declared.cache_error.Error.TheVariants as error
use Rattle.toolchain_cache.specs.Archives.{Archives}
use Rattle.toolchain_cache.specs.Archiving.{FindFails}
use Rattle.build_server.specs.Books.{is_listed}
use Rattle.folders.specs.Changed.{ButUnder}
use Rattle.toolchain_cache.specs.Archives.{IsArchiveStore}
use Rattle.std.proofs.Common.{OnOk}
use Rattle.mirror.specs.Caches.{Cache, Stays, Looks, Stores, ListsNoMore}
use Rattle.mirror.specs.Getting.{Answer, Gets, AfterNear, AfterHeard, AfterSaid, AfterStore}
use Rattle.mirror.specs.Getting.{near_of, GivesFetched}
use Rattle.mirror.specs.declared.error.MirrorError.{MirrorError}
use Rattle.mirror.specs.declared.said.Said.{Said}
use Rattle.mirror.specs.declared.said.Said.TheVariants.{Archive, NotThere, Bad}
use Rattle.mirror.proofs.RoomLemmas.{Differ, promoted_is, listed_last, out_other}

-- ---- what stays

pub stays_here : (c : Cache) → IsArchiveStore c.path c.capacity c.archives c.folder → Stays c c
stays_here c stands = record {
  capacity = refl;
  path = refl;
  others = none_outside (front c.path) c.folder.files;
  later = omega arith;
  stands = stands;
}

pub stays_same : (old new : Cache) → IsArchiveStore old.path old.capacity old.archives old.folder → new ≡ old
    → Stays old new
stays_same old new stands same = subst (Stays old) (sym same) (stays_here old stands)

pub stays_then : (one two three : Cache) → Stays one two → Stays two three → Stays one three
stays_then one two three a b =
    let P : List ℕ → Type 0 = λ p. Became (ButUnder (front p)) two.folder.files three.folder.files in
    let x : one.folder.faults ≤ two.folder.faults = a.later in
    let y : two.folder.faults ≤ three.folder.faults = b.later in
    record {
      capacity = b.capacity ∙ a.capacity;
      path = b.path ∙ a.path;
      others = outside_both (front one.path) one.folder.files two.folder.files three.folder.files a.others
          (subst P a.path b.others);
      later = omega (arith, x, y);
      stands = b.stands;
    }

abbrev pub Stood : Cache → Type 0
Stood c = IsArchiveStore c.path c.capacity c.archives c.folder

stays_said : (id : List ℕ) (said : Said) (answer : Answer) (old new : Cache) → Stood old
    → AfterSaid id said answer old new → Stays old new
stays_said id (Archive bytes) answer old new stood h = elim h [
  | inl k ↦ k.stores.stays
  | inr r ↦ stays_same old new stood r.same
]
stays_said id NotThere answer old new stood h = stays_same old new stood h.1
stays_said id (Bad code) answer old new stood h = stays_same old new stood h.1

pub stays_heard : (id : List ℕ) (heard : Result (List ℕ) AskFault) (answer : Answer) (old new : Cache) → Stood old
    → AfterHeard id heard answer old new → Stays old new
stays_heard id (Ok reply) answer old new stood h = elim h [
  | inl r ↦ stays_said id r.said answer old new stood r.follows
  | inr m ↦ stays_same old new stood m.1
]
stays_heard id (Err Failed) answer old new stood h = stays_same old new stood h.1
stays_heard id (Err OutOfMemory) answer old new stood h = stays_same old new stood h.1

module _ (U : Type 0) (A : Result (List ℕ) AskFault → Type 0) (id : List ℕ) where
  pub stays_near : (near : Result (Option (List ℕ)) MirrorError) (answer : Answer) (old new : Cache) → Stood old
      → AfterNear U A id near answer old new → Stays old new
  stays_near (Ok (Some bytes)) answer old new stood h = stays_same old new stood h.1
  stays_near (Ok None) answer old new stood h = stays_heard id h.heard answer old new stood h.follows
  stays_near (Err e) answer old new stood h = stays_same old new stood h.1

  pub get_stays : (answer : Answer) (old new : Cache) → Gets U A id answer old new → Stays old new
  get_stays answer old new h =
      stays_then old h.between new h.looks.stays
      (stays_near (near_of h.found) answer h.between new h.looks.stays.stands h.follows)

-- ---- what an error leaves listed

same_no_more : (old new : Cache) → new ≡ old → ListsNoMore old new
same_no_more old new same id h = ap (λ c. is_listed id c.archives) (sym same) ∙ h

then_no_more : (one two three : Cache) → ListsNoMore one two → ListsNoMore two three → ListsNoMore one three
then_no_more one two three f g id h = f id (g id h)

-- a list that is the same, or has one of them as the most recent, lists no more
promoted_no_more : (id : List ℕ) (a : Archives) → Differ a → (q : List ℕ) → is_listed q (promoted_key id a) ≡ true
    → is_listed q a ≡ true
promoted_no_more id a differ q h = by (lookup (bytes_eq id) a) refl
  where
    here : (n : ℕ) → lookup (bytes_eq id) a ≡ Some n → (b : Bool) → bytes_eq q id ≡ b → (b || is_listed q a) ≡ true
        → is_listed q a ≡ true
    here n found true is e =
        ap (λ k. is_listed k a) ((bytes_eq-Decides q id).0 is) ∙ ap is_some found
    here n found false is e = e

    by : (o : Option ℕ) → lookup (bytes_eq id) a ≡ o → is_listed q a ≡ true
    by None none = ap (is_listed q) (sym (not_found (bytes_eq id) a none)) ∙ h
    by (Some n) found = here n found (bytes_eq q id) refl
        (sym (ap (is_listed q) (promoted_is id n a found) ∙ listed_last q id n a differ) ∙ h)

-- what a failed store leaves lists no more
pub left_no_more : (id : List ℕ) (limit : ℕ) (a b : Archives) → Differ a → Left id limit a b → (q : List ℕ)
    → is_listed q b ≡ true → is_listed q a ≡ true
left_no_more id limit a b differ left q h = elim left [
  | inl same ↦ ap (is_listed q) (sym same) ∙ h
  | inr some ↦ by (lookup (bytes_eq q) a) refl some.0
]
  where
    out : (c : Bool) → bytes_eq q id ≡ c → lookup (bytes_eq q) a ≡ None → lookup (bytes_eq q) (without_key id a) ≡ None
    out true is none = ap (λ k. lookup (bytes_eq k) (without_key id a)) ((bytes_eq-Decides q id).0 is)
        ∙ unlisted id a differ
    out false is none = out_other q id a differ is ∙ none

    by : (o : Option ℕ) → lookup (bytes_eq q) a ≡ o → IsEnd b (without_key id a) → is_listed q a ≡ true
    by (Some n) found end = ap is_some found
    by None none end = absurd (true≢false (sym h
        ∙ ap is_some (absent_end q (without_key id a) b end (out (bytes_eq q id) refl none))))

looks_no_more : (id : List ℕ) (found : Result (List ℕ) Error) (old new : Cache) → Looks id found old new
    → ListsNoMore old new
looks_no_more id found old new h = by found h.archives h.fails
  where
    most : new.archives ≡ promoted_key id old.archives → ListsNoMore old new
    most is q e = promoted_no_more id old.archives h.stood.distinct q (ap (is_listed q) (sym is) ∙ e)

    same : new.archives ≡ old.archives → ListsNoMore old new
    same is q e = ap (is_listed q) (sym is) ∙ e

    by : (found : Result (List ℕ) Error) → OnOk found (new.archives ≡ promoted_key id old.archives)
        → IfErr found (λ e. FindFails id e old.archives new.archives old.folder new.folder) → ListsNoMore old new
    by (Ok bytes) ok fails = most ok
    by (Err error.FileNotInCache) ok fails = same fails.0
    by (Err (error.Io fault)) ok fails = most fails.0
    by (Err error.Memory) ok fails = elim fails [ inl is ↦ same is | inr is ↦ most is ]
    by (Err error.FileTooLarge) ok fails = absurd fails
    by (Err error.PendingSpace) ok fails = absurd fails
    by (Err error.BadKey) ok fails = absurd fails
    by (Err error.NotPending) ok fails = absurd fails
    by (Err error.WrongDigest) ok fails = absurd fails
    by (Err error.WriterRefused) ok fails = absurd fails

store_no_more : (id bytes : List ℕ) (e : MirrorError) (stored : Result (Unit {0}) Error) (answer : Answer)
    (old new : Cache) → answer ≡ Err e → Differ old.archives → AfterStore bytes stored answer
    → Stores id bytes stored old new → ListsNoMore old new
store_no_more id bytes e (Ok x) answer old new is differ h stores = absurd (subst (GivesFetched bytes true) is h)
store_no_more id bytes e (Err error.FileTooLarge) answer old new is differ h stores =
    absurd (subst (GivesFetched bytes false) is h)
store_no_more id bytes e (Err (error.Io fault)) answer old new is differ h stores =
    absurd (subst (GivesFetched bytes false) is h)
store_no_more id bytes e (Err error.Memory) answer old new is differ h stores =
    left_no_more id (old.capacity - length bytes) old.archives new.archives differ stores.fails.0
store_no_more id bytes e (Err error.FileNotInCache) answer old new is differ h stores = absurd h
store_no_more id bytes e (Err error.PendingSpace) answer old new is differ h stores = absurd h
store_no_more id bytes e (Err error.BadKey) answer old new is differ h stores = absurd h
store_no_more id bytes e (Err error.NotPending) answer old new is differ h stores = absurd h
store_no_more id bytes e (Err error.WrongDigest) answer old new is differ h stores = absurd h
store_no_more id bytes e (Err error.WriterRefused) answer old new is differ h stores = absurd h

said_no_more : (id : List ℕ) (e : MirrorError) (said : Said) (answer : Answer) (old new : Cache) → answer ≡ Err e
    → Differ old.archives → AfterSaid id said answer old new → ListsNoMore old new
said_no_more id e (Archive bytes) answer old new is differ h = elim h [
  | inl k ↦ store_no_more id bytes e k.stored answer old new is differ k.gives k.stores
  | inr r ↦ same_no_more old new r.same
]
said_no_more id e NotThere answer old new is differ h = same_no_more old new h.1
said_no_more id e (Bad code) answer old new is differ h = same_no_more old new h.1

heard_no_more : (id : List ℕ) (e : MirrorError) (heard : Result (List ℕ) AskFault) (answer : Answer)
    (old new : Cache) → answer ≡ Err e → Differ old.archives → AfterHeard id heard answer old new
    → ListsNoMore old new
heard_no_more id e (Ok reply) answer old new is differ h = elim h [
  | inl r ↦ said_no_more id e r.said answer old new is differ r.follows
  | inr m ↦ same_no_more old new m.1
]
heard_no_more id e (Err Failed) answer old new is differ h = same_no_more old new h.1
heard_no_more id e (Err OutOfMemory) answer old new is differ h = same_no_more old new h.1

module _ (U : Type 0) (A : Result (List ℕ) AskFault → Type 0) (id : List ℕ) where
  near_no_more : (e : MirrorError) (near : Result (Option (List ℕ)) MirrorError) (answer : Answer) (old new : Cache)
      → answer ≡ Err e → Differ old.archives → AfterNear U A id near answer old new → ListsNoMore old new
  near_no_more e (Ok (Some bytes)) answer old new is differ h = same_no_more old new h.1
  near_no_more e (Ok None) answer old new is differ h =
      heard_no_more id e h.heard answer old new is differ h.follows
  near_no_more e (Err x) answer old new is differ h = same_no_more old new h.1

  -- where a get is refused, nothing is listed that was not before
  pub get_no_more : (answer : Answer) (old new : Cache) → Gets U A id answer old new
      → OnErr answer (ListsNoMore old new)
  get_no_more answer old new h = by answer (λ e is. then_no_more old h.between new
      (looks_no_more id h.found old h.between h.looks)
      (near_no_more e (near_of h.found) answer h.between new is h.looks.stays.stands.distinct h.follows))
    where
      by : (answer : Answer) → ((e : MirrorError) → answer ≡ Err e → ListsNoMore old new)
          → OnErr answer (ListsNoMore old new)
      by (Ok x) f = tt
      by (Err e) f = f e refl

-- ---- faults

-- a count that rose by then rose by later
pub risen : (a b c : ℕ) → Rose a b → b ≤ c → Rose a c
risen a b c r h = omega (arith, r, h)
