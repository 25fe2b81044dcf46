-- The keys of the registrations that stand, by their numbers.
use Rattle.std.proofs.Common.{◌≡◌, ◌<◌, ℕ, List, [], ◌∷◌, ◌++◌, Bool, true, false, cond, not, map, filter}
use Rattle.std.proofs.Common.{length, Option, Some, None, refl, ap, ◌∙◌, sym, subst, arith, eqb-true}
use Rattle.std.proofs.Common.{append-nil, take, get_or, ◌+◌, ◌||◌}
use Rattle.std.specs.Prelude.{◌==◌, nat_eq, option_to_list, IsSome}
use Rattle.std.proofs.lemmas.Bool.{false≢true}
use Rattle.std.specs.List.{AllByRecursion, list_any}
use Rattle.std.specs.Option.{option_map}
use Rattle.std.proofs.lemmas.List.{take_more}
use Rattle.std.proofs.lemmas.List.Folds.{list_any-append}
use Rattle.row_index.specs.Lookup.{value_at, HaveSame, Puts}
use Rattle.core_rules.specs.declared.entry.CoreEntry.{CoreEntry}
use Rattle.core_rules.specs.declared.rows.ServerRow.{ServerRow}
use Rattle.core_rules.specs.declared.entry.CoreKind.{CoreKind}
use Rattle.core_rules.specs.declared.entry.CoreKind.TheVariants.{Beat, Reserve, Commit, Undo, Update}
use Rattle.core_rules.specs.declared.entry.CoreKind.TheVariants.{Status, Drain}
use Rattle.core_rules.specs.Log.{names, is_this}
use Rattle.core_rules.specs.Standing.{Registered, registered_by, standing, ends_by, address_of, key_at}
use Rattle.core_rules.specs.Laws.{AreRising}
use Rattle.core_rules.specs.Next.{row_by}
use Rattle.core_rules.specs.Rule.{says_new_by}
use Rattle.core_rules.specs.Rows.{servers_of, row_of}
use Rattle.sched_core.specs.Books.{Keys, key_of, key_list, keys_of, kept_by, with_key, without, without_this}
use Rattle.sched_core.specs.Books.{ended_keys, key_by, HaveKeys, MayRegister}
use Rattle.core_rules.proofs.Lists.{map-map, map-same, list_any-map}
use Rattle.core_rules.proofs.AllLemmas.{all-unmap}
use Rattle.core_rules.proofs.StandingLemmas.{standing-push}
use Rattle.core_rules.proofs.PlaceLemmas.{cards_are}
use Rattle.sched_core.proofs.RegistrationLemmas.{turned}
use Rattle.sched_core.proofs.IndexLemmas.{all_end}

-- the keys after an entry of this number
abbrev pub keys_next : CoreEntry → ℕ → Keys → Keys
keys_next e number keys = with_key (key_by e.kind number) (ended_keys e.kind keys)

-- whether an entry leaves the key's registration standing
abbrev pub key_stays : CoreEntry → ℕ × List ℕ → Bool
key_stays e k = not (ends_by e.kind k.0)

key_made : (k : CoreKind) (now : ℕ) (before : List CoreEntry) (at : CoreEntry)
    → option_map key_of (registered_by k now before at []) ≡ key_by k (length before)
key_made (Beat server nonce cpus key pruned reaped replaced true) now before at = refl
key_made (Beat server nonce cpus key pruned reaped replaced false) now before at = refl
key_made (Reserve r) now before at = refl
key_made (Commit job state kept) now before at = refl
key_made (Undo job noted was_ended) now before at = refl
key_made (Update server job state answer) now before at = refl
key_made (Status pruned servers cpus jobs) now before at = refl
key_made (Drain addr nonce on named) now before at = refl

-- the keys after one more entry
pub keys-absorb : (keys : List (ℕ × List ℕ)) (log : List CoreEntry) (e : CoreEntry) → keys ≡ key_list log
    → filter (key_stays e) keys ++ option_to_list (key_by e.kind (length log)) ≡ key_list (log ++ e ∷ [])
keys-absorb keys log e same =
    ap (λ ks. filter (key_stays e) ks ++ option_to_list (key_by e.kind (length log))) same
    ∙ ap (λ ks. ks ++ option_to_list (key_by e.kind (length log)))
    (sym (map-same (λ k. k) (λ k. refl) (filter (key_stays e) (key_list log))))
    ∙ ap (λ o. map (λ k. k) (filter (key_stays e) (key_list log)) ++ option_to_list o)
    (sym (key_made e.kind e.now log e))
    ∙ sym (standing-push key_of (λ l d k. k) key_stays (λ d g. refl) (λ l d g whole up. refl) log e)

-- keys that are the same at each number are the same
pub each_key : (old new : Keys) → ((n : ℕ) → new n ≡ old n) → new ≡ old
each_key old new same = λ i n. same n i

-- room changes no key
pub kept_same : {A : Type 0} (own_key : A → List ℕ) (old new : List (ℕ × A)) → HaveSame nat_eq old new
    → kept_by own_key new ≡ kept_by own_key old
kept_same own_key old new same = each_key (kept_by own_key old) (kept_by own_key new)
    (λ n. ap (option_map own_key) (same n))

-- one key more
pub kept_with : {A : Type 0} (own_key : A → List ℕ) (number : ℕ) (key : A) (old new : List (ℕ × A))
    → Puts nat_eq number (Some key) old new
    → kept_by own_key new ≡ with_key (Some (number, own_key key)) (kept_by own_key old)
kept_with {A} own_key number key old new puts =
    each_key (with_key (Some (number, own_key key)) (kept_by own_key old)) (kept_by own_key new)
    (λ n. ap (option_map own_key) (puts n) ∙ split (nat_eq number n) (value_at nat_eq n old))
  where
    split : (b : Bool) (o : Option A) → option_map own_key (cond b (Some key) o)
        ≡ cond b (Some (own_key key)) (option_map own_key o)
    split true o = refl
    split false o = refl

gone_key : {A : Type 0} (own_key : A → List ℕ) (b : Bool) (o : Option A)
    → option_map own_key (cond b None o) ≡ cond b None (option_map own_key o)
gone_key own_key true o = refl
gone_key own_key false o = refl

-- one key less
pub kept_without : {A : Type 0} (own_key : A → List ℕ) (number : ℕ) (old new : List (ℕ × A))
    → Puts nat_eq number None old new
    → kept_by own_key new ≡ without_this (Some number) (kept_by own_key old)
kept_without own_key number old new puts =
    each_key (without_this (Some number) (kept_by own_key old)) (kept_by own_key new)
    (λ n. ap (option_map own_key) (puts n) ∙ gone_key own_key (nat_eq number n) (value_at nat_eq n old))

-- the keys of many numbers less, one after the other
pub without-step : {A : Type 0} (own_key : A → List ℕ) (numbers : List ℕ) (i : ℕ) (keys : Keys)
    (old new : List (ℕ × A)) → i < length numbers
    → kept_by own_key old ≡ without (take i numbers) keys
    → kept_by own_key new ≡ without_this (Some (get_or numbers i 0)) (kept_by own_key old)
    → kept_by own_key new ≡ without (take (i + 1) numbers) keys
without-step {A} own_key numbers i keys old new within so_far does =
    does ∙ ap (without_this (Some (get_or numbers i 0))) so_far
    ∙ each_key (without (take (i + 1) numbers) keys)
    (without_this (Some (get_or numbers i 0)) (without (take i numbers) keys))
    (λ n. both (names (take i numbers) n) (get_or numbers i 0 == n) (keys n)
    ∙ ap (λ b. cond b None (keys n)) (sym (ap (λ ns. names ns n) (take_more numbers i 0 within)
    ∙ list_any-append (λ k. k == n) (take i numbers) (get_or numbers i 0 ∷ []))))
  where
    both : (a b : Bool) (o : Option (List ℕ)) → cond b None (cond a None o) ≡ cond (a || (b || false)) None o
    both true true o = refl
    both true false o = refl
    both false true o = refl
    both false false o = refl

pub ended_both : (ns : List ℕ) (o : Option ℕ) (keys : Keys)
    → without_this o (without ns keys) ≡ (λ n. cond (names ns n || is_this o n) None (keys n))
ended_both ns o keys = each_key (λ n. cond (names ns n || is_this o n) None (keys n))
    (without_this o (without ns keys)) (λ n. both (names ns n) (is_this o n) (keys n))
  where
    both : (a b : Bool) (k : Option (List ℕ)) → cond b None (cond a None k) ≡ cond (a || b) None k
    both true true k = refl
    both true false k = refl
    both false true k = refl
    both false false k = refl

-- what an entry does to the keys of the log

look_stays : (q : ℕ → Bool) (ks : List (ℕ × List ℕ)) (n : ℕ)
    → cond (q n) None (value_at nat_eq n ks) ≡ value_at nat_eq n (filter (λ k. not (q k.0)) ks)
look_stays q [] n = elim (q n) as (λ b. cond {A = Option (List ℕ)} b None None ≡ None)
    [ true ↦ refl | false ↦ refl ]
look_stays q (k ∷ ks) n = split (q k.0) (nat_eq n k.0) refl refl (look_stays q ks n)
  where
    kept : List (ℕ × List ℕ)
    kept = filter (λ k. not (q k.0)) ks

    split : (a b : Bool) → q k.0 ≡ a → nat_eq n k.0 ≡ b
        → cond (q n) None (value_at nat_eq n ks) ≡ value_at nat_eq n kept
        → cond (q n) None (cond b (Some k.1) (value_at nat_eq n ks))
        ≡ value_at nat_eq n (cond (not a) (k ∷ kept) kept)
    split true false gone other rest = rest
    split false false stays other rest =
        rest ∙ sym (ap (λ b. cond b (Some k.1) (value_at nat_eq n kept)) other)
    split true true gone own rest =
        let ends : q n ≡ true = ap q (eqb-true n k.0 own) ∙ gone in
        ap (λ b. cond b None (Some k.1)) ends
        ∙ sym (ap (λ b. cond b None (value_at nat_eq n ks)) ends) ∙ rest
    split false true stays own rest =
        let ends : q n ≡ false = ap q (eqb-true n k.0 own) ∙ stays in
        ap (λ b. cond b None (Some k.1)) ends
        ∙ sym (ap (λ b. cond b (Some k.1) (value_at nat_eq n kept)) own)

look_more : (ks : List (ℕ × List ℕ)) (k : ℕ × List ℕ) → AreRising (map (λ k. k.0) (ks ++ k ∷ [])) → (n : ℕ)
    → cond (nat_eq k.0 n) (Some k.1) (value_at nat_eq n ks) ≡ value_at nat_eq n (ks ++ k ∷ [])
look_more [] k rising n = ap (λ b. cond b (Some k.1) None) (turned k.0 n)
look_more (j ∷ ks) k rising n = split (nat_eq n j.0) (nat_eq k.0 n) refl refl (look_more ks k rising.1 n)
  where
    split : (a b : Bool) → nat_eq n j.0 ≡ a → nat_eq k.0 n ≡ b
        → cond b (Some k.1) (value_at nat_eq n ks) ≡ value_at nat_eq n (ks ++ k ∷ [])
        → cond b (Some k.1) (cond a (Some j.1) (value_at nat_eq n ks))
        ≡ cond a (Some j.1) (value_at nat_eq n (ks ++ k ∷ []))
    split false b own other rest = rest
    split true false own other rest = refl
    split true true own other rest =
        let lt : j.0 < k.0 = all_end (λ (q : ℕ × List ℕ). j.0 < q.0) ks k
        (all-unmap (λ m. j.0 < m) (λ (q : ℕ × List ℕ). q.0) (ks ++ k ∷ []) rising.0) in
        let one : n ≡ j.0 = eqb-true n j.0 own in
        let two : k.0 ≡ n = eqb-true k.0 n other in
        absurd (omega (arith, lt, one, two))

joined : (o : Option (ℕ × List ℕ)) (ks : List (ℕ × List ℕ))
    → AreRising (map (λ k. k.0) (ks ++ option_to_list o))
    → (keys : Keys) → ((n : ℕ) → keys n ≡ value_at nat_eq n ks) → (n : ℕ)
    → with_key o keys n ≡ value_at nat_eq n (ks ++ option_to_list o)
joined None ks rising keys same n = same n ∙ ap (value_at nat_eq n) (sym (append-nil ks))
joined (Some k) ks rising keys same n =
    ap (λ o. cond (nat_eq k.0 n) (Some k.1) o) (same n) ∙ look_more ks k rising n

-- the keys after one more entry are the longer log's
pub keys-push : (log : List CoreEntry) (e : CoreEntry)
    → AreRising (map (λ g. g.reg) (standing (log ++ e ∷ [])))
    → keys_next e (length log) (keys_of log) ≡ keys_of (log ++ e ∷ [])
keys-push log e rising =
    let made : Option (ℕ × List ℕ) = key_by e.kind (length log) in
    let kept : List (ℕ × List ℕ) = filter (key_stays e) (key_list log) in
    let longer : kept ++ option_to_list made ≡ key_list (log ++ e ∷ []) =
    keys-absorb (key_list log) log e refl in
    each_key (keys_of (log ++ e ∷ [])) (keys_next e (length log) (keys_of log))
    (λ n. joined made kept
    (subst (λ ks. AreRising (map (λ (k : ℕ × List ℕ). k.0) ks)) (sym longer)
    (subst AreRising (sym (map-map (λ (k : ℕ × List ℕ). k.0) key_of (standing (log ++ e ∷ [])))) rising))
    (ended_keys e.kind (keys_of log)) (look_stays (ends_by e.kind) (key_list log)) n
    ∙ ap (value_at nat_eq n) longer)

-- a key that is kept is that of its registration

found_key : (log : List CoreEntry) (gs : List Registered) (n : ℕ)
    → AllByRecursion (λ g. key_at log g.reg ≡ Some g.key) gs → (key : List ℕ)
    → value_at nat_eq n (map key_of gs) ≡ Some key → key_at log n ≡ Some key
found_key log [] n all key is = absurd cc
found_key log (g ∷ gs) n all key is = split (nat_eq n g.reg) refl is (found_key log gs n all.1 key)
  where
    split : (b : Bool) → nat_eq n g.reg ≡ b
        → cond b (Some g.key) (value_at nat_eq n (map key_of gs)) ≡ Some key
        → (value_at nat_eq n (map key_of gs) ≡ Some key → key_at log n ≡ Some key)
        → key_at log n ≡ Some key
    split true own e rest = ap (key_at log) (eqb-true n g.reg own) ∙ all.0 ∙ e
    split false other e rest = rest e

pub key_known : (log : List CoreEntry) (n : ℕ) (key : List ℕ) → keys_of log n ≡ Some key
    → key_at log n ≡ Some key
key_known log n key is = found_key log (standing log) n (own (standing log) (cards_are log)) key is
  where
    own : (gs : List Registered) → AllByRecursion (λ g. (address_of log g.reg ≡ Some g.server)
        × (key_at log g.reg ≡ Some g.key)) gs → AllByRecursion (λ g. key_at log g.reg ≡ Some g.key) gs
    own [] all = tt
    own (g ∷ gs) all = (all.0.1, own gs all.1)

-- a registration that stands has a key

no_key : (gs : List Registered) (n : ℕ) → list_any (λ g. g.reg == n) gs ≡ true
    → value_at nat_eq n (map key_of gs) ≡ None → ⊥
no_key [] n some none = absurd cc
no_key (g ∷ gs) n some none = split (nat_eq n g.reg) refl some none (no_key gs n)
  where
    split : (b : Bool) → nat_eq n g.reg ≡ b → ((g.reg == n) || list_any (λ g. g.reg == n) gs) ≡ true
        → cond b (Some g.key) (value_at nat_eq n (map key_of gs)) ≡ None
        → (list_any (λ g. g.reg == n) gs ≡ true → value_at nat_eq n (map key_of gs) ≡ None → ⊥) → ⊥
    split true own any e rest = absurd cc
    split false other any e rest =
        rest (sym (ap (λ b. b || list_any (λ g. g.reg == n) gs) (turned g.reg n ∙ other)) ∙ any) e

pub key_there : (log : List CoreEntry) (n : ℕ) → list_any (λ r. r.reg == n) (servers_of log) ≡ true
    → keys_of log n ≡ None → ⊥
key_there log n some none = no_key (standing log) n
    (sym (list_any-map (λ r. r.reg == n) (row_of log) (standing log)) ∙ some) none

-- so each has its key among those that are kept
pub have_keys : (log : List CoreEntry) (rows : List ServerRow) (keys : Keys) → rows ≡ servers_of log
    → keys ≡ keys_of log → HaveKeys rows keys
have_keys log rows keys stand kept n there = some (keys n) (λ none. key_there log n
    (subst (λ rs. list_any (λ r. r.reg == n) rs ≡ true) stand there) (sym (ap (λ k. k n) kept) ∙ none))
  where
    some : (key : Option (List ℕ)) → (key ≡ None → ⊥) → IsSome key
    some None absent = absurd (absent refl)
    some (Some key) absent = refl

-- where an entry brings a key, it is a heartbeat's
pub key_registers : (k : CoreKind) (number : ℕ) → IsSome (key_by k number) → MayRegister k
key_registers (Beat server nonce cpus key pruned reaped replaced true) number some = refl
key_registers (Beat server nonce cpus key pruned reaped replaced false) number some = absurd (false≢true some)
key_registers (Reserve r) number some = absurd (false≢true some)
key_registers (Commit job state kept) number some = absurd (false≢true some)
key_registers (Undo job noted was_ended) number some = absurd (false≢true some)
key_registers (Update server job state answer) number some = absurd (false≢true some)
key_registers (Status pruned servers cpus n) number some = absurd (false≢true some)
key_registers (Drain addr nonce on named) number some = absurd (false≢true some)

-- where an entry brings a registration, it is a heartbeat that says new
pub row_registers : (k : CoreKind) (number now : ℕ) → IsSome (row_by k number now) → MayRegister k
row_registers (Beat server nonce cpus key pruned reaped replaced true) number now some = refl
row_registers (Beat server nonce cpus key pruned reaped replaced false) number now some =
    absurd (false≢true some)
row_registers (Reserve r) number now some = absurd (false≢true some)
row_registers (Commit job state kept) number now some = absurd (false≢true some)
row_registers (Undo job noted was_ended) number now some = absurd (false≢true some)
row_registers (Update server job state answer) number now some = absurd (false≢true some)
row_registers (Status pruned servers cpus n) number now some = absurd (false≢true some)
row_registers (Drain addr nonce on named) number now some = absurd (false≢true some)

pub registers_new : (k : CoreKind) → MayRegister k → says_new_by k ≡ true
registers_new (Beat server nonce cpus key pruned reaped replaced is_new) may = may
registers_new (Reserve r) may = absurd may
registers_new (Commit job state kept) may = absurd may
registers_new (Undo job noted was_ended) may = absurd may
registers_new (Update server job state answer) may = absurd may
registers_new (Status pruned servers cpus n) may = absurd may
registers_new (Drain addr nonce on named) may = absurd may
