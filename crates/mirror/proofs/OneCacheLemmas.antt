-- The two sides of a mirror, and one cache that takes all.
use Rattle.std.proofs.Common.{◌≡◌, ℕ, ◌≤◌, Bool, true, false, List, [], ◌∷◌, length}
use Rattle.std.proofs.Common.{Option, Some, None, is_some, refl, sym, ap, subst, ◌∙◌, true≢false, arith}
use Rattle.std.specs.Prelude.{◌||◌}
use Rattle.std.specs.List.{IsDistinct}
use Rattle.std.specs.Map.{lookup}
use Rattle.std.specs.Str.{bytes_eq}
use Rattle.std.proofs.lemmas.Slice.Eq.{bytes_eq-Decides}
use Rattle.lru_metered.proofs.Lookups.{not_found}
use Rattle.listed_files.specs.Entries.{total, promoted_key}
use Rattle.toolchain_cache.specs.Archives.{Archives, id_of}
use Rattle.build_server.specs.Books.{is_listed}
use Rattle.mirror.specs.OneCache.{Deed, Capacities, next, after, no_sides, one_next, one_after, larger, with_put}
use Rattle.mirror.specs.OneCache.{put_after, SidesAreOne}
use Rattle.mirror.specs.Sides.{Sides, put_in, after_get, after_far, after_near, after_ask}
use Rattle.mirror.proofs.RoomLemmas.{with_last, Differ, PartOf, found_this, differ_last, listed_last, promoted_is}
use Rattle.mirror.proofs.RoomLemmas.{stored_is, part_last, part_wider, grows}

-- a cache whose archives are among all
pub record IsAmong (a all : Archives) : Type 0 where
  pub differ : Differ a
  pub part : PartOf a all

-- an id that is listed stays so
abbrev pub ListsStill : Archives → Archives → Type 0
ListsStill old new = (q : List ℕ) → is_listed q old ≡ true → is_listed q new ≡ true

-- what a store or a look-up makes of a cache with room
pub record Moved (a all new : Archives) : Type 0 where
  pub among : IsAmong new all
  pub still : ListsStill a new

or_true : (b c : Bool) → c ≡ true → (b || c) ≡ true
or_true true c h = refl
or_true false c h = h

stays_listed : (id : List ℕ) (n : ℕ) (a : Archives) → Differ a → ListsStill a (with_last id n a)
stays_listed id n a differ q h = listed_last q id n a differ ∙ or_true (bytes_eq q id) (is_listed q a) h

-- one of those that were put, put last
last : (id : List ℕ) (n m : ℕ) (a all new : Archives) → IsAmong a all → lookup (bytes_eq id) all ≡ Some m
    → n ≤ m → new ≡ with_last id n a → Moved a all new
last id n m a all new among found less is = subst (Moved a all) (sym is) (record {
  among = record {
    differ = differ_last id n a among.differ;
    part = part_last id n m a all among.differ among.part found less;
  };
  still = stays_listed id n a among.differ;
})

stored : (capacity : ℕ) (id : List ℕ) (n m : ℕ) (a all : Archives) → IsAmong a all → Differ all
    → lookup (bytes_eq id) all ≡ Some m → n ≤ m → total all ≤ capacity
    → Moved a all (put_in capacity id n a) × (is_listed id (put_in capacity id n a) ≡ true)
stored capacity id n m a all among dall found less fits =
    let is = stored_is capacity id n m a all among.differ dall among.part found less fits in (
      last id n m a all (put_in capacity id n a) among found less is,
      ap (is_listed id) is ∙ ap is_some (found_this id n a among.differ),
    )

-- a look-up
promoted : (id : List ℕ) (a all : Archives) → IsAmong a all → Moved a all (promoted_key id a)
promoted id a all among = by (lookup (bytes_eq id) a) refl
  where
    by : (o : Option ℕ) → lookup (bytes_eq id) a ≡ o → Moved a all (promoted_key id a)
    by None none = subst (Moved a all) (sym (not_found (bytes_eq id) a none)) (record {
      among = among;
      still = λ q h. h;
    })
    by (Some n) found =
        let p = among.part id n found in
        last id n p.0 a all (promoted_key id a) among p.1 p.2 (promoted_is id n a found)

wider : (id : List ℕ) (n : ℕ) (a all : Archives) → Differ all → IsAmong a all → IsAmong a (with_put id n all)
wider id n a all dall among =
    record { differ = among.differ; part = part_wider id n a all dall among.part }

-- ---- the two sides, and the one cache

-- whether one of the two sides lists an id
abbrev pub either : Sides → List ℕ → Bool
either s q = is_listed q s.near || is_listed q s.far

-- The two sides, and the one cache, have no other archives than were put; what was put is on one of the
-- sides, and in the one cache. Nothing waits.
pub record Share (s : Sides) (one all : Archives) : Type 0 where
  pub near : IsAmong s.near all
  pub far : IsAmong s.far all
  pub single : IsAmong one all
  pub differ : Differ all
  pub sides : (q : List ℕ) → is_listed q all ≡ true → either s q ≡ true
  pub kept : ListsStill all one
  pub idle : s.waiting ≡ []

both_ways : (a b : Bool) → (a ≡ true → b ≡ true) → (b ≡ true → a ≡ true) → a ≡ b
both_ways true true f g = refl
both_ways true false f g = sym (f refl)
both_ways false true f g = g refl
both_ways false false f g = refl

or_cases : {X : Type 0} (a b : Bool) → (a || b) ≡ true → (a ≡ true → X) → (b ≡ true → X) → X
or_cases true b h f g = f refl
or_cases false b h f g = g h

or_map : (a b c d : Bool) → (a || b) ≡ true → (a ≡ true → c ≡ true) → (b ≡ true → d ≡ true) → (c || d) ≡ true
or_map a b c d h f g = or_cases a b h (λ e. ap (λ x. x || d) (f e)) (λ e. or_true c d (g e))

is_there : (o : Option ℕ) → is_some o ≡ true → (n : ℕ) × (o ≡ Some n)
is_there None h = absurd (true≢false (sym h))
is_there (Some n) h = (n, refl)

among_listed : (a all : Archives) → IsAmong a all → ListsStill a all
among_listed a all among q h =
    let n = is_there (lookup (bytes_eq q) a) h in
    let p = among.part q n.0 n.1 in
    ap is_some p.1

-- so either side lists an id exactly where the one cache does
pub same_ids : (s : Sides) (one all : Archives) → Share s one all → (q : List ℕ) → either s q ≡ is_listed q one
same_ids s one all share q = both_ways (either s q) (is_listed q one)
    (λ h. share.kept q (or_cases (is_listed q s.near) (is_listed q s.far) h
    (among_listed s.near all share.near q) (among_listed s.far all share.far q)))
    (λ h. share.sides q (among_listed one all share.single q h))

-- ---- a step

-- an id that is listed once more is put is that one, or was listed
put_listed : (q id : List ℕ) (n : ℕ) (all : Archives) → Differ all → is_listed q (with_put id n all) ≡ true
    → {X : Type 0} → (bytes_eq q id ≡ true → X) → (is_listed q all ≡ true → X) → X
put_listed q id n all dall h {X} f g =
    or_cases (bytes_eq q id) (is_listed q all) (sym (listed_last q id (larger id n all) all dall) ∙ h) f g

that_one : (q id : List ℕ) (a : Archives) → bytes_eq q id ≡ true → is_listed id a ≡ true → is_listed q a ≡ true
that_one q id a is h = ap (λ k. is_listed k a) ((bytes_eq-Decides q id).0 is) ∙ h

large : (id : List ℕ) (n : ℕ) (all : Archives) → n ≤ larger id n all
large id n all = omega arith

module _ (c : Capacities) (s : Sides) (one all : Archives) where
  -- bytes are put near
  put_near_step : (id : List ℕ) (n : ℕ) → Share s one all → total (with_put id n all) ≤ c.near
      → total (with_put id n all) ≤ c.one
      → Share (record { near = put_in c.near id n s.near; far = s.far; waiting = s.waiting })
      (put_in c.one id n one) (with_put id n all)
  put_near_step id n share room room_one =
      let found = found_this id (larger id n all) all share.differ in
      let wide = differ_last id (larger id n all) all share.differ in
      let here = stored c.near id n (larger id n all) s.near (with_put id n all)
      (wider id n s.near all share.differ share.near) wide found (large id n all) room in
      let there = stored c.one id n (larger id n all) one (with_put id n all)
      (wider id n one all share.differ share.single) wide found (large id n all) room_one in
      record {
        near = here.0.among;
        far = wider id n s.far all share.differ share.far;
        single = there.0.among;
        differ = wide;
        sides = λ q h. put_listed q id n all share.differ h
            (λ is. ap (λ b. b || is_listed q s.far) (that_one q id (put_in c.near id n s.near) is here.1))
            (λ old. or_map (is_listed q s.near) (is_listed q s.far) (is_listed q (put_in c.near id n s.near))
            (is_listed q s.far) (share.sides q old) (here.0.still q) (λ e. e));
        kept = λ q h. put_listed q id n all share.differ h
            (λ is. that_one q id (put_in c.one id n one) is there.1)
            (λ old. there.0.still q (share.kept q old));
        idle = share.idle;
      }

  -- bytes are put far
  put_far_step : (id : List ℕ) (n : ℕ) → Share s one all → total (with_put id n all) ≤ c.far
      → total (with_put id n all) ≤ c.one
      → Share (record { near = s.near; far = put_in c.far id n s.far; waiting = s.waiting })
      (put_in c.one id n one) (with_put id n all)
  put_far_step id n share room room_one =
      let found = found_this id (larger id n all) all share.differ in
      let wide = differ_last id (larger id n all) all share.differ in
      let here = stored c.far id n (larger id n all) s.far (with_put id n all)
      (wider id n s.far all share.differ share.far) wide found (large id n all) room in
      let there = stored c.one id n (larger id n all) one (with_put id n all)
      (wider id n one all share.differ share.single) wide found (large id n all) room_one in
      record {
        near = wider id n s.near all share.differ share.near;
        far = here.0.among;
        single = there.0.among;
        differ = wide;
        sides = λ q h. put_listed q id n all share.differ h
            (λ is. or_true (is_listed q s.near) (is_listed q (put_in c.far id n s.far))
            (that_one q id (put_in c.far id n s.far) is here.1))
            (λ old. or_map (is_listed q s.near) (is_listed q s.far) (is_listed q s.near)
            (is_listed q (put_in c.far id n s.far)) (share.sides q old) (λ e. e) (here.0.still q));
        kept = λ q h. put_listed q id n all share.differ h
            (λ is. that_one q id (put_in c.one id n one) is there.1)
            (λ old. there.0.still q (share.kept q old));
        idle = share.idle;
      }

  -- what a get leaves: all that is listed stays so
  moved_step : (id : List ℕ) (now : Sides) → Share s one all → Moved s.near all now.near → Moved s.far all now.far
      → now.waiting ≡ s.waiting → Share now (promoted_key id one) all
  moved_step id now share near far same =
      let single = promoted id one all share.single in
      record {
        near = near.among;
        far = far.among;
        single = single.among;
        differ = share.differ;
        sides = λ q h. or_map (is_listed q s.near) (is_listed q s.far) (is_listed q now.near) (is_listed q now.far)
            (share.sides q h) (near.still q) (far.still q);
        kept = λ q h. single.still q (share.kept q h);
        idle = same ∙ share.idle;
      }

  stay : (a : Archives) → IsAmong a all → Moved a all a
  stay a among = record { among = among; still = λ q h. h }

  -- an archive is asked for
  get_step : (id : List ℕ) → Share s one all → total all ≤ c.near
      → Share (after_get c.near id s) (promoted_key id one) all
  get_step id share room = by_near (lookup (bytes_eq id) s.near) refl
    where
      by_far : (o : Option ℕ) → lookup (bytes_eq id) s.far ≡ o
          → Share (after_far c.near id o s) (promoted_key id one) all
      by_far None none = moved_step id s share (stay s.near share.near) (stay s.far share.far) refl
      by_far (Some n) found =
          let p = share.far.part id n found in
          moved_step id (after_far c.near id (Some n) s) share
          (stored c.near id n p.0 s.near all share.near share.differ p.1 p.2 room).0
          (promoted id s.far all share.far) refl

      by_near : (o : Option ℕ) → lookup (bytes_eq id) s.near ≡ o
          → Share (after_near c.near id o s) (promoted_key id one) all
      by_near (Some n) found = moved_step id (after_near c.near id (Some n) s) share
          (promoted id s.near all share.near) (stay s.far share.far) refl
      by_near None none =
          subst (λ w. Share (after_ask c.near id w s) (promoted_key id one) all) (sym share.idle)
          (by_far (lookup (bytes_eq id) s.far) refl)

-- ---- all steps

pub all_grows : (all : Archives) (deeds : List Deed) → total all ≤ total (put_after all deeds)
all_grows all [] = omega arith
all_grows all (Deed.put_near bytes ∷ ds) =
    let first = grows (id_of bytes) (length bytes) all in
    let rest = all_grows (with_put (id_of bytes) (length bytes) all) ds in
    omega (arith, first, rest)
all_grows all (Deed.put_far bytes ∷ ds) =
    let first = grows (id_of bytes) (length bytes) all in
    let rest = all_grows (with_put (id_of bytes) (length bytes) all) ds in
    omega (arith, first, rest)
all_grows all (Deed.get id ∷ ds) = all_grows all ds

-- the two sides share with the one cache once all is done
pub shared : (c : Capacities) (deeds : List Deed) (s : Sides) (one all : Archives) → Share s one all
    → total (put_after all deeds) ≤ c.near → total (put_after all deeds) ≤ c.far
    → total (put_after all deeds) ≤ c.one
    → Share (after c s deeds) (one_after c one deeds) (put_after all deeds)
shared c [] s one all share near far single = share
shared c (Deed.put_near bytes ∷ ds) s one all share near far single =
    let more = all_grows (with_put (id_of bytes) (length bytes) all) ds in
    shared c ds (next c s (Deed.put_near bytes)) (one_next c one (Deed.put_near bytes))
    (with_put (id_of bytes) (length bytes) all)
    (put_near_step c s one all (id_of bytes) (length bytes) share (omega (arith, more, near))
    (omega (arith, more, single))) near far single
shared c (Deed.put_far bytes ∷ ds) s one all share near far single =
    let more = all_grows (with_put (id_of bytes) (length bytes) all) ds in
    shared c ds (next c s (Deed.put_far bytes)) (one_next c one (Deed.put_far bytes))
    (with_put (id_of bytes) (length bytes) all)
    (put_far_step c s one all (id_of bytes) (length bytes) share (omega (arith, more, far))
    (omega (arith, more, single))) near far single
shared c (Deed.get id ∷ ds) s one all share near far single =
    let more = all_grows all ds in
    shared c ds (next c s (Deed.get id)) (one_next c one (Deed.get id)) all
    (get_step c s one all id share (omega (arith, more, near))) near far single

-- at the start
pub nothing_shared : Share no_sides [] []
unfolding IsDistinct
nothing_shared = record {
  near = record { differ = tt; part = λ q n found. absurd (true≢false (sym (ap is_some found))) };
  far = record { differ = tt; part = λ q n found. absurd (true≢false (sym (ap is_some found))) };
  single = record { differ = tt; part = λ q n found. absurd (true≢false (sym (ap is_some found))) };
  differ = tt;
  sides = λ q h. absurd (true≢false (sym h));
  kept = λ q h. h;
  idle = refl;
}

pub sides_are_one : SidesAreOne
sides_are_one c deeds id room =
    same_ids (after c no_sides deeds) (one_after c [] deeds) (put_after [] deeds)
    (shared c deeds no_sides [] [] nothing_shared room.near room.far room.one) id
