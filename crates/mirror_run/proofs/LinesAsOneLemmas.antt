-- Where there is room for all, each get has the line of one cache.
use Rattle.std.proofs.Common.{◌≡◌, ℕ, ◌≤◌, ◌⊎◌, inl, inr, Bool, true, false, List, [], ◌∷◌, Some, None, Ok, Err}
use Rattle.std.proofs.Common.{refl, sym, ap, subst, ◌∙◌, arith}
use Rattle.std.proofs.lemmas.Option.{same_Some}
use Rattle.build_server.specs.Books.{is_listed}
use Rattle.listed_files.specs.Entries.{total}
use Rattle.mirror_script.specs.declared.line.Site.TheVariants as site
use Rattle.mirror_script.specs.declared.line.Step.{Step}
use Rattle.mirror_script.specs.declared.line.Step.TheVariants as step
use Rattle.mirror_script.specs.declared.said.Said.{Said}
use Rattle.mirror_script.specs.declared.said.Said.TheVariants as said
use Rattle.mirror_script.specs.declared.script.Script.{Script}
use Rattle.toolchain_cache.specs.Archives.{Archives, id_of}
use Rattle.mirror.specs.Getting.{Answer}
use Rattle.mirror_run.specs.LinesAsOne.{deed_of, AreDeeds, IsOneLine, AsOneLine, AllAsOne, AreAsOne}
use Rattle.mirror.specs.OneCache.{Deed, Capacities, next, one_next, put_next, put_after, AsOne}
use Rattle.mirror_run.specs.Program.{rooms_of}
use Rattle.mirror.specs.Sides.{Sides, Gives}
use Rattle.mirror_run.specs.Steps.{Rooms, IsSaid, Says, after, Lines, empty}
use Rattle.mirror.specs.declared.error.MirrorError.TheVariants as mirror
use Rattle.mirror.specs.declared.got.Got.TheVariants.{Near, Fetched}
use Rattle.mirror.proofs.AsOneLemmas.{as_either}
use Rattle.mirror.proofs.OneCacheLemmas.{Share, same_ids, shared, nothing_shared, all_grows}

-- the line of an answer that is one cache's
one_line : (id : List ℕ) (b : Bool) (answer : Answer) (l : Said) → AsOne id b answer → IsSaid answer l
    → IsOneLine id b l
one_line id true (Ok (Near v)) l (bytes, named, inl near, only) is =
    (bytes, named, inl (is ∙ ap (λ (x : List ℕ). said.Near x) near))
one_line id true (Ok (Near v)) l (bytes, named, inr (listed, none), only) is = absurd none
one_line id true (Ok (Fetched v true)) l (bytes, named, inl near, only) is = absurd near
one_line id true (Ok (Fetched v true)) l (bytes, named, inr (listed, given), only) is =
    (bytes, named, inr (inl (is ∙ ap (λ (x : List ℕ). said.Fetched x) given.0)))
one_line id true (Ok (Fetched v false)) l (bytes, named, inl near, only) is = absurd near
one_line id true (Ok (Fetched v false)) l (bytes, named, inr (listed, given), only) is =
    (bytes, named, inr (inr (is ∙ ap (λ (x : List ℕ). said.Unlisted x) given.0)))
one_line id true (Err e) l (bytes, named, inl near, only) is = absurd near
one_line id true (Err e) l (bytes, named, inr (listed, none), only) is = absurd none
one_line id false answer l none is = subst (λ (a : Answer). IsSaid a l) none is

-- the rooms of these capacities
abbrev rooms_in : Capacities → Rooms
rooms_in c = record { near = c.near; far = c.far }

deed_line : (c : Capacities) (s : Sides) (one all : Archives) (x : Step) (d : Deed) (l : Said) → Share s one all
    → deed_of x ≡ Some d → Says (rooms_in c) s x l
    → (after (rooms_in c) x s ≡ next c s d) × AsOneLine one d l
deed_line c s one all (step.Put site.Near bytes) d l share is says =
    subst (λ (k : Deed). (after (rooms_in c) (step.Put site.Near bytes) s ≡ next c s k) × AsOneLine one k l)
    (same_Some (Deed.put_near bytes) d is) (refl, tt)
deed_line c s one all (step.Put site.Far bytes) d l share is says =
    subst (λ (k : Deed). (after (rooms_in c) (step.Put site.Far bytes) s ≡ next c s k) × AsOneLine one k l)
    (same_Some (Deed.put_far bytes) d is) (refl, tt)
deed_line c s one all (step.Get id) d l share is says =
    let line : IsOneLine id (is_listed id one) l =
    subst (λ (b : Bool). IsOneLine id b l) (same_ids s one all share id)
    (one_line id _ says.0 l (as_either c.near id s says.0 share.idle says.1) says.2) in
    subst (λ (k : Deed). (after (rooms_in c) (step.Get id) s ≡ next c s k) × AsOneLine one k l)
    (same_Some (Deed.get id) d is) (refl, line)
deed_line c s one all step.Lose d l share is says = absurd cc
deed_line c s one all (step.Lie body) d l share is says = absurd cc

put_one : (all : Archives) (d : Deed) → put_after all (d ∷ []) ≡ put_next all d
put_one all d = refl

all_lines : (c : Capacities) (s : Sides) (one all : Archives) (xs : List Step) (ds : List Deed) (ls : List Said)
    → Share s one all → AreDeeds xs ds → Lines (rooms_in c) s xs ls → total (put_after all ds) ≤ c.near
    → total (put_after all ds) ≤ c.far → total (put_after all ds) ≤ c.one → AllAsOne c one ds ls
all_lines c s one all [] [] ls share are lines near far single = tt
all_lines c s one all (x ∷ xs) (d ∷ ds) (l ∷ ls) share are lines near far single =
    let grown = all_grows (put_next all d) ds in
    let p = deed_line c s one all x d l share are.0 lines.0 in
    let n : total (put_after all (d ∷ [])) ≤ c.near = omega (arith, grown, near) in
    let f : total (put_after all (d ∷ [])) ≤ c.far = omega (arith, grown, far) in
    let o : total (put_after all (d ∷ [])) ≤ c.one = omega (arith, grown, single) in
    let then : Share (next c s d) (one_next c one d) (put_next all d) = shared c (d ∷ []) s one all share n f o in
    let rest : Lines (rooms_in c) (next c s d) xs ls =
    subst (λ (t : Sides). Lines (rooms_in c) t xs ls) p.0 lines.1 in
    (p.1, all_lines c (next c s d) (one_next c one d) (put_next all d) xs ds ls then are.1 rest near far single)
all_lines c s one all (x ∷ xs) (d ∷ ds) [] share are lines near far single = absurd lines
all_lines c s one all [] (d ∷ ds) ls share are lines near far single = absurd are
all_lines c s one all (x ∷ xs) [] ls share are lines near far single = absurd are

pub are_as_one : (s : Script) (ls : List Said) → Lines (rooms_of s) empty s.steps ls → AreAsOne s ls
are_as_one s ls lines c deeds near_is far_is are room =
    let same : rooms_of s ≡ rooms_in c = λ i. record { near = sym near_is i; far = sym far_is i } in
    all_lines c empty [] [] s.steps deeds ls nothing_shared are
    (subst (λ (r : Rooms). Lines r empty s.steps ls) same lines) room.near room.far room.one
