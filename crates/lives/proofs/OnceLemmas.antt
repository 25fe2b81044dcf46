-- Over all lives no id is built twice.
use Rattle.std.proofs.Common.{◌≡◌, ℕ, zero, suc, ◌<◌, ◌≤◌, List, [], ◌∷◌, length, map, take, Option, Some, None, refl}
use Rattle.std.proofs.Common.{sym, ap, subst, ◌∙◌, arith}
use Rattle.std.specs.Prelude.{slice_get}
use Rattle.std.specs.List.{AllByRecursion}
use Rattle.std.proofs.lemmas.Option.{same_Some}
use Rattle.dist_types.specs.declared.addr.Addr.{Addr}
use Rattle.dist_types.specs.declared.ids.JobId.{JobId}
use Rattle.farm_entries.specs.Builds.{IsBuild}
use Rattle.farm_entries.specs.Sites.{site_of}
use Rattle.farm_entries.specs.declared.entry.Entry.{Entry}
use Rattle.lives.specs.Lives.{Lived, IsLived, AreLives, AreBuiltOnceIn}
use Rattle.lives.proofs.GivenLemmas.{HasIds, built_in}
use Rattle.lives.proofs.TurnLemmas.{all_ids}
use Rattle.lives_script.specs.Ids.{Ids, IsRange, Meet, AreApartIds}
use Rattle.lives_script.specs.Place.{ids_of}
use Rattle.lives_script.specs.declared.script.Life.{Life}
use Rattle.lives_script.specs.declared.script.Script.{Script}
use lib.Seq.{take_all}

-- what stands in a place of a mapped list
map_at : {A B : Type 0} (f : A → B) (xs : List A) (i : ℕ) (y : B) → slice_get (map f xs) i ≡ Some y
    → (x : A) × (slice_get xs i ≡ Some x) × (f x ≡ y)
map_at f [] i y e = absurd cc
map_at f (x ∷ xs) zero y e = (x, refl, same_Some (f x) y e)
map_at f (x ∷ xs) (suc i) y e = map_at f xs i y e

at_map : {A B : Type 0} (f : A → B) (xs : List A) (i : ℕ) (x : A) → slice_get xs i ≡ Some x
    → slice_get (map f xs) i ≡ Some (f x)
at_map f [] i x e = absurd cc
at_map {A} {B} f (y ∷ ys) zero x e = ap (λ (z : A). Some (f z)) (same_Some y x e)
at_map f (y ∷ ys) (suc i) x e = at_map f ys i x e

all_at : {A : Type 0} (P : A → Type 0) (xs : List A) (i : ℕ) (x : A) → AllByRecursion P xs
    → slice_get xs i ≡ Some x → P x
all_at P [] i x all e = absurd cc
all_at P (y ∷ ys) zero x all e = subst P (same_Some y x e) all.0
all_at P (y ∷ ys) (suc i) x all e = all_at P ys i x all.1 e

met_back : (r s : Ids) → Meet r s → Meet s r
met_back r s m = (m.0, m.2, m.1)

-- two of the ranges that have an id in common are one
one_range : (rs : List Ids) (i j : ℕ) (r s : Ids) → AreApartIds rs → slice_get rs i ≡ Some r
    → slice_get rs j ≡ Some s → Meet r s → i ≡ j
one_range [] i j r s apart at bt meet = absurd cc
one_range (q ∷ rs) zero zero r s apart at bt meet = refl
one_range (q ∷ rs) zero (suc j) r s apart at bt meet =
    absurd (all_at (λ (x : Ids). Meet q x → ⊥) rs j s apart.0 bt
    (subst (λ (x : Ids). Meet x s) (sym (same_Some q r at)) meet))
one_range (q ∷ rs) (suc i) zero r s apart at bt meet =
    absurd (all_at (λ (x : Ids). Meet q x → ⊥) rs i r apart.0 at
    (subst (λ (x : Ids). Meet x r) (sym (same_Some q s bt)) (met_back r s meet)))
one_range (q ∷ rs) (suc i) (suc j) r s apart at bt meet =
    ap (λ (n : ℕ). suc n) (one_range rs i j r s apart.1 at bt meet)

-- two builds of one job in one life are one
once_in : (l : Lived) (m n : ℕ) (d e : Entry) (s t : Addr) (job : JobId) → IsLived l
    → slice_get l.entries m ≡ Some d → slice_get l.entries n ≡ Some e → IsBuild d s job → IsBuild e t job
    → m ≡ n
once_in l m n d e s t job lived at bt one other =
    let size = length l.entries in
    let all = take_all size l.entries (omega arith) in
    lived.builds.once size m n d e s t job
    (subst (λ (es : List Entry). slice_get es m ≡ Some d) (sym all) at)
    (subst (λ (es : List Entry). slice_get es n ≡ Some e) (sym all) bt) one other

pub built_once : (s : Script) (lived : List Lived) → AreApartIds (map ids_of s.lives)
    → AllByRecursion (λ life. IsRange (ids_of life)) s.lives → AreLives s lived
    → AreBuiltOnceIn (map (λ l. l.entries) lived)
built_once s lived apart ranges are = λ i j m n one other d e a b job at bt ct dt first second.
    let x = map_at (λ (l : Lived). l.entries) lived i one at in
    let y = map_at (λ (l : Lived). l.entries) lived j other bt in
    let ids = all_ids (site_of s.setup) [] lived are.in_turn in
    let life_at : (k : ℕ) (l : Lived) → slice_get lived k ≡ Some l → slice_get s.lives k ≡ Some l.life =
    (λ k l lt. subst (λ (ls : List Life). slice_get ls k ≡ Some l.life) are.lives
    (at_map (λ (l : Lived). l.life) lived k l lt)) in
    let ct' : slice_get x.0.entries m ≡ Some d =
    subst (λ (es : List Entry). slice_get es m ≡ Some d) (sym x.2) ct in
    let dt' : slice_get y.0.entries n ≡ Some e =
    subst (λ (es : List Entry). slice_get es n ≡ Some e) (sym y.2) dt in
    let has = all_at IsLived lived i x.0 are.each x.1 in
    let in_one = built_in x.0 m d a job has (all_at HasIds lived i x.0 ids x.1)
    (all_at (λ (life : Life). IsRange (ids_of life)) s.lives i x.0.life ranges (life_at i x.0 x.1)) ct' first in
    let in_other = built_in y.0 n e b job (all_at IsLived lived j y.0 are.each y.1)
    (all_at HasIds lived j y.0 ids y.1)
    (all_at (λ (life : Life). IsRange (ids_of life)) s.lives j y.0.life ranges (life_at j y.0 y.1)) dt' second in
    let same : i ≡ j = one_range (map ids_of s.lives) i j (ids_of x.0.life) (ids_of y.0.life) apart
    (at_map ids_of s.lives i x.0.life (life_at i x.0 x.1)) (at_map ids_of s.lives j y.0.life (life_at j y.0 y.1))
    (job.0, in_one, in_other) in
    let same_life : y.0 ≡ x.0 =
    same_Some y.0 x.0 (sym y.1 ∙ ap (slice_get lived) (sym same) ∙ x.1) in (
      same,
      once_in x.0 m n d e a b job has ct'
          (subst (λ (l : Lived). slice_get l.entries n ≡ Some e) same_life dt') first second,
    )
