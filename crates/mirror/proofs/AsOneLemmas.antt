-- Where the rule is followed, and there is room for all, what is got is what one cache gives.
use Rattle.std.proofs.Common.{◌≡◌, ℕ, inl, inr, Bool, true, false, List, []}
use Rattle.std.proofs.Common.{Option, Some, None, is_some, refl, sym, ap, subst, ◌∙◌, nat_le}
use Rattle.std.specs.Prelude.{◌||◌}
use Rattle.std.specs.Map.{lookup}
use Rattle.std.specs.Str.{bytes_eq}
use Rattle.std.proofs.lemmas.Slice.Eq.{bytes_eq-Decides}
use Rattle.std.proofs.lemmas.Bool.{true≢false}
use Rattle.toolchain_cache.specs.Archives.{id_of}
use Rattle.build_server.specs.Books.{is_listed}
use Rattle.mirror.specs.Caches.{Cache}
use Rattle.mirror.specs.Far.{Far}
use Rattle.mirror.specs.Getting.{Answer}
use Rattle.mirror.specs.OneCache.{no_sides, one_after, put_after, SameOrCollision}
use Rattle.mirror.specs.OneCache.{GivesBytes, AsOne}
use Rattle.mirror.specs.Rule.{Rules, AnswersAsOne, sides_of}
use Rattle.mirror.specs.Sides.{Sides, Gives, NearGives, AskGives, FarGives}
use Rattle.mirror.proofs.OneCacheLemmas.{Share, either, same_ids, shared, nothing_shared}

-- bytes of one id are the same, or a collision
same_or : (id a b : List ℕ) → id_of a ≡ id → id_of b ≡ id → SameOrCollision a b
same_or id a b x y = by (bytes_eq a b) refl
  where
    by : (c : Bool) → bytes_eq a b ≡ c → SameOrCollision a b
    by true is = inl ((bytes_eq-Decides a b).0 is)
    by false is = inr (λ e. true≢false (sym ((bytes_eq-Decides a b).1 e) ∙ is), x ∙ sym y)

gives_id : (id bytes : List ℕ) (answer : Answer) → id_of bytes ≡ id → GivesBytes bytes answer → AsOne id true answer
gives_id id bytes answer named gives = (bytes, named, gives, λ given is. same_or id bytes given named is)

-- by the rule, with nothing waiting
pub as_either : (capacity : ℕ) (id : List ℕ) (s : Sides) (answer : Answer) → s.waiting ≡ [] → Gives capacity id s answer
    → AsOne id (either s id) answer
as_either capacity id s answer idle gives = by (lookup (bytes_eq id) s.near) refl
  where
    by : (o : Option ℕ) → lookup (bytes_eq id) s.near ≡ o → AsOne id (either s id) answer
    by (Some n) found =
        let g = subst (λ o. NearGives capacity id o s answer) found gives in
        subst (λ o. AsOne id (is_some o || is_listed id s.far) answer) (sym found)
        (gives_id id g.0 answer (ap (λ (p : List ℕ × ℕ). p.0) g.1) (inl g.2))
    by None none =
        let g : AskGives capacity id s.waiting s.far answer =
        subst (λ o. NearGives capacity id o s answer) none gives in
        let f : FarGives capacity id (lookup (bytes_eq id) s.far) answer =
        subst (λ w. AskGives capacity id w s.far answer) idle g in
        subst (λ o. AsOne id (is_some o || is_listed id s.far) answer) (sym none)
        (by_far f (lookup (bytes_eq id) s.far) refl)
      where
        by_far : FarGives capacity id (lookup (bytes_eq id) s.far) answer → (o : Option ℕ)
            → lookup (bytes_eq id) s.far ≡ o → AsOne id (is_listed id s.far) answer
        by_far f (Some n) found =
            let g = subst (λ o. FarGives capacity id o answer) found f in
            subst (λ o. AsOne id (is_some o) answer) (sym found)
            (gives_id id g.0 answer (ap (λ (p : List ℕ × ℕ). p.0) g.1) (inr (nat_le n capacity, g.2)))
        by_far f None none = subst (λ o. AsOne id (is_some o) answer) (sym none)
            (subst (λ o. FarGives capacity id o answer) none f)

-- a get over two sides that deeds leave answers what one cache does
pub answers_as_one : (host : List ℕ) (port : ℕ) (id : List ℕ) (answer : Answer) (near later : Cache)
    (far behind : Far) → Rules host port id answer near later far behind
    → AnswersAsOne host port id answer near later far behind
answers_as_one host port id answer near later far behind rules c deeds is room sound =
    let share : Share (sides_of near far) (one_after c [] deeds) (put_after [] deeds) =
    subst (λ s. Share s (one_after c [] deeds) (put_after [] deeds)) (sym is)
    (shared c deeds no_sides [] [] nothing_shared room.near room.far room.one) in
    subst (λ b. AsOne id b answer) (same_ids (sides_of near far) (one_after c [] deeds) (put_after [] deeds) share id)
    (as_either near.capacity id (sides_of near far) answer share.idle (rules sound).gives)
