-- The shares of a registration, found from its newest on.
use Rattle.std.proofs.Common.{◌≡◌, ℕ, ◌<◌, ◌≤◌, List, [], ◌∷◌, Bool, true, false}
use Rattle.std.proofs.Common.{map, set, length, Option, Some, None, refl, ap, ◌∙◌, sym, subst, arith}
use Rattle.std.specs.Prelude.{slice_get, ◌==◌, ltb, if◌then◌else◌}
use Rattle.std.specs.Option.{option_map}
use Rattle.std.proofs.lemmas.Bool.{eq-eqb, ltb-true, ltb-false}
use Rattle.std.proofs.lemmas.List.{length-set, length-map}
use Rattle.quota.specs.Holdings.{share_ended, share_ended_at, link_of, IsNewest, regs_of}
use Rattle.quota.specs.Holdings.{AreLinked}
use Rattle.quota.specs.Holdings.{AreNewest, AreListed}
use Rattle.quota.specs.declared.rows.Share.{Share}
use Rattle.quota.proofs.ListLemmas.{got_within, got_some, got_map}
use Rattle.quota.proofs.ListLemmas.{map_kept, map_fixed}
use Rattle.core_rules.proofs.AllLemmas.{true_false}
use Rattle.quota.proofs.HoldingLemmas.{share_cases}

-- a change that leaves each share its links
abbrev pub AreAlike : List Share → List Share → Type 0
AreAlike old new = map link_of new ≡ map link_of old

map_map : {X Y Z : Type 0} (g : Y → Z) (f : X → Y) (xs : List X) → map g (map f xs) ≡ map (λ x. g (f x)) xs
map_map g f [] = refl
map_map g f (x ∷ xs) = ap (λ zs. g (f x) ∷ zs) (map_map g f xs)

pub regs_alike : (old new : List Share) → AreAlike old new → regs_of new ≡ regs_of old
regs_alike old new alike = sym (map_map (λ l. l.0) link_of new) ∙ ap (map (λ l. l.0)) alike
    ∙ map_map (λ l. l.0) link_of old

length_alike : (old new : List Share) → AreAlike old new → length new ≡ length old
length_alike old new alike = sym (length-map new link_of) ∙ ap length alike ∙ length-map old link_of

-- what has the same links is linked as well
pub linked_alike : (old new : List Share) → AreAlike old new → AreLinked old → AreLinked new
linked_alike old new alike linked place s is =
    let lt : place < length old = subst (λ n. place < n) (length_alike old new alike) (got_within new place
    s is) in
    let there = got_some old place lt in
    let mine : slice_get (map link_of new) place ≡ Some (link_of s) =
    got_map link_of new place ∙ ap (option_map link_of) is in
    let its : slice_get (map link_of old) place ≡ Some (link_of there.0) =
    got_map link_of old place ∙ ap (option_map link_of) there.1 in
    let one : Some (link_of s) ≡ Some (link_of there.0) =
    sym mine ∙ ap (λ l. slice_get l place) alike ∙ its in
    let same : link_of s ≡ link_of there.0 = cc in
    subst (λ r. IsNewest s.reg place r s.before) (sym (regs_alike old new alike))
    (subst (λ l. IsNewest l.0 place (regs_of old) l.1) (sym same) (linked place there.0 there.1))

-- and has the same newest shares
pub newest_alike : (old new : List Share) (newest : ℕ → Option ℕ) → AreAlike old new → AreNewest old newest
    → AreNewest new newest
newest_alike old new newest alike are reg =
    subst (λ r. IsNewest reg (length new) r (newest reg)) (sym (regs_alike old new alike))
    (subst (λ n. IsNewest reg n (regs_of old) (newest reg)) (sym (length_alike old new alike)) (are reg))

-- the loop over the shares of a registration, which begins behind all of them: from some place on all of
-- its shares are over, and the next is the newest of those before
pub record IsEnding (reg : ℕ) (at : Option ℕ) (first now : List Share) : Type 0 where
  pub bound : ℕ
  pub alike : AreAlike first now
  pub newest : IsNewest reg bound (regs_of now) at
  pub over : (place : ℕ) (s : Share) → bound ≤ place → slice_get now place ≡ Some s → share_ended_at reg s ≡ s
  pub same : map (share_ended_at reg) now ≡ map (share_ended_at reg) first

pub ending_first : (reg : ℕ) (at : Option ℕ) (shares : List Share)
    → IsNewest reg (length shares) (regs_of shares) at → IsEnding reg at shares shares
ending_first reg at shares newest = record {
  bound = length shares;
  alike = refl;
  newest = newest;
  over = λ place s le is. let lt = got_within shares place s is in absurd (omega (arith, le, lt));
  same = refl;
}

-- one that is ended stays what it is
ended_again : (reg : ℕ) (s : Share) → share_ended_at reg (share_ended s) ≡ share_ended s
ended_again reg s = by (reg == s.reg)
  where
    by : (b : Bool) → (if b then share_ended (share_ended s) else share_ended s) ≡ share_ended s
    by true = refl
    by false = refl

ended_here : (reg : ℕ) (s : Share) → (reg == s.reg) ≡ true → share_ended_at reg s ≡ share_ended s
ended_here reg s e = ap (λ b. if b then share_ended s else s) e

ended_elsewhere : (reg : ℕ) (s : Share) → (reg == s.reg) ≡ false → share_ended_at reg s ≡ s
ended_elsewhere reg s e = ap (λ b. if b then share_ended s else s) e

-- the share in a place, by the registrations
pub reg_at : (shares : List Share) (place reg : ℕ) (s : Share) → slice_get shares place ≡ Some s
    → slice_get (regs_of shares) place ≡ Some reg → s.reg ≡ reg
reg_at shares place reg s is named =
    let got : slice_get (regs_of shares) place ≡ Some s.reg =
    got_map (λ q. q.reg) shares place ∙ ap (option_map (λ q. q.reg)) is in
    cc

pub ending_next : (reg place : ℕ) (first now after : List Share) (s : Share)
    → IsEnding reg (Some place) first now → AreLinked now → slice_get now place ≡ Some s
    → after ≡ set now place (share_ended s) → IsEnding reg s.before first after
ending_next reg place first now after s ending linked at is =
    subst (IsEnding reg s.before first) (sym is) next
  where
    ended : List Share
    ended = set now place (share_ended s)

    own : s.reg ≡ reg
    own = reg_at now place reg s at ending.newest.1

    own_eq : (reg == s.reg) ≡ true
    own_eq = eq-eqb reg s.reg (sym own)

    stays : AreAlike now ended
    stays = map_kept link_of now place s (share_ended s) at refl

    lt : place < length now
    lt = got_within now place s at

    over : (i : ℕ) (t : Share) → place ≤ i → slice_get ended i ≡ Some t → share_ended_at reg t ≡ t
    over i t le got = share_cases now place i (share_ended s) t (share_ended_at reg t ≡ t) lt got
        (λ e same. subst (λ q. share_ended_at reg q ≡ q) (sym same) (ended_again reg s))
        (λ e old. split i t le e old)
      where
        apart : (i : ℕ) → place ≤ i → (place == i) ≡ false → place < i
        apart i le e = by (ltb place i) refl
          where
            by : (b : Bool) → ltb place i ≡ b → place < i
            by true less = ltb-true place i less
            by false most =
                let ge = ltb-false place i most in
                let same : place ≡ i = omega (arith, le, ge) in
                absurd (true_false (place == i) (eq-eqb place i same) e)

        split : (i : ℕ) (t : Share) → place ≤ i → (place == i) ≡ false → slice_get now i ≡ Some t
            → share_ended_at reg t ≡ t
        split i t le e old = by (ltb i ending.bound) refl
          where
            by : (b : Bool) → ltb i ending.bound ≡ b → share_ended_at reg t ≡ t
            by true below = ended_elsewhere reg t (ending.newest.2 i t.reg
                (apart i le e) (ltb-true i ending.bound below)
                (got_map (λ q. q.reg) now i ∙ ap (option_map (λ q. q.reg)) old))
            by false past = ending.over i t (ltb-false i ending.bound past) old

    next : IsEnding reg s.before first ended
    next = record {
      bound = place;
      alike = stays ∙ ending.alike;
      newest = subst (λ r. IsNewest reg place r s.before) (sym (regs_alike now ended stays))
          (subst (λ n. IsNewest n place (regs_of now) s.before) own (linked place s at));
      over = over;
      same = map_kept (share_ended_at reg) now place s (share_ended s) at
          (ended_again reg s ∙ sym (ended_here reg s own_eq)) ∙ ending.same;
    }

pub ending_last : (reg : ℕ) (first now : List Share) → IsEnding reg None first now
    → now ≡ map (share_ended_at reg) first
ending_last reg first now ending = sym (map_fixed (share_ended_at reg) now fixed) ∙ ending.same
  where
    fixed : (i : ℕ) (t : Share) → slice_get now i ≡ Some t → share_ended_at reg t ≡ t
    fixed i t old = by (ltb i ending.bound) refl
      where
        by : (b : Bool) → ltb i ending.bound ≡ b → share_ended_at reg t ≡ t
        by true below = ended_elsewhere reg t (ending.newest i t.reg (ltb-true i ending.bound below)
            (got_map (λ q. q.reg) now i ∙ ap (option_map (λ q. q.reg)) old))
        by false past = ending.over i t (ltb-false i ending.bound past) old

pub ending_done : (reg : ℕ) (at : Option ℕ) (first now : List Share) → IsEnding reg at first now
    → ((place : ℕ) → at ≡ Some place → ⊥) → now ≡ map (share_ended_at reg) first
ending_done reg None first now ending none = ending_last reg first now ending
ending_done reg (Some place) first now ending none = absurd (none place refl)

-- a share that is over has its links
pub over_alike : (now after : List Share) (place : ℕ) (s : Share) → slice_get now place ≡ Some s
    → after ≡ set now place (share_ended s) → AreAlike now after
over_alike now after place s at is = ap (map link_of) is ∙ map_kept link_of now place s (share_ended s) at
    refl

-- and its client
pub over_listed : (now after : List Share) (held left : List ℕ) (place less : ℕ) (s : Share)
    → slice_get now place ≡ Some s → after ≡ set now place (share_ended s) → left ≡ set held s.client less
    → AreListed now held → AreListed after left
over_listed now after held left place less s at is fewer listed i t got =
    subst (λ n. t.client < n) (sym (ap length fewer ∙ length-set held s.client less))
    (share_cases now place i (share_ended s) t (t.client < length held) (got_within now place s at)
    (ap (λ l. slice_get l i) (sym is) ∙ got)
    (λ e same. subst (λ q. q.client < length held) (sym same) (listed place s at))
    (λ e old. listed i t old))
