-- Servers that begin one by one.
use Rattle.std.proofs.Common.{◌≡◌, inl, inr, ℕ, zero, suc, ◌+◌, ◌<◌, ◌≤◌, List, [], ◌∷◌, ◌++◌, length, map}
use Rattle.std.proofs.Common.{Option}
use Rattle.std.proofs.Common.{Some, None, refl, sym, ap, subst, ◌∙◌, arith, drop}
use Rattle.std.specs.Prelude.{slice_get}
use Rattle.std.proofs.lemmas.Bool.{cases_lt}
use Rattle.std.proofs.lemmas.Option.{same_Some}
use Rattle.dist_types.specs.declared.addr.Addr.{Addr}
use Rattle.farm_script.specs.Setups.{AreApart}
use Rattle.farm_entries.specs.Passage.{IsBegun}
use Rattle.toolchain_cache.specs.Archives.{Archives}
use Rattle.std.specs.List.{IsDistinct}
use Rattle.std.specs.Map.{keys_of}
use Rattle.std.specs.Str.{bytes_eq}
use Rattle.folders.specs.Files.{Files}
use Rattle.folders.specs.Held.{Held}
use Rattle.build_server.specs.Builds.{Builder}
use Rattle.farm_script.specs.declared.setup.SetupServer.{SetupServer as Script}
use Rattle.farm_entries.specs.declared.site.SiteServer.{SiteServer}
use Rattle.farm_run.specs.Begins.{IsBegunAs, AreBegun}
use Rattle.farm_entries.specs.Passage.{AreOwn}
use Rattle.farm_stations.specs.Hands.{Hand, fresh_hand}
use Rattle.farm_stations.specs.Post.{Post, outside_of}
use Rattle.farm_entries.specs.Servers.{server_begun}
use Rattle.farm_entries.specs.Sites.{site_server}
use Rattle.farm_stations.specs.Stations.{now_of, IsWell, AreStations}
use Rattle.farm_entries.specs.Weather.{Outside}
use Rattle.farm_run.proofs.ServerLemmas.{stations_none, stations_push}

-- ---- lists

pub map_end : {A B : Type 0} (f : A → B) (xs : List A) (x : A) → map f (xs ++ x ∷ []) ≡ map f xs ++ f x ∷ []
map_end {A} {B} f [] x = refl
map_end {A} {B} f (y ∷ ys) x = ap (λ (zs : List B). f y ∷ zs) (map_end f ys x)

pub length_end : {A : Type 0} (xs : List A) (x : A) → length (xs ++ x ∷ []) ≡ length xs + 1
length_end [] x = refl
length_end (y ∷ ys) x = omega (arith, length_end ys x)

pub get_left : {A : Type 0} (xs : List A) (x : A) (i : ℕ) → i < length xs → slice_get (xs ++ x ∷ []) i
    ≡ slice_get xs i
get_left [] x i h = absurd (omega arith)
get_left (y ∷ ys) x zero h = refl
get_left (y ∷ ys) x (suc i) h = get_left ys x i (omega arith)

pub get_end : {A : Type 0} (xs : List A) (x y : A) (i : ℕ) → length xs ≤ i → slice_get (xs ++ x ∷ []) i ≡ Some y
    → (i ≡ length xs) × (x ≡ y)
get_end [] x y zero h e = (refl, same_Some x y e)
get_end [] x y (suc i) h e = absurd cc
get_end (z ∷ zs) x y zero h e = absurd (omega arith)
get_end (z ∷ zs) x y (suc i) h e =
    let r = get_end zs x y i (omega arith) e in
    (ap (λ (n : ℕ). suc n) r.0, r.1)

-- ---- servers of the farm's own

pub own_end : (os : List Outside) (o : Outside) → AreOwn os → o.builder ≡ None → (i : ℕ) (x : Outside)
    → slice_get (os ++ o ∷ []) i ≡ Some x → x.builder ≡ None
own_end [] o own none zero x at = subst (λ (y : Outside). y.builder ≡ None) (same_Some o x at) none
own_end [] o own none (suc i) x at = absurd cc
own_end (p ∷ ps) o own none zero x at = own zero x at
own_end (p ∷ ps) o own none (suc i) x at = own_end ps o (λ j y e. own (suc j) y e) none i x at

-- the servers so far, with their stations
pub record OwnSoFar (ss : List Script) (ts : List SiteServer) (sts : List Post) : Type 0 where
  pub sites : ts ≡ map (site_server (Some [])) ss
  pub stations : AreStations ts [] sts
  pub own : AreOwn (map outside_of sts)
  pub hands : map (λ st. st.hand) sts ≡ map (λ s. fresh_hand s.builder) ss

pub own_push : (ss : List Script) (ts : List SiteServer) (sts : List Post) (s : Script) (t : SiteServer)
    (st : Post) → OwnSoFar ss ts sts → t ≡ site_server (Some []) s → now_of t st ≡ server_begun t
    → IsWell t st → st.builder ≡ None → st.hand ≡ fresh_hand s.builder
    → OwnSoFar (ss ++ s ∷ []) (ts ++ t ∷ []) (sts ++ st ∷ [])
own_push ss ts sts s t st is site now well none hand = record {
  sites = ap (λ (us : List SiteServer). us ++ t ∷ []) is.sites
      ∙ ap (λ (u : SiteServer). map (site_server (Some [])) ss ++ u ∷ []) site
      ∙ sym (map_end (site_server (Some [])) ss s);
  stations = stations_push [] ts sts t st is.stations (record { now = now; well = well });
  own = subst AreOwn (sym (map_end outside_of sts st))
      (own_end (map outside_of sts) (outside_of st) is.own none);
  hands = map_end (λ (x : Post). x.hand) sts st
      ∙ ap (λ (hs : List Hand). hs ++ st.hand ∷ []) is.hands
      ∙ ap (λ (h : Hand). map (λ (x : Script). fresh_hand x.builder) ss ++ h ∷ []) hand
      ∙ sym (map_end (λ (x : Script). fresh_hand x.builder) ss s);
}

-- ---- servers over what is handed in

-- the servers so far, with their stations
pub record HandedSoFar (ss : List Script) (fs : List Held) (bs : List Builder) (ts : List SiteServer)
    (sts : List Post) : Type 0 where
  pub begun : AreBegun ss fs bs ts (map outside_of sts)
  pub stations : AreStations ts [] sts
  pub addresses : map (λ t. t.addr) ts ≡ map (λ s. s.addr) ss

pub handed_none : (fs : List Held) (bs : List Builder) → HandedSoFar [] fs bs [] []
handed_none fs bs = record {
  begun = record { sites = refl; outside = refl; each = λ i s f b t o at ft bt tt' ot. absurd cc };
  stations = stations_none [];
  addresses = refl;
}

begun_end : (ss : List Script) (fs : List Held) (bs : List Builder) (ts : List SiteServer) (os : List Outside)
    (s : Script) (f : Held) (b : Builder) (t : SiteServer) (o : Outside) → AreBegun ss fs bs ts os
    → slice_get fs (length ss) ≡ Some f → slice_get bs (length ss) ≡ Some b → IsBegunAs s f b t o
    → AreBegun (ss ++ s ∷ []) fs bs (ts ++ t ∷ []) (os ++ o ∷ [])
begun_end ss fs bs ts os s f b t o are folder builder is = record {
  sites = length_end ts t ∙ ap (λ (n : ℕ). n + 1) are.sites ∙ sym (length_end ss s);
  outside = length_end os o ∙ ap (λ (n : ℕ). n + 1) are.outside ∙ sym (length_end ss s);
  each = λ i s' f' b' t' o' at ft bt ct ot. elim (cases_lt i (length ss)) [
    | inl before ↦ are.each i s' f' b' t' o' (sym (get_left ss s i before) ∙ at) ft bt
        (sym (get_left ts t i (omega (arith, before, are.sites))) ∙ ct)
        (sym (get_left os o i (omega (arith, before, are.outside))) ∙ ot)
    | inr past ↦
        let a = get_end ss s s' i past at in
        let c = get_end ts t t' i (omega (arith, past, are.sites)) ct in
        let d = get_end os o o' i (omega (arith, past, are.outside)) ot in
        let e : f ≡ f' = same_Some f f' (sym folder ∙ ap (slice_get fs) (sym a.0) ∙ ft) in
        let g : b ≡ b' = same_Some b b' (sym builder ∙ ap (slice_get bs) (sym a.0) ∙ bt) in
        subst (λ (x : Script). IsBegunAs x f' b' t' o') a.1
        (subst (λ (x : Held). IsBegunAs s x b' t' o') e
        (subst (λ (x : Builder). IsBegunAs s f x t' o') g
        (subst (λ (x : SiteServer). IsBegunAs s f b x o') c.1
        (subst (λ (x : Outside). IsBegunAs s f b t x) d.1 is))))
  ];
}

pub handed_push : (ss : List Script) (fs : List Held) (bs : List Builder) (ts : List SiteServer)
    (sts : List Post) (s : Script) (f : Held) (b : Builder) (t : SiteServer) (st : Post)
    → HandedSoFar ss fs bs ts sts → slice_get fs (length ss) ≡ Some f → slice_get bs (length ss) ≡ Some b
    → IsBegunAs s f b t (outside_of st) → now_of t st ≡ server_begun t → IsWell t st
    → HandedSoFar (ss ++ s ∷ []) fs bs (ts ++ t ∷ []) (sts ++ st ∷ [])
handed_push ss fs bs ts sts s f b t st is folder builder begun now well = record {
  begun = subst (AreBegun (ss ++ s ∷ []) fs bs (ts ++ t ∷ [])) (sym (map_end outside_of sts st))
      (begun_end ss fs bs ts (map outside_of sts) s f b t (outside_of st) is.begun folder builder begun);
  stations = stations_push [] ts sts t st is.stations (record { now = now; well = well });
  addresses = map_end (λ (u : SiteServer). u.addr) ts t
      ∙ ap (λ (addrs : List Addr). addrs ++ t.addr ∷ []) is.addresses
      ∙ ap (λ (u : SiteServer). map (λ (r : Script). r.addr) ss ++ u.addr ∷ []) begun.is
      ∙ sym (map_end (λ (r : Script). r.addr) ss s);
}

-- ---- what is left of a list whose items are taken from the front

get_drop : {A : Type 0} (xs : List A) (i : ℕ) → slice_get (drop i xs) 0 ≡ slice_get xs i
get_drop [] zero = refl
get_drop [] (suc i) = refl
get_drop (x ∷ xs) zero = refl
get_drop (x ∷ xs) (suc i) = get_drop xs i

pub left_first : {A : Type 0} (xs ys zs : List A) (i : ℕ) (x : A) → ys ≡ drop i xs → ys ≡ x ∷ zs
    → slice_get xs i ≡ Some x
left_first xs ys zs i x is e = sym (get_drop xs i) ∙ ap (λ (l : List _). slice_get l 0) (sym is ∙ e)

drop_once : {A : Type 0} (xs : List A) (n : ℕ) → drop (suc n) xs ≡ drop 1 (drop n xs)
drop_once [] zero = refl
drop_once [] (suc n) = refl
drop_once (x ∷ xs) zero = refl
drop_once (x ∷ xs) (suc n) = drop_once xs n

pub left_rest : {A : Type 0} (xs ys zs : List A) (i : ℕ) (x : A) → ys ≡ drop i xs → ys ≡ x ∷ zs
    → zs ≡ drop (i + 1) xs
left_rest xs ys zs i x is e =
    let same : suc i ≡ i + 1 = omega arith in
    ap (λ (l : List _). drop 1 l) (sym e ∙ is) ∙ sym (drop_once xs i) ∙ ap (λ (k : ℕ). drop k xs) same

-- ---- the parts of a farm that begins

-- the opening of an empty folder of the farm's own
pub own_found : (capacity : ℕ) (folder : Held) (found : Option Archives) (o : Outside)
    → folder.files ≡ Some [] → IsBegun capacity None folder found o → found ≡ Some []
own_found capacity folder None o empty h = absurd (let no = h.3 in cc)
own_found capacity folder (Some list) o empty h = ap (λ (a : Archives). Some a) (h.0 [] empty)

addresses_own : (ss : List Script) → map (λ (t : SiteServer). t.addr) (map (site_server (Some [])) ss)
    ≡ map (λ (s : Script). s.addr) ss
addresses_own [] = refl
addresses_own (s ∷ ss) = ap (λ (addrs : List Addr). s.addr ∷ addrs) (addresses_own ss)

pub apart_own : (addr own : Addr) (ss : List Script) (ts : List SiteServer)
    → AreApart (addr ∷ map (λ s. s.addr) ss) → own ≡ addr → ts ≡ map (site_server (Some [])) ss
    → AreApart (own ∷ map (λ t. t.addr) ts)
apart_own addr own ss ts apart same are =
    subst (λ (a : Addr). AreApart (a ∷ map (λ (t : SiteServer). t.addr) ts)) (sym same)
    (subst (λ (l : List Addr). AreApart (addr ∷ l))
    (sym (addresses_own ss) ∙ ap (λ (us : List SiteServer). map (λ (t : SiteServer). t.addr) us) (sym are))
    apart)

pub apart_handed : (addr own : Addr) (ss : List Script) (ts : List SiteServer)
    → AreApart (addr ∷ map (λ s. s.addr) ss) → own ≡ addr → map (λ t. t.addr) ts ≡ map (λ s. s.addr) ss
    → AreApart (own ∷ map (λ t. t.addr) ts)
apart_handed addr own ss ts apart same are =
    subst (λ (a : Addr). AreApart (a ∷ map (λ (t : SiteServer). t.addr) ts)) (sym same)
    (subst (λ (l : List Addr). AreApart (addr ∷ l)) (sym are) apart)

pub none_distinct : (files : Files) → files ≡ [] → IsDistinct bytes_eq (keys_of files)
unfolding IsDistinct
none_distinct files none = subst (λ (fs : Files). IsDistinct bytes_eq (keys_of fs)) (sym none) tt
