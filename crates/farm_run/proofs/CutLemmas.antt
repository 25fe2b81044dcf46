-- What is left outside of the servers where memory runs out, and what is handed back.
use Rattle.std.proofs.Common.{◌≡◌, inl, inr, ℕ, ◌+◌, ◌≤◌, List, [], ◌∷◌, ◌++◌, length, map, set}
use Rattle.std.proofs.Common.{Option, Some, None, refl, sym, ap, subst, ◌∙◌, arith}
use Rattle.std.specs.Prelude.{slice_get}
use Rattle.std.proofs.lemmas.Bool.{cases_lt}
use Rattle.std.proofs.lemmas.List.{length-map, length-set}
use Rattle.std.proofs.lemmas.Option.{same_Some}
use Rattle.dist_types.specs.declared.addr.Addr.{Addr}
use Rattle.folders.specs.Held.{Held}
use Rattle.build_server.specs.Builds.{Builder}
use Rattle.farm_entries.specs.declared.entry.Entry.{Entry}
use Rattle.farm_entries.specs.declared.site.Site.{Site as Setup}
use Rattle.farm_entries.specs.declared.site.SiteServer.{SiteServer}
use Rattle.farm_entries.specs.Calls.{settles_by}
use Rattle.dist_types.specs.Builder.{Answering}
use Rattle.farm_stations.specs.Hands.{Hand, IsGiven}
use Rattle.farm_stations.specs.Post.{Post as Station, Around, LeavesAround, around_of, outside_of}
use Rattle.farm_stations.specs.Stations.{AreStations}
use Rattle.farm_run.specs.Stops.{folders_in, AreGiven, around_in, IsReportOf, SettlesReport, ReachesFor}
use Rattle.farm_run.specs.Stops.{IsCutAt, IsCutFor, LeavesOpened, IsCutOff}
use Rattle.farm_script.specs.declared.event.EventKind.{EventKind}
use Rattle.farm_script.specs.declared.event.EventKind.TheVariants.{Request, Deliver, Fail, Return, Answer}
use Rattle.farm_script.specs.declared.event.EventKind.TheVariants.{Beat, Restart}
use Rattle.farm_entries.specs.Weather.{Outside}
use Rattle.farm_run.proofs.BeginLemmas.{map_end, length_end, get_left, get_end}
use Rattle.farm_run.proofs.StandLemmas.{get_map, set_map}

-- ---- events that memory ran out in

-- one that reached for the server at a place
abbrev pub cut_at : (setup : Setup) (sts : List Station) (place : ℕ) (s : SiteServer) (st after : Station)
    → slice_get setup.servers place ≡ Some s → slice_get sts place ≡ Some st
    → LeavesAround (around_of st) (around_of after)
    → IsCutAt setup s.addr (map around_of sts) (map around_of (set sts place after))
cut_at setup sts place s st after at there left = record {
  place = place;
  server = s;
  there = at;
  at = refl;
  was = around_of st;
  is = around_of after;
  before = get_map around_of sts place st there;
  left = set_map around_of sts place after;
  leaves = left;
}

-- the server that one reached for, told otherwise
pub cut_as : (P Q : Addr → Around → Around → Type 0) (setup : Setup) (old new : List Around)
    → ((a : Addr) (was is : Around) → P a was is → Q a was is)
    → IsCutFor P setup old new → IsCutFor Q setup old new
cut_as P Q setup old new more (inl same) = inl same
cut_as P Q setup old new more (inr (a, cut, passes)) = inr (a, cut, more a cut.was cut.is passes)

-- an event that is to settle a report reaches for who makes it
settled_for : (setup : Setup) (log : List Entry) (k : EventKind) (n : ℕ) (reply : Option (List ℕ))
    (a : Addr) → ◌≡◌ {A = Option (ℕ × Option (List ℕ))} (settles_by log k) (Some (n, reply))
    → IsReportOf setup log n a → ReachesFor setup log k a
settled_for setup log k n reply a settles own =
    inr (subst (λ (o : Option (ℕ × Option (List ℕ))). SettlesReport setup log o a) (sym settles) own)

-- it opens nothing
opens_none : (log : List Entry) (k : EventKind) (was is : Around) (p : ℕ × Option (List ℕ))
    → settles_by log k ≡ Some p → LeavesOpened k was is
opens_none log (Request target peer bytes) was is p settles = tt
opens_none log (Deliver call) was is p settles = tt
opens_none log (Fail call) was is p settles = tt
opens_none log (Return delivery) was is p settles = tt
opens_none log (Answer call bytes) was is p settles = tt
opens_none log (Beat server) was is p settles = tt
opens_none log (Restart server key nonce) was is p settles = absurd cc

pub settles_for : (setup : Setup) (log : List Entry) (k : EventKind) (n : ℕ) (reply : Option (List ℕ))
    (a : Addr) (was is : Around)
    → ◌≡◌ {A = Option (ℕ × Option (List ℕ))} (settles_by log k) (Some (n, reply))
    → IsReportOf setup log n a → ReachesFor setup log k a × LeavesOpened k was is
settles_for setup log k n reply a was is settles own =
    (settled_for setup log k n reply a settles own, opens_none log k was is (n, reply) settles)

cut_size : (P : Addr → Around → Around → Type 0) (setup : Setup) (old new : List Around)
    → IsCutFor P setup old new → length new ≡ length old
cut_size P setup old new (inl same) = ap (λ (os : List Around). length os) same
cut_size P setup old new (inr (a, cut, passes)) = ap (λ (os : List Around). length os) cut.left
    ∙ length-set old cut.place cut.is

-- the stations are as many as before, and there is room for what they hand back
pub cut_room : (setup : Setup) (log : List Entry) (k : EventKind) (sts new : List Station) (room : ℕ)
    → AreStations setup.servers log sts → IsCutOff setup log k (map around_of sts) (map around_of new)
    → length setup.servers ≤ room → length new ≤ room
cut_room setup log k sts new room are cut roomy =
    let size = cut_size (λ addr was is. ReachesFor setup log k addr × LeavesOpened k was is) setup
    (map around_of sts) (map around_of new) cut in
    omega (arith, size, length-map sts around_of, length-map new around_of, are.size, roomy)

-- ---- what is handed back

-- one folder more
pub folder_back : {F : Type 0} (held : F → Held) (fs : List F) (f : F) (sts : List Station) (st : Station)
    → map held fs ≡ folders_in (map outside_of sts) → held f ≡ st.state.folder
    → map held (fs ++ f ∷ []) ≡ folders_in (map outside_of (sts ++ st ∷ []))
folder_back held fs f sts st are is =
    map_end held fs f ∙ ap (λ (hs : List Held). hs ++ held f ∷ []) are
    ∙ ap (λ (h : Held). folders_in (map outside_of sts) ++ h ∷ []) is
    ∙ sym (map_end (λ (o : Outside). o.folder) (map outside_of sts) (outside_of st))
    ∙ ap (λ (os : List Outside). folders_in os) (sym (map_end outside_of sts st))

-- what is around stations
pub around_is : (sts : List Station)
    → around_in (map outside_of sts) (map (λ (st : Station). st.hand) sts) ≡ map around_of sts
around_is [] = refl
around_is (st ∷ sts) = ap (λ (all : List Around). around_of st ∷ all) (around_is sts)

pub outside_is : (sts : List Station) → map (λ (a : Around). a.outside) (map around_of sts) ≡ map outside_of sts
outside_is [] = refl
outside_is (st ∷ sts) = ap (λ (os : List Outside). outside_of st ∷ os) (outside_is sts)

pub hands_is : (sts : List Station)
    → map (λ (a : Around). a.hand) (map around_of sts) ≡ map (λ (st : Station). st.hand) sts
hands_is [] = refl
hands_is (st ∷ sts) = ap (λ (hs : List Hand). st.hand ∷ hs) (hands_is sts)

-- the builder of one station more
pub given_end : {B : Type 0} (told : B → Builder) (answers : B → Option Answering) (hands : List Hand)
    (builders : List B) (hand : Hand) (b : B) → AreGiven told answers hands builders
    → IsGiven told answers hand b → AreGiven told answers (hands ++ hand ∷ []) (builders ++ b ∷ [])
given_end {B = B} told answers hands builders hand b are is = record {
  size = length_end builders b ∙ ap (λ (n : ℕ). n + 1) are.size ∙ sym (length_end hands hand);
  each = λ i h c ht ct. elim (cases_lt i (length hands)) [
    | inl before ↦ are.each i h c (sym (get_left hands hand i before) ∙ ht)
        (sym (get_left builders b i (omega (arith, before, are.size))) ∙ ct)
    | inr past ↦
        let one = get_end hands hand h i past ht in
        let two = get_end builders b c i (omega (arith, past, are.size)) ct in
        subst (λ (x : B). IsGiven told answers h x) two.1
        (subst (λ (x : Hand). IsGiven told answers x b) one.1 is)
  ];
}

pub given_none : {B : Type 0} (told : B → Builder) (answers : B → Option Answering)
    → AreGiven told answers [] []
given_none told answers = record { size = refl; each = λ i hand b at bt. absurd cc }
