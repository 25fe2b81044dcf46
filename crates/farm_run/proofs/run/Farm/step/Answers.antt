use Rattle.std.proofs.Common.{◌≡◌, ◌≤◌, List, length, ap, map, subst, sym, ◌∙◌}
use Rattle.farm_entries.specs.declared.site.Site.{Site}
use Rattle.farm_run.specs.declared.desk.Desk.{Desk}
use Rattle.farm_run.specs.Farm.{AddsNext, Farmed}
use Rattle.farm_stations.specs.Post.{Post, around_of, outside_of}
use Rattle.farm_run.specs.Stops.{IsCutOff, around_in, folders_in}
use Rattle.farm_run.proofs.CutLemmas.{cut_room, around_is, outside_is, hands_is}
use Rattle.farm_run.proofs.PassageLemmas.{step_of, calm_next}
use Rattle.farm_run.proofs.run.Farm.step.Goals as goal

pub stop-requires : goal.stop-requires
stop-requires g c =
    let old = c.self.inside.stations.items in
    record {
      room = cut_room c.self.inside.desk.value.setup c.self.inside.log.entries.items c.args.event.now.kind
          old c.advance.new.stations.items c.self.inside.room c.self.invariant.farm.stations
          (subst (λ (d : Desk). IsCutOff d.setup c.self.inside.log.entries.items c.args.event.now.kind
          (map around_of old) (map around_of c.advance.new.stations.items)) c.deref_mut.ensures.value
          (c.advance.ensures.cut c.if-not-advance.true)) c.self.invariant.room_is;
    }

pub returns-then-not-advance-clause-err : goal.returns-then-not-advance-clause-err
returns-then-not-advance-clause-err g c =
    c.stop.ensures.entries ∙ c.advance.ensures.same c.if-not-advance.true
    ∙ ap (λ (f : Farmed). f.entries) c.self.view_is

pub returns-then-not-advance-clause-back : goal.returns-then-not-advance-clause-back
returns-then-not-advance-clause-back g c =
    let old = c.self.inside.stations.items in
    record {
      step = c.in_step.ensures;
      had = c.have_hands.ensures;
      left = map around_of c.advance.new.stations.items;
      cut = subst (λ (f : Farmed). IsCutOff f.setup f.entries c.args.event.now.kind
          (around_in f.outside f.hands) (map around_of c.advance.new.stations.items)) c.self.view_is
          (rw (around_is c.self.inside.stations.items)
          (subst (λ (d : Desk). IsCutOff d.setup c.self.inside.log.entries.items c.args.event.now.kind
          (map around_of old) (map around_of c.advance.new.stations.items)) c.deref_mut.ensures.value
          (c.advance.ensures.cut c.if-not-advance.true)));
      folders_are = c.stop.ensures.folders ∙ ap folders_in (sym (outside_is c.advance.new.stations.items));
      given = rw (hands_is c.advance.new.stations.items) c.stop.ensures.builders;
    }

pub returns-clause-ok : goal.returns-clause-ok
returns-clause-ok g c =
    let old = c.self.inside.stations.items in
    rw (← c.self.view_is)
    (step_of c.self.inside.desk.value.setup c.advance.new.desk.setup c.self.inside.log.entries.items
    c.advance.new.log.entries.items c.args.event.now (map outside_of c.self.inside.stations.items)
    (map outside_of c.advance.new.stations.items) (map (λ (st : Post). st.hand) old)
    (map (λ (st : Post). st.hand) c.advance.new.stations.items)
    (subst (λ (d : Desk). AddsNext d.setup c.self.inside.log.entries.items c.args.event.now
    c.advance.new.log.entries.items (map outside_of old) (map outside_of c.advance.new.stations.items))
    c.deref_mut.ensures.value (c.advance.ensures.next c.if-not-advance.false))
    (c.advance.ensures.setup c.if-not-advance.false
    ∙ ap (λ (d : Desk). d.setup) c.deref_mut.ensures.value))

pub invariant_of-result : goal.invariant_of-result
invariant_of-result g c =
    let old = c.self.inside.stations.items in
    let same : c.advance.new.desk.setup ≡ c.self.inside.desk.value.setup =
    c.advance.ensures.setup c.if-not-advance.false ∙ ap (λ (d : Desk). d.setup) c.deref_mut.ensures.value in
    record {
      farm = c.advance.ensures.farm c.if-not-advance.false;
      room_is = subst (λ (s : Site). length s.servers ≤ c.self.inside.room) (sym same)
          c.self.invariant.room_is;
      calmly = calm_next c.self.inside.desk.value.setup c.advance.new.desk.setup
          c.self.inside.log.entries.items c.advance.new.log.entries.items c.args.event.now
          (map outside_of c.self.inside.stations.items) (map outside_of c.advance.new.stations.items)
          (subst (λ (d : Desk). AddsNext d.setup c.self.inside.log.entries.items c.args.event.now
          c.advance.new.log.entries.items (map outside_of old) (map outside_of c.advance.new.stations.items))
          c.deref_mut.ensures.value (c.advance.ensures.next c.if-not-advance.false)) same
          c.self.invariant.calmly;
    }
