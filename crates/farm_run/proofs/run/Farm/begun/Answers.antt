use Rattle.std.proofs.Common.{◌≡◌, List, arith, subst, sym}
use Rattle.farm_entries.specs.declared.entry.Entry.{Entry}
use Rattle.farm_entries.specs.Next.{IsRun}
use Rattle.farm_entries.specs.Weather.{calm}
use Rattle.farm_run.proofs.MadeLemmas.{begun_farm}
use Rattle.farm_run.proofs.run.Farm.begun.Goals as goal

pub invariant_of-result : goal.invariant_of-result
invariant_of-result g c = rw c.in_ok-desk.ensures.ok (record {
  farm = begun_farm c.args.setup c.with_rules-state.result c.new-2.result.items c.new-3.result.items
      c.args.stations.items c.has_count.ensures c.requires.apart c.with_rules-state.ensures.empty
      c.new-2.ensures.items c.new-3.ensures.items c.requires.stations;
  room_is = omega (arith, c.requires.stations.size, c.in_ok-room.ensures.room);
  calmly = λ own. subst (λ (es : List Entry). IsRun calm c.args.setup es) (sym c.new-2.ensures.items) tt;
})
