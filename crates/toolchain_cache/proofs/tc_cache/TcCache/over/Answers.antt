use Rattle.std.proofs.Common.{◌∙◌, ap, sym}
use Rattle.folders.specs.Files.{front}
use Rattle.lru_disk_cache.specs.Store.{Disk}
use Rattle.toolchain_cache.proofs.ArchiveOpens.{are_keys}
use Rattle.toolchain_cache.proofs.OverFolder.{hold_after}
use Rattle.toolchain_cache.proofs.tc_cache.TcCache.over.Goals as goal

pub invariant_of-opened : goal.invariant_of-opened
invariant_of-opened g c = record {
  keys = are_keys c.drop_others.new.cache.disk.entries c.in-Ok.ensures.keys;
  root = ap (λ (d : Disk). d.root) c.drop_others.ensures.place ∙ (c.requires.root
      ∙ sym (ap (λ (d : Disk). front d.path) c.drop_others.ensures.place));
  none = ap (λ (d : Disk). d.pending) c.drop_others.ensures.place ∙ c.requires.none;
  hold = hold_after g.F.Folder.held c.args.cache c.drop_others.new.cache c.requires.hold
      c.drop_others.ensures.same;
}
