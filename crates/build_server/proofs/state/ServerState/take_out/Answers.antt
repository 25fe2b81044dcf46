use Rattle.std.proofs.Common.{sym, ◌∙◌, ap}
use Rattle.build_server.proofs.TakeLemmas.{took_none, took_unlisted, took_read}
use Rattle.build_server.proofs.state.ServerState.take_out.Goals as goal

pub returns-in_default : goal.returns-in_default
returns-in_default g c = record {
  taken = took_none c.args.job _ _ _ c.self.view_is (sym c.get.ensures.found ∙ c.in_default.is)
      c.new.ensures.taken;
}

pub returns-then-not-contains_toolchain : goal.returns-then-not-contains_toolchain
returns-then-not-contains_toolchain g c = record {
  taken = took_unlisted c.args.job c.in-Some.tc _ _ _ _ c.self.view_is
      (sym c.get.ensures.found ∙ c.in-Some.is) (sym c.contains_toolchain.ensures.listed
      ∙ c.if-not-contains_toolchain.true)
      (ap (λ h. record {
        held = h;
        archives = c.self.inside.cache.archives;
        capacity = c.self.inside.cache.capacity;
        path = c.self.inside.cache.path;
        folder =
            g.F.Folder.held c.self.inside.cache.folder;
      }) c.remove.ensures.removed)
      c.new-then-not-contains_toolchain.ensures.taken;
}

pub returns-in-Ok : goal.returns-in-Ok
returns-in-Ok g c = record {
  taken = took_read c.args.job c.in-Some.tc c.in-Ok.taken _ _ _ _ c.self.view_is
      (sym c.get.ensures.found ∙ c.in-Some.is) (sym c.contains_toolchain.ensures.listed
      ∙ c.if-not-contains_toolchain.false) c.in-Ok.ensures.reads c.remove-in-Ok.ensures.removed
      c.in-Ok.ensures.in_step (record {
        capacity = c.read.ensures.at.1;
        path = c.read.ensures.at.0;
        others = c.read.ensures.others;
        later = c.read.ensures.later;
      }) c.new-in-Ok.ensures.taken;
}
