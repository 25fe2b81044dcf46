use Rattle.std.proofs.Common.{rules, refl, subst, ◌≡◌}
use denote.Param.Members.{Called}
use denote.Param.Callables.{Held}
use Rattle.dist_http.specs.Starts.{start_of}
use Rattle.dist_http.proofs.real_serve.RealServeServe.scheduler.Goals as goal

pub returns-in-Ok-clause-called : goal.returns-in-Ok-clause-called
returns-in-Ok-clause-called g c =
    let old = c.args.self.now in
    let e : ◌≡◌ {A = Held g.dyn-1.0} c.deref_box_mut-1.result.now (old.scheduler.vtable, old.scheduler.value) =
    search rules in
    record {
      answer = c.call_mut.result;
      called = record {
        met = subst (λ (q : Held g.dyn-1.0). (x : (g.dyn-1.0.entry q.0).0.Denot)
            × Called (g.dyn-1.0.entry q.0).1 q.1 (
              c.args.config,
              (
                start_of (g.G.Rng.stream old.starts.random)
                    old.starts.cpus old.starts.limit old.starts.timeout_ms,
                tt,
              ),
            ) c.call_mut.result x
            × (◌≡◌ {A = Held g.dyn-1.0} (c.deref_box_mut-1.result.now.0, c.call_mut.new.self) (q.0, x))) e
            (c.call_mut.new.self, rw c.draw-start.ensures.start at c.call_mut.ensures.0, refl);
      };
      same = search rules;
    }

pub returns-in-Err-clause-called : goal.returns-in-Err-clause-called
returns-in-Err-clause-called g c =
    let old = c.args.self.now in
    let e : ◌≡◌ {A = Held g.dyn-1.0} c.deref_box_mut-1.result.now (old.scheduler.vtable, old.scheduler.value) =
    search rules in
    record {
      answer = c.call_mut.result;
      called = record {
        met = subst (λ (q : Held g.dyn-1.0). (x : (g.dyn-1.0.entry q.0).0.Denot)
            × Called (g.dyn-1.0.entry q.0).1 q.1 (
              c.args.config,
              (
                start_of (g.G.Rng.stream old.starts.random)
                    old.starts.cpus old.starts.limit old.starts.timeout_ms,
                tt,
              ),
            ) c.call_mut.result x
            × (◌≡◌ {A = Held g.dyn-1.0} (c.deref_box_mut-1.result.now.0, c.call_mut.new.self) (q.0, x))) e
            (c.call_mut.new.self, rw c.draw-start.ensures.start at c.call_mut.ensures.0, refl);
      };
      same = search rules;
    }
