use Rattle.std.proofs.Common.{◌≡◌, List, [], ◌∷◌, map, refl, sym, ap, ◌∙◌, subst}
use Rattle.std.proofs.lemmas.Iterator.Adapters.{YieldsList-from_vec}
use Rattle.std.proofs.lemmas.Iterator.Consumers.{YieldsList-end}
use Rattle.scheduler_service.specs.Workers.{AreJoined}
use Rattle.scheduler_service.proofs.HiredLemmas.{one_gathered}
use Rattle.scheduler_service.proofs.workers.gather.Goals as goal

map_same : {A : Type 0} (xs : List A) → map (λ y. y) xs ≡ xs
map_same [] = refl
map_same {A} (x ∷ xs) = ap (λ (ys : List A). x ∷ ys) (map_same xs)

pub loop-worker-preserved : goal.loop-worker-preserved
loop-worker-preserved g c =
    let so_far = c.loop-worker.invariant in
    let more = one_gathered (λ w. w.kit) (λ w. w.pass) c.loop-worker.yielded c.in-Some.worker
    c.loop-worker.kits.items
    c.push_reserved.new.self.items c.args.pass.now c.loop-worker.pass c.join.new.pass so_far.kits
    c.push_reserved.ensures.items so_far.joined c.join.ensures.joined in
    record { kits = more.0; joined = more.1; room = c.push_reserved.ensures.capacity ∙ so_far.room }

pub returns-clause-kits : goal.returns-clause-kits
returns-clause-kits g c =
    let gives = c.into_iter-worker-iterator.ensures.into_iter_gives in
    let t = YieldsList-end (YieldsList-from_vec {s = c.into_iter-worker-iterator.result}
    c.args.workers.items gives.0 (gives.1 ∙ c.args.workers.ok.0)) c.loop-worker.yielded
    c.loop-worker.worker-iterator c.loop-worker.yielded_by c.next.result c.next.new.self c.in-None.is
    c.next.ensures.steps in
    c.loop-worker.invariant.kits
    ∙ ap (map (λ w. w.kit)) (sym (map_same c.loop-worker.yielded) ∙ t.0)

pub returns-clause-joined : goal.returns-clause-joined
returns-clause-joined g c =
    let gives = c.into_iter-worker-iterator.ensures.into_iter_gives in
    let t = YieldsList-end (YieldsList-from_vec {s = c.into_iter-worker-iterator.result}
    c.args.workers.items gives.0 (gives.1 ∙ c.args.workers.ok.0)) c.loop-worker.yielded
    c.loop-worker.worker-iterator c.loop-worker.yielded_by c.next.result c.next.new.self c.in-None.is
    c.next.ensures.steps in
    subst (λ ws. AreJoined (map (λ w. w.pass) ws) c.args.pass.now c.loop-worker.pass)
    (sym (map_same c.loop-worker.yielded) ∙ t.0) c.loop-worker.invariant.joined
