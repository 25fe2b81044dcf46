use Rattle.std.proofs.Common.{◌≡◌, ◌∙◌, sym}
use Rattle.std.specs.List.{position}
use Rattle.std.proofs.lemmas.Result.{on_ok_weaker}
use Rattle.dist_types.specs.Addr.{same_addr}
use Rattle.farm_script.proofs.PlaceLemmas.{answered_none, answered_some}
use Rattle.farm_script.proofs.script.add_answer.Goals as goal

pub returns-in-None : goal.returns-in-None
returns-in-None c =
    let at : c.place_of.result ≡ position (λ s. same_addr s.addr c.args.addr.now) c.args.servers.now.items =
    rw c.deref.ensures.value at c.place_of.ensures in
    answered_none c.args.addr.now c.args.answer c.args.servers.now.items (sym at ∙ c.in-None.is)

pub returns-in-Some : goal.returns-in-Some
returns-in-Some c =
    let at : c.place_of.result ≡ position (λ s. same_addr s.addr c.args.addr.now) c.args.servers.now.items =
    rw c.deref.ensures.value at c.place_of.ensures in
    on_ok_weaker c.push_answer.result
    (answered_some c.args.addr.now c.args.answer c.args.servers.now.items c.in-Some.i
    c.index_mut.result.now c.push_answer.new.server (sym at ∙ c.in-Some.is) c.index_mut.ensures.value)
    c.push_answer.ensures
