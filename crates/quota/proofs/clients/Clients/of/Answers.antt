use Rattle.std.proofs.Common.{String, Global, ℕ, ◌∙◌, ◌++◌, ◌∷◌, [], sym, length, string_bytes, ap}
use Rattle.std.proofs.Common.{subst}
use Rattle.std.specs.Prelude.{is_some}
use Rattle.std.proofs.lemmas.Iterator.Adapters.{YieldsList-from_vec}
use Rattle.std.proofs.lemmas.Iterator.Consumers.{YieldsList-turn}
use Rattle.std.proofs.lemmas.List.{length_push}
use Rattle.quota.specs.Clients.{AreNamedOnce}
use Rattle.quota.proofs.ClientLemmas.{placed}
use Rattle.quota.proofs.ListedLemmas.{clients_in, once_more, taken_more, first_repeat}
use Rattle.quota.proofs.clients.Clients.of.Goals as goal

pub returns-then-is_some-clause-refused : goal.returns-then-is_some-clause-refused
returns-then-is_some-clause-refused c =
    let gives = c.into_iter-name-iterator.ensures.into_iter_gives in
    let l = c.loop-name in
    let x : String Global × ℕ = (c.in-Some.name, c.in-Some.limit) in
    let t = YieldsList-turn (YieldsList-from_vec {s = c.into_iter-name-iterator.result} c.args.listed.items
    gives.0 (gives.1 ∙ c.args.listed.ok.0)) l.yielded l.name-iterator l.yielded_by c.next.result
    c.next.new.self
    x c.in-Some.is c.next.ensures.steps in
    let index = rw c.as_str.ensures.value at c.get_index_of.ensures.index in
    first_repeat string_bytes c.args.listed.items l.limits.entries (length l.yielded) c.len.result x
    l.invariant.entries t.0 t.1 l.invariant.once
    (ap is_some (sym (placed string_bytes (string_bytes c.in-Some.name) l.limits.entries) ∙ sym index)
    ∙ sym c.is_some.ensures ∙ c.if-is_some.true)
    c.len.ensures.len

pub loop-name-preserved : goal.loop-name-preserved
loop-name-preserved c =
    let gives = c.into_iter-name-iterator.ensures.into_iter_gives in
    let l = c.loop-name in
    let x : String Global × ℕ = (c.in-Some.name, c.in-Some.limit) in
    let t = YieldsList-turn (YieldsList-from_vec {s = c.into_iter-name-iterator.result} c.args.listed.items
    gives.0 (gives.1 ∙ c.args.listed.ok.0)) l.yielded l.name-iterator l.yielded_by c.next.result
    c.next.new.self
    x c.in-Some.is c.next.ensures.steps in
    let found = rw c.as_str.ensures.value at c.get_index_of.ensures.found in
    record {
      entries = taken_more c.args.listed.items l.limits.entries c.list.new.limits.entries (length l.yielded)
          (length (l.yielded ++ x ∷ [])) x l.invariant.entries t.0 t.1 c.in_ok-list.ensures.entries
          (length_push l.yielded x);
      once = subst (λ es. AreNamedOnce (clients_in string_bytes es)) (sym c.in_ok-list.ensures.entries)
          (once_more string_bytes l.limits.entries x l.invariant.once
          (sym found ∙ sym c.is_some.ensures ∙ c.if-is_some.false));
    }
