use Rattle.std.proofs.Common.{◌≡◌, length, map, take, string_bytes}
use Rattle.quota.specs.Clients.{client_of, AreNamedOnce}
use Rattle.quota.proofs.clients.Clients.of.Given as goal

abbrev pub invariant-loop-name : goal.invariant-loop-name
invariant-loop-name l = record {
  entries : l.limits.entries ≡ take (length l.yielded) l.fn.listed.items;
  once : AreNamedOnce (map (λ e. client_of (string_bytes e.0) e.1) l.limits.entries);
}
