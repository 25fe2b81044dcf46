-- What a worker lends its connections.
use Rattle.std.specs.Prelude.{ℕ, List, Option, None}
use Rattle.dist_types.specs.declared.dialer.Asked.{Asked}
use Rattle.build_server.specs.Builds.{Builder}
use Rattle.server_service.specs.Replied.{Means}
use Rattle.server_service.specs.declared.workers.BuildKit.{BuildKit}

-- what a worker lends, by what its dialer and its builder tell; the server that it shares tells nothing
abbrev pub lent : {T D B : Type 0} → (D → Option (List Asked)) → (D → ℕ) → (B → Builder) → BuildKit T D B
    → Means
lent asked faults builder kit = record {
  kept = None;
  dialing = record { asked = asked kit.dialer; faults = faults kit.dialer };
  builder = builder kit.builder;
}
