-- A run over a requester that was lent a dialer.
use Rattle.std.proofs.Common.{◌≡◌, ℕ, List, Option, None, Result}
use Rattle.dist_types.specs.Outgoing.{Peer}
use Rattle.dist_types.specs.declared.dialer.Asked.{Asked}
use Rattle.dist_types.specs.declared.ids.JobId.{JobId}
use Rattle.dist_types.specs.declared.results.RunJobResult.{RunJobResult}
use Rattle.build_server.specs.Books.{Books}
use Rattle.build_server.specs.Builds.{Order, Builder}
use Rattle.build_server.specs.Rows.{IsRunOn}
use Rattle.build_server.specs.declared.fault.ServerFault.{ServerFault}
use Rattle.server_service.specs.Replied.{Dialing, IsRun}
use Rattle.server_service.specs.Told.{IsToldOf, lent_of}

pub run_over : (name : ℕ) (peer : Peer) (job : JobId) (order : Order) (kept turned : Option Books)
    (old new : Dialing) (builder built : Builder) (n : ℕ) (p q : Peer) (a b : Option (List Asked)) (f g : ℕ)
    (answer : Result RunJobResult ServerFault)
    → IsRunOn IsToldOf job order kept turned
    (record { rows = None; faults = f; lent = lent_of name p a })
    (record { rows = None; faults = g; lent = lent_of n q b }) builder built answer
    → p ≡ peer → f ≡ old.faults → a ≡ old.asked
    → n ≡ name → q ≡ peer → g ≡ new.faults → b ≡ new.asked
    → IsRun peer job order (record { kept = kept; dialing = old; builder = builder })
    (record { kept = turned; dialing = new; builder = built }) answer
run_over name peer job order kept turned old new builder built n p q a b f g answer ran is_p is_f is_a is_n
    is_q is_g is_b =
    record {
      name = name;
      ran = rw (is_p, is_f, is_a, is_n, is_q, is_g, is_b) at ran;
    }
