-- What the words do not need is as it was.
use Rattle.std.proofs.Common.{◌≡◌, ◌≢◌, ◌∙◌, inl, inr, ℕ, zero, suc, List, [], Option, Some, None, Result, Ok}
use Rattle.std.proofs.Common.{Err, refl, sym, ap, subst, arith}
use Rattle.std.specs.Prelude.{⊤}
use Rattle.rand_core.specs.Stream.{Stream}
use Rattle.dist_types.specs.declared.addr.Addr.{Addr}
use Rattle.line_program.specs.declared.fault.ConfigCause.TheVariants.{Missing, Unreadable, NotToml, Key}
use Rattle.line_program.specs.declared.fault.FarmFault.{FarmFault}
use Rattle.line_program.specs.declared.fault.FarmFault.TheVariants.{Usage, BadLine, DuplicateAddress}
use Rattle.line_program.specs.declared.fault.FarmFault.TheVariants.{ScopedAddress, OverlappingIds, ReadFault}
use Rattle.line_program.specs.declared.fault.FarmFault.TheVariants.{WriteFault, BadConfig, ServeFault, Memory}
use Rattle.line_program.specs.declared.fault.FarmFault.TheVariants.{AuditRefused}
use Rattle.line_program.specs.Side.{Side}
use Rattle.command_line.specs.declared.command.AuthSubcommand.TheVariants.{Base64, JwtHS256ServerToken}
use Rattle.command_line.specs.declared.command.Command.{Command}
use Rattle.command_line.specs.declared.command.Command.TheVariants.{Farm, Storm, Auth, Scheduler, Server, Audit}
use Rattle.command_line.specs.declared.need.Need.TheVariants.{RandomWords, Serving}
use Rattle.command_line.specs.Asked.{Invocation, asked_by, farm, random, token_under, token_of, scheduler}
use Rattle.command_line.specs.Asked.{server, storm, audit}
use Rattle.command_line.specs.Need.{need_for, needed_by}
use Rattle.command_line.specs.Parsed.{command_in}
use Rattle.farm.specs.Command.{Serving as Served, Called, Moment, IsAuthRun, IsCarriedOut, IsUnparsed, IsWorked}
use Rattle.farm.specs.Command.{IsUntouched, IsDoneBy, IsAnswered}

-- a server's token draws nothing
token_draws : (key : List ℕ) (address : Addr) (r : Result ⊤ FarmFault) (s t : Stream) (o p : Side)
    → IsAuthRun (JwtHS256ServerToken key address) r s t o p → t ≡ s
token_draws key address (Ok x) s t o p h = h.2
token_draws key address (Err WriteFault) s t o p h = h.2
token_draws key address (Err (BadConfig (Key k))) s t o p h = h.2
token_draws key address (Err Memory) s t o p (out, inl e) = e
token_draws key address (Err Memory) s t o p (out, inr e) = e
token_draws key address (Err (BadConfig Missing)) s t o p h = absurd h
token_draws key address (Err (BadConfig Unreadable)) s t o p h = absurd h
token_draws key address (Err (BadConfig NotToml)) s t o p h = absurd h
token_draws key address (Err (BadLine n)) s t o p h = absurd h
token_draws key address (Err (DuplicateAddress n)) s t o p h = absurd h
token_draws key address (Err (ScopedAddress n)) s t o p h = absurd h
token_draws key address (Err (OverlappingIds n)) s t o p h = absurd h
token_draws key address (Err (AuditRefused n why)) s t o p h = absurd h
token_draws key address (Err ReadFault) s t o p h = absurd h
token_draws key address (Err ServeFault) s t o p h = absurd h
token_draws key address (Err Usage) s t o p h = absurd h

-- the command that is carried out, where it is known
carried : (known command : Command) (r : Result ⊤ FarmFault) (before after : Moment) → command ≡ known
    → IsCarriedOut command r before after → IsCarriedOut known r before after
carried known command r before after is out =
    subst (λ (k : Command). IsCarriedOut k r before after) is out

-- the command that words ask for which read no file
told_command : (what : Invocation) (known command : Command) → command_in what [] ≡ Ok known
    → command_in what [] ≡ Ok command → command ≡ known
told_command what known command e f = let both = sym f ∙ e in cc

undrawn_out : (what : Invocation) (r : Result ⊤ FarmFault) (before after : Moment)
    → need_for (Some what) ≢ RandomWords → IsWorked what r before after → after.random ≡ before.random
undrawn_out farm r before after n w = (carried Farm w.command r before after
    (told_command farm Farm w.command refl w.parsed.1) w.carried_out).1
undrawn_out audit r before after n w = (carried Audit w.command r before after
    (told_command audit Audit w.command refl w.parsed.1) w.carried_out).1
undrawn_out (storm k) r before after n w = (carried (Storm k) w.command r before after
    (told_command (storm k) (Storm k) w.command refl w.parsed.1) w.carried_out).2
undrawn_out (random k) r before after n w = absurd (n refl)
undrawn_out (token_under address key) r before after n w =
    token_draws key address r before.random after.random before.out after.out
    (carried (Auth (JwtHS256ServerToken key address)) w.command r before after
    (told_command (token_under address key) (Auth (JwtHS256ServerToken key address)) w.command refl
    w.parsed.1) w.carried_out).0
undrawn_out (token_of address path) r before after n w =
    token_draws w.parsed.2.0 address r before.random after.random before.out after.out
    (carried (Auth (JwtHS256ServerToken w.parsed.2.0 address)) w.command r before after w.parsed.2.1
    w.carried_out).0
undrawn_out (scheduler path) r before after n w =
    (carried (Scheduler w.parsed.2.0) w.command r before after w.parsed.2.1 w.carried_out).3
undrawn_out (server path) r before after n w =
    (carried (Server w.parsed.2.0) w.command r before after w.parsed.2.1 w.carried_out).3

unserved_out : (what : Invocation) (r : Result ⊤ FarmFault) (before after : Moment)
    → need_for (Some what) ≢ Serving → IsWorked what r before after → after.serve ≡ before.serve
unserved_out farm r before after n w = (carried Farm w.command r before after
    (told_command farm Farm w.command refl w.parsed.1) w.carried_out).2
unserved_out audit r before after n w = (carried Audit w.command r before after
    (told_command audit Audit w.command refl w.parsed.1) w.carried_out).2
unserved_out (storm k) r before after n w = (carried (Storm k) w.command r before after
    (told_command (storm k) (Storm k) w.command refl w.parsed.1) w.carried_out).3
unserved_out (random k) r before after n w = (carried (Auth (Base64 k)) w.command r before after
    (told_command (random k) (Auth (Base64 k)) w.command refl w.parsed.1) w.carried_out).2
unserved_out (token_under address key) r before after n w =
    (carried (Auth (JwtHS256ServerToken key address)) w.command r before after
    (told_command (token_under address key) (Auth (JwtHS256ServerToken key address)) w.command refl
    w.parsed.1) w.carried_out).2
unserved_out (token_of address path) r before after n w =
    (carried (Auth (JwtHS256ServerToken w.parsed.2.0 address)) w.command r before after w.parsed.2.1
    w.carried_out).2
unserved_out (scheduler path) r before after n w = absurd (n refl)
unserved_out (server path) r before after n w = absurd (n refl)

untouched : (what : Invocation) (r : Result ⊤ FarmFault) (before after : Moment)
    → IsUnparsed what r before after → IsUntouched before after
untouched what (Ok x) before after h = absurd h
untouched what (Err f) before after h = h.1

undrawn_done : (what : Option Invocation) (r : Result ⊤ FarmFault) (before after : Moment)
    → need_for what ≢ RandomWords → IsDoneBy what r before after → after.random ≡ before.random
undrawn_done None r before after n h = h.1.random
undrawn_done (Some what) r before after n (inl h) = (untouched what r before after h).random
undrawn_done (Some what) r before after n (inr w) = undrawn_out what r before after n w

unserved_done : (what : Option Invocation) (r : Result ⊤ FarmFault) (before after : Moment)
    → need_for what ≢ Serving → IsDoneBy what r before after → after.serve ≡ before.serve
unserved_done None r before after n h = h.1.serve
unserved_done (Some what) r before after n (inl h) = (untouched what r before after h).serve
unserved_done (Some what) r before after n (inr w) = unserved_out what r before after n w

pub undrawn_of : (answer : ℕ) (c : Called) (e x : Side) → IsAnswered answer c e x
    → needed_by c.words ≢ RandomWords → c.after.random ≡ c.before.random
undrawn_of zero c e x a n = undrawn_done (asked_by c.words) (Ok tt) c.before c.after n (a.done refl).0
undrawn_of (suc k) c e x a n =
    let t = a.told (omega arith) in undrawn_done (asked_by c.words) (Err t.0) c.before c.after n t.1

same_serve : (before after : Served) → after ≡ before
    → (after.calls ≡ before.calls) × (after.faults ≡ before.faults)
same_serve before after same = (ap (λ (s : Served). s.calls) same, ap (λ (s : Served). s.faults) same)

pub unserved_of : (answer : ℕ) (c : Called) (e x : Side) → IsAnswered answer c e x
    → needed_by c.words ≢ Serving
    → (c.after.serve.calls ≡ c.before.serve.calls) × (c.after.serve.faults ≡ c.before.serve.faults)
unserved_of zero c e x a n = same_serve c.before.serve c.after.serve
    (unserved_done (asked_by c.words) (Ok tt) c.before c.after n (a.done refl).0)
unserved_of (suc k) c e x a n =
    let t = a.told (omega arith) in
    same_serve c.before.serve c.after.serve
    (unserved_done (asked_by c.words) (Err t.0) c.before c.after n t.1)
