-- What goes on from a call that comes back is not void.
use Rattle.std.proofs.Common.{◌≡◌, ℕ, Bool, true, false, List, drop, Option, Some, None, Result, Ok, Err}
use Rattle.std.proofs.Common.{refl, ap, ◌∙◌}
use Rattle.dist_types.specs.declared.addr.Addr.{Addr}
use Rattle.dist_types.specs.declared.outgoing.CallFault.{CallFault}
use Rattle.dist_types.specs.declared.results.AssignJobResult.{AssignJobResult}
use Rattle.core_rules.specs.Log.{Core}
use Rattle.core_rules.specs.Ticket.{Ticket}
use Rattle.farm_entries.specs.declared.site.Site.{Site as Setup}
use Rattle.farm_entries.specs.declared.entry.Effect.{Effect}
use Rattle.farm_entries.specs.declared.entry.Entry.{Entry}
use Rattle.farm_entries.specs.declared.pending.Ask.{Ask}
use Rattle.farm_entries.specs.declared.pending.Ask.TheVariants.{Assign, Report}
use Rattle.farm_entries.specs.declared.pending.Told.{Told}
use Rattle.farm_entries.specs.declared.pending.Told.TheVariants as told
use Rattle.dist_types.specs.declared.ids.JobId.{JobId}
use Rattle.dist_types.specs.declared.results.UpdateJobStateResult.{UpdateJobStateResult}
use Rattle.dist_wire.specs.declared.run.RunJobHttpRequest.{RunJobHttpRequest}
use Rattle.build_server.specs.declared.run.Outcome.{Outcome}
use Rattle.farm_entries.specs.Servers.{ServerNow, server_now, is_over}
use Rattle.farm_entries.specs.Calls.{is_void}
use Rattle.farm_entries.specs.Weather.{free}
use Rattle.farm_entries.specs.Next.{GoesOn}
use Rattle.farm_entries.specs.Seen.{core_of}
use Rattle.farm_entries.specs.Settled.{assignment_end, ReadyEnds, StartedEnds, complete_end, Reports, Lives}
use Rattle.farm_entries.specs.Settled.{ReportsIn}
use Rattle.farm_entries.specs.Ways.{brought_at}

end_loud : (s : Core) (root : ℕ) (json : Bool) (at : ℕ) (t : Ticket) (r : Result AssignJobResult CallFault)
    → is_void (assignment_end s root json at t r).word ≡ false
end_loud s root json at t (Ok a) = refl
end_loud s root json at t (Err f) = refl

ready_loud : (s : ServerNow) (root : ℕ) (json : Bool) (job : JobId) (archive : List ℕ)
    (r : Result UpdateJobStateResult CallFault) (x : Effect) → ReadyEnds free s root json job archive r x
    → is_void x.word ≡ false
ready_loud s root json job archive (Ok u) x is = ap (λ (y : Effect). is_void y.word) is.2
ready_loud s root json job archive (Err f) x is = ap (λ (y : Effect). is_void y.word) is

started_loud : (setup : Setup) (s : ServerNow) (root : ℕ) (job : JobId) (run : RunJobHttpRequest)
    (inputs : List ℕ) (r : Result UpdateJobStateResult CallFault) (x : Effect)
    → StartedEnds free setup s root job run inputs r x → is_void x.word ≡ false
started_loud setup s root job run inputs (Ok u) x is = ap (λ (y : Effect). is_void y.word) is.2
started_loud setup s root job run inputs (Err f) x is = ap (λ (y : Effect). is_void y.word) is

complete_loud : (addr : Addr) (root : ℕ) (json : Bool) (job : JobId) (outcome : Outcome)
    (r : Result UpdateJobStateResult CallFault) → is_void (complete_end addr root json job outcome r).word
    ≡ false
complete_loud addr root json job outcome (Ok u) = refl
complete_loud addr root json job outcome (Err f) = refl

reports_loud : (setup : Setup) (s : ServerNow) (bytes : List ℕ) (root : ℕ) (json : Bool)
    (reply : Option (List ℕ)) (t : Told) (x : Effect) → Reports free setup s bytes root json reply t x
    → is_void x.word ≡ false
reports_loud setup s bytes root json reply (told.Ready job at) x is =
    ready_loud s root json job (drop at bytes) is.0 x is.2
reports_loud setup s bytes root json reply (told.Started job run at) x is =
    started_loud setup s root job run (drop at bytes) is.0 x is.2
reports_loud setup s bytes root json reply (told.Complete job outcome) x is =
    ap (λ (y : Effect). is_void y.word) is.2 ∙ complete_loud s.setup.addr root json job outcome is.0
reports_loud setup s bytes root json reply told.Heartbeat x is = ap (λ (y : Effect). is_void y.word) is.2

lives_loud : (setup : Setup) (life : ℕ) (s : ServerNow) (bytes : List ℕ) (root : ℕ) (json : Bool)
    (reply : Option (List ℕ)) (t : Told) (over : Bool) (x : Effect)
    → Lives free setup life s bytes root json reply t over x → is_void x.word ≡ false
lives_loud setup life s bytes root json reply t true x is = ap (λ (y : Effect). is_void y.word) is
lives_loud setup life s bytes root json reply t false x is = reports_loud setup s bytes root json reply t x is

report_loud : (setup : Setup) (life : ℕ) (bytes : List ℕ) (root : ℕ) (json : Bool) (reply : Option (List ℕ))
    (t : Told) (o : Option ServerNow) (x : Effect) → ReportsIn free setup life bytes root json reply t o x
    → is_void x.word ≡ false
report_loud setup life bytes root json reply t None x is = ap (λ (y : Effect). is_void y.word) is
report_loud setup life bytes root json reply t (Some s) x is = lives_loud setup life s bytes root json reply t
    (is_over life s) x is

pub goes_loud : (setup : Setup) (log : List Entry) (at root : ℕ) (json : Bool) (reply : Option (List ℕ))
    (ask : Ask) (x : Effect) → GoesOn free setup log at root json reply ask x → is_void x.word ≡ false
goes_loud setup log at root json reply (Assign t) x is = ap (λ (y : Effect). is_void y.word) is.2
    ∙ end_loud (core_of setup log) root json at t is.0
goes_loud setup log at root json reply (Report server life t) x is =
    report_loud setup life (brought_at log root) root json reply t (server_now setup log server) x is
