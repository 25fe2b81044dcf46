-- Which calls were made, delivered and settled, asked of the entries. A call is named by the number of the
-- entry that made it.
use Rattle.std.specs.Prelude.{ℕ, List, length, slice_get, nat_lt, Bool, true, false, not, ◌&&◌, ◌==◌, Option}
use Rattle.std.specs.Prelude.{Some, None, if◌then◌else◌}
use Rattle.std.specs.List.{list_any}
use Rattle.std.specs.Option.{option_map}
use Rattle.dist_types.specs.Addr.{◌>>=◌}
use Rattle.core_rules.specs.Cuts.{Cut, cuts}
use Rattle.farm_script.specs.declared.event.EventKind.{EventKind}
use Rattle.farm_script.specs.declared.event.EventKind.TheVariants.{Request, Deliver, Fail, Return, Answer}
use Rattle.farm_script.specs.declared.event.EventKind.TheVariants.{Beat, Restart}
use Rattle.farm_entries.specs.declared.entry.Entry.{Entry}
use Rattle.farm_entries.specs.declared.entry.OutCall.{OutCall}
use Rattle.farm_entries.specs.declared.entry.EntryWord.{EntryWord}
use Rattle.farm_entries.specs.declared.entry.EntryWord.TheVariants.{Void, Down, Waiting, Died}

-- the call that the entry of that number made, if it made one
abbrev pub call_at : List Entry → ℕ → Option OutCall
call_at log n = slice_get log n >>= λ e. e.call

-- the call that an event delivers
abbrev pub delivered_by : EventKind → Option ℕ
delivered_by (Request target peer bytes) = None
delivered_by (Deliver call) = Some call
delivered_by (Fail call) = None
delivered_by (Return delivery) = None
delivered_by (Answer call bytes) = None
delivered_by (Beat server) = None
delivered_by (Restart server key nonce) = None

-- the call that the delivery of that number delivered, and the bytes of its reply, if it got one
abbrev pub delivery_at : List Entry → ℕ → Option (ℕ × List ℕ)
delivery_at log d = do
  e ← slice_get log d
  call ← delivered_by e.event.kind
  reply ← e.reply
  Some (call, reply.bytes)

-- the call that an event is to settle, and its reply, or none where the call is lost
abbrev pub settles_by : List Entry → EventKind → Option (ℕ × Option (List ℕ))
settles_by log (Request target peer bytes) = None
settles_by log (Deliver call) = None
settles_by log (Fail call) = Some (call, None)
settles_by log (Return delivery) = option_map (λ p. (p.0, Some p.1)) (delivery_at log delivery)
settles_by log (Answer call bytes) = Some (call, Some bytes)
settles_by log (Beat server) = None
settles_by log (Restart server key nonce) = None

-- whether the word is void
abbrev pub is_void : Option EntryWord → Bool
is_void None = false
is_void (Some Void) = true
is_void (Some Down) = false
is_void (Some Waiting) = false
is_void (Some Died) = false

-- whether a settlement is of that call
abbrev pub is_of : ℕ → Option (ℕ × Option (List ℕ)) → Bool
is_of n None = false
is_of n (Some p) = p.0 == n

-- whether the entry at the cut settled the call of that number: it is a later one, its event was to, and its
-- word is not void
abbrev pub settled_at : ℕ → Cut Entry → Bool
settled_at n c = nat_lt n (length c.before) && not (is_void c.at.word)
    && is_of n (settles_by c.before c.at.event.kind)

-- whether the call of that number was settled
abbrev pub is_settled : List Entry → ℕ → Bool
is_settled log n = list_any (settled_at n) (cuts log)

-- the entry of that number, where it made a call that waits to be settled; every call is the scheduler's, who
-- lives as long as the script
abbrev pub waiting_at : List Entry → ℕ → Option Entry
waiting_at log n = do
  e ← slice_get log n
  call ← e.call
  if is_settled log n then None else Some e
