-- Entries without the keys of heartbeats, which no rule asks for.
use Rattle.std.specs.Prelude.{List, [], map}
use Rattle.core_rules.specs.declared.entry.CoreEntry.{CoreEntry}
use Rattle.core_rules.specs.declared.entry.CoreKind.{CoreKind}
use Rattle.core_rules.specs.declared.entry.CoreKind.TheVariants.{Beat}
use Rattle.core_rules.specs.declared.call.Call.{Call}
use Rattle.core_rules.specs.declared.call.Call.TheVariants as call
use Rattle.core_rules.specs.Log.{Core}

-- without its key
abbrev pub keyless : CoreKind → CoreKind
keyless (Beat server nonce cpus key pruned reaped replaced is_new) =
    Beat server nonce cpus [] pruned reaped replaced is_new
keyless other = other

-- the same of an entry
abbrev pub without_key : CoreEntry → CoreEntry
without_key e = record e { kind = keyless e.kind }

-- the same of a scheduler's log
abbrev pub without_keys : Core → Core
without_keys s = record s { log = map without_key s.log }

-- the same of a call
abbrev pub keyless_call : Call → Call
keyless_call (call.Beat now server nonce cpus key) = call.Beat now server nonce cpus []
keyless_call other = other
