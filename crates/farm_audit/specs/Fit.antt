-- Of which entries and setups each value has a line: what the types of a farm's values give, and of each event
-- a line in the grammar of scripts.
use Rattle.std.specs.Prelude.{Option, Some, None}
use Rattle.core_rules.specs.declared.entry.CoreEntry.{CoreEntry}
use Rattle.dist_types.specs.Addr.{IsAddr}
use Rattle.farm_script.specs.Grammar.{IsLine}
use Rattle.farm_script.specs.declared.event.Event.{Event}
use Rattle.farm_script.specs.declared.event.EventKind.{EventKind}
use Rattle.farm_script.specs.declared.event.EventKind.TheVariants as event
use Rattle.farm_script.specs.declared.lines.Line.TheVariants as script
use Rattle.farm_entries.specs.declared.site.Site.{Site}
use Rattle.farm_entries.specs.declared.site.SiteServer.{SiteServer}
use Rattle.farm_entries.specs.Servers.{listed_in}
use Rattle.farm_entries.specs.declared.entry.Entry.{Entry}
use Rattle.farm_entries.specs.declared.entry.Step.{Step}
use Rattle.farm_entries.specs.declared.entry.OutCall.{OutCall}
use Rattle.farm_entries.specs.declared.entry.Reply.{Reply}
use Rattle.run_lines.specs.Grammar.{Fits, Each, HasText, HasHex, ArchivesFit, CoreFits, StepFits}
use Rattle.run_lines.specs.Texts.{event_text}
use Rattle.audit.specs.Keyless.{keyless}
use Rattle.farm_audit.specs.RunLines.{shown}

-- a core entry: its numbers fit 64 bits, and its address has a text
abbrev pub CoreEntryFits : CoreEntry → Type 0
CoreEntryFits e = Fits e.now × CoreFits (keyless e.kind)

abbrev pub SomeCoreFits : Option CoreEntry → Type 0
SomeCoreFits None = Unit {0}
SomeCoreFits (Some e) = CoreEntryFits e

-- a step
abbrev pub SomeStepFits : Option Step → Type 0
SomeStepFits None = Unit {0}
SomeStepFits (Some s) = HasText s.server × StepFits (shown s.kind)

-- a call, whose bytes are bytes
abbrev pub SomeCallFits : Option OutCall → Type 0
SomeCallFits None = Unit {0}
SomeCallFits (Some c) = HasText c.target × HasHex c.bytes

-- a reply
abbrev pub SomeReplyFits : Option Reply → Type 0
SomeReplyFits None = Unit {0}
SomeReplyFits (Some r) = Fits r.to × HasHex r.bytes

-- an event, by the types of its values
abbrev pub KindFits : EventKind → Type 0
KindFits (event.Request target peer bytes) = IsAddr target × IsAddr peer × HasHex bytes
KindFits (event.Deliver call) = Fits call
KindFits (event.Fail call) = Fits call
KindFits (event.Return delivery) = Fits delivery
KindFits (event.Answer call bytes) = Fits call × HasHex bytes
KindFits (event.Beat server) = IsAddr server
KindFits (event.Restart server key nonce) = IsAddr server × HasHex key × Fits nonce

abbrev pub EventFits : Event → Type 0
EventFits e = Fits e.at × KindFits e.kind

-- an entry, by the types of its values
pub record EffectFits (e : Entry) : Type 0 where
  pub event : EventFits e.event
  pub core : SomeCoreFits e.core
  pub step : SomeStepFits e.step
  pub call : SomeCallFits e.call
  pub reply : SomeReplyFits e.reply

-- the event of an entry has a line in the grammar of scripts
abbrev pub HasLine : Entry → Type 0
HasLine e = IsLine (event_text e.event) (script.Event e.event)

-- an entry
pub record EntryFits (e : Entry) : Type 0 where
  pub event : HasLine e
  pub effect : EffectFits e

-- a build server as it was set up
pub record ServerFits (s : SiteServer) : Type 0 where
  pub addr : HasText s.addr
  pub found : ArchivesFit (listed_in s.found)

-- a farm as it was set up
pub record SiteFits (setup : Site) : Type 0 where
  pub base : Fits setup.scheduler.base
  pub servers : Each ServerFits setup.servers
