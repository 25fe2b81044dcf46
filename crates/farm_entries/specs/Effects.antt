-- What an event did, and the entry that says so.
use Rattle.std.specs.Prelude.{ℕ, Option, Some, None}
use Rattle.dist_types.specs.declared.addr.Addr.{Addr}
use Rattle.http_routes.specs.Reply.{reply_text}
use Rattle.http_routes.specs.declared.reply.Response.{Response}
use Rattle.core_rules.specs.declared.entry.CoreEntry.{CoreEntry}
use Rattle.farm_script.specs.declared.event.Event.{Event}
use Rattle.farm_entries.specs.declared.entry.Effect.{Effect}
use Rattle.farm_entries.specs.declared.entry.Entry.{Entry}
use Rattle.farm_entries.specs.declared.entry.EntryWord.{EntryWord}
use Rattle.farm_entries.specs.declared.entry.EntryWord.TheVariants.{Waiting}
use Rattle.farm_entries.specs.declared.entry.OutCall.{OutCall}
use Rattle.farm_entries.specs.declared.entry.Reply.{Reply}
use Rattle.farm_entries.specs.declared.entry.StepKind.{StepKind}

-- a word alone
abbrev pub word_effect : EntryWord → Effect
word_effect word = record { core = None; step = None; call = None; reply = None; word = Some word }

-- a reply at once
abbrev pub reply_effect : Option CoreEntry → Reply → Effect
reply_effect core reply = record { core = core; step = None; call = None; reply = Some reply; word = None }

-- a call, whose settlement is waited for
abbrev pub call_effect : Option CoreEntry → Option OutCall → Effect
call_effect core call = record { core = core; step = None; call = call; reply = None; word = Some Waiting }

-- a step of the server at that address alone
abbrev pub step_effect : Addr → StepKind → Effect
step_effect addr kind = record {
  core = None;
  step = Some (record { server = addr; kind = kind });
  call = None;
  reply = None;
  word = None;
}

-- a step of it, and a reply
abbrev pub step_reply_effect : Addr → StepKind → Reply → Effect
step_reply_effect addr kind reply = record {
  core = None;
  step = Some (record { server = addr; kind = kind });
  call = None;
  reply = Some reply;
  word = None;
}

-- a step of it, and a call, whose settlement is waited for
abbrev pub step_call_effect : Addr → StepKind → OutCall → Effect
step_call_effect addr kind call = record {
  core = None;
  step = Some (record { server = addr; kind = kind });
  call = Some call;
  reply = None;
  word = Some Waiting;
}

-- the entry of an event that did this
abbrev pub entry_of : Event → Effect → Entry
entry_of event x = record {
  event = event;
  core = x.core;
  step = x.step;
  call = x.call;
  reply = x.reply;
  word = x.word;
}

-- what the event of an entry did
abbrev pub effect_of : Entry → Effect
effect_of e = record { core = e.core; step = e.step; call = e.call; reply = e.reply; word = e.word }

-- the reply to that entry: the bytes of the response
abbrev pub reply_to : ℕ → Response → Reply
reply_to number response = record { to = number; bytes = reply_text response }
