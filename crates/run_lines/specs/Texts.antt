-- The one text of each line of a printed run, without its end.
use Rattle.std.specs.Prelude.{ℕ, List, ◌++◌, ◌∷◌, [], codes}
use Rattle.std.specs.Fmt.{decimal}
use Rattle.dist_types.specs.Addr.{addr_text}
use Rattle.core_rules.specs.declared.rows.ServerRow.{ServerRow}
use Rattle.line_program.specs.Texts.{◌⧺◌}
use Rattle.farm_script.specs.declared.event.Event.{Event}
use Rattle.farm_entries.specs.declared.entry.EntryWord.{EntryWord}
use Rattle.farm_entries.specs.declared.entry.EntryWord.TheVariants as word
use Rattle.farm_entries.specs.Printed.{number_text, hex_text, kind_text, core_text, step_text, stage_text}
use Rattle.farm_entries.specs.Printed.{claim_text}
use Rattle.run_lines.specs.declared.line.RunLine.{RunLine}
use Rattle.run_lines.specs.declared.line.RunLine.TheVariants as line

-- an event, as it is printed
abbrev pub event_text : Event → List ℕ
event_text e = decimal e.at ⧺ codes " " ⧺ kind_text e.kind

-- a word
abbrev pub word_text : EntryWord → List ℕ
word_text word.Void = codes "void"
word_text word.Down = codes "down"
word_text word.Waiting = codes "waiting"
word_text word.Died = codes "died"

-- a registration that stands, behind the word; whether it drains is not shown
abbrev pub row_words : ServerRow → List ℕ
row_words row =
    addr_text row.server ⧺ codes " reg " ⧺ decimal row.reg ⧺ codes " cpus " ⧺ decimal row.cpus
    ⧺ codes " nonce " ⧺ decimal row.nonce ⧺ codes " seen " ⧺ decimal row.seen ⧺ codes " load "
    ⧺ decimal row.load ⧺ codes " error " ⧺ number_text row.error

-- a line
abbrev pub line_text : RunLine → List ℕ
line_text (line.Run version entries) = codes "run " ⧺ decimal version ⧺ codes " entries " ⧺ decimal entries
line_text (line.Entry number e) = codes "entry " ⧺ decimal number ⧺ codes " " ⧺ event_text e
line_text (line.Core number kind) = codes "core " ⧺ decimal number ⧺ codes " " ⧺ core_text kind
line_text (line.Step server kind) = codes "step " ⧺ addr_text server ⧺ codes " " ⧺ step_text kind
line_text (line.Call target bytes) = codes "call " ⧺ addr_text target ⧺ codes " " ⧺ hex_text bytes
line_text (line.Reply to bytes) = codes "reply " ⧺ decimal to ⧺ codes " " ⧺ hex_text bytes
line_text (line.Word w) = codes "word " ⧺ word_text w
line_text line.Books = codes "books"
line_text (line.Ids base count) = codes "ids base " ⧺ decimal base ⧺ codes " count " ⧺ decimal count
line_text (line.Server row) = codes "server " ⧺ row_words row
line_text (line.Job job reg state claimed) = codes "job " ⧺ decimal job.0 ⧺ codes " reg " ⧺ decimal reg
    ⧺ codes " " ⧺ stage_text state ⧺ codes " " ⧺ claim_text claimed
line_text (line.Held server job tc) = codes "held " ⧺ addr_text server ⧺ codes " " ⧺ decimal job.0 ⧺ codes " "
    ⧺ tc
line_text (line.Archive server tc size) = codes "archive " ⧺ addr_text server ⧺ codes " " ⧺ tc ⧺ codes " "
    ⧺ decimal size
line_text line.End = codes "end"

-- a line with its end
abbrev pub ended_text : RunLine → List ℕ
ended_text l = line_text l ++ 10 ∷ []
