-- What contracts see of a builder that answers by lines.
use Rattle.std.specs.Prelude.{ℕ, List, slice_get}
use Rattle.dist_types.specs.Builder.{Answering, Built}
use Rattle.farm_script.specs.declared.setup.BuilderLine.{BuilderLine}
use Rattle.farm_entries.specs.Served.{build_answer}
use Rattle.farm_stations.specs.declared.build_row.BuildRow.{BuildRow}

-- what a row tells
abbrev pub told_row : BuildRow → Built
told_row row = record {
  toolchain = row.toolchain;
  digest = row.digest;
  command = row.command;
  outputs = row.outputs;
  inputs = row.inputs;
  answer = row.answer;
}

-- its lines, its record with a row for each build that it answered, and how many of them it refused
pub record Lined : Type 0 where
  pub lines : List BuilderLine
  pub rows : List Built
  pub refusals : ℕ

-- what a builder of these lines answers: what the line lists that is due, and the echo where all are answered
abbrev pub answering : List BuilderLine → Answering
answering lines = λ n outputs inputs. build_answer (slice_get lines n) outputs inputs
