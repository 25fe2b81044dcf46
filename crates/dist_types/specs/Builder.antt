-- The record of builds.
use Rattle.std.specs.Prelude.{◌≡◌, ℕ, List, length, Option, IfSome, Result}
use Rattle.dist_types.specs.declared.builder.BuildFault.{BuildFault}
use Rattle.dist_types.specs.declared.command.CompileCommand.{CompileCommand}
use Rattle.dist_types.specs.declared.results.BuildResult.{BuildResult}

-- a build: the toolchain's id, the SHA-256 of the archive that it ran in, what was asked, and what it gave
pub record Built : Type 0 where
  pub toolchain : List ℕ
  pub digest : List ℕ
  pub command : CompileCommand
  pub outputs : List (List ℕ)
  pub inputs : List ℕ
  pub answer : Result BuildResult BuildFault

-- the row of a build, whatever its answer
abbrev pub built_row : List ℕ → List ℕ → CompileCommand → List (List ℕ) → List ℕ
    → Result BuildResult BuildFault → Built
built_row toolchain digest command outputs inputs answer = record {
  toolchain = toolchain;
  digest = digest;
  command = command;
  outputs = outputs;
  inputs = inputs;
  answer = answer;
}

-- what a builder answers where its record has so many rows, to the names of outputs and the inputs asked
abbrev pub Answering : Type 0
Answering = ℕ → List (List ℕ) → List ℕ → Result BuildResult BuildFault

-- A builder of this record answers so, where both its answers and its record are told.
abbrev pub AnswersBy : Option Answering → Option (List Built) → List (List ℕ) → List ℕ
    → Result BuildResult BuildFault → Type 0
AnswersBy answers built outputs inputs answer =
    IfSome answers (λ f. IfSome built (λ rows. answer ≡ f (length rows) outputs inputs))
