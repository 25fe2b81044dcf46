-- What a builder answers that echoes.
use Rattle.std.specs.Prelude.{ℕ, pos, List, [], length, map}
use Rattle.dist_types.specs.declared.output.OutputData.{OutputData}
use Rattle.dist_types.specs.declared.results.BuildResult.{BuildResult}

-- the bytes of an output, and their number
abbrev pub data_of : List ℕ → OutputData
data_of bytes = record { 0 = bytes; 1 = length bytes }

-- the code 0, the inputs as standard output, and for each output asked the name's own bytes
abbrev pub echo_of : List (List ℕ) → List ℕ → BuildResult
echo_of outputs inputs = record {
  output = record { code = pos 0; stdout = inputs; stderr = [] };
  outputs = map (λ name. (name, data_of name)) outputs;
}
