-- What starts draw of a stream of random words: each a word, and behind it a key of 32 bytes; and one call of what is
-- started.
use Rattle.std.specs.Prelude.{◌≡◌, ℕ, List, Option, Result, ⊤, is_ok}
use Rattle.rand_core.specs.Stream.{Stream, next_u64, fill_bytes}
use Rattle.dist_types.specs.declared.fault.Failed.{Failed}
use Rattle.http_connections.specs.declared.start.Start.{Start}
use Rattle.http_connections.specs.declared.start.StartFault.{StartFault}

-- the word of the next start
abbrev pub word_of : Stream → ℕ
word_of s = (next_u64 s).0

-- the key of the next start
abbrev pub key_of : Stream → List ℕ
key_of s = (fill_bytes 32 (next_u64 s).1).0

-- what is left for the starts behind it
abbrev pub left_of : Stream → Stream
left_of s = (fill_bytes 32 (next_u64 s).1).1

-- the next start, on a machine with so many processors, and with these limits
abbrev pub start_of : Stream → ℕ → Option ℕ → ℕ → Start
start_of s cpus limit timeout_ms = record {
  word = word_of s;
  key = key_of s;
  cpus = cpus;
  limit = limit;
  timeout_ms = timeout_ms;
}

-- One step of what is called gave that answer and left it so; and what is answered is Ok exactly where that is.
pub record IsOneCall {Called : Type 0} (steps : Result ⊤ StartFault → Called → Type 0) (left : Called)
    (result : Result ⊤ Failed) : Type 0 where
  pub answer : Result ⊤ StartFault
  pub called : steps answer left
  pub same : is_ok result ≡ is_ok answer
