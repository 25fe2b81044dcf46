-- The status that the program ends with.
use Rattle.std.specs.Prelude.{ℕ, ℤ, ◌%◌, ◌==◌, ◌&&◌, Bool, nat_le, not, Result, Ok, Err, if◌then◌else◌, ⊤}
use Rattle.std.specs.Int.{cast_unsigned, w32}
use Rattle.submit_words.specs.declared.refusal.Refusal.{Refusal}

-- a code's bits as a number: 0 for 0 alone
abbrev pub bits_of : ℤ → ℕ
bits_of code = cast_unsigned w32 code

-- the low eight bits of a code, but 1 where that would make 0 of another code
abbrev pub own_status : ℕ → ℕ
own_status bits = if bits % 256 == 0 && not (bits == 0) then 1 else bits % 256

-- the job's own where its code is not 0, else that of what was not handed on
abbrev pub ended : ℕ → Result ⊤ Refusal → Result ℕ Refusal
ended bits (Ok done) = Ok (own_status bits)
ended bits (Err refusal) = if bits == 0 then Err refusal else Ok (own_status bits)

-- the statuses that refusals have
abbrev pub is_reserved : ℕ → Bool
is_reserved status = nat_le 120 status && nat_le status 124
