-- For how long callers were held back.
use Rattle.std.specs.Prelude.{ℕ, ◌+◌, min}
use Rattle.exec_builder.specs.declared.pause.MemPause.{MemPause}
use Rattle.exec_builder.specs.declared.pause.RealPause.{RealPause}

-- so many milliseconds more, up to 2^64 - 1
abbrev pub paused_more : ℕ → ℕ → ℕ
paused_more millis paused = min (paused + millis) 18446744073709551615

abbrev pub mem_paused : MemPause → ℕ
mem_paused p = p.paused

abbrev pub real_paused : {C : Type 0} → RealPause C → ℕ
real_paused p = p.paused
