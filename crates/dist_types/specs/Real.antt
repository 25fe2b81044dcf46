-- What the objects of the system show: how often they failed, and no content.
use Rattle.std.specs.Prelude.{ℕ, List, Option, None}
use Rattle.dist_types.specs.declared.source.StdSource.{StdSource}
use Rattle.dist_types.specs.declared.sink.StdSink.{StdSink}
use Rattle.dist_types.specs.declared.clock.RealClock.{RealClock}
use Rattle.dist_types.specs.declared.dialer.Asked.{Asked}
use Rattle.dist_types.specs.declared.tcp.TcpLink.{TcpLink}
use Rattle.dist_types.specs.declared.tcp.TcpDialer.{TcpDialer}

-- how often a reader of std failed
abbrev pub std_source_faults : {R : Type 0} → StdSource R → ℕ
std_source_faults s = s.faults

-- how often a writer of std failed
abbrev pub std_sink_faults : {W : Type 0} → StdSink W → ℕ
std_sink_faults s = s.faults

-- the moment that the system's clock gave last, or 0
abbrev pub real_clock_last : {C : Type 0} → RealClock C → ℕ
real_clock_last c = c.last

-- how often reading from a connection failed
abbrev pub link_read_faults : {S : Type 0} → TcpLink S → ℕ
link_read_faults l = l.read_faults

-- how often writing to a connection failed
abbrev pub link_write_faults : {S : Type 0} → TcpLink S → ℕ
link_write_faults l = l.write_faults

-- how often a dialer of the network failed
abbrev pub real_dialer_faults : {N S L : Type 0} → TcpDialer N S L → ℕ
real_dialer_faults d = d.faults

-- a dialer of the network tells no record
abbrev pub real_asked : {N S L : Type 0} → TcpDialer N S L → Option (List Asked)
real_asked d = None
