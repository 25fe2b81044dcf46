use Rattle.farm_text.proofs.HexLemmas.{hex_is_text}
use Rattle.farm_text.proofs.text.hex_in.Goals as goal

pub unreachable-requires-in-Err-from_utf8 : goal.unreachable-requires-in-Err-from_utf8
unreachable-requires-in-Err-from_utf8 c = c.in-Err-from_utf8.ensures.cases.0
    (rw c.in-Ok.ensures.written (hex_is_text c.args.bytes.now))
