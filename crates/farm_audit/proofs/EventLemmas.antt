-- The events of a script have lines as they are printed.
use Rattle.std.proofs.Common.{◌≡◌, ℕ, true, List, [], ◌∷◌, ◌++◌, refl, sym, subst}
use Rattle.std.proofs.Common.{arith}
use Rattle.std.specs.List.{filter_map}
use Rattle.std.specs.Char.{is_ascii_graphic}
use Rattle.std.proofs.lemmas.Bool.Decides.{nat_tests}
use Rattle.dist_types.specs.Addr.{IsAddr, addr_text}
use Rattle.dist_types.specs.declared.addr.Addr.{Addr}
use Rattle.dist_types.proofs.AddrLemmas.{text_is, printed_graphic, passes_weaker}
use Rattle.line_program.specs.Pieces.{text_of, pieces}
use Rattle.farm_script.specs.Words.{is_visible}
use Rattle.farm_script.specs.Grammar.{HasKeyLength, IsAddrWord, IsKind, IsLine}
use Rattle.farm_script.specs.Place.{event_in}
use Rattle.line_program.specs.FirstFaulty.{EachLine}
use Rattle.farm_script.specs.Spelled.{SpellsScript}
use Rattle.farm_script.specs.declared.event.Event.{Event}
use Rattle.farm_script.specs.declared.event.EventKind.{EventKind}
use Rattle.farm_script.specs.declared.event.EventKind.TheVariants as event
use Rattle.farm_script.specs.declared.lines.Line.{Line}
use Rattle.farm_script.specs.declared.lines.Line.TheVariants as lines
use Rattle.farm_script.specs.declared.lines.Scopes.TheVariants.{Refused}
use Rattle.farm_script.specs.declared.setup.Setup.{Setup}
use Rattle.farm_entries.specs.declared.site.Site.{Site}
use Rattle.farm_entries.specs.declared.entry.Entry.{Entry}
use Rattle.farm_entries.specs.Next.{EachNext}
use Rattle.farm_entries.specs.Printed.{kind_text, hex_text}
use Rattle.farm_entries.specs.Weather.{Weather}
use Rattle.run_lines.specs.Grammar.{Each}
use Rattle.run_lines.specs.Texts.{event_text}
use Rattle.farm_audit.specs.Fit.{KindFits, EventFits, EffectFits, HasLine}
use Rattle.farm_audit.proofs.EachLemmas.{Whether, each_cons}

-- the key of a restart has a length that keys in scripts have
abbrev KeyFits : EventKind → Type 0
KeyFits (event.Restart server key nonce) = HasKeyLength key
KeyFits other = Unit {0}

-- ---- an event, as it is printed

graphic_visible : (b : ℕ) → is_ascii_graphic b ≡ true → is_visible b ≡ true
graphic_visible b h = grind (arith, nat_tests)

addr_word : (addr : Addr) → IsAddr addr → IsAddrWord (addr_text addr) addr
addr_word addr is = (
  passes_weaker is_ascii_graphic is_visible graphic_visible (addr_text addr) (printed_graphic addr is),
  text_is addr is,
)

kind_line : (k : EventKind) → KindFits k → KeyFits k → IsKind Refused (kind_text k) k
kind_line (event.Request target peer bytes) fits key = record {
  target = addr_text target;
  peer = addr_text peer;
  hex = hex_text bytes;
  is_target = addr_word target fits.0;
  is_peer = addr_word peer fits.1;
  is_hex = fits.2;
  spelled = refl;
}
kind_line (event.Deliver call) fits key = record { fits = fits; spelled = refl }
kind_line (event.Fail call) fits key = record { fits = fits; spelled = refl }
kind_line (event.Return delivery) fits key = record { fits = fits; spelled = refl }
kind_line (event.Answer call bytes) fits key =
    record { hex = hex_text bytes; fits = fits.0; is_hex = fits.1; spelled = refl }
kind_line (event.Beat server) fits key =
    record { server = addr_text server; is_server = addr_word server fits; spelled = refl }
kind_line (event.Restart server key nonce) fits short = record {
  server = addr_text server;
  key = hex_text key;
  is_server = addr_word server fits.0;
  is_key = (fits.1, short);
  fits = fits.2;
  spelled = refl;
}

event_line : (e : Event) → EventFits e → KeyFits e.kind → IsLine (event_text e) (lines.Event e)
event_line e fits key = record {
  kind = kind_text e.kind;
  at = fits.0;
  is_kind = kind_line e.kind fits.1 key;
  spelled = refl;
}

-- ---- the events of a script

key_fits : (t : List ℕ) (k : EventKind) → IsKind Refused t k → KeyFits k
key_fits t (event.Restart server key nonce) is = is.is_key.1
key_fits t (event.Request target peer bytes) is = tt
key_fits t (event.Deliver call) is = tt
key_fits t (event.Fail call) is = tt
key_fits t (event.Return delivery) is = tt
key_fits t (event.Answer call bytes) is = tt
key_fits t (event.Beat server) is = tt

-- an event whose key fits
abbrev pub Keyed : Event → Type 0
Keyed e = KeyFits e.kind

line_keyed : (t : List ℕ) (l : Line) → IsLine t l → Whether Keyed (event_in l)
line_keyed t lines.Skip is = tt
line_keyed t (lines.Setup s) is = tt
line_keyed t (lines.Event e) is = key_fits is.kind e.kind is.is_kind

lines_keyed : (ps : List (List ℕ)) (ls : List Line) → EachLine IsLine ps ls → Each Keyed (filter_map event_in ls)
lines_keyed [] [] each = tt
lines_keyed (p ∷ ps) (l ∷ ls) each =
    each_cons Keyed (event_in l) (filter_map event_in ls) (line_keyed (text_of p) l each.0)
    (lines_keyed ps ls each.1)
lines_keyed [] (l ∷ ls) each = absurd each
lines_keyed (p ∷ ps) [] each = absurd each

pub events_keyed : (bytes : List ℕ) (setup : Setup) (events : List Event) → SpellsScript bytes setup events
    → Each Keyed events
events_keyed bytes setup events says =
    subst (Each Keyed) says.events_are (lines_keyed (pieces bytes) says.lines says.each)

-- the entries of a run have the events
pub entries_lined : (w : Weather) (setup : Site) (log : List Entry) (events : List Event) (es : List Entry)
    → EachNext w setup log events es → Each Keyed events → Each EffectFits es → Each HasLine es
entries_lined w setup log [] [] each keyed fits = tt
entries_lined w setup log (event ∷ events) (e ∷ es) each keyed fits = (
  event_line e.event fits.0.event
      (subst (λ (d : Entry). KeyFits d.event.kind) (sym each.0.2) keyed.0),
  entries_lined w setup (log ++ e ∷ []) events es each.1 keyed.1 fits.1,
)
entries_lined w setup log [] (e ∷ es) each keyed fits = absurd each
entries_lined w setup log (event ∷ events) [] each keyed fits = absurd each
