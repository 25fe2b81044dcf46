-- The one text of each line that a run prints.
use Rattle.std.specs.Prelude.{ℕ, List, [], ◌∷◌, codes}
use Rattle.std.specs.Fmt.{decimal}
use Rattle.hex.specs.Hex.{encode_lower}
use Rattle.line_program.specs.Texts.{◌⧺◌}
use Rattle.mirror_script.specs.declared.said.Said.{Said}
use Rattle.mirror_script.specs.declared.said.Said.TheVariants.{Put, TooLarge, Near, Fetched, Unlisted, NotAnywhere}
use Rattle.mirror_script.specs.declared.said.Said.TheVariants.{FetchFault, BadReply, WrongDigest, Lose, Lie}

-- bytes in lower-case hex, or a dash for none
abbrev pub hex_text : List ℕ → List ℕ
hex_text [] = codes "-"
hex_text (b ∷ bs) = encode_lower (b ∷ bs)

-- a line with its end
abbrev pub said_text : Said → List ℕ
said_text (Put id) = codes "put " ⧺ id ⧺ codes "\n"
said_text TooLarge = codes "too large\n"
said_text (Near bytes) = codes "near " ⧺ hex_text bytes ⧺ codes "\n"
said_text (Fetched bytes) = codes "fetched " ⧺ hex_text bytes ⧺ codes "\n"
said_text (Unlisted bytes) = codes "fetched unlisted " ⧺ hex_text bytes ⧺ codes "\n"
said_text NotAnywhere = codes "not anywhere\n"
said_text FetchFault = codes "fetch fault\n"
said_text (BadReply code) = codes "bad reply " ⧺ decimal code ⧺ codes "\n"
said_text WrongDigest = codes "wrong digest\n"
said_text Lose = codes "lose\n"
said_text Lie = codes "lie\n"
