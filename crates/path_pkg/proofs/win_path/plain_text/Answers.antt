use Rattle.std.proofs.Common.{◌∙◌, ap, slice_index}
use Rattle.std.specs.Char.{is_ascii_alphabetic}
use Rattle.path_pkg.proofs.WindowsLemmas.{plain_ascii, plain_letter}
use Rattle.path_pkg.proofs.win_path.plain_text.Goals as goal

pub after-requires : goal.after-requires
after-requires c = plain_ascii c.args.path.now c.requires

pub disk_path-requires : goal.disk_path-requires
disk_path-requires c = ap is_ascii_alphabetic
    (c.byte.ensures ∙ ap (λ p. slice_index p 0) c.as_bytes.ensures.value)
    ∙ plain_letter c.args.path.now c.requires
