use Rattle.std.proofs.Common.{◌∙◌, sym, subst}
use Rattle.std.specs.Str.{IsUtf8}
use Rattle.dist_types.proofs.ToolchainLemmas.{lower_is_text}
use Rattle.toolchain_cache.specs.Archives.{id_of}
use Rattle.toolchain_cache.proofs.Ids.{digest_is_id}
use Rattle.toolchain_cache.proofs.KeyLemmas.{id_digits, digest_of_id, none_refused, id_given}
use Rattle.toolchain_cache.proofs.digest.toolchain_of.Goals as goal

pub unreachable-requires : goal.unreachable-requires
unreachable-requires c =
    c.in_default.ensures.cases.0
    (subst IsUtf8 (sym c.id_of-digits.ensures)
    (lower_is_text (id_of c.args.bytes.now)
    (id_digits (id_of c.args.bytes.now) (digest_is_id c.args.bytes.now))))

pub unreachable-requires-in-Err : goal.unreachable-requires-in-Err
unreachable-requires-in-Err c =
    none_refused (id_of c.args.bytes.now) c.in-Ok.text.now _ _ c.new.result c.new.ensures.id
    (c.in-Ok.ensures.cases.0 ∙ c.id_of-digits.ensures)
    (digest_of_id (id_of c.args.bytes.now) (digest_is_id c.args.bytes.now)) c.in-Err.is

pub returns : goal.returns
returns c =
    id_given (id_of c.args.bytes.now) c.in-Ok.text.now _ _ c.new.result c.new.ensures.id
    (c.in-Ok.ensures.cases.0 ∙ c.id_of-digits.ensures)
    (digest_of_id (id_of c.args.bytes.now) (digest_is_id c.args.bytes.now)) c.in-Ok-new.is
