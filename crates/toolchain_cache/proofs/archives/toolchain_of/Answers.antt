use Rattle.std.proofs.Common.{◌≡◌, ◌∙◌, ◌-◌, length, take, drop, sym, ap, subst}
use Rattle.std.specs.Str.{IsUtf8}
use Rattle.std.proofs.lemmas.List.{take_rest}
use Rattle.toolchain_cache.proofs.KeyLemmas.{id_is_text, id_said, none_refused, id_given}
use Rattle.toolchain_cache.specs.Keyed.{id_in}
use Rattle.toolchain_cache.proofs.archives.toolchain_of.Goals as goal

pub unreachable-requires : goal.unreachable-requires
unreachable-requires c =
    let is : take (length c.as_bytes.result.now - 4) (drop 4 c.as_bytes.result.now) ≡ id_in c.args.key.now =
    take_rest c.as_bytes.result.now 4 ∙ ap id_in (c.as_bytes.ensures.value ∙ c.get.ensures.text) in
    c.in_default.ensures.cases.0 (subst IsUtf8 (sym is) (id_is_text c.args.key.now c.requires))

pub unreachable-requires-in-Err : goal.unreachable-requires-in-Err
unreachable-requires-in-Err c =
    let is : take (length c.as_bytes.result.now - 4) (drop 4 c.as_bytes.result.now) ≡ id_in c.args.key.now =
    take_rest c.as_bytes.result.now 4 ∙ ap id_in (c.as_bytes.ensures.value ∙ c.get.ensures.text) in
    none_refused (id_in c.args.key.now) c.in-Ok.text.now _ _ c.new.result c.new.ensures.id
    (c.in-Ok.ensures.cases.0 ∙ is) (id_said c.args.key.now c.requires) c.in-Err.is

pub returns : goal.returns
returns c =
    let is : take (length c.as_bytes.result.now - 4) (drop 4 c.as_bytes.result.now) ≡ id_in c.args.key.now =
    take_rest c.as_bytes.result.now 4 ∙ ap id_in (c.as_bytes.ensures.value ∙ c.get.ensures.text) in
    id_given (id_in c.args.key.now) c.in-Ok.text.now _ _ c.new.result c.new.ensures.id
    (c.in-Ok.ensures.cases.0 ∙ is) (id_said c.args.key.now c.requires) c.in-Ok-new.is
