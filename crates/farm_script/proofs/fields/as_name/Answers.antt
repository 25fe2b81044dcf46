use Rattle.std.proofs.Common.{◌≡◌, List, ℕ, Some, None, ap, ◌∙◌, sym, true, false, subst}
use Rattle.std.specs.Str.{is_utf8, IsUtf8}
use Rattle.std.proofs.lemmas.Str.{is_utf8-from_IsUtf8, IsUtf8-from_is_utf8, IsUtf8-had}
use Rattle.farm_script.proofs.FieldLemmas.{cond_is, cond_off, off_by}
use Rattle.farm_script.proofs.fields.as_name.Goals as goal

pub returns-in-Ok : goal.returns-in-Ok
returns-in-Ok c =
    let same : c.in-Ok.text.bytes.items ≡ c.args.bytes = ap (λ v. v.items) c.in-Ok.ensures.ok
    ∙ c.into_inner.ensures.bytes in
    let text : IsUtf8 c.args.bytes = subst IsUtf8 same (IsUtf8-had c.in-Ok.text.bytes.items c.in-Ok.text.ok)
    in
    cond_is (is_utf8 c.args.bytes) (Some c.args.bytes) None (is_utf8-from_IsUtf8 c.args.bytes text)
    ∙ ap (λ (b : List ℕ). Some b) (sym same ∙ sym c.new.ensures.text)

pub returns : goal.returns
returns c =
    let fails : IsUtf8 c.args.bytes → false ≡ true = λ h. c.in-Err.ensures.succeeds
    (subst IsUtf8 (sym c.into_inner.ensures.bytes) h) in
    cond_off (is_utf8 c.args.bytes) (Some c.args.bytes) None
    (off_by (is_utf8 c.args.bytes) (λ on. let k = fails (IsUtf8-from_is_utf8 c.args.bytes on)
    in absurd cc))
