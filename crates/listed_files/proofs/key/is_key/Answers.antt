use Rattle.std.proofs.Common.{◌∙◌, ◌&&◌, not, [], ap, sym, lit<}
use Rattle.std.proofs.lemmas.Iterator.Consumers.{YieldsList-end}
use Rattle.std.proofs.lemmas.Iterator.Splits.{YieldsList-from_str_split}
use Rattle.listed_files.specs.Key.{is_key, are_key, is_temporary}
use Rattle.listed_files.proofs.KeyParts.{plain_more, last_more, whole_key}
use Rattle.listed_files.proofs.key.is_key.Goals as goal

pub loop-part-preserved-then-plain : goal.loop-part-preserved-then-plain
loop-part-preserved-then-plain c = (
  sym (ap (λ b. b && c.is_plain-good.result) c.if-plain.true)
      ∙ plain_more (λ p. p.now) c.loop-part.yielded c.in-Some.part c.loop-part.plain c.is_plain-good.result
      c.loop-part.invariant.0 c.is_plain-good.ensures,
  c.is_temporary-last.ensures
      ∙ ap is_temporary (last_more (λ p. p.now) [] c.loop-part.yielded c.in-Some.part),
)

pub loop-part-preserved : goal.loop-part-preserved
loop-part-preserved c = (
  c.if-plain.false ∙ (sym (ap (λ b. b && c.is_plain-good.result) c.if-plain.false)
      ∙ plain_more (λ p. p.now) c.loop-part.yielded c.in-Some.part c.loop-part.plain c.is_plain-good.result
      c.loop-part.invariant.0 c.is_plain-good.ensures),
  c.is_temporary-last.ensures
      ∙ ap is_temporary (last_more (λ p. p.now) [] c.loop-part.yielded c.in-Some.part),
)

pub returns-then-plain-2 : goal.returns-then-plain-2
unfolding is_key
returns-then-plain-2 c =
    sym (ap (λ b. b && not c.loop-part.temporary) c.if-plain-2.true)
    ∙ (whole_key c.loop-part.plain c.loop-part.temporary _ c.loop-part.invariant.0 c.loop-part.invariant.1
    ∙ ap are_key (YieldsList-end (YieldsList-from_str_split 47 c.args.text.now (lit< tt) (cc) (cc) (cc))
    c.loop-part.yielded _ c.loop-part.yielded_by _ _ c.in-None.is c.next.ensures.steps).0)

pub returns-else-plain-2 : goal.returns-else-plain-2
unfolding is_key
returns-else-plain-2 c =
    c.if-plain-2.false ∙ (sym (ap (λ b. b && not c.loop-part.temporary) c.if-plain-2.false)
    ∙ (whole_key c.loop-part.plain c.loop-part.temporary _ c.loop-part.invariant.0 c.loop-part.invariant.1
    ∙ ap are_key (YieldsList-end (YieldsList-from_str_split 47 c.args.text.now (lit< tt) (cc) (cc) (cc))
    c.loop-part.yielded _ c.loop-part.yielded_by _ _ c.in-None.is c.next.ensures.steps).0))
