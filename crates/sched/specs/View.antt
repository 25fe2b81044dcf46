-- What a view tells of the pass that has it.
use Rattle.std.specs.Prelude.{◌≡◌, ◌<◌, ℕ, List, [], ◌∷◌, length, true, false}
use Rattle.atomic_table.specs.Seated.{TableId}
use Rattle.core_rules.specs.Laws.{AreRising}
use Rattle.dist_types.specs.declared.rules.Rules.TheVariants.{One}
use Rattle.sched.specs.declared.view.View.{View}
use Rattle.sched.specs.Lists.{AreBelow}
use Rattle.sched.specs.Pass.{Told}

abbrev pub told_of : TableId → View → Told
told_of of v = record {
  of = of;
  start = v.start;
  front = v.front;
  own = v.own;
  held = v.held;
  splits = v.splits;
  made = v.note;
  count = length v.own;
}

-- the one view of a badge
abbrev pub told_by : TableId → List View → Told
told_by of [] = record {
  of = of;
  start = record { base = 0; count = 0; rules = One };
  front = [];
  own = [];
  held = 0;
  splits = 0;
  made = 0;
  count = 0;
}
told_by of (v ∷ vs) = told_of of v

-- One view, without the turn, of a caller, whose own places rise below its front's length; beside it the
-- numbers
-- of its entries and of the passes that it holds.
pub record IsPass (entries passes : ℕ) (views : List View) : Type 0 where
  pub view : View
  pub is : views ≡ view ∷ []
  pub idle : view.turn ≡ false
  pub live : view.live ≡ true
  pub holds : 0 < view.held
  pub rising : AreRising view.own
  pub low : AreBelow (length view.front) view.own
  pub entries_are : entries ≡ length view.own
  pub passes_are : passes ≡ view.held
