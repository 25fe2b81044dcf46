-- What a builder that the farm made answers, and what is left of its lines.
use Rattle.std.proofs.Common.{◌≡◌, ◌≢◌, ◌<◌, ◌⊎◌, inl, inr, ℕ, zero, suc, ◌+◌, ◌^◌, Bool, true, false, cond}
use Rattle.std.proofs.Common.{List, [], ◌∷◌, ◌++◌, length, drop, Option, Some, None, Result, Ok, Err}
use Rattle.std.proofs.Common.{refl, sym, ap, subst, ◌∙◌, arith}
use Rattle.std.specs.Prelude.{slice_get, IfSome, is_some, ◌||◌}
use Rattle.std.specs.Option.{option_map}
use Rattle.std.proofs.lemmas.Bool.{cases_lt}
use Rattle.std.proofs.lemmas.Option.{same_Some}
use Rattle.dist_types.specs.Builder.{Answering, AnswersBy, Built, built_row}
use Rattle.dist_types.specs.Cause.{counted}
use Rattle.dist_types.specs.Content.{Recorded, KeptOrRecorded}
use Rattle.dist_types.specs.declared.builder.BuildFault.{BuildFault}
use Rattle.dist_types.specs.declared.builder.BuildFault.TheVariants as build
use Rattle.dist_types.specs.declared.command.CompileCommand.{CompileCommand}
use Rattle.dist_types.specs.declared.fault.Memory as want
use Rattle.dist_types.specs.declared.results.BuildResult.{BuildResult}
use Rattle.dist_wire.specs.declared.run.RunJobHttpRequest.{RunJobHttpRequest}
use Rattle.build_server.specs.Builds.{Builder, Order, row_for, IsBuilt, Builds, outcome_of}
use Rattle.build_server.specs.Builds.{outcome_by, is_due}
use Rattle.build_server.specs.declared.run.Outcome.{Outcome}
use Rattle.build_server.specs.declared.run.Taken.{Taken}
use Rattle.build_server.specs.declared.run.Taken.TheVariants as taken
use Rattle.farm_script.specs.declared.setup.BuilderLine.{BuilderLine}
use Rattle.farm_entries.specs.declared.site.SiteServer.{SiteServer as SetupServer}
use Rattle.farm_entries.specs.Passage.{Leaves}
use Rattle.farm_entries.specs.Served.{build_answer}
use Rattle.farm_entries.specs.Weather.{order_of}
use Rattle.farm_stations.specs.Hands.{Hand, answers_of, fresh_hand, hand_by, IsTrueTo, KeepsWord}
use Rattle.farm_stations.specs.Hands.{HasLeft, IsHandOf, IsCalled}
use Rattle.farm_stations.specs.Lined.{answering}
use Rattle.farm_stations.specs.Post.{Around, LeavesAround}
use Rattle.farm_stations.specs.Stations.{BuildsBy}
use Rattle.farm_stations.proofs.LeftLemmas.{leaves_same}

-- ---- lists

length_last : {A : Type 0} (xs : List A) (x : A) → length (xs ++ x ∷ []) ≡ length xs + 1
length_last [] x = refl
length_last (y ∷ ys) x = omega (arith, length_last ys x)

get_last : {A : Type 0} (xs : List A) (x : A) → slice_get (xs ++ x ∷ []) (length xs) ≡ Some x
get_last [] x = refl
get_last (y ∷ ys) x = get_last ys x

get_next : {A : Type 0} (xs : List A) (n : ℕ) → slice_get xs (suc n) ≡ slice_get (drop 1 xs) n
get_next [] n = refl
get_next (x ∷ xs) n = refl

drop_next : {A : Type 0} (xs : List A) (n : ℕ) → drop 1 (drop n xs) ≡ drop (suc n) xs
drop_next [] zero = refl
drop_next [] (suc n) = refl
drop_next (x ∷ xs) zero = refl
drop_next (x ∷ xs) (suc n) = drop_next xs n

drop_none : {A : Type 0} (xs : List A) (n : ℕ) → length xs < suc n → drop n xs ≡ []
drop_none [] zero lt = refl
drop_none [] (suc n) lt = refl
drop_none (x ∷ xs) zero lt = absurd (omega (arith, lt))
drop_none (x ∷ xs) (suc n) lt = drop_none xs n (omega (arith, lt))

-- ---- records

if_all : {X : Type 0} {P : X → Type 0} (o : Option X) → ((x : X) → P x) → IfSome o P
if_all None f = tt
if_all (Some x) f = f x

-- a row more that is by what is answered, or of a build that memory ran out in
abbrev IsSaid : Answering → List Built → Built → Type 0
IsSaid answers rows row = (row.answer ≡ answers (length rows) row.outputs row.inputs)
    ⊎ (row.answer ≡ Err build.Memory)

true_grown : (f : Answering) (rows : List Built) (row : Built) → IsSaid f rows row → IsTrueTo f (rows ++ row ∷ [])
true_grown f rows row is = λ n last size at.
    let here : length rows ≡ n = omega (arith, length_last rows row, size) in
    let same : row ≡ last = same_Some row last (sym (get_last rows row)
    ∙ ap (slice_get (rows ++ row ∷ [])) here ∙ at) in
    subst (λ (x : Built). (x.answer ≡ f n x.outputs x.inputs) ⊎ (x.answer ≡ Err build.Memory)) same
    (subst (λ (k : ℕ). (row.answer ≡ f k row.outputs row.inputs) ⊎ (row.answer ≡ Err build.Memory)) here is)

true_recorded : (f : Answering) (old new : Option (List Built)) (row : Built) → Recorded row old new
    → IfSome old (λ rows. IsSaid f rows row) → IfSome new (λ rows. IsTrueTo f rows)
true_recorded f None new row is said =
    subst (λ (o : Option (List Built)). IfSome o (λ rows. IsTrueTo f rows)) (sym is) tt
true_recorded f (Some rows) new row is said =
    subst (λ (o : Option (List Built)). IfSome o (λ rows. IsTrueTo f rows)) (sym is) (true_grown f rows row said)

said_by : (f : Answering) (old : Option (List Built)) (row : Built)
    → IfSome old (λ rows. row.answer ≡ f (length rows) row.outputs row.inputs)
    → IfSome old (λ rows. IsSaid f rows row)
said_by f None row is = tt
said_by f (Some rows) row is = inl is

-- one build of a builder that tells what it answers
true_built : (f : Answering) (tc digest : List ℕ) (command : CompileCommand) (outputs : List (List ℕ))
    (inputs : List ℕ) (r : Result BuildResult BuildFault) (old new : Option (List Built))
    → (r ≢ Err build.Memory → Recorded (built_row tc digest command outputs inputs r) old new)
    → (r ≡ Err build.Memory → KeptOrRecorded (built_row tc digest command outputs inputs r) old new)
    → (r ≢ Err build.Memory → IfSome old (λ rows. r ≡ f (length rows) outputs inputs))
    → IfSome old (λ rows. IsTrueTo f rows) → IfSome new (λ rows. IsTrueTo f rows)
true_built f tc digest command outputs inputs (Ok b) old new row memory answered word =
    true_recorded f old new (built_row tc digest command outputs inputs (Ok b)) (row (λ e. cc))
    (said_by f old (built_row tc digest command outputs inputs (Ok b)) (answered (λ e. cc)))
true_built f tc digest command outputs inputs (Err build.Refused) old new row memory answered word =
    true_recorded f old new (built_row tc digest command outputs inputs (Err build.Refused)) (row (λ e. cc))
    (said_by f old (built_row tc digest command outputs inputs (Err build.Refused)) (answered (λ e. cc)))
true_built f tc digest command outputs inputs (Err build.Memory) old new row memory answered word =
    by_memory (memory refl)
  where
    by_memory : KeptOrRecorded (built_row tc digest command outputs inputs (Err build.Memory)) old new
        → IfSome new (λ rows. IsTrueTo f rows)
    by_memory (inl same) = subst (λ (o : Option (List Built)). IfSome o (λ rows. IsTrueTo f rows)) (sym same) word
    by_memory (inr more) =
        true_recorded f old new (built_row tc digest command outputs inputs (Err build.Memory)) more
        (if_all old (λ rows. inr refl))

-- a builder that keeps its word does so after a build
pub word_kept : (tc digest : List ℕ) (command : CompileCommand) (outputs : List (List ℕ)) (inputs : List ℕ)
    (r : Result BuildResult BuildFault) (answers after : Option Answering) (old new : Option (List Built))
    → (r ≢ Err build.Memory → Recorded (built_row tc digest command outputs inputs r) old new)
    → (r ≡ Err build.Memory → KeptOrRecorded (built_row tc digest command outputs inputs r) old new)
    → (r ≢ Err build.Memory → AnswersBy answers old outputs inputs r) → after ≡ answers
    → IfSome answers (λ f. IfSome old (λ rows. IsTrueTo f rows))
    → IfSome after (λ f. IfSome new (λ rows. IsTrueTo f rows))
word_kept tc digest command outputs inputs r None after old new row memory answered same word =
    subst (λ (o : Option Answering). IfSome o (λ f. IfSome new (λ rows. IsTrueTo f rows))) (sym same) tt
word_kept tc digest command outputs inputs r (Some f) after old new row memory answered same word =
    subst (λ (o : Option Answering). IfSome o (λ g. IfSome new (λ rows. IsTrueTo g rows))) (sym same)
    (true_built f tc digest command outputs inputs r old new row memory answered word)

-- one that has no row keeps it
pub fresh_word : (lines : List BuilderLine) (b : Hand) → b ≡ fresh_hand lines → KeepsWord b
fresh_word lines b is = subst KeepsWord (sym is) (λ n row size at. absurd (omega (arith, size)))

pub fresh_left : (lines : List BuilderLine) (b : Hand) → b ≡ fresh_hand lines → HasLeft lines b
fresh_left lines b is = subst (HasLeft lines) (sym is) (record {
  answers = answering lines;
  rows = [];
  answers_are = refl;
  rows_are = refl;
  each = λ n outputs inputs.
      let none : length {A = Built} [] + n ≡ n = omega arith in
      ap (λ (k : ℕ). answering lines k outputs inputs) none;
})

-- ---- builds

module _ (lines : List BuilderLine) (tc archive : List ℕ) (order : Order) (old new : Hand)
    (left : HasLeft lines old) (same : answers_of new ≡ answers_of old) where
  rows_after : (heard : Result BuildResult BuildFault) → Recorded (row_for tc archive order heard) old.told.rows
      new.told.rows → new.told.rows ≡ Some (left.rows ++ row_for tc archive order heard ∷ [])
  rows_after heard row = row
      ∙ ap (option_map (λ (rows : List Built). rows ++ row_for tc archive order heard ∷ [])) left.rows_are

  -- the build went by the line that is due
  said_so : (heard : Result BuildResult BuildFault) → Recorded (row_for tc archive order heard) old.told.rows
      new.told.rows → KeepsWord new
      → (answering lines 0 order.outputs order.inputs ≡ heard) ⊎ (heard ≡ Err build.Memory)
  said_so heard row word =
      let rows = left.rows in
      let last = row_for tc archive order heard in
      let by_rows : IfSome new.told.rows (λ rows. IsTrueTo left.answers rows) =
      subst (λ (o : Option Answering). IfSome o (λ f. IfSome new.told.rows (λ rows. IsTrueTo f rows)))
      (same ∙ left.answers_are) word in
      let true_to : IsTrueTo left.answers (rows ++ last ∷ []) =
      subst (λ (o : Option (List Built)). IfSome o (λ rows. IsTrueTo left.answers rows)) (rows_after heard row)
      by_rows in
      elim (true_to (length rows) last (length_last rows last) (get_last rows last)) [
        | inl is ↦
            let none : length rows + 0 ≡ length rows = omega arith in
            inl (sym (left.each 0 order.outputs order.inputs)
            ∙ ap (λ (k : ℕ). left.answers k order.outputs order.inputs) none ∙ sym is)
        | inr gone ↦ inr gone
      ]

  left_after : (heard : Result BuildResult BuildFault) → Recorded (row_for tc archive order heard) old.told.rows
      new.told.rows → HasLeft (drop 1 lines) new
  left_after heard row =
      let last = row_for tc archive order heard in
      record {
        answers = left.answers;
        rows = left.rows ++ last ∷ [];
        answers_are = same ∙ left.answers_are;
        rows_are = rows_after heard row;
        each = λ n outputs inputs.
            let more : length (left.rows ++ last ∷ []) + n ≡ length left.rows + suc n =
            omega (arith, length_last left.rows last) in
            ap (λ (k : ℕ). left.answers k outputs inputs) more ∙ left.each (suc n) outputs inputs
            ∙ ap (λ (o : Option BuilderLine). build_answer o outputs inputs) (get_next lines n);
      }

  heard_is : (heard : Result BuildResult BuildFault) (o : Outcome)
      → IsBuilt tc archive order heard old.told new.told
      → ◌≡◌ {A = Result Outcome (Taken × want.Memory)} (Ok o) (outcome_of tc archive heard) → KeepsWord new
      → (answering lines 0 order.outputs order.inputs ≡ heard) × HasLeft (drop 1 lines) new
  heard_is (Ok b) o is gives word = (
    elim (said_so (Ok b) (is.row (λ e. cc)) word) [ inl said ↦ said | inr gone ↦ absurd cc ],
    left_after (Ok b) (is.row (λ e. cc)),
  )
  heard_is (Err build.Refused) o is gives word = (
    elim (said_so (Err build.Refused) (is.row (λ e. cc)) word) [ inl said ↦ said | inr gone ↦ absurd cc ],
    left_after (Err build.Refused) (is.row (λ e. cc)),
  )
  heard_is (Err build.Memory) o is gives word = absurd cc

-- what is as it was has the same lines left
left_same : (lines : List BuilderLine) (old new : Hand) → HasLeft lines old → new.told ≡ old.told
    → answers_of new ≡ answers_of old → HasLeft lines new
left_same lines old new left told same = record {
  answers = left.answers;
  rows = left.rows;
  answers_are = same ∙ left.answers_are;
  rows_are = ap (λ (b : Builder). b.rows) told ∙ left.rows_are;
  each = left.each;
}

-- a run whose build, where one is due, is that of a builder of the farm's own
own_goes : (lines : List BuilderLine) (t : Taken) (order : Order) (old new : Hand) (o : Outcome)
    → HasLeft lines old → Builds t order old.told new.told (Ok o) → answers_of new ≡ answers_of old → KeepsWord new
    → (outcome_by t (answering lines 0 order.outputs order.inputs) ≡ Ok o)
    × HasLeft (drop (cond (is_due t) 1 0) lines) new
own_goes lines taken.None order old new o left is same word = (sym is.1, left_same lines old new left is.0 same)
own_goes lines (taken.Unlisted tc) order old new o left is same word =
    (sym is.1, left_same lines old new left is.0 same)
own_goes lines (taken.Folder tc) order old new o left is same word =
    (sym is.1, left_same lines old new left is.0 same)
own_goes lines (taken.Read tc archive) order old new o left is same word =
    let h = heard_is lines tc archive order old new left same is.heard o is.built is.gives word in
    (ap (outcome_of tc archive) h.0 ∙ sym is.gives, h.1)

-- the lines behind one build more
lines_on : (due : Bool) (builds : ℕ) (lines : List BuilderLine) → length lines < 2 ^ 64
    → drop (cond due 1 0) (drop builds lines) ≡ drop (cond due (counted builds) builds) lines
lines_on false builds lines fits = refl
lines_on true builds lines fits = elim (cases_lt builds 18446744073709551615) [
  | inl few ↦
      let more : suc builds ≡ counted builds = omega (arith, few) in
      drop_next lines builds ∙ ap (λ (k : ℕ). drop k lines) more
  | inr many ↦
      let most : counted builds ≡ 18446744073709551615 = omega (arith, many) in
      ap (λ (l : List BuilderLine). drop 1 l) (drop_none lines builds (omega (arith, many, fits)))
      ∙ sym (drop_none lines 18446744073709551615 (omega (arith, fits)))
      ∙ ap (λ (k : ℕ). drop k lines) (sym most)
]

first_left : {A : Type 0} (xs : List A) (n : ℕ) → slice_get (drop n xs) 0 ≡ slice_get xs n
first_left [] zero = refl
first_left [] (suc n) = refl
first_left (x ∷ xs) zero = refl
first_left (x ∷ xs) (suc n) = first_left xs n

-- a run whose build is that of the builder that the farm made, and the lines that this has left then
pub own_build : (s : SetupServer) (n : ℕ) (builder : Option Builder) (own : Option Hand) (old new : Hand)
    (t : Taken) (run : RunJobHttpRequest) (inputs : List ℕ) (o : Outcome) → builder ≡ None → own ≡ Some old
    → length s.builder < 2 ^ 64 → IsHandOf (drop n s.builder) builder (hand_by builder own)
    → Builds t (order_of run inputs) old.told new.told (Ok o) → answers_of new ≡ answers_of old → KeepsWord new
    → BuildsBy s n builder builder t run inputs o
    × IsHandOf (drop (cond (is_due t) (counted n) n) s.builder) builder (hand_by builder (Some new))
own_build s n (Some b) own old new t run inputs o none is fits left builds same word = absurd cc
own_build s n None None old new t run inputs o none is fits left builds same word = absurd cc
own_build s n None (Some h) old new t run inputs o none is fits left builds same word =
    let had : HasLeft (drop n s.builder) old =
    subst (λ (b : Hand). HasLeft (drop n s.builder) b) (same_Some h old is) left in
    let goes = own_goes (drop n s.builder) t (order_of run inputs) old new o had builds same word in (
      (
        refl,
        ap (λ (l : Option BuilderLine). outcome_by t (build_answer l run.outputs inputs))
            (sym (first_left s.builder n)) ∙ goes.0,
      ),
      subst (λ (l : List BuilderLine). HasLeft l new) (lines_on (is_due t) n s.builder fits) goes.1,
    )

-- ---- calls

-- a station has a builder where it had one
pub there_still : {A B : Type 0} (old new : Option A) (own after : Option B) → is_some new ≡ is_some old
    → is_some after ≡ is_some own → (is_some old || is_some own) ≡ true → (is_some new || is_some after) ≡ true
there_still old new own after kept owned there = ap (λ (b : Bool). b || is_some after) kept
    ∙ ap (λ (b : Bool). is_some old || b) owned ∙ there

pub called_same : (b : Hand) → IsCalled b b
called_same b = record { asked = record { rows = inl refl; later = omega arith }; answers = refl }

pub around_same : (a : Around) → LeavesAround a a
around_same a = record { leaves = leaves_same a.outside; called = called_same a.hand }

pub around_by : (old new : Around) → new ≡ old → LeavesAround old new
around_by old new same = subst (λ (a : Around). LeavesAround old a) (sym same) (around_same old)

pub left_by_call : (old new : Around) → new.hand ≡ old.hand → Leaves old.outside new.outside
    → LeavesAround old new
left_by_call old new same leaves = record {
  leaves = leaves;
  called = subst (λ (b : Hand). IsCalled old.hand b) (sym same) (called_same old.hand);
}
