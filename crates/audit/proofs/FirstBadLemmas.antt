-- What reading answers is the first line outside the grammar.
use Rattle.std.proofs.Common.{◌≡◌, ℕ, ◌+◌, ◌-◌, ◌≤◌, ◌==◌, ◌↔◌, Bool, true, false, cond, nat_le, List, []}
use Rattle.std.proofs.Common.{◌∷◌, ◌++◌, length, Option, Some, None, Result, Ok, Err, refl, sym, ap, subst, ◌∙◌, inl}
use Rattle.std.proofs.Common.{inr, arith}
use Rattle.std.proofs.lemmas.Bool.{leb-true, le-leb, eqb-false, ne_eqb, and_parts}
use Rattle.std.proofs.lemmas.List.{length-append}
use Rattle.std.proofs.lemmas.Option.{same_Some}
use Rattle.dist_types.specs.Addr.{◌>>=◌}
use Rattle.dist_types.proofs.AddrLemmas.{bind_some}
use Rattle.line_program.specs.Pieces.{pieces, text_of}
use Rattle.line_program.specs.FirstFaulty.{size}
use Rattle.line_program.proofs.FirstFaultyLemmas.{choice}
use Rattle.farm_script.proofs.WordLemmas.{bind_is}
use Rattle.run_lines.specs.Lines.{run_line_at}
use Rattle.run_lines.specs.declared.line.RunLine.{RunLine}
use Rattle.run_lines.proofs.LineLemmas.{run_line_sound, run_line_complete}
use Rattle.audit.specs.declared.order.Place.{Place}
use Rattle.audit.specs.declared.order.Place.TheVariants.{Top, Entries, Ids, Servers, Jobs, Stores, Over}
use Rattle.audit.specs.Order.{next, is_over}
use Rattle.audit.specs.Reading.{Read, with_line, is_ended, fits, placed, take_line, finished, read_then, read_from}
use Rattle.audit.specs.Reading.{nothing_read, read}
use Rattle.audit.specs.FirstBad.{IsGood, FirstBadFrom, IsFirstBad}

size_push : (xs : List (List ℕ)) (p : List ℕ) → size (xs ++ p ∷ []) ≡ size xs + length p
size_push [] p = omega arith
size_push (x ∷ xs) p = omega (arith, size_push xs p)

-- how far the reader is
pub record IsAt (done : List (List ℕ)) (number room : ℕ) : Type 0 where
  pub number_is : number ≡ length done + 1
  pub room_is : size done + room ≡ 268435456

-- a line that was taken
pub record IsTakenAs (done : List (List ℕ)) (r : Read) (p : List ℕ) (number room : ℕ) (s : Read) : Type 0 where
  pub line : RunLine
  pub place : Place
  pub good : IsGood done r p line place
  pub is : record (with_line number line r) { place = place } ≡ s
  pub within : length p ≤ room

placed_is : (number : ℕ) (r : Read) (l : RunLine) (o : Option Place) (s : Read) → next r.place r.seen l ≡ o
    → placed number r l o ≡ Some s
    → (place : Place) × (o ≡ Some place) × (record (with_line number l r) { place = place } ≡ s)
placed_is number r l None s is e = absurd cc
placed_is number r l (Some place) s is e = (place, refl, same_Some _ s e)

pub taken_as : (done : List (List ℕ)) (r : Read) (p : List ℕ) (number room : ℕ) (s : Read) → IsAt done number room
    → take_line number room r p ≡ Some s → IsTakenAs done r p number room s
taken_as done r p number room s at e =
    elim (choice (fits room p) (run_line_at (text_of p) >>= λ l. placed number r l (next r.place r.seen l)) None
    (Some s) e) [
      | inl q ↦
          let parts = and_parts (nat_le (length p) room) (is_ended p) q.0 in
          let short : length p ≤ room = leb-true (length p) room parts.0 in
          let a = bind_some (run_line_at (text_of p)) (λ l. placed number r l (next r.place r.seen l)) s q.1 in
          let b = placed_is number r a.0 (next r.place r.seen a.0) s refl a.2 in
          record {
            line = a.0;
            place = b.0;
            good = record {
              within = omega (arith, at.room_is, short);
              ended = parts.1;
              says = run_line_sound (text_of p) a.0 a.1;
              in_place = b.1;
            };
            is = b.2;
            within = short;
          }
      | inr q ↦ let clash : None ≡ Some s = q.1 in absurd cc
    ]

good_taken : (done : List (List ℕ)) (r : Read) (p : List ℕ) (number room : ℕ) (l : RunLine) (place : Place)
    → IsAt done number room → IsGood done r p l place
    → take_line number room r p ≡ Some (record (with_line number l r) { place = place })
good_taken done r p number room l place at good =
    let short : length p ≤ room = omega (arith, at.room_is, good.within) in
    let on : fits room p ≡ true = rw (le-leb (length p) room short, good.ended) refl in
    ap (λ (b : Bool). cond b (run_line_at (text_of p) >>= λ l. placed number r l (next r.place r.seen l)) None) on
    ∙ bind_is (run_line_at (text_of p)) (λ l. placed number r l (next r.place r.seen l)) l
    (Some (record (with_line number l r) { place = place })) (run_line_complete (text_of p) l good.says)
    (ap (placed number r l) good.in_place)

pub next_at : (done : List (List ℕ)) (p : List ℕ) (number room : ℕ) → IsAt done number room → length p ≤ room
    → IsAt (done ++ p ∷ []) (number + 1) (room - length p)
next_at done p number room at short = record {
  number_is = omega (arith, at.number_is, length-append done (p ∷ []));
  room_is = omega (arith, at.room_is, size_push done p, short);
}

pub over_is : (place : Place) → is_over place ≡ true → place ≡ Over
over_is Top e = absurd cc
over_is (Entries part) e = absurd cc
over_is Ids e = absurd cc
over_is Servers e = absurd cc
over_is Jobs e = absurd cc
over_is Stores e = absurd cc
over_is Over e = refl

not_over : (place : Place) → is_over place ≡ false → place ≡ Over → ⊥
not_over place e is = let clash : true ≡ false = sym (ap is_over is) ∙ e in absurd cc

-- a refusal
abbrev fails : ℕ → Result Read ℕ
fails n = Err n

err_is : (n m : ℕ) → fails n ≡ fails m → n ≡ m
err_is n m e = cc

ended_sound : (done : List (List ℕ)) (r : Read) (number room n : ℕ) → IsAt done number room
    → finished number r ≡ Err n → FirstBadFrom done r [] n
ended_sound done r number room n at e =
    elim (choice (is_over r.place) (cond (r.seen == r.entries) (Ok r) (fails 1)) (fails number) (Err n) e) [
      | inl p ↦ elim (choice (r.seen == r.entries) (Ok r) (fails 1) (Err n) p.1) [
        | inl q ↦ let clash : Ok r ≡ fails n = q.1 in absurd cc
        | inr q ↦ inr (over_is r.place p.0, eqb-false r.seen r.entries q.0, sym (err_is 1 n q.1))
      ]
      | inr p ↦ inl (not_over r.place p.0, sym (err_is number n p.1) ∙ at.number_is)
    ]

off_by : (b : Bool) → (b ≡ true → ⊥) → b ≡ false
off_by true h = absurd (h refl)
off_by false h = refl

ended_complete : (done : List (List ℕ)) (r : Read) (number room n : ℕ) → IsAt done number room
    → FirstBadFrom done r [] n → finished number r ≡ Err n
ended_complete done r number room n at (inl p) =
    let off : is_over r.place ≡ false = off_by (is_over r.place) (λ on. p.0 (over_is r.place on)) in
    ap (λ (b : Bool). cond b (cond (r.seen == r.entries) (Ok r) (fails 1)) (fails number)) off
    ∙ ap fails (at.number_is ∙ sym p.1)
ended_complete done r number room n at (inr p) =
    let on : is_over r.place ≡ true = ap is_over p.0 in
    let other : (r.seen == r.entries) ≡ false = ne_eqb r.seen r.entries p.1 in
    ap (λ (b : Bool). cond b (cond (r.seen == r.entries) (Ok r) (fails 1)) (fails number)) on
    ∙ ap (λ (b : Bool). cond b (Ok r) (fails 1)) other ∙ ap fails (sym p.2)

sound_step : (done : List (List ℕ)) (r : Read) (p : List ℕ) (ps : List (List ℕ)) (number room n : ℕ)
    (o : Option Read) → IsAt done number room → take_line number room r p ≡ o
    → read_then number o (λ s. read_from (number + 1) (room - length p) s ps) ≡ Err n
    → ((s : Read) → IsAt (done ++ p ∷ []) (number + 1) (room - length p)
    → read_from (number + 1) (room - length p) s ps ≡ Err n → FirstBadFrom (done ++ p ∷ []) s ps n)
    → FirstBadFrom done r (p ∷ ps) n
sound_step done r p ps number room n None at is e later = inl (
  sym (err_is number n e) ∙ at.number_is,
  λ l place good. let clash : None ≡ Some _ = sym is ∙ good_taken done r p number room l place at good in absurd cc,
)
sound_step done r p ps number room n (Some s) at is e later =
    let t = taken_as done r p number room s at is in
    let rest = later s (next_at done p number room at t.within) e in
    let same : s ≡ record (with_line (length done + 1) t.line r) { place = t.place } =
    sym t.is ∙ ap (λ (k : ℕ). record (with_line k t.line r) { place = t.place }) at.number_is in
    inr (t.line, t.place, t.good, subst (λ (x : Read). FirstBadFrom (done ++ p ∷ []) x ps n) same rest)

bad_sound : (done : List (List ℕ)) (r : Read) (ps : List (List ℕ)) (number room n : ℕ) → IsAt done number room
    → read_from number room r ps ≡ Err n → FirstBadFrom done r ps n
unfolding read_from
bad_sound done r [] number room n at e = ended_sound done r number room n at e
bad_sound done r (p ∷ ps) number room n at e =
    sound_step done r p ps number room n (take_line number room r p) at refl e
    (λ s next f. bad_sound (done ++ p ∷ []) s ps (number + 1) (room - length p) n next f)

complete_step : (done : List (List ℕ)) (r : Read) (p : List ℕ) (ps : List (List ℕ)) (number room n : ℕ)
    → IsAt done number room → FirstBadFrom done r (p ∷ ps) n
    → ((s : Read) → IsAt (done ++ p ∷ []) (number + 1) (room - length p) → FirstBadFrom (done ++ p ∷ []) s ps n
    → read_from (number + 1) (room - length p) s ps ≡ Err n)
    → read_then number (take_line number room r p) (λ s. read_from (number + 1) (room - length p) s ps) ≡ Err n
complete_step done r p ps number room n at (inl bad) later = cases (take_line number room r p) refl
  where
    cases : (o : Option Read) → take_line number room r p ≡ o
        → read_then number o (λ s. read_from (number + 1) (room - length p) s ps) ≡ Err n
    cases None is = ap fails (at.number_is ∙ sym bad.0)
    cases (Some s) is = let t = taken_as done r p number room s at is in absurd (bad.1 t.line t.place t.good)
complete_step done r p ps number room n at (inr good) later =
    let l = good.0 in
    let place = good.1 in
    let is = good.2 in
    let short : length p ≤ room = omega (arith, at.room_is, is.within) in
    ap (λ (o : Option Read). read_then number o (λ s. read_from (number + 1) (room - length p) s ps))
    (good_taken done r p number room l place at is)
    ∙ ap (λ (k : ℕ). read_from (number + 1) (room - length p) (record (with_line k l r) { place = place }) ps)
    at.number_is
    ∙ later (record (with_line (length done + 1) l r) { place = place }) (next_at done p number room at short) good.3

bad_complete : (done : List (List ℕ)) (r : Read) (ps : List (List ℕ)) (number room n : ℕ) → IsAt done number room
    → FirstBadFrom done r ps n → read_from number room r ps ≡ Err n
unfolding read_from
bad_complete done r [] number room n at is = ended_complete done r number room n at is
bad_complete done r (p ∷ ps) number room n at is = complete_step done r p ps number room n at is
    (λ s next f. bad_complete (done ++ p ∷ []) s ps (number + 1) (room - length p) n next f)

pub first_bad : (text : List ℕ) (n : ℕ) → (read text ≡ Err n) ↔ IsFirstBad text n
first_bad text n = (
  λ e. bad_sound [] nothing_read (pieces text) 1 268435456 n at_start e,
  λ is. bad_complete [] nothing_read (pieces text) 1 268435456 n at_start is,
)
  where
    at_start : IsAt [] 1 268435456
    at_start = record { number_is = refl; room_is = refl }

pub one_bad : (text : List ℕ) (n m : ℕ) → IsFirstBad text n → IsFirstBad text m → n ≡ m
one_bad text n m is other = err_is n m (sym ((first_bad text n).1 is) ∙ (first_bad text m).1 other)
