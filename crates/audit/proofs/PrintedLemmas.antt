-- A text is read exactly where it is a printed run.
use Rattle.std.proofs.Common.{◌≡◌, ℕ, suc, ◌+◌, ◌-◌, ◌<◌, ◌≤◌, ◌==◌, ◌↔◌, Bool, true, false, ◌&&◌, cond, nat_le, List, []}
use Rattle.std.proofs.Common.{◌∷◌, ◌++◌, length, map, get_or, take, drop, Option, Some, None, Result, Ok, Err, refl, sym}
use Rattle.std.proofs.Common.{ap, subst, ◌∙◌, append_assoc, append-nil, arith, not, inl, inr}
use Rattle.std.specs.List.{flat_map, list_all, onto_first}
use Rattle.std.proofs.lemmas.Bool.{le-leb, eqb-true}
use Rattle.std.proofs.lemmas.Cmp.{nat_eq_equiv}
use Rattle.std.proofs.lemmas.List.{length-append, take-append-drop, drop_more, take_at, at_drop_all}
use Rattle.dist_types.specs.Addr.{◌>>=◌}
use Rattle.line_program.specs.Pieces.{pieces, text_of}
use Rattle.line_program.proofs.FirstFaultyLemmas.{choice}
use Rattle.farm_script.proofs.FieldLemmas.{cond_is}
use Rattle.farm_script.proofs.VisibleLemmas.{both}
use Rattle.farm_script.proofs.WordLemmas.{bind_is}
use Rattle.run_lines.specs.Texts.{line_text, ended_text}
use Rattle.run_lines.specs.Grammar.{LineFits, IsRunLine, keeps, Unbroken}
use Rattle.run_lines.specs.Lines.{run_line_at}
use Rattle.run_lines.specs.declared.line.RunLine.{RunLine}
use Rattle.run_lines.proofs.LineLemmas.{run_line_complete}
use Rattle.run_lines.proofs.UnbrokenLemmas.{line_unbroken}
use Rattle.audit.specs.declared.order.Place.{Place}
use Rattle.audit.specs.declared.order.Place.TheVariants.{Over}
use Rattle.audit.specs.Order.{next, is_over}
use Rattle.audit.specs.Reading.{Read, with_line, is_ended, fits, placed, take_line, finished, read_then, read_from}
use Rattle.audit.specs.Reading.{nothing_read, read}
use Rattle.audit.specs.FirstBad.{Says, AllFit, IsPrinted}
use Rattle.audit.proofs.FirstBadLemmas.{IsAt, IsTakenAs, taken_as, next_at, over_is}

-- ---- pieces

broken : (c : ℕ) (cs : List ℕ) (ps : List (List ℕ)) → (c == 10) ≡ false
    → cond (c == 10) ((c ∷ []) ∷ ps) (onto_first c ps) ≡ onto_first c ps
broken c cs ps off = ap (λ (b : Bool). cond b ((c ∷ []) ∷ ps) (onto_first c ps)) off

not_on : (b : Bool) → not b ≡ true → b ≡ false
not_on true e = absurd cc
not_on false e = refl

pieces_at : (t rest : List ℕ) → Unbroken t → pieces (t ++ 10 ∷ rest) ≡ (t ++ 10 ∷ []) ∷ pieces rest
unfolding pieces
pieces_at [] rest u = refl
pieces_at (c ∷ cs) rest u =
    let p = both (keeps c) (list_all keeps cs) u in
    broken c cs (pieces (cs ++ 10 ∷ rest)) (not_on (c == 10) p.0)
    ∙ ap (onto_first c) (pieces_at cs rest p.1)

lines_cut : (ls : List RunLine) → AllFit ls → pieces (flat_map ended_text ls) ≡ map ended_text ls
unfolding pieces
lines_cut [] fit = refl
lines_cut (l ∷ ls) fit =
    ap pieces (append_assoc (line_text l) (10 ∷ []) (flat_map ended_text ls))
    ∙ pieces_at (line_text l) (flat_map ended_text ls) (line_unbroken l fit.0)
    ∙ ap (λ (ps : List (List ℕ)). ended_text l ∷ ps) (lines_cut ls fit.1)

-- the pieces, one behind the other
abbrev whole : List (List ℕ) → List ℕ
whole [] = []
whole (p ∷ ps) = p ++ whole ps

onto_whole : (c : ℕ) (ps : List (List ℕ)) → whole (onto_first c ps) ≡ c ∷ whole ps
onto_whole c [] = refl
onto_whole c (p ∷ ps) = refl

pieces_whole : (t : List ℕ) → whole (pieces t) ≡ t
unfolding pieces
pieces_whole [] = refl
pieces_whole (c ∷ cs) = split (c == 10) ∙ ap (λ (x : List ℕ). c ∷ x) (pieces_whole cs)
  where
    split : (b : Bool) → whole (cond b ((c ∷ []) ∷ pieces cs) (onto_first c (pieces cs))) ≡ c ∷ whole (pieces cs)
    split true = refl
    split false = onto_whole c (pieces cs)

whole_lines : (ls : List RunLine) → whole (map ended_text ls) ≡ flat_map ended_text ls
whole_lines [] = refl
whole_lines (l ∷ ls) = ap (λ (x : List ℕ). ended_text l ++ x) (whole_lines ls)

-- ---- a line and its end

last_at : (t : List ℕ) → get_or (t ++ 10 ∷ []) (length t) 0 ≡ 10
last_at [] = refl
last_at (c ∷ cs) = last_at cs

before_end : (t : List ℕ) → length (t ++ 10 ∷ []) - 1 ≡ length t
before_end t = omega (arith, length-append t (10 ∷ []))

is_end : (t : List ℕ) → is_ended (t ++ 10 ∷ []) ≡ true
is_end t =
    let last : get_or (t ++ 10 ∷ []) (length (t ++ 10 ∷ []) - 1) 0 ≡ 10 =
    ap (λ (n : ℕ). get_or (t ++ 10 ∷ []) n 0) (before_end t) ∙ last_at t in
    ap (λ (n : ℕ). n == 10) last

without_end : (t : List ℕ) → text_of (t ++ 10 ∷ []) ≡ t
without_end t =
    ap (λ (b : Bool). cond b (take (length (t ++ 10 ∷ []) - 1) (t ++ 10 ∷ [])) (t ++ 10 ∷ [])) (is_end t)
    ∙ ap (λ (n : ℕ). take n (t ++ 10 ∷ [])) (before_end t)
    ∙ take_at t (10 ∷ []) (length t) refl

with_end : (p : List ℕ) → is_ended p ≡ true → p ≡ text_of p ++ 10 ∷ []
with_end [] e = absurd cc
with_end (c ∷ cs) e =
    let p : List ℕ = c ∷ cs in
    let n : ℕ = length cs in
    let lt : n < length p = omega arith in
    let le : length p ≤ n + 1 = omega arith in
    let less : length p - 1 ≡ n = omega arith in
    let last : get_or p n 0 ≡ 10 = ap (λ (k : ℕ). get_or p k 0) (sym less) ∙ eqb-true (get_or p (length p - 1) 0) 10 e
    in
    let text : text_of p ≡ take n p = cond_is (is_ended p) (take (length p - 1) p) p e
    ∙ ap (λ (k : ℕ). take k p) less in
    sym (take-append-drop n p)
    ∙ ap (λ (x : List ℕ). take n p ++ x) (drop_more p n 0 lt)
    ∙ ap (λ (x : List ℕ). take n p ++ get_or p n 0 ∷ x) (at_drop_all (λ y. y) p (n + 1) le)
    ∙ ap (λ (x : ℕ). take n p ++ x ∷ []) last
    ∙ ap (λ (x : List ℕ). x ++ 10 ∷ []) (sym text)

-- ---- what is printed is read

line_taken : (number room : ℕ) (r : Read) (l : RunLine) (place : Place) → LineFits l
    → next r.place r.seen l ≡ Some place → length (ended_text l) ≤ room
    → take_line number room r (ended_text l) ≡ Some (record (with_line number l r) { place = place })
line_taken number room r l place fit is short =
    let on : fits room (ended_text l) ≡ true = rw (le-leb (length (ended_text l)) room short, is_end (line_text l)) refl
    in
    ap (λ (b : Bool). cond b (run_line_at (text_of (ended_text l)) >>= λ k. placed number r k (next r.place r.seen k))
    None) on
    ∙ ap (λ (t : List ℕ). run_line_at t >>= λ k. placed number r k (next r.place r.seen k)) (without_end (line_text l))
    ∙ bind_is (run_line_at (line_text l)) (λ k. placed number r k (next r.place r.seen k)) l
    (Some (record (with_line number l r) { place = place })) (run_line_complete (line_text l) l (refl, fit))
    (ap (placed number r l) is)

done_is : (number : ℕ) (s : Read) → s.place ≡ Over → s.seen ≡ s.entries → finished number s ≡ Ok s
done_is number s over all =
    let on : is_over s.place ≡ true = ap is_over over in
    let same : (s.seen == s.entries) ≡ true = ap (λ (k : ℕ). s.seen == k) (sym all) ∙ nat_eq_equiv.refl s.seen in
    rw (on, same) refl

lines_read : (number room : ℕ) (r s : Read) (ls : List RunLine) → AllFit ls → Says number r ls s → s.place ≡ Over
    → s.seen ≡ s.entries → length (flat_map ended_text ls) ≤ room → read_from number room r (map ended_text ls) ≡ Ok s
unfolding read_from
lines_read number room r s [] fit says over all short =
    ap (finished number) says ∙ done_is number s over all
lines_read number room r s (l ∷ ls) fit says over all short =
    let parts = length-append (ended_text l) (flat_map ended_text ls) in
    let first : length (ended_text l) ≤ room = omega (arith, parts, short) in
    let rest : length (flat_map ended_text ls) ≤ room - length (ended_text l) = omega (arith, parts, short) in
    ap (λ (o : Option Read). read_then number o
    (λ t. read_from (number + 1) (room - length (ended_text l)) t (map ended_text ls)))
    (line_taken number room r l says.0 fit.0 says.1 first)
    ∙ lines_read (number + 1) (room - length (ended_text l)) (record (with_line number l r) { place = says.0 }) s ls
    fit.1 says.2 over all rest

printed_read : (text : List ℕ) (r : Read) → IsPrinted text r → read text ≡ Ok r
printed_read text r is =
    ap (λ (t : List ℕ). read_from 1 268435456 nothing_read (pieces t)) is.spelled
    ∙ ap (read_from 1 268435456 nothing_read) (lines_cut is.lines is.fit)
    ∙ lines_read 1 268435456 nothing_read r is.lines is.fit is.says is.over is.all
    (subst (λ (t : List ℕ). length t ≤ 268435456) is.spelled is.short)

-- ---- what is read is printed

-- the lines that were read from here on
pub record IsRest (number room : ℕ) (r s : Read) (ps : List (List ℕ)) : Type 0 where
  pub lines : List RunLine
  pub spelled : ps ≡ map ended_text lines
  pub fit : AllFit lines
  pub says : Says number r lines s
  pub over : s.place ≡ Over
  pub all : s.seen ≡ s.entries
  pub short : length (whole ps) ≤ room

-- what was read, and a refusal
abbrev oks : Read → Result Read ℕ
oks r = Ok r

abbrev errs : ℕ → Result Read ℕ
errs n = Err n

ok_is : (r s : Read) → oks r ≡ oks s → r ≡ s
ok_is r s e = cc

finished_is : (number : ℕ) (r s : Read) → finished number r ≡ Ok s → (r ≡ s) × (r.place ≡ Over) × (r.seen ≡ r.entries)
finished_is number r s e =
    elim (choice (is_over r.place) (cond (r.seen == r.entries) (oks r) (Err 1)) (Err number) (Ok s) e) [
      | inl p ↦ elim (choice (r.seen == r.entries) (oks r) (Err 1) (Ok s) p.1) [
        | inl q ↦ (ok_is r s q.1, over_is r.place p.0, eqb-true r.seen r.entries q.0)
        | inr q ↦ let clash : errs 1 ≡ oks s = q.1 in absurd cc
      ]
      | inr p ↦ let clash : errs number ≡ oks s = p.1 in absurd cc
    ]

rest_step : (done : List (List ℕ)) (number room : ℕ) (r s : Read) (p : List ℕ) (ps : List (List ℕ)) (o : Option Read)
    → IsAt done number room → take_line number room r p ≡ o
    → read_then number o (λ t. read_from (number + 1) (room - length p) t ps) ≡ Ok s
    → ((t : Read) → IsAt (done ++ p ∷ []) (number + 1) (room - length p)
    → read_from (number + 1) (room - length p) t ps ≡ Ok s → IsRest (number + 1) (room - length p) t s ps)
    → IsRest number room r s (p ∷ ps)
rest_step done number room r s p ps None at is e later = let clash : errs number ≡ oks s = e in absurd cc
rest_step done number room r s p ps (Some t) at is e later =
    let taken = taken_as done r p number room t at is in
    let more = later t (next_at done p number room at taken.within) e in
    let text : p ≡ ended_text taken.line = with_end p taken.good.ended
    ∙ ap (λ (x : List ℕ). x ++ 10 ∷ []) taken.good.says.0 in
    record {
      lines = taken.line ∷ more.lines;
      spelled = ap (λ (x : List ℕ). x ∷ ps) text ∙ ap (λ (xs : List (List ℕ)). ended_text taken.line ∷ xs) more.spelled;
      fit = (taken.good.says.1, more.fit);
      says = (
        taken.place,
        taken.good.in_place,
        subst (λ (x : Read). Says (number + 1) x more.lines s) (sym taken.is) more.says,
      );
      over = more.over;
      all = more.all;
      short = omega (arith, length-append p (whole ps), more.short, taken.within);
    }

rest_is : (done : List (List ℕ)) (number room : ℕ) (r s : Read) (ps : List (List ℕ)) → IsAt done number room
    → read_from number room r ps ≡ Ok s → IsRest number room r s ps
unfolding read_from
rest_is done number room r s [] at e =
    let f = finished_is number r s e in
    record {
      lines = [];
      spelled = refl;
      fit = tt;
      says = f.0;
      over = ap (λ (x : Read). x.place) (sym f.0) ∙ f.1;
      all = subst (λ (x : Read). x.seen ≡ x.entries) f.0 f.2;
      short = omega arith;
    }
rest_is done number room r s (p ∷ ps) at e =
    rest_step done number room r s p ps (take_line number room r p) at refl e
    (λ t next f. rest_is (done ++ p ∷ []) (number + 1) (room - length p) t s ps next f)

read_printed : (text : List ℕ) (r : Read) → read text ≡ Ok r → IsPrinted text r
read_printed text r e =
    let rest = rest_is [] 1 268435456 nothing_read r (pieces text) (record { number_is = refl; room_is = refl }) e in
    record {
      lines = rest.lines;
      spelled = sym (pieces_whole text) ∙ ap whole rest.spelled ∙ whole_lines rest.lines;
      fit = rest.fit;
      says = rest.says;
      over = rest.over;
      all = rest.all;
      short = subst (λ (t : List ℕ). length t ≤ 268435456) (pieces_whole text) rest.short;
    }

pub read_is_printed : (text : List ℕ) (r : Read) → (read text ≡ Ok r) ↔ IsPrinted text r
read_is_printed text r = (read_printed text r, printed_read text r)
