-- What reading an input line by line answers is its first faulty line, with its cause; or what its lines say.
use Rattle.std.proofs.Common.{◌≡◌, ℕ, ◌+◌, ◌-◌, ◌<◌, ◌≤◌, ◌⊎◌, ◌↔◌, Bool, true, false, ◌&&◌, cond, nat_le, List}
use Rattle.std.proofs.Common.{[], ◌∷◌, ◌++◌, length, take, drop, Option, Some, None, Result, Ok, Err, refl, sym, ap}
use Rattle.std.proofs.Common.{subst, ◌∙◌, inl, inr, arith, append_assoc, append-nil}
use Rattle.std.specs.Prelude.{IfOk, IfErr, IfSome}
use Rattle.std.specs.List.{filter_map, cons_option}
use Rattle.std.proofs.lemmas.Bool.{leb-true, le-leb, and_parts, cases_Bool}
use Rattle.std.proofs.lemmas.List.{length-append}
use Rattle.std.proofs.lemmas.List.Elements.{filter_map-append}
use Rattle.std.proofs.lemmas.Option.{same_Some, IfSome_then}
use Rattle.line_program.specs.declared.fault.FarmFault.{FarmFault}
use Rattle.line_program.specs.declared.fault.FarmFault.TheVariants.{Usage, BadLine, DuplicateAddress}
use Rattle.line_program.specs.declared.fault.FarmFault.TheVariants.{ScopedAddress, OverlappingIds}
use Rattle.line_program.specs.declared.fault.FarmFault.TheVariants.{ReadFault, WriteFault}
use Rattle.line_program.specs.declared.fault.FarmFault.TheVariants.{BadConfig, ServeFault, Memory, AuditRefused}
use Rattle.line_program.specs.FirstFaulty.{Grammar, size, IsInPlace, IsFine, IsClash, IsFaulty, FirstFaultyFrom}
use Rattle.line_program.specs.FirstFaulty.{IsFirstFaulty, IsFaultless, EachLine}
use Rattle.line_program.specs.Lines.{Judge, fits, and_then, judged_within, lines_from, lines_in}
use Rattle.line_program.specs.Lines.{IsScriptFault, IsScriptAnswer}
use Rattle.line_program.specs.Pieces.{pieces, piece_len, text_of}
use Rattle.line_program.specs.Program.{IsEnough}
use Rattle.line_program.specs.Report.{NamesLine}
use Rattle.line_program.specs.Reader.{Reader, onto, fault_of, judged, judge_by}
use Rattle.line_program.proofs.LinesLemmas.{line_stop, read_enough}

-- What a reader keeps behind lines that say so much, and that it judges each line, and what it read at the end, as the
-- grammar does.
pub record Follows {L S R : Type 0} (g : Grammar L) (reader : Reader L S) (finish : ℕ → S → Result R FarmFault)
    (Keeps : S → List L → Type 0) : Type 0 where
  pub sound : (t : List ℕ) (l : L) → reader.line_at t ≡ Some l → g.says t l
  pub complete : (t : List ℕ) (l : L) → g.says t l → reader.line_at t ≡ Some l
  pub scoped_sound : (t : List ℕ) (l : L) → reader.scoped_at t ≡ Some l → g.scoped t l
  pub scoped_complete : (t : List ℕ) (l : L) → g.scoped t l → reader.scoped_at t ≡ Some l
  pub loosens : (t : List ℕ) (l : L) → g.says t l → g.scoped t l
  pub place : (r : S) (said : List L) (l : L) → Keeps r said → g.misplaced said l ≡ reader.misplaced r l
  pub again : (r : S) (said : List L) (t : List ℕ) (l : L) → Keeps r said → g.says t l
      → reader.duplicate r l ≡ true → g.duplicate said l
  pub first : (r : S) (said : List L) (t : List ℕ) (l : L) → Keeps r said → g.says t l
      → reader.duplicate r l ≡ false → g.duplicate said l → ⊥
  pub meets : (r : S) (said : List L) (t : List ℕ) (l : L) → Keeps r said → g.says t l
      → reader.overlapping r l ≡ true → g.overlapping said l
  pub apart : (r : S) (said : List L) (t : List ℕ) (l : L) → Keeps r said → g.says t l
      → reader.overlapping r l ≡ false → g.overlapping said l → ⊥
  pub not_both : (said : List L) (l : L) → g.duplicate said l → g.overlapping said l → ⊥
  pub next : (r : S) (said : List L) (t : List ℕ) (l : L) → Keeps r said → g.says t l
      → reader.misplaced r l ≡ false → reader.duplicate r l ≡ false → reader.overlapping r l ≡ false
      → Keeps (reader.with_line r l) (said ++ l ∷ [])
  pub ended : (r : S) (said : List L) (number : ℕ) (f : FarmFault) → Keeps r said → finish number r ≡ Err f
      → g.lacking said × (f ≡ BadLine number)
  pub lacks : (r : S) (said : List L) (number : ℕ) → Keeps r said → g.lacking said
      → finish number r ≡ Err (BadLine number)

size_push : (xs : List (List ℕ)) (p : List ℕ) → size (xs ++ p ∷ []) ≡ size xs + length p
size_push [] p = omega arith
size_push (x ∷ xs) p = omega (arith, size_push xs p)

pub choice : {A : Type 0} (b : Bool) (x y z : A) → cond b x y ≡ z → ((b ≡ true) × (x ≡ z))
    ⊎ ((b ≡ false) × (y ≡ z))
choice true x y z e = inl (refl, e)
choice false x y z e = inr (refl, e)

-- ---- what lines say, with one line more

pub push_none : {L X : Type 0} (h : L → Option X) (said : List L) (l : L) → h l ≡ None
    → filter_map h (said ++ l ∷ []) ≡ filter_map h said
push_none h said l e = filter_map-append h said (l ∷ []) ∙ ap (λ o. filter_map h said ++ cons_option o []) e
    ∙ append-nil (filter_map h said)

pub push_some : {L X : Type 0} (h : L → Option X) (said : List L) (l : L) (x : X) → h l ≡ Some x
    → filter_map h (said ++ l ∷ []) ≡ filter_map h said ++ x ∷ []
push_some h said l x e = filter_map-append h said (l ∷ []) ∙ ap (λ o. filter_map h said ++ cons_option o []) e

-- ---- a line that was judged

-- the reader behind these lines
pub record IsAt {L S : Type 0} (Keeps : S → List L → Type 0) (done : List (List ℕ)) (said : List L)
    (number room : ℕ) (r : S) : Type 0 where
  pub keeps : Keeps r said
  pub number_is : number ≡ length done + 1
  pub room_is : size done + room ≡ 67108864

-- a line that is read
pub record IsTaken {L S : Type 0} (g : Grammar L) (reader : Reader L S) (done : List (List ℕ)) (said : List L) (r : S)
    (p : List ℕ) (room : ℕ) (s : S) : Type 0 where
  pub line : L
  pub fine : IsFine g done said p line
  pub is : reader.with_line r line ≡ s
  pub place : reader.misplaced r line ≡ false
  pub first : reader.duplicate r line ≡ false
  pub apart : reader.overlapping r line ≡ false
  pub within : length p ≤ room

-- the limits
record IsWithin (number room : ℕ) (p : List ℕ) : Type 0 where
  pub number_fits : number ≤ 1000000
  pub room_fits : length p ≤ room
  pub text_fits : length (text_of p) ≤ 2097152

within_is : (number room : ℕ) (p : List ℕ) → fits number room p ≡ true → IsWithin number room p
within_is number room p e =
    let a = nat_le number 1000000 in
    let b = nat_le (length p) room in
    let c = nat_le (length (text_of p)) 2097152 in
    let q = and_parts (a && b) c e in
    let q2 = and_parts a b q.0 in
    record {
      number_fits = leb-true number 1000000 q2.0;
      room_fits = leb-true (length p) room q2.1;
      text_fits = leb-true (length (text_of p)) 2097152 q.1;
    }

in_place_fits : {L S : Type 0} (g : Grammar L) (Keeps : S → List L → Type 0) (done : List (List ℕ)) (said : List L)
    (number room : ℕ) (r : S) (p : List ℕ) → IsAt Keeps done said number room r → IsInPlace g done said p
    → fits number room p ≡ true
in_place_fits g Keeps done said number room r p at is =
    let a : number ≤ 1000000 = omega (arith, at.number_is, is.number) in
    let b : length p ≤ room = omega (arith, at.room_is, is.room) in
    rw (le-leb number 1000000 a, le-leb (length p) room b, le-leb (length (text_of p)) 2097152 is.short) refl

-- a text says one value
pub one_value : {L S R : Type 0} (g : Grammar L) (reader : Reader L S) (finish : ℕ → S → Result R FarmFault)
    (Keeps : S → List L → Type 0) (F : Follows g reader finish Keeps) (t : List ℕ) (k l : L)
    → g.says t k → g.says t l → k ≡ l
one_value g reader finish Keeps F t k l a b = same_Some k l (sym (F.complete t k a) ∙ F.complete t l b)

made_in_place : {L S R : Type 0} (g : Grammar L) (reader : Reader L S) (finish : ℕ → S → Result R FarmFault)
    (Keeps : S → List L → Type 0) (F : Follows g reader finish Keeps) (done : List (List ℕ))
    (said : List L) (number room : ℕ) (r : S) (p : List ℕ) (l : L) → IsAt Keeps done said number room r
    → IsWithin number room p → g.scoped (text_of p) l → reader.misplaced r l ≡ false → IsInPlace g done said p
made_in_place g reader finish Keeps F done said number room r p l at within spells place = record {
  number = omega (arith, at.number_is, within.number_fits);
  room = omega (arith, at.room_is, within.room_fits);
  short = within.text_fits;
  line = l;
  spells = spells;
  place = F.place r said l at.keeps ∙ place;
}

-- a line that is spelled so and stands in no place of its kind is not in its place
not_in_place : {L S R : Type 0} (g : Grammar L) (reader : Reader L S) (finish : ℕ → S → Result R FarmFault)
    (Keeps : S → List L → Type 0) (F : Follows g reader finish Keeps) (done : List (List ℕ))
    (said : List L) (number room : ℕ) (r : S) (p : List ℕ) (l : L) → IsAt Keeps done said number room r
    → g.scoped (text_of p) l → reader.misplaced r l ≡ true → IsInPlace g done said p → ⊥
not_in_place g reader finish Keeps F done said number room r p l at spells off is =
    let same : is.line ≡ l = same_Some is.line l
    (sym (F.scoped_complete (text_of p) is.line is.spells) ∙ F.scoped_complete (text_of p) l spells) in
    let on : g.misplaced said l ≡ false = ap (g.misplaced said) (sym same) ∙ is.place in
    let clash : true ≡ false = sym off ∙ sym (F.place r said l at.keeps) ∙ on in
    absurd cc

-- a fault, of any reading
abbrev pub fails : {A : Type 0} → FarmFault → Result A FarmFault
fails f = Err f

pub err_is : {A : Type 0} (d f : FarmFault) → fails {A = A} d ≡ Err f → d ≡ f
err_is d f e = cc

-- ---- what is refused is faulty

onto_faulty : {L S R : Type 0} (g : Grammar L) (reader : Reader L S) (finish : ℕ → S → Result R FarmFault)
    (Keeps : S → List L → Type 0) (F : Follows g reader finish Keeps) (done : List (List ℕ))
    (said : List L) (number room : ℕ) (r : S) (p : List ℕ) (l : L) (f : FarmFault)
    → IsAt Keeps done said number room r → IsWithin number room p → g.says (text_of p) l
    → onto reader number r l ≡ Err f → IsFaulty g done said p f
onto_faulty {L} {S} g reader finish Keeps F done said number room r p l f at within says e =
    let spells = F.loosens (text_of p) l says in
    let overlappings = cond (reader.overlapping r l) (fails {A = S} (OverlappingIds number))
    (Ok (reader.with_line r l)) in
    let duplicates = cond (reader.duplicate r l) (fails {A = S} (DuplicateAddress number)) overlappings in
    elim (choice (reader.misplaced r l) (fails {A = S} (BadLine number)) duplicates (Err f) e) [
      | inl q ↦
          let bad : IsFaulty g done said p (BadLine number) =
          (at.number_is, not_in_place g reader finish Keeps F done said number room r p l at spells q.0) in
          subst (IsFaulty g done said p) (err_is (BadLine number) f q.1) bad
      | inr q ↦
          let in_place = made_in_place g reader finish Keeps F done said number room r p l at within spells q.0 in
          elim (choice (reader.duplicate r l) (fails {A = S} (DuplicateAddress number)) overlappings (Err f) q.1) [
            | inl d ↦
                let twice : IsClash g g.duplicate done said p = record {
                  in_place = in_place;
                  line = l;
                  says = says;
                  clash = F.again r said (text_of p) l at.keeps says d.0;
                } in
                let faulty : IsFaulty g done said p (DuplicateAddress number) = (at.number_is, twice) in
                subst (IsFaulty g done said p) (err_is (DuplicateAddress number) f d.1) faulty
            | inr d ↦ elim (choice (reader.overlapping r l) (fails {A = S} (OverlappingIds number))
                (Ok (reader.with_line r l)) (Err f) d.1) [
                  | inl o ↦
                      let met : IsClash g g.overlapping done said p = record {
                        in_place = in_place;
                        line = l;
                        says = says;
                        clash = F.meets r said (text_of p) l at.keeps says o.0;
                      } in
                      let faulty : IsFaulty g done said p (OverlappingIds number) = (at.number_is, met) in
                      subst (IsFaulty g done said p) (err_is (OverlappingIds number) f o.1) faulty
                  | inr o ↦ let clash : Ok (reader.with_line r l) ≡ Err f = o.1 in absurd cc
                ]
          ]
    ]

none_faulty : {L S R : Type 0} (g : Grammar L) (reader : Reader L S) (finish : ℕ → S → Result R FarmFault)
    (Keeps : S → List L → Type 0) (F : Follows g reader finish Keeps) (done : List (List ℕ))
    (said : List L) (number room : ℕ) (r : S) (p : List ℕ) (any : Option L) → IsAt Keeps done said number room r
    → IsWithin number room p → reader.line_at (text_of p) ≡ None → reader.scoped_at (text_of p) ≡ any
    → IsFaulty g done said p (fault_of reader number r any)
none_faulty g reader finish Keeps F done said number room r p None at within none is = (
  at.number_is,
  λ h. let clash : None ≡ Some h.line = sym is
      ∙ F.scoped_complete (text_of p) h.line h.spells in absurd cc,
)
none_faulty g reader finish Keeps F done said number room r p (Some l) at within none is =
    let spells = F.scoped_sound (text_of p) l is in
    elim (cases_Bool (reader.misplaced r l)) [
      | inl off ↦
          let bad : IsFaulty g done said p (BadLine number) =
          (at.number_is, not_in_place g reader finish Keeps F done said number room r p l at spells off) in
          subst (IsFaulty g done said p) (ap (λ (v : Bool). cond v (BadLine number) (ScopedAddress number))
          (sym off)) bad
      | inr on ↦
          let scoped : IsFaulty g done said p (ScopedAddress number) = (
            at.number_is,
            made_in_place g reader finish Keeps F done said number room r p l at within spells on,
            λ k says. let clash : None ≡ Some k = sym none ∙ F.complete (text_of p) k says in absurd cc,
          ) in
          subst (IsFaulty g done said p) (ap (λ (v : Bool). cond v (BadLine number) (ScopedAddress number))
          (sym on)) scoped
    ]

judged_faulty : {L S R : Type 0} (g : Grammar L) (reader : Reader L S) (finish : ℕ → S → Result R FarmFault)
    (Keeps : S → List L → Type 0) (F : Follows g reader finish Keeps) (done : List (List ℕ))
    (said : List L) (number room : ℕ) (r : S) (p : List ℕ) (o any : Option L) (f : FarmFault)
    → IsAt Keeps done said number room r → IsWithin number room p → reader.line_at (text_of p) ≡ o
    → reader.scoped_at (text_of p) ≡ any → judged reader number r o any ≡ Err f → IsFaulty g done said p f
judged_faulty g reader finish Keeps F done said number room r p (Some l) any f at within is any_is e =
    onto_faulty g reader finish Keeps F done said number room r p l f at within (F.sound (text_of p) l is) e
judged_faulty g reader finish Keeps F done said number room r p None any f at within is any_is e =
    subst (IsFaulty g done said p) (err_is (fault_of reader number r any) f e)
    (none_faulty g reader finish Keeps F done said number room r p any at within is any_is)

-- what is read with a line, which is within the limits
abbrev line_of : {L S : Type 0} → Reader L S → ℕ → S → List ℕ → Result S FarmFault
line_of reader number r p = judged reader number r (reader.line_at (text_of p)) (reader.scoped_at (text_of p))

refused_faulty : {L S R : Type 0} (g : Grammar L) (reader : Reader L S) (finish : ℕ → S → Result R FarmFault)
    (Keeps : S → List L → Type 0) (F : Follows g reader finish Keeps) (done : List (List ℕ))
    (said : List L) (number room : ℕ) (r : S) (p : List ℕ) (f : FarmFault) → IsAt Keeps done said number room r
    → judged_within (judge_by reader) number room r p ≡ Err f → IsFaulty g done said p f
refused_faulty {L} {S} g reader finish Keeps F done said number room r p f at e =
    elim (choice (fits number room p) (line_of reader number r p) (fails {A = S} (BadLine number)) (Err f) e) [
      | inl q ↦ judged_faulty g reader finish Keeps F done said number room r p (reader.line_at (text_of p))
          (reader.scoped_at (text_of p)) f at (within_is number room p q.0) refl refl q.1
      | inr q ↦
          let bad : IsFaulty g done said p (BadLine number) = (
            at.number_is,
            λ h. let clash : true ≡ false = sym (in_place_fits g Keeps done said number room r p at h)
                ∙ q.0 in absurd cc,
          ) in
          subst (IsFaulty g done said p) (err_is (BadLine number) f q.1) bad
    ]

-- ---- what is read is fine

onto_taken : {L S R : Type 0} (g : Grammar L) (reader : Reader L S) (finish : ℕ → S → Result R FarmFault)
    (Keeps : S → List L → Type 0) (F : Follows g reader finish Keeps) (done : List (List ℕ))
    (said : List L) (number room : ℕ) (r : S) (p : List ℕ) (l : L) (s : S) → IsAt Keeps done said number room r
    → IsWithin number room p → g.says (text_of p) l → onto reader number r l ≡ Ok s
    → IsTaken g reader done said r p room s
onto_taken {L} {S} g reader finish Keeps F done said number room r p l s at within says e =
    let spells = F.loosens (text_of p) l says in
    let overlappings = cond (reader.overlapping r l) (fails {A = S} (OverlappingIds number))
    (Ok (reader.with_line r l)) in
    let duplicates = cond (reader.duplicate r l) (fails {A = S} (DuplicateAddress number)) overlappings in
    elim (choice (reader.misplaced r l) (fails {A = S} (BadLine number)) duplicates (Ok s) e) [
      | inl q ↦ let clash : Err (BadLine number) ≡ Ok s = q.1 in absurd cc
      | inr q ↦ elim (choice (reader.duplicate r l) (fails {A = S} (DuplicateAddress number)) overlappings (Ok s)
          q.1) [
            | inl d ↦ let clash : Err (DuplicateAddress number) ≡ Ok s = d.1 in absurd cc
            | inr d ↦ elim (choice (reader.overlapping r l) (fails {A = S} (OverlappingIds number))
                (Ok (reader.with_line r l)) (Ok s) d.1) [
                  | inl o ↦ let clash : Err (OverlappingIds number) ≡ Ok s = o.1 in absurd cc
                  | inr o ↦
                      let fine : IsFine g done said p l = record {
                        in_place = made_in_place g reader finish Keeps F done said number room r p l at within spells
                            q.0;
                        says = says;
                        first = F.first r said (text_of p) l at.keeps says d.0;
                        apart = F.apart r said (text_of p) l at.keeps says o.0;
                      } in
                      record {
                        line = l;
                        fine = fine;
                        is = cc;
                        place = q.0;
                        first = d.0;
                        apart = o.0;
                        within = within.room_fits;
                      }
                ]
          ]
    ]

judged_taken : {L S R : Type 0} (g : Grammar L) (reader : Reader L S) (finish : ℕ → S → Result R FarmFault)
    (Keeps : S → List L → Type 0) (F : Follows g reader finish Keeps) (done : List (List ℕ))
    (said : List L) (number room : ℕ) (r : S) (p : List ℕ) (o any : Option L) (s : S)
    → IsAt Keeps done said number room r → IsWithin number room p → reader.line_at (text_of p) ≡ o
    → judged reader number r o any ≡ Ok s → IsTaken g reader done said r p room s
judged_taken g reader finish Keeps F done said number room r p (Some l) any s at within is e =
    onto_taken g reader finish Keeps F done said number room r p l s at within (F.sound (text_of p) l is) e
judged_taken g reader finish Keeps F done said number room r p None any s at within is e = absurd cc

read_taken : {L S R : Type 0} (g : Grammar L) (reader : Reader L S) (finish : ℕ → S → Result R FarmFault)
    (Keeps : S → List L → Type 0) (F : Follows g reader finish Keeps) (done : List (List ℕ))
    (said : List L) (number room : ℕ) (r : S) (p : List ℕ) (s : S) → IsAt Keeps done said number room r
    → judged_within (judge_by reader) number room r p ≡ Ok s → IsTaken g reader done said r p room s
read_taken {L} {S} g reader finish Keeps F done said number room r p s at e =
    elim (choice (fits number room p) (line_of reader number r p) (fails {A = S} (BadLine number)) (Ok s) e) [
      | inl q ↦ judged_taken g reader finish Keeps F done said number room r p (reader.line_at (text_of p))
          (reader.scoped_at (text_of p)) s at (within_is number room p q.0) refl q.1
      | inr q ↦ let clash : Err (BadLine number) ≡ Ok s = q.1 in absurd cc
    ]

-- the reader behind the line
next_at : {L S R : Type 0} (g : Grammar L) (reader : Reader L S) (finish : ℕ → S → Result R FarmFault)
    (Keeps : S → List L → Type 0) (F : Follows g reader finish Keeps) (done : List (List ℕ))
    (said : List L) (number room : ℕ) (r : S) (p : List ℕ) (s : S) (at : IsAt Keeps done said number room r)
    (taken : IsTaken g reader done said r p room s)
    → IsAt Keeps (done ++ p ∷ []) (said ++ taken.line ∷ []) (number + 1) (room - length p) s
next_at {L} {S} g reader finish Keeps F done said number room r p s at taken = record {
  keeps = subst (λ (x : S). Keeps x (said ++ taken.line ∷ [])) taken.is
      (F.next r said (text_of p) taken.line at.keeps taken.fine.says taken.place taken.first taken.apart);
  number_is = omega (arith, at.number_is, length-append done (p ∷ []));
  room_is = omega (arith, at.room_is, size_push done p, taken.within);
}

-- ---- no line is both, and none has two faults

-- a faulty line has one of four causes
abbrev Caused : {L : Type 0} → Grammar L → List (List ℕ) → List L → List ℕ → FarmFault → Type 0
Caused {L} g done said p f =
    ((f ≡ BadLine (length done + 1)) × (IsInPlace g done said p → ⊥))
    ⊎ (((f ≡ ScopedAddress (length done + 1)) × IsInPlace g done said p
    × ((l : L) → g.says (text_of p) l → ⊥))
    ⊎ (((f ≡ DuplicateAddress (length done + 1)) × IsClash g g.duplicate done said p)
    ⊎ ((f ≡ OverlappingIds (length done + 1)) × IsClash g g.overlapping done said p)))

caused : {L : Type 0} (g : Grammar L) (done : List (List ℕ)) (said : List L) (p : List ℕ) (f : FarmFault)
    → IsFaulty g done said p f → Caused g done said p f
caused g done said p (BadLine n) is = inl (ap (λ (k : ℕ). BadLine k) is.0, is.1)
caused g done said p (ScopedAddress n) is = inr (inl (ap (λ (k : ℕ). ScopedAddress k) is.0, is.1, is.2))
caused g done said p (DuplicateAddress n) is = inr (inr (inl (ap (λ (k : ℕ). DuplicateAddress k) is.0, is.1)))
caused g done said p (OverlappingIds n) is = inr (inr (inr (ap (λ (k : ℕ). OverlappingIds k) is.0, is.1)))
caused g done said p Usage is = absurd is
caused g done said p ReadFault is = absurd is
caused g done said p WriteFault is = absurd is
caused g done said p (BadConfig cause) is = absurd is
caused g done said p ServeFault is = absurd is
caused g done said p (AuditRefused n why) is = absurd is
caused g done said p Memory is = absurd is

-- no line clashes twice
one_clash : {L S R : Type 0} (g : Grammar L) (reader : Reader L S) (finish : ℕ → S → Result R FarmFault)
    (Keeps : S → List L → Type 0) (F : Follows g reader finish Keeps) (done : List (List ℕ))
    (said : List L) (p : List ℕ) → IsClash g g.duplicate done said p → IsClash g g.overlapping done said p → ⊥
one_clash g reader finish Keeps F done said p a b =
    let same : a.line ≡ b.line = one_value g reader finish Keeps F (text_of p) a.line b.line a.says b.says in
    F.not_both said b.line (subst (g.duplicate said) same a.clash) b.clash

one_cause : {L S R : Type 0} (g : Grammar L) (reader : Reader L S) (finish : ℕ → S → Result R FarmFault)
    (Keeps : S → List L → Type 0) (F : Follows g reader finish Keeps) (done : List (List ℕ))
    (said : List L) (p : List ℕ) (d f : FarmFault) → Caused g done said p d → Caused g done said p f → d ≡ f
one_cause g reader finish Keeps F done said p d f (inl a) (inl b) = a.0 ∙ sym b.0
one_cause g reader finish Keeps F done said p d f (inl a) (inr (inl b)) = absurd (a.1 b.1)
one_cause g reader finish Keeps F done said p d f (inl a) (inr (inr (inl b))) = absurd (a.1 b.1.in_place)
one_cause g reader finish Keeps F done said p d f (inl a) (inr (inr (inr b))) = absurd (a.1 b.1.in_place)
one_cause g reader finish Keeps F done said p d f (inr (inl a)) (inl b) = absurd (b.1 a.1)
one_cause g reader finish Keeps F done said p d f (inr (inl a)) (inr (inl b)) = a.0 ∙ sym b.0
one_cause g reader finish Keeps F done said p d f (inr (inl a)) (inr (inr (inl b))) = absurd (a.2 b.1.line b.1.says)
one_cause g reader finish Keeps F done said p d f (inr (inl a)) (inr (inr (inr b))) = absurd (a.2 b.1.line b.1.says)
one_cause g reader finish Keeps F done said p d f (inr (inr (inl a))) (inl b) = absurd (b.1 a.1.in_place)
one_cause g reader finish Keeps F done said p d f (inr (inr (inl a))) (inr (inl b)) = absurd (b.2 a.1.line a.1.says)
one_cause g reader finish Keeps F done said p d f (inr (inr (inl a))) (inr (inr (inl b))) = a.0 ∙ sym b.0
one_cause g reader finish Keeps F done said p d f (inr (inr (inl a))) (inr (inr (inr b))) =
    absurd (one_clash g reader finish Keeps F done said p a.1 b.1)
one_cause g reader finish Keeps F done said p d f (inr (inr (inr a))) (inl b) = absurd (b.1 a.1.in_place)
one_cause g reader finish Keeps F done said p d f (inr (inr (inr a))) (inr (inl b)) = absurd (b.2 a.1.line a.1.says)
one_cause g reader finish Keeps F done said p d f (inr (inr (inr a))) (inr (inr (inl b))) =
    absurd (one_clash g reader finish Keeps F done said p b.1 a.1)
one_cause g reader finish Keeps F done said p d f (inr (inr (inr a))) (inr (inr (inr b))) = a.0 ∙ sym b.0

one_fault : {L S R : Type 0} (g : Grammar L) (reader : Reader L S) (finish : ℕ → S → Result R FarmFault)
    (Keeps : S → List L → Type 0) (F : Follows g reader finish Keeps) (done : List (List ℕ))
    (said : List L) (p : List ℕ) (d f : FarmFault) → IsFaulty g done said p d → IsFaulty g done said p f → d ≡ f
one_fault g reader finish Keeps F done said p d f a b =
    one_cause g reader finish Keeps F done said p d f (caused g done said p d a) (caused g done said p f b)

fine_uncaused : {L S R : Type 0} (g : Grammar L) (reader : Reader L S) (finish : ℕ → S → Result R FarmFault)
    (Keeps : S → List L → Type 0) (F : Follows g reader finish Keeps) (done : List (List ℕ))
    (said : List L) (p : List ℕ) (l : L) (f : FarmFault) → IsFine g done said p l → Caused g done said p f → ⊥
fine_uncaused g reader finish Keeps F done said p l f fine (inl a) = a.1 fine.in_place
fine_uncaused g reader finish Keeps F done said p l f fine (inr (inl a)) = a.2 l fine.says
fine_uncaused g reader finish Keeps F done said p l f fine (inr (inr (inl a))) =
    let same : a.1.line ≡ l = one_value g reader finish Keeps F (text_of p) a.1.line l a.1.says fine.says in
    fine.first (subst (g.duplicate said) same a.1.clash)
fine_uncaused g reader finish Keeps F done said p l f fine (inr (inr (inr a))) =
    let same : a.1.line ≡ l = one_value g reader finish Keeps F (text_of p) a.1.line l a.1.says fine.says in
    fine.apart (subst (g.overlapping said) same a.1.clash)

fine_faultless : {L S R : Type 0} (g : Grammar L) (reader : Reader L S) (finish : ℕ → S → Result R FarmFault)
    (Keeps : S → List L → Type 0) (F : Follows g reader finish Keeps) (done : List (List ℕ))
    (said : List L) (p : List ℕ) (l : L) (f : FarmFault) → IsFine g done said p l → IsFaulty g done said p f → ⊥
fine_faultless g reader finish Keeps F done said p l f fine is =
    fine_uncaused g reader finish Keeps F done said p l f fine (caused g done said p f is)

-- ---- from the front on

step_sound : {L S R : Type 0} (g : Grammar L) (reader : Reader L S) (finish : ℕ → S → Result R FarmFault)
    (Keeps : S → List L → Type 0) (F : Follows g reader finish Keeps) (done : List (List ℕ))
    (said : List L) (ps : List (List ℕ)) (p : List ℕ) (r : S) (number room : ℕ) (f : FarmFault)
    (o : Result S FarmFault) → IsAt Keeps done said number room r → judged_within (judge_by reader) number room r p ≡ o
    → and_then o (λ s. lines_from (judge_by reader) finish (number + 1) (room - length p) s ps) ≡ Err f
    → ((s : S) (taken : IsTaken g reader done said r p room s)
    → lines_from (judge_by reader) finish (number + 1) (room - length p) s ps ≡ Err f
    → FirstFaultyFrom g (done ++ p ∷ []) (said ++ taken.line ∷ []) ps f)
    → FirstFaultyFrom g done said (p ∷ ps) f
step_sound {L} {S} g reader finish Keeps F done said ps p r number room f (Err d) at is e later =
    let told : judged_within (judge_by reader) number room r p ≡ Err f =
    is ∙ ap (λ (h : FarmFault). fails {A = S} h) (err_is d f e) in
    inl (refused_faulty g reader finish Keeps F done said number room r p f at told)
step_sound g reader finish Keeps F done said ps p r number room f (Ok s) at is e later =
    let taken = read_taken g reader finish Keeps F done said number room r p s at is in
    inr (taken.line, taken.fine, later s taken e)

first_sound : {L S R : Type 0} (g : Grammar L) (reader : Reader L S) (finish : ℕ → S → Result R FarmFault)
    (Keeps : S → List L → Type 0) (F : Follows g reader finish Keeps) (done : List (List ℕ))
    (said : List L) (ps : List (List ℕ)) (r : S) (number room : ℕ) (f : FarmFault)
    → IsAt Keeps done said number room r → lines_from (judge_by reader) finish number room r ps ≡ Err f
    → FirstFaultyFrom g done said ps f
unfolding lines_from
first_sound g reader finish Keeps F done said [] r number room f at e =
    let ended = F.ended r said number f at.keeps e in
    (ended.0, ended.1 ∙ ap (λ (k : ℕ). BadLine k) at.number_is)
first_sound g reader finish Keeps F done said (p ∷ ps) r number room f at e =
    step_sound g reader finish Keeps F done said ps p r number room f (judged_within (judge_by reader) number room r p)
    at refl e
    (λ s taken more. first_sound g reader finish Keeps F (done ++ p ∷ []) (said ++ taken.line ∷ []) ps s (number + 1)
    (room - length p) f (next_at g reader finish Keeps F done said number room r p s at taken) more)

step_complete : {L S R : Type 0} (g : Grammar L) (reader : Reader L S) (finish : ℕ → S → Result R FarmFault)
    (Keeps : S → List L → Type 0) (F : Follows g reader finish Keeps) (done : List (List ℕ))
    (said : List L) (ps : List (List ℕ)) (p : List ℕ) (r : S) (number room : ℕ) (f : FarmFault)
    (o : Result S FarmFault) → IsAt Keeps done said number room r → judged_within (judge_by reader) number room r p ≡ o
    → ((s : S) (taken : IsTaken g reader done said r p room s)
    → FirstFaultyFrom g (done ++ p ∷ []) (said ++ taken.line ∷ []) ps f
    → lines_from (judge_by reader) finish (number + 1) (room - length p) s ps ≡ Err f)
    → FirstFaultyFrom g done said (p ∷ ps) f
    → and_then o (λ s. lines_from (judge_by reader) finish (number + 1) (room - length p) s ps) ≡ Err f
step_complete {L} {S} {R} g reader finish Keeps F done said ps p r number room f (Err d) at is later (inl faulty) =
    ap (λ (h : FarmFault). fails {A = R} h)
    (one_fault g reader finish Keeps F done said p d f
    (refused_faulty g reader finish Keeps F done said number room r p d at is) faulty)
step_complete g reader finish Keeps F done said ps p r number room f (Err d) at is later (inr fine) =
    absurd (fine_faultless g reader finish Keeps F done said p fine.0 d fine.1
    (refused_faulty g reader finish Keeps F done said number room r p d at is))
step_complete g reader finish Keeps F done said ps p r number room f (Ok s) at is later (inl faulty) =
    let taken = read_taken g reader finish Keeps F done said number room r p s at is in
    absurd (fine_faultless g reader finish Keeps F done said p taken.line f taken.fine faulty)
step_complete {L} g reader finish Keeps F done said ps p r number room f (Ok s) at is later (inr fine) =
    let taken = read_taken g reader finish Keeps F done said number room r p s at is in
    let same : fine.0 ≡ taken.line =
    one_value g reader finish Keeps F (text_of p) fine.0 taken.line fine.1.says taken.fine.says in
    later s taken (subst (λ (l : L). FirstFaultyFrom g (done ++ p ∷ []) (said ++ l ∷ []) ps f) same fine.2)

first_complete : {L S R : Type 0} (g : Grammar L) (reader : Reader L S) (finish : ℕ → S → Result R FarmFault)
    (Keeps : S → List L → Type 0) (F : Follows g reader finish Keeps) (done : List (List ℕ))
    (said : List L) (ps : List (List ℕ)) (r : S) (number room : ℕ) (f : FarmFault)
    → IsAt Keeps done said number room r → FirstFaultyFrom g done said ps f
    → lines_from (judge_by reader) finish number room r ps ≡ Err f
unfolding lines_from
first_complete {L} {S} {R} g reader finish Keeps F done said [] r number room f at is =
    F.lacks r said number at.keeps is.0
    ∙ ap (λ (h : FarmFault). fails {A = R} h) (ap (λ (k : ℕ). BadLine k) at.number_is ∙ sym is.1)
first_complete g reader finish Keeps F done said (p ∷ ps) r number room f at is =
    step_complete g reader finish Keeps F done said ps p r number room f
    (judged_within (judge_by reader) number room r p) at refl
    (λ s taken more. first_complete g reader finish Keeps F (done ++ p ∷ []) (said ++ taken.line ∷ []) ps s (number + 1)
    (room - length p) f (next_at g reader finish Keeps F done said number room r p s at taken) more)
    is

at_start : {L S : Type 0} (Keeps : S → List L → Type 0) (r : S) → Keeps r [] → IsAt Keeps [] [] 1 67108864 r
at_start Keeps r keeps = record { keeps = keeps; number_is = refl; room_is = refl }

-- an input is refused with a fault exactly where that is its first faulty line's, with its number
pub first_faulty : {L S R : Type 0} (g : Grammar L) (reader : Reader L S) (finish : ℕ → S → Result R FarmFault)
    (Keeps : S → List L → Type 0) (F : Follows g reader finish Keeps) (start : S)
    → Keeps start [] → (bytes : List ℕ) (f : FarmFault)
    → (lines_in (judge_by reader) finish start bytes ≡ Err f) ↔ IsFirstFaulty g bytes f
first_faulty g reader finish Keeps F start keeps bytes f = (
  λ e. first_sound g reader finish Keeps F [] [] (pieces bytes) start 1 67108864 f (at_start Keeps start keeps) e,
  λ is. first_complete g reader finish Keeps F [] [] (pieces bytes) start 1 67108864 f (at_start Keeps start keeps) is,
)

faulty_names : {L : Type 0} (g : Grammar L) (done : List (List ℕ)) (said : List L) (p : List ℕ) (f : FarmFault)
    → IsFaulty g done said p f → NamesLine f
faulty_names g done said p (BadLine n) is = tt
faulty_names g done said p (ScopedAddress n) is = tt
faulty_names g done said p (DuplicateAddress n) is = tt
faulty_names g done said p (OverlappingIds n) is = tt
faulty_names g done said p other is = absurd is

-- a first faulty line is told by its number
pub faulty_line : {L : Type 0} (g : Grammar L) (done : List (List ℕ)) (said : List L) (ps : List (List ℕ)) (f : FarmFault)
    → FirstFaultyFrom g done said ps f → NamesLine f
faulty_line g done said [] f is = subst NamesLine (sym is.1) tt
faulty_line g done said (p ∷ ps) f (inl is) = faulty_names g done said p f is
faulty_line g done said (p ∷ ps) f (inr is) = faulty_line g (done ++ p ∷ []) (said ++ is.0 ∷ []) ps f is.2

-- ---- what the lines say

-- the lines that are left say the rest
pub record SaysRest {L S R : Type 0} (g : Grammar L) (finish : ℕ → S → Result R FarmFault)
    (Keeps : S → List L → Type 0) (said : List L) (ps : List (List ℕ)) (x : R) : Type 0 where
  pub rest : List L
  pub each : EachLine g.says ps rest
  pub short : EachLine {L = L} (λ t l. length t ≤ 2097152) ps rest
  pub number : ℕ
  pub end : S
  pub keeps : Keeps end (said ++ rest)
  pub finished : finish number end ≡ Ok x

rest_end : {L S R : Type 0} (g : Grammar L) (finish : ℕ → S → Result R FarmFault) (Keeps : S → List L → Type 0)
    (said : List L) (number : ℕ) (r : S) (x : R) → Keeps r said → finish number r ≡ Ok x
    → SaysRest g finish Keeps said [] x
rest_end g finish Keeps said number r x keeps e = record {
  rest = [];
  each = tt;
  short = tt;
  number = number;
  end = r;
  keeps = subst (Keeps r) (sym (append-nil said)) keeps;
  finished = e;
}

rest_step : {L S R : Type 0} (g : Grammar L) (reader : Reader L S) (finish : ℕ → S → Result R FarmFault)
    (Keeps : S → List L → Type 0) (F : Follows g reader finish Keeps) (done : List (List ℕ))
    (said : List L) (number room : ℕ) (r : S) (p : List ℕ) (ps : List (List ℕ)) (x : R) (o : Result S FarmFault)
    → IsAt Keeps done said number room r → judged_within (judge_by reader) number room r p ≡ o
    → and_then o (λ s. lines_from (judge_by reader) finish (number + 1) (room - length p) s ps) ≡ Ok x
    → ((s : S) (taken : IsTaken g reader done said r p room s)
    → lines_from (judge_by reader) finish (number + 1) (room - length p) s ps ≡ Ok x
    → SaysRest g finish Keeps (said ++ taken.line ∷ []) ps x)
    → SaysRest g finish Keeps said (p ∷ ps) x
rest_step g reader finish Keeps F done said number room r p ps x (Err f) at is e later = absurd cc
rest_step g reader finish Keeps F done said number room r p ps x (Ok s) at is e later =
    let taken = read_taken g reader finish Keeps F done said number room r p s at is in
    let more = later s taken e in
    record {
      rest = taken.line ∷ more.rest;
      each = (taken.fine.says, more.each);
      short = (taken.fine.in_place.short, more.short);
      number = more.number;
      end = more.end;
      keeps = subst (Keeps more.end) (append_assoc said (taken.line ∷ []) more.rest) more.keeps;
      finished = more.finished;
    }

rest_from : {L S R : Type 0} (g : Grammar L) (reader : Reader L S) (finish : ℕ → S → Result R FarmFault)
    (Keeps : S → List L → Type 0) (F : Follows g reader finish Keeps) (done : List (List ℕ))
    (said : List L) (number room : ℕ) (r : S) (ps : List (List ℕ)) (x : R) → IsAt Keeps done said number room r
    → lines_from (judge_by reader) finish number room r ps ≡ Ok x → SaysRest g finish Keeps said ps x
unfolding lines_from
rest_from g reader finish Keeps F done said number room r [] x at e =
    rest_end g finish Keeps said number r x at.keeps e
rest_from g reader finish Keeps F done said number room r (p ∷ ps) x at e =
    rest_step g reader finish Keeps F done said number room r p ps x (judged_within (judge_by reader) number room r p)
    at refl e
    (λ s taken more. rest_from g reader finish Keeps F (done ++ p ∷ []) (said ++ taken.line ∷ []) (number + 1)
    (room - length p) s ps x (next_at g reader finish Keeps F done said number room r p s at taken) more)

-- what an input says that was read, and what the reader had at its end
pub says_all : {L S R : Type 0} (g : Grammar L) (reader : Reader L S) (finish : ℕ → S → Result R FarmFault)
    (Keeps : S → List L → Type 0) (F : Follows g reader finish Keeps) (start : S)
    → Keeps start [] → (bytes : List ℕ) (x : R) → lines_in (judge_by reader) finish start bytes ≡ Ok x
    → SaysRest g finish Keeps [] (pieces bytes) x
says_all g reader finish Keeps F start keeps bytes x e =
    rest_from g reader finish Keeps F [] [] 1 67108864 start (pieces bytes) x (at_start Keeps start keeps) e

-- lines say one list of values
pub one_each : {L : Type 0} (says : List ℕ → L → Type 0) → ((t : List ℕ) (k l : L) → says t k → says t l → k ≡ l)
    → (ps : List (List ℕ)) (ks ls : List L) → EachLine says ps ks → EachLine says ps ls → ks ≡ ls
one_each says one [] [] [] p q = refl
one_each {L} says one (t ∷ ts) (k ∷ ks) (l ∷ ls) p q =
    ap (λ (x : L). x ∷ ks) (one (text_of t) k l p.0 q.0) ∙ ap (λ (xs : List L). l ∷ xs)
    (one_each says one ts ks ls p.1 q.1)
one_each says one [] (k ∷ ks) ls p q = absurd p
one_each says one [] [] (l ∷ ls) p q = absurd q
one_each says one (t ∷ ts) [] ls p q = absurd p
one_each says one (t ∷ ts) (k ∷ ks) [] p q = absurd q

fine_where : {L S R : Type 0} (g : Grammar L) (reader : Reader L S) (finish : ℕ → S → Result R FarmFault)
    (Keeps : S → List L → Type 0) (F : Follows g reader finish Keeps) (start : S)
    → Keeps start [] → (bytes : List ℕ) (x : R) → lines_in (judge_by reader) finish start bytes ≡ Ok x
    → IsFaultless g bytes
fine_where {L} {S} {R} g reader finish Keeps F start keeps bytes x e f first =
    let other : lines_in (judge_by reader) finish start bytes ≡ fails {A = R} f =
    (first_faulty g reader finish Keeps F start keeps bytes f).1 first in
    let clash : Ok x ≡ fails {A = R} f = sym e ∙ other in
    absurd cc

read_where : {L S R : Type 0} (g : Grammar L) (reader : Reader L S) (finish : ℕ → S → Result R FarmFault)
    (Keeps : S → List L → Type 0) (F : Follows g reader finish Keeps) (start : S)
    → Keeps start [] → (Says : List ℕ → R → Type 0)
    → ((bytes : List ℕ) (x : R) → lines_in (judge_by reader) finish start bytes ≡ Ok x → Says bytes x)
    → ((bytes : List ℕ) (x y : R) → Says bytes x → Says bytes y → x ≡ y) → (bytes : List ℕ) (x : R)
    (total : Result R FarmFault) → lines_in (judge_by reader) finish start bytes ≡ total → IsFaultless g bytes
    → Says bytes x → lines_in (judge_by reader) finish start bytes ≡ Ok x
read_where g reader finish Keeps F start keeps Says says one bytes x (Err f) is none said =
    absurd (none f ((first_faulty g reader finish Keeps F start keeps bytes f).0 is))
read_where {L} {S} {R} g reader finish Keeps F start keeps Says says one bytes x (Ok y) is none said =
    is ∙ ap (λ (z : R). Ok z) (one bytes y x (says bytes y is) said)

-- an input is read as what it says exactly where no line of it is faulty
pub is_said : {L S R : Type 0} (g : Grammar L) (reader : Reader L S) (finish : ℕ → S → Result R FarmFault)
    (Keeps : S → List L → Type 0) (F : Follows g reader finish Keeps) (start : S)
    → Keeps start [] → (Says : List ℕ → R → Type 0)
    → ((bytes : List ℕ) (x : R) → lines_in (judge_by reader) finish start bytes ≡ Ok x → Says bytes x)
    → ((bytes : List ℕ) (x y : R) → Says bytes x → Says bytes y → x ≡ y) → (bytes : List ℕ) (x : R)
    → (lines_in (judge_by reader) finish start bytes ≡ Ok x) ↔ (IsFaultless g bytes × Says bytes x)
is_said g reader finish Keeps F start keeps Says says one bytes x = (
  λ e. (fine_where g reader finish Keeps F start keeps bytes x e, says bytes x e),
  λ p. read_where g reader finish Keeps F start keeps Says says one bytes x
      (lines_in (judge_by reader) finish start bytes) refl p.0 p.1,
)

-- ---- an input of which enough was read

-- what was read says what the input says
enough : {S R : Type 0} (judge : Judge S) (finish : ℕ → S → Result R FarmFault) (start : S) (v : List ℕ)
    (content : Option (List ℕ)) → IsEnough v content
    → IfSome content (λ bytes. lines_in judge finish start v ≡ lines_in judge finish start bytes)
enough judge finish start v content is = read_enough judge finish start v content is.0 is.1 is.2

-- its first faulty line is that of the input
pub refused_enough : {L S R : Type 0} (g : Grammar L) (reader : Reader L S) (finish : ℕ → S → Result R FarmFault)
    (Keeps : S → List L → Type 0) (F : Follows g reader finish Keeps) (start : S)
    → Keeps start [] → (f : FarmFault) (v : List ℕ) (content : Option (List ℕ)) → IsEnough v content
    → (f ≡ Memory) ⊎ IsFirstFaulty g v f
    → (f ≡ Memory) ⊎ (NamesLine f × IfSome content (λ bytes. IsFirstFaulty g bytes f)
    × ((bytes : List ℕ) × IsFirstFaulty g bytes f))
refused_enough g reader finish Keeps F start keeps f v content is (inl e) = inl e
refused_enough g reader finish Keeps F start keeps f v content is (inr first) = inr (
  faulty_line g [] [] (pieces v) f first,
  IfSome_then content (enough (judge_by reader) finish start v content is)
      (λ bytes e. (first_faulty g reader finish Keeps F start keeps bytes f).0
      (sym e ∙ (first_faulty g reader finish Keeps F start keeps v f).1 first)),
  (v, first),
)

-- what was read of it is what the input says, of which no line is faulty
pub fine_enough : {L S R : Type 0} (g : Grammar L) (reader : Reader L S) (finish : ℕ → S → Result R FarmFault)
    (Keeps : S → List L → Type 0) (F : Follows g reader finish Keeps) (start : S)
    → Keeps start [] → (x : R) (v : List ℕ) (content : Option (List ℕ)) → IsEnough v content
    → lines_in (judge_by reader) finish start v ≡ Ok x
    → IfSome content (λ bytes. IsFaultless g bytes × (lines_in (judge_by reader) finish start bytes ≡ Ok x))
fine_enough g reader finish Keeps F start keeps x v content is e =
    IfSome_then content (enough (judge_by reader) finish start v content is)
    (λ bytes same. (fine_where g reader finish Keeps F start keeps bytes x (sym same ∙ e), sym same ∙ e))

-- ---- what a reader answers

tells_then : {A B : Type 0} (f : FarmFault) (a : Result A FarmFault) (b : Result B FarmFault)
    → (a ≡ Err f → b ≡ Err f) → IsScriptFault f a → IsScriptFault f b
tells_then Memory a b h e = tt
tells_then other a b h e = h e

-- a line that was refused, as a loop tells it
pub line_fault : {S R : Type 0} (judge : Judge S) (finish : ℕ → S → Result R FarmFault) (f : FarmFault)
    (number room : ℕ) (r : S) (bs front back : List ℕ) (n : ℕ) (total : Result R FarmFault) → 0 < length bs
    → n ≡ piece_len bs → front ≡ take n bs → back ≡ drop n bs
    → IsScriptFault f (judged_within judge number room r front)
    → lines_from judge finish number room r (pieces bs) ≡ total → IsScriptFault f total
line_fault judge finish f number room r bs front back n total some is front-is back-is e so_far =
    tells_then f (judged_within judge number room r front) total
    (λ is_err. line_stop judge finish number room r bs front back n total f some is front-is back-is so_far is_err)
    e

-- what is told is the fault that reading gives, unless memory ran out
told : {B : Type 0} (f : FarmFault) (b : Result B FarmFault) → IsScriptFault f b → (f ≡ Memory) ⊎ (b ≡ Err f)
told Memory b e = inl refl
told other b e = inr e

pub told_faulty : {L S R : Type 0} (g : Grammar L) (reader : Reader L S) (finish : ℕ → S → Result R FarmFault)
    (Keeps : S → List L → Type 0) (F : Follows g reader finish Keeps) (start : S)
    → Keeps start [] → (f : FarmFault) (bytes : List ℕ)
    → IsScriptFault f (lines_in (judge_by reader) finish start bytes) → (f ≡ Memory) ⊎ IsFirstFaulty g bytes f
told_faulty g reader finish Keeps F start keeps f bytes e =
    elim (told f (lines_in (judge_by reader) finish start bytes) e) [
      | inl m ↦ inl m
      | inr is ↦ inr ((first_faulty g reader finish Keeps F start keeps bytes f).0 is)
    ]

pub read_faulty : {L S R : Type 0} (g : Grammar L) (reader : Reader L S) (finish : ℕ → S → Result R FarmFault)
    (Keeps : S → List L → Type 0) (F : Follows g reader finish Keeps) (start : S)
    → Keeps start [] → {X : Type 0} (view : X → R) (result : Result X FarmFault) (bytes : List ℕ)
    → IsScriptAnswer view result (lines_in (judge_by reader) finish start bytes)
    → IfErr result (λ f. (f ≡ Memory) ⊎ IsFirstFaulty g bytes f)
read_faulty g reader finish Keeps F start keeps view (Ok x) bytes e = tt
read_faulty g reader finish Keeps F start keeps view (Err f) bytes e =
    told_faulty g reader finish Keeps F start keeps f bytes e

-- what holds of all that is read holds of what a reader returned
pub read_all : {X R : Type 0} (P : R → Type 0) (view : X → R) (result : Result X FarmFault) (total : Result R FarmFault)
    → ((x : R) → total ≡ Ok x → P x) → IsScriptAnswer view result total → IfOk result (λ x. P (view x))
read_all P view (Ok x) total h e = h (view x) e
read_all P view (Err f) total h e = tt
