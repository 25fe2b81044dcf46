-- What a line says is spelled so, and what is spelled so is said.
use Rattle.std.proofs.Common.{◌≡◌, ℕ, ◌*◌, ◌%◌, ◌==◌, ◌⊎◌, Ok, Err, Bool, true, false, cond, List, [], ◌∷◌, ◌++◌, length, map, Option, Some}
use Rattle.std.proofs.Common.{None, codes, refl, sym, ap, subst, ◌∙◌, inl, inr, arith, nat_eq, ◌<◌, ◌^◌, ◌≤◌}
use Rattle.std.specs.Char.{is_ascii_hexdigit, to_ascii_lowercase}
use Rattle.std.specs.List.{list_all}
use Rattle.std.specs.Cmp.Lexicographic.{pointwise}
use Rattle.std.specs.Fmt.{decimal}
use Rattle.std.proofs.lemmas.Bool.{eqb-true, and_parts}
use Rattle.std.proofs.lemmas.Bool.Decides.{nat_tests}
use Rattle.std.proofs.lemmas.Option.{same_Some, cond_some}
use Rattle.std.proofs.lemmas.Slice.Eq.{bytes_eq-Decides}
use Rattle.hex.specs.Hex.{decode_of, decode_pairs}
use Rattle.hex.specs.declared.error.FromHexError.TheVariants.{OddLength}
use Rattle.hex.proofs.HexLemmas.{decode_pairs-ok}
use Rattle.dist_types.specs.Addr.{◌>>=◌}
use Rattle.dist_types.specs.Toolchain.{is_digest, digest_in}
use Rattle.dist_types.proofs.AddrLemmas.{bind_some}
use Rattle.line_program.specs.Texts.{◌⧺◌}
use Rattle.farm_script.specs.Words.{first_word, strip, last, behind, is_visible}
use Rattle.farm_script.specs.Fields.{number_at, hex_at}
use Rattle.farm_script.specs.Lines.{is_skipped}
use Rattle.farm_script.specs.Grammar.{IsNumber, IsHex}
use Rattle.farm_script.proofs.VisibleLemmas.{both}
use Rattle.farm_script.proofs.WordLemmas.{IsReader, bind_is, visible_lacks, first_word_sound, first_word_complete}
use Rattle.farm_script.proofs.WordLemmas.{last_sound, last_complete, behind_is, behind_cases}
use Rattle.line_program.proofs.FirstFaultyLemmas.{choice}
use Rattle.farm_script.proofs.FieldLemmas.{number_law, hex_law}
use Rattle.mirror_script.specs.Line.{id_at, capacity_at, put_at, line_behind, said_at, line_at}
use Rattle.mirror_script.specs.Script.{IsShort}
use Rattle.mirror_script.specs.Grammar.{site_text, IsId, IsStepLine, Spells}
use Rattle.mirror_script.specs.declared.line.Site.{Site}
use Rattle.mirror_script.specs.declared.line.Site.TheVariants.{Near, Far}
use Rattle.mirror_script.specs.declared.line.Step.{Step}
use Rattle.mirror_script.specs.declared.line.Step.TheVariants.{Put, Get, Lose, Lie}
use Rattle.mirror_script.specs.declared.line.Line.{Line}
use Rattle.mirror_script.specs.declared.line.Line.TheVariants as lines

-- ---- ids

one_visible : (b : ℕ) → is_ascii_hexdigit b ≡ true → is_visible b ≡ true
one_visible b e = grind (arith, nat_tests)

hex_visible : (t : List ℕ) → list_all is_ascii_hexdigit t ≡ true → list_all is_visible t ≡ true
hex_visible [] e = refl
hex_visible (b ∷ bs) e =
    let p = both (is_ascii_hexdigit b) (list_all is_ascii_hexdigit bs) e in
    rw (one_visible b p.0, hex_visible bs p.1) refl

digest_visible : (t : List ℕ) → is_digest t ≡ true → list_all is_visible t ≡ true
digest_visible t e = hex_visible t (both (nat_eq (length t) 64) (list_all is_ascii_hexdigit t) e).1

id_sound : (t id : List ℕ) → id_at t ≡ Some id → IsId t id
unfolding digest_in
id_sound t id e =
    let p = choice (list_all is_visible t) (digest_in t) None (Some id) e in
    elim p [
      | inl on ↦
          let q = cond_some (is_digest t) (map to_ascii_lowercase t) id on.1 in
          (q.0, sym q.1)
      | inr off ↦ let clash : None ≡ Some id = off.1 in absurd cc
    ]

id_complete : (t id : List ℕ) → IsId t id → id_at t ≡ Some id
unfolding digest_in
id_complete t id is = rw (digest_visible t is.0, is.0, is.1) refl

pub id_law : IsReader id_at IsId
id_law = record { sound = id_sound; complete = id_complete }

-- ---- what is done

put_sound : (t : List ℕ) (s : Step) → put_at t ≡ Some s → IsStepLine (codes "put " ++ t) s
unfolding put_at
put_sound t s e = elim (behind_cases (codes "near ") t (λ r. hex_at r >>= λ bytes. Some (Put Near bytes))
    (last (codes "far ") hex_at t >>= λ bytes. Some (Put Far bytes)) (strip (codes "near ") t) s refl e) [
      | inl p ↦
          let b = bind_some (hex_at p.0) _ s p.2 in
          let is : IsStepLine (codes "put " ++ t) (Put Near b.0) =
          (p.0, hex_law.sound p.0 b.0 b.1, ap (λ (x : List ℕ). codes "put " ++ x) p.1) in
          subst (IsStepLine (codes "put " ++ t)) (same_Some (Put Near b.0) s b.2) is
      | inr e2 ↦
          let b = bind_some (last (codes "far ") hex_at t) _ s e2 in
          let f = last_sound (codes "far ") hex_at IsHex hex_law t b.0 b.1 in
          let is : IsStepLine (codes "put " ++ t) (Put Far b.0) =
          (f.0, f.1, ap (λ (x : List ℕ). codes "put " ++ x) f.2) in
          subst (IsStepLine (codes "put " ++ t)) (same_Some (Put Far b.0) s b.2) is
    ]

put_complete : (hex : List ℕ) (site : Site) (bytes : List ℕ) → IsHex hex bytes
    → put_at (site_text site ⧺ codes " " ⧺ hex) ≡ Some (Put site bytes)
unfolding put_at
put_complete hex Near bytes is =
    behind_is (codes "near ") hex (λ r. hex_at r >>= λ bytes. Some (Put Near bytes))
    (last (codes "far ") hex_at (codes "near " ++ hex) >>= λ bytes. Some (Put Far bytes))
    ∙ bind_is (hex_at hex) (λ x. Some (Put Near x)) bytes (Some (Put Near bytes))
    (hex_law.complete hex bytes is) refl
put_complete hex Far bytes is =
    bind_is _ _ _ _ (last_complete (codes "far ") hex_at IsHex hex_law hex bytes is) refl

-- ---- which line it is

-- a word of the grammar, and what is said behind it
said_behind : (p word t : List ℕ) (l : Line) → pointwise nat_eq word p ≡ true
    → Spells (p ++ 32 ∷ t) l → Spells (word ++ 32 ∷ t) l
said_behind p word t l same is = subst (λ (w : List ℕ). Spells (w ++ 32 ∷ t) l)
    (sym ((bytes_eq-Decides word p).0 same)) is

capacity_sound : (site : Site) (t : List ℕ) (l : Line) → capacity_at site t ≡ Some l
    → Spells (site_text site ++ 32 ∷ t) l
capacity_sound site t l e =
    let a = bind_some (number_at t) _ l e in
    let is = number_law.sound t a.0 a.1 in
    let made : Spells (site_text site ++ 32 ∷ t) (lines.Capacity site a.0) =
    (is.1, ap (λ (x : List ℕ). site_text site ++ 32 ∷ x) is.0) in
    subst (Spells (site_text site ++ 32 ∷ t)) (same_Some (lines.Capacity site a.0) l a.2) made

behind_sound : (word t : List ℕ) (l : Line) → line_behind word t ≡ Some l → Spells (word ++ 32 ∷ t) l
behind_sound word t l e =
    let lies : Option Line = cond (pointwise nat_eq word (codes "lie"))
    (hex_at t >>= λ body. Some (lines.Step (Lie body))) None in
    let gets : Option Line = cond (pointwise nat_eq word (codes "get"))
    (id_at t >>= λ tc. Some (lines.Step (Get tc))) lies in
    let puts : Option Line = cond (pointwise nat_eq word (codes "put"))
    (put_at t >>= λ s. Some (lines.Step s)) gets in
    let fars : Option Line = cond (pointwise nat_eq word (codes "far")) (capacity_at Far t) puts in
    elim (choice (pointwise nat_eq word (codes "near")) (capacity_at Near t) fars (Some l) e) [
      | inl p ↦ said_behind (codes "near") word t l p.0 (capacity_sound Near t l p.1)
      | inr e2 ↦ elim (choice (pointwise nat_eq word (codes "far")) (capacity_at Far t) puts (Some l) e2.1) [
        | inl p ↦ said_behind (codes "far") word t l p.0 (capacity_sound Far t l p.1)
        | inr e3 ↦ elim (choice (pointwise nat_eq word (codes "put"))
            (put_at t >>= λ s. Some (lines.Step s)) gets (Some l) e3.1) [
              | inl p ↦
                  let a = bind_some (put_at t) _ l p.1 in
                  let is : Spells (codes "put" ++ 32 ∷ t) (lines.Step a.0) = put_sound t a.0 a.1 in
                  said_behind (codes "put") word t l p.0
                  (subst (Spells (codes "put" ++ 32 ∷ t)) (same_Some (lines.Step a.0) l a.2) is)
              | inr e4 ↦ elim (choice (pointwise nat_eq word (codes "get"))
                  (id_at t >>= λ tc. Some (lines.Step (Get tc))) lies (Some l) e4.1) [
                    | inl p ↦
                        let a = bind_some (id_at t) _ l p.1 in
                        let is : Spells (codes "get" ++ 32 ∷ t) (lines.Step (Get a.0)) =
                        (t, id_sound t a.0 a.1, refl) in
                        said_behind (codes "get") word t l p.0
                        (subst (Spells (codes "get" ++ 32 ∷ t)) (same_Some (lines.Step (Get a.0)) l a.2) is)
                    | inr e5 ↦ elim (choice (pointwise nat_eq word (codes "lie"))
                        (hex_at t >>= λ body. Some (lines.Step (Lie body))) None (Some l) e5.1) [
                          | inl p ↦
                              let a = bind_some (hex_at t) _ l p.1 in
                              let is : Spells (codes "lie" ++ 32 ∷ t) (lines.Step (Lie a.0)) =
                              (t, hex_law.sound t a.0 a.1, refl) in
                              said_behind (codes "lie") word t l p.0
                              (subst (Spells (codes "lie" ++ 32 ∷ t))
                              (same_Some (lines.Step (Lie a.0)) l a.2) is)
                          | inr none ↦ let clash : None ≡ Some l = none.1 in absurd cc
                        ]
                  ]
            ]
      ]
    ]

said_sound : (t : List ℕ) (l : Line) → said_at t ≡ Some l → Spells t l
unfolding said_at
said_sound t l e =
    elim (choice (pointwise nat_eq t (codes "lose")) (Some (lines.Step Lose))
    (first_word t >>= λ w. line_behind w.0 w.1) (Some l) e) [
      | inl p ↦ subst (Spells t) (same_Some (lines.Step Lose) l p.1) ((bytes_eq-Decides t (codes "lose")).0 p.0)
      | inr p ↦
          let a = bind_some (first_word t) _ l p.1 in
          subst (λ (x : List ℕ). Spells x l) (sym (first_word_sound t a.0.0 a.0.1 a.1))
          (behind_sound a.0.0 a.0.1 l a.2)
    ]

skipped_is : (t : List ℕ) → is_skipped t ≡ true → (t ≡ []) ⊎ ((rest : List ℕ) × (t ≡ codes "#" ++ rest))
skipped_is [] e = inl refl
skipped_is (c ∷ cs) e = inr (cs, ap (λ (x : ℕ). x ∷ cs) (eqb-true c 35 e))

pub line_sound : (t : List ℕ) (l : Line) → line_at t ≡ Some l → Spells t l
unfolding line_at
line_sound t l e = elim (choice (is_skipped t) (Some lines.Skip) (said_at t) (Some l) e) [
  | inl p ↦ subst (Spells t) (same_Some lines.Skip l p.1) (skipped_is t p.0)
  | inr p ↦ said_sound t l p.1
]

-- a line that begins with a word

near_first : (r : List ℕ) → line_at (codes "near" ++ 32 ∷ r) ≡ capacity_at Near r
unfolding line_at said_at
near_first r = bind_is (first_word (codes "near" ++ 32 ∷ r)) (λ w. line_behind w.0 w.1) (codes "near", r) _
    (first_word_complete (codes "near") r (visible_lacks (codes "near") refl)) refl

far_first : (r : List ℕ) → line_at (codes "far" ++ 32 ∷ r) ≡ capacity_at Far r
unfolding line_at said_at
far_first r = bind_is (first_word (codes "far" ++ 32 ∷ r)) (λ w. line_behind w.0 w.1) (codes "far", r) _
    (first_word_complete (codes "far") r (visible_lacks (codes "far") refl)) refl

put_first : (r : List ℕ) → line_at (codes "put" ++ 32 ∷ r) ≡ (put_at r >>= λ s. Some (lines.Step s))
unfolding line_at said_at
put_first r = bind_is (first_word (codes "put" ++ 32 ∷ r)) (λ w. line_behind w.0 w.1) (codes "put", r) _
    (first_word_complete (codes "put") r (visible_lacks (codes "put") refl)) refl

get_first : (r : List ℕ) → line_at (codes "get" ++ 32 ∷ r) ≡ (id_at r >>= λ tc. Some (lines.Step (Get tc)))
unfolding line_at said_at
get_first r = bind_is (first_word (codes "get" ++ 32 ∷ r)) (λ w. line_behind w.0 w.1) (codes "get", r) _
    (first_word_complete (codes "get") r (visible_lacks (codes "get") refl)) refl

lie_first : (r : List ℕ) → line_at (codes "lie" ++ 32 ∷ r) ≡ (hex_at r >>= λ body. Some (lines.Step (Lie body)))
unfolding line_at said_at
lie_first r = bind_is (first_word (codes "lie" ++ 32 ∷ r)) (λ w. line_behind w.0 w.1) (codes "lie", r) _
    (first_word_complete (codes "lie") r (visible_lacks (codes "lie") refl)) refl

lose_whole : line_at (codes "lose") ≡ Some (lines.Step Lose)
unfolding line_at said_at
lose_whole = refl

number_is : (n : ℕ) → n < 2 ^ 64 → number_at (decimal n) ≡ Some n
number_is n fits = number_law.complete (decimal n) n (refl, fits)

skip_none : line_at [] ≡ Some lines.Skip
unfolding line_at
skip_none = refl

skip_mark : (rest : List ℕ) → line_at (codes "#" ++ rest) ≡ Some lines.Skip
unfolding line_at
skip_mark rest = refl

pub line_complete : (t : List ℕ) (l : Line) → Spells t l → line_at t ≡ Some l
line_complete t lines.Skip (inl e) = ap line_at e ∙ skip_none
line_complete t lines.Skip (inr p) = ap line_at p.1 ∙ skip_mark p.0
line_complete t (lines.Capacity Near n) is = ap line_at is.1 ∙ near_first (decimal n)
    ∙ bind_is (number_at (decimal n)) (λ x. Some (lines.Capacity Near x)) n (Some (lines.Capacity Near n))
    (number_is n is.0) refl
line_complete t (lines.Capacity Far n) is = ap line_at is.1 ∙ far_first (decimal n)
    ∙ bind_is (number_at (decimal n)) (λ x. Some (lines.Capacity Far x)) n (Some (lines.Capacity Far n))
    (number_is n is.0) refl
line_complete t (lines.Step (Put site bytes)) is = ap line_at is.2
    ∙ put_first (site_text site ⧺ codes " " ⧺ is.0)
    ∙ bind_is (put_at (site_text site ⧺ codes " " ⧺ is.0)) (λ x. Some (lines.Step x)) (Put site bytes)
    (Some (lines.Step (Put site bytes))) (put_complete is.0 site bytes is.1) refl
line_complete t (lines.Step (Get id)) is = ap line_at is.2 ∙ get_first is.0
    ∙ bind_is (id_at is.0) (λ x. Some (lines.Step (Get x))) id (Some (lines.Step (Get id)))
    (id_complete is.0 id is.1) refl
line_complete t (lines.Step Lose) is = ap line_at is ∙ lose_whole
line_complete t (lines.Step (Lie body)) is = ap line_at is.2 ∙ lie_first is.0
    ∙ bind_is (hex_at is.0) (λ x. Some (lines.Step (Lie x))) body (Some (lines.Step (Lie body)))
    (hex_law.complete is.0 body is.1) refl

pub one_value : (t : List ℕ) (k l : Line) → Spells t k → Spells t l → k ≡ l
one_value t k l p q = same_Some k l (sym (line_complete t k p) ∙ line_complete t l q)

-- ---- how long the bytes of a step are

hex_short : (t bytes : List ℕ) → IsHex t bytes → 2 * length bytes ≤ length t
hex_short t bytes (inl p) = omega (arith, ap (λ (x : List ℕ). length x) p.1)
hex_short t bytes (inr p) =
    elim (choice (length t % 2 == 1) (Err OddLength) (decode_pairs 0 t) (Ok bytes) p.1) [
      | inl q ↦ let clash : Err OddLength ≡ Ok bytes = q.1 in absurd cc
      | inr q ↦ let is = (decode_pairs-ok 0 t bytes q.1).1 in omega (arith, is)
    ]

pub step_short : (t : List ℕ) (s : Step) → IsStepLine t s → length t ≤ 2097152 → IsShort s
step_short t (Put Near bytes) is most =
    omega (arith, ap (λ (x : List ℕ). length x) is.2, hex_short is.0 bytes is.1, most)
step_short t (Put Far bytes) is most =
    omega (arith, ap (λ (x : List ℕ). length x) is.2, hex_short is.0 bytes is.1, most)
step_short t (Get id) is most = tt
step_short t Lose is most = tt
step_short t (Lie body) is most =
    omega (arith, ap (λ (x : List ℕ). length x) is.2, hex_short is.0 body is.1, most)
