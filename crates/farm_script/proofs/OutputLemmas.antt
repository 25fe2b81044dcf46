-- Outputs, read one after the other.
use Rattle.std.proofs.Common.{◌≡◌, ℕ, ◌+◌, ◌<◌, ◌≤◌, ◌==◌, Bool, true, false, cond, List, [], ◌∷◌, ◌++◌}
use Rattle.std.proofs.Common.{length, take, drop, Option, Some, None, refl, sym, ap, subst, ◌∙◌, append_assoc}
use Rattle.std.proofs.Common.{append-nil, arith}
use Rattle.std.specs.List.{position, onto_first}
use Rattle.std.proofs.lemmas.Bool.{eqb-true}
use Rattle.std.proofs.lemmas.Option.{same_Some}
use Rattle.std.specs.Option.{option_map}
use Rattle.std.proofs.lemmas.List.{length-append, length-drop}
use Rattle.std.proofs.lemmas.List.Quantifiers.{position-Some}
use Rattle.dist_types.specs.Addr.{◌>>=◌}
use Rattle.dist_types.proofs.AddrLemmas.{bind_some}
use Rattle.line_program.specs.declared.fault.LineFault.{LineFault}
use Rattle.line_program.specs.declared.fault.LineFault.TheVariants as faults
use Rattle.farm_script.specs.Reading.{Fails}
use Rattle.farm_script.specs.Words.{first_word, words, parted, next_word}
use Rattle.farm_script.specs.Fields.{hex_at, name_at}
use Rattle.farm_script.specs.Lines.{output_at, outputs_at, outputs_behind}
use Rattle.farm_script.specs.Grammar.{AreOutputs}
use Rattle.farm_script.proofs.FieldLemmas.{name_law, hex_law, name_lacks, hex_lacks}
use Rattle.farm_script.proofs.WordLemmas.{Lacks, bind_is, words_end, words_at, none_lacks, some_lacks}
use Rattle.farm_script.proofs.WordLemmas.{first_place, first_word_sound, spaced}

-- an output, as it is seen
abbrev pub Output : Type 0
Output = List ℕ × List ℕ

-- those that were read, before what is left
abbrev pub put_before : {A : Type 0} → List A → Option (List A) → Option (List A)
put_before xs o = option_map (λ ys. xs ++ ys) o

-- how much is left
abbrev pub room_of : Option (List ℕ) → ℕ
room_of None = 0
room_of (Some t) = length t + 1

-- the words behind a space, where there is one
abbrev words_behind : Option (List ℕ) → List (List ℕ)
words_behind None = []
words_behind (Some t) = words t

words_cut : (t : List ℕ) (o : Option ℕ) → position (λ b. b == 32) t ≡ o
    → words t ≡ (parted t o).0 ∷ words_behind (parted t o).1
words_cut t None e = words_end t (none_lacks t e)
words_cut t (Some i) e =
    let whole : t ≡ take i t ++ 32 ∷ drop (i + 1) t = first_place t (take i t) (drop (i + 1) t)
    (Some i) e refl in
    ap words whole ∙ words_at (take i t) (drop (i + 1) t) (some_lacks t i e)

behind_words : (o : Option (List ℕ)) → outputs_at (words_behind o) ≡ outputs_behind o
unfolding outputs_at
behind_words None = refl
behind_words (Some t) = refl

grouped : (name bytes : Option (List ℕ)) (rest : Option (List ℕ))
    → (name >>= λ n. bytes >>= λ b. outputs_behind rest >>= λ os. Some ((n, b) ∷ os))
    ≡ ((name >>= λ n. bytes >>= λ b. Some ((n, b), rest)) >>= λ (x : Output × Option (List ℕ)). outputs_behind
    x.1 >>= λ os. Some (x.0 ∷ os))
grouped None bytes rest = refl
grouped (Some n) None rest = refl
grouped (Some n) (Some b) rest = refl

pair_first : (w v : List ℕ) (rest : Option (List ℕ)) → outputs_at (w ∷ v ∷ words_behind rest)
    ≡ ((name_at w >>= λ n. hex_at v >>= λ b. Some ((n, b), rest)) >>= λ
    (x : Output × Option (List ℕ)). outputs_behind x.1 >>= λ os. Some (x.0 ∷ os))
unfolding outputs_at
pair_first w v rest =
    ap (λ (o : Option (List Output)). name_at w >>= λ n. hex_at v >>= λ b. o >>= λ os. Some ((n, b) ∷ os))
    (behind_words rest)
    ∙ grouped (name_at w) (hex_at v) rest

first_from : (t : List ℕ) (o : Option ℕ) → position (λ b. b == 32) t ≡ o
    → outputs_at (words t) ≡ (output_at t >>= λ (x : Output × Option (List ℕ)). outputs_behind x.1 >>= λ os.
    Some (x.0 ∷ os))
unfolding outputs_at output_at
first_from t None e =
    ap outputs_at (words_cut t None e)
    ∙ sym (ap (λ (o : Option ℕ).
    (option_map {U = List ℕ × List ℕ} (λ i. (take i t, drop (i + 1) t)) o >>= λ word.
    name_at word.0 >>= λ n. hex_at (next_word word.1).0 >>= λ b. Some ((n, b), (next_word word.1).1))
    >>= λ (x : Output × Option (List ℕ)). outputs_behind x.1 >>= λ os. Some (x.0 ∷ os)) e)
first_from t (Some i) e =
    let rest : List ℕ = drop (i + 1) t in
    ap outputs_at (words_cut t (Some i) e)
    ∙ ap (λ (ws : List (List ℕ)). outputs_at (take i t ∷ ws))
    (words_cut rest (position (λ b. b == 32) rest) refl)
    ∙ pair_first (take i t) (next_word rest).0 (next_word rest).1
    ∙ sym (ap (λ (o : Option ℕ).
    (option_map {U = List ℕ × List ℕ} (λ i. (take i t, drop (i + 1) t)) o >>= λ word.
    name_at word.0 >>= λ n. hex_at (next_word word.1).0 >>= λ b. Some ((n, b), (next_word word.1).1))
    >>= λ (x : Output × Option (List ℕ)). outputs_behind x.1 >>= λ os. Some (x.0 ∷ os)) e)

pub outputs_first : (t : List ℕ)
    → outputs_behind (Some t) ≡
    (output_at t >>= λ (x : Output × Option (List ℕ)). outputs_behind x.1 >>= λ os. Some (x.0 ∷ os))
outputs_first t = first_from t (position (λ b. b == 32) t) refl

pushed : (xs : List Output) (x : Output) (o : Option (List Output))
    → put_before xs (o >>= λ os. Some (x ∷ os)) ≡ put_before (xs ++ x ∷ []) o
pushed xs x None = refl
pushed xs x (Some os) = ap (λ (ys : List Output). Some ys) (sym (append_assoc xs (x ∷ []) os))

-- a loop over the outputs
pub outputs_step : (t : List ℕ) (xs : List Output) (x : Output) (rest : Option (List ℕ))
    (total : Option (List Output)) → output_at t ≡ Some (x, rest)
    → put_before xs (outputs_behind (Some t)) ≡ total
    → put_before (xs ++ x ∷ []) (outputs_behind rest) ≡ total
outputs_step t xs x rest total e so_far =
    sym (pushed xs x (outputs_behind rest))
    ∙ sym (ap (put_before xs)
    (outputs_first t ∙ ap (λ (o : Option (Output × Option (List ℕ))). o >>= λ
    (y : Output × Option (List ℕ)). outputs_behind y.1 >>= λ os. Some (y.0 ∷ os)) e))
    ∙ so_far

pub outputs_stop : (fault : LineFault) (t : List ℕ) (xs : List Output) (total : Option (List Output))
    → Fails fault (output_at t)
    → put_before xs (outputs_behind (Some t)) ≡ total → Fails fault total
outputs_stop faults.Memory t xs total e so_far = tt
outputs_stop faults.Bad t xs total e so_far =
    sym so_far ∙ ap (put_before xs)
    (outputs_first t ∙ ap (λ (o : Option (Output × Option (List ℕ))). o >>= λ
    (y : Output × Option (List ℕ)). outputs_behind y.1 >>= λ os. Some (y.0 ∷ os)) e)

parted_room : (t : List ℕ) (o : Option ℕ) → position (λ b. b == 32) t ≡ o → room_of (parted t o).1 ≤ length t
parted_room t None e = omega arith
parted_room t (Some i) e =
    let at = position-Some (λ b. b == 32) t i 0 e in
    omega (arith, length-drop (i + 1) t, at.0)

-- what is left behind
abbrev rest_in : Option (List ℕ) → Option (Output × Option (List ℕ)) → Option (List ℕ)
rest_in d None = d
rest_in d (Some y) = y.1

pub output_room : (t : List ℕ) (x : Output) (rest : Option (List ℕ)) → output_at t ≡ Some (x, rest)
    → room_of rest < room_of (Some t)
unfolding output_at
output_room t x rest e =
    let a = bind_some (first_word t) _ (x, rest) e in
    let b = bind_some (name_at a.0.0) _ (x, rest) a.2 in
    let c = bind_some (hex_at (next_word a.0.1).0) _ (x, rest) b.2 in
    let same : (next_word a.0.1).1 ≡ rest = ap (λ (o : Option (Output × Option (List ℕ))). rest_in rest o) c.2
    in
    let whole : t ≡ a.0.0 ++ 32 ∷ a.0.1 = first_word_sound t a.0.0 a.0.1 a.1 in
    let within : room_of (next_word a.0.1).1 ≤ length a.0.1 =
    parted_room a.0.1 (position (λ b. b == 32) a.0.1) refl in
    let shorter : room_of rest ≤ length a.0.1 = subst (λ (o : Option (List ℕ)). room_of o ≤ length a.0.1) same
    within in
    omega (arith, ap length whole, length-append a.0.0 (32 ∷ a.0.1))

-- ---- the grammar of outputs

-- a space before each word
abbrev spaced_words : List (List ℕ) → List ℕ
spaced_words [] = []
spaced_words (w ∷ ws) = 32 ∷ (w ++ spaced_words ws)

text_step : (b : Bool) (c : ℕ) (cs : List ℕ) (ws : List (List ℕ)) → (b ≡ true → c ≡ 32)
    → 32 ∷ cs ≡ spaced_words ws → 32 ∷ c ∷ cs ≡ spaced_words (cond b ([] ∷ ws) (onto_first c ws))
text_step true c cs ws space e = let here : c ≡ 32 = space refl in cc
text_step false c cs [] space e = absurd cc
text_step false c cs (w ∷ ws) space e = let rest : cs ≡ w ++ spaced_words ws =
    cc in ap (λ (x : List ℕ). 32 ∷ c ∷ x) rest

words_text : (t : List ℕ) → 32 ∷ t ≡ spaced_words (words t)
unfolding words
words_text [] = refl
words_text (c ∷ cs) = text_step (c == 32) c cs (words cs) (λ e. eqb-true c 32 e) (words_text cs)

outputs_of : (ws : List (List ℕ)) (os : List Output) → outputs_at ws ≡ Some os
    → AreOutputs (spaced_words ws) os
unfolding outputs_at
outputs_of [] os e = subst (AreOutputs []) (same_Some [] os e) refl
outputs_of (w ∷ []) os e = absurd cc
outputs_of (w ∷ v ∷ ws) os e =
    let a = bind_some (name_at w) _ os e in
    let b = bind_some (hex_at v) _ os a.2 in
    let c = bind_some (outputs_at ws) _ os b.2 in
    let made : List Output = (a.0, b.0) ∷ c.0 in
    let is : AreOutputs (spaced_words (w ∷ v ∷ ws)) made = (
      w,
      v,
      spaced_words ws,
      name_law.sound w a.0 a.1,
      hex_law.sound v b.0 b.1,
      outputs_of ws c.0 c.1,
      refl,
    ) in
    subst (AreOutputs (spaced_words (w ∷ v ∷ ws))) (same_Some made os c.2) is

pub outputs_sound : (o : Option (List ℕ)) (os : List Output) → outputs_behind o ≡ Some os
    → AreOutputs (spaced o) os
outputs_sound None os e = subst (AreOutputs []) (same_Some [] os e) refl
outputs_sound (Some t) os e = subst (λ (x : List ℕ). AreOutputs x os) (sym (words_text t))
    (outputs_of (words t) os e)

words_before : (w : List ℕ) (o : Option (List ℕ)) → Lacks w → words (w ++ spaced o) ≡ w ∷ words_behind o
words_before w None l = ap words (append-nil w) ∙ words_end w l
words_before w (Some t) l = words_at w t l

-- what stands behind stderr
pub record ReadsOutputs (t : List ℕ) (os : List Output) : Type 0 where
  pub left : Option (List ℕ)
  pub text : t ≡ spaced left
  pub reads : outputs_behind left ≡ Some os

pub outputs_complete : (t : List ℕ) (os : List Output) → AreOutputs t os → ReadsOutputs t os
unfolding outputs_at
outputs_complete t [] is = record { left = None; text = is; reads = refl }
outputs_complete t (o ∷ os) is =
    let name : List ℕ = is.0 in
    let value : List ℕ = is.1 in
    let more = outputs_complete is.2 os is.5 in
    let rest : List ℕ = value ++ spaced more.left in
    let cut : words (name ++ 32 ∷ rest) ≡ name ∷ value ∷ words_behind more.left =
    words_at name rest (name_lacks name o.0 is.3) ∙ ap (λ (ws : List (List ℕ)). name ∷ ws)
    (words_before value more.left (hex_lacks value o.1 is.4)) in
    record {
      left = Some (name ++ 32 ∷ rest);
      text = is.6 ∙ ap (λ (x : List ℕ). 32 ∷ (name ++ 32 ∷ (value ++ x))) more.text;
      reads = ap outputs_at cut
          ∙ bind_is _ _ _ _ (name_law.complete name o.0 is.3)
          (bind_is _ _ _ _ (hex_law.complete value o.1 is.4)
          (bind_is _ _ _ _ (behind_words more.left ∙ more.reads) refl));
    }
