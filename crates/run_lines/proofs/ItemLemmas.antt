-- Ids and archives are items of lists.
use Rattle.std.proofs.Common.{◌≡◌, ℕ, ◌<◌, ◌≤◌, ◌==◌, Bool, true, false, nat_eq, List, [], ◌∷◌, ◌++◌, length}
use Rattle.std.proofs.Common.{take, drop, Option, Some, codes, refl, sym, ap, subst, ◌∙◌, append_assoc, arith}
use Rattle.std.specs.List.{list_all}
use Rattle.std.specs.Cmp.Lexicographic.{pointwise}
use Rattle.std.specs.Fmt.{decimal}
use Rattle.std.proofs.lemmas.Bool.{ne_eqb}
use Rattle.std.proofs.lemmas.Bool.Decides.{nat_tests}
use Rattle.std.proofs.lemmas.List.{take-append-drop, take_at, drop_at}
use Rattle.std.proofs.lemmas.Option.{same_Some}
use Rattle.dist_types.specs.Addr.{◌>>=◌}
use Rattle.dist_types.specs.Toolchain.{is_lower_hex}
use Rattle.dist_types.proofs.AddrLemmas.{bind_some}
use Rattle.farm_script.specs.Words.{last}
use Rattle.farm_script.specs.Fields.{number_at}
use Rattle.farm_script.specs.Grammar.{IsNumber}
use Rattle.farm_script.proofs.VisibleLemmas.{both}
use Rattle.farm_script.proofs.FieldLemmas.{number_law, decimal_lacks}
use Rattle.farm_script.proofs.WordLemmas.{IsReader, Lacks, bind_is, visible_lacks, last_sound, last_complete}
use Rattle.farm_entries.specs.Printed.{archive_text, archives_text, ids_text}
use Rattle.run_lines.specs.Grammar.{Fits, IsId, AreIds, ArchiveFits, ArchivesFit}
use Rattle.run_lines.specs.Fields.{id_at, ids_at, archive_at, archives_at}
use Rattle.run_lines.proofs.PartLemmas.{Free, IsItem, items_text, items_law, items_lack, lacks_both, decimal_free}
use Rattle.run_lines.proofs.FieldLemmas.{Exact, itself, id_law}
use Rattle.run_lines.proofs.IdLemmas.{lower_visible}

-- ---- ids

pub id_lacks : (id : List ℕ) → IsId id → Lacks id
id_lacks id is = visible_lacks id (lower_visible id is.1)

lower_free : (t : List ℕ) → list_all is_lower_hex t ≡ true → Free t
lower_free [] e = tt
lower_free (b ∷ bs) e =
    let p = both (is_lower_hex b) (list_all is_lower_hex bs) e in
    let lower : is_lower_hex b ≡ true = p.0 in
    let low : 48 ≤ b = grind (arith, nat_tests) in
    (ne_eqb b 44 (λ same. absurd (omega arith)), lower_free bs p.1)

id_free : (id : List ℕ) → IsId id → Free id
id_free id is = lower_free id is.1

no_id : (id rest : List ℕ) → IsId id → pointwise nat_eq (id ++ rest) (codes "-") ≡ false
no_id [] rest is = absurd (omega (arith, is.0))
no_id (b ∷ bs) rest is =
    let p = both (is_lower_hex b) (list_all is_lower_hex bs) is.1 in
    let lower : is_lower_hex b ≡ true = p.0 in
    let low : 48 ≤ b = grind (arith, nat_tests) in
    let other : nat_eq b 45 ≡ false = ne_eqb b 45 (λ same. absurd (omega arith)) in
    rw other refl

id_item : IsItem id_at itself IsId
id_item = record { law = id_law; free = id_free; lacks = id_lacks; no_dash = no_id }

ids_same : (ids : List (List ℕ)) → items_text itself ids ≡ ids_text ids
ids_same [] = refl
ids_same (id ∷ ids) = refl

pub ids_law : IsReader ids_at (Exact ids_text AreIds)
ids_law = record {
  sound = λ t ids e. let s = (items_law id_at itself IsId id_item).sound t ids e in (s.0 ∙ ids_same ids, s.1);
  complete = λ t ids is. (items_law id_at itself IsId id_item).complete t ids (is.0 ∙ sym (ids_same ids), is.1);
}

-- ---- archives

-- its text, grouped to the right
grouped : (id : List ℕ) (size : ℕ) → archive_text (id, size) ≡ id ++ (codes ":" ++ decimal size)
grouped id size = append_assoc id (codes ":") (decimal size)

archive_sound : (t : List ℕ) (p : List ℕ × ℕ) → archive_at t ≡ Some p → Exact archive_text ArchiveFits t p
unfolding archive_at
archive_sound t p e =
    let a = bind_some (id_at (take 64 t)) _ p e in
    let b = bind_some (last (codes ":") number_at (drop 64 t)) _ p a.2 in
    let id = id_law.sound (take 64 t) a.0 a.1 in
    let f = last_sound (codes ":") number_at IsNumber number_law (drop 64 t) b.0 b.1 in
    let back : drop 64 t ≡ codes ":" ++ decimal b.0 = f.2 ∙ ap (λ (w : List ℕ). codes ":" ++ w) f.1.0 in
    let made : List ℕ × ℕ = (a.0, b.0) in
    let spelled : t ≡ archive_text made = sym (take-append-drop 64 t)
    ∙ ap (λ (w : List ℕ). w ++ drop 64 t) id.0 ∙ ap (λ (w : List ℕ). a.0 ++ w) back ∙ sym (grouped a.0 b.0) in
    let is : Exact archive_text ArchiveFits t made = (spelled, (id.1, f.1.1)) in
    subst (Exact archive_text ArchiveFits t) (same_Some made p b.2) is

archive_complete : (t : List ℕ) (p : List ℕ × ℕ) → Exact archive_text ArchiveFits t p → archive_at t ≡ Some p
unfolding archive_at
archive_complete t (id, size) is =
    let spelled : t ≡ id ++ (codes ":" ++ decimal size) = is.0 ∙ grouped id size in
    let front : take 64 t ≡ id = ap (take 64) spelled ∙ take_at id (codes ":" ++ decimal size) 64 is.1.0.0 in
    let back : drop 64 t ≡ codes ":" ++ decimal size = ap (drop 64) spelled
    ∙ drop_at id (codes ":" ++ decimal size) 64 is.1.0.0 in
    bind_is _ _ _ _ (id_law.complete (take 64 t) id (front, is.1.0))
    (bind_is _ _ _ _ (ap (last (codes ":") number_at) back
    ∙ last_complete (codes ":") number_at IsNumber number_law (decimal size) size (refl, is.1.1)) refl)

pub archive_law : IsReader archive_at (Exact archive_text ArchiveFits)
archive_law = record { sound = archive_sound; complete = archive_complete }

free_both : (a b : List ℕ) → Free a → Free b → Free (a ++ b)
free_both [] b fa fb = fb
free_both (c ∷ cs) b fa fb = (fa.0, free_both cs b fa.1 fb)

archive_free : (p : List ℕ × ℕ) → ArchiveFits p → Free (archive_text p)
archive_free (id, size) fits = subst Free (sym (grouped id size))
    (free_both id (codes ":" ++ decimal size) (id_free id fits.0) (refl, decimal_free size fits.1))

archive_lacks : (p : List ℕ × ℕ) → ArchiveFits p → Lacks (archive_text p)
archive_lacks (id, size) fits = subst Lacks (sym (grouped id size))
    (lacks_both id (codes ":" ++ decimal size) (id_lacks id fits.0) (refl, decimal_lacks size fits.1))

no_archive : (p : List ℕ × ℕ) (rest : List ℕ) → ArchiveFits p
    → pointwise nat_eq (archive_text p ++ rest) (codes "-") ≡ false
no_archive (id, size) rest fits =
    ap (λ (w : List ℕ). pointwise nat_eq w (codes "-"))
    (ap (λ (w : List ℕ). w ++ rest) (grouped id size) ∙ append_assoc id (codes ":" ++ decimal size) rest)
    ∙ no_id id ((codes ":" ++ decimal size) ++ rest) fits.0

archive_item : IsItem archive_at archive_text ArchiveFits
archive_item = record { law = archive_law; free = archive_free; lacks = archive_lacks; no_dash = no_archive }

archives_same : (ps : List (List ℕ × ℕ)) → items_text archive_text ps ≡ archives_text ps
archives_same [] = refl
archives_same (p ∷ ps) = refl

pub archives_law : IsReader archives_at (Exact archives_text ArchivesFit)
archives_law = record {
  sound = λ t ps e. let s = (items_law archive_at archive_text ArchiveFits archive_item).sound t ps e in
      (s.0 ∙ archives_same ps, s.1);
  complete = λ t ps is. (items_law archive_at archive_text ArchiveFits archive_item).complete t ps
      (is.0 ∙ sym (archives_same ps), is.1);
}
