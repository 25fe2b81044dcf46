-- What stands behind a list, whatever becomes of the folder.
use Rattle.std.proofs.Common.{true≢false, is_some, ◌≡◌, ℕ, ◌<◌, Bool, true, false, cond, List, [], ◌∷◌, ◌++◌}
use Rattle.std.proofs.Common.{length, drop, slice_get, Option, Some, None, refl, sym, ap, subst, ◌∙◌}
use Rattle.std.proofs.Common.{append_assoc}
use Rattle.std.specs.List.{AllByRecursion, IsDistinct}
use Rattle.std.specs.Map.{keys_of, lookup, lookup_entry, remove_entry}
use Rattle.std.proofs.lemmas.Map.{none_passes_from_lookup}
use Rattle.std.proofs.lemmas.Slice.Eq.{bytes_eq-Decides}
use Rattle.lru_metered.specs.Metered.{promoted}
use Rattle.std.specs.Option.{option_map, option_map_or}
use Rattle.std.specs.Str.{bytes_eq}
use Rattle.folders.specs.Files.{Files, file_at, size_at}
use Rattle.folders.specs.Held.{Held, Holds, Lacks, Became}
use Rattle.folders.proofs.Became.{became_from, became_map, became_then, became_same}
use Rattle.listed_files.specs.Key.{is_key}
use Rattle.listed_files.specs.Entries.{Entries, Listed, total, trim, IsEnd}
use Rattle.listed_files.specs.Disk.{Stands, Backed, Avoids, Keeps, ButListed, Drops}
use Rattle.folders.specs.Changed.{ButAt, SameAt}
use Rattle.listed_files.proofs.Paths.{same_front}
use Rattle.listed_files.proofs.Trims.{trim_more}

module _ {P Q R : List ℕ × ℕ → Type 0} where
  pub all_both : (es : Entries) → AllByRecursion P es → AllByRecursion Q es
      → ((e : List ℕ × ℕ) → P e → Q e → R e) → AllByRecursion R es
  all_both [] p q to = tt
  all_both (e ∷ es) p q to = (to e p.0 q.0, all_both es p.1 q.1 to)

module _ (P : List ℕ × ℕ → Type 0) where
  pub all_removed : (test : List ℕ → Bool) (es : Entries) → AllByRecursion P es
      → AllByRecursion P (remove_entry test es)
  all_removed test [] h = tt
  all_removed test (e ∷ es) h =
      elim (test e.0) as (λ b. AllByRecursion P (cond b es (e ∷ remove_entry test es))) [
        | true ↦ h.1
        | false ↦
            (h.0, all_removed test es h.1)
      ]

  pub all_end : (gone rest : Entries) → AllByRecursion P (gone ++ rest) → AllByRecursion P rest
  all_end [] rest h = h
  all_end (e ∷ es) rest h = all_end es rest h.1

  pub all_push : (es : Entries) (e : List ℕ × ℕ) → AllByRecursion P es → P e → AllByRecursion P (es ++ e ∷ [])
  all_push [] e h last = (last, tt)
  all_push (f ∷ fs) e h last = (h.0, all_push fs e h.1 last)

  pub all_rest : (es : Entries) → AllByRecursion P es → AllByRecursion P (drop 1 es)
  all_rest [] h = tt
  all_rest (e ∷ es) h = h.1

-- what stands still does where the file of no listed key changed
pub stands_others : (root path : List ℕ) (es : Entries) (old new : Held) → Stands root old es
    → Became (ButAt path) old.files new.files → AllByRecursion (λ e. bytes_eq path (root ++ e.0) ≡ false) es
    → Stands root new es
stands_others root path es old new h others apart = record {
  keys = h.keys;
  backed = λ files is.
      let w = became_from (ButAt path) old.files new.files files others is in
      all_both es (h.backed w.0 w.1) apart (λ e sized other. ap (option_map length) (w.2 (root ++ e.0) other)
      ∙ sized);
}

-- and behind fewer entries
pub stands_removed : (root : List ℕ) (held : Held) (test : List ℕ → Bool) (es : Entries) → Stands root held es
    → Stands root held (remove_entry test es)
stands_removed root held test es h =
    record {
      keys = all_removed (λ e. is_key e.0 ≡ true) test es h.keys;
      backed = λ files is.
          all_removed (λ e. size_at files (root ++ e.0) ≡ Some e.1) test es (h.backed files is);
    }

rest_stands : (root : List ℕ) (held : Held) (es : Entries) → Stands root held es
    → Stands root held (drop 1 es)
rest_stands root held es h =
    record {
      keys = all_rest (λ e. is_key e.0 ≡ true) es h.keys;
      backed = λ files f.
          all_rest (λ e. size_at files (root ++ e.0) ≡ Some e.1) es (h.backed files f);
    }

-- keys that differ have paths that do
pub apart_paths : (root key : List ℕ) (es : Entries) → AllByRecursion (λ k. bytes_eq key k ≡ false) (keys_of es)
    → AllByRecursion (λ e. bytes_eq (root ++ key) (root ++ e.0) ≡ false) es
apart_paths root key [] h = tt
apart_paths root key (e ∷ es) h = (same_front root key e.0 ∙ h.0, apart_paths root key es h.1)

none_is_some_of : {A : Type 0} {x : List ℕ × ℕ} → Some x ≡ None → A
none_is_some_of h = absurd (true≢false (ap is_some h))

-- the first entry's key
first_key : (key : List ℕ) (n : ℕ) (e : List ℕ × ℕ) (es : Entries) → Some (key, n) ≡ slice_get (e ∷ es) 0
    → e.0 ≡ key
first_key key n e es is = let both : Some e ≡ Some (key, n) = sym is in let pair : e ≡ (key, n) =
    cc in ap (λ p. p.0) pair

-- what stands once the first entry is out and its file is gone or not
pub first_dropped : (root key : List ℕ) (n : ℕ) (es now : Entries) (old new : Held)
    → Some (key, n) ≡ slice_get es 0 → now ≡ drop 1 es → IsDistinct bytes_eq (keys_of es)
    → Stands root old es → Became (ButAt (root ++ key)) old.files new.files → Stands root new now
unfolding IsDistinct
first_dropped root key n [] now old new is now_is distinct h others = none_is_some_of is
first_dropped root key n (e ∷ es) now old new is now_is distinct h others =
    let rest : Stands root old es = rest_stands root old (e ∷ es) h in
    let other = subst (λ k. AllByRecursion (λ q. bytes_eq k q ≡ false) (keys_of es))
    (first_key key n e es is) distinct.0 in
    subst (λ l. Stands root new l) (sym now_is)
    (stands_others root (root ++ key) es old new rest others (apart_paths root key es other))

-- only the first entry's file changed
pub first_others : (root key : List ℕ) (n : ℕ) (es : Entries) (old new : Held)
    → Some (key, n) ≡ slice_get es 0 → Became (ButAt (root ++ key)) old.files new.files
    → Became (ButListed root es) old.files new.files
first_others root key n [] old new is others = none_is_some_of is
first_others root key n (e ∷ es) old new is others =
    let same = first_key key n e es is in
    became_map (ButAt (root ++ key)) (ButListed root (e ∷ es)) old.files new.files
    (λ f g but q avoids. but q (subst (λ k. bytes_eq (root ++ k) q ≡ false) same avoids.0)) others

-- so the others keep theirs
pub first_kept : (root key : List ℕ) (n : ℕ) (es now : Entries) (old new : Held)
    → Some (key, n) ≡ slice_get es 0 → now ≡ drop 1 es → IsDistinct bytes_eq (keys_of es)
    → Became (ButAt (root ++ key)) old.files new.files → Became (Keeps root now) old.files new.files
unfolding IsDistinct
first_kept root key n [] now old new is now_is distinct others = none_is_some_of is
first_kept root key n (e ∷ es) now old new is now_is distinct others =
    let other = subst (λ k. AllByRecursion (λ q. bytes_eq k q ≡ false) (keys_of es))
    (first_key key n e es is) distinct.0 in
    let apart = apart_paths root key es other in
    subst (λ l. Became (Keeps root l) old.files new.files) (sym now_is)
    (became_map (ButAt (root ++ key)) (Keeps root es) old.files new.files
    (λ f g but. all_both es apart apart (λ e away again. but (root ++ e.0) away)) others)

pub kept_none : (root : List ℕ) (es : Entries) (files : Files) → Keeps root es files files
kept_none root [] files = tt
kept_none root (e ∷ es) files = (refl, kept_none root es files)

pub kept_by_same : (root : List ℕ) (es : Entries) (f g : Files) → SameAt f g → Keeps root es f g
kept_by_same root [] f g same = tt
kept_by_same root (e ∷ es) f g same = (same (root ++ e.0), kept_by_same root es f g same)

pub none_lost : (root : List ℕ) (es : Entries) (o : Option Files) → Became (Keeps root es) o o
none_lost root es o = became_same (Keeps root es) o (λ f. kept_none root es f)

-- what all entries keep an end of them keeps
pub keeps_end : (root : List ℕ) (es rest : Entries) (f g : Files) → IsEnd rest es → Keeps root es f g
    → Keeps root rest f g
keeps_end root es rest f g end kept =
    all_end (λ e. file_at g (root ++ e.0) ≡ file_at f (root ++ e.0)) end.0 rest
    (subst (λ l. Keeps root l f g) end.1 kept)

pub avoids_end : (root path : List ℕ) (es rest : Entries) → IsEnd rest es → Avoids root path es
    → Avoids root path rest
avoids_end root path es rest end avoids =
    all_end (λ e. bytes_eq (root ++ e.0) path ≡ false) end.0 rest
    (subst (λ l. Avoids root path l) end.1 avoids)

pub keeps_then : (root : List ℕ) (es rest : Entries) (one two three : Option Files) → IsEnd rest es
    → Became (Keeps root es) one two → Became (Keeps root rest) two three → Became (Keeps root rest) one three
keeps_then root es rest one two three end a b =
    became_then (Keeps root es) (Keeps root rest) (Keeps root rest) one two three
    (λ f g h x y. all_both rest (keeps_end root es rest f g end x) y (λ e p q. q ∙ p)) a b

pub end_all : (es : Entries) → IsEnd es es
end_all es = ([], refl)

pub end_rest : (es all : Entries) → IsEnd es all → IsEnd (drop 1 es) all
end_rest [] all h = h
end_rest (e ∷ es) all h = (h.0 ++ e ∷ [], h.1 ∙ sym (append_assoc h.0 (e ∷ []) es))

trim_rest : (es : Entries) (limit : ℕ) → limit < total es → trim limit (drop 1 es) ≡ trim limit es
trim_rest [] limit over = refl
trim_rest (e ∷ es) limit over = sym (trim_more e es limit over)

-- one more
pub drops_more : (root : List ℕ) (limit : ℕ) (one two three : Listed) (first second third : Held)
    → Drops root limit one two first second → limit < total two.entries
    → three ≡ record two { entries = drop 1 two.entries } → Stands root third three.entries
    → Became (ButListed root two.entries) second.files third.files
    → Became (Keeps root three.entries) second.files third.files → Drops root limit one three first third
drops_more root limit one two three first second third d over is stands others kept =
    let now : three.entries ≡ drop 1 two.entries = ap (λ t. t.entries) is in
    record {
      capacity = ap (λ t. t.capacity) is ∙ d.capacity;
      rest = subst (λ l. IsEnd l one.entries) (sym now) (end_rest two.entries one.entries d.rest);
      needed = ap (trim limit) now ∙ (trim_rest two.entries limit over ∙ d.needed);
      stands = stands;
      others = became_then (ButListed root one.entries) (ButListed root two.entries)
          (ButListed root one.entries) first.files second.files third.files
          (λ f g h a b q avoids. b q (avoids_end root q one.entries two.entries d.rest avoids) ∙ a q avoids)
          d.others others;
      kept = keeps_then root two.entries three.entries first.files second.files third.files
          (subst (λ l. IsEnd l two.entries) (sym now)
          (end_rest two.entries two.entries (end_all two.entries))) d.kept kept;
    }

-- what is found has its file
pub found_sized : (root key : List ℕ) (n : ℕ) (files : Files) (es : Entries) → Backed root files es
    → lookup (bytes_eq key) es ≡ Some n → size_at files (root ++ key) ≡ Some n
found_sized root key n files [] h found = absurd (true≢false (sym (ap is_some found)))
found_sized root key n files (e ∷ es) h found = by (bytes_eq key e.0) refl found
    (found_sized root key n files es h.1)
  where
    by : (b : Bool) → bytes_eq key e.0 ≡ b → cond b (Some e.1) (lookup (bytes_eq key) es) ≡ Some n
        → (lookup (bytes_eq key) es ≡ Some n → size_at files (root ++ key) ≡ Some n)
        → size_at files (root ++ key) ≡ Some n
    by true same found rest =
        subst (λ k. size_at files (root ++ k) ≡ Some n) (sym ((bytes_eq-Decides key e.0).0 same))
        (h.0 ∙ found)
    by false other found rest = rest found

-- what is listed is not lacking
pub listed_there : (root key : List ℕ) (es : Entries) (held : Held) → Stands root held es
    → is_some (lookup (bytes_eq key) es) ≡ true → Holds held (λ f. ¬ (Lacks (root ++ key) f))
listed_there root key es held h listed files told = by (lookup (bytes_eq key) es) refl listed
  where
    by : (o : Option ℕ) → lookup (bytes_eq key) es ≡ o → is_some o ≡ true → ¬ (Lacks (root ++ key) files)
    by None is some = absurd (true≢false (sym some))
    by (Some n) is some = λ lacks.
        absurd (true≢false (ap is_some (sym (found_sized root key n files es (h.backed files told) is)
        ∙ ap (option_map length) lacks)))

-- what is found has what all have
all_found : (P : List ℕ × ℕ → Type 0) (test : List ℕ → Bool) (es : Entries) (p : List ℕ × ℕ)
    → AllByRecursion P es → lookup_entry test es ≡ Some p → P p
all_found P test [] p h found = absurd (true≢false (sym (ap is_some found)))
all_found P test (e ∷ es) p h found = by (test e.0) found (all_found P test es p h.1)
  where
    by : (b : Bool) → cond b (Some e) (lookup_entry test es) ≡ Some p → (lookup_entry test es ≡ Some p → P p)
        → P p
    by true found rest = let same : e ≡ p = cc in subst P same h.0
    by false found rest = rest found

all_promoted : (P : List ℕ × ℕ → Type 0) (test : List ℕ → Bool) (es : Entries) → AllByRecursion P es
    → AllByRecursion P (promoted test es)
all_promoted P test es h = by (lookup_entry test es) refl
  where
    by : (o : Option (List ℕ × ℕ)) → lookup_entry test es ≡ o
        → AllByRecursion P (option_map_or (λ p. remove_entry test es ++ p ∷ []) o es)
    by None is = h
    by (Some p) is = all_push P (remove_entry test es) p (all_removed P test es h)
        (all_found P test es p h is)

-- what stands still does behind a promotion, and where files are as they were
pub stands_promoted : (root : List ℕ) (old new : Held) (key : List ℕ) (es : Entries) → Stands root old es
    → Became SameAt old.files new.files → Stands root new (promoted (bytes_eq key) es)
stands_promoted root old new key es h same = record {
  keys = all_promoted (λ e. is_key e.0 ≡ true) (bytes_eq key) es h.keys;
  backed = λ files told.
      let w = became_from SameAt old.files new.files files same told in
      all_promoted (λ e. size_at files (root ++ e.0) ≡ Some e.1) (bytes_eq key) es
      (all_both es (h.backed w.0 w.1) h.keys (λ e sized fit. ap (option_map length) (w.2 (root ++ e.0))
      ∙ sized));
}

-- and where the file of a key changed that is not listed
pub stands_absent : (root key : List ℕ) (es : Entries) (old new : Held) → lookup (bytes_eq key) es ≡ None
    → Stands root old es → Became (ButAt (root ++ key)) old.files new.files → Stands root new es
stands_absent root key es old new absent h others =
    let none = none_passes_from_lookup (bytes_eq key) es absent in
    stands_others root (root ++ key) es old new h others
    (all_both es none none (λ e other again. same_front root key e.0 ∙ other))

pub avoids_removed : (root path : List ℕ) (test : List ℕ → Bool) (es now : Entries)
    → now ≡ remove_entry test es → Avoids root path es → Avoids root path now
avoids_removed root path test es now is avoids =
    subst (λ l. Avoids root path l) (sym is)
    (all_removed (λ e. bytes_eq (root ++ e.0) path ≡ false) test es avoids)

-- where the file of a key changed that is not listed the others keep theirs
pub keeps_absent : (root key : List ℕ) (es : Entries) (old new : Option Files)
    → lookup (bytes_eq key) es ≡ None → Became (ButAt (root ++ key)) old new → Became (Keeps root es) old new
keeps_absent root key es old new absent others =
    let none = none_passes_from_lookup (bytes_eq key) es absent in
    became_map (ButAt (root ++ key)) (Keeps root es) old new
    (λ f g but. all_both es none none
    (λ e other again. but (root ++ e.0) (same_front root key e.0 ∙ other))) others
