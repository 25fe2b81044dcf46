-- JSON in bytes, and objects of texts.
use Rattle.std.proofs.Common.{◌≡◌, ◌≤◌, ℕ, List, [], ◌∷◌, Bool, true, false, cond, Some, None, Option}
use Rattle.std.proofs.Common.{length, codes, is_some}
use Rattle.std.proofs.Common.{unwrap_or, is_eq, BTreeMap, String, Global, Ordering, Less}
use Rattle.std.proofs.Common.{Equal, Greater, refl, sym, ap, ◌∙◌, true≢false, arith}
use Rattle.std.specs.Option.{option_and_then}
use Rattle.std.specs.Cmp.Lexicographic.{slice_cmp}
use Rattle.std.specs.Map.{lookup}
use Rattle.std.specs.Ordering.{nat_cmp, match_ordering}
use Rattle.std.specs.Str.{IsUtf8, is_utf8, bytes_eq}
use Rattle.std.proofs.lemmas.Str.{IsUtf8-from_is_utf8, is_utf8-from_IsUtf8}
use Rattle.std.proofs.lemmas.Map.Text.{is_eq-slice_cmp}
use Rattle.serde_json.specs.Data.{Data, null, boolean, number, string, array, object, Members, no_members}
use Rattle.serde_json.specs.Data.{member, put, depth, members_depth}
use Rattle.serde_json.specs.Find.{get, get_member, as_str}
use Rattle.serde_json.specs.Read.{read, max_depth}
use Rattle.serde_json.specs.View.{view, members_view}
use Rattle.serde_json.specs.Written.{has_float, compact_text}
use Rattle.serde_json.specs.declared.value.Value.{Value, Object}
use Rattle.serde_json.proofs.Views.{view-Object}
use Rattle.disk_cache.specs.WeakMaps.{Weak, json_of, texts_in, object_texts, with_text, recorded}
use Rattle.disk_cache.specs.WeakMaps.{with_recorded, weak_map_in}

pub json_of-utf8 : (bytes : List ℕ) → IsUtf8 bytes → json_of bytes ≡ read bytes
json_of-utf8 bytes h = rw (is_utf8-from_IsUtf8 bytes h) refl

none_at : (b : Bool) (o : Option Data) → (b ≡ true → ⊥) → cond b o None ≡ None
none_at true o h = absurd (h refl)
none_at false o h = refl

pub json_of_none : (bytes : List ℕ) → ¬ IsUtf8 bytes → json_of bytes ≡ None
json_of_none bytes h = none_at (is_utf8 bytes) (read bytes) (λ e. h (IsUtf8-from_is_utf8 bytes e))

-- ---- what is recorded

found_at : (o : Ordering) (b : Bool) (text : List ℕ) (texts : Weak) (key : List ℕ) (rest : Option (List ℕ))
    → is_eq o ≡ b → lookup (bytes_eq key) texts ≡ rest
    → cond b (Some text) (lookup (bytes_eq key) texts) ≡ match_ordering o rest (Some text) rest
found_at Less true text texts key rest is h = absurd (true≢false (sym is))
found_at Less false text texts key rest is h = h
found_at Equal true text texts key rest is h = refl
found_at Equal false text texts key rest is h = absurd (true≢false is)
found_at Greater true text texts key rest is h = absurd (true≢false (sym is))
found_at Greater false text texts key rest is h = h

and_then_match : (o : Ordering) (a b c : Option Data)
    → option_and_then as_str (match_ordering o a b c) ≡ match_ordering o (option_and_then as_str a)
    (option_and_then as_str b) (option_and_then as_str c)
and_then_match Less a b c = refl
and_then_match Equal a b c = refl
and_then_match Greater a b c = refl

some_is : {A : Type 0} (x y : A) → Some x ≡ Some y → x ≡ y
some_is x y h = cc

-- what is found among texts is the text that is found among members
pub recorded_text : (key : List ℕ) (ms : Members) (texts : Weak) → texts_in ms ≡ Some texts
    → recorded key texts ≡ option_and_then as_str (get_member key ms)
recorded_text key no_members texts h =
    let is : [] ≡ texts = some_is _ _ h in
    ap (lookup (bytes_eq key)) (sym is)
recorded_text key (member l value rest) texts h = by (as_str value) refl (texts_in rest) refl h
    (recorded_text key rest)
  where
    by : (s : Option (List ℕ)) → as_str value ≡ s → (r : Option Weak) → texts_in rest ≡ r
        → with_text l s r ≡ Some texts
        → ((ts : Weak) → texts_in rest ≡ Some ts → recorded key ts ≡ option_and_then as_str
        (get_member key rest)) → recorded key texts ≡ option_and_then as_str
        (get_member key (member l value rest))
    by None s_is r r_is h later = absurd (true≢false (sym (ap is_some h)))
    by (Some text) s_is None r_is h later = absurd (true≢false (sym (ap is_some h)))
    by (Some text) s_is (Some more) r_is h later =
        let is : (l, text) ∷ more ≡ texts = some_is _ _ h in
        ap (lookup (bytes_eq key)) (sym is)
        ∙ (found_at (slice_cmp nat_cmp key l) (bytes_eq key l) text more key _ (is_eq-slice_cmp key l)
        (later more r_is)
        ∙ (ap (λ s. match_ordering (slice_cmp nat_cmp key l) (option_and_then as_str (get_member key rest)) s
        (option_and_then as_str (get_member key rest))) (sym s_is)
        ∙ sym (and_then_match (slice_cmp nat_cmp key l) (get_member key rest) (Some value)
        (get_member key rest))))

-- ---- one more

with_more : (o : Ordering) (key l id text : List ℕ) (value : Data) (rest : Members) (more later : Weak)
    → as_str value ≡ Some text → texts_in rest ≡ Some more → texts_in (put key (string id) rest) ≡ Some later
    → texts_in (match_ordering o (member key (string id) (member l value rest)) (member l (string id) rest)
    (member l value (put key (string id) rest)))
    ≡ Some (match_ordering o ((key, id) ∷ (l, text) ∷ more) ((l, id) ∷ more) ((l, text) ∷ later))
with_more Less key l id text value rest more later is r p = rw (is, r) refl
with_more Equal key l id text value rest more later is r p = rw r refl
with_more Greater key l id text value rest more later is r p = rw (is, p) refl

-- a text put among members is one more text
pub put_text : (key id : List ℕ) (ms : Members) (texts : Weak) → texts_in ms ≡ Some texts
    → texts_in (put key (string id) ms) ≡ Some (with_recorded key id texts)
put_text key id no_members texts h =
    let is : [] ≡ texts = some_is _ _ h in
    ap (λ t. Some (with_recorded key id t)) is
put_text key id (member l value rest) texts h = by (as_str value) refl (texts_in rest) refl h
    (put_text key id rest)
  where
    by : (s : Option (List ℕ)) → as_str value ≡ s → (r : Option Weak) → texts_in rest ≡ r
        → with_text l s r ≡ Some texts
        → ((ts : Weak) → texts_in rest ≡ Some ts → texts_in (put key (string id) rest) ≡ Some
        (with_recorded key id ts)) → texts_in (put key (string id) (member l value rest)) ≡ Some
        (with_recorded key id texts)
    by None s_is r r_is h later = absurd (true≢false (sym (ap is_some h)))
    by (Some text) s_is None r_is h later = absurd (true≢false (sym (ap is_some h)))
    by (Some text) s_is (Some more) r_is h later =
        let is : (l, text) ∷ more ≡ texts = some_is _ _ h in
        with_more (slice_cmp nat_cmp key l) key l id text value rest more _ s_is r_is (later more r_is)
        ∙ ap (λ t. Some (with_recorded key id t)) is

-- ---- whether all are texts

pub more_texts : (k : List ℕ) (value : Data) (rest : Members) → is_some (as_str value) ≡ true
    → is_some (texts_in (member k value rest)) ≡ is_some (texts_in rest)
more_texts k value rest h = by (as_str value) h (texts_in rest)
  where
    by : (o : Option (List ℕ)) → is_some o ≡ true → (r : Option Weak) → is_some (with_text k o r) ≡ is_some r
    by None h r = absurd (true≢false (sym h))
    by (Some text) h None = refl
    by (Some text) h (Some texts) = refl

pub no_texts : (k : List ℕ) (value : Data) (rest : Members) → is_some (as_str value) ≡ false
    → is_some (texts_in (member k value rest)) ≡ false
no_texts k value rest h = by (as_str value) h (texts_in rest)
  where
    by : (o : Option (List ℕ)) → is_some o ≡ false → (r : Option Weak) → is_some (with_text k o r) ≡ false
    by None h r = refl
    by (Some text) h r = absurd (true≢false h)

-- ---- how deep they nest

text_depth : (value : Data) (text : List ℕ) → as_str value ≡ Some text → depth value ≡ 0
text_depth null text h = absurd (true≢false (sym (ap is_some h)))
text_depth (boolean b) text h = absurd (true≢false (sym (ap is_some h)))
text_depth (number n) text h = absurd (true≢false (sym (ap is_some h)))
text_depth (string s) text h = refl
text_depth (array items) text h = absurd (true≢false (sym (ap is_some h)))
text_depth (object ms) text h = absurd (true≢false (sym (ap is_some h)))

texts_depth : (ms : Members) (texts : Weak) → texts_in ms ≡ Some texts → members_depth ms ≡ 0
texts_depth no_members texts h = refl
texts_depth (member l value rest) texts h = by (as_str value) refl (texts_in rest) refl h (texts_depth rest)
  where
    by : (s : Option (List ℕ)) → as_str value ≡ s → (r : Option Weak) → texts_in rest ≡ r
        → with_text l s r ≡ Some texts
        → ((ts : Weak) → texts_in rest ≡ Some ts → members_depth rest ≡ 0)
        → members_depth (member l value rest) ≡ 0
    by None s_is r r_is h later = absurd (true≢false (sym (ap is_some h)))
    by (Some text) s_is None r_is h later = absurd (true≢false (sym (ap is_some h)))
    by (Some text) s_is (Some more) r_is h later = rw (text_depth value text s_is, later more r_is) refl

-- an object of texts nests once
pub object_depth : (value : Data) (texts : Weak) → object_texts value ≡ Some texts → depth value ≤ max_depth
object_depth null texts h = absurd (true≢false (sym (ap is_some h)))
object_depth (boolean b) texts h = absurd (true≢false (sym (ap is_some h)))
object_depth (number n) texts h = absurd (true≢false (sym (ap is_some h)))
object_depth (string s) texts h = absurd (true≢false (sym (ap is_some h)))
object_depth (array items) texts h = absurd (true≢false (sym (ap is_some h)))
object_depth (object ms) texts h = let flat = texts_depth ms texts h in omega (arith, flat)

-- ---- values seen as texts

-- a value that has texts has those that it is seen as
pub has_texts : (o : Option Weak) → is_some o ≡ true → o ≡ Some (unwrap_or o [])
has_texts None h = absurd (true≢false (sym h))
has_texts (Some t) h = refl

pub recorded_in : (key : List ℕ) (value : Data) (texts : Weak) → object_texts value ≡ Some texts
    → recorded key texts ≡ option_and_then as_str (get key value)
recorded_in key null texts h = absurd (true≢false (sym (ap is_some h)))
recorded_in key (boolean b) texts h = absurd (true≢false (sym (ap is_some h)))
recorded_in key (number n) texts h = absurd (true≢false (sym (ap is_some h)))
recorded_in key (string s) texts h = absurd (true≢false (sym (ap is_some h)))
recorded_in key (array items) texts h = absurd (true≢false (sym (ap is_some h)))
recorded_in key (object ms) texts h = recorded_text key ms texts h

-- bytes that read as an object of texts are its weak map
pub written_reads : (bytes : List ℕ) (value : Data) (texts : Weak) → IsUtf8 bytes → read bytes ≡ Some value
    → object_texts value ≡ Some texts → weak_map_in bytes ≡ Some texts
unfolding weak_map_in
written_reads bytes value texts text is has = ap (option_and_then object_texts) (json_of-utf8 bytes text ∙ is)
    ∙ has

-- ---- an object without members

no_members_in : (ms : Members) → texts_in ms ≡ Some [] → ms ≡ no_members
no_members_in no_members h = refl
no_members_in (member l value rest) h = absurd (by (as_str value) (texts_in rest) h)
  where
    by : (s : Option (List ℕ)) (r : Option Weak) → with_text l s r ≡ Some [] → ⊥
    by None r h = true≢false (sym (ap is_some h))
    by (Some text) None h = true≢false (sym (ap is_some h))
    by (Some text) (Some more) h =
        let none : (l, text) ∷ more ≡ [] = some_is _ _ h in
        let long = ap length none in
        omega (arith, long)

no_members_of : (value : Data) → object_texts value ≡ Some [] → value ≡ object no_members
no_members_of null h = absurd (true≢false (sym (ap is_some h)))
no_members_of (boolean b) h = absurd (true≢false (sym (ap is_some h)))
no_members_of (number n) h = absurd (true≢false (sym (ap is_some h)))
no_members_of (string s) h = absurd (true≢false (sym (ap is_some h)))
no_members_of (array items) h = absurd (true≢false (sym (ap is_some h)))
no_members_of (object ms) h = ap object (no_members_in ms h)

-- the text of an object of texts in which there are none
pub empty_written : (value : Data) (bytes : List ℕ) → object_texts value ≡ Some []
    → (has_float value ≡ false → bytes ≡ compact_text value) → bytes ≡ codes "{}"
empty_written value bytes none written =
    let is = no_members_of value none in
    written (ap has_float is) ∙ ap compact_text is

-- a copy of an object of texts, with a text put into it
pub recorded_value : (value copy : Value) (members made : BTreeMap (String Global) Value)
    (key id text : List ℕ) (texts : Weak) → object_texts (view value) ≡ Some texts
    → view copy ≡ view value → copy ≡ Object members → members_view made.entries ≡ put key (string text)
    (members_view members.entries) → text ≡ id
    → object_texts (view (Object made)) ≡ Some (with_recorded key id texts)
recorded_value value copy members made key id text texts has same is put_is text_is =
    let old : texts_in (members_view members.entries) ≡ Some texts =
    ap object_texts (sym (view-Object members))
    ∙ (ap (λ v. object_texts (view v)) (sym is) ∙ (ap object_texts same ∙ has)) in
    ap object_texts (view-Object made)
    ∙ (ap texts_in put_is ∙ (ap (λ t. texts_in (put key (string t) (members_view members.entries))) text_is
    ∙ put_text key id (members_view members.entries) texts old))
