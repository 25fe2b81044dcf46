use Rattle.std.proofs.Common.{◌∙◌, ap, string_bytes, List, ℕ}
use Rattle.std.specs.Option.{option_map}
use Rattle.std.specs.Map.{remove_entry}
use Rattle.std.specs.Cmp.Lexicographic.{slice_cmp}
use Rattle.std.specs.Ordering.{is_eq, nat_cmp}
use Rattle.std.specs.Str.{bytes_eq}
use Rattle.path_pkg.specs.Windows.{pairs_of}
use Rattle.path_pkg.specs.Written.{put}
use Rattle.path_pkg.proofs.WrittenLemmas.{put_pairs}
use Rattle.path_pkg.proofs.RestoreLemmas.{undo_new, undo_old, removed_pairs, must_be_ok, put_there}
use Rattle.path_pkg.proofs.recorded.restore.Goals as goal

pub returns-in-Some : goal.returns-in-Some
returns-in-Some c = λ before v sorted is was.
    let k : List ℕ = string_bytes c.args.path in
    let w : List ℕ = string_bytes c.in-Some.target in
    let entries = must_be_ok c.insert.result _ _ c.insert.ensures.entries c.insert.ensures.absent
    (λ none. put_there c.args.links.now.entries before k v is none) in
    ap pairs_of entries ∙ put_pairs c.args.links.now.entries c.args.path c.in-Some.target
    ∙ ap (λ l. put l (k, w)) is
    ∙ undo_old before k v w sorted (was ∙ ap (option_map string_bytes) c.in-Some.is)

pub returns-in-None : goal.returns-in-None
returns-in-None c = λ before v sorted is was.
    let k : List ℕ = string_bytes c.args.path in
    let entries = c.args.links.now.entries in
    ap pairs_of c.remove.ensures.entries
    ∙ ap (λ q. pairs_of (remove_entry (λ x. is_eq (slice_cmp nat_cmp q (string_bytes x))) entries))
    c.as_str.ensures.value
    ∙ removed_pairs entries k ∙ ap (remove_entry (λ x. bytes_eq k x)) is
    ∙ undo_new before k v (was ∙ ap (option_map string_bytes) c.in-None.is)
