use Rattle.std.proofs.Common.{◌∙◌, sym, ap, map, string_bytes}
use Rattle.path_pkg.specs.Place.{spot_of}
use Rattle.path_pkg.specs.Resolved.{paths_below}
use Rattle.path_pkg.proofs.FoundLemmas.{found_there, found_behind}
use Rattle.path_pkg.proofs.TakenLemmas.{gives_same}
use Rattle.path_pkg.proofs.collect.contents_at.Goals as goal

pub returns-in-Ok-clause-records : goal.returns-in-Ok-clause-records
returns-in-Ok-clause-records g c = λ t e.
    let next = ap (λ w. w.nodes) c.in_ok-paths.ensures.leaves ∙ e in
    let same = ap (paths_below t) (c.as_str.ensures.value ∙ c.in_ok-path.ensures) in
    gives_same (λ v. v.items) _ _ c.checked.result
    (found_behind t (spot_of c.args.place.now) _ _ _ _
    (ap (map string_bytes) c.deref.ensures.value ∙ c.in_ok-paths.ensures.paths t e ∙ same)
    c.deref-in-Ok.ensures.value c.in_ok-records-in-Ok.ensures (c.in-Ok.ensures.records t next))
    c.checked.ensures.records

pub returns-clause-records : goal.returns-clause-records
returns-clause-records g c = λ t e d.
    let next = ap (λ w. w.nodes) c.in_ok-paths.ensures.leaves ∙ e in
    let same = ap (paths_below t) (c.as_str.ensures.value ∙ c.in_ok-path.ensures) in
    found_there t (spot_of c.args.place.now) _ _
    (ap (map string_bytes) c.deref.ensures.value ∙ c.in_ok-paths.ensures.paths t e ∙ same)
    (c.in-Err.ensures.records t next d)
