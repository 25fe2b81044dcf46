-- What a tree in memory shows, and what it answers.
use Rattle.std.specs.Prelude.{◌≡◌, ℕ, List, [], Bool, if◌then◌else◌, Option, Some, None, Result, Ok, Err}
use Rattle.std.proofs.Common.{ap, subst}
use Rattle.std.specs.List.{list_any}
use Rattle.std.specs.Option.{unwrap_or}
use Rattle.std.specs.Str.{bytes_eq}
use Rattle.dist_types.specs.InMemory.{is_listed}
use Rattle.path_pkg.specs.Told.{Told, Nodes, WhereTold, IsInByteOrder}
use Rattle.path_pkg.specs.Tree.{kind_at, link_at}
use Rattle.path_pkg.specs.Resolved.{target_kind_at, content_at, is_below, paths_below}
use Rattle.path_pkg.specs.MapNodes.{nodes_of}
use Rattle.path_pkg.specs.declared.node.Kind.{Kind}
use Rattle.path_pkg.specs.declared.fault.TreeFault.{TreeFault}
use Rattle.path_pkg.specs.declared.fault.TreeFault.TheVariants.{Failed, NotUtf8, Memory}
use Rattle.path_pkg.specs.declared.mem_tree.MemTree.{MemTree}

-- what stands where
abbrev pub tree_nodes : MemTree → Nodes
tree_nodes t = nodes_of t.nodes.entries

-- the numbers of the calls that are to fail
abbrev pub tree_fails : MemTree → List ℕ
tree_fails t = t.fails.items

-- the paths of links whose targets, and of other things whose names, are not UTF-8
abbrev pub tree_misnames : MemTree → List (List ℕ)
tree_misnames t = t.misnames.items

-- how many calls were made, which is the number of the next one
abbrev pub tree_calls : MemTree → ℕ
tree_calls t = t.calls

-- how often it failed
abbrev pub tree_faults : MemTree → ℕ
tree_faults t = t.faults

-- how often a name or a target was not UTF-8
abbrev pub tree_misnamed : MemTree → ℕ
tree_misnamed t = t.misnamed

-- what it tells
abbrev pub tree_told : MemTree → Told
tree_told t = record { nodes = Some (nodes_of t.nodes.entries); faults = t.faults; misnamed = t.misnamed }

-- whether the next call is to fail
abbrev pub is_to_fail : MemTree → Bool
is_to_fail t = is_listed t.fails.items t.calls

-- the answer to `kind`
abbrev pub kind_verdict : MemTree → List ℕ → Result Kind TreeFault
kind_verdict t path = if is_to_fail t then Err Failed else Ok (kind_at (tree_nodes t) path)

-- what reading the link gives, where its path may be listed as one whose target is not UTF-8
abbrev pub link_answer : List (List ℕ) → List ℕ → Option (List ℕ) → Result (List ℕ) TreeFault
link_answer misnames path (Some target) = if list_any (bytes_eq path) misnames then Err NotUtf8 else Ok target
link_answer misnames path None = Err Failed

-- the answer to `read_link`
abbrev pub link_verdict : MemTree → List ℕ → Result (List ℕ) TreeFault
link_verdict t path =
    if is_to_fail t then Err Failed else link_answer (tree_misnames t) path (link_at (tree_nodes t) path)

-- the answer to `target_kind`
abbrev pub target_kind_verdict : MemTree → List ℕ → Result Kind TreeFault
target_kind_verdict t path = if is_to_fail t then Err Failed else Ok (target_kind_at (tree_nodes t) path)

abbrev pub or_failed : Option (List ℕ) → Result (List ℕ) TreeFault
or_failed (Some bytes) = Ok bytes
or_failed None = Err Failed

-- the answer to `read`
abbrev pub read_verdict : MemTree → List ℕ → Result (List ℕ) TreeFault
read_verdict t path = if is_to_fail t then Err Failed else or_failed (content_at (tree_nodes t) path)

-- the answer to `walk`
abbrev pub walk_verdict : MemTree → List ℕ → Result (List (List ℕ)) TreeFault
walk_verdict t path =
    if is_to_fail t then Err Failed
    else if list_any (is_below path) (tree_misnames t) then Err NotUtf8
    else Ok (paths_below (tree_nodes t) path)

-- the answer, seen through a view, is the verdict, unless memory ran out
abbrev pub Answers : {T U : Type 0} → (T → U) → Result U TreeFault → Result T TreeFault → Type 0
Answers seen verdict (Ok x) = verdict ≡ Ok (seen x)
Answers seen verdict (Err e) = ¬ (e ≡ Memory) → verdict ≡ Err e

-- what it tells is in byte order
pub told_in_byte_order : (tree : MemTree) → WhereTold (tree_told tree) IsInByteOrder
told_in_byte_order tree t told =
    let same : tree_nodes tree ≡ t = ap (λ o. unwrap_or o []) told in
    subst IsInByteOrder same tree.in_byte_order
