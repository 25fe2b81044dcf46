use Rattle.std.proofs.Common.{arith, ap, ◌∙◌, if◌then◌else◌}
use Rattle.dist_types.specs.Cause.{counted}
use Rattle.folders.proofs.Distinct.{put_distinct}
use Rattle.folders.proofs.Parts.{written}
use Rattle.folders.proofs.mem_folder.MemFolder.try_write.Goals as goal

pub invariant_of-self-2 : goal.invariant_of-self-2
invariant_of-self-2 c = record {
  distinct = put_distinct c.args.path.now _ c.args.self.now.files.items
      c.put.new.files.items c.in_ok-put.ensures.ok c.args.self.now.distinct;
}

pub returns-clause-writes : goal.returns-clause-writes
returns-clause-writes c =
    let piece = c.in_ok-piece.piece in
    written c.args.path.now c.args.bytes.now piece.length c.args.self.now.files.items c.put.new.files.items
    c.end.result piece.breaks c.args.self.now.calls.faults c.end.new.self.faults c.in_ok-piece.ensures.whole
    c.in_ok-put.ensures.ok c.end.ensures.answer
    (ap (λ k. k.faults) c.end.ensures.calls
    ∙ ap (λ n. if piece.breaks then counted n else n) c.in_ok-piece.ensures.steady)
    (omega (arith, c.end.ensures.later, c.in_ok-piece.ensures.steady))
