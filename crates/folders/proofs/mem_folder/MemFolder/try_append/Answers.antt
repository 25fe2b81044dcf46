use Rattle.std.proofs.Common.{arith, ap, sym, ◌∙◌, if◌then◌else◌}
use Rattle.dist_types.specs.Cause.{counted}
use Rattle.folders.specs.Files.{file_at, put}
use Rattle.folders.proofs.Distinct.{put_distinct}
use Rattle.folders.proofs.Parts.{more_written}
use Rattle.folders.proofs.mem_folder.MemFolder.try_append.Goals as goal

pub invariant_of-self-2 : goal.invariant_of-self-2
invariant_of-self-2 c = record {
  distinct = put_distinct c.args.path.now _ c.args.self.now.files.items
      c.put.new.files.items c.in_ok-put.ensures.ok c.args.self.now.distinct;
}

pub returns-clause-appends : goal.returns-clause-appends
returns-clause-appends c =
    let piece = c.in_ok-piece.piece in
    more_written c.args.path.now c.args.bytes.now c.in-Some.there.now piece.length c.args.self.now.files.items
    c.put.new.files.items c.end.result piece.breaks c.args.self.now.calls.faults
    c.end.new.self.faults c.in_ok-piece.ensures.whole (ap (λ l. file_at l c.args.path.now) (sym c.deref.ensures.value)
    ∙ sym c.in-Some.ensures)
    (c.in_ok-put.ensures.ok ∙ ap (λ b. put c.args.path.now b c.args.self.now.files.items)
    (c.get.ensures.bytes ∙ c.in_ok-whole.ensures)) c.end.ensures.answer
    (ap (λ k. k.faults) c.end.ensures.calls
    ∙ ap (λ n. if piece.breaks then counted n else n) c.in_ok-piece.ensures.steady)
    (omega (arith, c.end.ensures.later, c.in_ok-piece.ensures.steady))
