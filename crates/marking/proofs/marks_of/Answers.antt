-- `marking::marks_of` meets its contract: by what its callees ensure. Assumes nothing.
use Rattle.marking.specs.Laws.{gathered}
use Rattle.marking.proofs.marks_of.Goals as goal

pub returns : goal.returns
returns c =
    rw (
      ← gathered,
      c.in_block.ensures,
      c.with_slot-m-4.ensures,
      c.part-4.ensures,
      c.with_slot-m-3.ensures,
      c.part-3.ensures,
      c.with_slot-m-2.ensures,
      c.part-2.ensures,
      c.with_slot-m.ensures,
      c.part.ensures,
    )
