-- `standard_writing::write_standard` meets its contract: each answer by its test. Assumes nothing.
use Rattle.std.proofs.Common.{refl, arith}
use Rattle.write_block.specs.Gives.{wrong_length}
use Rattle.standard_writing.proofs.Laws.{done, not_done}
use Rattle.standard_writing.proofs.write_standard.Goals as goal

pub returns-then-out-ne128 : goal.returns-then-out-ne128
returns-then-out-ne128 c = wrong_length (λ e. c.if-out-ne128.true e) refl refl

pub returns-else-fill : goal.returns-else-fill
returns-else-fill c =
    not_done c.args.r c.args.lent.now c.args.out.now _ _ c.fill.ensures c.if-fill.false (omega arith)

pub returns-then-fill : goal.returns-then-fill
returns-then-fill c =
    done c.args.r c.args.lent.now c.args.out.now c.fill.new.block _ _ c.fill.ensures c.if-fill.true (omega arith) c.lay.ensures (λ i. omega (arith, c.type_inv.out i))
