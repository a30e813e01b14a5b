-- `register::step_down` meets its contract: what the copy leaves is the record stepped. Assumes nothing.
use Prim.Native.Nat.{ℕ}
use mathlib.Core.Path.{sym, ap, ◌∙◌}
use lib.Seq.{length-take-le}
use mathlib.Core.List.{List}
use native.Mathlib.Omega.{arith}
use borrow.Author.Rules.{rules}
use Rattle.register.proofs.Laws.{down_0}
use Rattle.register.proofs.step_down.Goals as goal

pub slice_bounds-copy_from_slice-end : goal.slice_bounds-copy_from_slice-end
slice_bounds-copy_from_slice-end c = sym (length-take-le 136 c.args.source.now (omega arith))

pub copy_from_slice-requires : goal.copy_from_slice-requires
copy_from_slice-requires c = c.if-output-ne136.false ∙ sym (length-take-le 136 c.args.source.now (omega arith))

pub returns : goal.returns
returns c =
    let s = c.args.source.now in
    let o = c.args.output.now in
    ap (λ (t : List ℕ). (0, t)) c.copy_from_slice.ensures.after
    ∙ down_0 s o c.if-output-ne136.false (λ i. omega (arith, c.type_inv.source i)) c.if-source-ne264.false (search rules)
    (search rules)
    (search rules)
