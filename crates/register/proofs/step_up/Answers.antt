-- `register::step_up` meets its contract: what the copies leave is the record stepped. Assumes nothing.
use Prim.Native.Nat.{ℕ}
use mathlib.Core.Path.{refl, sym, ap, ◌∙◌}
use lib.Seq.{length-take-le}
use mathlib.Core.List.{List}
use native.Mathlib.Omega.{arith}
use borrow.Author.Rules.{rules}
use Rattle.register.proofs.Laws.{up_0, laid}
use Rattle.register.proofs.step_up.Goals as goal

pub slice_bounds-copy_from_slice-end-2 : goal.slice_bounds-copy_from_slice-end-2
slice_bounds-copy_from_slice-end-2 c = sym (length-take-le 136 c.args.output.now (omega arith))

pub copy_from_slice-requires : goal.copy_from_slice-requires
copy_from_slice-requires c = length-take-le 136 c.args.output.now (omega arith) ∙ sym c.if-source-ne136.false

pub returns : goal.returns
returns c =
    let s = c.args.source.now in
    let o = c.args.output.now in
    ap (λ (t : List ℕ). (0, t)) (laid s o c.copy_from_slice.new.self c.copy_from_slice-2.new.self _ c.if-source-ne136.false c.if-output-ne264.false c.copy_from_slice.ensures.after c.copy_from_slice-2.ensures.after refl)
    ∙ up_0 s o c.if-output-ne264.false (λ i. omega (arith, c.type_inv.source i)) c.if-source-ne136.false
    (search rules)
