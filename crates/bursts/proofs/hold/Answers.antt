-- `bursts::hold` meets its contract. The invariant: the first i bytes of the burst are pasted in. Assumes nothing.
use Rattle.std.proofs.Common.{rules, ℕ, ◌≡◌, ◌+◌, List, set, ap, sym, ◌∙◌, add-one, arith}
use lib.ListN.{get_or}
use lib.Seq.{paste, paste-zero, paste-suc}
use Rattle.bursts.specs.Bursts.{held, stage}
use Rattle.bursts.specs.Laws.{holds_more, stage_same}
use Rattle.bursts.proofs.hold.Goals as goal

pub loop-i-init : goal.loop-i-init
loop-i-init c = paste-zero c.args.state.now c.count-from.result c.args.burst.now

pub loop-i-preserved : goal.loop-i-preserved
loop-i-preserved c =
    let a = c.args in
    let i = c.loop-i.i in
    let from = c.count-from.result in
    ap (λ (l : List ℕ). set l (from + i) (get_or a.burst.now i 0)) c.loop-i.invariant
    ∙ paste-suc a.state.now from a.burst.now i 0 (search rules) (search rules)
    ∙ ap (paste a.state.now from a.burst.now) (sym (add-one i))

pub returns : goal.returns
returns c =
    let a = c.args in
    let from = c.count-from.result in
    let many = c.min-many.result in
    let done : c.loop-i.i ≡ many = omega (arith, c.loop-i.auto.i-end, c.loop-i-test.false) in
    let filled : c.loop-i.state ≡ paste a.state.now from a.burst.now many = c.loop-i.invariant ∙ ap (paste a.state.now from a.burst.now) done in
    let f = c.count-from.ensures in
    let m = c.min-many.ensures in (
      ap (λ (l : List ℕ). held (set l 142 (from + many))) filled ∙ holds_more a.state.now a.burst.now from many (search rules) f m,
      ap (λ (l : List ℕ). stage (set l 142 (from + many))) filled ∙ stage_same a.state.now a.burst.now from many (search rules) f m,
    )
