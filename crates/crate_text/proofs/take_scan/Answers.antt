-- `crate_text::take_scan` meets its contract: what is left of the scan at the cursor. Assumes nothing.
use Rattle.std.proofs.Common.{ℕ, rules, refl, ap, arith, Ok, eq-eqb, ne_eqb}
use Rattle.steps.specs.Laws.{picked, picked_not}
use Rattle.steps.specs.Took.{then, stop, gives, as_of}
use Rattle.crate_text.specs.Laws.{scan_more, scan_end}
use Rattle.crate_text.proofs.take_scan.Goals as goal

pub loop-i-init : goal.loop-i-init
loop-i-init c = λ r new t. t

pub returns-in_err-byte : goal.returns-in_err-byte
returns-in_err-byte c =
    c.loop-i.invariant _ _ (as_of (scan_more _ c.loop-i-test.true) (stop _ c.in_err-byte.ensures (search rules)))

pub returns-then-branch-eq10 : goal.returns-then-branch-eq10
returns-then-branch-eq10 c =
    c.loop-i.invariant _ _ (as_of (scan_more _ c.loop-i-test.true)
    (then _ c.in_ok-byte.ensures (as_of (picked _ _ _ (eq-eqb _ _ c.if-branch-eq10.true)) (gives refl))))

pub loop-i-preserved : goal.loop-i-preserved
loop-i-preserved c = λ r new t.
    c.loop-i.invariant _ _ (as_of (scan_more _ c.loop-i-test.true)
    (then _ c.in_ok-byte.ensures (as_of (picked_not _ _ _ (ne_eqb _ _ c.if-branch-eq10.false)) t)))

pub returns : goal.returns
returns c = c.loop-i.invariant _ _ (as_of (scan_end _ c.loop-i-test.false) (gives (ap (λ (n : ℕ). Ok n) (omega (arith, c.loop-i.auto.i-end)))))
