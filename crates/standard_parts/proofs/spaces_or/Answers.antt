-- `standard_parts::spaces_or` meets its contract: `all` is `every`. Assumes nothing.
use Rattle.std.proofs.Common.{◌≡◌, true, false, rules, ◌||◌, eqb}
use Rattle.std.proofs.lemmas.Iterator.{cases_from_all, YieldsList-from_slice}
use borrow.Author.Tests.{tests}
use Rattle.standard_parts.proofs.Laws.{every_is}
use Rattle.standard_parts.proofs.spaces_or.Goals as goal

pub returns : goal.returns
returns c =
    let other = c.args.other in
    every_is (λ b. eqb b 0x20 || eqb b other) c.args.s.now _
    (cases_from_all _ _ _ (λ b. (eqb b 0x20 || eqb b other) ≡ true) (λ b. (eqb b 0x20 || eqb b other) ≡ false) c.all.ensures.ran
    (YieldsList-from_slice c.args.s.now cc) (λ x q k. search (rules, tests)) (λ x q k. search (rules, tests)))
