-- `standard_parts::text_length` meets its contract: `position` finds the first 0x0a. Assumes nothing.
use Rattle.std.proofs.Common.{◌≡◌, ◌∙◌, true, false, rules, eqb}
use Rattle.std.proofs.lemmas.Iterator.{IsFirst-from_position, YieldsList-from_slice}
use borrow.Author.Tests.{tests}
use Rattle.standard_parts.proofs.Laws.{text_length_is}
use Rattle.standard_parts.proofs.text_length.Goals as goal

pub returns : goal.returns
returns c =
    c.unwrap_or.ensures
    ∙ text_length_is c.args.s.now _
    (IsFirst-from_position _ _ _ (λ b. eqb b 0x0a ≡ true) (λ b. eqb b 0x0a ≡ false) c.position.ensures.ran
    (YieldsList-from_slice c.args.s.now cc) (λ x q k. search (rules, tests)) (λ x q k. search (rules, tests)))
