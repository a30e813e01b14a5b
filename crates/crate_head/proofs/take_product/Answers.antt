-- `crate_head::take_product` meets its contract: one read after the other. Assumes nothing.
use Rattle.std.proofs.Common.{rules, refl}
use Rattle.steps.specs.Took.{then, stop, gives}
use Rattle.crate_head.specs.Head.{product}
use Rattle.crate_head.proofs.take_product.Goals as goal

pub returns-in_err-take_maker : goal.returns-in_err-take_maker
unfolding product
returns-in_err-take_maker c = stop _ c.in_err-take_maker.ensures (search rules)

pub returns-in_err-word : goal.returns-in_err-word
unfolding product
returns-in_err-word c =
    then _ c.in_ok-take_maker.ensures
    (stop _ c.in_err-word.ensures (search rules))

pub returns-in_err-long : goal.returns-in_err-long
unfolding product
returns-in_err-long c =
    then _ c.in_ok-take_maker.ensures
    (then _ c.in_ok-word.ensures
    (stop _ c.in_err-long.ensures (search rules)))

pub returns-in_err-take_date : goal.returns-in_err-take_date
unfolding product
returns-in_err-take_date c =
    then _ c.in_ok-take_maker.ensures
    (then _ c.in_ok-word.ensures
    (then _ c.in_ok-long.ensures
    (stop _ c.in_err-take_date.ensures (search rules))))

pub returns : goal.returns
unfolding product
returns c =
    then _ c.in_ok-take_maker.ensures
    (then _ c.in_ok-word.ensures
    (then _ c.in_ok-long.ensures
    (then _ c.in_ok-take_date.ensures
    (gives refl))))
