-- `crate_head::take_front` meets its contract: one read after the other. Assumes nothing.
use Rattle.std.proofs.Common.{rules, refl}
use Rattle.steps.specs.Took.{then, stop, gives}
use Rattle.crate_head.specs.Head.{front}
use Rattle.crate_head.proofs.take_front.Goals as goal

pub returns-in_err-take_header : goal.returns-in_err-take_header
unfolding front
returns-in_err-take_header c = stop _ c.in_err-take_header.ensures (search rules)

pub returns-in_err-take_product : goal.returns-in_err-take_product
unfolding front
returns-in_err-take_product c =
    then _ c.in_ok-take_header.ensures
    (stop _ c.in_err-take_product.ensures (search rules))

pub returns-in_err-take_version : goal.returns-in_err-take_version
unfolding front
returns-in_err-take_version c =
    then _ c.in_ok-take_header.ensures
    (then _ c.in_ok-take_product.ensures
    (stop _ c.in_err-take_version.ensures (search rules)))

pub returns-in_err-take_display : goal.returns-in_err-take_display
unfolding front
returns-in_err-take_display c =
    then _ c.in_ok-take_header.ensures
    (then _ c.in_ok-take_product.ensures
    (then _ c.in_ok-take_version.ensures
    (stop _ c.in_err-take_display.ensures (search rules))))

pub returns-in_err-take_color : goal.returns-in_err-take_color
unfolding front
returns-in_err-take_color c =
    then _ c.in_ok-take_header.ensures
    (then _ c.in_ok-take_product.ensures
    (then _ c.in_ok-take_version.ensures
    (then _ c.in_ok-take_display.ensures
    (stop _ c.in_err-take_color.ensures (search rules)))))

pub returns : goal.returns
unfolding front
returns c =
    then _ c.in_ok-take_header.ensures
    (then _ c.in_ok-take_product.ensures
    (then _ c.in_ok-take_version.ensures
    (then _ c.in_ok-take_display.ensures
    (then _ c.in_ok-take_color.ensures
    (gives refl)))))
