-- `crate_text::take_text` meets its contract: one read after the other. Assumes nothing.
use Rattle.std.proofs.Common.{rules, refl}
use Rattle.steps.specs.Took.{then, stop, gives, at_place}
use Rattle.crate_text.specs.Text.{text}
use Rattle.crate_text.proofs.take_text.Goals as goal

pub returns-in_err-len : goal.returns-in_err-len
unfolding text
returns-in_err-len c = at_place _ (stop _ c.in_err-len.ensures (search rules))

pub returns-in_err-take_padding : goal.returns-in_err-take_padding
unfolding text
returns-in_err-take_padding c = at_place _ (then _ c.in_ok-len.ensures (stop _ c.in_err-take_padding.ensures (search rules)))

pub returns : goal.returns
unfolding text
returns c = at_place _ (then _ c.in_ok-len.ensures (then _ c.in_ok-take_padding.ensures (gives refl)))
