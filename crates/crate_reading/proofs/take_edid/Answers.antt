-- `crate_reading::take_edid` meets its contract: one read after the other. Assumes nothing.
use Rattle.std.proofs.Common.{Ok, ap, rules}
use Rattle.steps.specs.Took.{as_of, gives, stop, then}
use Rattle.crate_reading.proofs.Filling.{fill_reading, reading_filled}
use Rattle.crate_reading.proofs.take_edid.Goals as goal

pub returns-in_err-front : goal.returns-in_err-front
unfolding fill_reading
returns-in_err-front c = as_of reading_filled (stop _ c.in_err-front.ensures (search rules))

pub returns-in_err-established : goal.returns-in_err-established
unfolding fill_reading
returns-in_err-established c = as_of reading_filled (then _ c.in_ok-front.ensures (stop _ c.in_err-established.ensures (search rules)))

pub returns-in_err-eight : goal.returns-in_err-eight
unfolding fill_reading
returns-in_err-eight c =
    as_of reading_filled (then _ c.in_ok-front.ensures (then _ c.in_ok-established.ensures (stop _ c.in_err-eight.ensures (search rules))))

pub returns-in_err-lists : goal.returns-in_err-lists
unfolding fill_reading
returns-in_err-lists c =
    as_of reading_filled (then _ c.in_ok-front.ensures (then _ c.in_ok-established.ensures (then _ c.in_ok-eight.ensures (stop _ c.in_err-lists.ensures (search rules)))))

pub returns-in_err-extensions : goal.returns-in_err-extensions
unfolding fill_reading
returns-in_err-extensions c =
    as_of reading_filled (then _ c.in_ok-front.ensures (then _ c.in_ok-established.ensures (then _ c.in_ok-eight.ensures (then _ c.in_ok-lists.ensures (stop _ c.in_err-extensions.ensures (search rules))))))

pub returns : goal.returns
unfolding fill_reading
returns c =
    as_of reading_filled (then _ c.in_ok-front.ensures (then _ c.in_ok-established.ensures (then _ c.in_ok-eight.ensures (then _ c.in_ok-lists.ensures (then _ c.in_ok-extensions.ensures (gives (ap Ok c.edid_of.ensures)))))))
