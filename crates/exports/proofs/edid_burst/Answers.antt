-- `exports::edid_burst` meets its contract, by the case that is told. Assumes nothing.
use Rattle.std.proofs.Common.{sym, ap, ◌∙◌}
use Rattle.exports.specs.Numbers.{number_told, number_told_of}
use Rattle.exports.proofs.edid_burst.Goals as goal

pub returns-in-None : goal.returns-in-None
returns-in-None c = let t = c.take.ensures in (t.0, ap number_told (sym c.in-None.is ∙ t.1))

pub returns-in-Some : goal.returns-in-Some
returns-in-Some c = let t = c.take.ensures in
    (t.0, c.number_of.ensures ∙ number_told_of c.in-Some.end ∙ ap number_told (sym c.in-Some.is ∙ t.1))
