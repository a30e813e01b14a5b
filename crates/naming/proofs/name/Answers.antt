-- `naming::name` meets its contract: each arm by what was found, whose part is within its block. Assumes nothing.
use mathlib.Core.Path.{sym, ◌∙◌}
use Rattle.naming.proofs.Promises.{within}
use Rattle.naming.proofs.name.Goals as goal

pub part_of-requires : goal.part_of-requires
part_of-requires c =
    let a = c.args in
    rw (sym c.found.ensures ∙ c.in-Panel.is) at (within a.panel.now a.reference.now)

pub part_of-requires-in-Reference : goal.part_of-requires-in-Reference
part_of-requires-in-Reference c =
    let a = c.args in
    rw (sym c.found.ensures ∙ c.in-Reference.is) at (within a.panel.now a.reference.now)

pub returns-in-Panel : goal.returns-in-Panel
returns-in-Panel c = rw (sym c.found.ensures ∙ c.in-Panel.is) c.part_of.ensures

pub returns-in-Reference : goal.returns-in-Reference
returns-in-Reference c = rw (sym c.found.ensures ∙ c.in-Reference.is) c.part_of-in-Reference.ensures

pub returns-in-Neither : goal.returns-in-Neither
returns-in-Neither c = rw (sym c.found.ensures ∙ c.in-Neither.is) c.part_of-in-Neither.ensures
