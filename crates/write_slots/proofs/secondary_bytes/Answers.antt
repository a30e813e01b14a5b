-- `write_slots::secondary_bytes` meets its contract: each variant by what its callees ensure. Assumes nothing.
use mathlib.Core.Path.{refl, ap, ◌∙◌}
use mathlib.Core.List.{◌∷◌}
use Rattle.fixed.specs.Fixed.{pad}
use Rattle.write_slots.specs.Words.{bytes_of}
use Rattle.write_slots.proofs.Runs.{gets_seven}
use Rattle.write_slots.proofs.secondary_bytes.Goals as goal

pub returns-in-None : goal.returns-in-None
returns-in-None c = rw c.in-None.is (refl, refl)

pub returns-in-Other : goal.returns-in-Other
returns-in-Other c =
    let run = bytes_of c.args.lent.now c.in-Other.data in (
      rw (c.in-Other.is, c.digit-in-Other-2.ensures.0, c.exact.ensures, c.digit-in-Other.ensures.0, c.digit.ensures.0),
      rw c.in-Other.is (ap (λ l. c.in-Other.kind ∷ l) (gets_seven _ run (c.run_bytes-b.ensures ∙ ap (pad 13 0) c.part.ensures))),
    )
