-- `write_head::color_bytes` meets its contract, by what its callees ensure. Assumes nothing.
use mathlib.Core.Path.{refl}
use Rattle.write_head.proofs.color_bytes.Goals as goal

pub returns : goal.returns
returns c =
    rw (
      c.place_low-4.ensures.0,
      c.place_low-3.ensures.0,
      c.place_low-2.ensures.0,
      c.place_low.ensures.0,
      c.color_excess.ensures,
    ) (record { fits = refl; bytes = λ rest. refl })
