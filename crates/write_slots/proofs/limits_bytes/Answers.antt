-- `write_slots::limits_bytes` meets its contract: by what its callees ensure. Assumes nothing.
use mathlib.Core.Path.{ap, ◌∙◌}
use mathlib.Core.List.{[], ◌∷◌}
use Prim.Native.Nat.{◌/◌}
use Rattle.write_leaf.specs.Bytes.{low}
use Rattle.write_slots.specs.Slot.{ends_bytes}
use Rattle.write_slots.proofs.limits_bytes.Goals as goal

pub returns : goal.returns
returns c =
    let l = c.args.l in
    let hs = c.ends_bytes-h.ensures in
    let vs = c.ends_bytes-v.ensures in
    record {
      fits = rw (c.digit-4.ensures.0, c.digit-3.ensures.0, c.digit-2.ensures.0, c.digit.ensures.0, hs.fits, vs.fits);
      offsets = rw (hs.code, vs.code);
      bytes = vs.bytes _ ∙ ap (ends_bytes l.vmin l.vmax) (hs.bytes (low (l.clock / 10000000) ∷ []));
    }
