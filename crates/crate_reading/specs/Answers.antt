-- At most one answer fits the contract of the crate reading.
use Rattle.std.specs.Prelude.{refl}
use Rattle.steps.specs.One.{OneBeside, one_struct}
use Rattle.crate_record.specs.Filler.{blank}
use Rattle.crate_record.specs.declared.Reading.{Reading}

pub one_reading : OneBeside {R = Reading} blank (λ r. r.edid) (λ r. r.end)
one_reading = one_struct _ _ _ (λ p. record { edid = p.0; end = p.1 }) (λ r. refl)
