-- The entries of the four lists: what a slot says, with the slot's number beside it.
use Rattle.std.specs.Prelude.{refl}
use Rattle.fixed.specs.Numbered.{Wrapper}
use Rattle.standard_record.specs.declared.WhitePoint.{WhitePoint}
use Rattle.standard_record.specs.declared.HeldPoint.{HeldPoint}
use Rattle.standard_record.specs.declared.StandardTiming.{StandardTiming}
use Rattle.standard_record.specs.declared.HeldPair.{HeldPair}
use Rattle.standard_record.specs.declared.DetailedTiming.{DetailedTiming}
use Rattle.standard_record.specs.declared.HeldTiming.{HeldTiming}
use Rattle.standard_record.specs.declared.Descriptor.{Descriptor}
use Rattle.standard_record.specs.declared.Held.{Held}

abbrev pub held_point : Wrapper WhitePoint HeldPoint
held_point = record {
  wrap = λ n p. record { point = p; slot = n };
  number = λ h. h.slot;
  entry = λ h. h.point;
  number_is = λ n p. refl;
  entry_is = λ n p. refl;
  whole = λ h. refl;
}

abbrev pub held_pair : Wrapper StandardTiming HeldPair
held_pair = record {
  wrap = λ n p. record { pair = p; slot = n };
  number = λ h. h.slot;
  entry = λ h. h.pair;
  number_is = λ n p. refl;
  entry_is = λ n p. refl;
  whole = λ h. refl;
}

abbrev pub held_timing : Wrapper DetailedTiming HeldTiming
held_timing = record {
  wrap = λ n t. record { timing = t; slot = n };
  number = λ h. h.slot;
  entry = λ h. h.timing;
  number_is = λ n t. refl;
  entry_is = λ n t. refl;
  whole = λ h. refl;
}

abbrev pub held : Wrapper Descriptor Held
held = record {
  wrap = λ n d. record { descriptor = d; slot = n };
  number = λ h. h.slot;
  entry = λ h. h.descriptor;
  number_is = λ n d. refl;
  entry_is = λ n d. refl;
  whole = λ h. refl;
}
