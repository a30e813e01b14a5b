-- A verdict is the first refusal in order, or none; here is what is judged before the slots, in standard_reading/specs/Slots the whole.
use Rattle.std.specs.Prelude.{ℕ, Bool, true, false, ◌&&◌, List, eqb, length, Ok, Err}
use Rattle.bits.specs.Bytes.{◌!◌}
use Rattle.sums.specs.Sum.{byte_sum}
use Rattle.standard_record.specs.Verdict.{Verdict}

-- a refusal has a number and a place
abbrev pub refused_at : ℕ → ℕ → Verdict
refused_at n at = Err (record { number = n; at = at })

-- refused where the test fails
abbrev pub must : Bool → ℕ → ℕ → Verdict
must true n at = Ok tt
must false n at = refused_at n at

infixl 20 ◌then◌
-- the first refusal stays
abbrev pub ◌then◌ : Verdict → Verdict → Verdict
Err f then v = Err f
(Ok tt) then v = v

-- 00 FF FF FF FF FF FF 00
abbrev pub is_header : List ℕ → Bool
is_header s =
    (eqb (s ! 0) 0x00 && eqb (s ! 1) 0xff && eqb (s ! 2) 0xff && eqb (s ! 3) 0xff)
    && (eqb (s ! 4) 0xff && eqb (s ! 5) 0xff && eqb (s ! 6) 0xff && eqb (s ! 7) 0x00)

unfoldable pub before_slots : List ℕ → Verdict
before_slots s =
    must (eqb (length s) 128) 7 0
    then must (is_header s) 2 0
    then must (eqb (byte_sum s) 0) 8 127
    then must (eqb (s ! 18) 1) 9 18
