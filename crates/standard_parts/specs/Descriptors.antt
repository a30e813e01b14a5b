-- What the bytes of a descriptor slot say. They are named by their place in the slot's 18.
use Rattle.std.specs.Prelude.{ℕ, ◌+◌, ◌*◌, Bool, cond, eqb, ltb, Result, Ok, Err}
use Rattle.bits.specs.Fields.{digits}
use Rattle.steps.specs.declared.Span.{Span}
use Rattle.standard_record.specs.declared.Limits.{Limits}
use Rattle.standard_record.specs.declared.SecondaryTiming.{SecondaryTiming}
use Rattle.standard_record.specs.declared.SecondaryTiming.TheVariants.{None, GTF, Other}
use Rattle.standard_parts.specs.Structure.{since4}
use Rattle.standard_parts.specs.declared.Structure.{Structure}

-- what the code of an offset adds to the lower end of a range, and to the upper end; 1 is reserved
abbrev pub to_min : ℕ → ℕ
to_min code = cond (eqb code 3) 255 0

abbrev pub to_max : ℕ → ℕ
to_max code = cond (ltb code 2) 0 255

-- the byte of the offsets, that behind the tag: it came with revision 4
abbrev pub offsets_of : Structure → ℕ → ℕ
offsets_of σ b4 = cond (since4 σ) b4 0

-- its last two digits are the code of the vertical rates, the two before them that of the horizontal ones
unfoldable pub limits_of : ℕ → ℕ → ℕ → ℕ → ℕ → ℕ → Limits
limits_of offsets b5 b6 b7 b8 b9 =
    let v = digits offsets 0 2 in
    let h = digits offsets 2 2 in
    record {
      vmin = b5 + to_min v;
      vmax = b6 + to_max v;
      hmin = (b7 + to_min h) * 1000;
      hmax = (b8 + to_max h) * 1000;
      clock = b9 * 10000000;
    }

-- `rest` is where bytes 11 to 17 stand
unfoldable pub secondary_of : ℕ → ℕ → ℕ → ℕ → ℕ → ℕ → ℕ → Span → SecondaryTiming
secondary_of kind b12 b13 b14 b15 b16 b17 rest =
    cond (eqb kind 0) None (cond (eqb kind 2) (GTF (b12 * 2000) b13 (b14 + 256 * b15) b16 b17) (Other kind rest))

-- ---- the number of the refusal that closing bytes give

-- 0x0a, then spaces
unfoldable pub closing_refusal : ℕ → Bool → Result Unit ℕ
closing_refusal b spaces = cond (eqb b 0x0a) (cond spaces (Ok tt) (Err 5)) (Err 4)

-- of range limits, by their kind: 0 has nothing behind byte 11, 2 has a reserved byte there
unfoldable pub range_refusal : ℕ → ℕ → Bool → Result Unit ℕ
range_refusal kind b11 spaces = cond (eqb kind 0) (closing_refusal b11 spaces) (cond (eqb kind 2) (cond (eqb b11 0) (Ok tt) (Err 4)) (Ok tt))
