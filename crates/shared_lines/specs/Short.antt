-- How long the lines of both listings can be.
use Rattle.std.specs.Prelude.{ℕ, ◌+◌, ◌≤◌, Bool, List, length, drop}
use Rattle.std.proofs.Common.{arith, length-append}
use Rattle.page.specs.Words.{hex_of2, field8, flat}
use Rattle.page.specs.Short.{field_length, field32_length, field16_length, field8_length, flag_length, byte_length, first_length}
use Rattle.steps.specs.declared.Refusal.{Refusal}
use Rattle.steps.specs.declared.Span.{Span}
use Rattle.timing.specs.declared.Across.{Across}
use Rattle.timing.specs.declared.Down.{Down}
use Rattle.timing.specs.declared.Border.{Border}
use Rattle.timing.specs.declared.StereoType.{StereoType}
use Rattle.timing.specs.declared.SyncPolarity.{SyncPolarity}
use Rattle.timing.specs.declared.SyncPolarity.TheVariants.{Positive, Negative}
use Rattle.shared_lines.specs.Lines.{product_numbers, version_line, input_flags, digital_line, dpms_line, established_line, axes, stereo, border_to_stereo, polarity, text_fields, text_line, raw, raw_fields, raw_line, limits, extensions_line, refuse_line}

pub numbers_length : (code serial week year : ℕ) → length (product_numbers code serial week year) ≤ 28
unfolding product_numbers flat
numbers_length code serial week year =
    simp length-append (omega (arith, field16_length code, field32_length serial, field8_length week, field16_length year))

pub version_length : (version revision : ℕ) → length (version_line version revision) ≤ 16
unfolding version_line flat
version_length version revision = simp length-append (omega (arith, field8_length version, field8_length revision))

pub flags_length : (setup serrated green composite separate : Bool) → length (input_flags setup serrated green composite separate) ≤ 11
unfolding input_flags flat
flags_length setup serrated green composite separate =
    simp length-append
    (omega (arith, flag_length setup, flag_length serrated, flag_length green, flag_length composite, flag_length separate))

pub digital_length : (dfp : Bool) → length (digital_line dfp) ≤ 10
unfolding digital_line flat
digital_length dfp = simp length-append (omega (arith, flag_length dfp))

pub dpms_length : (standby suspend lowpower : Bool) (kind : ℕ) (srgb preferred gtf : Bool)
    → length (dpms_line standby suspend lowpower kind srgb preferred gtf) ≤ 21
unfolding dpms_line flat
dpms_length standby suspend lowpower kind srgb preferred gtf =
    simp length-append
    (omega (
      arith,
      flag_length standby,
      flag_length suspend,
      flag_length lowpower,
      field8_length kind,
      flag_length srgb,
      flag_length preferred,
      flag_length gtf,
    ))

pub established_length : (items : List ℕ) (len : ℕ) → length (established_line items len) ≤ 80
unfolding established_line flat
established_length items len =
    simp length-append (omega (arith, first_length field8 4 17 field8_length len items))

pub axes_length : (clock : ℕ) (a : Across) (d : Down) → length (axes clock a d) ≤ 67
unfolding axes flat
axes_length clock a d =
    simp length-append
    (omega (
      arith,
      field32_length clock,
      field16_length a.active.0,
      field16_length d.active.0,
      field16_length a.front.0,
      field16_length d.front.0,
      field16_length a.sync.0,
      field16_length d.sync.0,
      field16_length a.back.0,
      field16_length d.back.0,
    ))

pub border_length : (b : Border) (interlaced : Bool) (t : StereoType) → length (border_to_stereo b interlaced t) ≤ 18
unfolding border_to_stereo flat
border_length b interlaced t =
    simp length-append
    (omega (arith, field16_length b.across.0, field16_length b.down.0, flag_length interlaced, field8_length (stereo t)))

pub polarity_length : (p : SyncPolarity) → length (polarity p) ≤ 2
unfolding polarity
polarity_length Positive = omega arith
polarity_length Negative = omega arith

pub text_fields_length : (word : List ℕ) (d : Span) → length (text_fields word d) ≤ length word + 42
unfolding text_fields flat
text_fields_length word d = simp length-append (omega (arith, field_length d.start, field_length d.len))

pub text_length_lem : (word : List ℕ) (d : Span) → length (text_line word d) ≤ length word + 43
unfolding text_line flat
text_length_lem word d = simp length-append (omega (arith, text_fields_length word d))

pub raw_length : (s : List ℕ) (n : ℕ) (d : Span) → length (raw s n d) ≤ 31
unfolding raw flat
raw_length s n d =
    simp length-append (omega (arith, field8_length n, first_length hex_of2 2 13 byte_length d.len (drop d.start s)))

pub run_fields_length : (word s : List ℕ) (tag : ℕ) (d : Span) → length (raw_fields word s tag d) ≤ length word + 31
unfolding raw_fields flat
run_fields_length word s tag d = simp length-append (omega (arith, raw_length s tag d))

pub run_length : (word s : List ℕ) (tag : ℕ) (d : Span) → length (raw_line word s tag d) ≤ length word + 32
unfolding raw_line flat
run_length word s tag d = simp length-append (omega (arith, run_fields_length word s tag d))

pub limits_length : (vmin vmax hmin hmax clock : ℕ) → length (limits vmin vmax hmin hmax clock) ≤ 46
unfolding limits flat
limits_length vmin vmax hmin hmax clock =
    simp length-append
    (omega (arith, field8_length vmin, field8_length vmax, field32_length hmin, field32_length hmax, field32_length clock))

pub extensions_length : (n : ℕ) → length (extensions_line n) ≤ 15
unfolding extensions_line flat
extensions_length n = simp length-append (omega (arith, field8_length n))

pub refuse_length : (f : Refusal) → length (refuse_line f) ≤ 32
unfolding refuse_line flat
refuse_length f = simp length-append (omega (arith, field8_length f.number, field_length f.at))
