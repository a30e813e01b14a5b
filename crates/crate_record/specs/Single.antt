-- The record's f32 numbers, as definitions that compute. The logic sees a float literal of the code as `of_bits binary32` of its bits, so a constant
-- that is written so here meets the code's with no proof. `Known` proves which number each of them is.
use Rattle.std.specs.Prelude.{ℕ, ◌+◌, ◌*◌, pos, Float}
use Rattle.std.specs.Float.{binary32}
use Rattle.std.specs.Float.Ieee.{of_bits, of_int, add, div}
use Rattle.bits.specs.Fields.{digits, by_code}
use Rattle.crate_record.specs.declared.SignalLevel.{SignalLevel}

-- ---- constants

abbrev pub f0 : Float
f0 = of_bits binary32 0x0000_0000

abbrev pub f1 : Float
f1 = of_bits binary32 0x3f80_0000

abbrev pub f2 : Float
f2 = of_bits binary32 0x4000_0000

abbrev pub f3 : Float
f3 = of_bits binary32 0x4040_0000

abbrev pub f4 : Float
f4 = of_bits binary32 0x4080_0000

abbrev pub f5 : Float
f5 = of_bits binary32 0x40a0_0000

abbrev pub f9 : Float
f9 = of_bits binary32 0x4110_0000

abbrev pub f10 : Float
f10 = of_bits binary32 0x4120_0000

abbrev pub f16 : Float
f16 = of_bits binary32 0x4180_0000

abbrev pub f100 : Float
f100 = of_bits binary32 0x42c8_0000

abbrev pub f1024 : Float
f1024 = of_bits binary32 0x4480_0000

abbrev pub f0·7 : Float
f0·7 = of_bits binary32 0x3f33_3333

abbrev pub f0·3 : Float
f0·3 = of_bits binary32 0x3e99_999a

abbrev pub f0·714 : Float
f0·714 = of_bits binary32 0x3f36_c8b4

abbrev pub f0·286 : Float
f0·286 = of_bits binary32 0x3e92_6e98

abbrev pub f0·4 : Float
f0·4 = of_bits binary32 0x3ecc_cccd

-- ---- numbers made of bytes

-- v as f32
abbrev pub whole : ℕ → Float
whole v = of_int binary32 (pos v)

-- (v + 100) / 100
abbrev pub gamma_of : ℕ → Float
gamma_of v = div binary32 (add binary32 (whole v) f100) f100

-- n / 1024
abbrev pub chroma_of : ℕ → Float
chroma_of n = div binary32 (whole n) f1024

-- a high byte above two low digits, in 1/1024ths
abbrev pub coordinate : ℕ → ℕ → ℕ → Float
coordinate high low k = chroma_of (digits low k 2 + 4 * high)

-- n / 10
abbrev pub tenths_of : ℕ → Float
tenths_of n = div binary32 (whole n) f10

-- v / 2
abbrev pub half_of : ℕ → Float
half_of v = div binary32 (whole v) f2

-- the ratio of the two top bits: 16/10, 4/3, 5/4, 16/9
abbrev pub ratio_of : ℕ → Float
ratio_of n = by_code n (div binary32 f16 f10) (div binary32 f4 f3) (div binary32 f5 f4) (div binary32 f16 f9)

abbrev pub levels : Float → Float → SignalLevel
levels h l = record { high = h; low = l }

-- high and low, by bits 6..5
abbrev pub level_of : ℕ → SignalLevel
level_of n = by_code n (levels f0·7 f0·3) (levels f0·714 f0·286) (levels f1 f0·4) (levels f0·7 f0)
