-- What the answers of the code say: a number, a piece with what stands behind it, and bytes in their array.
use Rattle.std.specs.Prelude.{ℕ, cond, ◌&&◌, Option, Some, None, List, leb, length}
use Rattle.std.proofs.Math.Option.{none, some}
use Rattle.std.proofs.Math.Option.{Option as Maybe}
use Rattle.fixed.specs.Fixed.{pad}
use Rattle.text_kinds.specs.Kinds.{all_digits, value, is_number, is_hex, hex_value, Piece, byte, ends, wrong}
use Rattle.text_kinds.specs.declared.Next.{Next}
use Rattle.text_kinds.specs.declared.Next.TheVariants.{Byte, Ends}
use Rattle.text_kinds.specs.declared.Kept.{Kept}

-- the number that w is, if it is one
abbrev pub number_in : ℕ → List ℕ → Option ℕ
number_in most w = cond (is_number most w) (Some (value 0 w)) None

-- the number that digits stand for, of 32 bits
abbrev pub digits_in : List ℕ → Option ℕ
digits_in w = cond (all_digits w && leb (value 0 w) 4294967295) (Some (value 0 w)) None

abbrev pub hex_digit : ℕ → Option ℕ
hex_digit b = cond (is_hex b) (Some (hex_value b)) None

abbrev pub piece_of : Option Next → Piece
piece_of None = wrong
piece_of (Some (Byte b rest)) = byte b rest.now
piece_of (Some Ends) = ends

abbrev pub kept_of : Maybe (List ℕ) → Option Kept
kept_of none = None
kept_of (some bs) = Some (record { bytes = pad 13 0 bs; len = length bs })
