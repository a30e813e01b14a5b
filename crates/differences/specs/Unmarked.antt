-- What `differences-are-whole` says: a block without the six marks, and what then holds of its two records. The other theorems ask for less.
use Rattle.std.specs.Prelude.{ℕ, ◌+◌, ◌*◌, ◌≡◌, Bool, false, not, ◌&&◌, ◌||◌, List, leb, length, drop}
use Rattle.bits.specs.Fields.{digits}
use Rattle.bits.specs.Bytes.{◌!◌, part}
use Rattle.crate_record.specs.Seen.{Seen as CrateSeen}
use Rattle.crate_record.specs.declared.ManufacturerID.{ManufacturerID}
use Rattle.crate_head.specs.Head.{maker_of as crate_maker_of}
use Rattle.standard_record.specs.Seen.{Seen}
use Rattle.standard_record.specs.declared.Maker.{Maker}
use Rattle.standard_parts.specs.Head.{maker_of}
use Rattle.standard_parts.specs.Text.{text_length, all_spaces}
use Rattle.write_leaf.specs.Bytes.{Bytes}
use Rattle.marking.specs.Marks.{in_slots, tagged, marks_in}
use Rattle.differences.specs.Converted.{converted}

-- 128 bytes
pub record Block (s : List ℕ) : Type 0 where
  pub size : length s ≡ 128
  pub bytes : Bytes s

-- none of the marks but that of the revision
pub record Clear (s : List ℕ) : Type 0 where
  pub active : (marks_in s).active ≡ false
  pub dummy : (marks_in s).dummy ≡ false
  pub index : (marks_in s).index ≡ false
  pub gamma : (marks_in s).gamma ≡ false
  pub ratio : (marks_in s).ratio ≡ false

-- none of the marks
pub record Unmarked (s : List ℕ) : Type 0 where
  pub clear : Clear s
  pub revision : (marks_in s).revision ≡ false

-- of a slot, range limits to which the byte behind the tag adds something: code 2 or 3 on an axis
abbrev pub offsets_add : List ℕ → Bool
offsets_add t = tagged 0xfd t && (leb 2 (digits (t ! 4) 0 2) || leb 2 (digits (t ! 4) 2 2))

-- that is so from revision 4 on
abbrev pub NoOffsets : List ℕ → Type 0
NoOffsets s = (leb 4 (s ! 19) && in_slots offsets_add s) ≡ false

-- no mark, but a difference: of a slot, a text with something else than spaces behind its 0x0a
abbrev pub other_fill : List ℕ → Bool
other_fill t = (tagged 0xfc t || tagged 0xfe t || tagged 0xff t) && not (all_spaces (drop (text_length (part t 5 13) + 1) (part t 5 13)))

-- the maker's rule: two bytes give both, the crate's with the low byte first, the standard one with the high byte first
pub record SameWord (first second : ℕ) (number : ManufacturerID) (letters : Maker) : Type 0 where
  pub crate : number ≡ crate_maker_of (first + 256 * second)
  pub standard : letters ≡ maker_of first second

-- all other fields of the crate record are those of the standard record, converted; s is the block
pub record Agree (s : List ℕ) (crate : CrateSeen) (standard : Seen) : Type 0 where
  pub maker : SameWord (s ! 8) (s ! 9) crate.product.maker standard.product.maker
  pub rest : crate ≡ converted crate.product.maker standard
