-- Worked words: antt computes each definition to the text.
use Rattle.std.specs.Prelude.{[], ◌∷◌, ◌≡◌, refl}
use Rattle.std.specs.Float.{binary32}
use Rattle.std.specs.Float.Ieee.{of_bits, to_bits}
use Rattle.page.specs.Words.{text, decimal_in, field, field8, hex_digit, hex_of2, hex_of4, hex_of8, float, each}

word : text "size " ≡ 115 ∷ 105 ∷ 122 ∷ 101 ∷ 32 ∷ []
word = refl

zero_is : field8 0 ≡ text " 0"
unfolding field8 decimal_in
zero_is = refl

byte_is : field8 255 ≡ text " 255"
unfolding field8 decimal_in
byte_is = refl

clock_is : field 40000000 ≡ text " 40000000"
unfolding field decimal_in
clock_is = refl

largest_is : field 18446744073709551615 ≡ text " 18446744073709551615"
unfolding field decimal_in
largest_is = refl

ratio_is : float (of_bits binary32 0x3fa0_00b1) ≡ text " 3fa000b1"
unfolding float hex_of8 hex_of4 hex_of2 hex_digit of_bits to_bits
ratio_is = refl

run_is : each hex_of2 (0 ∷ 254 ∷ []) ≡ text "00fe"
unfolding each hex_of2 hex_digit
run_is = refl
