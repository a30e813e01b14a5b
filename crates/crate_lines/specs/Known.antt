-- Worked lines: antt computes each definition to the text.
use Rattle.std.specs.Prelude.{◌≡◌, refl, Some, None}
use Rattle.std.specs.Float.{binary32}
use Rattle.std.specs.Float.Ieee.{of_bits, to_bits}
use Rattle.page.specs.Words.{text, decimal_in, field32, field16, field8, hex_digit, hex_of2, hex_of4, hex_of8, float, flat}
use Rattle.shared_lines.specs.Lines.{product_numbers}
use Rattle.crate_lines.specs.Lines.{product_line, size_line, standard_line}

product : product_line (record {
  maker = record { 0 = 16; 1 = 24; 2 = 4 };
  code = 4660;
  serial = 1;
  date = record { week = 10; year = 2020 };
}) ≡ text "product 16 24 4 4660 1 10 2020\n"
unfolding product_line product_numbers flat field8 field16 field32 decimal_in
product = refl

size : size_line (Some (record { width = of_bits binary32 0x4200_0000; height = of_bits binary32 0x4190_0000 })) ≡ text "size 42000000 41900000\n"
unfolding size_line flat float hex_of8 hex_of4 hex_of2 hex_digit of_bits to_bits
size = refl

no_size : size_line None ≡ text "size none\n"
unfolding size_line
no_size = refl

standard : standard_line (record { ratio = of_bits binary32 0x3fa0_0000; width = 1280; rate = 60 }) ≡ text "standard 1280 3fa00000 60\n"
unfolding standard_line flat float field16 decimal_in hex_of8 hex_of4 hex_of2 hex_digit of_bits to_bits
standard = refl
