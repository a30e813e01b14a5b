-- Worked lines: antt computes what is asked, and what is printed.
use Rattle.std.specs.Prelude.{ℕ, ◌≡◌, refl, [], Option, None, Some}
use Rattle.page.specs.Words.{text, decimal_in, field8, flat}
use Rattle.timing.specs.Axis.{pixels, lines}
use Rattle.standard_record.specs.Filler.{blank}
use Rattle.picking.specs.Best.{listed}
use Rattle.picking.specs.Score.{choice}
use Rattle.pick_lines.specs.Asked.{asked_in}
use Rattle.pick_lines.specs.Lines.{choice_lines}
use Rattle.pick_lines.specs.declared.Asked.{Asked}

-- the limits, and where the block begins
abbrev asks : ℕ → ℕ → ℕ → ℕ → Option Asked
asks clock across down block = Some (record { limits = record { clock = clock; across = pixels across; down = lines down }; block = block })

three : asked_in (text "165000000 1920 1200\nblock") ≡ asks 165000000 1920 1200 20
three = refl

tops : asked_in (text "4294967295 65535 65535\n") ≡ asks 4294967295 65535 65535 23
tops = refl

-- zeros in front say nothing
zeros : asked_in (text "0 007 00000000000065535\n") ≡ asks 0 7 65535 24
zeros = refl

clock_above : asked_in (text "4294967296 800 600\n") ≡ None
clock_above = refl

across_above : asked_in (text "1 65536 600\n") ≡ None
across_above = refl

down_above : asked_in (text "1 800 65536\n") ≡ None
down_above = refl

two_numbers : asked_in (text "1 800\n") ≡ None
two_numbers = refl

four_numbers : asked_in (text "1 800 600 7\n") ≡ None
four_numbers = refl

two_spaces : asked_in (text "1  800 600\n") ≡ None
two_spaces = refl

no_digits : asked_in (text "1 800 \n") ≡ None
no_digits = refl

sign : asked_in (text "1 +800 600\n") ≡ None
sign = refl

-- the line is not closed
open_line : asked_in (text "1 800 600") ≡ None
open_line = refl

nothing_asked : asked_in [] ≡ None
nothing_asked = refl

no_timing : let d = blank.timings.detailed in choice_lines d (choice (record { clock = 1; across = pixels 1; down = lines 1 }) (listed d)) ≡ text "refuse 14\n"
unfolding blank choice_lines flat field8 decimal_in
no_timing = refl
