-- Worked lines: antt computes each definition to the text.
use Rattle.std.specs.Prelude.{true, false, [], ◌≡◌, refl, Err, None, Some}
use Rattle.page.specs.Words.{text, decimal_in, field, field32, field16, field8, flag, flat}
use Rattle.standard_record.specs.Filler.{blank}
use Rattle.standard_record.specs.declared.Week.{Week}
use Rattle.standard_record.specs.declared.Week.TheVariants.{Made, ModelYear}
use Rattle.standard_record.specs.declared.Product.{Product}
use Rattle.standard_record.specs.declared.Depth.TheVariants as Depth
use Rattle.standard_record.specs.declared.VideoInput.TheVariants.{Analog, Interface}
use Rattle.standard_record.specs.declared.ImageSize.TheVariants as Size
use Rattle.standard_record.specs.declared.DisplayType.TheVariants.{OtherColor}
use Rattle.standard_record.specs.declared.Kind.{Kind}
use Rattle.standard_record.specs.declared.Kind.TheVariants.{Typed, Encodings}
use Rattle.standard_record.specs.declared.Features.{Features}
use Rattle.shared_lines.specs.Lines.{product_numbers, input_flags, dpms_line, refuse_line}
use Rattle.standard_lines.specs.Lines.{letter, numbers, product_line, depth, input_line, size_line, gamma, gamma_line, encodings, features_by, features_line, white_line, standard_line, judged_lines, listing_of}

abbrev product_of : Week → Product
product_of week = record { maker = record { 0 = 65; 1 = 66; 2 = 67 }; code = 4660; serial = 1; week = week; year = 2020 }

product :
    (product_line (product_of (Made 10)) ≡ text "product A B C 4660 1 10 2020\n")
    × (product_line (product_of ModelYear) ≡ text "product A B C 4660 1 model 2020\n")
unfolding product_line numbers product_numbers letter flat field8 field16 field32 decimal_in
product = (refl, refl)

no_letter : letter 0 ≡ text " 0"
unfolding letter
no_letter = refl

analog : input_line (Analog 1 false (record { serrated = true; green = false; composite = true; separate = true })) ≡ text "analog 1 0 1 0 1 1\n"
unfolding input_line input_flags flat flag field8 decimal_in
analog = refl

digital :
    (input_line (Interface Depth.Undefined 0) ≡ text "digital undefined 0\n")
    × (input_line (Interface (Depth.Bits 16) 5) ≡ text "digital 16 5\n")
    × (input_line (Interface Depth.Reserved 15) ≡ text "digital reserved 15\n")
unfolding input_line depth flat field8 decimal_in
digital = (refl, refl, refl)

size :
    (size_line (Size.Some (record { width = 320; height = 180 })) ≡ text "size 320 180\n")
    × (size_line (Size.Ratio (record { width = 178; height = 100 })) ≡ text "size ratio 178 100\n")
unfolding size_line flat field16 decimal_in
size = (refl, refl)

abbrev features_of : Kind → Features
features_of kind = record { standby = true; suspend = false; lowpower = false; kind = kind; srgb = false; preferred = true; gtf = false }

features :
    (features_line (features_of (Typed OtherColor)) ≡ text "dpms 1 0 0 2 0 1 0\n")
    × (features_line (features_of (Encodings false true)) ≡ text "dpms 1 0 0 e2 0 1 0\n")
unfolding features_line features_by encodings dpms_line flat flag field8 decimal_in
features = (refl, refl)

gamma_is : gamma_line (Some 200) ≡ text "gamma 200\n"
unfolding gamma_line gamma flat field16 decimal_in
gamma_is = refl

white : white_line (record { point = record { index = 1; place = record { x = 320; y = 337 }; gamma = None }; slot = 3 }) ≡ text "white 1 320 337 none 3\n"
unfolding white_line gamma flat field8 field16 decimal_in
white = refl

standard : standard_line (record { pair = record { width = 1280; ratio = record { width = 5; height = 4 }; rate = 60 }; slot = 0 }) ≡ text "standard 1280 5 4 60 0\n"
unfolding standard_line flat field16 decimal_in
standard = refl

refused : listing_of [] (record { edid = blank; end = Err (record { number = 7; at = 0 }) }) ≡ text "refuse 7 0\n"
unfolding listing_of judged_lines refuse_line flat field field8 decimal_in
refused = refl
