-- A panel's text read: the record that its lines give with the bytes that the record's spans point to, or refusal 19 with the number of a line.
use Rattle.std.specs.Prelude.{ℕ, cond, List, ltb, length, replicate, Result, Ok, Err}
use Rattle.standard_record.specs.Filler.{blank}
use Rattle.standard_record.specs.declared.Display.{Display}
use Rattle.standard_record.specs.declared.Color.{Color}
use Rattle.standard_record.specs.declared.Timings.{Timings}
use Rattle.standard_record.specs.declared.StandardRecord.{StandardRecord}
use Rattle.text_lines.specs.Lines.{lines, counted, content, line_number, line_at}
use Rattle.panel_front.specs.Front.{byte_at, product_of, version_of, input_of, size_of, gamma_at, features_of, chroma_of}
use Rattle.panel_lists.specs.Lists.{points_of, pairs_of, timings_of, entries_of, bytes_of, established_of}
use Rattle.panel_layout.specs.Layout.{layout_of}
use Rattle.panel_layout.specs.declared.Places.{Places}
use Rattle.panel_reading.specs.declared.PanelReading.{PanelReading}

unfoldable pub display_of : List ℕ → Display
display_of s = record { input = input_of (content s 2); size = size_of (content s 3); gamma = gamma_at (content s 4) 1; features = features_of (content s 5) }

unfoldable pub color_of : List ℕ → Places → Color
color_of s p = record { basic = chroma_of (content s 6); points = points_of s 7 p.established }

unfoldable pub listed_of : List ℕ → Places → Timings
listed_of s p = record {
  established = established_of (content s p.established);
  standard = pairs_of s p.pairs p.timings;
  detailed = timings_of s p.timings p.entries;
}

unfoldable pub record_of : List ℕ → Places → StandardRecord
record_of s p = record {
  product = product_of (content s 0);
  version = version_of (content s 1);
  display = display_of s;
  color = color_of s p;
  timings = listed_of s p;
  descriptors = entries_of s p.entries p.extensions;
  extensions = byte_at (content s p.extensions) 1;
}

-- not understood, in the line with this number
unfoldable pub lost : ℕ → PanelReading
lost line = record { reading = record { edid = blank; end = Err (record { number = 19; at = line }) }; bytes = replicate 39 0 }

unfoldable pub read_by : List ℕ → Result Places ℕ → PanelReading
read_by s (Ok p) = record { reading = record { edid = record_of s p; end = Ok tt }; bytes = bytes_of s p.entries p.extensions }
read_by s (Err k) = lost (line_number s k)

-- a text above 65,536 bytes is lost in the line where that is passed
unfoldable pub read_text : List ℕ → PanelReading
read_text s = cond (ltb 65536 (length s)) (lost (line_at s 65536)) (read_by s (layout_of (counted (lines s))))
