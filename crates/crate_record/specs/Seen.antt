-- What a record shows, each list up to its length, and the record that holds what is to be shown.
-- `take k l` is the whole of l where k is above its size, so a length above the size counts as the size.
use Rattle.std.specs.Prelude.{◌≡◌, List, ℕ, ◌≤◌, length, take}
use Rattle.fixed.specs.Fixed.{shown_whole}
use Rattle.shared_record.specs.Established.{established_timings}
use Rattle.crate_record.specs.Filler.{blank_standard, blank_detailed, blank_white, blank_descriptor}
use Rattle.crate_record.specs.Lists.{standard_timings, detailed_timings, white_points, descriptors}
use Rattle.crate_record.specs.declared.ProductInformation.{ProductInformation}
use Rattle.shared_record.specs.declared.Version.{Version}
use Rattle.crate_record.specs.declared.DisplayParameters.{DisplayParameters}
use Rattle.crate_record.specs.declared.Chromaticities.{Chromaticities}
use Rattle.crate_record.specs.declared.WhitePoint.{WhitePoint}
use Rattle.crate_record.specs.declared.StandardTiming.{StandardTiming}
use Rattle.crate_record.specs.declared.DetailedTiming.{DetailedTiming}
use Rattle.crate_record.specs.declared.MonitorDescriptor.{MonitorDescriptor}
use Rattle.crate_record.specs.declared.EDID.{EDID}

pub record Seen : Type 0 where
  pub product : ProductInformation
  pub version : Version
  pub display : DisplayParameters
  pub basic : Chromaticities
  pub points : List WhitePoint
  pub established : List ℕ
  pub standard : List StandardTiming
  pub detailed : List DetailedTiming
  pub descriptors : List MonitorDescriptor
  pub extensions : ℕ

unfoldable pub seen : EDID → Seen
seen e = record {
  product = e.product;
  version = e.version;
  display = e.display;
  basic = e.color.basic;
  points = take e.color.points.len e.color.points.items;
  established = take e.timings.established.len e.timings.established.items;
  standard = take e.timings.standard.len e.timings.standard.items;
  detailed = take e.timings.detailed.len e.timings.detailed.items;
  descriptors = take e.descriptors.len e.descriptors.items;
  extensions = e.extensions;
}

-- two records are the same where they show the same
abbrev pub Same : EDID → EDID → Type 0
Same a b = seen a ≡ seen b

-- each plain list in its array, then the filler
abbrev pub holding : Seen → EDID
holding x = record {
  product = x.product;
  version = x.version;
  display = x.display;
  color = record { basic = x.basic; points = white_points x.points };
  timings = record {
    established = established_timings x.established;
    standard = standard_timings x.standard;
    detailed = detailed_timings x.detailed;
  };
  descriptors = descriptors x.descriptors;
  extensions = x.extensions;
}

-- no list is longer than its array
pub record Fits (x : Seen) : Type 0 where
  pub established : length x.established ≤ 17
  pub standard : length x.standard ≤ 26
  pub detailed : length x.detailed ≤ 4
  pub points : length x.points ≤ 6
  pub descriptors : length x.descriptors ≤ 3

-- then all of it is shown
pub shows : (x : Seen) → Fits x → seen (holding x) ≡ x
unfolding seen
shows x f = λ i. record {
  product = x.product;
  version = x.version;
  display = x.display;
  basic = x.basic;
  points = shown_whole 6 blank_white x.points f.points i;
  established = shown_whole 17 0 x.established f.established i;
  standard = shown_whole 26 blank_standard x.standard f.standard i;
  detailed = shown_whole 4 blank_detailed x.detailed f.detailed i;
  descriptors = shown_whole 3 blank_descriptor x.descriptors f.descriptors i;
  extensions = x.extensions;
}
