-- When two records are the same: what they show is, with each list up to its length; and the record that holds what is to be shown.
-- `take k l` is the whole of l where k is above its size, so a length above the size counts as the size.
use Rattle.std.specs.Prelude.{◌≡◌, List, ℕ, ◌≤◌, length, take}
use Rattle.fixed.specs.Fixed.{shown_whole}
use Rattle.standard_record.specs.Filler.{blank_white, blank_standard, blank_detailed, blank_held}
use Rattle.standard_record.specs.Lists.{white_points, standard_timings, detailed_timings, descriptors}
use Rattle.standard_record.specs.declared.Product.{Product}
use Rattle.shared_record.specs.Established.{established_timings}
use Rattle.shared_record.specs.declared.Version.{Version}
use Rattle.standard_record.specs.declared.Display.{Display}
use Rattle.standard_record.specs.declared.Chromaticities.{Chromaticities}
use Rattle.standard_record.specs.declared.HeldPoint.{HeldPoint}
use Rattle.standard_record.specs.declared.HeldPair.{HeldPair}
use Rattle.standard_record.specs.declared.HeldTiming.{HeldTiming}
use Rattle.standard_record.specs.declared.Held.{Held}
use Rattle.standard_record.specs.declared.StandardRecord.{StandardRecord}

pub record Seen : Type 0 where
  pub product : Product
  pub version : Version
  pub display : Display
  pub basic : Chromaticities
  pub points : List HeldPoint
  pub established : List ℕ
  pub standard : List HeldPair
  pub detailed : List HeldTiming
  pub descriptors : List Held
  pub extensions : ℕ

unfoldable pub seen : StandardRecord → Seen
seen r = record {
  product = r.product;
  version = r.version;
  display = r.display;
  basic = r.color.basic;
  points = take r.color.points.len r.color.points.items;
  established = take r.timings.established.len r.timings.established.items;
  standard = take r.timings.standard.len r.timings.standard.items;
  detailed = take r.timings.detailed.len r.timings.detailed.items;
  descriptors = take r.descriptors.len r.descriptors.items;
  extensions = r.extensions;
}

abbrev pub Same : StandardRecord → StandardRecord → Type 0
Same a b = seen a ≡ seen b

-- ---- the record that holds it: each list in its array, then the filler

abbrev pub holding : Seen → StandardRecord
holding x = record {
  product = x.product;
  version = x.version;
  display = x.display;
  color = record { basic = x.basic; points = white_points x.points };
  timings = record {
    established = established_timings x.established;
    standard = standard_timings x.standard;
    detailed = detailed_timings x.detailed;
  };
  descriptors = descriptors x.descriptors;
  extensions = x.extensions;
}

-- each list has room in its array
pub record Fits (x : Seen) : Type 0 where
  pub points : length x.points ≤ 6
  pub established : length x.established ≤ 17
  pub standard : length x.standard ≤ 26
  pub detailed : length x.detailed ≤ 4
  pub descriptors : length x.descriptors ≤ 3

-- then the record shows all of it
pub shows : (x : Seen) → Fits x → seen (holding x) ≡ x
unfolding seen
shows x f =
    λ i. record {
      product = x.product;
      version = x.version;
      display = x.display;
      basic = x.basic;
      points = shown_whole 6 blank_white x.points f.points i;
      established = shown_whole 17 0 x.established f.established i;
      standard = shown_whole 26 blank_standard x.standard f.standard i;
      detailed = shown_whole 4 blank_detailed x.detailed f.detailed i;
      descriptors = shown_whole 3 blank_held x.descriptors f.descriptors i;
      extensions = x.extensions;
    }
