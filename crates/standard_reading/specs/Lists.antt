-- What the contract of `record_of` requires: the lists that it is handed are those that the block says.
use Rattle.std.specs.Prelude.{ℕ, ◌≡◌, List, length}
use Rattle.standard_record.specs.Lists.{white_points, standard_timings, detailed_timings, descriptors}
use Rattle.standard_record.specs.Lists.{WhitePoints}
use Rattle.standard_record.specs.Lists.{StandardTimings}
use Rattle.standard_record.specs.Lists.{DetailedTimings}
use Rattle.standard_record.specs.Lists.{Descriptors}
use Rattle.standard_reading.specs.Block.{timings_of, pairs_of, points_of, descriptors_of}

pub record ListsOf (s : List ℕ) (ws : WhitePoints) (ps : StandardTimings) (ts : DetailedTimings) (ds : Descriptors) : Type 0 where
  pub whole : length s ≡ 128
  pub points : ws ≡ white_points (points_of s 4)
  pub standard : ps ≡ standard_timings (pairs_of s 4)
  pub detailed : ts ≡ detailed_timings (timings_of s 4)
  pub described : ds ≡ descriptors (descriptors_of s 4)
