-- The record of its parts, as the code puts them together: what its private function promises.
use Rattle.std.specs.Prelude.{ℕ}
use Rattle.shared_record.specs.Established.{EstablishedTimings}
use Rattle.crate_record.specs.declared.EDID.{EDID}
use Rattle.crate_head.specs.declared.Front.{Front}
use Rattle.crate_slots.specs.declared.Lists.{Lists}

-- with the timing information all in one place
unfoldable pub edid_of : Front → EstablishedTimings → Lists → ℕ → EDID
edid_of f e l n =
    record {
      product = f.product;
      version = f.version;
      display = f.display;
      color = record { basic = f.basic; points = l.points };
      timings = record { established = e; standard = l.standard; detailed = l.detailed };
      descriptors = l.descriptors;
      extensions = n;
    }
