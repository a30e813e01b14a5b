-- The fourteen numbers are those of the timing's line in the listing, in its order, without its size, its border and its slot.
use Rattle.std.specs.Prelude.{◌≡◌, refl, Bool, true, false, [], ◌∷◌, take, drop}
use Rattle.std.proofs.Common.{append_assoc, append-nil}
use Rattle.page.specs.Words.{text, decimal_in, field32, field16, field8, flag, flat, each}
use Rattle.write_leaf.specs.Bytes.{digit}
use Rattle.shared_lines.specs.Lines.{axes, border_to_stereo, polarity}
use Rattle.standard_slot_lines.specs.Lines.{sync, timing_fields}
use Rattle.timing.specs.declared.SyncPolarity.{SyncPolarity}
use Rattle.timing.specs.declared.SyncPolarity.TheVariants.{Positive, Negative}
use Rattle.standard_record.specs.declared.Sync.{Sync}
use Rattle.standard_record.specs.declared.Sync.TheVariants.{AnalogComposite, BipolarAnalogComposite, DigitalComposite, DigitalSeparate}
use Rattle.standard_record.specs.declared.DetailedTiming.{DetailedTiming}
use Rattle.timing_numbers.specs.Numbers.{polarity as polarity_number, sync_numbers, numbers_of}

flag_is : (b : Bool) → flag b ≡ field8 (digit b)
unfolding flag field8 decimal_in
flag_is true = refl
flag_is false = refl

polarity_is : (p : SyncPolarity) → polarity p ≡ field8 (polarity_number p)
unfolding polarity field8 decimal_in
polarity_is Positive = refl
polarity_is Negative = refl

kind_is : (text " 0" ≡ field8 0) × (text " 1" ≡ field8 1) × (text " 2" ≡ field8 2) × (text " 3" ≡ field8 3)
unfolding field8 decimal_in
kind_is = (refl, refl, refl, refl)

sync_is : (y : Sync) → let n = sync_numbers y in sync y ≡ each field8 (n.kind ∷ n.first ∷ n.second ∷ [])
unfolding sync flat each
sync_is (AnalogComposite s l) = rw (← kind_is.0, flag_is)
sync_is (BipolarAnalogComposite s l) = rw (← kind_is.1, flag_is)
sync_is (DigitalComposite s p) = rw (← kind_is.2, flag_is, polarity_is)
sync_is (DigitalSeparate h v) = rw (← kind_is.3, polarity_is h, polarity_is v)

-- the parts of the line before its slot, and each number in them as the listing writes it
pub record AsListed (t : DetailedTiming) : Type 0 where
  pub line : timing_fields t
      ≡ flat (axes t.clock t.across t.down ∷ field16 t.size.width ∷ field16 t.size.height ∷
      border_to_stereo t.border t.interlaced t.stereo ∷ sync t.sync ∷ [])
  pub first_nine : axes t.clock t.across t.down
      ≡ flat (text "detailed" ∷ each field32 (take 1 (numbers_of t)) ∷ each field16 (take 8 (drop 1 (numbers_of t))) ∷ [])
  pub next_two : border_to_stereo t.border t.interlaced t.stereo
      ≡ flat (field16 t.border.across.0 ∷ field16 t.border.down.0 ∷ each field8 (take 2 (drop 9 (numbers_of t))) ∷ [])
  pub last_three : sync t.sync ≡ each field8 (drop 11 (numbers_of t))

pub as_listed : (t : DetailedTiming) → AsListed t
unfolding timing_fields axes border_to_stereo flat each
as_listed t =
    record {
      line = refl;
      first_nine = simp (append_assoc, append-nil) refl;
      next_two = rw flag_is (simp (append_assoc, append-nil) refl);
      last_three = sync_is t.sync;
    }
