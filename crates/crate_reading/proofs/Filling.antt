-- The reading as the code goes through it, which fills its arrays part by part, and that this comes to the reading. Assumes nothing.
use Rattle.std.proofs.Common.{◌≡◌, sym, ◌∙◌}
use Rattle.steps.specs.Steps.{Steps, done, ◌>>=◌, map}
use Rattle.steps.specs.Leaves.{byte}
use Rattle.steps.specs.Laws.{then_then, then_same}
use Rattle.shared_record.specs.Established.{established_timings}
use Rattle.crate_record.specs.Lists.{standard_timings}
use Rattle.fixed.specs.Fixed.{pushed_fixed}
use Rattle.crate_record.specs.Filler.{blank_standard}
use Rattle.crate_record.specs.declared.EDID.{EDID}
use Rattle.crate_head.specs.Head.{front}
use Rattle.crate_timings.specs.Established.{established}
use Rattle.crate_timings.specs.Pairs.{pairs}
use Rattle.crate_slots.specs.Slots.{slots, together, lists_after}
use Rattle.crate_reading.specs.Reading.{parts, plain, reading}
use Rattle.crate_reading.specs.Parts.{edid_of}

unfoldable pub fill_reading : Steps EDID
fill_reading = do
  f ← front
  e ← map established_timings established
  eight ← map standard_timings (pairs 8)
  l ← map (lists_after eight) slots
  n ← byte
  done (edid_of f e l n)

-- a part that both take; one that the code keeps as `fix` of it
shared : {A B C : Type 0} (p : Steps A) {g : A → Steps C} (h : A → Steps B) (k : B → Steps C) → ((a : A) → (h a >>= k) ≡ g a)
    → ((p >>= h) >>= k) ≡ (p >>= g)
shared p h k e = then_then p h k ∙ then_same p e

kept : {A B C D : Type 0} (q : Steps D) (fix : D → A) (g : A → Steps C) (h : D → Steps B) (k : B → Steps C)
    → ((x : D) → (h x >>= k) ≡ g (fix x)) → ((q >>= h) >>= k) ≡ (map fix q >>= g)
kept q fix g h k e = shared q h k e ∙ sym (then_then q (λ x. done (fix x)) g)

pub reading_filled : reading ≡ fill_reading
unfolding reading parts plain fill_reading edid_of lists_after
reading_filled =
    shared front _ _ (λ f. kept established established_timings _ _ _
    (λ e. kept (pairs 8) standard_timings _ _ _
    (λ a. kept slots (lists_after (standard_timings a)) _ _ _ (λ xs. shared byte _ _
    (λ n i. done (edid_of f (established_timings e) (record {
      standard = sym (pushed_fixed 26 blank_standard a (together xs).standards) i;
      detailed = (lists_after (standard_timings a) xs).detailed;
      points = (lists_after (standard_timings a) xs).points;
      descriptors = (lists_after (standard_timings a) xs).descriptors;
    }) n))))))
