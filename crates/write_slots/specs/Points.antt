-- Laws: a slot of white points, from what is known of the bytes of each.
use Rattle.std.specs.Prelude.{ℕ, ◌≡◌, refl, Bool, List, [], ◌∷◌, ◌++◌, drop, replicate, None, Option, Some}
use Rattle.std.proofs.Common.{ap, subst, add-zero, get_or-drop}
use Rattle.std.proofs.Math.Bool.{true}
use Rattle.bits.specs.Bytes.{◌!◌}
use Rattle.tags.specs.Tags.{tag_of}
use Rattle.standard_record.specs.declared.WhitePoint.{WhitePoint}
use Rattle.standard_parts.specs.Color.{point_of}
use Rattle.standard_parts.specs.Descriptors.{closing_refusal}
use Rattle.standard_parts.specs.declared.Structure.{Structure}
use Rattle.standard_slots.specs.Said.{of_point, point_at, said}
use Rattle.standard_slots.specs.declared.Points.{Points}
use Rattle.write_leaf.specs.Bytes.{Bytes}
use Rattle.write_leaf.specs.Digits.{two_hold}
use Rattle.write_leaf.specs.Again.{drop_bytes}
use Rattle.write_parts.specs.Point.{point_bytes, ReadsPoint, WritesPoint}
use Rattle.write_pairs.specs.Pairs.{All}
use Rattle.write_pairs.specs.Laws.{all_append}
use Rattle.write_slots.specs.Words.{entries, Shows, refused, these, shows}
use Rattle.write_slots.specs.Slot.{tagged, slot_bytes}
use Rattle.write_slots.specs.Writes.{Reads, WritesPoints}
use Rattle.write_slots.specs.Cases.{told}
use Rattle.write_slots.specs.Tests.{both_points, points_rest}

pub writes_none : (σ : Structure) → WritesPoints σ Points.None true (tagged 0x10 (replicate 13 0))
unfolding slot_bytes said tag_of
writes_none σ = record { made = refl; sound = λ h. record { size = refl; shown = refl }; complete = λ t b r. refl }

-- ---- from the bytes

abbrev point : List ℕ → Option WhitePoint
point l = point_of (l ! 0) (l ! 1) (l ! 2) (l ! 3) (l ! 4)

reads : (σ : Structure) (p q : List ℕ) (x y : Option WhitePoint) → point p ≡ x → point q ≡ y → Reads σ (tagged 0xfb (points_rest p q)) (entries [] [] (of_point x ++ of_point y) [])
unfolding said tag_of closing_refusal point_at
reads σ p q x y e k = record { size = refl; shown = rw (e, k) }

-- ---- and back

-- the point is read from the slot's bytes, from some place on
abbrev pub ReadIn : List ℕ → WhitePoint → Type 0
ReadIn t p = (k : ℕ) × ReadsPoint (drop k t) p

read_in : (t : List ℕ) (k : ℕ) (x : Option WhitePoint) → point_at t k ≡ x → All (ReadIn t) (of_point x)
unfolding point_at
read_in t k (Some p) e = ((k, simp (get_or-drop, add-zero) e), tt)
read_in t k None e = tt

abbrev points_of : Shows → List WhitePoint
points_of refused = []
points_of (these l) = l.points

pub points_read : (σ : Structure) (t : List ℕ) (ws : List WhitePoint) → shows t (said σ 1 t 0) ≡ these (entries [] [] ws []) → All (ReadIn t) ws
points_read σ t ws h =
    told (λ x. points_of (shows t x) ≡ ws → All (ReadIn t) ws) σ t 0 (record {
      refused = λ n e. subst (All (ReadIn t)) e tt;
      none = λ e. subst (All (ReadIn t)) e tt;
      timed = λ d l q e. subst (All (ReadIn t)) e tt;
      listed = λ e. subst (All (ReadIn t)) e tt;
      pointed = λ e.
          subst (All (ReadIn t)) e
          (all_append (ReadIn t) (of_point (point_at t 5)) (of_point (point_at t 10)) (read_in t 5 (point_at t 5) refl) (read_in t 10 (point_at t 10) refl));
      name = λ q e. subst (All (ReadIn t)) e tt;
      text = λ q e. subst (All (ReadIn t)) e tt;
      serial = λ q e. subst (All (ReadIn t)) e tt;
      range = λ e. subst (All (ReadIn t)) e tt;
      raw = λ q e. subst (All (ReadIn t)) e tt;
    }) 1 (ap points_of h)

-- ---- the slot

abbrev blank : List ℕ
blank = replicate 5 0

skipped : point blank ≡ None
unfolding point_of
skipped = refl

module _ (p : WhitePoint) (f : Bool) (b : List ℕ) (w : WritesPoint p f b) where
  fits : (t : List ℕ) → Bytes t → ReadIn t p → f ≡ true
  fits t h r = w.complete (drop r.0 t) (drop_bytes r.0 t h) r.1

  pub writes_one : (σ : Structure) → WritesPoints σ (Points.One p) (both_points f true) (tagged 0xfb (points_rest b blank))
  unfolding slot_bytes point_bytes
  writes_one σ =
      record {
        made = rw w.made;
        sound = λ h. reads σ b blank (Some p) None (w.sound (two_hold f true h).0) skipped;
        complete = λ t h r. rw (fits t h (points_read σ t (p ∷ []) r.shown).0);
      }

module _ (p q : WhitePoint) (f g : Bool) (a b : List ℕ) (w : WritesPoint p f a) (v : WritesPoint q g b) where
  pub writes_two : (σ : Structure) → WritesPoints σ (Points.Two p q) (both_points f g) (tagged 0xfb (points_rest a b))
  unfolding slot_bytes point_bytes
  writes_two σ = record {
    made = rw (w.made, v.made);
    sound = λ h. reads σ a b (Some p) (Some q) (w.sound (two_hold f g h).0) (v.sound (two_hold f g h).1);
    complete = λ t h r.
        let e = points_read σ t (p ∷ q ∷ []) r.shown in
        rw (fits p f a w t h e.0, fits q g b v t h e.1.0);
  }
