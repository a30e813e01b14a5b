-- Laws: a gamma's byte, and a white point, from what is known of its gamma's byte.
use Rattle.std.specs.Prelude.{ℕ, ◌+◌, ◌*◌, ◌/◌, ◌%◌, ◌≤◌, ◌≡◌, refl, Bool, true, false, cond, List, eqb, leb, None, Option, Some}
use Rattle.std.proofs.Math.Path.{ap}
use Rattle.std.proofs.Common.{arith}
use borrow.Author.Tests.{eqb-false, ne_eqb, le-leb, leb-true}
use Rattle.bits.specs.Fields.{digits}
use Rattle.standard_record.specs.declared.WhitePoint.{WhitePoint}
use Rattle.standard_parts.specs.Head.{gamma_of}
use Rattle.standard_parts.specs.Color.{chromaticity_of, point_of}
use Rattle.bits.specs.Bytes.{◌!◌}
use Rattle.write_leaf.specs.Bytes.{Bytes, low}
use Rattle.write_parts.specs.Point.{gamma_byte, gamma_fits, WritesGamma, place_low, point_bytes, ReadsPoint, WritesPoint, point_fits}
use Rattle.write_leaf.specs.Digits.{two_hold, four_hold}
use Rattle.write_leaf.specs.Every.{at}

-- ---- gamma

gamma_back : (g : Option ℕ) → gamma_fits g ≡ true → gamma_of (gamma_byte g) ≡ g
unfolding gamma_of
gamma_back None h = refl
gamma_back (Some g) h =
    let all = two_hold (leb 100 g) (leb g 354) h in
    let least = leb-true 100 g all.0 in
    let most = leb-true g 354 all.1 in
    let e : (g + 156) % 256 + 100 ≡ g = omega arith in
    rw (ne_eqb ((g + 156) % 256) 255 (omega arith), e)

pub writes_gamma : (g : Option ℕ) → WritesGamma g (gamma_fits g) (gamma_byte g)
unfolding gamma_of
writes_gamma g = record {
  made = refl;
  sound = gamma_back g;
  complete = λ b h e. rw (← e) (at (λ n. gamma_fits (gamma_of n)) 256 refl b h);
}

-- ---- the point

-- a point that is listed has an index, and is what it was read from
listed : (z : Bool) (w p : WhitePoint) → cond z None (Some w) ≡ Some p → (z ≡ false) × (w ≡ p)
listed true w p h = (cc, cc)
listed false w p h = (refl, cc)

pub point_index : (t : List ℕ) (p : WhitePoint) → ReadsPoint t p → t ! 0 ≡ p.index
unfolding point_of
point_index t p h = ap (λ (w : WhitePoint). w.index) (listed (eqb (t ! 0) 0) _ p h).1

x_back : (x y : ℕ) → x ≤ 1023 → digits (place_low x y) 2 2 + 4 * low (x / 4) ≡ x
x_back x y h = omega arith

y_back : (x y : ℕ) → y ≤ 1023 → digits (place_low x y) 0 2 + 4 * low (y / 4) ≡ y
y_back x y h = omega arith

module _ (p : WhitePoint) (gf : Bool) (gb : ℕ) (g : WritesGamma p.gamma gf gb) where
  sound : point_fits p gf ≡ true → ReadsPoint (point_bytes p) p
  unfolding point_bytes point_of
  sound h =
      let all = four_hold (leb 1 p.index) (leb p.place.x 1023) (leb p.place.y 1023) gf h in
      let index = leb-true 1 p.index all.0 in
      let x = leb-true p.place.x 1023 all.1 in
      let y = leb-true p.place.y 1023 all.2 in
      rw (ne_eqb p.index 0 (omega arith), x_back p.place.x p.place.y x, y_back p.place.x p.place.y y, ← g.made, g.sound all.3)

  complete : (t : List ℕ) → Bytes t → ReadsPoint t p → point_fits p gf ≡ true
  unfolding point_of
  complete t b h =
      let e = listed (eqb (t ! 0) 0) (record { index = t ! 0; place = chromaticity_of (t ! 1) (t ! 2) (t ! 3); gamma = gamma_of (t ! 4) }) p h in
      let index = ap (λ (w : WhitePoint). w.index) e.1 in
      let x = ap (λ (w : WhitePoint). w.place.x) e.1 in
      let y = ap (λ (w : WhitePoint). w.place.y) e.1 in
      let gamma = ap (λ (w : WhitePoint). w.gamma) e.1 in
      let nonzero = eqb-false (t ! 0) 0 e.0 in
      rw (
        le-leb 1 p.index (omega arith),
        le-leb p.place.x 1023 (omega (arith, b 2)),
        le-leb p.place.y 1023 (omega (arith, b 3)),
        g.complete (t ! 4) (b 4) gamma,
      )

  pub writes_point : WritesPoint p (point_fits p gf) (point_bytes p)
  writes_point = record { made = refl; sound = sound; complete = complete }

pub point_written : (p : WhitePoint) → WritesPoint p (point_fits p (gamma_fits p.gamma)) (point_bytes p)
point_written p = writes_point p (gamma_fits p.gamma) (gamma_byte p.gamma) (writes_gamma p.gamma)
