-- Laws: a white point or a text that any bytes are read as, is read from its own bytes; the bytes of a pair are bytes.
use Rattle.std.specs.Prelude.{ℕ, zero, suc, ◌<◌, List, [], ◌∷◌, replicate, None, Option, Some}
use Rattle.std.proofs.Common.{arith}
use Rattle.standard_record.specs.declared.StandardTiming.{StandardTiming}
use Rattle.standard_record.specs.declared.WhitePoint.{WhitePoint}
use Rattle.standard_parts.specs.Text.{text_length}
use Rattle.write_leaf.specs.Bytes.{Bytes}
use Rattle.write_leaf.specs.Leaf.{Again, BothBytes}
use Rattle.write_leaf.specs.Again.{again, cons_bytes, each_byte, take_bytes}
use Rattle.write_parts.specs.Pair.{pair_bytes}
use Rattle.write_parts.specs.Point.{gamma_byte, point_bytes, ReadsPoint}
use Rattle.write_parts.specs.Text.{filled, text_bytes, ReadsText}
use Rattle.write_parts.specs.Points.{point_index, point_written}
use Rattle.write_parts.specs.Texts.{writes_text}

-- ---- pairs

pub pair_are_bytes : (v : StandardTiming) → BothBytes (pair_bytes v)
pair_are_bytes v = omega arith

-- ---- white points

pub gamma_is_byte : (g : Option ℕ) → gamma_byte g < 256
gamma_is_byte None = omega arith
gamma_is_byte (Some n) = omega arith

pub point_again : (p : WhitePoint) (t : List ℕ) → Bytes t → ReadsPoint t p → Again Bytes ReadsPoint point_bytes p
unfolding point_bytes
point_again p t b r =
    let index : p.index < 256 = rw (← point_index t p r) (b 0) in
    let gamma = gamma_is_byte p.gamma in
    again (point_written p) t b r (each_byte (point_bytes p) (omega arith))

-- ---- texts

replicate_bytes : (n x : ℕ) → x < 256 → Bytes (replicate n x)
replicate_bytes zero x h = λ i. omega arith
replicate_bytes (suc n) x h = cons_bytes x (replicate n x) h (replicate_bytes n x h)

filled_bytes : (n : ℕ) (text : List ℕ) → Bytes text → Bytes (filled n text)
unfolding filled
filled_bytes zero text h = λ i. omega arith
filled_bytes (suc n) [] h = cons_bytes 0x0a (replicate n 0x20) (omega arith) (replicate_bytes n 0x20 (omega arith))
filled_bytes (suc n) (x ∷ text) h = cons_bytes x (filled n text) (h 0) (filled_bytes n text (λ i. h (suc i)))

pub text_again : (text t : List ℕ) → Bytes t → ReadsText t text → Again Bytes ReadsText text_bytes text
text_again text t b r =
    again (writes_text text) t b r (filled_bytes 13 text (rw (← r.is) (take_bytes (text_length t) t b)))
