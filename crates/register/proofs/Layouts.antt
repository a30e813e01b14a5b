-- Which bytes have a layout: what follows from the law of the panel number's bytes.
use Rattle.std.specs.Prelude.{ℕ, ◌≤◌, ◌≡◌, true, List, ◌∷◌, ◌++◌, eqb, length, take}
use Rattle.std.proofs.Common.{sym, ap, ap₂, ◌∙◌, arith, eqb-true, take-add, take_all, length-take-le}
use Rattle.bits.specs.Bytes.{◌!◌, part}
use Rattle.write_leaf.specs.Bytes.{Bytes}
use Rattle.write_leaf.specs.Digits.{both_hold}
use Rattle.write_leaf.specs.Again.{take_bytes}
use Rattle.register.specs.Register.{zeros, little_endian, short, long, panel_of, base_of, all_zero}
use Rattle.register.specs.Laws.{zeros_by, same_bytes, four_are, part_length}

panel_bytes : (s : List ℕ) → Bytes s → 4 ≤ length s → little_endian 4 (panel_of s) ≡ take 4 s
panel_bytes s h n = rw (length-take-le 4 s n) at (same_bytes (take 4 s) (take_bytes 4 s h))

-- the first 136 bytes of a record of either length, the three bytes zero
pub start : (s : List ℕ) → Bytes s → 136 ≤ length s → all_zero (part s 5 3) ≡ true
    → take 136 s ≡ little_endian 4 (panel_of s) ++ (s ! 4 ∷ zeros 3) ++ base_of s
start s b n z =
    take-add 8 128 s
    ∙ ap (λ (t : List ℕ). t ++ base_of s)
    (take-add 4 4 s
    ∙ ap₂ ◌++◌ (sym (panel_bytes s b (omega arith)))
    (four_are s (omega arith) ∙ ap (λ (t : List ℕ). s ! 4 ∷ t) (zeros_by (part s 5 3) 3 (part_length s 5 3 (omega arith)) z)))

pub is_long : (s : List ℕ) → Bytes s → length s ≡ 264 → all_zero (part s 5 3) ≡ true → s ≡ long (panel_of s) (s ! 4) (base_of s) (part s 136 128)
is_long s b n z = sym (take_all 264 s (omega arith)) ∙ take-add 136 128 s ∙ ap (λ (t : List ℕ). t ++ part s 136 128) (start s b (omega arith) z)

-- the layouts agree up to the extension block, where there is no extension
pub starts_short : (s : List ℕ) → Bytes s → 136 ≤ length s → all_zero (part s 4 4) ≡ true → take 136 s ≡ short (panel_of s) (base_of s)
starts_short s b n z =
    let h = both_hold (eqb (s ! 4) 0) (all_zero (part s 5 3)) (ap all_zero (sym (four_are s (omega arith))) ∙ z) in
    rw (eqb-true (s ! 4) 0 h.0) at (start s b n h.1)
