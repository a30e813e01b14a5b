-- The steps as the code takes them: a long record with no extension is the short one and 128 zero bytes. Assumes nothing.
use Prim.Native.Nat.{ℕ, ◌≤◌, ◌-◌}
use mathlib.Core.Path.{◌≡◌, refl, sym, ap, ◌∙◌}
use mathlib.Core.Bool.{true}
use mathlib.Core.List.{List, ◌++◌}
use native.Mathlib.Omega.{arith}
use borrow.Rule.Slice.PartMut.{put_mid}
use lib.ListN.{length, take, drop, length-append, length-drop, drop_of_length-le}
use lib.Seq.{take_all, take_at, drop_at}
use Rattle.bits.specs.Bytes.{◌!◌, part}
use Rattle.write_leaf.specs.Bytes.{Bytes}
use Rattle.register.specs.Register.{zeros, all_zero, step_up, step_down, into}
use Rattle.register.proofs.Layouts.{start, starts_short}

module _ (s o : List ℕ) (n : length o ≡ 264) where
  pub up_0 : Bytes s → length s ≡ 136 → all_zero (part s 4 4) ≡ true → (0, s ++ zeros 128) ≡ into 264 o (step_up s)
  up_0 b h z = rw (n, h, z) (ap (λ (t : List ℕ). (0, t ++ zeros 128)) (sym (take_all 136 s (omega arith)) ∙ starts_short s b (omega arith) z))

-- what the two copies leave
pub laid : (s o l m : List ℕ) (k : ℕ) → length s ≡ 136 → length o ≡ 264 → l ≡ s → m ≡ zeros 128 → k ≡ length (l ++ drop 136 o) - 136
    → put_mid 136 k (l ++ drop 136 o) m ≡ s ++ zeros 128
laid s o l m k n h el em ek =
    let rest = drop 136 o in
    let size : length rest ≤ k = omega (arith, ek, ap length el, length-append l (drop 136 o), length-drop 136 o) in
    rw (el, em, take_at s rest 136 n, drop_at s rest 136 n, drop_of_length-le rest {i = k} size) refl

module _ (s o : List ℕ) (n : length o ≡ 136) where
  pub down_0 : Bytes s → length s ≡ 264 → s ! 4 ≡ 0 → all_zero (part s 5 3) ≡ true → all_zero (part s 136 128) ≡ true → (0, take 136 s) ≡ into 136 o (step_down s)
  down_0 b h c z x = rw (n, h, c, z, x) (ap (λ (t : List ℕ). (0, t)) (rw c at (start s b (omega arith) z)))
