-- Laws: the flags that were read come back.
use Prim.Native.Nat.{ℕ, zero, suc, ◌+◌, ◌*◌, ◌/◌, ◌%◌, ◌^◌, ◌<◌, ◌≤◌}
use Rattle.std.specs.Prelude.{◌≡◌, refl, true, List, [], ◌∷◌, ◌++◌, eqb}
use Rattle.std.proofs.Common.{sym, ap, ◌∙◌, add_assoc, mod-eq_of_lt, mod-lt, add_comm, pow_pos, eqb-true, eq-eqb}
use Rattle.std.proofs.Math.Path.{ap₂}
use Rattle.std.proofs.Math.Nat.{mod-one}
use native.Mathlib.Omega.{arith}
use Rattle.std.proofs.lemmas.Nat.{mod-pow-add}
use Rattle.bits.specs.Fields.{bit}
use Rattle.fixed.specs.Gather.{gather, when}
use Rattle.standard_parts.specs.Timings.{flags_of}
use Rattle.write_leaf.specs.Digits.{both_hold}
use Rattle.write_head.specs.Flags.{total, flag_bytes, WritesFlags, same_list}

-- ---- the comparison

same_is : (xs ys : List ℕ) → same_list xs ys ≡ true → xs ≡ ys
same_is [] [] h = refl
same_is [] (y ∷ ys) h = cc
same_is (x ∷ xs) [] h = cc
same_is (x ∷ xs) (y ∷ ys) h =
    let p = both_hold (eqb x y) (same_list xs ys) h in
    ap₂ ◌∷◌ (eqb-true x y p.0) (same_is xs ys p.1)

same_self : (xs : List ℕ) → same_list xs xs ≡ true
same_self [] = refl
same_self (x ∷ xs) = rw (eq-eqb x x refl) (same_self xs)

-- ---- the total

total_append : (xs ys : List ℕ) → total (xs ++ ys) ≡ total xs + total ys
total_append [] ys = omega arith
total_append (x ∷ xs) ys = rw (total_append xs ys) (sym (add_assoc _ _ _))

-- a flag's digit
total_when : (d k : ℕ) → d < 2 → k < 17 → total (when (eqb d 1) k) ≡ d * 2 ^ k
total_when zero k hd hk = omega arith
total_when (suc zero) k hd hk = rw (mod-eq_of_lt hk) (omega arith)
total_when (suc (suc d)) k hd hk = absurd (omega arith)

total_flags : (v n : ℕ) → n ≤ 17 → total (gather (λ k. when (bit v k) k) n) ≡ v % 2 ^ n
total_flags v zero h = sym (mod-one v)
total_flags v (suc n) h =
    total_append (gather (λ k. when (bit v k) k) n) (when (bit v n) n)
    ∙ ap₂ ◌+◌ (total_flags v n (omega arith)) (total_when (v / 2 ^ n % 2) n (mod-lt _ (pow_pos 1)) h)
    ∙ add_comm _ _
    ∙ sym (mod-pow-add v 1 n)
    ∙ ap (λ (k : ℕ). v % 2 ^ k) one_more
  where
    one_more : 1 + n ≡ suc n
    one_more = omega arith

module _ (a b d : ℕ) (ha : a < 256) (hb : b < 256) (hd : d < 2) where
  byte_0 : (a + 256 * b + 65536 * d) % 256 ≡ a
  byte_0 = omega arith

  byte_1 : (a + 256 * b + 65536 * d) / 256 % 256 ≡ b
  byte_1 =
      let e : (a + 256 * b + 65536 * d) / 256 ≡ b + 256 * d = omega arith in
      rw e (omega arith)

  byte_2 : (a + 256 * b + 65536 * d) / 65536 % 2 ≡ d
  byte_2 = omega arith

module _ (a b c : ℕ) (ha : a < 256) (hb : b < 256) where
  total_read : total (flags_of a b c) ≡ a + 256 * b + 65536 * (c / 128 % 2)
  unfolding flags_of
  total_read =
      total_append (gather (λ k. when (bit (a + 256 * b) k) k) 16) (when (bit c 7) 16)
      ∙ ap₂ ◌+◌ (total_flags (a + 256 * b) 16 (omega arith)) (total_when (c / 128 % 2) 16 (omega arith) (omega arith))
      ∙ omega arith

  same_flags : flags_of a b (c / 128 % 2 * 128) ≡ flags_of a b c
  unfolding flags_of
  same_flags =
      let e : c / 128 % 2 * 128 / 128 % 2 ≡ c / 128 % 2 = omega arith in
      rw e

  again : (xs : List ℕ) → flags_of a b c ≡ xs → flags_of (flag_bytes xs).0 (flag_bytes xs).1 (flag_bytes xs).2 ≡ xs
  again xs h =
      let t : total xs ≡ a + 256 * b + 65536 * (c / 128 % 2) = rw (← h) total_read in
      let d : c / 128 % 2 < 2 = omega arith in
      rw (t, byte_0 a b _ ha hb d, byte_1 a b _ ha hb d, byte_2 a b _ ha hb d) (same_flags ∙ h)

pub writes_flags : (xs : List ℕ) → WritesFlags xs (same_list (flags_of (flag_bytes xs).0 (flag_bytes xs).1 (flag_bytes xs).2) xs) (flag_bytes xs)
writes_flags xs = record {
  made = refl;
  sound = same_is (flags_of (flag_bytes xs).0 (flag_bytes xs).1 (flag_bytes xs).2) xs;
  complete = λ s b h. ap (λ l. same_list l xs) (again s.0 s.1 s.2 b.0 b.1 xs h) ∙ same_self xs;
}
