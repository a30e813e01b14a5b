-- How long a piece can be, so that a listing is seen to fit its page.
use Rattle.std.specs.Prelude.{ℕ, zero, suc, ◌+◌, ◌*◌, ◌/◌, ◌≤◌, min, Bool, true, false, cond, List, [], ◌∷◌, ltb, Float, length, take}
use Rattle.std.proofs.Common.{arith, le_trans, mul-le-mul_left, length-append, length-take}
use Rattle.page.specs.Words.{decimal_in, field, field32, field16, field8, flag, hex_of2, hex_of4, hex_of8, float, each}

pub either : (t : Bool) (a b : List ℕ) (k : ℕ) → length a ≤ k → length b ≤ k → length (cond t a b) ≤ k
either true a b k p q = p
either false a b k p q = q

decimal_length : (k n : ℕ) → length (decimal_in k n) ≤ k + 1
unfolding decimal_in
decimal_length zero n = omega arith
decimal_length (suc k) n =
    let rest = decimal_length k (n / 10) in
    either (ltb n 10) _ _ (suc k + 1) (omega arith) (simp length-append (omega arith))

pub field_length : (n : ℕ) → length (field n) ≤ 21
unfolding field
field_length n = let d = decimal_length 19 n in simp length-append (omega arith)

pub field32_length : (n : ℕ) → length (field32 n) ≤ 11
unfolding field32
field32_length n = let d = decimal_length 9 n in simp length-append (omega arith)

pub field16_length : (n : ℕ) → length (field16 n) ≤ 6
unfolding field16
field16_length n = let d = decimal_length 4 n in simp length-append (omega arith)

pub field8_length : (n : ℕ) → length (field8 n) ≤ 4
unfolding field8
field8_length n = let d = decimal_length 2 n in simp length-append (omega arith)

pub flag_length : (b : Bool) → length (flag b) ≤ 2
unfolding flag
flag_length true = omega arith
flag_length false = omega arith

pub float_length : (x : Float) → length (float x) ≤ 9
unfolding float hex_of8 hex_of4 hex_of2
float_length x = simp length-append (omega arith)

pub byte_length : (b : ℕ) → length (hex_of2 b) ≤ 2
unfolding hex_of2
byte_length b = omega arith

each_length : {A : Type 0} (f : A → List ℕ) (k : ℕ) → ((x : A) → length (f x) ≤ k) → (xs : List A) → length (each f xs) ≤ k * length xs
unfolding each
each_length f k h [] = omega arith
each_length f k h (x ∷ xs) = let a = h x in let r = each_length f k h xs in simp length-append (omega arith)

-- of the first n of a list at most
pub first_length : {A : Type 0} (f : A → List ℕ) (k n : ℕ) → ((x : A) → length (f x) ≤ k)
    → (len : ℕ) (xs : List A) → length (each f (take (min len n) xs)) ≤ k * n
first_length f k n h len xs =
    let fewer : length (take (min len n) xs) ≤ n = omega (arith, length-take (min len n) xs) in
    le_trans (each_length f k h (take (min len n) xs)) (mul-le-mul_left k fewer)
