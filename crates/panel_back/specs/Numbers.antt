-- A number as it is printed is read as that number.
use Rattle.std.specs.Prelude.{ℕ, zero, suc, ◌+◌, ◌-◌, ◌*◌, ◌/◌, ◌%◌, ◌<◌, ◌≤◌, Bool, true, false, cond, ◌&&◌, List, [], ◌∷◌, ◌++◌, ◌≡◌, refl, ltb, length, get_or}
use Rattle.std.proofs.Common.{sym, ◌∙◌, arith}
use borrow.Author.Tests.{le-leb, ltb-true, ltb-false, ne_eqb}
use Rattle.page.specs.Words.{decimal_in}
use Rattle.page.specs.Laws.{tens}
use Rattle.text_kinds.specs.Kinds.{is_digit, all_digits, is_led, value, is_number, number_of}

-- ---- digits behind others

digits_append : (v w : List ℕ) → all_digits v ≡ true → all_digits w ≡ true → all_digits (v ++ w) ≡ true
digits_append [] w e f = f
digits_append (b ∷ v) w e f = go (is_digit b) e (λ h. digits_append v w h f)
  where
    go : (t : Bool) → (t && all_digits v) ≡ true → (all_digits v ≡ true → all_digits (v ++ w) ≡ true) → (t && all_digits (v ++ w)) ≡ true
    go true e h = h e
    go false e h = e

value_append : (n : ℕ) (v w : List ℕ) → value n (v ++ w) ≡ value (value n v) w
value_append n [] w = refl
value_append n (b ∷ v) w = value_append (10 * n + (b - 48)) v w

led_behind : (w : List ℕ) (d : ℕ) → 0 < length w → (get_or w 0 0 ≡ 48 → ⊥) → (is_led (w ++ d ∷ []) ≡ true) × (get_or (w ++ d ∷ []) 0 0 ≡ get_or w 0 0) × (0 < length (w ++ d ∷ []))
led_behind [] d h e = absurd (omega arith)
led_behind (b ∷ []) d h e = (rw (ne_eqb b 48 e), refl, omega arith)
led_behind (b ∷ c ∷ w) d h e = (rw (ne_eqb b 48 e), refl, omega arith)

one_digit : (d : ℕ) → d < 10 → all_digits ((48 + d) ∷ []) ≡ true
one_digit d h = rw (le-leb 48 (48 + d) (omega arith), le-leb (48 + d) 57 (omega arith))

-- ---- a decimal

pub record Printed (n : ℕ) (w : List ℕ) : Type 0 where
  pub digits : all_digits w ≡ true
  pub is : value 0 w ≡ n
  pub led : is_led w ≡ true
  pub some : 0 < length w
  pub first : 0 < n → get_or w 0 0 ≡ 48 → ⊥

alone : (n : ℕ) → n < 10 → Printed n ((48 + n) ∷ [])
alone n h = record { digits = one_digit n h; is = omega arith; led = refl; some = omega arith; first = λ p e. omega arith }

behind : (n : ℕ) (w : List ℕ) → 10 ≤ n → Printed (n / 10) w → Printed n (w ++ (48 + n % 10) ∷ [])
behind n w h p =
    let l = led_behind w (48 + n % 10) p.some (p.first (omega arith)) in
    record {
      digits = digits_append w ((48 + n % 10) ∷ []) p.digits (one_digit (n % 10) (omega arith));
      is = value_append 0 w ((48 + n % 10) ∷ []) ∙ rw p.is (omega arith);
      led = l.0;
      some = l.2;
      first = λ q e. p.first (omega arith) (sym l.1 ∙ e);
    }

pub printed : (k n : ℕ) → n < tens k → Printed n (decimal_in k n)
unfolding decimal_in tens
printed zero n h = let e : n % 10 ≡ n = omega arith in rw e (alone n h)
printed (suc k) n h = go (ltb n 10) refl (printed k (n / 10) (omega arith))
  where
    go : (t : Bool) → ltb n 10 ≡ t → Printed (n / 10) (decimal_in k (n / 10)) → Printed n (cond t ((48 + n) ∷ []) (decimal_in k (n / 10) ++ ((48 + n % 10) ∷ [])))
    go true e p = alone n (ltb-true n 10 e)
    go false e p = behind n (decimal_in k (n / 10)) (ltb-false n 10 e) p

-- ---- read again

module _ (most n : ℕ) (w : List ℕ) (p : Printed n w) (h : n ≤ most) where
  pub is_number_lem : is_number most w ≡ true
  unfolding is_number
  is_number_lem = rw (p.led, p.digits, p.is, le-leb n most h)

  pub number_is : number_of most w ≡ n
  unfolding number_of
  number_is = rw is_number_lem p.is
