-- A text in quotes and a run of bytes, as they are printed, are read as those bytes.
use Rattle.std.specs.Prelude.{ℕ, zero, suc, ◌+◌, ◌*◌, ◌/◌, ◌%◌, ◌<◌, ◌≤◌, Bool, true, false, cond, not, ◌&&◌, List, [], ◌∷◌, ◌++◌, ◌≡◌, refl, eqb, ltb, leb, length}
use Rattle.std.proofs.Common.{append_assoc, ap, ◌∙◌, arith, le-leb, ltb-true, ltb-false}
use Rattle.std.proofs.Math.Option.{some}
use Rattle.std.proofs.lemmas.Bool.{lt-leb}
use Rattle.page.specs.Words.{hex_digit, hex_of2, flat, each}
use Rattle.text_words.specs.Words.{is_quote, is_plain}
use Rattle.text_kinds.specs.Kinds.{is_digit, is_hex, hex_value, byte, piece, more, bytes_from, hex_pair, text_of, run_of}
use Rattle.text_kinds.specs.Gathered.{from_byte, from_ends}
use Rattle.panel_lines.specs.Lines.{text_byte, quoted}

-- ---- a hexadecimal digit

pub record Digit (n d : ℕ) : Type 0 where
  pub hex : is_hex d ≡ true
  pub is : hex_value d ≡ n

digit_low : (m : ℕ) → m < 10 → is_digit (48 + m) ≡ true
digit_low m h = rw (le-leb 48 (48 + m) (omega arith), le-leb (48 + m) 57 (omega arith))

digit_not : (m : ℕ) → 10 ≤ m → is_digit (87 + m) ≡ false
digit_not m h = rw (le-leb 48 (87 + m) (omega arith), lt-leb (87 + m) 57 (omega arith))

digit_is : (n : ℕ) → Digit (n % 16) (hex_digit n)
unfolding hex_digit
digit_is n = go (ltb (n % 16) 10) refl
  where
    go : (t : Bool) → ltb (n % 16) 10 ≡ t → Digit (n % 16) (cond t (48 + n % 16) (87 + n % 16))
    go true e =
        let d = digit_low (n % 16) (ltb-true (n % 16) 10 e) in
        record { hex = rw d; is = rw d (omega arith) }
    go false e =
        let d = digit_not (n % 16) (ltb-false (n % 16) 10 e) in
        record { hex = rw (d, le-leb 97 (87 + n % 16) (omega (arith, ltb-false (n % 16) 10 e)), le-leb (87 + n % 16) 102 (omega arith)); is = rw d (omega arith) }

-- two of them
pub pair_is : (b : ℕ) (t : List ℕ) → b < 256 → hex_pair (hex_digit (b / 16)) (hex_digit b) t ≡ byte b t
pair_is b t h =
    let hi = digit_is (b / 16) in
    let lo = digit_is b in
    let e : 16 * (b / 16 % 16) + b % 16 ≡ b = omega arith in
    rw (hi.hex, lo.hex, hi.is, lo.is, e)

-- each is a byte
abbrev pub Small : List ℕ → Type 0
Small [] = Unit
Small (b ∷ bs) = (b < 256) × Small bs

-- ---- a run

pub run_back : (bs : List ℕ) (n : ℕ) → Small bs → length bs ≤ n → bytes_from false n (each hex_of2 bs) ≡ some bs
unfolding each hex_of2 piece
run_back [] n s h = from_ends false [] n refl
run_back (b ∷ bs) zero s h = absurd (omega arith)
run_back (b ∷ bs) (suc n) s h = from_byte false (each hex_of2 (b ∷ bs)) b (each hex_of2 bs) (pair_is b (each hex_of2 bs) s.0) n ∙ ap (more b) (run_back bs n s.1 (omega arith))

-- ---- a text

plain_is : (b : ℕ) → is_plain b ≡ true → (is_quote b ≡ false) × (eqb b 0x5c ≡ false)
plain_is b e = go (leb 0x20 b) (leb b 0x7e) (is_quote b) (eqb b 0x5c) e
  where
    go : (s t u v : Bool) → (s && t && not u && not v) ≡ true → (u ≡ false) × (v ≡ false)
    go true true false false e = (refl, refl)
    go true true true v e = absurd (omega (arith, ap {B = ℕ} (λ t. cond t 1 0) e))
    go true true false true e = absurd (omega (arith, ap {B = ℕ} (λ t. cond t 1 0) e))
    go true false u v e = absurd (omega (arith, ap {B = ℕ} (λ t. cond t 1 0) e))
    go false t u v e = absurd (omega (arith, ap {B = ℕ} (λ t. cond t 1 0) e))

byte_piece : (b : ℕ) (t : List ℕ) → b < 256 → piece true (text_byte b ++ t) ≡ byte b t
unfolding text_byte piece hex_of2 flat
byte_piece b t h = go (is_plain b) refl
  where
    go : (p : Bool) → is_plain b ≡ p → piece true (cond p (b ∷ []) (92 ∷ 120 ∷ hex_digit (b / 16) ∷ hex_digit b ∷ []) ++ t) ≡ byte b t
    go true e = let n = plain_is b e in rw (e, n.0, n.1)
    go false e = pair_is b t h

text_bytes_lem : (bs : List ℕ) (n : ℕ) → Small bs → length bs ≤ n → bytes_from true n (each text_byte bs ++ 34 ∷ []) ≡ some bs
unfolding each piece
text_bytes_lem [] n s h = from_ends true (34 ∷ []) n refl
text_bytes_lem (b ∷ bs) zero s h = absurd (omega arith)
text_bytes_lem (b ∷ bs) (suc n) s h =
    ap (bytes_from true (suc n)) (append_assoc (text_byte b) (each text_byte bs) (34 ∷ []))
    ∙ from_byte true (text_byte b ++ (each text_byte bs ++ 34 ∷ [])) b (each text_byte bs ++ 34 ∷ []) (byte_piece b (each text_byte bs ++ 34 ∷ []) s.0) n
    ∙ ap (more b) (text_bytes_lem bs n s.1 (omega arith))

pub text_back : (bs : List ℕ) → Small bs → length bs ≤ 13 → text_of (quoted bs) ≡ some bs
unfolding text_of quoted flat
text_back bs s h = text_bytes_lem bs 13 s h

pub run_read : (bs : List ℕ) → Small bs → 0 < length bs → length bs ≤ 13 → run_of (each hex_of2 bs) ≡ some bs
unfolding run_of each hex_of2
run_read [] s p h = absurd (omega arith)
run_read (b ∷ bs) s p h = run_back (b ∷ bs) 13 s h
