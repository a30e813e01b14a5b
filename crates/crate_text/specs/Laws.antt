-- A turn of each loop, and what a run of skipped bytes comes to: for the proofs of the code.
use Rattle.std.specs.Prelude.{ℕ, zero, suc, ◌+◌, ◌-◌, ◌<◌, ◌≤◌, ◌≡◌, refl, Bool, true, false, cond, List, eqb, ltb, length, Ok, Err}
use Rattle.std.proofs.Common.{sym, ap, ◌∙◌, arith, ltb-true, ltb-false}
use Rattle.steps.specs.Steps.{done, ◌>>=◌, ◌>>◌, ensure, got, refused, run}
use Rattle.steps.specs.Laws.{more, zero_left, run_next, run_end}
use Rattle.steps.specs.Leaves.{byte}
use Rattle.steps.specs.Took.{Took}
use Rattle.steps.specs.declared.Cursor.{Cursor}
use Rattle.crate_text.specs.Text.{scan, padding, skip}

pub scan_more : (i : ℕ) → i < 13
    → scan (13 - i) i ≡ (byte >>= (λ b. cond (eqb b 0x0a) (done i) (scan (13 - (i + 1)) (i + 1))))
unfolding scan
scan_more i h = ap (λ (n : ℕ). scan n i) (more 13 i h)

pub scan_end : (i : ℕ) → 13 ≤ i → scan (13 - i) i ≡ done i
unfolding scan
scan_end i h = ap (λ (n : ℕ). scan n i) (zero_left 13 i h)

pub padding_more : (k : ℕ) → k < 12 → padding (12 - k) ≡ (byte >>= (λ b. ensure (eqb b 0x20) 5 >> padding (12 - (k + 1))))
unfolding padding
padding_more k h = ap padding (more 12 k h)

pub padding_end : (k : ℕ) → 12 ≤ k → padding (12 - k) ≡ done tt
unfolding padding
padding_end k h = ap padding (zero_left 12 k h)

-- ---- bytes that are skipped: all there, or not

pub run_skip : (n : ℕ) (s : List ℕ) (at : ℕ) → at + n ≤ length s → run (skip n) s at ≡ got tt (at + n)
unfolding skip byte
run_skip zero s at h = ap (got tt) (omega arith)
run_skip (suc n) s at h =
    run_next (λ _. skip n) s at (omega arith) ∙ run_skip n s (at + 1) (omega arith) ∙ ap (got tt) (omega arith)

pub run_skip_out : (n : ℕ) (s : List ℕ) (at : ℕ) → 0 < n → length s ≤ at → run (skip n) s at ≡ refused 1 at
unfolding skip byte
run_skip_out zero s at l h = absurd (omega arith)
run_skip_out (suc n) s at l h = run_end (λ _. skip n) s at h

pub run_skip_short : (n : ℕ) (s : List ℕ) (at : ℕ) → at ≤ length s → length s < at + n → run (skip n) s at ≡ refused 1 (length s)
unfolding skip byte
run_skip_short zero s at l h = absurd (omega arith)
run_skip_short (suc n) s at l h = go (ltb at (length s)) refl (λ i. run_skip_short n s (at + 1) (omega arith) (omega arith))
  where
    go : (t : Bool) → ltb at (length s) ≡ t → (at < length s → run (skip n) s (at + 1) ≡ refused 1 (length s))
        → run (skip (suc n)) s at ≡ refused 1 (length s)
    go true e ih = run_next (λ _. skip n) s at (ltb-true _ _ e) ∙ ih (ltb-true _ _ e)
    go false e ih = run_end (λ _. skip n) s at (ltb-false _ _ e) ∙ ap (refused 1) (omega (arith, ltb-false at (length s) e))

-- the same of a cursor: left is how many bytes lie before it
pub skipped : (n : ℕ) (c : Cursor) → n ≤ length c.bytes.now - c.at → Took (skip n) c (Ok tt) (record { bytes = c.bytes; at = c.at + n })
unfolding skip
skipped zero c h = record { lent = refl; answer = ap (got tt) (omega arith); stands = tt }
skipped (suc n) c h = record { lent = refl; answer = sym (run_skip (suc n) c.bytes.now c.at (omega (arith, h))); stands = tt }

pub not_skipped : (n left : ℕ) (c : Cursor) → left ≡ length c.bytes.now - c.at → left < n
    → Took (skip n) c (Err (record { number = 1; at = c.at + left })) (record { bytes = c.bytes; at = c.at + left })
not_skipped n left c e h = record { lent = refl; answer = go (ltb c.at (length c.bytes.now)) refl; stands = refl }
  where
    go : (t : Bool) → ltb c.at (length c.bytes.now) ≡ t → refused 1 (c.at + left) ≡ run (skip n) c.bytes.now c.at
    go true l =
        ap (refused 1) (omega (arith, e, ltb-true _ _ l))
        ∙ sym (run_skip_short n c.bytes.now c.at (omega (arith, ltb-true _ _ l)) (omega (arith, e, h, ltb-true _ _ l)))
    go false l = ap (refused 1) (omega (arith, e, ltb-false _ _ l)) ∙ sym (run_skip_out n c.bytes.now c.at (omega (arith, h)) (ltb-false _ _ l))
