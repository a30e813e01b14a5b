-- What is said of the parts of a block without a mark, but for the revision's; that the crate reading reads them so is in proofs/Parts. The standard
-- verdict on it.
use Rattle.std.specs.Prelude.{ℕ, zero, suc, ◌+◌, ◌*◌, ◌≡◌, refl, true, Ok, Err}
use Rattle.std.proofs.Math.Path.{sym}
use Rattle.std.proofs.Common.{◌∙◌, arith}
use mathlib.Core.List.{List, [], ◌∷◌, ◌++◌, map, map-append, map-map, append-nil, append_assoc}
use Rattle.bits.specs.Bytes.{◌!◌}
use Rattle.fixed.specs.Gather.{gather}
use Rattle.fixed.specs.Numbered.{Wrapper, turns}
use Rattle.steps.specs.Steps.{done, Outcome, got, refused, run, and_then}
use Rattle.steps.specs.Laws.{run_bind}
use Rattle.crate_record.specs.Seen.{holding}
use Rattle.crate_record.specs.declared.ManufacturerID.{ManufacturerID}
use Rattle.crate_record.specs.declared.StandardTiming.{StandardTiming as CratePair}
use Rattle.crate_head.specs.Head.{maker_of as crate_maker_of}
use Rattle.crate_head.specs.declared.Front.{Front}
use Rattle.crate_slots.specs.Slots as crate
use Rattle.crate_reading.specs.Reading.{Parts, parts, plain as crate_plain, reading, answer}
use Rattle.standard_record.specs.Held.{held_point, held_pair, held_timing, held}
use Rattle.standard_record.specs.Verdict.{Verdict}
use Rattle.standard_verdict.specs.Verdict.{refused_at, ◌then◌, is_header, before_slots}
use Rattle.standard_slots.specs.Said.{lists}
use Rattle.standard_reading.specs.Slots.{said_in, judged}
use Rattle.standard_reading.specs.Block.{flags_in, eight_in, plain}
use Rattle.differences.specs.Converted.{point_from, pair_from, timing_from, descriptor_from, converted}
use Rattle.differences.specs.Unmarked.{NoOffsets}
use Rattle.differences.specs.Heads.{front_from}
use Rattle.differences.specs.Slots.{listed, Accepts, All}

-- ---- what four slots list

four : {A : Type 0} (f : ℕ → List A) → f 0 ++ (f 1 ++ (f 2 ++ (f 3 ++ []))) ≡ gather f 4
four f = simp (append-nil, append_assoc)

-- f of each entry, whatever its number
turned : {A B C : Type 0} (w : Wrapper A B) (f : A → C) (g : ℕ → List A) (n : ℕ) → map (λ b. f (w.entry b)) (turns w g n) ≡ gather (λ i. map f (g i)) n
turned w f g zero = refl
turned w f g (suc n) =
    map-append (λ b. f (w.entry b)) (turns w g n) (map (w.wrap (n + 1)) (g n))
    ∙ (λ j. turned w f g n j ++ (map-map (λ b. f (w.entry b)) (w.wrap (n + 1)) (g n) ∙ (λ k. map (λ a. f (w.entry_is (n + 1) a k)) (g n))) j)

module _ (s : List ℕ) where
  together_is : NoOffsets s → (xs : List crate.Said) → All s 4 0 xs → crate.together xs ≡ record {
    standards = gather (λ i. (listed s i).standards) 4;
    timings = gather (λ i. (listed s i).timings) 4;
    points = gather (λ i. (listed s i).points) 4;
    descriptors = gather (λ i. (listed s i).descriptors) 4;
  }
  together_is still [] a = absurd a
  together_is still (x ∷ []) a = absurd a.1
  together_is still (x ∷ y ∷ []) a = absurd a.1.1
  together_is still (x ∷ y ∷ z ∷ []) a = absurd a.1.1.1
  together_is still (x ∷ y ∷ z ∷ w ∷ xs) a =
      let p = a.0 still in
      let q = a.1.0 still in
      let r = a.1.1.0 still in
      let t = a.1.1.1.0 still in
      (λ j. record {
        standards = (p j).standards ++ ((q j).standards ++ ((r j).standards ++ ((t j).standards ++ (crate.together (a.1.1.1.1 j)).standards)));
        timings = (p j).timings ++ ((q j).timings ++ ((r j).timings ++ ((t j).timings ++ (crate.together (a.1.1.1.1 j)).timings)));
        points = (p j).points ++ ((q j).points ++ ((r j).points ++ ((t j).points ++ (crate.together (a.1.1.1.1 j)).points)));
        descriptors = (p j).descriptors ++ ((q j).descriptors ++ ((r j).descriptors ++ ((t j).descriptors ++ (crate.together (a.1.1.1.1 j)).descriptors)));
      })
      ∙ (λ j. record {
        standards = four (λ i. (listed s i).standards) j;
        timings = four (λ i. (listed s i).timings) j;
        points = four (λ i. (listed s i).points) j;
        descriptors = four (λ i. (listed s i).descriptors) j;
      })

  -- the maker's word, as the crate reading has it
  abbrev pub number : ManufacturerID
  number = crate_maker_of (s ! 8 + 256 * s ! 9)

  -- ---- the block

  abbrev pub PartsRead : Parts → List ℕ → ℕ → Type 0
  PartsRead p cs n = (is_header s ≡ true) × Accepts s 4 0 × (NoOffsets s → crate_plain p ≡ converted number (plain s)) × (n ≡ 127)

  -- the parts, put together
  pub plain_agrees : (f : Front) (a : List CratePair) (xs : List crate.Said) → f ≡ front_from s → a ≡ map pair_from (eight_in s) → All s 4 0 xs → NoOffsets s
      → crate_plain (record { front = f; established = flags_in s; eight = a; slots = xs; extensions = s ! 126 }) ≡ converted number (plain s)
  unfolding crate_plain converted
  plain_agrees f a xs h k all still =
      let t = together_is still xs all in
      let eight = map-map (λ p. pair_from p.pair) (held_pair.wrap 0) (eight_in s) in
      let pairs = turned held_pair pair_from (λ i. (lists (said_in s i)).pairs) 4 in
      (λ j. record {
        product = (h j).product;
        version = (h j).version;
        display = (h j).display;
        basic = (h j).basic;
        points = (t j).points;
        established = flags_in s;
        standard = k j ++ (t j).standards;
        detailed = (t j).timings;
        descriptors = (t j).descriptors;
        extensions = s ! 126;
      })
      ∙ sym (λ j. record {
        product = (front_from s).product;
        version = (front_from s).version;
        display = (front_from s).display;
        basic = (front_from s).basic;
        points = turned held_point point_from (λ i. (lists (said_in s i)).points) 4 j;
        established = flags_in s;
        standard =
            (map-append (λ p. pair_from p.pair) (map (held_pair.wrap 0) (eight_in s)) (turns held_pair (λ i. (lists (said_in s i)).pairs) 4) ∙ (λ i. eight i ++ pairs i)) j;
        detailed = turned held_timing timing_from (λ i. (lists (said_in s i)).timings) 4 j;
        descriptors = turned held descriptor_from (λ i. (lists (said_in s i)).descriptors) 4 j;
        extensions = s ! 126;
      })

-- ---- verdicts

last_accepted : (v : Verdict) → (v then (Ok tt)) ≡ v
last_accepted (Ok tt) = refl
last_accepted (Err f) = refl

module _ (s : List ℕ) where
  pub judged_slots : Accepts s 4 0 → judged s 4 ≡ before_slots s
  unfolding judged
  judged_slots a =
      rw (a.0, a.1.0, a.1.1.0, a.1.1.1.0)
      (last_accepted _ ∙ last_accepted _ ∙ last_accepted _ ∙ last_accepted (before_slots s))

  -- an answer is that of the parts
  pub refused_parts : (k n : ℕ) → answer s ≡ refused k n → run parts s 0 ≡ refused k n
  unfolding reading
  refused_parts k n e = go (run parts s 0) (sym (run_bind parts (λ p. done (holding (crate_plain p))) s 0) ∙ e)
    where
      go : (o : Outcome Parts) → and_then o (λ p m. got (holding (crate_plain p)) m) ≡ refused k n → o ≡ refused k n
      go (got p m) h = cc
      go (refused j m) h = cc

pub not_refused : {A : Type 0} (n at : ℕ) → refused_at n at ≡ Ok tt → A
not_refused n at e = let z : ◌≡◌ {A = ℕ} 0 1 = cc in absurd (omega arith)
