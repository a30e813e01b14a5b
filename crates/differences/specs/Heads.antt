-- The head of a block: the crate reading takes its 35 bytes, and each field but the maker is the standard one, converted.
use Rattle.std.specs.Prelude.{ℕ, ◌+◌, ◌*◌, ◌<◌, ◌≡◌, Bool, true, false, ◌&&◌, eqb}
use Rattle.std.proofs.Math.Path.{refl, subst}
use Rattle.std.proofs.Common.{sym, ◌∙◌, arith, eqb-true, eq-eqb, ne_eqb}
use mathlib.Core.List.{List}
use Rattle.std.proofs.Math.ListN.{drop}
use Rattle.std.proofs.lemmas.Bool.{eqb-false}
use Rattle.bits.specs.Bytes.{◌!◌}
use Rattle.bits.specs.Fields.{digits}
use Rattle.steps.specs.Leaves.{byte, word, long}
use Rattle.crate_record.specs.Single.{chroma_of, coordinate}
use Rattle.crate_record.specs.declared.Chromaticities.{Chromaticities as CrateChromaticities}
use Rattle.crate_head.specs.Head.{header, maker_of, maker, date, product, version, input_of, input, size_of, gamma_from, dpms_of, dpms, display, color, front}
use Rattle.crate_head.specs.declared.Front.{Front}
use Rattle.standard_head.specs.Head.{structure_in, product_in, version_in, input_in, display_in, colors_in}
use Rattle.standard_verdict.specs.Verdict.{is_header}
use Rattle.differences.specs.Converted.{product_from, display_from, colors_from}
use Rattle.differences.specs.Unmarked.{Block}
use Rattle.differences.specs.Along.{Along, along_map, along_then, along_ensured, spell}
use Rattle.differences.specs.Leaves.{week_agrees, input_agrees, size_agrees, gamma_agrees, features_agree}

-- four bytes, the low one first
abbrev long_of : ℕ → ℕ → ℕ → ℕ → ℕ
long_of a b c d = a + 256 * b + 65536 * (c + 256 * d)

-- one test of four bytes is four tests
module _ (a b c d i j k l : ℕ) (small : (a < 256) × (b < 256) × (c < 256) × (d < 256) × (i < 256) × (j < 256) × (k < 256) × (l < 256)) where
  four_tests : eqb (long_of a b c d) (long_of i j k l) ≡ (eqb a i && eqb b j && eqb c k && eqb d l)
  four_tests = go (eqb a i) (eqb b j) (eqb c k) (eqb d l) refl refl refl refl
    where
      go : (p q r t : Bool) → eqb a i ≡ p → eqb b j ≡ q → eqb c k ≡ r → eqb d l ≡ t → eqb (long_of a b c d) (long_of i j k l) ≡ (p && q && r && t)
      go true true true true e f g h = eq-eqb (long_of a b c d) (long_of i j k l) (omega (arith, eqb-true a i e, eqb-true b j f, eqb-true c k g, eqb-true d l h))
      go true true true false e f g h = ne_eqb _ _ (λ (w : long_of a b c d ≡ long_of i j k l). eqb-false d l h (omega arith))
      go true true false t e f g h = ne_eqb _ _ (λ (w : long_of a b c d ≡ long_of i j k l). eqb-false c k g (omega arith))
      go true false r t e f g h = ne_eqb _ _ (λ (w : long_of a b c d ≡ long_of i j k l). eqb-false b j f (omega arith))
      go false q r t e f g h = ne_eqb _ _ (λ (w : long_of a b c d ≡ long_of i j k l). eqb-false a i e (omega arith))

-- the upper four of eight digits
upper : (b : ℕ) → digits b 6 2 ≡ digits (digits b 4 4) 2 2
upper b = omega arith

lower : (b : ℕ) → digits b 4 2 ≡ digits (digits b 4 4) 0 2
lower b = omega arith

module _ (s : List ℕ) where
  -- the front of the crate record
  abbrev pub front_from : Front
  front_from =
      record {
        product = product_from (maker_of (s ! 8 + 256 * s ! 9)) (product_in s);
        version = version_in s;
        display = display_from (display_in s);
        basic = colors_from (colors_in s);
      }

  abbrev pub FrontRead : Front → List ℕ → ℕ → Type 0
  FrontRead f cs n = (is_header s ≡ true) × (f ≡ front_from) × (cs ≡ drop 35 s) × (n ≡ 35)

module _ (s : List ℕ) (block : Block s) (F : ℕ → Type 0) (two : is_header s ≡ false → F 2) where
  header_is : is_header s ≡ (eqb (long_of (s ! 0) (s ! 1) (s ! 2) (s ! 3)) 0xffffff00 && eqb (long_of (s ! 4) (s ! 5) (s ! 6) (s ! 7)) 0x00ffffff)
  header_is =
      let b : (k : ℕ) → s ! k < 256 = block.bytes in
      sym (λ i.
      four_tests (s ! 0) (s ! 1) (s ! 2) (s ! 3) 0x00 0xff 0xff 0xff (b 0, b 1, b 2, b 3, omega arith, omega arith, omega arith, omega arith) i
      && four_tests (s ! 4) (s ! 5) (s ! 6) (s ! 7) 0xff 0xff 0xff 0x00 (b 4, b 5, b 6, b 7, omega arith, omega arith, omega arith, omega arith) i)

  header_along : Along (λ _ cs n. (is_header s ≡ true) × (cs ≡ drop 8 s) × (n ≡ 8)) F header s 0
  unfolding header byte word long
  header_along =
      subst (λ (bs : List ℕ). Along (λ _ cs n. (is_header s ≡ true) × (cs ≡ drop 8 s) × (n ≡ 8)) F header bs 0) (sym (spell s 0 8 (omega (arith, block.size))))
      (along_ensured _ F (eqb (long_of (s ! 0) (s ! 1) (s ! 2) (s ! 3)) 0xffffff00) 2 _ _ 4
      (λ e. along_ensured _ F (eqb (long_of (s ! 4) (s ! 5) (s ! 6) (s ! 7)) 0x00ffffff) 2 _ _ 8
      (λ f. (header_is ∙ rw (e, f), refl, refl)) (λ f. two (header_is ∙ rw (e, f)))) (λ e. two (header_is ∙ rw e)))

  display_agrees : record { input = input_of (s ! 20); size = size_of (s ! 21) (s ! 22); gamma = gamma_from (s ! 23); dpms = dpms_of (s ! 24) } ≡ display_from (display_in s)
  display_agrees = λ i. record {
    input = input_agrees (structure_in s) (s ! 20) i;
    size = size_agrees (structure_in s) (s ! 21) (s ! 22) (block.bytes 21) (block.bytes 22) i;
    gamma = gamma_agrees (s ! 23) (block.bytes 23) i;
    dpms = features_agree (input_in s) (s ! 24) i;
  }

  colors_agree : ◌≡◌ {A = CrateChromaticities} (record {
    red = record { x = coordinate (s ! 27) (s ! 25) 6; y = coordinate (s ! 28) (s ! 25) 4 };
    green = record { x = coordinate (s ! 29) (s ! 25) 2; y = coordinate (s ! 30) (s ! 25) 0 };
    blue = record { x = coordinate (s ! 31) (s ! 26) 6; y = coordinate (s ! 32) (s ! 26) 4 };
    white = record { x = coordinate (s ! 33) (s ! 26) 2; y = coordinate (s ! 34) (s ! 26) 0 };
  }) (colors_from (colors_in s))
  unfolding colors_in
  colors_agree = λ i. record {
    red = record { x = chroma_of (upper (s ! 25) i + 4 * s ! 27); y = chroma_of (lower (s ! 25) i + 4 * s ! 28) };
    green = record { x = coordinate (s ! 29) (s ! 25) 2; y = coordinate (s ! 30) (s ! 25) 0 };
    blue = record { x = chroma_of (upper (s ! 26) i + 4 * s ! 31); y = chroma_of (lower (s ! 26) i + 4 * s ! 32) };
    white = record { x = coordinate (s ! 33) (s ! 26) 2; y = coordinate (s ! 34) (s ! 26) 0 };
  }

  product_agrees : record {
    maker = maker_of (s ! 8 + 256 * s ! 9);
    code = s ! 10 + 256 * s ! 11;
    serial = long_of (s ! 12) (s ! 13) (s ! 14) (s ! 15);
    date = record { week = s ! 16; year = s ! 17 + 1990 };
  } ≡ product_from (maker_of (s ! 8 + 256 * s ! 9)) (product_in s)
  unfolding product_in
  product_agrees = λ i. record {
    maker = maker_of (s ! 8 + 256 * s ! 9);
    code = s ! 10 + 256 * s ! 11;
    serial = long_of (s ! 12) (s ! 13) (s ! 14) (s ! 15);
    date = record { week = week_agrees (structure_in s) (s ! 16) i; year = s ! 17 + 1990 };
  }

  pub front_along : Along (FrontRead s) F front s 0
  unfolding front maker date product version input dpms display color byte word long product_in
  front_along =
      along_then _ F header _ s 0
      (along_map (λ _ cs n. (is_header s ≡ true) × (cs ≡ drop 8 s) × (n ≡ 8)) F _ header s 0
      (λ _ cs n r. rw (r.1, spell s 8 27 (omega (arith, block.size))) (r.0, (λ i. record { product = product_agrees i; version = version_in s; display = display_agrees i; basic = colors_agree i }), refl, omega (arith, r.2)))
      header_along)
