-- A walk over the flags that lists in an array those that are on, and what it comes to; a push, for which there is room, is a turn of it.
use Rattle.std.specs.Prelude.{ℕ, ◌+◌, ◌%◌, ◌<◌, ◌≤◌, ◌≡◌, refl, Bool, true, false, List, [], ◌++◌, set}
use Rattle.std.proofs.Common.{sym, ap, ◌∙◌, mod-eq_of_lt, arith}
use Rattle.fixed.specs.Fixed.{pad, put_room, more_room, push}
use Rattle.fixed.specs.Gather.{gather, when, when_at_most, gather_more, gather_at_most, Holds, held_at_most, took, kept}
use Rattle.shared_record.specs.Established.{EstablishedTimings, established_timings}

-- the array and its length are the record of a plain list
abbrev Listed : List ℕ → ℕ → List ℕ → Type 0
Listed items len xs = ◌≡◌ {A = EstablishedTimings} (record { items = items; len = len }) (established_timings xs)

listed : {xs items : List ℕ} {len : ℕ} → Holds 17 0 xs items len → Listed items len xs
listed h i = record { items = h.are i; len = h.many i }

-- a push, for which there is room, as array and length
pub pushed_room : (l : EstablishedTimings) (v : ℕ) → l.len < 17
    → ◌≡◌ {A = EstablishedTimings} (push 17 l v) (record { items = set l.items l.len v; len = l.len + 1 })
unfolding push
pushed_room l v room i = record { items = put_room 17 l.items l.len v room i; len = more_room 17 l.len room i }

module _ (on : ℕ → Bool) where
  -- the numbers of those of the first k that are on
  abbrev passed : ℕ → List ℕ
  passed k = gather (λ j. when (on j) j) k

  -- k of sixteen are passed; the array and its length hold those that are on, no more than k
  abbrev pub Walked : ℕ → List ℕ → ℕ → Type 0
  Walked k items len = (k ≤ 16) × (len ≤ k) × Holds 17 0 (passed k) items len

  walked : (k : ℕ) {items : List ℕ} {len : ℕ} → k ≤ 16 → Holds 17 0 (passed k) items len → Walked k items len
  walked k m h = (m, omega (arith, held_at_most h, gather_at_most (λ j. when (on j) j) 1 (λ j. when_at_most (on j) j) k), h)

  pub begun : Walked 0 (pad 17 0 []) 0
  begun = walked 0 (omega arith) (record { are = refl; many = refl })

  -- a turn, by the code's test of digit k
  module _ {k : ℕ} {items : List ℕ} {len : ℕ} (w : Walked k items len) (m : k < 16) {t : Bool} (tests : t ≡ on (k % 16)) where
    says : {b : Bool} → t ≡ b → when (on k) k ≡ when b k
    says e = ap (λ b. when b k) (ap on (sym (mod-eq_of_lt m)) ∙ sym tests ∙ e)

    pub turn_on : {items' : List ℕ} {len' : ℕ} → t ≡ true → items' ≡ set items len k → len' ≡ len + 1 → Walked (k + 1) items' len'
    turn_on e is more = walked (k + 1) (omega arith) (rw gather_more (took w.2 (says e) (omega (arith, w.1)) is more))

    pub turn_off : {items' : List ℕ} {len' : ℕ} → t ≡ false → items' ≡ items → len' ≡ len → Walked (k + 1) items' len'
    turn_off e is same = walked (k + 1) (omega arith) (rw gather_more (kept w.2 (says e) is same))

  -- behind the sixteen, by the code's test of the last flag
  module _ {k : ℕ} {items : List ℕ} {len : ℕ} (w : Walked k items len) (m : 16 ≤ k) {t last : Bool} (tests : t ≡ last) where
    all : Holds 17 0 (passed 16) items len
    all = let e : k ≡ 16 = omega (arith, w.0) in rw e at w.2

    pub last_on : t ≡ true → Listed (set items len 16) (len + 1) (passed 16 ++ when last 16)
    last_on e = listed (took all (ap (λ b. when b 16) (sym tests ∙ e)) (omega (arith, w.0, w.1)) refl refl)

    pub last_off : t ≡ false → Listed items len (passed 16 ++ when last 16)
    last_off e = listed (kept all (ap (λ b. when b 16) (sym tests ∙ e)) refl refl)
