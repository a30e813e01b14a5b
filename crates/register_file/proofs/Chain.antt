-- A batch behind those before it.
use Rattle.std.proofs.Common.{inl, inr, ◌⊎◌, ◌≡◌, ℕ, ◌+◌, ◌*◌, List, [], ◌++◌, arith, length, refl, sym, ap, ◌∙◌, subst, append_assoc, length-append}
use Rattle.std.specs.Prelude.{Option}
use Rattle.std.specs.Io.KnownBytes.{Appends, Consumes, IsAtEnd}
use Rattle.std.proofs.KnownBytes.{Appends-nil, Appends-trans, Consumes-nil, Consumes-trans}
use native.Mathlib.Nat.{add-mul}
use Rattle.register_file.specs.File.{from_of, Converted, converted}
use Rattle.register_file.specs.Laws.{no_records, ahead}
use Rattle.register_file.specs.Joined.{joined}
use Rattle.register_file.specs.Run.{Records, Ends}
use Rattle.register_file.specs.declared.Way.{Way}
use Rattle.register_file.specs.declared.End.{End}
use Rattle.register_file.specs.declared.End.TheVariants.{More, Whole, Refused, ReadFailed, WriteFailed}

pub none_yet : (way : Way) (l h : Option (List ℕ)) → Ends way 0 0 l l h h More
none_yet way l h = ([], omega arith, Consumes-nil l, rw (no_records way []) (refl, Appends-nil h))

module _ (way : Way) (m n : ℕ) (l l₁ l₂ h h₁ h₂ : Option (List ℕ)) (s t : List ℕ) (size : length s ≡ m * from_of way) (z : (converted way m s).number ≡ 0) where
  abbrev all : converted way (m + n) (s ++ t) ≡ ahead (converted way m s).bytes m (converted way n t)
  all = joined way m n s t size z

  written : Appends h h₁ (converted way m s).bytes → Appends h₁ h₂ (converted way n t).bytes → Appends h h₂ (converted way (m + n) (s ++ t)).bytes
  written a b = subst (Appends h h₂) (sym (ap (λ (c : Converted). c.bytes) all)) (Appends-trans h h₁ h₂ (converted way m s).bytes (converted way n t).bytes a b)

  told : (converted way (m + n) (s ++ t)).number ≡ (converted way n t).number
  told = ap (λ (c : Converted). c.number) all

  counted : (converted way (m + n) (s ++ t)).count ≡ m + (converted way n t).count
  counted = ap (λ (c : Converted). c.count) all

  taken : (u : List ℕ) → Consumes l l₁ s → Consumes l₁ l₂ (t ++ u) → Consumes l l₂ ((s ++ t) ++ u)
  taken u a b = subst (Consumes l l₂) (sym (append_assoc s t u)) (Consumes-trans l l₁ l₂ s (t ++ u) a b)

whole : (way : Way) (m : ℕ) (s t : List ℕ) → length s ≡ m * from_of way → Records way t → Records way (s ++ t)
whole way m s t size (k, e) = (m + k, omega (arith, length-append s t, size, e, add-mul m k (from_of way)))

whole_or_end : (way : Way) (m : ℕ) (l : Option (List ℕ)) (s t : List ℕ) → length s ≡ m * from_of way → Records way t ⊎ IsAtEnd l → Records way (s ++ t) ⊎ IsAtEnd l
whole_or_end way m l s t size (inl r) = inl (whole way m s t size r)
whole_or_end way m l s t size (inr e) = inr e

pub behind : (way : Way) (m n : ℕ) (l l₁ l₂ h h₁ h₂ : Option (List ℕ)) (end : End) → Ends way 0 m l l₁ h h₁ More → Ends way m n l₁ l₂ h₁ h₂ end
    → Ends way 0 (m + n) l l₂ h h₂ end
behind way m n l l₁ l₂ h h₁ h₂ More (s, size, read, (z, wrote)) (t, size', read', (z', wrote')) = (
  s ++ t,
  omega (arith, length-append s t, size, size', add-mul m n (from_of way)),
  Consumes-trans l l₁ l₂ s t read read',
  (told way m n l l₁ l₂ h h₁ h₂ s t size z ∙ z', written way m n l l₁ l₂ h h₁ h₂ s t size z wrote wrote'),
)
behind way m n l l₁ l₂ h h₁ h₂ Whole (s, size, read, (z, wrote)) (t, size', read', over, (z', wrote')) = (
  s ++ t,
  omega (arith, length-append s t, size, size', add-mul m n (from_of way)),
  Consumes-trans l l₁ l₂ s t read read',
  over,
  (told way m n l l₁ l₂ h h₁ h₂ s t size z ∙ z', written way m n l l₁ l₂ h h₁ h₂ s t size z wrote wrote'),
)
behind way m n l l₁ l₂ h h₁ h₂ (Refused index refusal) (s, size, read, (z, wrote)) (t, more, read', r, its, at, wrote') = (
  s ++ t,
  more,
  taken way m n l l₁ l₂ h h₁ h₂ s t size z more read read',
  whole_or_end way m l₂ s t size r,
  told way m n l l₁ l₂ h h₁ h₂ s t size z ∙ its,
  omega (arith, at, counted way m n l l₁ l₂ h h₁ h₂ s t size z),
  written way m n l l₁ l₂ h h₁ h₂ s t size z wrote wrote',
)
behind way m n l l₁ l₂ h h₁ h₂ (ReadFailed index) (s, size, read, (z, wrote)) (t, cut, read', r, short, at, (z', wrote')) = (
  s ++ t,
  cut,
  taken way m n l l₁ l₂ h h₁ h₂ s t size z cut read read',
  whole way m s t size r,
  short,
  omega (arith, at, counted way m n l l₁ l₂ h h₁ h₂ s t size z),
  (told way m n l l₁ l₂ h h₁ h₂ s t size z ∙ z', written way m n l l₁ l₂ h h₁ h₂ s t size z wrote wrote'),
)
behind way m n l l₁ l₂ h h₁ h₂ (WriteFailed index) (s, size, read, (z, wrote)) (k, t, more, between, few, size', read', at, (z', wrote')) = (
  m + k,
  s ++ t,
  more,
  between,
  omega (arith, few),
  omega (arith, length-append s t, size, size', add-mul m k (from_of way)),
  taken way m k l l₁ l₂ h h₁ between s t size z more read read',
  omega (arith, at),
  (told way m k l l₁ l₂ h h₁ between s t size z ∙ z', written way m k l l₁ between h h₁ between s t size z wrote wrote'),
)
