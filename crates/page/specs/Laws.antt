-- What the proofs of appending use, here and in the crates that append lines.
use Rattle.std.specs.Prelude.{ℕ, zero, suc, ◌+◌, ◌-◌, ◌*◌, ◌/◌, ◌%◌, ◌<◌, ◌≤◌, min, cond, List, [], ◌∷◌, ◌++◌, ◌≡◌, refl, ltb, length, take, drop, get_or, set}
use Rattle.std.proofs.Common.{append-nil, append_assoc, sym, ap, ◌∙◌, add-one, mod-eq_of_lt, zero-add, suc-add, arith, lt-ltb, le-ltb, length-drop, take-suc}
use Rattle.std.proofs.Math.Nat.{zero-min, min-zero, suc-min-suc}
use Rattle.page.specs.declared.Page.{Page}
use Rattle.page.specs.Page.{holding, and, ◌▷◌}
use Rattle.page.specs.Words.{space, decimal_in, field, field32, field16, field8, flat, each}

-- ---- appending

-- one byte, on a page with room and on a full page
pub room : (p : Page) (b : ℕ) → p.at < 4096 → holding p (set p.out.now p.at b) (p.at + 1) ≡ p ▷ (b ∷ [])
unfolding and ◌▷◌
room p b h = let e : p.at + 1 ≡ min (p.at + 1) 4096 = omega arith in rw (lt-ltb p.at 4096 h) (ap (holding p (set p.out.now p.at b)) e)

pub full : (p : Page) (b : ℕ) → 4096 ≤ p.at → holding p p.out.now 4096 ≡ p ▷ (b ∷ [])
unfolding and ◌▷◌
full p b h = let e : 4096 ≡ min (p.at + 1) 4096 = omega arith in rw (le-ltb p.at 4096 h) (ap (holding p p.out.now) e)

pub nothing : (p : Page) → p ▷ [] ≡ p
unfolding ◌▷◌
nothing p = refl

-- two appends are one, of both
pub joined : (p : Page) (bs cs : List ℕ) → p ▷ bs ▷ cs ≡ p ▷ (bs ++ cs)
unfolding ◌▷◌
joined p [] cs = refl
joined p (b ∷ bs) cs = joined (and p b) bs cs

-- pieces, one after the other: the equations by which the check finds a line
pub pieces : (p : Page) (x : List ℕ) (xs : List (List ℕ)) → p ▷ flat (x ∷ xs) ≡ p ▷ x ▷ flat xs
unfolding flat
pieces p x xs = sym (joined p x (flat xs))

pub no_pieces : (p : Page) → p ▷ flat [] ≡ p
unfolding flat ◌▷◌
no_pieces p = refl

-- ---- decimals

-- ten to the power k + 1
unfoldable pub tens : ℕ → ℕ
tens zero = 10
tens (suc k) = 10 * tens k

-- one digit more than n has changes nothing
more : (k n : ℕ) → n < tens k → decimal_in (suc k) n ≡ decimal_in k n
unfolding tens decimal_in
more zero n h = rw (lt-ltb n 10 h, mod-eq_of_lt h)
more (suc k) n h = ap (λ (l : List ℕ). cond (ltb n 10) ((48 + n) ∷ []) (l ++ ((48 + n % 10) ∷ []))) (more k (n / 10) (omega arith))

-- what the decimal of a number of 64 bits is: its one digit, or the decimal of its tenth and its last digit
pub decimal_one : (n : ℕ) → n < 10 → (48 + n) ∷ [] ≡ decimal_in 19 n
unfolding decimal_in
decimal_one n h = rw (lt-ltb n 10 h)

pub decimal_more : (n : ℕ) → 10 ≤ n → n < 18446744073709551616 → decimal_in 19 (n / 10) ++ ((48 + n % 10) ∷ []) ≡ decimal_in 19 n
unfolding decimal_in tens
decimal_more n h f = rw (le-ltb n 10 h) (ap (λ (l : List ℕ). l ++ ((48 + n % 10) ∷ [])) (more 18 (n / 10) (omega arith)))

-- more digits than n has change nothing
below : (k n j : ℕ) → n < tens k → n < tens (j + k)
unfolding tens
below k n zero h = rw (zero-add k) h
below k n (suc j) h = let b = below k n j h in rw (suc-add j k) (omega arith)

fewer : (k n j : ℕ) → n < tens k → decimal_in (j + k) n ≡ decimal_in k n
fewer k n zero h = rw (zero-add k)
fewer k n (suc j) h = rw (suc-add j k) (more (j + k) n (below k n j h) ∙ fewer k n j h)

pub short32 : (n : ℕ) → n < 4294967296 → field n ≡ field32 n
unfolding field field32 tens
short32 n h = ap (λ (l : List ℕ). space ++ l) (fewer 9 n 10 (omega arith))

pub short16 : (n : ℕ) → n < 65536 → field n ≡ field16 n
unfolding field field16 tens
short16 n h = ap (λ (l : List ℕ). space ++ l) (fewer 4 n 15 (omega arith))

pub short8 : (n : ℕ) → n < 256 → field n ≡ field8 n
unfolding field field8 tens
short8 n h = ap (λ (l : List ℕ). space ++ l) (fewer 2 n 17 (omega arith))

-- ---- loops

-- one more element
pub take_more : {A : Type 0} (s : List A) (i : ℕ) (d : A) → i < length s → take i s ++ (get_or s i d ∷ []) ≡ take (i + 1) s
take_more s i d h = rw (add-one, take-suc s i d)

each_append : {A : Type 0} (f : A → List ℕ) (xs ys : List A) → each f (xs ++ ys) ≡ each f xs ++ each f ys
unfolding each
each_append f [] ys = refl
each_append f (x ∷ xs) ys = ap (λ (l : List ℕ). f x ++ l) (each_append f xs ys) ∙ sym (append_assoc (f x) (each f xs) (each f ys))

-- f of one more element
pub each_more : {A : Type 0} (f : A → List ℕ) (s : List A) (i : ℕ) (d : A) → i < length s → each f (take i s) ++ f (get_or s i d) ≡ each f (take (i + 1) s)
unfolding each
each_more f s i d h = rw (← take_more s i d h, each_append, append-nil)

-- the same on a page
pub one_longer : (p : Page) (s : List ℕ) (i d : ℕ) → i < length s → p ▷ take i s ▷ (get_or s i d ∷ []) ≡ p ▷ take (i + 1) s
one_longer p s i d h = rw (joined, take_more s i d h) refl

pub one_more : {A : Type 0} (p : Page) (f : A → List ℕ) (s : List A) (i : ℕ) (d : A) → i < length s
    → p ▷ each f (take i s) ▷ f (get_or s i d) ≡ p ▷ each f (take (i + 1) s)
one_more p f s i d h = rw (joined, each_more f s i d h) refl

-- what the check finds the contracts by, of what appends piece after piece
pub ruleset appends = (nothing, one_longer, one_more, pieces, no_pieces)
