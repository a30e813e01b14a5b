-- With its values dropped the crate reading is the program `ends`, and where that ends is where going on from the start comes to.
use Rattle.std.specs.Prelude.{ℕ, zero, suc, ◌≡◌, refl, List, [], ◌∷◌, Option, Some, None}
use Rattle.std.proofs.Common.{sym, ◌∙◌, ap}
use Rattle.steps.specs.Steps.{Steps, done, ◌>>=◌, ◌>>◌, Outcome, got, refused, run, and_then}
use Rattle.steps.specs.Laws.{run_bind, then_then, then_same}
use Rattle.steps.specs.Leaves.{byte, word, long}
use Rattle.crate_record.specs.Seen.{holding}
use Rattle.crate_record.specs.declared.StandardTiming.{StandardTiming}
use Rattle.crate_record.specs.declared.DetailedTiming.{DetailedTiming}
use Rattle.crate_head.specs.Head.{header, maker, date, product, version, input, dpms, display, color, front}
use Rattle.crate_head.specs.declared.Front.{Front}
use Rattle.crate_text.specs.Text.{skip}
use Rattle.crate_timings.specs.Established.{established}
use Rattle.crate_timings.specs.Pairs.{pair, pairs}
use Rattle.crate_detailed.specs.Detailed.{detailed}
use Rattle.crate_descriptors.specs.Descriptors.{closing, descriptor}
use Rattle.crate_descriptors.specs.declared.Slot.TheVariants.{Six}
use Rattle.crate_slots.specs.Slots.{Said, standards, said_by, said_first, said_later, later, slots}
use Rattle.crate_reading.specs.Reading.{Parts, parts, plain, reading, answer}
use Rattle.crate_end.specs.Ends.{end_of, bare, said_at, piece, pieces_from, ends, onward, went}

pub run_bare : {A : Type 0} (p : Steps A) (s : List ℕ) (at : ℕ) → run (bare p) s at ≡ end_of (run p s at)
run_bare {A} p s at = run_bind p (λ _. done tt) s at ∙ on (run p s at)
  where
    on : (o : Outcome A) → and_then o (λ _ n. got tt n) ≡ end_of o
    on (got a n) = refl
    on (refused k n) = refl

-- a slot with a timing, and one without
pub some_bare : (i : ℕ) (t : DetailedTiming) → bare (said_at i (Some t)) ≡ done tt
some_bare zero t = refl
some_bare (suc i) t = refl

pub later_said : (i : ℕ) (t : Option DetailedTiming) → (i ≡ 0 → ⊥) → said_at i t ≡ said_later t
later_said zero t h = absurd (h refl)
later_said (suc i) t h = refl

pub none_bare : bare (said_later None) ≡ descriptor >>= (λ x. bare (said_by x))
none_bare = then_then descriptor said_by (λ _. done tt)

-- the pairs of an fa slot are twelve bytes
pub six_bare : bare (said_by Six) ≡ skip 12 >> bare (closing 0)
unfolding pairs pair skip byte
six_bare =
    then_then (pairs 6) (λ xs. closing 0 >> done (standards xs)) (λ _. done tt)
    ∙ then_same (pairs 6) (λ xs. then_then (closing 0) (λ _. done (standards xs)) (λ _. done tt))

-- a slot, and what follows it whatever the slot said
turn : (f : Option DetailedTiming → Steps Said) (k : Said → Steps (List Said)) (g : List Said → Steps Unit) (q : Steps Unit)
    → ((x : Said) → k x >>= g ≡ q) → (detailed >>= (λ t. f t >>= k)) >>= g ≡ (detailed >>= (λ t. bare (f t))) >> q
turn f k g q h =
    then_then detailed (λ t. f t >>= k) g
    ∙ then_same detailed (λ t. then_then (f t) k g ∙ then_same (f t) h ∙ sym (then_then (f t) (λ _. done tt) (λ _. q)))
    ∙ sym (then_then detailed (λ t. bare (f t)) (λ _. q))

later_bare : (n i : ℕ) (g : List Said → Steps Unit) → ((xs : List Said) → g xs ≡ skip 1) → later n >>= g ≡ pieces_from n (suc (suc i))
unfolding later piece pieces_from
later_bare zero i g h = h []
later_bare (suc n) i g h =
    turn said_later (λ x. later n >>= (λ xs. done (x ∷ xs))) g _
    (λ x. then_then (later n) (λ xs. done (x ∷ xs)) g ∙ later_bare n (suc i) (λ xs. g (x ∷ xs)) (λ xs. h (x ∷ xs)))

slots_bare : (g : List Said → Steps Unit) → ((xs : List Said) → g xs ≡ skip 1) → slots >>= g ≡ pieces_from 4 1
unfolding slots piece pieces_from
slots_bare g h =
    turn said_first (λ x. later 3 >>= (λ xs. done (x ∷ xs))) g _
    (λ x. then_then (later 3) (λ xs. done (x ∷ xs)) g ∙ later_bare 3 0 (λ xs. g (x ∷ xs)) (λ xs. h (x ∷ xs)))

-- the front after its header
abbrev behind : Steps Front
behind = do
  p ← product
  v ← version
  d ← display
  c ← color
  done (record { product = p; version = v; display = d; basic = c })

-- the reading after its slots
abbrev behind_slots : Front → List ℕ → List StandardTiming → List Said → Steps Parts
behind_slots f e a xs = do
  n ← byte
  done (record { front = f; established = e; eight = a; slots = xs; extensions = n })

-- and after its front
abbrev behind_front : Front → Steps Parts
behind_front f = do
  e ← established
  a ← pairs 8
  xs ← slots
  behind_slots f e a xs

abbrev nothing : {A : Type 0} → A → Steps Unit
nothing a = done tt

pub bare_reading : bare reading ≡ ends
unfolding reading parts front maker date product version input dpms display color established pairs pair skip byte word long piece pieces_from
bare_reading =
    then_then parts (λ p. done (holding (plain p))) nothing
    ∙ then_then front behind_front nothing
    ∙ then_then header (λ _. behind) (λ f. behind_front f >>= nothing)
    ∙ then_same header
    (λ _. then_same behind
    (λ f. then_same established
    (λ e. then_same (pairs 8)
    (λ a. then_then slots (behind_slots f e a) nothing ∙ slots_bare (λ xs. behind_slots f e a xs >>= nothing) (λ xs. refl)))))
    ∙ sym (then_then header (λ _. skip 46) (λ _. pieces_from 4 1))

pub went_end : (n i : ℕ) (s : List ℕ) (at : ℕ) → (went n i s at).end ≡ run (pieces_from n i) s at
unfolding went pieces_from
went_end zero i s at = refl
went_end (suc n) i s at = by (run (piece i) s at) (λ k. went_end n (suc i) s k) ∙ sym (run_bind (piece i) (λ _. pieces_from n (suc i)) s at)
  where
    by : (o : Outcome Unit) → ((k : ℕ) → (went n (suc i) s k).end ≡ run (pieces_from n (suc i)) s k)
        → (onward o (λ k. went n (suc i) s k) (record { piece = i; at = at; end = o })).end ≡ and_then o (λ _ k. run (pieces_from n (suc i)) s k)
    by (got a k) h = h k
    by (refused k m) h = refl

-- on every input
pub ends_so : (s : List ℕ) → (went 5 0 s 0).end ≡ end_of (answer s)
ends_so s = went_end 5 0 s 0 ∙ ap (λ p. run p s 0) (sym bare_reading) ∙ run_bare reading s 0
