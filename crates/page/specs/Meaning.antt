-- What `▷` comes to: on a page with room, the text that is there, then the bytes, then what is left of the page.
use Rattle.std.specs.Prelude.{ℕ, ◌+◌, ◌<◌, ◌≤◌, min, List, [], ◌∷◌, ◌++◌, ◌≡◌, length, take, drop, set}
use Rattle.std.proofs.Common.{append_assoc, ap, sym, ◌∙◌, add-one, add-zero, zero-add, arith, lt-ltb, length-set, length-take, take-append-drop, take-suc-set, drop-set-lt, refl}
use Rattle.std.proofs.Math.Seq.{take-append_seam, drop-append_seam}
use Rattle.page.specs.declared.Page.{Page}
use Rattle.page.specs.Page.{holding, and, ◌▷◌}

one_more : (p : Page) (b : ℕ) → p.at < 4096 → and p b ≡ holding p (set p.out.now p.at b) (p.at + 1)
unfolding and
one_more p b h = let e : min (p.at + 1) 4096 ≡ p.at + 1 = omega arith in rw (lt-ltb p.at 4096 h) (ap (holding p (set p.out.now p.at b)) e)

pub fits : (bs : List ℕ) (p : Page) → length p.out.now ≡ 4096 → p.at + length bs ≤ 4096
    → p ▷ bs ≡ holding p (take p.at p.out.now ++ (bs ++ drop (p.at + length bs) p.out.now)) (p.at + length bs)
unfolding ◌▷◌
fits [] p l h = rw (add-zero p.at, take-append-drop) refl
fits (b ∷ bs) p l h =
    let out = p.out.now in let at = p.at in
    let inside : at < length out = omega arith in
    let end : at + 1 + length bs ≡ at + length (b ∷ bs) = omega arith in
    let same = drop-set-lt (at + length (b ∷ bs)) out at b (omega arith) in
    ap (λ (q : Page). q ▷ bs) (one_more p b (omega arith))
    ∙ fits bs (holding p (set out at b) (at + 1)) (length-set out at b ∙ l) (omega arith)
    ∙ rw (end, same, add-one at, take-suc-set out at b inside, append_assoc) refl

-- whatever is appended, the page is lent by the same borrow
pub same_loan : (bs : List ℕ) (p : Page) → (p ▷ bs).out.ghost_name ≡ p.out.ghost_name
unfolding ◌▷◌ and
same_loan [] p = refl
same_loan (b ∷ bs) p = same_loan bs (and p b)

-- from the start of a page: its first bytes, as many as are used, are the text, and the rest is as it was
pub whole : (bs : List ℕ) (p q : Page) → length p.out.now ≡ 4096 → p.at ≡ 0 → length bs ≤ 4096 → q ≡ p ▷ bs
    → (take q.at q.out.now ≡ bs) × (drop q.at q.out.now ≡ drop q.at p.out.now)
whole bs p q l z h e =
    let f : q ≡ holding p (take p.at p.out.now ++ (bs ++ drop (p.at + length bs) p.out.now)) (p.at + length bs) = e ∙ fits bs p l (omega arith) in
    let count : q.at ≡ length bs = ap (λ (r : Page). r.at) f ∙ rw z (zero-add (length bs)) in
    let all : q.out.now ≡ bs ++ drop (length bs) p.out.now = ap (λ (r : Page). r.out.now) f ∙ rw (z, zero-add (length bs)) refl in
    rw (count, all) (take-append_seam bs _, drop-append_seam bs _)

-- a contract `page.new ≡ page.old ▷ ..` leaves one page and one count
pub one : (p q r : Page) (bs : List ℕ) → q ≡ p ▷ bs → r ≡ p ▷ bs → q ≡ r
one p q r bs e f = e ∙ sym f

-- a contract that gives the first r bytes of a page, fewer than all, and leaves the rest as it was, leaves one count and one page
pub only : (bs out p q : List ℕ) (m n : ℕ) → length bs < 4096 → length p ≡ 4096 → length q ≡ 4096
    → (take m p ≡ bs) × (drop m p ≡ drop m out) → (take n q ≡ bs) × (drop n q ≡ drop n out) → (m ≡ n) × (p ≡ q)
only bs out p q m n h lp lq a b =
    let i : m ≡ n = omega (arith, ap length a.0, ap length b.0, length-take m p, length-take n q) in
    (i, sym (take-append-drop m p) ∙ (rw (a.0, a.1, i, ← b.0, ← b.1) (take-append-drop n q)))

-- what a page ends as is what its caller finds there: the borrow is the one that was lent
pub lent : (p q : Page) (bs : List ℕ) → q ≡ p ▷ bs → q.out.ghost_name ≡ p.out.ghost_name
lent p q bs e = ap (λ (r : Page). r.out.ghost_name) e ∙ same_loan bs p
