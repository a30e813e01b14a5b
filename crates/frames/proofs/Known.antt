-- What is known of a reader's first bytes, and of a result.
use Rattle.std.proofs.Common.{◌≡◌, ℕ, ◌≤◌, ◌<◌, Bool, true, false, List, arith, length, take, refl, sym, take_all, OnOk, IfSome}
use Rattle.std.specs.Prelude.{Option, None, Some, Result, Ok, Err, nat_lt}
use Rattle.std.specs.Io.KnownBytes.{Consumes, IsAtEnd}
use Rattle.std.proofs.Math.Seq.{take-append_seam}
use mathlib.Core.List.{append-nil}

-- what follows of known bytes where all went well
pub on_ok_if_known : {T E : Type 0} (A : Type 0) (P Q : List ℕ → Type 0) (r : Result T E) (a : Option (List ℕ)) → OnOk r A → IfSome a P
    → ((xs : List ℕ) → P xs → A → Q xs) → OnOk r (IfSome a Q)
on_ok_if_known A P Q (Err e) a w k f = tt
on_ok_if_known A P Q (Ok t) None w k f = tt
on_ok_if_known A P Q (Ok t) (Some xs) w k f = f xs k w

-- what follows where all went well
pub on_ok : {T E : Type 0} (A Q : Type 0) (r : Result T E) → OnOk r A → (A → Q) → OnOk r Q
on_ok A Q (Err e) w f = tt
on_ok A Q (Ok t) w f = f w

-- bytes that a reader gave, as many as there was room for, or all that it had
pub first_bytes : (room : ℕ) (a b : Option (List ℕ)) (bs : List ℕ) → length bs ≤ room → Consumes a b bs → (length bs < room → IsAtEnd b)
    → IfSome a (λ xs. bs ≡ take room xs)
first_bytes room None b bs fits h end = tt
first_bytes room (Some xs) None bs fits h end = absurd h
first_bytes room (Some xs) (Some ys) bs fits h end = by (nat_lt (length bs) room) refl
  where
    by : (t : Bool) → nat_lt (length bs) room ≡ t → bs ≡ take room xs
    by true e = rw (h, end (grind arith), append-nil bs) (sym (take_all room bs (omega arith)))
    by false e =
        let same : room ≡ length bs = grind arith in
        rw (h, same) (sym (take-append_seam bs ys))
