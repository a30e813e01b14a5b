-- A run over the frames of an input: each is answered before the next one is read.
use Rattle.std.specs.Prelude.{◌≡◌, ℕ, zero, suc, ◌⊎◌, List, length, take, Option}
use Rattle.frames.specs.Frame.{ReadsFrame}
use Rattle.frames.specs.Answer.{Answer, Writes}
use Rattle.frames.specs.declared.Came.{Came}
use Rattle.frames.specs.declared.Came.TheVariants.{All, Nothing, Part, TooLong}

-- one frame is read and answered: what the reader has left, and what the writer holds, before and after
abbrev pub AnswersOne : Answer → Option (List ℕ) → Option (List ℕ) → Option (List ℕ) → Option (List ℕ) → Type 0
AnswersOne answer left left' held held' =
    (space : List ℕ) × (n : ℕ) × ReadsFrame left left' space (All n) × Writes answer (take n space) held held'

-- n frames, one after the other
unfoldable pub AnswersEach : Answer → ℕ → Option (List ℕ) → Option (List ℕ) → Option (List ℕ) → Option (List ℕ) → Type 0
AnswersEach answer zero left left' held held' = (left' ≡ left) × (held' ≡ held)
AnswersEach answer (suc n) left left' held held' =
    (left₁ : Option (List ℕ)) × (held₁ : Option (List ℕ)) × AnswersEach answer n left left₁ held held₁ × AnswersOne answer left₁ left' held₁ held'

abbrev pub IsNoFrame : Came → Type 0
IsNoFrame (All n) = ⊥
IsNoFrame Nothing = Unit {0}
IsNoFrame Part = Unit {0}
IsNoFrame TooLong = Unit {0}

-- no frame is read any more: n are the most of a run, or there is none
abbrev pub EndsAfter : ℕ → Option (List ℕ) → Option (List ℕ) → Type 0
EndsAfter n left left' =
    ((n ≡ 4294967296) × (left' ≡ left)) ⊎ ((space : List ℕ) × (length space ≡ 4096) × (came : Came) × IsNoFrame came × ReadsFrame left left' space came)

-- the whole run
abbrev pub AnswersAll : Answer → Option (List ℕ) → Option (List ℕ) → Option (List ℕ) → Option (List ℕ) → Type 0
AnswersAll answer left left' held held' =
    (n : ℕ) × (last : Option (List ℕ)) × AnswersEach answer n left last held held' × EndsAfter n last left'
