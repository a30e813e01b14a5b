-- The four slots of a block, and the verdict on it.
use Rattle.std.specs.Prelude.{ℕ, zero, suc, ◌+◌, ◌*◌, List, Ok}
use Rattle.bits.specs.Bytes.{part}
use Rattle.standard_record.specs.Verdict.{Verdict}
use Rattle.standard_head.specs.Head.{structure_in}
use Rattle.standard_verdict.specs.Verdict.{refused_at, ◌then◌, before_slots}
use Rattle.standard_slots.specs.Said.{Said, refusal, nothing, timing, pairs, points, described, said}

-- where slot i begins
abbrev pub start : ℕ → ℕ
start i = 54 + 18 * i

-- what slot i says
abbrev pub said_in : List ℕ → ℕ → Said
said_in s i = said (structure_in s) i (part s (start i) 18) (start i)

-- the verdict on a slot that says this, and begins there
abbrev pub judge : Said → ℕ → Verdict
judge (refusal n) at = refused_at n at
judge nothing at = Ok tt
judge (timing d) at = Ok tt
judge (pairs ps) at = Ok tt
judge (points ws) at = Ok tt
judge (described d) at = Ok tt

-- after n slots
unfoldable pub judged : List ℕ → ℕ → Verdict
judged s zero = before_slots s
judged s (suc n) = judged s n then judge (said_in s n) (start n)

abbrev pub verdict_of : List ℕ → Verdict
verdict_of s = judged s 4
