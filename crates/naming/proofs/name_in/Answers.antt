-- `naming::name_in` meets its contract. The invariant: the slots passed are not refused, and the name is the first of their texts. Assumes nothing.
use Rattle.std.specs.Prelude.{Ok}
use Prim.Native.Nat.{ℕ}
use mathlib.Core.Path.{◌≡◌, refl, sym, ap, ◌∙◌}
use mathlib.Core.List.{List, []}
use native.Mathlib.Nat.{add-sub_cancel_left}
use native.Mathlib.Omega.{arith}
use borrow.Author.Rules.{rules}
use Rattle.standard_verdict.specs.Laws.{has_128}
use Rattle.bits.specs.Bytes.{part}
use Rattle.standard_head.specs.Head.{structure_in}
use Rattle.standard_slots.specs.Said.{pairs_in}
use Rattle.standard_slots.specs.Answers.{of_slot}
use Rattle.standard_slots.specs.declared.Slot.{Slot}
use Rattle.standard_record.specs.declared.Descriptor.{Descriptor}
use Rattle.standard_record.specs.declared.StandardTiming.{StandardTiming}
use Rattle.standard_reading.specs.Slots.{start, said_in, judge, judged}
use Rattle.naming.specs.Slots.{names}
use Rattle.naming.proofs.Laws.{one_more, no_more, refused_before, refused_slot, passed_all}
use Rattle.naming.proofs.name_in.Goals as goal
use Rattle.naming.proofs.name_in.Goals.{in-Described, in_default-says}

-- the kinds of slot that are not described
others : (ps : List StandardTiming) (at : ℕ) (r : Slot) → ((d : Descriptor) → r ≡ Slot.Described d → ⊥)
    → (judge (of_slot ps (Ok r)) at ≡ Ok tt) × (names (of_slot ps (Ok r)) ≡ [])
others ps at Slot.Nothing b = (refl, refl)
others ps at (Slot.Timing d) b = (refl, refl)
others ps at Slot.Pairs b = (refl, refl)
others ps at (Slot.Points ws) b = (refl, refl)
others ps at (Slot.Described d) b = absurd (b d refl)

pub returns-in_default : goal.returns-in_default
returns-in_default c = sym (refused_before _ _ (sym c.before_slots.ensures ∙ c.in_default.is))

pub bounds-s-19 : goal.bounds-s-19
bounds-s-19 c = omega (arith, has_128 _ (sym c.before_slots.ensures ∙ c.in-Ok.is))

pub loop-i-init : goal.loop-i-init
unfolding judged
loop-i-init c =
    let e = sym c.before_slots.ensures ∙ c.in-Ok.is in
    (search rules, has_128 _ e, record { passed = e; found = refl })

pub returns : goal.returns
returns c =
    let all : c.loop-i.i ≡ 4 = omega arith in
    passed_all _ (rw all at c.loop-i.invariant.2)

pub returns-in-Err : goal.returns-in-Err
returns-in-Err c =
    let s = c.args.s.now in
    let i = c.loop-i.i in
    let is : said_in s i ≡ of_slot (pairs_in (structure_in s) (part s (start i) 18)) c.said.result =
    sym (rw (add-sub_cancel_left, c.structure_of-structure.ensures) at c.said.ensures)
    in
    sym (refused_slot _ _ _ (omega arith) (is ∙ ap (of_slot _) c.in-Err.is))

pub loop-i-preserved : goal.loop-i-preserved
loop-i-preserved c =
    let s = c.args.s.now in
    let i = c.loop-i.i in
    let h = c.loop-i.invariant.2 in
    let is : said_in s i ≡ of_slot (pairs_in (structure_in s) (part s (start i) 18)) c.said.result =
    sym (rw (add-sub_cancel_left, c.structure_of-structure.ensures) at c.said.ensures)
    in (
      search rules,
      search rules,
      elim c.match-says.branch [
        | in-Described w ↦ rw (w.name-is, w.earlier-name.ensures) (one_more _ h (is ∙ ap (of_slot _) (c.in-Ok-said.is ∙ ap Ok w.in-Described.is)) refl)
        | in_default-says w ↦ rw w.name-is (let o = others _ _ c.in-Ok-said.says w.in_default-says.not-Described in no_more _ h (is ∙ ap (of_slot _) c.in-Ok-said.is) o.0 o.1)
      ],
    )
