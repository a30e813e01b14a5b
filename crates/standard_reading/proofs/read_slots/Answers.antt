-- `standard_reading::read_slots` meets its contract. The invariant: no slot passed is refused, and the lists hold what they list. Assumes nothing.
use Rattle.std.specs.Prelude.{Ok, []}
use Rattle.std.proofs.Common.{◌≡◌, sym, ap, ◌∙◌}
use Rattle.std.proofs.lemmas.Grind.{common_steps}
use Prim.Native.Nat.{◌+◌, ◌-◌}
use lib.ListN.{take, drop}
use native.Mathlib.Nat.{add-sub_cancel_left}
use native.Mathlib.Omega.{arith}
use Rattle.bits.specs.Bytes.{part}
use Rattle.standard_record.specs.Lists.{detailed_timings, white_points, descriptors}
use Rattle.standard_head.specs.Head.{structure_in}
use Rattle.standard_slots.specs.Said.{pairs_in, said}
use Rattle.standard_slots.specs.Answers.{of_slot}
use Rattle.standard_reading.specs.Slots.{start, said_in, judged}
use Rattle.standard_reading.specs.Block.{standard_of}
use Rattle.standard_reading.specs.Filling.{eight_listed, slot_listed, with_slot}
use Rattle.standard_reading.specs.declared.Lists.{Lists}
use Rattle.standard_reading.proofs.Laws.{decides, passes, lists_are, roomy}
use Rattle.standard_reading.proofs.read_slots.Goals as goal

pub loop-i-init : goal.loop-i-init
unfolding judged
loop-i-init c =
    let eight = c.list_pairs.ensures ∙ rw c.structure_of-structure.ensures (eight_listed c.args.s.now) in
    (c.requires.1, λ j. record { standard = eight j; detailed = detailed_timings []; points = white_points []; descriptors = descriptors [] })

pub list_slot-requires : goal.list_slot-requires
list_slot-requires c =
    let i = c.loop-i.i in
    let e = c.loop-i.invariant.1 in
    (grind (arith, common_steps, c.requires.0), rw e (roomy c.args.s.now i (omega (arith, c.loop-i-test.true))))

pub returns-in-Err : goal.returns-in-Err
unfolding standard_of
returns-in-Err c =
    let s = c.args.s.now in
    let i = c.loop-i.i in
    let is : said_in s i ≡ of_slot (pairs_in (structure_in s) (part s (start i) 18)) c.said.result =
    sym (rw (add-sub_cancel_left, c.structure_of-structure.ensures) at c.said.ensures)
    in
    rw (
      c.refuse.ensures,
      decides _ _ _ c.loop-i.invariant.0 (is ∙ ap (of_slot _) c.in-Err.is) (omega (arith, c.loop-i-test.true)),
    )

pub loop-i-preserved : goal.loop-i-preserved
loop-i-preserved c =
    let s = c.args.s.now in
    let i = c.loop-i.i in
    let σ = c.structure_of-structure.result in
    let whole : start i + 18 - start i ≡ 18 = omega arith in
    let t = take (start i + 18 - start i) (drop (start i) s) in
    let is : of_slot (pairs_in σ t) (Ok c.in-Ok.says) ≡ said_in s i =
    ap (of_slot (pairs_in σ t)) (sym c.in-Ok.is) ∙ c.said.ensures ∙ ap (λ x. said x i t (start i)) c.structure_of-structure.ensures
    ∙ ap (λ n. said (structure_in s) i (take n (drop (start i) s)) (start i)) whole
    in
    let grown : c.list_slot.new.self ≡ with_slot c.loop-i.lists (i + 1) (said_in s i) =
    c.list_slot.ensures ∙ ap (with_slot c.loop-i.lists (i + 1)) is
    in
    (passes s i _ c.in-Ok.says c.loop-i.invariant.0 (sym is), grown ∙ ap (λ (a : Lists). with_slot a (i + 1) (said_in s i)) c.loop-i.invariant.1 ∙ slot_listed s i)

pub record_of-edid-requires : goal.record_of-edid-requires
record_of-edid-requires c =
    let all : c.loop-i.i ≡ 4 = omega (arith, c.loop-i.auto.i-end, c.loop-i-test.false) in
    lists_are c.requires.0 (rw all at c.loop-i.invariant.1)

pub returns : goal.returns
unfolding standard_of
returns c =
    let all : c.loop-i.i ≡ 4 = omega (arith, c.loop-i.auto.i-end, c.loop-i-test.false) in
    rw (c.record_of-edid.ensures, rw all at c.loop-i.invariant.0)
