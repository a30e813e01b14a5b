-- `standard_reading::read_slot_timings` meets its contract. The invariant: no slot passed is refused, and the list holds what they list. Assumes nothing.
use Rattle.std.specs.Prelude.{Ok, []}
use Rattle.std.proofs.Common.{◌≡◌, refl, sym, ap, ◌∙◌}
use Prim.Native.Nat.{◌+◌, ◌-◌}
use mathlib.Core.List.{map}
use lib.ListN.{take, drop}
use native.Mathlib.Nat.{add-sub_cancel_left}
use native.Mathlib.Omega.{arith}
use Rattle.bits.specs.Bytes.{part}
use Rattle.fixed.specs.Fixed.{push, pushed}
use Rattle.standard_record.specs.Held.{held_timing}
use Rattle.standard_head.specs.Head.{structure_in}
use Rattle.standard_slots.specs.Said.{pairs_in, said}
use Rattle.standard_slots.specs.Answers.{of_slot}
use Rattle.standard_reading.specs.Slots.{start, said_in, judged}
use Rattle.standard_reading.specs.Block.{record_of, standard_of}
use Rattle.standard_reading.specs.Filling.{slot_listed, with_timings}
use Rattle.standard_reading.specs.declared.Lists.{Lists}
use Rattle.standard_reading.proofs.Laws.{decides, passes, roomy, timings_alone}
use Rattle.standard_reading.proofs.read_slot_timings.Goals as goal

pub loop-k-init : goal.loop-k-init
unfolding judged
loop-k-init c = (c.requires.1, refl)

pub list_timing-requires : goal.list_timing-requires
list_timing-requires c = rw c.loop-k.invariant.1 (roomy c.args.block.now c.loop-k.k (omega (arith, c.loop-k-test.true))).detailed

pub returns-in-Err : goal.returns-in-Err
unfolding standard_of
returns-in-Err c =
    let s = c.args.block.now in
    let i = c.loop-k.k in
    let is : said_in s i ≡ of_slot (pairs_in (structure_in s) (part s (start i) 18)) c.said.result =
    sym (rw (add-sub_cancel_left, c.structure_of-structure.ensures) at c.said.ensures)
    in
    rw (decides _ _ _ c.loop-k.invariant.0 (is ∙ ap (of_slot _) c.in-Err.is) (omega (arith, c.loop-k-test.true)))

pub loop-k-preserved : goal.loop-k-preserved
loop-k-preserved c =
    let s = c.args.block.now in
    let i = c.loop-k.k in
    let σ = c.structure_of-structure.result in
    let whole : start i + 18 - start i ≡ 18 = omega arith in
    let t = take (start i + 18 - start i) (drop (start i) s) in
    let is : of_slot (pairs_in σ t) (Ok c.in-Ok.says) ≡ said_in s i =
    ap (of_slot (pairs_in σ t)) (sym c.in-Ok.is) ∙ c.said.ensures ∙ ap (λ x. said x i t (start i)) c.structure_of-structure.ensures
    ∙ ap (λ n. said (structure_in s) i (take n (drop (start i) s)) (start i)) whole
    in
    let grown : c.list_timing.new.list ≡ with_timings c.loop-k.list (i + 1) (said_in s i) =
    c.list_timing.ensures ∙ ap (λ ts. pushed (push 4) c.loop-k.list (map (held_timing.wrap (i + 1)) ts)) (timings_alone [] (pairs_in σ t) c.in-Ok.says)
    ∙ ap (with_timings c.loop-k.list (i + 1)) is
    in
    (passes s i _ c.in-Ok.says c.loop-k.invariant.0 (sym is), grown ∙ ap (λ l. with_timings l (i + 1) (said_in s i)) c.loop-k.invariant.1 ∙ ap (λ (a : Lists). a.detailed) (slot_listed s i))

pub returns : goal.returns
unfolding standard_of record_of
returns c =
    let all : c.loop-k.k ≡ 4 = omega (arith, c.loop-k.auto.k-end, c.loop-k-test.false) in
    rw (rw all at c.loop-k.invariant.0) (ap Ok (rw all at c.loop-k.invariant.1))
