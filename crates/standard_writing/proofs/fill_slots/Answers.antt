-- `standard_writing::fill_slots` meets its contract. The invariant: the slots so far stand in the block, and the lists are used up so far. Assumes nothing.
use Rattle.std.proofs.Common.{◌≡◌, ◌+◌, length, take, drop, sym, refl, ap, ◌∙◌, subst, append-nil, arith, rules}
use Rattle.standard_record.specs.Seen.{seen}
use Rattle.standard_record.specs.Held.{held_pair, held_timing, held}
use Rattle.write_pairs.specs.Run.{run, run_at_most}
use Rattle.write_next.specs.Next.{of_timing}
use Rattle.write_next.specs.Laws.{own_is}
use Rattle.write_block.specs.Taken.{Rest, next, taken}
use Rattle.write_block.specs.Holds.{structure_from, slot_from}
use Rattle.standard_writing.specs.Places.{ahead, Turned}
use Rattle.standard_writing.specs.declared.Turn.{Turn}
use Rattle.standard_writing.proofs.Laws.{next_is, most_six, pairs_turned, some_pair, no_pair, points_are, small, none_yet, one_slot, slot_laid, none_fit, one_fits, all_fit}
use Rattle.standard_writing.proofs.fill_slots.Goals as goal
use Rattle.standard_writing.proofs.fill_slots.Goals.{in-Some, in-None+then-pair_ahead, in-None+else-pair_ahead}

pub loop-i-init : goal.loop-i-init
loop-i-init c = (search rules, none_yet _ _ refl c.requires.0 refl refl, none_fit _ _, sym (append-nil _))

pub timing_turn-t-requires : goal.timing_turn-t-requires
timing_turn-t-requires c = small (omega (arith, c.loop-i.invariant.0)) c.loop-i.invariant.1

pub pairs_turn-requires : goal.pairs_turn-requires
pairs_turn-requires c =
    let pairs = c.args.r.timings.standard in
    let six = rw (most_six (c.loop-i.i + 1) (omega arith)) at c.pairs_bytes.ensures in
    (small (omega (arith, c.loop-i.invariant.0)) c.loop-i.invariant.1, omega (arith, six.count, run_at_most held_pair (c.loop-i.i + 1) 6 (drop c.loop-i.at.listed (take pairs.len pairs.items))))

pub other_turn-requires : goal.other_turn-requires
other_turn-requires c =
    small (omega (arith, c.loop-i.invariant.0)) c.loop-i.invariant.1

pub returns : goal.returns
returns c =
    let four : c.loop-i.i ≡ 4 = omega arith in (
      (all_fit c.args.r _ _ _ _ (rw four at c.loop-i.invariant.1) (rw four at c.loop-i.invariant.2) c.used_up.ensures),
      rw four at c.loop-i.invariant.3,
    )

pub loop-i-preserved : goal.loop-i-preserved
unfolding seen
loop-i-preserved c =
    let r = c.args.r in
    let x = seen r in
    let lent = c.args.lent.now in
    let at = c.loop-i.at in
    let number = c.loop-i.i + 1 in
    let left : Rest = ahead x at in
    let whole_timings : length c.args.r.timings.detailed.items ≡ 4 = omega arith in
    let whole_pairs : length c.args.r.timings.standard.items ≡ 26 = omega arith in
    let whole_points : length c.args.r.color.points.items ≡ 6 = omega arith in
    let whole_entries : length c.args.r.descriptors.items ≡ 3 = omega arith in
    let pairs = r.timings.standard in
    let points = r.color.points in
    let entries = r.descriptors in
    let timing_is : run held_timing number 1 left.timings ≡ of_timing c.next_timing.result =
    sym (c.next_timing.ensures ∙ own_is held_timing number r.timings.detailed.items r.timings.detailed.len 4 at.timed whole_timings _)
    in
    let Meant : Turn → Type 0 = λ t. Turned (structure_from x) lent at t.after t.slot.fits t.slot.bytes (next number left) in
    let some = some_pair pairs.items pairs.len at.listed number whole_pairs in
    let none = no_pair pairs.items pairs.len at.listed number whole_pairs in
    let turn_is : Meant c.match-next_timing.t =
    elim c.match-next_timing.branch [
      | in-Some w ↦ subst Meant (sym w.t-is) (subst (Turned _ lent at _ _ _) (sym (next_is number left (timing_is ∙ ap of_timing w.in-Some.is) refl refl refl)) (w.timing_turn-t.ensures _ lent))
      | in-None+then-pair_ahead w ↦
          let six = rw (most_six number (omega arith), c.requires.1) at w.pairs_bytes.ensures in
          subst Meant (sym w.t-is) (subst (Turned _ lent at _ _ _) (sym (next_is number left (timing_is ∙ ap of_timing w.in-None.is) refl refl refl))
          (pairs_turned _ lent at w.pairs_turn.result _ _ _ _ six (omega (arith, six.count, some _ (sym w.pair_ahead.ensures ∙ w.if-pair_ahead.true))) (run_at_most held_pair number 6 left.pairs)
          w.pairs_turn.ensures.0 w.pairs_turn.ensures.1 w.pairs_turn.ensures.2 _ _))
      | in-None+else-pair_ahead w ↦
          subst Meant (sym w.t-is) (subst (Turned _ lent at _ _ _)
          (sym (next_is number left (timing_is ∙ ap of_timing w.in-None.is) (none _ (sym w.pair_ahead.ensures ∙ w.if-pair_ahead.false))
          (points_are points.items points.len at.pointed number whole_points _ _ w.next_point-p.result w.next_point-q.result w.two_points.ensures w.next_point-p.ensures w.next_point-q.ensures)
          (sym (w.next_descriptor-d.ensures ∙ own_is held number entries.items entries.len 3 at.entered whole_entries _))))
          (rw c.requires.1 at w.other_turn.ensures))
    ]
    in
    let t = c.match-next_timing.t in
    let w = rw c.loop-i.invariant.1.left at turn_is.0 in
    let e = slot_laid c.loop-i.block c.args.block.now t.slot.bytes (λ j. slot_from lent (taken x j)) c.loop-i.i
    (omega arith) (omega arith) c.lay_slot.ensures.0 w.made c.loop-i.invariant.3 in (
      omega arith,
      one_slot x c.loop-i.i at t.after c.loop-i.invariant.1 turn_is.1,
      (one_fits r lent c.loop-i.i _ _ _ (omega arith) c.loop-i.invariant.2 w),
      rw c.lay_slot.ensures.1 e,
    )
