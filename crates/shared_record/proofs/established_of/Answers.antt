-- `shared_record::established_of` meets its contract: the list holds the flags passed. Assumes nothing.
use Rattle.std.proofs.Common.{ap, ◌∙◌, arith}
use Rattle.bits.specs.Fields.{bit}
use Rattle.shared_record.specs.Established.{EstablishedTimings}
use Rattle.shared_record.specs.Walk.{begun, turn_on, turn_off, last_on, last_off, pushed_room}
use Rattle.shared_record.proofs.established_of.Goals as goal
use Rattle.shared_record.proofs.established_of.Goals.{then-is_set16, else-is_set16}

pub loop-k-init : goal.loop-k-init
loop-k-init c = begun (bit c.args.low)

pub loop-k-preserved : goal.loop-k-preserved
loop-k-preserved c =
    let on = bit c.args.low in
    let w = c.loop-k.invariant in
    elim c.if-is_set16.branch [
      | then-is_set16 u ↦
          let is = u.flags-is ∙ u.push.ensures ∙ pushed_room c.loop-k.flags c.loop-k.k (omega (arith, w.0, w.1)) in
          turn_on on w c.loop-k-test.true c.is_set16.ensures u.if-is_set16.true
          (ap (λ (l : EstablishedTimings). l.items) is) (ap (λ (l : EstablishedTimings). l.len) is)
      | else-is_set16 u ↦
          turn_off on w c.loop-k-test.true c.is_set16.ensures u.if-is_set16.false
          (ap (λ (l : EstablishedTimings). l.items) u.flags-is) (ap (λ (l : EstablishedTimings). l.len) u.flags-is)
    ]

pub returns-then-is_set : goal.returns-then-is_set
returns-then-is_set c =
    let w = c.loop-k.invariant in
    c.push-then-is_set.ensures
    ∙ pushed_room c.loop-k.flags 16 (omega (arith, w.0, w.1))
    ∙ last_on (bit c.args.low) w c.loop-k-test.false c.is_set.ensures c.if-is_set.true

pub returns-else-is_set : goal.returns-else-is_set
returns-else-is_set c = last_off (bit c.args.low) c.loop-k.invariant c.loop-k-test.false c.is_set.ensures c.if-is_set.false
