-- `cta_reading::read_timings` meets its contract. The invariant: the list is of the timings passed. Assumes nothing.
use Prim.Native.Nat.{ℕ}
use mathlib.Core.Path.{◌≡◌, sym, ap, ◌∙◌}
use mathlib.Core.Bool.{true}
use mathlib.Core.List.{List}
use native.Mathlib.Omega.{arith}
use Rattle.standard_timing.specs.Timing.{timing_in}
use Rattle.cta_reading.specs.Cta.{offset_in, is_timing, cta_of}
use Rattle.cta_reading.specs.Judged.{start_bounds, timing_ends}
use Rattle.cta_reading.proofs.Judged.{head_of}
use Rattle.cta_reading.proofs.Laws.{no_timings, timing_more, timing_over, timings_are}
use Rattle.cta_reading.proofs.read_timings.Goals as goal

pub loop-video-init : goal.loop-video-init
loop-video-init c =
    let given = c.requires in
    rw c.first_timing-p.ensures ((start_bounds (offset_in c.args.s.now) (head_of _ given.before).offset).1, no_timings _)

pub loop-video-smaller : goal.loop-video-smaller
loop-video-smaller c =
    let block : List ℕ = c.args.s.now in
    let on : is_timing (block) c.loop-video.p ≡ true = sym c.is_timing.ensures ∙ c.loop-video-test.true in
    omega (arith, timing_ends (block) c.loop-video.p (on))

pub returns : goal.returns
unfolding cta_of
returns c =
    let given = c.requires in
    let all = timings_are given.before c.loop-video.invariant.1 c.loop-video.invariant.0 (sym c.is_timing.ensures ∙ c.loop-video-test.false) in
    rw (given.before, given.fair, given.video, given.blocks, all.fair, all.held)

pub returns-in-None : goal.returns-in-None
unfolding cta_of
returns-in-None c =
    let block : List ℕ = c.args.s.now in
    let on : is_timing (block) c.loop-video.p ≡ true = sym c.is_timing.ensures ∙ c.loop-video-test.true in
    let given = c.requires in
    rw (c.refuse.ensures, given.before, given.fair, timing_over given.before c.loop-video.invariant.1 (on) (ap timing_in (sym c.part.ensures) ∙ sym c.timing_in.ensures ∙ c.in-None.is))

pub loop-video-preserved : goal.loop-video-preserved
loop-video-preserved c =
    let block : List ℕ = c.args.s.now in
    let on : is_timing (block) c.loop-video.p ≡ true = sym c.is_timing.ensures ∙ c.loop-video-test.true in
    let w = c.loop-video.invariant.1 in
    (timing_ends _ _ (on), timing_more c.requires.before w (on) (ap timing_in (sym c.part.ensures) ∙ sym c.timing_in.ensures ∙ c.in-Some.is) c.push.ensures)
