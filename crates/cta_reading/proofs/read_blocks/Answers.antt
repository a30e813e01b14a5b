-- `cta_reading::read_blocks` meets its contract. The invariant: the lists are what the data blocks passed say. Assumes nothing.
use Rattle.std.specs.Prelude.{Ok}
use Prim.Native.Nat.{ℕ, ◌+◌, ◌-◌}
use mathlib.Core.Path.{◌≡◌, refl, sym}
use mathlib.Core.List.{List}
use native.Mathlib.Nat.{add-sub_cancel_left}
use native.Mathlib.Omega.{arith}
use borrow.Author.Rules.{rules}
use borrow.Author.Tests.{eq-eqb, ne_eqb}
use Rattle.bits.specs.Bytes.{part}
use Rattle.cta_reading.specs.Cta.{tag_at, length_at, video_at, before_blocks, cta_of}
use Rattle.cta_reading.proofs.Judged.{below_128}
use Rattle.cta_reading.proofs.Laws.{Blocks, no_blocks, block_past, block_more, blocks_are}
use Rattle.cta_reading.proofs.read_blocks.Goals as goal

pub overflow_cast-offset : goal.overflow_cast-offset
overflow_cast-offset c = omega (arith, below_128 c.args.s.now c.requires.1)

pub loop-p-init : goal.loop-p-init
loop-p-init c =
    (search rules, below_128 _ c.requires.1, no_blocks _)

pub returns-then-end-offset : goal.returns-then-end-offset
unfolding cta_of
returns-then-end-offset c =
    let s : List ℕ = c.args.s.now in
    let before : before_blocks (s) ≡ Ok tt = c.requires.1 in
    let p : ℕ = c.loop-p.p in
    let w : Blocks s c.loop-p.video c.loop-p.blocks p = c.loop-p.invariant.2 in
    let length_is : length_at (s) (p) ≡ c.digits-len.result = sym c.digits-len.ensures in
    rw (c.refuse.ensures, before, block_past (before) (w) (c.loop-p-test.true) (omega (arith, length_is)))

pub loop-p-preserved-then-tag-eq2 : goal.loop-p-preserved-then-tag-eq2
loop-p-preserved-then-tag-eq2 c =
    let s : List ℕ = c.args.s.now in
    let p : ℕ = c.loop-p.p in
    let length_is : length_at (s) (p) ≡ c.digits-len.result = sym c.digits-len.ensures in
    let before : before_blocks (s) ≡ Ok tt = c.requires.1 in
    let w : Blocks s c.loop-p.video c.loop-p.blocks p = c.loop-p.invariant.2 in
    let tag_is : tag_at (s) (p) ≡ c.digits-tag.result = sym c.digits-tag.ensures in
    let shows : c.digits-tag.result ≡ 2 → part (s) ((p) + 1) ((p) + 1 + c.digits-len.result - ((p) + 1)) ≡ video_at (s) (p) = (λ e. rw (add-sub_cancel_left, (tag_is), eq-eqb _ _ e, (length_is))) in
    let two = c.if-tag-eq2.true in (
      search rules,
      search rules,
      rw (← length_is)
          (block_more before w c.loop-p-test.true (omega (arith, length_is))
          (rw (← shows two) c.append.ensures)
          (rw (tag_is, eq-eqb _ _ two) refl)),
    )

pub loop-p-preserved : goal.loop-p-preserved
loop-p-preserved c =
    let s : List ℕ = c.args.s.now in
    let before : before_blocks (s) ≡ Ok tt = c.requires.1 in
    let p : ℕ = c.loop-p.p in
    let w : Blocks s c.loop-p.video c.loop-p.blocks p = c.loop-p.invariant.2 in
    let length_is : length_at (s) (p) ≡ c.digits-len.result = sym c.digits-len.ensures in
    let tag_is : tag_at (s) (p) ≡ c.digits-tag.result = sym c.digits-tag.ensures in
    let other = ne_eqb _ _ c.if-tag-eq2.false in (
      search rules,
      search rules,
      rw (← length_is)
          (block_more before w c.loop-p-test.true (omega (arith, length_is))
          (rw (tag_is, other) refl)
          (rw (tag_is, other, length_is) c.push.ensures)),
    )

pub read_timings-requires : goal.read_timings-requires
read_timings-requires c =
    let given = c.requires in
    blocks_are given.0 given.1 c.loop-p.invariant.2 c.loop-p.invariant.0 (omega arith)
