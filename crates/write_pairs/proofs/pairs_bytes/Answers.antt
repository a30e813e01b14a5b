-- `write_pairs::pairs_bytes` meets its contract. The invariant: what stands so far is the run up to here. Assumes nothing.
use Prim.Native.Nat.{◌<◌, ◌≤◌}
use mathlib.Core.List.{List}
use mathlib.Core.Path.{◌≡◌, sym, ◌∙◌}
use native.Mathlib.Omega.{arith}
use lib.ListN.{length, take, drop}
use borrow.Author.Rules.{rules}
use borrow.Author.Tests.{eqb-true, eqb-false}
use Rattle.standard_record.specs.Filler.{blank_standard}
use Rattle.standard_record.specs.Held.{held_pair}
use Rattle.standard_record.specs.declared.HeldPair.{HeldPair}
use Rattle.write_pairs.specs.Run.{run}
use Rattle.write_pairs.specs.Pairs.{pairs_ahead, WritesPairs}
use Rattle.write_pairs.proofs.Laws.{asked, one_more, stops, full, is_not, is_so, none_left, in_list, is_at, another}
use Rattle.write_pairs.proofs.pairs_bytes.Goals as goal

pub returns : goal.returns
returns c =
    let items : List HeldPair = c.args.list.items in
    let size : length items ≡ 26 = search rules in
    let whole : (c.min-end.result ≤ 26) × (length items ≡ 26) = (omega (arith, c.min-end.ensures), size) in
    let ahead : List HeldPair = drop c.args.from (take (c.min-end.result) (items)) in
    let left : WritesPairs c.args.structure (run held_pair c.args.number c.most-limit.result (ahead)) c.loop-k.fits c.loop-k.bytes c.loop-k.many → WritesPairs c.args.structure (pairs_ahead c.args.list c.args.from c.args.number) c.loop-k.fits c.loop-k.bytes c.loop-k.many = asked c.args.structure c.args.list c.args.from c.args.number _ _ _ (whole).1 _ c.min-end.ensures _
    c.most-limit.ensures.0 in
    left (stops c.loop-k.invariant.2 _ c.loop-k.invariant.0
    (none_left (items) c.args.from (c.min-end.result) c.loop-k.many c.loop-k.k _ c.loop-k.invariant.1 (omega arith)))

pub returns-then-w : goal.returns-then-w
returns-then-w c =
    let items : List HeldPair = c.args.list.items in
    let size : length items ≡ 26 = search rules in
    let whole : (c.min-end.result ≤ 26) × (length items ≡ 26) = (omega (arith, c.min-end.ensures), size) in
    let ahead : List HeldPair = drop c.args.from (take (c.min-end.result) (items)) in
    let left : WritesPairs c.args.structure (run held_pair c.args.number c.most-limit.result (ahead)) c.loop-k.fits c.loop-k.bytes c.loop-k.many → WritesPairs c.args.structure (pairs_ahead c.args.list c.args.from c.args.number) c.loop-k.fits c.loop-k.bytes c.loop-k.many = asked c.args.structure c.args.list c.args.from c.args.number _ _ _ (whole).1 _ c.min-end.ensures _
    c.most-limit.ensures.0 in
    let h = whole in
    left (stops c.loop-k.invariant.2 _ c.loop-k.invariant.0
    (another (items) c.args.from (c.min-end.result) c.loop-k.many c.loop-k.k c.args.number c.loop-k.invariant.1 _ (omega arith) (omega arith)
    (eqb-false _ _ (is_not _ (sym c.held_bytes-w.ensures.0 ∙ c.if-w.true)))))

pub loop-k-preserved : goal.loop-k-preserved
loop-k-preserved c =
    let items : List HeldPair = c.args.list.items in
    let size : length items ≡ 26 = search rules in
    let whole : (c.min-end.result ≤ 26) × (length items ≡ 26) = (omega (arith, c.min-end.ensures), size) in
    let h = whole in
    let room : c.loop-k.k < c.min-end.result = omega arith in
    let fits : c.min-end.result ≤ length (items) = omega arith in
    let here = in_list (items) c.args.from (c.min-end.result) c.loop-k.many c.loop-k.k c.args.number c.loop-k.invariant.1 blank_standard room fits in
    let at = is_at (items) c.args.from (c.min-end.result) c.loop-k.many c.loop-k.k c.args.number c.loop-k.invariant.1 blank_standard room fits in (
      omega arith,
      omega arith,
      (one_more c.loop-k.invariant.2 blank_standard here (omega arith)
          (rw at (eqb-true _ _ (is_so _ (sym c.held_bytes-w.ensures.0 ∙ c.if-w.false))))
          _ _ _ (rw at c.held_bytes-w.ensures.1)),
    )

pub returns-then-many-limit : goal.returns-then-many-limit
returns-then-many-limit c =
    let items : List HeldPair = c.args.list.items in
    let size : length items ≡ 26 = search rules in
    let whole : (c.min-end.result ≤ 26) × (length items ≡ 26) = (omega (arith, c.min-end.ensures), size) in
    let ahead : List HeldPair = drop c.args.from (take (c.min-end.result) (items)) in
    let left : WritesPairs c.args.structure (run held_pair c.args.number c.most-limit.result (ahead)) c.loop-k.fits c.loop-k.bytes c.loop-k.many → WritesPairs c.args.structure (pairs_ahead c.args.list c.args.from c.args.number) c.loop-k.fits c.loop-k.bytes c.loop-k.many = asked c.args.structure c.args.list c.args.from c.args.number _ _ _ (whole).1 _ c.min-end.ensures _
    c.most-limit.ensures.0 in
    left (full c.loop-k.invariant.2 c.most-limit.result (omega arith))
