-- Each end of a batch, by what is shown of batches.
use Rattle.std.proofs.Common.{◌≡◌, ℕ, ◌-◌, ◌*◌, ◌≤◌, List, arith, length, take, ap, length-take-le}
use Rattle.register.specs.Refusals.{told}
use Rattle.register_file.proofs.Laws.{not_err_tells}
use Rattle.register_file.proofs.Ended.{is_more, is_whole, is_refused, is_read_failed, is_write_failed, on_no_err, records_or_end}
use Rattle.register_file.proofs.convert_batch.Goals as goal

long : (from : ℕ) (source space : List ℕ) → from ≤ 264 → length source ≡ 65536 → length space ≡ length (take (248 * from - 0) source) → length space ≡ 248 * from
long from source space h e same = omega (arith, same, length-take-le (248 * from - 0) source (omega (arith, h, e)))

pub returns-then-is_err : goal.returns-then-is_err
returns-then-is_err g c =
    is_write_failed c.args.way c.args.index _ _ _ _ (g.W.Write.contents c.write_all.new.self) c.fill-came.ensures.bytes

pub returns-in-Err : goal.returns-in-Err
returns-in-Err g c =
    is_refused c.args.way c.args.index c.from-from.result c.fill-came.result.count c.end_of-end.result c.step_all-batch.result.written c.step_all-batch.result.records
    (told c.step_all-batch.result.outcome) c.fill-came.new.space _ c.step_all-batch.new.output (g.R.Read.remaining c.args.input.now) (g.R.Read.remaining c.fill-came.new.input)
    (g.W.Write.contents c.args.target.now) (g.W.Write.contents c.write_all.new.self)
    c.from-from.ensures.0 (long c.from-from.result c.args.source.now c.fill-came.new.space c.from-from.ensures.2 c.requires.1 c.fill-came.ensures.within.1)
    (omega (arith, c.fill-came.ensures.within.0, c.fill-came.ensures.within.1)) c.end_of-end.ensures.bound c.fill-came.ensures.bytes c.step_all-batch.ensures.2
    (on_no_err _ c.write_all.result c.is_err.result c.if-is_err.false c.is_err.ensures.value c.write_all.ensures.bytes)
    (records_or_end c.fill-came.result.failed c.from-from.result c.fill-came.result.count c.end_of-end.result (length (take (248 * c.from-from.result - 0) c.args.source.now)) _ c.end_of-end.ensures.records c.end_of-end.ensures.whole
    c.fill-came.ensures.end (omega (arith, c.fill-came.ensures.within.1, long c.from-from.result c.args.source.now c.fill-came.new.space c.from-from.ensures.2 c.requires.1 c.fill-came.ensures.within.1))
    c.fill-came.ensures.within.0) c.in-Err.refusal (ap told c.in-Err.is)

pub returns-then-came : goal.returns-then-came
returns-then-came g c =
    is_read_failed c.args.way c.args.index c.from-from.result c.fill-came.result.count c.end_of-end.result c.step_all-batch.result.written c.step_all-batch.result.records
    (told c.step_all-batch.result.outcome) c.fill-came.new.space _ c.step_all-batch.new.output (g.R.Read.remaining c.args.input.now) (g.R.Read.remaining c.fill-came.new.input)
    (g.W.Write.contents c.args.target.now) (g.W.Write.contents c.write_all.new.self)
    c.from-from.ensures.0 (long c.from-from.result c.args.source.now c.fill-came.new.space c.from-from.ensures.2 c.requires.1 c.fill-came.ensures.within.1)
    (omega (arith, c.fill-came.ensures.within.0, c.fill-came.ensures.within.1)) c.end_of-end.ensures.bound c.fill-came.ensures.bytes c.step_all-batch.ensures.2
    (on_no_err _ c.write_all.result c.is_err.result c.if-is_err.false c.is_err.ensures.value c.write_all.ensures.bytes)
    (c.end_of-end.ensures.records c.if-came.true) (not_err_tells c.step_all-batch.result.outcome c.in_default.not-Err) c.end_of-end.ensures.cut

pub returns-then-came-size : goal.returns-then-came-size
returns-then-came-size g c =
    is_whole c.args.way c.args.index c.from-from.result c.fill-came.result.count c.end_of-end.result c.step_all-batch.result.written c.step_all-batch.result.records
    (told c.step_all-batch.result.outcome) c.fill-came.new.space _ c.step_all-batch.new.output (g.R.Read.remaining c.args.input.now) (g.R.Read.remaining c.fill-came.new.input)
    (g.W.Write.contents c.args.target.now) (g.W.Write.contents c.write_all.new.self)
    c.from-from.ensures.0 (long c.from-from.result c.args.source.now c.fill-came.new.space c.from-from.ensures.2 c.requires.1 c.fill-came.ensures.within.1)
    (omega (arith, c.fill-came.ensures.within.0, c.fill-came.ensures.within.1)) c.end_of-end.ensures.bound c.fill-came.ensures.bytes c.step_all-batch.ensures.2
    (on_no_err _ c.write_all.result c.is_err.result c.if-is_err.false c.is_err.ensures.value c.write_all.ensures.bytes)
    (not_err_tells c.step_all-batch.result.outcome c.in_default.not-Err) (c.end_of-end.ensures.whole c.if-came.false) c.if-came-size.true (c.fill-came.ensures.end c.if-came.false (omega (arith, c.if-came-size.true, long c.from-from.result c.args.source.now c.fill-came.new.space c.from-from.ensures.2 c.requires.1 c.fill-came.ensures.within.1, c.fill-came.ensures.within.1)))

pub returns : goal.returns
returns g c =
    is_more c.args.way c.args.index c.from-from.result c.fill-came.result.count c.end_of-end.result c.step_all-batch.result.written c.step_all-batch.result.records
    (told c.step_all-batch.result.outcome) c.fill-came.new.space _ c.step_all-batch.new.output (g.R.Read.remaining c.args.input.now) (g.R.Read.remaining c.fill-came.new.input)
    (g.W.Write.contents c.args.target.now) (g.W.Write.contents c.write_all.new.self)
    c.from-from.ensures.0 (long c.from-from.result c.args.source.now c.fill-came.new.space c.from-from.ensures.2 c.requires.1 c.fill-came.ensures.within.1)
    (omega (arith, c.fill-came.ensures.within.0, c.fill-came.ensures.within.1)) c.end_of-end.ensures.bound c.fill-came.ensures.bytes c.step_all-batch.ensures.2
    (on_no_err _ c.write_all.result c.is_err.result c.if-is_err.false c.is_err.ensures.value c.write_all.ensures.bytes)
    (not_err_tells c.step_all-batch.result.outcome c.in_default.not-Err) (c.end_of-end.ensures.whole c.if-came.false) c.if-came-size.false
