-- `write_slots::run_bytes` meets its contract: by what `byte_at` ensures. Assumes nothing.
use Rattle.write_slots.proofs.Runs.{gets_pad}
use Rattle.write_slots.proofs.run_bytes.Goals as goal

pub returns : goal.returns
returns c =
    rw (
      c.byte_at-13.ensures,
      c.byte_at-12.ensures,
      c.byte_at-11.ensures,
      c.byte_at-10.ensures,
      c.byte_at-9.ensures,
      c.byte_at-8.ensures,
      c.byte_at-7.ensures,
      c.byte_at-6.ensures,
      c.byte_at-5.ensures,
      c.byte_at-4.ensures,
      c.byte_at-3.ensures,
      c.byte_at-2.ensures,
      c.byte_at.ensures,
    ) (gets_pad 13 c.args.run.now)
