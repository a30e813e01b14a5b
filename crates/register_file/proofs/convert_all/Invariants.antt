-- So many records are read and written, and none is refused. The buffers keep their lengths.
use Rattle.std.proofs.Common.{◌≡◌, ◌*◌, length}
use Rattle.register_file.specs.Run.{Ends}
use Rattle.register_file.specs.declared.End.TheVariants.{More}
use Rattle.register_file.proofs.convert_all.Given as goal

abbrev pub invariant-loop-number : goal.invariant-loop-number
invariant-loop-number g l =
    (length l.source ≡ 65536)
    × (length l.output ≡ 65536)
    × Ends l.way 0 (l.number * 248) (g.R.Read.remaining l.initial.input) (g.R.Read.remaining l.input) (g.W.Write.contents l.initial.target) (g.W.Write.contents l.target) More
