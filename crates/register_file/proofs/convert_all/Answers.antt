-- Each batch stands behind those before it.
use Rattle.std.proofs.Common.{◌≡◌, ◌+◌, ◌*◌, arith, rules, refl}
use Rattle.register_file.specs.declared.End.TheVariants.{More}
use Rattle.register_file.proofs.Chain.{none_yet, behind}
use Rattle.register_file.proofs.convert_all.Goals as goal

pub loop-number-init : goal.loop-number-init
loop-number-init g c = (refl, refl, none_yet c.args.way (g.R.Read.remaining c.args.input.now) (g.W.Write.contents c.args.target.now))

pub loop-number-preserved : goal.loop-number-preserved
loop-number-preserved g c =
    let next : (c.loop-number.number + 1) * 248 ≡ c.loop-number.number * 248 + 248 = omega arith in (
      search rules,
      search rules,
      rw next
          (behind c.args.way (c.loop-number.number * 248) 248 (g.R.Read.remaining c.args.input.now) (g.R.Read.remaining c.loop-number.input) (g.R.Read.remaining c.convert_batch.new.input)
          (g.W.Write.contents c.args.target.now) (g.W.Write.contents c.loop-number.target) (g.W.Write.contents c.convert_batch.new.target)
          More c.loop-number.invariant.2 c.in-More.ensures),
    )

pub returns-in_default : goal.returns-in_default
returns-in_default g c = (
  _,
  behind c.args.way (c.loop-number.number * 248) 248 (g.R.Read.remaining c.args.input.now) (g.R.Read.remaining c.loop-number.input) (g.R.Read.remaining c.convert_batch.new.input)
      (g.W.Write.contents c.args.target.now) (g.W.Write.contents c.loop-number.target) (g.W.Write.contents c.convert_batch.new.target)
      c.convert_batch.result c.loop-number.invariant.2 c.convert_batch.ensures,
)
