use Rattle.std.proofs.Common.{◌<◌, ◌≤◌, arith}
use Rattle.page.specs.Laws.{joined, decimal_one, decimal_more}
use Rattle.page.proofs.Page.+decimal.Goals as goal

pub returns-then-n-lt10 : goal.returns-then-n-lt10
returns-then-n-lt10 t c = rw (← decimal_one _ c.if-n-lt10.true) c.put.ensures

pub returns-else-n-lt10 : goal.returns-else-n-lt10
returns-else-n-lt10 t c =
    let ten : 10 ≤ c.args.n = omega arith in
    let fits : c.args.n < 18446744073709551616 = omega arith in
    rw (← decimal_more _ ten fits, ← joined) (cc)
