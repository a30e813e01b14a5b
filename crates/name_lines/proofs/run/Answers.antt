-- `name_lines::run` meets its contract, by the length. Assumes nothing.
use Rattle.std.proofs.Common.{◌≡◌, rules, length}
use Rattle.page.specs.Laws.{pieces, no_pieces}
use Rattle.name_lines.proofs.Laws.{run_some}
use Rattle.name_lines.proofs.run.Goals as goal

pub returns-then-not-is_empty : goal.returns-then-not-is_empty
returns-then-not-is_empty c =
    let some : length c.args.name.now ≡ 0 → ⊥ = search rules in
    rw (← run_some _ some) (simp (pieces, no_pieces) (cc))
