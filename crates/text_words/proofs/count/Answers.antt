-- `text_words::count` meets its contract: by where the walk ends. Assumes nothing.
use Rattle.std.proofs.Common.{sym}
use Rattle.text_words.specs.Walk.{all_walked}
use Rattle.text_words.proofs.count.Goals as goal

pub returns : goal.returns
returns c = sym (all_walked c.args.l.now _ c.walk.ensures)
