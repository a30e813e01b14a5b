-- `name_exports::edid_name_length` meets its contract: the part has as many bytes as its text. Assumes nothing.
use borrow.Author.Rules.{rules}
use Rattle.naming.specs.Promises.{part_length}
use Rattle.name_exports.proofs.edid_name_length.Goals as goal

pub returns : goal.returns
returns c = part_length _ _ _ c.name-name.ensures
