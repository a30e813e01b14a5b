-- The seven tags that have a form of their own, and the rest.
use Rattle.std.specs.Prelude.{ℕ, cond, eqb}
use Rattle.tags.specs.declared.Tag.{Tag}
use Rattle.tags.specs.declared.Tag.TheVariants.{Dummy, Pairs, Points, Name, Range, Text, Serial, Raw}

unfoldable pub tag_of : ℕ → Tag
tag_of n =
    cond (eqb n 0x10) Dummy
    (cond (eqb n 0xfa) Pairs
    (cond (eqb n 0xfb) Points
    (cond (eqb n 0xfc) Name
    (cond (eqb n 0xfd) Range
    (cond (eqb n 0xfe) Text
    (cond (eqb n 0xff) Serial Raw))))))
