-- `crate_descriptors::take_tagged` meets its contract: what the tag names picks the reading. Assumes nothing.
use Rattle.std.proofs.Common.{ℕ, ◌≡◌, ◌⊎◌, inl, inr, sym, ap, ◌∙◌, refl}
use Rattle.tags.specs.Tags.{tag_of}
use Rattle.tags.specs.declared.Tag.{Tag}
use Rattle.steps.specs.Took.{gives, as_of}
use Rattle.crate_descriptors.specs.Descriptors.{by_tag, string, tagged}
use Rattle.crate_descriptors.proofs.take_tagged.Goals as goal

named : (tag : ℕ) {r t : Tag} → r ≡ tag_of tag → r ≡ t → tagged tag ≡ by_tag tag t
unfolding tagged
named tag e told = ap (by_tag tag) (sym e ∙ told)

texts : (tag : ℕ) {r : Tag} → r ≡ tag_of tag → r ≡ Tag.Name ⊎ (r ≡ Tag.Text ⊎ r ≡ Tag.Serial) → tagged tag ≡ string tag
texts tag e (inl n) = named tag e n
texts tag e (inr (inl t)) = named tag e t
texts tag e (inr (inr s)) = named tag e s

pub returns-in-Name : goal.returns-in-Name
returns-in-Name c = as_of (texts _ c.tag_of.ensures c.in-Name.is) c.take_string.ensures

pub returns-in-Dummy : goal.returns-in-Dummy
returns-in-Dummy c = as_of (named _ c.tag_of.ensures c.in-Dummy.is) (gives refl)

pub returns-in-Pairs : goal.returns-in-Pairs
returns-in-Pairs c = as_of (named _ c.tag_of.ensures c.in-Pairs.is) (gives refl)

pub returns-in-Points : goal.returns-in-Points
returns-in-Points c = as_of (named _ c.tag_of.ensures c.in-Points.is) c.take_white.ensures

pub returns-in-Range : goal.returns-in-Range
returns-in-Range c = as_of (named _ c.tag_of.ensures c.in-Range.is) c.take_range.ensures

pub returns-in-Raw : goal.returns-in-Raw
returns-in-Raw c = as_of (named _ c.tag_of.ensures c.in-Raw.is) c.take_raw.ensures
