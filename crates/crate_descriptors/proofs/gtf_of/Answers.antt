-- `crate_descriptors::gtf_of` meets its contract: each field is its reading of a byte or a word. Assumes nothing.
use Rattle.crate_descriptors.specs.Descriptors.{gtf_of}
use Rattle.crate_descriptors.proofs.gtf_of.Goals as goal

pub returns : goal.returns
unfolding gtf_of
returns c = cc
