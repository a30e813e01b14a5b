-- What follows of a descriptor's bytes from what its tag says.
use Rattle.std.specs.Prelude.{suc, ◌+◌, ◌≡◌}
use Rattle.std.proofs.Common.{arith}
use Rattle.steps.specs.Leaves.{byte}
use Rattle.steps.specs.Answers.{Ends, ends_map}
use Rattle.crate_descriptors.specs.Descriptors.{tagged, descriptor}
use Rattle.crate_descriptors.specs.Sizes.{left, size, Tagged, ends_tagged}

pub exact_descriptor : Ends (λ x m. m + left x ≡ size x) descriptor
unfolding descriptor byte
exact_descriptor =
    λ tag _. ends_map (tagged tag) (Tagged tag) (λ x m. suc (suc m) + left x ≡ size x) (λ x m e. omega (arith, e.1)) (ends_tagged tag)
