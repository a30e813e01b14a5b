-- What the contract of `standard_verdict` cites, and laws of verdicts.
pub mod Verdict
pub mod Laws
