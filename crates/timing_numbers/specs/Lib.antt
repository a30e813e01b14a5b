-- What the contracts of `timing_numbers` cite, and that it is what the listing has.
pub mod Numbers
pub mod Listed
