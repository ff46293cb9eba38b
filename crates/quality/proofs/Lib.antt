-- `Accepted`: what a sheet has that the tests accept. `Rule`: the answer by the answers of the parts. `Tight`: what the answer says of the edges and rings.
pub mod Accepted
pub mod Rule
pub mod Tight
