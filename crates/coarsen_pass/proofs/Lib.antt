-- `Begin` has what a pass starts with, `Start` what it asks, `Rule` that it is the rule's, `Pass` that a pass without a
-- merge changes nothing.
pub mod Begin
pub mod Start
pub mod Rule
pub mod Pass
