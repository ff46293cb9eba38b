-- `Rule` has what the regions say of the rule.
pub mod Rule
