-- `Rule` has what an admitted sheet allows, and the answers in the order of the rule.
pub mod Rule
