-- `Lines`: a line by its bytes, and lines one after the other. `Rule`: the answers in the order of the rule.
pub mod Lines
pub mod Rule
