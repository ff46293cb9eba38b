-- The laws of this crate: `Landing` of the projection in place, `Rule` of the stages of the operation.
pub mod Landing
pub mod Rule
