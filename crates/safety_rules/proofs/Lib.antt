-- `Finer` and `Numbers` are about the finer sheet, `Edges` about the number of edges, `Fine` about the tests 12, 5, 6 and 7, `Demand` about one call,
-- `RulesKeep` is the theorem by the rules, `Caps` about counts, `Counts` about rings by counts.
pub mod Finer
pub mod Numbers
pub mod Edges
pub mod Fine
pub mod Demand
pub mod RulesKeep
pub mod Caps
pub mod Counts
