-- `Rounds`: in a link whose points have two joins each, a walk comes round, and the link is connected exactly if it has passed every corner. `Joining`: the loops over the corners of
-- a point, which register their joins and clear them. `Flat`: the corners of a point in a flat list and its link. `Linked`: one link after the other.
pub mod Rounds
pub mod Joining
pub mod Flat
pub mod Linked
