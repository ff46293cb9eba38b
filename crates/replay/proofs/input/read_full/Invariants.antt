-- `replay::input::read_full` is safe and ends. The loop's invariant: the bytes keep their number, and no more are read.
-- The measure is what is left to read. Assumes nothing.
use Rattle.std.proofs.Common.{◌≡◌, ◌-◌, ◌≤◌, length}
use Rattle.replay.proofs.input.read_full.Given as goal

abbrev pub invariant-loop-got : goal.invariant-loop-got
invariant-loop-got g l = (length l.bytes ≡ length l.initial.bytes) × (l.got ≤ length l.bytes)

abbrev pub decreases-loop-got : goal.decreases-loop-got
decreases-loop-got g l = length l.initial.bytes - l.got
