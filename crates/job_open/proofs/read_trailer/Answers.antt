-- `job_open::read_trailer` meets its contract. Assumes nothing.
use mathlib.Core.Path.{◌∙◌}
use borrow.Author.Tests.{lt-ltb, le-ltb, ne_eqb}
use Rattle.rule_job.specs.Files.{trailer_by, trailer_of}
use Rattle.job_open.proofs.read_trailer.Goals as goal

pub returns-then-n : goal.returns-then-n
unfolding trailer_of trailer_by
returns-then-n c = rw (lt-ltb _ _ c.if-n.true)

pub returns-then-z-eq-OLDER : goal.returns-then-z-eq-OLDER
unfolding trailer_of trailer_by
returns-then-z-eq-OLDER c =
    c.starts_at.ensures ∙ rw (le-ltb _ _ c.if-n.false, ← c.get-z.ensures, c.if-z-eq-OLDER.true)

pub returns-then-z-eq-TRAILER : goal.returns-then-z-eq-TRAILER
unfolding trailer_of trailer_by
returns-then-z-eq-TRAILER c =
    c.starts_at-then-z-eq-TRAILER.ensures ∙ rw (le-ltb _ _ c.if-n.false, ← c.get-z.ensures, c.if-z-eq-TRAILER.true, c.get.ensures)

pub returns : goal.returns
unfolding trailer_of trailer_by
returns c =
    rw (le-ltb _ _ c.if-n.false, ← c.get-z.ensures, ne_eqb _ _ c.if-z-eq-OLDER.false, ne_eqb _ _ c.if-z-eq-TRAILER.false)
