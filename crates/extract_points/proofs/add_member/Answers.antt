-- `extract_points::add_member` meets its contract. Assumes nothing.
use Rattle.extract_points.specs.Slots.{added_if}
use Rattle.extract_points.proofs.Means.{member-crosses}
use Rattle.extract_points.proofs.add_member.Goals as goal

pub crossing_at-p-requires : goal.crossing_at-p-requires
crossing_at-p-requires c =
    record { cell_at = c.requires.cell_at; e_bound = c.requires.e_bound; e_value = c.requires.cell_paths.is _ c.requires.e_bound (member-crosses _ _ c.args.group c.args.k _ c.requires.kind_value c.requires.e_bound c.is_member.ensures c.if-is_member.true) }

pub returns-then-is_member : goal.returns-then-is_member
unfolding added_if
returns-then-is_member c = rw (← c.is_member.ensures, c.if-is_member.true, ← c.crossing_at-p.ensures, c.add.ensures)

pub returns : goal.returns
unfolding added_if
returns c = rw (← c.is_member.ensures, c.if-is_member.false)
