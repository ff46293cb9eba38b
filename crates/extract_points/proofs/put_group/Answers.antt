-- `extract_points::put_group` meets its contract. Assumes nothing.
use Rattle.extract_points.proofs.Putting.{group-room, group-put, group-kept}
use Rattle.extract_points.proofs.put_group.Goals as goal

pub group_mean-p-requires : goal.group_mean-p-requires
group_mean-p-requires c =
    record { cell_at = c.requires.cell_at; cell_paths = c.requires.cell_paths; known = c.requires.known }

pub put_point-requires : goal.put_point-requires
put_point-requires c =
    group-room _ _ _ c.requires.known c.has_member.ensures c.if-has_member.true c.requires.k_in_bounds

pub returns-then-has_member : goal.returns-then-has_member
returns-then-has_member c =
    let the_pair = group-put _ _ _ c.requires.known c.has_member.ensures c.if-has_member.true c.group_mean-p.ensures c.put_point.ensures in record { value = the_pair.0; out_after = the_pair.1 }

pub returns : goal.returns
returns c =
    let the_pair = group-kept _ _ _ c.requires.known c.has_member.ensures c.if-has_member.false in record { value = the_pair.0; out_after = the_pair.1 }
