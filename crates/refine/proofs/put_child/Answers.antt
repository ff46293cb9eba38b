-- `refine::put_child` meets its contract. Assumes nothing.
use Rattle.refine.proofs.Loops.{child-read}
use Rattle.refine.proofs.put_child.Goals as goal

pub returns : goal.returns
returns c =
    child-read c.args.nq c.args.num c.args.c c.args.quads.now c.args.w.now c.args.out.now _ c.requires.nq_in_bounds_2 c.requires.c_bound c.put_quad.ensures
