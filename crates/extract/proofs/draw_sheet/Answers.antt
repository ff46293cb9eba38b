-- `extract::draw_sheet` meets its contract. Assumes nothing.
use Rattle.rule_extract.specs.Drawing.{drawn_sheet}
use Rattle.extract.proofs.draw_sheet.Goals as goal

pub draw_points-requires : goal.draw_points-requires
unfolding drawn_sheet
draw_points-requires c =
    record { samples = c.requires.samples; pathed = c.put_paths.ensures; n_len_bound = c.requires.lent_sheet.few.points≤; n_in_bounds = c.requires.lent_sheet.points }

pub put_quads-requires : goal.put_quads-requires
unfolding drawn_sheet
put_quads-requires c =
    record { samples = c.requires.samples; all_numbered = c.draw_points.ensures.all_numbered; n_in_bounds = c.requires.lent_sheet.quads; n_in_bounds_2 = c.requires.lent_sheet.labels }

pub returns : goal.returns
unfolding drawn_sheet
returns c =
    record { front = c.draw_points.ensures.front; front_2 = c.put_quads.ensures.front; front_3 = c.put_quads.ensures.front_2 }
