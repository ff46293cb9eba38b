-- The numbers of refusals: document 01, "Numbers a setter may read", with those of document 02, Points 1 and 9.
use Rattle.std.specs.Prelude.{ℕ}
use Rattle.rule_sheet.specs.declared.Refusal.{Refusal}
use Rattle.rule_sheet.specs.declared.Refusal.TheVariants.{Box, Bottomless, Cells, Samples, Bare, Corner, Clash, Edge}
use Rattle.rule_sheet.specs.declared.Refusal.TheVariants.{Astray, Row, Normal, Large, Short, Trailer, Sum}

-- The number that a setter reads, by the words of the table:
-- 1, box; 2, bottomless, with which no operation refuses since document 02, Point 12; 3, cells: "not 4 to 128";
-- 4, samples: "a grid sample not finite"; 5, bare; 6, corner; 7, clash: "mask 0 or an opposite pair";
-- 8, edge: "subdivide, boundary_rows: an edge without exactly two quads";
-- 9, astray: "subdivide: a point's projection fails"; 10, row: "all twenty steps fail";
-- 11, normal: "quality: normal not finite or shorter than 0.5";
-- 12, large: "lent sheet above the limit"; 13, short: "a lent slice holds too little";
-- 14: "14 trailer, for a file too short for the 64 bytes and a trailer, or any trailer that breaks these rules";
-- 17: "17 sum, when the sum written is not the sheet's"
abbrev pub refusal_number : Refusal → ℕ
refusal_number Box = 1
refusal_number Bottomless = 2
refusal_number Cells = 3
refusal_number Samples = 4
refusal_number Bare = 5
refusal_number Corner = 6
refusal_number Clash = 7
refusal_number Edge = 8
refusal_number Astray = 9
refusal_number Row = 10
refusal_number Normal = 11
refusal_number Large = 12
refusal_number Short = 13
refusal_number Trailer = 14
refusal_number Sum = 17
