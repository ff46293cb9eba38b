-- Job files, byte for byte: document 02, Points 1 and 9.
use Rattle.std.specs.Prelude.{ℕ, ◌+◌, ◌-◌, ◌*◌, ◌/◌, ◌%◌, Bool, cond, ◌&&◌, List, [], ◌∷◌, ◌++◌, eqb, leb, ltb}
use Rattle.std.specs.Prelude.{length, Some, None, Option}
use Rattle.std.specs.Prelude.{drop}
use Rattle.lists.specs.Regions.{part}
use Rattle.encoding.specs.Encoding.{little, number, littles, numbers}
use Rattle.rule_sheet.specs.declared.Counts.{Counts}
use Rattle.rule_sheet.specs.Flat.{quads_of}
use Rattle.rule_sheet.specs.Squared.{squared}
use Rattle.rule_job.specs.declared.Trailer.{Trailer}

-- a core as a file holds it: the counts of its sheet; the bits of "lower bounds, upper bounds, lower and upper level"
-- and of the coordinates; the corners of the quads; the labels
pub record Job : Type 0 where
  pub counts : Counts
  pub header : List ℕ
  pub points : List ℕ
  pub quads : List ℕ
  pub labels : List ℕ

abbrev pub job_of : Counts → List ℕ → List ℕ → List ℕ → List ℕ → Job
job_of c H P Q L = record { counts = c; header = H; points = P; quads = Q; labels = L }

-- demand 3's sum of its quads, "the sum of (quads at a point minus 4) squared": "Each corner entry counts once for the
-- point it names, one out of range for none"
abbrev pub sum_of : Job → ℕ
sum_of j = squared j.counts.points (quads_of j.counts.quads j.quads)

-- ---- what is written

-- where quads, labels and trailer start: behind "64 bytes", "points (24 bytes each), quads (16 bytes each, four u32)"
-- and labels
abbrev pub quads_at : Counts → ℕ
quads_at c = 64 + 24 * c.points

abbrev pub labels_at : Counts → ℕ
labels_at c = quads_at c + 16 * c.quads

abbrev pub trailer_at : Counts → ℕ
trailer_at c = labels_at c + c.labels

-- "starts of points, quads, labels and trailer"
abbrev pub starts_of : Counts → List ℕ
starts_of c = 64 ∷ quads_at c ∷ labels_at c ∷ trailer_at c ∷ []

-- "The trailer takes it as a u64 before its length": a trailer of 20 bytes has none
abbrev pub sum_bytes : Option ℕ → List ℕ
sum_bytes None = []
sum_bytes (Some n) = little 8 n

-- "that length becomes 28. Files with 20 still open."
abbrev pub trailer_size : Option ℕ → ℕ
trailer_size None = 20
trailer_size (Some n) = 28

-- the starts, "each a u32", the sum, "then the trailer's length"
unfoldable pub trailer_bytes : Counts → Option ℕ → List ℕ
trailer_bytes c s = littles 4 (starts_of c) ++ sum_bytes s ++ little 4 (trailer_size s)

-- a file of a job: "(eight f64), then points .., quads .. and labels. All are little-endian. A trailer at the end
-- points back"
unfoldable pub file_with : Option ℕ → Job → List ℕ
file_with s j =
    littles 8 j.header ++ littles 8 j.points ++ littles 4 j.quads ++ j.labels ++ trailer_bytes j.counts s

-- the file of a job: "Saving writes 28."
abbrev pub file_of : Job → List ℕ
file_of j = file_with (Some (sum_of j)) j

-- how many bytes it has
abbrev pub size_of : Counts → ℕ
size_of c = trailer_at c + 28

-- ---- what is read

-- the u32 at a place of a file
abbrev pub word_at : ℕ → List ℕ → ℕ
word_at a F = number (part a 4 F)

-- "Sections must touch, in that order, with whole elements": the starts p, q, l and t and the trailer's length z, in a
-- file of n bytes
unfoldable pub good_starts : ℕ → ℕ → ℕ → ℕ → ℕ → ℕ → Bool
good_starts p q l t z n =
    eqb p 64 && leb p q && eqb ((q - p) % 24) 0 && leb q l && eqb ((l - q) % 16) 0 && leb l t && eqb (t + z) n

-- the counts that such starts tell, beside what is said of the sum
unfoldable pub counts_by : ℕ → ℕ → ℕ → ℕ → ℕ → ℕ → Option ℕ → Option Trailer
counts_by p q l t z n s =
    cond (good_starts p q l t z n)
    (Some (record { counts = record { points = (q - p) / 24; quads = (l - q) / 16; labels = t - l }; sum = s })) None

-- the same of the four starts from the place a on
unfoldable pub starts_at : ℕ → ℕ → Option ℕ → List ℕ → Option Trailer
starts_at a z s F = counts_by (word_at a F) (word_at (a + 4) F) (word_at (a + 8) F) (word_at (a + 12) F) z (length F) s

-- by the trailer's length z, which ends the file: with 28 the sum stands before it
unfoldable pub trailer_by : ℕ → List ℕ → Option Trailer
trailer_by z F =
    cond (eqb z 20) (starts_at (length F - 20) 20 None F)
    (cond (eqb z 28) (starts_at (length F - 28) 28 (Some (number (part (length F - 12) 8 F))) F) None)

-- what the trailer of a file tells: nothing in "a file too short for the 64 bytes and a trailer", the shorter one; in
-- fewer than 92 bytes one of 28 would start before byte 64, where `good_starts` fails
unfoldable pub trailer_of : List ℕ → Option Trailer
trailer_of F = cond (ltb (length F) 84) None (trailer_by (word_at (length F - 4) F) F)

-- the job in a file of these counts
unfoldable pub job_in : List ℕ → Counts → Job
job_in F c =
    job_of c (numbers 8 8 F) (numbers 8 (3 * c.points) (drop 64 F)) (numbers 4 (4 * c.quads) (drop (quads_at c) F))
    (part (labels_at c) c.labels F)
