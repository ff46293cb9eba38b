-- The tests of a sheet, one quad or one mask at a time.
use Rattle.std.specs.Prelude.{ℕ, ◌+◌, ◌/◌, ◌%◌, ◌^◌, Bool, cond, ◌&&◌, List, get_or, set, eqb}
use Rattle.rule_sheet.specs.Flat.{quad_at}
use Rattle.rule_sheet.specs.Tests.{proper, low_label, good_mask}

-- ---- the same, one quad or point at a time

abbrev pub good_quad_at : ℕ → List ℕ → List ℕ → ℕ → Bool
good_quad_at n Q labels q = low_label (get_or labels q 0) && proper n (quad_at Q q)

abbrev pub good_mask_at : List ℕ → ℕ → Bool
good_mask_at w v = good_mask (get_or w v 0)

-- m with bit l set
unfoldable pub with_bit : ℕ → ℕ → ℕ
with_bit m l = cond (eqb (m / 2 ^ l % 2) 0) (m + 2 ^ l) m

-- the masks w with bit l set at v
abbrev pub marked : ℕ → ℕ → List ℕ → List ℕ
marked v l w = set w v (with_bit (get_or w v 0) l)
