-- The test of two masks of labels, as numbers.
use Rattle.std.specs.Prelude.{ℕ, ◌+◌, ◌/◌, ◌%◌, Bool, ◌&&◌, ◌||◌, eqb, leb}

-- the masks a and c together have no opposite pair: no bit of one pair, or none of the other
unfoldable pub no_opposite : ℕ → ℕ → Bool
no_opposite a c =
    (eqb (a % 2 + c % 2) 0 || eqb (a / 2 % 2 + c / 2 % 2) 0)
    && (eqb (a / 4 % 2 + c / 4 % 2) 0 || eqb (a / 8 % 2 + c / 8 % 2) 0)
    && (eqb (a / 16 % 2 + c / 16 % 2) 0 || eqb (a / 32 % 2 + c / 32 % 2) 0)
    && (eqb (a / 64 % 2 + c / 64 % 2) 0 || eqb (a / 128 % 2 + c / 128 % 2) 0)

-- every bit of the mask a is one of c
unfoldable pub part_of : ℕ → ℕ → Bool
part_of a c =
    leb (a % 2) (c % 2) && leb (a / 2 % 2) (c / 2 % 2) && leb (a / 4 % 2) (c / 4 % 2) && leb (a / 8 % 2) (c / 8 % 2)
    && leb (a / 16 % 2) (c / 16 % 2) && leb (a / 32 % 2) (c / 32 % 2)
    && leb (a / 64 % 2) (c / 64 % 2) && leb (a / 128 % 2) (c / 128 % 2)

-- "The joined mask has no opposite pair and equals one of the two."
unfoldable pub masks_joined : ℕ → ℕ → Bool
masks_joined a c = no_opposite a c && (part_of c a || part_of a c)
