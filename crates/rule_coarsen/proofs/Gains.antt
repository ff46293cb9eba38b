-- The gain of a merge by the sums before and after it. Assumes nothing.
use Prim.Native.Nat.{ℕ, ◌+◌, ◌-◌, ◌≤◌}
use mathlib.Core.Path.{◌≡◌, ◌∙◌}
use mathlib.Core.Bool.{true}
use mathlib.Core.List.{List}
use native.Mathlib.Omega.{arith}
use lib.Dec.{leb, ltb}
use lib.IntN.{pos}
use lib.Signed.{le_z, lt_z}
use Rattle.rule_sheet.specs.Quads.{Quad, valence}
use Rattle.rule_passes.proofs.Differences.{Difference, of_two, same-le, same-lt, least-is, less-is}
use Rattle.rule_coarsen.specs.Coarse.{MergeState, MergeFits, Position, masks_join, sum_before, sum_after, merge_gain, share_only, no_further, near_free, may_merge}

module _ (n : ℕ) (S0 : List Quad) (labels : List ℕ) (a b c d : ℕ) where
  gain-is : Difference (merge_gain n S0 labels a b c d) (sum_before n S0 labels a b c d) (sum_after n S0 labels a b c d)
  unfolding merge_gain
  gain-is = of_two (sum_before n S0 labels a b c d) (sum_after n S0 labels a b c d)

  -- a gain of 0 is enough
  pub gain-enough : le_z (pos 0) (merge_gain n S0 labels a b c d) ≡ leb (sum_after n S0 labels a b c d) (sum_before n S0 labels a b c d)
  gain-enough =
      least-is 0 (merge_gain n S0 labels a b c d) (sum_before n S0 labels a b c d) (sum_after n S0 labels a b c d) gain-is
      ∙ same-le (sum_after n S0 labels a b c d + 0) (sum_before n S0 labels a b c d) (sum_after n S0 labels a b c d) (sum_before n S0 labels a b c d) (λ h. omega arith) (λ h. omega arith)

-- "a gain of 0 is enough": where all else allows a merge, it may be made
pub zero-enough : (n : ℕ) (S0 : List Quad) (labels : List ℕ) (fits : MergeFits) (position : Position) (st : MergeState) (f a b c d : ℕ)
    → masks_join n S0 labels a c ≡ true → leb 4 (valence S0 b) ≡ true → leb 4 (valence S0 d) ≡ true → share_only n S0 labels a b c d ≡ true
    → no_further n S0 labels f a c ≡ true → near_free n S0 labels st.used a c ≡ true → fits st.points st.slots f a c ≡ true
    → merge_gain n S0 labels a b c d ≡ pos 0 → may_merge n S0 labels fits position st f a b c d ≡ true
zero-enough n S0 labels fits position st f a b c d m x y s t u v g = rw (m, x, y, s, t, u, v, g)

-- of two merges that gain the second gains more
pub gain-higher : (n : ℕ) (S0 : List Quad) (labels : List ℕ) (a b c d e f g h : ℕ)
    → sum_after n S0 labels a b c d ≤ sum_before n S0 labels a b c d → sum_after n S0 labels e f g h ≤ sum_before n S0 labels e f g h
    → lt_z (merge_gain n S0 labels a b c d) (merge_gain n S0 labels e f g h)
    ≡ ltb (sum_before n S0 labels a b c d - sum_after n S0 labels a b c d) (sum_before n S0 labels e f g h - sum_after n S0 labels e f g h)
gain-higher n S0 labels a b c d e f g h p q =
    less-is (merge_gain n S0 labels a b c d) (merge_gain n S0 labels e f g h) (sum_before n S0 labels a b c d) (sum_after n S0 labels a b c d)
    (sum_before n S0 labels e f g h) (sum_after n S0 labels e f g h) (gain-is n S0 labels a b c d) (gain-is n S0 labels e f g h)
    ∙ apart (sum_before n S0 labels a b c d) (sum_after n S0 labels a b c d) (sum_before n S0 labels e f g h) (sum_after n S0 labels e f g h) p q
  where
    apart : (x y u v : ℕ) → y ≤ x → v ≤ u → ltb (x + v) (u + y) ≡ ltb (x - y) (u - v)
    apart x y u v p q = same-lt (x + v) (u + y) (x - y) (u - v) (λ h. omega arith) (λ h. omega arith)
