-- How many points a cell has: a group has one where one of its edges crosses. Assumes nothing.
use Prim.Native.Nat.{ℕ, zero, suc, ◌+◌, ◌*◌, ◌≤◌, ◌<◌}
use mathlib.Core.Path.{◌≡◌, refl, sym, ap, ◌∙◌}
use mathlib.Core.Bool.{Bool, true, false, cond, ◌&&◌, ◌||◌, or-true}
use mathlib.Core.List.{List, [], ◌∷◌, map}
use native.Mathlib.Omega.{arith}
use mathlib.Core.Logic.{◌⊎◌}
use native.Mathlib.Nat.{mul-le-mul_right}
use native.Mathlib.Numerals.{add-one}
use mir.Val.{bool_byte}
use lib.Dec.{eqb, ltb}
use lib.Ieee.{Float}
use lib.ListN.{length, get_or, length-append, length-map}
use borrow.Author.Tests.{lt-ltb}
use Rattle.lists.specs.Sort.{tabulate, itself, cons_if, keep}
use Rattle.lists.specs.Every.{some, count_to}
use Rattle.lists.proofs.Every.{some-ext, some-none, count-ext}
use Rattle.lists.proofs.Laws.{keep_append}
use Rattle.points.specs.declared.Point.{Point}
use Rattle.rule_sheet.specs.Edges.{join_to}
use Rattle.rule_extract.specs.declared.Grid.{Grid}
use Rattle.rule_extract.specs.declared.Site.{Site}
use Rattle.extract_crossings.specs.Crossings.{Near}
use Rattle.rule_extract.specs.Cells.{bit_of}
use Rattle.extract_cells.specs.Cells.{kind_of}
use Rattle.extract_cells.proofs.Bits.{kind-edge}
use Rattle.rule_extract.specs.Lattice.{site_at, case_of, cell_groups}
use Rattle.extract_grid.specs.Lattice.{Samples}
use Rattle.extract_grid.proofs.Places.{within-at, near_of}
use Rattle.extract_paths.proofs.Slots.{no-crossing}
use Rattle.rule_extract.specs.Drawing.{is_member, members_of, crossing_at, group_point, group_points, cell_points, points_in, points_to}
use Rattle.extract_points.specs.Slots.{member_in, has_in, rank_in, Known}
use Rattle.extract_grid.proofs.Joins.{length-join}

-- ---- those that pass

one-length : {A : Type 0} (b : Bool) (x : A) → length (cons_if b x []) ≡ cond b 1 0
one-length true x = refl
one-length false x = refl

-- those below n that pass are as many as the count says
pub count-keep : (p : ℕ → Bool) (n : ℕ) → length (keep p (tabulate itself n)) ≡ count_to p n
unfolding tabulate count_to
count-keep p zero = refl
count-keep p (suc n) =
    ap length (keep_append p (tabulate itself n) (n ∷ [])) ∙ (length-append (keep p (tabulate itself n)) (keep p (n ∷ [])) ∙ rw (count-keep p n, one-length (p n) n))

-- one passes where the count is not 0
or_no : (a : Bool) → (a || false) ≡ a
or_no true = refl
or_no false = refl

any_step : (a b : Bool) (k : ℕ) → ltb 0 k ≡ a → ltb 0 (k + cond b 1 0) ≡ (a || b)
any_step a true k e = lt-ltb 0 (k + 1) (omega arith) ∙ sym (or-true a)
any_step a false k e = let z : k + 0 ≡ k = omega arith in ap (ltb 0) z ∙ (e ∙ sym (or_no a))

pub any-count : (p : ℕ → Bool) (n : ℕ) → ltb 0 (count_to p n) ≡ some p n
unfolding some count_to
any-count p zero = refl
any-count p (suc n) = any_step (some p n) (p n) (count_to p n) (any-count p n)

-- ---- the points of a cell

point-length : (l : List Point) → length (group_point l) ≡ cond (ltb 0 (length l)) 1 0
unfolding group_point
point-length [] = refl
point-length (p ∷ l) = sym (ap (λ b. cond b 1 0) (lt-ltb 0 (suc (length l)) (omega arith)))

-- a group has a point where one of its edges crosses
pub group-length : (g : Grid) (c : Site) (k : ℕ) → length (group_points g c k) ≡ cond (some (is_member g c k) 12) 1 0
unfolding group_points members_of
group-length g c k =
    point-length (map (crossing_at g c) (keep (is_member g c k) (tabulate itself 12)))
    ∙ ap (λ m. cond (ltb 0 m) 1 0) (length-map (keep (is_member g c k) (tabulate itself 12)) (crossing_at g c) ∙ count-keep (is_member g c k) 12)
    ∙ ap (λ b. cond b 1 0) (any-count (is_member g c k) 12)

-- the points of the groups below k are as many as those groups that have a crossing
pub group-count : (g : Grid) (c : Site) (k : ℕ) → length (join_to (group_points g c) k) ≡ count_to (λ i. some (is_member g c i) 12) k
unfolding join_to count_to
group-count g c zero = refl
group-count g c (suc k) = length-append (join_to (group_points g c) k) (group_points g c k) ∙ rw (group-count g c k, group-length g c k)

pub member_is : {g : Grid} {c : Site} {kind : ℕ} {G : List ℕ} (k e : ℕ) → Known g c kind G → e < 12 → member_in kind G k e ≡ is_member g c k e
unfolding is_member
member_is {g} {c} {kind} k e K h = rw (kind-edge (bit_of (case_of g c)) kind e K.kinds h, K.groups)

pub has-is : {g : Grid} {c : Site} {kind : ℕ} {G : List ℕ} (k : ℕ) → Known g c kind G → has_in kind G k ≡ some (is_member g c k) 12
has-is {kind = kind} {G} k K = some-ext _ _ 12 (λ e h. member_is k e K h)

pub rank_is : {g : Grid} {c : Site} {kind : ℕ} {G : List ℕ} (k : ℕ) → Known g c kind G → rank_in kind G k ≡ length (join_to (group_points g c) k)
rank_is {g} {c} k K = count-ext _ _ k (λ i h. has-is i K) ∙ sym (group-count g c k)

-- ---- loops

-- the count of the groups below i
pub record Ranking (kind : ℕ) (G : List ℕ) (count i : ℕ) : Type 0 where
  pub count≤ : count ≤ i
  pub is : count ≡ rank_in kind G i

pub ranking-start : (kind : ℕ) (G : List ℕ) → Ranking kind G 0 0
unfolding count_to
ranking-start kind G = record { count≤ = omega arith; is = refl }

pub one-le : (b : Bool) → cond b 1 0 ≤ 1
one-le true = omega arith
one-le false = omega arith

byte-is : (b : Bool) → bool_byte b ≡ cond b 1 0
byte-is true = refl
byte-is false = refl

pub ranking-turn : {kind : ℕ} {G : List ℕ} {count i m : ℕ} (b : Bool) → Ranking kind G count i → b ≡ has_in kind G i → m ≡ bool_byte b → Ranking kind G (count + m) (i + 1)
unfolding count_to
ranking-turn {kind} {G} {i = i} b R e f =
    let q = f ∙ byte-is b in
    record {
      count≤ = let l = one-le b in let c = R.count≤ in omega (arith, q);
      is = rw (add-one i, q, e, R.is);
    }

-- ---- cells and their points

none-count : (p : ℕ → Bool) (k : ℕ) → ((i : ℕ) → p i ≡ false) → count_to p k ≡ 0
unfolding count_to
none-count p zero h = refl
none-count p (suc k) h = rw (none-count p k h, h k)

-- a cell without a crossing has no point
pub no-points : (g : Grid) {c d : Site} (n : ℕ) → c ≡ d → n ≡ case_of g c → (n ≡ 0) ⊎ (n ≡ 255) → 0 ≡ length (cell_points g d)
unfolding cell_points is_member
no-points g {c} n q e u =
    rw (← q) (sym (group-count g c 12 ∙ none-count _ 12 (λ k. some-none _ 12 (λ j h. ap (λ b. b && eqb (get_or (cell_groups g c) j 0) k) (no-crossing g c n e u j h)))))

pub known-cell : {g : Grid} {c : Site} {n kind : ℕ} {G : List ℕ} → n ≡ case_of g c → kind ≡ kind_of (bit_of n) → G ≡ cell_groups g c → Known g c kind G
known-cell e q f = record { kinds = q ∙ ap (λ m. kind_of (bit_of m)) e; groups = f }

-- the points of a cell are as many as its groups with a crossing
pub counted : {g : Grid} {c d : Site} {kind : ℕ} {G : List ℕ} (r : ℕ) → c ≡ d → Known g c kind G → r ≡ rank_in kind G 12 → r ≡ length (cell_points g d)
unfolding cell_points
counted r q K e = rw (← q) (e ∙ rank_is 12 K)

pub cube-small : (n : ℕ) → n ≤ 130 → n * n * n ≤ 2197000
cube-small n h =
    let a : n * n ≤ 130 * n = mul-le-mul_right n h in
    let b : n * n * n ≤ 16900 * n = mul-le-mul_right n (omega arith) in
    omega arith

-- the count of the points of the first e cells
pub record Totalling (g : Grid) (n total e : ℕ) : Type 0 where
  pub total≤ : total ≤ 12 * e
  pub is : total ≡ length (points_to g n e)

pub totalling-start : (g : Grid) (n : ℕ) → Totalling g n 0 0
unfolding points_to join_to
totalling-start g n = record { total≤ = omega arith; is = refl }

pub totalling-turn : {g : Grid} {n total e r : ℕ} → Totalling g n total e → r ≡ length (points_in g n e) → r ≤ 12 → Totalling g n (total + r) (e + 1)
unfolding points_to
totalling-turn {g} {n} {e = e} T f m = record {
  total≤ = let l = T.total≤ in omega arith;
  is = rw (length-join (points_in g n) e, ← T.is, ← f);
}

pub near-read : {g : Grid} {F : List Float} {d : Site} (n e : ℕ) → Samples g (n + 1) F → e < n * n * n → d ≡ site_at n e → Near d
near-read n e S h q = let m = S.m≤ in near_of {n = n} (omega arith) (rw q (within-at n e h))
