-- The points of a cell, put one after the other. Assumes nothing.
use Prim.Native.Nat.{ℕ, suc, ◌+◌, ◌*◌, ◌≤◌, ◌<◌}
use mathlib.Core.Path.{◌≡◌, refl, sym, ap, ◌∙◌}
use mathlib.Core.Bool.{Bool, true, false, cond}
use mathlib.Core.List.{List, [], ◌∷◌, ◌++◌, map, append_assoc, append-nil}
use native.Mathlib.Omega.{arith}
use lib.ListN.{length, length-append}
use lib.Ieee.{Float}
use Rattle.lists.specs.Every.{some}
use Rattle.points.specs.declared.Point.{Point}
use Rattle.points.specs.Steps.{with_point}
use Rattle.rule_sheet.specs.Edges.{join_to}
use Rattle.rule_sheet.specs.Sheet.{flat_points}
use Rattle.sheet.specs.Results.{Front}
use Rattle.sheet.proofs.Fronts.{front-none, front-point, length-with}
use Rattle.rule_extract.specs.declared.Grid.{Grid}
use Rattle.rule_extract.specs.declared.Site.{Site}
use Rattle.rule_extract.specs.Drawing.{is_member, members_of, crossing_at, mean_of, group_point, group_points, cell_points}
use Rattle.extract_points.specs.Slots.{has_in, Known, put_points}
use Rattle.extract_grid.proofs.Joins.{length-join, join-below, join-suc}
use Rattle.extract_points.proofs.Counts.{group-length, has-is, one-le}

-- ---- points put from a place on

pub length-put : (l : List Point) (k : ℕ) (s : List Float) → length (put_points l k s) ≡ length s
unfolding put_points
length-put [] k s = refl
length-put (p ∷ l) k s = length-put l (k + 1) (with_point s k p) ∙ length-with s k p

pub put-append : (l m : List Point) (k : ℕ) (s : List Float) → put_points (l ++ m) k s ≡ put_points m (k + length l) (put_points l k s)
unfolding put_points
put-append [] m k s = let e : k + 0 ≡ k = omega arith in rw e
put-append (p ∷ l) m k s = let e : k + suc (length l) ≡ k + 1 + length l = omega arith in rw e (put-append l m (k + 1) (with_point s k p))

-- points behind those that stand at the front
put-behind : (l ps : List Point) (k : ℕ) (s : List Float) → Front (flat_points ps) s → k ≡ length ps → 3 * (k + length l) ≤ length s → Front (flat_points (ps ++ l)) (put_points l k s)
unfolding put_points
put-behind [] ps k s F e h = rw (append-nil ps) F
put-behind (p ∷ l) ps k s F e h =
    let a : k + 1 ≡ length (ps ++ (p ∷ [])) = rw (length-append ps (p ∷ [])) (omega (arith, e)) in
    let b : 3 * (k + 1 + length l) ≤ length (with_point s k p) = rw (length-with s k p) (omega arith) in
    rw (← append_assoc ps (p ∷ []) l) (put-behind l (ps ++ (p ∷ [])) (k + 1) (with_point s k p) (front-point ps k p F e (omega arith)) a b)

-- all points put from the front on
pub put_front : (l : List Point) (s : List Float) → 3 * length l ≤ length s → Front (flat_points l) (put_points l 0 s)
unfolding flat_points
put_front l s h = put-behind l [] 0 s (front-none s) refl (omega arith)

-- ---- the point of a group

point-some : (l : List Point) → length (group_point l) ≡ 1 → group_point l ≡ mean_of l ∷ []
unfolding group_point
point-some [] e = absurd (omega (arith, e))
point-some (p ∷ l) e = refl

point-none : (l : List Point) → length l ≡ 0 → l ≡ []
point-none [] e = refl
point-none (p ∷ l) e = absurd (omega (arith, e))

-- a group with a crossing has its mean
pub group-some : {g : Grid} {c : Site} {kind : ℕ} {G : List ℕ} {b : Bool} (k : ℕ) → Known g c kind G → b ≡ has_in kind G k → b ≡ true
    → group_points g c k ≡ mean_of (map (crossing_at g c) (members_of g c k)) ∷ []
unfolding group_points
group-some {g} {c} k K e t = point-some _ (group-length g c k ∙ ap (λ z. cond z 1 0) (sym (has-is k K) ∙ (sym e ∙ t)))

pub group-none : {g : Grid} {c : Site} {kind : ℕ} {G : List ℕ} {b : Bool} (k : ℕ) → Known g c kind G → b ≡ has_in kind G k → b ≡ false → group_points g c k ≡ []
group-none {g} {c} k K e t = point-none _ (group-length g c k ∙ ap (λ z. cond z 1 0) (sym (has-is k K) ∙ (sym e ∙ t)))

-- ---- the groups one after the other

-- the points of the groups below k
pub record Placing (g : Grid) (c : Site) (place : ℕ) (v s : List Float) (next k : ℕ) : Type 0 where
  pub next≤ : next ≤ place + k
  pub next_is : next ≡ place + length (join_to (group_points g c) k)
  pub is : s ≡ put_points (join_to (group_points g c) k) place v

group-le : (g : Grid) (c : Site) (k : ℕ) → length (group_points g c k) ≤ 1
group-le g c k = rw (group-length g c k) (one-le (some (is_member g c k) 12))

pub placing-start : (g : Grid) (c : Site) (place : ℕ) (v : List Float) → Placing g c place v v place 0
unfolding join_to put_points
placing-start g c place v = record { next≤ = omega arith; next_is = omega arith; is = refl }

pub placing-room : {g : Grid} {c : Site} {place : ℕ} {v s : List Float} {next k : ℕ} → Placing g c place v s next k → k < 12 → length s ≡ length v
    → 3 * (place + length (cell_points g c)) ≤ length v → 3 * (next + length (group_points g c k)) ≤ length s
unfolding cell_points
placing-room {g} {c} {k = k} P h l r =
    let b = join-below (group_points g c) k 12 h in
    let q = P.next_is in
    omega arith

pub placing-turn : {g : Grid} {c : Site} {place : ℕ} {v s t : List Float} {next k r : ℕ} → Placing g c place v s next k → r ≡ next + length (group_points g c k)
    → t ≡ put_points (group_points g c k) next s → Placing g c place v t r (k + 1)
placing-turn {g} {c} {place} {v} {s} {k = k} P e f = record {
  next≤ = let a = P.next≤ in let o = group-le g c k in omega arith;
  next_is = let j = length-join (group_points g c) k in let q = P.next_is in omega arith;
  is = f ∙ (rw (P.next_is, P.is) (sym (joined k)));
}
  where
    joined : (k : ℕ) → put_points (join_to (group_points g c) (k + 1)) place v ≡ put_points (group_points g c k) (place + length (join_to (group_points g c) k)) (put_points (join_to (group_points g c) k) place v)
    joined k = ap (λ l. put_points l place v) (join-suc (group_points g c) k) ∙ put-append (join_to (group_points g c) k) (group_points g c k) place v

pub placing-end : {g : Grid} {c : Site} {place : ℕ} {v s : List Float} {next k : ℕ} → Placing g c place v s next k → k ≡ 12 → (next ≡ place + length (cell_points g c)) × (s ≡ put_points (cell_points g c) place v)
unfolding cell_points
placing-end {g} {c} {place} {v} P q =
    (P.next_is ∙ ap (λ m. place + length (join_to (group_points g c) m)) q, P.is ∙ ap (λ m. put_points (join_to (group_points g c) m) place v) q)

-- ---- one group

pub group-room : {g : Grid} {c : Site} {kind : ℕ} {G : List ℕ} {b : Bool} (k : ℕ) (place m : ℕ) → Known g c kind G → b ≡ has_in kind G k → b ≡ true
    → 3 * (place + length (group_points g c k)) ≤ m → place * 3 + 3 ≤ m
group-room k place m K e t h = let q = ap length (group-some k K e t) in omega arith

pub group-put : {g : Grid} {c : Site} {kind : ℕ} {G : List ℕ} {b : Bool} {p : Point} {t : List Float} (s : List Float) (k : ℕ) (place : ℕ) → Known g c kind G → b ≡ has_in kind G k → b ≡ true
    → p ≡ mean_of (map (crossing_at g c) (members_of g c k)) → t ≡ with_point s place p → (place + 1 ≡ place + length (group_points g c k)) × (t ≡ put_points (group_points g c k) place s)
unfolding put_points
group-put s k place K e t q f = (rw (group-some k K e t) refl, rw (group-some k K e t) (rw q at f))

pub group-kept : {g : Grid} {c : Site} {kind : ℕ} {G : List ℕ} {b : Bool} (s : List Float) (k : ℕ) (place : ℕ) → Known g c kind G → b ≡ has_in kind G k → b ≡ false
    → (place ≡ place + length (group_points g c k)) × (s ≡ put_points (group_points g c k) place s)
unfolding put_points
group-kept s k place K e t = (rw (group-none k K e t) (omega arith), rw (group-none k K e t) refl)
