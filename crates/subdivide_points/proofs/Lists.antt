-- What the gathering leaves: the ends of the edges, the second corners, and the corners and the ends by their points. Assumes nothing.
use Prim.Native.Nat.{ℕ, ◌+◌, ◌*◌, ◌%◌, ◌<◌}
use mathlib.Core.Path.{◌≡◌, sym, ap, ◌∙◌}
use mathlib.Core.Bool.{Bool, true, false, cond}
use mathlib.Core.List.{List}
use native.Mathlib.Omega.{arith}
use lib.ListN.{length, get_or}
use lib.Seq.{get_or-take}
use lib.Dec.{eqb}
use Rattle.lists.specs.Sort.{tabulate}
use Rattle.lists.specs.Regions.{part, Part, Out, Out3, Kept, Three}
use Rattle.lists.proofs.Laws.{length-tab, get_or-tab}
use Rattle.lists.proofs.Regions.{part_of, part-get, part-kept, kept_then}
use Rattle.sheet.specs.Edges.{smaller, larger}
use Rattle.sheet.specs.Results.{Front}
use Rattle.incidence.specs.Corners.{Cornered, edge_order, corners_at, first_at}
use Rattle.refine.specs.Loops.{order_at}
use Rattle.refine.proofs.Edges.{sorted, before-less, low_of, high-of}
use Rattle.subdivide_points.specs.Steps.{Below, end_at, Ends, Corners, Pairing, Seconds, scratch_at, starts_at, list_at, end_starts_at, end_list_at, seconds_at, BeforeScratch, Listed, Gathering}

module _ {np nq : ℕ} {Q : List ℕ} (C : Cornered np nq Q) where
  -- the corners in the order of their edges are below 4 nq, and each stands once
  pub order_below : {w : List ℕ} → Part (order_at np nq) (4 * nq) (edge_order np nq Q) w → Below (4 * nq) (order_at np nq) (4 * nq) w
  order_below P = record { fits = P.fits; below = λ j b. rw (part-get 0 j P b) ((sorted C).below j b) }

  order-corners : Corners nq (edge_order np nq Q)
  order-corners = record {
    few = C.few;
    low = (sorted C).below;
    once = λ i j h b e.
        let E = edge_order np nq Q in
        let l = before-less (smaller Q) (larger Q) (get_or E i 0) (get_or E j 0) ((sorted C).order i j h b) (ap (smaller Q) e) (ap (larger Q) e) in
        omega arith;
  }

  -- an end is a point
  end_low : (i : ℕ) → i < 4 * nq → end_at Q (edge_order np nq Q) i < np
  unfolding end_at
  end_low i h = go (eqb (i % 2) 0) (low_of C (get_or (edge_order np nq Q) i 0) ((sorted C).below i h)) (high-of C (get_or (edge_order np nq Q) i 0) ((sorted C).below i h))
    where
      go : (b : Bool) → smaller Q (get_or (edge_order np nq Q) i 0) < np → larger Q (get_or (edge_order np nq Q) i 0) < np → cond b (smaller Q (get_or (edge_order np nq Q) i 0)) (larger Q (get_or (edge_order np nq Q) i 0)) < np
      go true p q = p
      go false p q = q

module _ {np nq room : ℕ} {Q u : List ℕ} (G : Gathering np nq Q room u) where
  pub gather-pairing : Pairing nq (order_at np nq) (seconds_at np nq) (part (order_at np nq) (4 * nq) u) u
  gather-pairing = record {
    corners = rw G.order.is (order-corners G.cornered);
    at = part_of (order_at np nq) (4 * nq) u G.order.fits;
    in_second = omega (arith, G.work);
    apart = λ i p q r s. omega arith;
  }

  module _ {H : List ℕ} (F : Front (tabulate (end_at Q (part (order_at np nq) (4 * nq) u)) (4 * nq)) H) where
    gather-ends : Ends nq Q (edge_order np nq Q) H
    gather-ends i h =
        let f = end_at Q (part (order_at np nq) (4 * nq) u) in
        sym (get_or-take (4 * nq) H i 0 h) ∙ ap (λ (l : List ℕ). get_or l i 0) (rw (length-tab f (4 * nq)) at F.is) ∙ get_or-tab f (4 * nq) i 0 h ∙ rw G.order.is

    pub gather-cornered : Cornered np nq H
    gather-cornered = record {
      few = G.cornered.few;
      quads = omega (arith, F.fits, length-tab (end_at Q (part (order_at np nq) (4 * nq) u)) (4 * nq));
      points = λ c h. rw (gather-ends c h) (end_low G.cornered c h);
    }

    module _ {v w : List ℕ} (S : Seconds (seconds_at np nq) (part (order_at np nq) (4 * nq) u) (2 * nq) v × Kept (Out (seconds_at np nq) (4 * nq)) u v)
        (A : Part (starts_at np nq) (np + 1) (tabulate (first_at nq Q) (np + 1)) w
        × (Part (list_at np nq) (4 * nq) (corners_at np nq Q) w × Kept (Out3 (scratch_at np nq) (4 * nq) (starts_at np nq) (np + 1) (list_at np nq) (4 * nq)) v w)) where
      pub gather-room : Three (scratch_at np nq) (4 * nq) (end_starts_at np nq) (np + 1) (end_list_at np nq) (4 * nq) w
      gather-room =
          let l : length w ≡ length u = A.1.1.len ∙ S.1.len in
          record {
            in_a = omega (arith, G.work);
            in_b = omega (arith, G.work, G.some);
            in_c = omega (arith, G.work);
            ab = λ i p q r s. omega arith;
            ac = λ i p q r s. omega arith;
            bc = λ i p q r s. omega (arith, G.some);
          }

      pub gathered : {x : List ℕ} → Part (end_starts_at np nq) (np + 1) (tabulate (first_at nq H) (np + 1)) x
          × (Part (end_list_at np nq) (4 * nq) (corners_at np nq H) x × Kept (Out3 (scratch_at np nq) (4 * nq) (end_starts_at np nq) (np + 1) (end_list_at np nq) (4 * nq)) w x)
          → Ends nq Q (edge_order np nq Q) H × (Listed np nq Q H x × (Seconds (seconds_at np nq) (edge_order np nq Q) (2 * nq) x × Kept (BeforeScratch np nq) u x))
      gathered {x} B =
          let some = G.some in
          let l : length w ≡ length u = A.1.1.len ∙ S.1.len in
          let m : length x ≡ length u = B.1.1.len ∙ l in
          let work = G.work in (
            gather-ends,
            (
              record {
                corners = record {
                  sheet = G.cornered;
                  begin = part-kept A.0 B.1.1 (λ i p q. (λ r s. omega arith, (λ r s. omega arith, λ r s. omega arith)));
                  at = part-kept A.1.0 B.1.1 (λ i p q. (λ r s. omega arith, (λ r s. omega arith, λ r s. omega arith)));
                  in_barred = omega arith;
                  starts_barred = λ i p q r s. omega arith;
                  order_barred = λ i p q r s. omega arith;
                };
                ends = record {
                  sheet = gather-cornered;
                  begin = B.0;
                  at = B.1.0;
                  in_barred = omega arith;
                  starts_barred = λ i p q r s. omega arith;
                  order_barred = λ i p q r s. omega arith;
                };
              },
              (
                λ i h.
                    let b : get_or (edge_order np nq Q) (2 * i) 0 < 4 * nq = (sorted G.cornered).below (2 * i) (omega arith) in
                    B.1.1.same 0 (seconds_at np nq + get_or (edge_order np nq Q) (2 * i) 0) (λ r s. omega arith, (λ r s. omega arith, λ r s. omega arith))
                    ∙ A.1.1.same 0 (seconds_at np nq + get_or (edge_order np nq Q) (2 * i) 0) (λ r s. omega arith, (λ r s. omega arith, λ r s. omega arith))
                    ∙ (rw G.order.is at S.0) i h,
                kept_then (kept_then S.1 A.1.1 (λ i (h : BeforeScratch np nq i). (λ r s. omega arith, (λ r s. omega arith, (λ r s. omega arith, λ r s. omega arith))))) B.1.1
                    (λ i (h : BeforeScratch np nq i). (h, (λ r s. omega arith, (λ r s. omega arith, λ r s. omega arith)))),
              ),
            ),
          )
