-- The stages of the gathering: the corners by edges and by points, the numbers of the copies, the corners at which strips run. Assumes nothing.
use Prim.Native.Nat.{ℕ, zero, suc, ◌+◌, ◌*◌, ◌≤◌, ◌<◌}
use mathlib.Core.Path.{◌≡◌, ◌∙◌}
use mathlib.Core.Bool.{Bool, true, false, cond}
use mathlib.Core.List.{List, [], ◌∷◌}
use native.Mathlib.Omega.{arith}
use lib.ListN.{length, get_or, length-append}
use Rattle.lists.specs.Sort.{tabulate}
use Rattle.lists.specs.Regions.{part, Part, Out, Out3, Apart, Kept, Three}
use Rattle.lists.proofs.Regions.{part-kept, part_of}
use Rattle.rule_sheet.specs.declared.Counts.{Counts}
use Rattle.rule_sheet.specs.Lent.{limit}
use Rattle.rule_sheet.specs.Edges.{join_to}
use Rattle.incidence.specs.Corners.{edge_order, corners_at, first_at}
use Rattle.refine.specs.Loops.{order_at}
use Rattle.rows_gather.specs.Steps.{number_in, seam_at, seam_corners, seams_to, seams_of, starts_at, list_at, masks_at, numbers_at, seams_at, counts_after, Worked, Seaming, Gathering}

-- the corners at which strips run are few
seams-bound : (Q labels : List ℕ) (n : ℕ) (L : List ℕ) (i : ℕ) → length (seams_to Q labels n L i) ≤ 2 * i
unfolding seams_to join_to seam_corners
seams-bound Q labels n L zero = omega arith
seams-bound Q labels n L (suc i) = rw (length-append (join_to (seam_corners Q labels n L) i) (seam_corners Q labels n L i)) (go (seam_at Q labels n L i) (seams-bound Q labels n L i))
  where
    go : (b : Bool) → length (join_to (seam_corners Q labels n L) i) ≤ 2 * i → length (join_to (seam_corners Q labels n L) i) + length (cond b (get_or L i 0 ∷ get_or L (i + 1) 0 ∷ []) []) ≤ 2 * suc i
    go true h = omega arith
    go false h = omega arith

pub seams-few : (np nq : ℕ) (Q labels : List ℕ) → length (seams_of np nq Q labels) ≤ 8 * nq
unfolding seams_of
seams-few np nq Q labels = omega (arith, seams-bound Q labels (4 * nq) (edge_order np nq Q) (4 * nq))

module _ {np nq : ℕ} {Q labels M u : List ℕ} (G : Gathering np nq Q labels M u) where
  pub order-room : Three (np + nq) (4 * nq) 0 np (order_at np nq) (4 * nq) u
  order-room = record {
    in_a = omega (arith, G.work);
    in_b = omega (arith, G.work);
    in_c = omega (arith, G.work);
    ab = λ i p q r s. omega arith;
    ac = λ i p q r s. omega arith;
    bc = λ i p q r s. omega arith;
  }

  module _ {v : List ℕ} (A : Part (order_at np nq) (4 * nq) (edge_order np nq Q) v × Kept (Out3 (np + nq) (4 * nq) 0 np (order_at np nq) (4 * nq)) u v) where
    pub list-room : Three (np + nq) (4 * nq) (starts_at np nq) (np + 1) (list_at np nq) (4 * nq) v
    list-room =
        let l : length v ≡ length u = A.1.len in
        record {
          in_a = omega (arith, G.work);
          in_b = omega (arith, G.work, G.some);
          in_c = omega (arith, G.work);
          ab = λ i p q r s. omega arith;
          ac = λ i p q r s. omega arith;
          bc = λ i p q r s. omega (arith, G.some);
        }

    module _ {x : List ℕ} (B : Part (starts_at np nq) (np + 1) (tabulate (first_at nq Q) (np + 1)) x
        × (Part (list_at np nq) (4 * nq) (corners_at np nq Q) x × Kept (Out3 (np + nq) (4 * nq) (starts_at np nq) (np + 1) (list_at np nq) (4 * nq)) v x)) where
      long : length x ≡ length u
      long = B.1.1.len ∙ A.1.len

      masks-in : Part (masks_at np nq) np M x
      masks-in = part-kept
          (part-kept G.masks A.1 (λ i p q. (λ r s. omega arith, (λ r s. omega arith, λ r s. omega arith))))
          B.1.1
          (λ i p q. (λ r s. omega arith, (λ r s. omega (arith, G.some), λ r s. omega arith)))

      order-in : Part (order_at np nq) (4 * nq) (edge_order np nq Q) x
      order-in = part-kept A.0 B.1.1 (λ i p q. (λ r s. omega arith, (λ r s. omega arith, λ r s. omega arith)))

      pub numbering : (np ≤ limit) × ((masks_at np nq + np ≤ length x) × ((numbers_at np nq + 8 * np ≤ length x) × Apart (masks_at np nq) np (numbers_at np nq) (8 * np)))
      numbering = (G.few, (masks-in.fits, (omega (arith, long, G.work), λ i p q r s. omega arith)))

      module _ {y : List ℕ} {k : ℕ} (D : (k ≡ number_in np (part (masks_at np nq) np x) (8 * np))
          × (Part (numbers_at np nq) (8 * np) (tabulate (number_in np (part (masks_at np nq) np x)) (8 * np)) y × Kept (Out (numbers_at np nq) (8 * np)) x y)) where
        pub seaming : Seaming np nq Q labels 0 0 y
        unfolding seams_to join_to
        seaming =
            let l : length y ≡ length u = D.1.1.len ∙ long in
            record {
              cornered = G.cornered;
              labelled = G.labelled;
              order = part-kept order-in D.1.1 (λ i p q r s. omega arith);
              room = omega (arith, G.work);
              next≤ = omega arith;
              done = part_of (seams_at np nq) 0 y (omega (arith, G.work));
            }

        module _ {z : List ℕ} {m : ℕ} (S : (m ≡ length (seams_of np nq Q labels))
            × (Part (seams_at np nq) (length (seams_of np nq Q labels)) (seams_of np nq Q labels) z × Kept (Out (seams_at np nq) (8 * nq)) y z)) where
          still : {at n : ℕ} {a : List ℕ} → Part at n a x → ((i : ℕ) → at ≤ i → i < at + n → i < numbers_at np nq) → Part at n a z
          still P f = part-kept (part-kept P D.1.1 (λ i p q r s. let g = f i p q in omega arith)) S.1.1 (λ i p q r s. let g = f i p q in omega arith)

          pub worked : Worked np nq Q labels M z
          worked =
              let l : length z ≡ length u = S.1.1.len ∙ D.1.1.len ∙ long in
              record {
                corners = record {
                  sheet = G.cornered;
                  begin = still B.0 (λ i p q. omega (arith, G.some));
                  at = still B.1.0 (λ i p q. omega arith);
                  in_barred = omega (arith, G.work);
                  starts_barred = λ i p q r s. omega arith;
                  order_barred = λ i p q r s. omega arith;
                };
                order = still order-in (λ i p q. omega arith);
                numbered = record {
                  masks = still masks-in (λ i p q. omega arith);
                  numbers = part-kept (rw masks-in.is at D.1.0) S.1.1 (λ i p q r s. omega arith);
                };
                seams = S.1.0;
              }

          pub counts-are : ◌≡◌ {A = Counts} (record { points = k; quads = nq + m; labels = nq + m }) (counts_after np nq Q labels M)
          counts-are = rw (D.0, S.0, masks-in.is)
