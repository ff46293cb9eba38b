-- Passes one after the other are the rule's run: what is left after each is accepted and no larger, so the slices hold it. Assumes nothing.
use Prim.Native.Nat.{ℕ, suc, ◌+◌, ◌≤◌, ◌<◌}
use mathlib.Core.Path.{◌≡◌, refl, sym, ap, ap₂, ◌∙◌}
use mathlib.Core.List.{List}
use native.Mathlib.Omega.{arith}
use lib.ListN.{length}
use lib.Ieee.{Float}
use Rattle.setting.specs.Settings.{Setting}
use Rattle.rule_sheet.specs.declared.Counts.{Counts}
use Rattle.rule_sheet.specs.declared.Tally.{Tally}
use Rattle.rule_sheet.specs.Sheet.{Sheet, sheet_of, counts_of}
use Rattle.rule_sheet.specs.Lent.{limit}
use Rattle.rule_sheet.specs.Outcomes.{RunEnd}
use Rattle.rule_coarsen.specs.Rule.{coarse_sheet}
use Rattle.sheet.proofs.Flat.{length-quads}
use Rattle.sheet.proofs.Tests.{length-points}
use Rattle.safety_rules.proofs.Fine.{Fine}
use Rattle.coarsen_passes.specs.Passes.{Coarsenable, Remains}
use Rattle.coarsen_passes.proofs.Fine.{counts_of_lem, passes-fine, passes-accepted, passes-fewer, run_from, run-next, run-last}
use Rattle.coarsen_passes.proofs.Once.{fine}

-- after some passes, of which there may be k over the sheet in P₀, Q₀ and L₀: the slices hold a sheet of d, and `left` passes over it end as all do
pub record Running (s : Setting) (k : ℕ) (c : Counts) (P₀ : List Float) (Q₀ L₀ w₀ : List ℕ) (z₀ : List Float) (d : Counts) (P : List Float) (Q L w : List ℕ) (z : List Float) (total left : ℕ) : Type 0 where
  pub ready : Coarsenable left d P Q L w (length z)
  pub points : length P ≡ length P₀
  pub quads : length Q ≡ length Q₀
  pub labelled : length L ≡ length L₀
  pub work : length w ≡ length w₀
  pub floats : length z ≡ length z₀
  pub few : c.quads ≤ limit
  pub gone : total + d.quads ≡ c.quads
  pub same : run_from s left (sheet_of d P Q L) total ≡ coarse_sheet s k (sheet_of c P₀ Q₀ L₀)

pub running-start : {s : Setting} {k : ℕ} {c : Counts} {P : List Float} {Q L w : List ℕ} (z : List Float) → Coarsenable k c P Q L w (length z) → Running s k c P Q L w z c P Q L w z 0 k
running-start z A = record { ready = A; points = refl; quads = refl; labelled = refl; work = refl; floats = refl; few = A.sheet.few.quads≤; gone = omega arith; same = refl }

module _ {s : Setting} {k : ℕ} {c : Counts} {P₀ : List Float} {Q₀ L₀ w₀ : List ℕ} {z₀ : List Float} {d : Counts} {P : List Float} {Q L w : List ℕ} {z : List Float} {total left : ℕ}
    (G : Running s k c P₀ Q₀ L₀ w₀ z₀ d P Q L w z total left) where
  -- the sheet now
  abbrev now_held : Sheet
  now_held = sheet_of d P Q L

  -- no pass is left
  pub running-end : left ≤ 0 → Remains (coarse_sheet s k (sheet_of c P₀ Q₀ L₀)) (record { count = total; sheet = d }) P Q L
  running-end h =
      let n : left ≡ 0 = omega arith in
      let e : record { left = now_held; count = total } ≡ coarse_sheet s k (sheet_of c P₀ Q₀ L₀) = ap (λ (l : ℕ). run_from s l now_held total) (sym n) ∙ G.same in
      record {
        count = ap (λ (a : RunEnd Sheet). a.count) e;
        sheet = ap (λ (a : RunEnd Sheet). a.left) e;
        room = record { points = G.ready.sheet.points; quads = G.ready.sheet.quads; labels = G.ready.sheet.labels };
      }

  -- the next pass may be made
  pub running-next : 0 < left → Coarsenable 1 d P Q L w (length z)
  running-next h = record { sheet = G.ready.sheet; work = G.ready.work; accepted = λ o. G.ready.accepted h }

  -- one pass more
  module _ {m : Tally} {P' : List Float} {Q' L' : List ℕ} (h : 0 < left) (D : Remains (coarse_sheet s 1 now_held) m P' Q' L') where
    now-fine : Fine now_held
    now-fine = fine (running-next h)

    next-counts : counts_of (coarse_sheet s 1 now_held).left ≡ m.sheet
    next-counts = ap counts_of (sym D.sheet) ∙ counts_of_lem m.sheet P' Q' L' D.room.labels

    few_points : m.sheet.points ≤ d.points
    few_points = omega (arith, (passes-fewer s 1 now_held now-fine).0, ap (λ (x : Counts). x.points) next-counts, length-points d.points P)

    less-quads : m.sheet.quads + m.count ≡ d.quads
    less-quads = omega (arith, (passes-fewer s 1 now_held now-fine).1, ap (λ (x : Counts). x.quads) next-counts, D.count, length-quads d.quads Q)

    same-labels : m.sheet.labels ≡ m.sheet.quads
    same-labels = omega (arith, ap (λ (x : Counts). x.labels) next-counts, ap (λ (x : Counts). x.quads) next-counts, (passes-fine s 1 now_held now-fine).labelled)

    -- no more merges than quads
    pub total-fits : total + m.count ≤ limit
    total-fits = omega (arith, less-quads, G.gone, G.few)

    -- it merges nothing
    pub running_none : m.count ≡ 0 → Remains (coarse_sheet s k (sheet_of c P₀ Q₀ L₀)) (record { count = total; sheet = m.sheet }) P' Q' L'
    running_none e =
        let l = run-last s left now_held total (sym D.count ∙ e) in
        let a : record { left = now_held; count = total } ≡ coarse_sheet s k (sheet_of c P₀ Q₀ L₀) = sym l.0 ∙ G.same in
        record {
          count = ap (λ (x : RunEnd Sheet). x.count) a;
          sheet = D.sheet ∙ l.1 ∙ ap (λ (x : RunEnd Sheet). x.left) a;
          room = D.room;
        }

    pub running_more : {w' : List ℕ} {z' : List Float} {l : ℕ} → left ≡ suc l → length P' ≡ length P → length Q' ≡ length Q → length L' ≡ length L → length w' ≡ length w → length z' ≡ length z
        → Running s k c P₀ Q₀ L₀ w₀ z₀ m.sheet P' Q' L' w' z' (total + m.count) l
    running_more {w'} {z'} {l} n lp lq ll lw lz = record {
      ready = record {
        sheet = record {
          few = record {
            points≤ = omega (arith, few_points, G.ready.sheet.few.points≤);
            quads≤ = omega (arith, less-quads, G.ready.sheet.few.quads≤);
            labels≤ = omega (arith, same-labels, less-quads, G.ready.sheet.few.quads≤);
          };
          points = D.room.points;
          quads = D.room.quads;
          labels = D.room.labels;
        };
        work = record { work = omega (arith, few_points, less-quads, G.ready.work.work); floats = omega (arith, few_points, less-quads, G.ready.work.floats) };
        accepted = λ o. rw D.sheet (passes-accepted s 1 now_held now-fine);
      };
      points = lp ∙ G.points;
      quads = lq ∙ G.quads;
      labelled = ll ∙ G.labelled;
      work = lw ∙ G.work;
      floats = lz ∙ G.floats;
      few = G.few;
      gone = omega (arith, less-quads, G.gone);
      same = ap₂ (λ (t : Sheet) (x : ℕ). run_from s l t (total + x)) D.sheet D.count ∙ sym (run-next s l now_held total) ∙ ap (λ (x : ℕ). run_from s x now_held total) (sym n) ∙ G.same;
    }
