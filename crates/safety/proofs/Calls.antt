-- Demand 3 of every list of calls. Assumes nothing.
use Prim.Native.Nat.{ℕ, ◌+◌, ◌*◌, ◌≤◌, ◌<◌}
use mathlib.Core.Bool.{Bool, true, false, cond, ◌||◌, true≢false}
use mathlib.Core.Path.{◌≡◌, refl, sym, ap, ◌∙◌, subst}
use mathlib.Core.List.{List, [], ◌∷◌, ◌++◌}
use native.Mathlib.Omega.{arith}
use lib.Dec.{eqb}
use lib.ListN.{length}
use lib.Ieee.{Float}
use borrow.Author.Tests.{ltb-true, not-false}
use Rattle.lists.specs.Every.{every}
use Rattle.setting.specs.Settings.{Setting}
use Rattle.rule_sheet.specs.declared.Counts.{Counts}
use Rattle.rule_sheet.specs.declared.Tally.{Tally}
use Rattle.rule_sheet.specs.Quads.{Quad, num, touches, has_label, mask_of}
use Rattle.rule_sheet.specs.Flat.{quads_of, flat_quads}
use Rattle.rule_sheet.specs.Sheet.{Sheet, sheet_verdict, counts_of, with_quads}
use Rattle.rule_sheet.specs.Lent.{Lent, Work, Room, lent_of, held, room_in, is_large, is_short, lent_verdict}
use Rattle.rule_sheet.specs.Sound.{Sound, squared_of}
use Rattle.rule_sheet.specs.Outcomes.{Outcome, refuses, gives, RunEnd, after_test}
use Rattle.rule_sheet.specs.Results.{answer_of, padded, Makes, Alters, AltersQuads}
use Rattle.rule_sheet.specs.Claims.{NoClash}
use Rattle.rule_admission.specs.Admission.{setting_verdict, admits}
use Rattle.sheet.proofs.Flat.{length-quads}
use Rattle.sheet.proofs.Masks.{bit-pack}
use Rattle.sheet.proofs.Tests.{or_left, tested}
use Rattle.sheet.proofs.Results.{length-flat-quads}
use Rattle.admission.proofs.Admitted.{Admitted, lent-refuses, sheet-decides}
use Rattle.admission.proofs.Accepted.{counts-held}
use Rattle.rule_finer.specs.Finer.{finer_sheet}
use Rattle.rule_finer.specs.Smoothed.{paired, smooth_sheet}
use Rattle.rule_finer.specs.Subdivide.{lands_at, projected_sheet, projected, subdivided, subdivide_rule}
use Rattle.rule_passes.specs.Runs.{capped}
use Rattle.rule_regularize.specs.Swaps.{swap_run}
use Rattle.rule_regularize.specs.SwapFits.{swap_fits}
use Rattle.rule_regularize.specs.Rule.{swap_sheet, swap_rule}
use Rattle.rule_coarsen.specs.MergeFits.{merge_fits, merge_position}
use Rattle.rule_coarsen.specs.Rule.{coarse_sheet, coarsen_verdict, coarsen_rule}
use Rattle.coarsen_shapes.proofs.MergeFits.{merge-finite}
use Rattle.safety_rules.specs.Commands as commands
use Rattle.safety_rules.proofs.Fine.{accepted-of}
use Rattle.safety_rules.proofs.Demand.{Good, Keeps, keeps_same, keeps-trans, swaps-kept, coarse-kept, regularize-done, regularize-again}
use Rattle.safety_rules.proofs.RulesKeep.{good_of, sound-of, one-call, coarse-accepted}
use Rattle.safety.specs.Calls.{Call, regularize_call, improve_call, coarsen_call, subdivide_call, Contract, lent, lent_quads, counts_or, result_or, left, count_in, swaps_in, answer_in, is_refused, Lends, next, Run, after, swaps_of, Touches, SkinsApart, Unchanged, NoneLeft, Demand3, EveryList}
use Rattle.safety.proofs.Slices.{quads-padded, length-padded, held-padded}
use Rattle.safety.proofs.Finer.{made_kept}
use Rattle.safety.proofs.Caps.{uncapped}
use Rattle.safety.proofs.Tested.{passes, done-tested, done_admitted}
use Rattle.std.specs.Prelude.{Ok, Err}
use Rattle.rule_sheet.specs.Verdicts.{Verdict, Answer, Accepted}
use Rattle.rule_sheet.specs.declared.Refusal.TheVariants.{Edge, Astray, Short}
use Rattle.rule_sheet.specs.declared.Refusal.{Refusal}

-- ---- `regularize` and `improve_layout`

module _ (m : ℕ) (s : Setting) (k : ℕ) (x : Lent) (a : Good (held x)) where
  -- what the passes find
  abbrev found : RunEnd Sheet
  found = swap_sheet m s k (held x)

  as_many : length found.left.quads ≡ x.counts.quads
  as_many = (swaps-kept (held x) m (swap_fits s (held x).points (held x).labels) k a).len ∙ length-quads x.counts.quads x.quads

  -- the slices after an accepted call
  swapped-is : held (lent_quads x (padded 0 (length x.quads) (flat_quads found.left.quads))) ≡ found.left
  swapped-is = rw (quads-padded found.left.quads x.counts.quads (length x.quads) as_many)

  swap-call : (count : Answer → ℕ) → ((n : Refusal) → count (Err n) ≡ 0) → Keeps (held x) found.left (count (Ok (record { count = found.count; sheet = counts_of found.left })))
      → (u : Verdict) (r : Answer) (Q : List ℕ) → AltersQuads (after_test u (gives found)) x r Q → Keeps (held x) (held (lent_quads x Q)) (count r)
  swap-call count none done (Err n) r Q L = rw (L.answer, L.quads, none n) (keeps_same (held x) a)
  swap-call count none done (Ok u) r Q L = rw (L.answer, L.quads, swapped-is) done

-- ---- `coarsen`

module _ (s : Setting) (k : ℕ) (x : Lent) (a : Good (held x)) where
  coarsen-call : (u : Verdict) (r : Answer) (P : List Float) (Q L : List ℕ) → Alters (after_test u (gives (coarse_sheet s k (held x)))) x r P Q L
      → Keeps (held x) (held (record { counts = counts_or r x.counts; points = P; quads = Q; labels = L })) 0
  coarsen-call (Err n) r P Q L l = rw (l.answer, l.points, l.quads, l.labelled) (keeps_same (held x) a)
  coarsen-call (Ok u) r P Q L l =
      rw (l.answer, l.points, l.quads, l.labelled, held-padded (coarse_sheet s k (held x)).left (length x.points) (length x.quads) (length x.labels))
      (coarse-kept (merge_fits s) (merge_position s) (merge-finite s) k (held x) a).0

-- "No pass after the first can refuse": what any passes leave of a sheet that 12, 5, 6 and 7 accept, closed or not, they accept again
pub later-passes : (s : Setting) (k : ℕ) (t : Sheet) → is_large (counts_of t) ≡ false → sheet_verdict t ≡ Accepted
    → (is_large (counts_of (coarse_sheet s k t).left) ≡ false) × (sheet_verdict (coarse_sheet s k t).left ≡ Accepted)
later-passes s k t e v =
    let T = tested t v in
    let A = coarse-accepted (merge_fits s) (merge_position s) (merge-finite s) k t (record { not_large = e; not_bare = T.not_bare; corners = T.corners; masks = T.masks }) in
    (A.not_large, passes (coarse_sheet s k t).left A)

-- ---- `subdivide`

module _ (s : Setting) (x : Lent) (w : Work) (room : Room) (a : Good (held x)) where
  -- what the call leaves, by the outcome of its rule
  abbrev Left : Outcome Sheet → Type 0
  Left o = (r : Answer) (P : List Float) (Q L : List ℕ) → Makes o room r P Q L → Keeps (held x) (held (result_or r x P Q L)) 0

  refused-call : (n : Refusal) → Left (refuses n)
  refused-call n r P Q L K = rw K.answer (keeps_same (held x) a)

  made-call : (t : Sheet) → Keeps (held x) t 0 → Left (gives t)
  made-call t k r P Q L K = rw (K.answer, K.points, K.quads, K.labelled, held-padded t room.points room.quads room.labels) k

  subdivide-call : Left (subdivide_rule s x w room)
  unfolding subdivide_rule subdivided projected
  subdivide-call =
      go (admits s x w) (is_large c || is_short c room) refl (paired (length (held x).points) (held x).quads) (sheet_verdict t) (every (lands_at s t) (length t.points)) refl
    where
      c : Counts
      c = counts_of (finer_sheet (held x))

      t : Sheet
      t = smooth_sheet (held x)

      go : (u : Verdict) (over : Bool) → (is_large c || is_short c room) ≡ over → (pairs : Bool) (z : Verdict) (lands : Bool) → every (lands_at s t) (length t.points) ≡ lands
          → Left (after_test u (cond over (refuses Short) (cond pairs (after_test z (cond lands (gives (projected_sheet s t)) (refuses Astray))) (refuses Edge))))
      go (Err n) over e pairs z lands h = refused-call n
      go (Ok u) true e pairs z lands h = refused-call Short
      go (Ok u) false e false z lands h = refused-call Edge
      go (Ok u) false e true (Err n) lands h = refused-call n
      go (Ok u) false e true (Ok o) false h = refused-call Astray
      go (Ok u) false e true (Ok o) true h = made-call (projected_sheet s t) (made_kept s (held x) a (or_left (is_large c) (is_short c room) e) h)

-- ---- refused calls

-- a refusal among the answers of an outcome is the outcome's
given-done : {A : Type 0} (e : RunEnd Sheet) (r : Answer) → r ≡ answer_of (gives e) → is_refused r ≡ true → A
given-done e r a h = absurd (true≢false (sym h ∙ ap is_refused a))

quads-refused : (o : Outcome (RunEnd Sheet)) (x : Lent) (r : Answer) (Q : List ℕ) → AltersQuads o x r Q → is_refused r ≡ true → Q ≡ x.quads
quads-refused (refuses n) x r Q L h = L.quads
quads-refused (gives e) x r Q L h = given-done e r L.answer h

sheet-refused : (o : Outcome (RunEnd Sheet)) (x : Lent) (r : Answer) (P : List Float) (Q L : List ℕ) → Alters o x r P Q L → is_refused r ≡ true → lent_of (counts_or r x.counts) P Q L ≡ x
sheet-refused (refuses n) x r P Q L K h = rw (K.answer, K.points, K.quads, K.labelled) refl
sheet-refused (gives e) x r P Q L K h = given-done e r K.answer h

-- they leave what they were lent, and make no swap
pub refused-left : (c : Call) → Contract c → is_refused (answer_in c) ≡ true → (left c ≡ lent c) × (swaps_in c ≡ 0)
refused-left (regularize_call s k x w r Q) C h = (rw (quads-refused _ x r Q C h), none r h)
  where
    none : (r : Answer) → is_refused r ≡ true → count_in r ≡ 0
    none (Ok t) h = absurd (true≢false (sym h))
    none (Err n) h = refl
refused-left (improve_call s k x w r Q) C h = (rw (quads-refused _ x r Q C h), refl)
refused-left (coarsen_call s k x w r P Q L) C h = (sheet-refused _ x r P Q L C h, refl)
refused-left (subdivide_call s x w room r P Q L) C h = (none r h, refl)
  where
    none : (r : Answer) → is_refused r ≡ true → result_or r x P Q L ≡ x
    none (Ok t) h = absurd (true≢false (sym h))
    none (Err n) h = refl

all-unchanged : (s : Sheet) (cs : List Call) → Run s cs → Unchanged cs
all-unchanged s [] run = tt
all-unchanged s (c ∷ cs) (e, C, run) = (refused-left c C, all-unchanged (next s c) cs run)

-- ---- every call

one : (c : Call) → Good (held (lent c)) → Contract c → Keeps (held (lent c)) (held (left c)) (swaps_in c)
unfolding swap_rule coarsen_rule
one (regularize_call s k x w r Q) a C =
    let fits = swap_fits s (held x).points (held x).labels in
    swap-call 1 s k x a count_in (λ n. refl) (rw (uncapped (held x) fits k (accepted-of (held x) a.fine)) (one-call (commands.regularize_call true k (λ ps. swap_fits s ps (held x).labels)) (held x) a)) (admits s x w) r Q C
one (improve_call s k x w r Q) a C = swap-call 0 s k x a (λ r. 0) (λ n. refl) (one-call (commands.improve_call true k (λ ps. swap_fits s ps (held x).labels)) (held x) a) (admits s x w) r Q C
one (coarsen_call s k x w r P Q L) a C = coarsen-call s k x a (coarsen_verdict s k x w) r P Q L C
one (subdivide_call s x w room r P Q L) a C = subdivide-call s x w room a r P Q L C

-- the same from the sheet before a call to the sheet after it
one-next : (s : Sheet) (c : Call) → Good s → Lends s c → Contract c → Keeps s (next s c) (swaps_in c)
one-next s c a e C = go (is_refused (answer_in c)) refl
  where
    go : (h : Bool) → is_refused (answer_in c) ≡ h → Keeps s (cond h s (held (left c))) (swaps_in c)
    go false h = rw (e h) at (one c (rw (e h) a) C)
    go true h = rw (refused-left c C h).1 (keeps_same s a)

every_call : (s : Sheet) (cs : List Call) → Good s → Run s cs → Keeps s (after s cs) (swaps_of cs)
every_call s [] a run = keeps_same s a
every_call s (c ∷ cs) a (e, C, run) =
    let k = one-next s c a e C in
    keeps-trans s (next s c) (after (next s c) cs) (swaps_in c) (swaps_of cs) k (every_call (next s c) cs k.good run)

-- ---- masks

apart_of : (s : Sheet) → NoClash s.quads s.labels → SkinsApart s
unfolding NoClash SkinsApart mask_of
apart_of s c v j h low high =
    let t = touched (2 * j) (omega arith) low in
    let u = touched (2 * j + 1) (omega arith) high in
    omega (arith, t, u, c v j t)
  where
    is_true : (b : Bool) → num b ≡ 1 → b ≡ true
    is_true true e = refl
    is_true false e = absurd (omega arith)

    touched : (l : ℕ) → l ≤ 7 → Touches s v l → 0 < touches s.quads s.labels v l
    touched l h e = ltb-true 0 _ (is_true _ (sym (bit-pack (has_label s.quads s.labels v) l h) ∙ e))

-- ---- the last call

module _ (s : Setting) (k : ℕ) (x : Lent) (w : Work) (t : Tally) (Q : List ℕ) (a : Good (held x)) (C : Contract (regularize_call s k x w (Ok t) Q)) where
  abbrev passed : Admitted (setting_verdict s) x w
  passed = done_admitted s k x w t Q C

  abbrev remain : List Quad
  remain = (swap_sheet 1 s k (held x)).left.quads

  quads_are : Q ≡ padded 0 (length x.quads) (flat_quads remain)
  unfolding swap_rule
  quads_are = rw (done-tested s k x w t Q C) at C.quads

  quads-length : length Q ≡ length x.quads
  quads-length = rw quads_are (length-padded 0 (length x.quads) (flat_quads remain) (omega (arith, length-flat-quads remain, as_many 1 s k x a, passed.sheet.quads)))

  remain-is : quads_of x.counts.quads Q ≡ remain
  remain-is = rw quads_are (quads-padded remain x.counts.quads (length x.quads) (as_many 1 s k x a))

  -- what is left passes the tests again
  passes-again : admits s (lent_quads x Q) w ≡ Accepted
  passes-again =
      let v : lent_verdict x.counts (room_in (lent_quads x Q)) w ≡ Accepted = rw quads-length passed.lengths in
      let u : sheet_verdict (held (lent_quads x Q)) ≡ Accepted = rw remain-is (passes _ (accepted-of _ (swaps-kept (held x) 1 (swap_fits s (held x).points (held x).labels) k a).good.fine)) in
      sym (sheet-decides (setting_verdict s) (lent_quads x Q) w v passed.brought (sym u))

  none_left : squared_of (held x) < 2 * k → NoneLeft s k (lent_quads x Q) w
  unfolding swap_rule
  none_left h =
      let fits = swap_fits s (held x).points (held x).labels in
      record {
        no_swap = rw remain-is (regularize-done (held x) fits k a h);
        again = λ r R L.
            let q : swap_run (length (held x).points) (held x).labels 1 fits k remain ≡ record { left = remain; count = 0 } = regularize-again (held x) fits k a h k in
            let o : swap_sheet 1 s k (held (lent_quads x Q)) ≡ record { left = held (lent_quads x Q); count = 0 } = rw remain-is (ap (λ (e : RunEnd (List Quad)). swap_end e) q) in
            let D : AltersQuads (gives (record { left = held (lent_quads x Q); count = 0 })) (lent_quads x Q) r R = rw (passes-again, o) at L in
            (D.answer ∙ ap (λ (c : Counts). Ok (record { count = 0; sheet = c })) (counts-held (lent_quads x Q) (rw quads-length passed.sheet)), D.quads ∙ rw (remain-is, quads-length) (sym quads_are));
      }
    where
      -- what passes leave, as a sheet
      swap_end : RunEnd (List Quad) → RunEnd Sheet
      swap_end e = record { left = with_quads (held x) e.left; count = capped e.count }

-- ---- the theorem

-- the places of a list
front : (s : Sheet) (cs ds : List Call) → Run s (cs ++ ds) → Run s cs
front s [] ds r = tt
front s (c ∷ cs) ds (e, C, r) = (e, C, front (next s c) cs ds r)

rest : (s : Sheet) (cs ds : List Call) → Run s (cs ++ ds) → Run (after s cs) ds
rest s [] ds r = r
rest s (c ∷ cs) ds (e, C, r) = rest (next s c) cs ds r

joined : (s : Sheet) (cs ds : List Call) → after s (cs ++ ds) ≡ after (after s cs) ds
joined s [] ds = refl
joined s (c ∷ cs) ds = joined (next s c) cs ds

-- the sheet at a place keeps what the start had
good-at : (s : Sheet) (ds es : List Call) → Good s → Run s (ds ++ es) → Good (after s ds)
good-at s ds es a run = (every_call s ds a (front s ds es run)).good

rises-never : (s : Sheet) (ds es fs : List Call) → Good s → Run s (ds ++ (es ++ fs)) → squared_of (after s (ds ++ es)) ≤ squared_of (after s ds)
rises-never s ds es fs a run =
    let k = every_call (after s ds) es (good-at s ds (es ++ fs) a run) (front (after s ds) es fs (rest s ds (es ++ fs) run)) in
    rw (joined s ds es) (omega (arith, k.falls))

none-anywhere : (s : Sheet) (ds es : List Call) (v : Setting) (k : ℕ) (x : Lent) (w : Work) (t : Tally) (Q : List ℕ) → Good s → Run s (ds ++ (regularize_call v k x w (Ok t) Q ∷ es))
    → squared_of (held x) < 2 * k → NoneLeft v k (lent_quads x Q) w
none-anywhere s ds es v k x w t Q a run h =
    let c = regularize_call v k x w (Ok t) Q in
    let r : Run (after s ds) (c ∷ es) = rest s ds (c ∷ es) run in
    let g : Good (held x) = rw (r.0 refl) (good-at s ds (c ∷ es) a run) in
    none_left v k x w t Q g r.1 h

pub demand3 : EveryList
unfolding EveryList
demand3 s cs a run = go (every_call s cs (good_of s a) run)
  where
    go : Keeps s (after s cs) (swaps_of cs) → Demand3 s cs
    go k = record {
      sound = sound-of (after s cs) k.good;
      apart = apart_of (after s cs) k.good.fine.no_clash;
      euler = k.euler;
      never_rises = λ ds es fs e. rises-never s ds es fs (good_of s a) (subst (Run s) e run);
      falls = k.falls;
      none_left = λ ds es v j x w t Q e h. none-anywhere s ds es v j x w t Q (good_of s a) (subst (Run s) e run) h;
      refused = all-unchanged s cs run;
    }
