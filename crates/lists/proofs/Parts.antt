-- What a slice holds when a part of it, `&mut s[a..e]` or `&mut s[a..]`, has come back: `put_mid a (e - a) s y`. Assumes nothing.
use Prim.Native.Nat.{ℕ, ◌-◌, ◌≤◌}
use mathlib.Core.Path.{◌≡◌, ap, ◌∙◌}
use mathlib.Core.List.{List, ◌++◌, append-nil}
use native.Mathlib.Omega.{arith}
use lib.ListN.{length, take, drop, replicate, length-append, length-drop}
use lib.Seq.{take_at, drop-length}
use borrow.Rule.Slice.PartMut.{mid_of, put_mid, Post-is, mid_len}

-- the part to the end: what was before it, and the part's last value
pub put-end : {A : Type 0} (a : ℕ) (s y : List A) → a ≤ length s → put_mid a (length s - a) s y ≡ take a s ++ y
put-end {A} a s y h = ap (λ (l : List A). take a s ++ (y ++ l)) (Post-is a (length s) s h ∙ drop-length s) ∙ ap (λ (l : List A). take a s ++ l) (append-nil y)

pub length-end : {A : Type 0} (a : ℕ) (s : List A) → length (mid_of a (length s - a) s) ≡ length s - a
length-end a s = mid_len a (length s) s (omega arith)

-- a slice whose first n elements were written and whose rest was then cleared, by `clear(&mut s[n..])`
pub tail-same : {A : Type 0} (x : A) (n : ℕ) (p s a z : List A) → length p ≡ n → n ≤ length s → a ≡ p ++ drop n s → z ≡ replicate (length (mid_of n (length a - n) a)) x
    → put_mid n (length a - n) a z ≡ p ++ replicate (length s - n) x
tail-same x n p s a z lp h ea ez =
    let la : length a ≡ length s = ap length ea ∙ length-append p (drop n s) ∙ omega (arith, length-drop n s) in
    let f : take n a ≡ p = ap (take n) ea ∙ take_at p (drop n s) n lp in
    let m : length (mid_of n (length a - n) a) ≡ length s - n = length-end n a ∙ omega arith in
    put-end n a z (omega arith) ∙ rw (f, ez, m)
