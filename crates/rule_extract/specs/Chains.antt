-- Which crossings of a cell are one group, without numbers of groups. Document 01, "The drawn sheet". Not a rule: the
-- law that the rule's groups are these is in rule_extract/proofs/Groups.
use Rattle.std.specs.Prelude.{ℕ, ◌<◌, ◌≡◌, Bool, ◌⊎◌, List, [], ◌∷◌, get_or}
use Rattle.rule_extract.specs.Cells.{pair, pairs_of, groups_of}

-- x is an element of a list
abbrev pub IsIn : {A : Type 0} → A → List A → Type 0
IsIn x [] = ⊥
IsIn x (y ∷ l) = (x ≡ y) ⊎ IsIn x l

-- "a face with two crossings joins them, one with four joins by the sign at its centre": a face joins a and b
pub record Joined (sign centre : ℕ → Bool) (a b : ℕ) : Type 0 where
  pub face : ℕ
  pub face< : face < 6
  pub listed : IsIn (pair a b) (pairs_of sign (centre face) face) ⊎ IsIn (pair b a) (pairs_of sign (centre face) face)

-- a chain of joins leads from a to b
pub data Chain (sign centre : ℕ → Bool) (a : ℕ) : ℕ → Type 0 where
  empty : Chain sign centre a a
  join : {b c : ℕ} → Chain sign centre a b → Joined sign centre b c → Chain sign centre a c

-- two edges have the same group exactly where a chain of joins leads from one to the other
pub record SameGroup (sign centre : ℕ → Bool) (a b : ℕ) : Type 0 where
  pub chained : get_or (groups_of sign centre) a 0 ≡ get_or (groups_of sign centre) b 0 → Chain sign centre a b
  pub grouped : Chain sign centre a b → get_or (groups_of sign centre) a 0 ≡ get_or (groups_of sign centre) b 0
