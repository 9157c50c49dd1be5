-- The greatest of a number over a list of tiles: none is greater, and a loop may find it from the front.
-- Assumes nothing.
use Rattle.std.specs.Prelude.{◌≡◌, ℕ, zero, suc, ◌+◌, ◌<◌, ◌≤◌, max, List, [], ◌∷◌, length, drop, slice_index_or}
use native.Mathlib.Omega.{arith}
use Rattle.std.proofs.Math.Logic.{inl, inr}
use Rattle.std.proofs.lemmas.Bool.{cases_lt}
use Rattle.std.proofs.lemmas.List.{at_drop_more, at_drop_all}
use Rattle.bottoms.specs.Made.{OneMore}
use Rattle.bottoms.specs.Tiles.{blank, greatest}
use Rattle.bottoms.specs.declared.tile.Tile.{Tile}

module _ (f : Tile → ℕ) where
  pub greatest_bounds :
      (ts : List Tile) (i : ℕ) (d : Tile) → i < length ts → f (slice_index_or ts i d) ≤ greatest f ts
  unfolding greatest
  greatest_bounds [] i d within = absurd (omega arith)
  greatest_bounds (t ∷ ts) zero d within = omega arith
  greatest_bounds (t ∷ ts) (suc i) d within = omega (arith, greatest_bounds ts i d (omega arith))

  -- what is left from tile i on is tile i and what is left after it
  pub greatest_drop :
      (ts : List Tile) (i : ℕ) → i < length ts →
      greatest f (drop i ts) ≡ max (f (slice_index_or ts i blank)) (greatest f (drop (i + 1) ts))
  unfolding greatest
  greatest_drop ts i within = at_drop_more (greatest f) ts i blank within

  pub greatest_none : (ts : List Tile) (i : ℕ) → length ts ≤ i → greatest f (drop i ts) ≡ 0
  unfolding greatest
  greatest_none ts i past = at_drop_all (greatest f) ts i past

  -- one tile more, with the greatest so far
  pub greatest_more :
      (ts : List Tile) (i so : ℕ) (d : Tile) → i < length ts → max so (greatest f (drop i ts)) ≡ greatest f ts →
      max (max (f (slice_index_or ts i d)) so) (greatest f (drop (i + 1) ts)) ≡ greatest f ts
  unfolding greatest
  greatest_more ts i so d within before =
      let step : greatest f (drop i ts) ≡ max (f (slice_index_or ts i d)) (greatest f (drop (i + 1) ts)) =
      at_drop_more (greatest f) ts i d within in
      omega arith

  pub greatest_all :
      (ts : List Tile) (i so : ℕ) → length ts ≤ i → max so (greatest f (drop i ts)) ≡ greatest f ts →
      so ≡ greatest f ts
  greatest_all ts i so past before = omega (arith, greatest_none ts i past)

  -- some tile has the greatest
  pub greatest_attained :
      (ts : List Tile) (d : Tile) → 1 ≤ length ts →
      (i : ℕ) × (i < length ts) × (f (slice_index_or ts i d) ≡ greatest f ts)
  unfolding greatest
  greatest_attained [] d some = absurd (omega arith)
  greatest_attained (t ∷ []) d some = (0, omega arith, omega arith)
  greatest_attained (t ∷ u ∷ ts) d some =
      let rest = greatest_attained (u ∷ ts) d (omega arith) in
      elim (cases_lt (f t) (greatest f (u ∷ ts))) [
        | inl lt ↦ (suc rest.0, omega (arith, rest.1), omega (arith, rest.2))
        | inr ge ↦ (0, omega arith, omega arith)
      ]

  pub one_more : (ts : List Tile) (n : ℕ) → 1 ≤ length ts → n ≡ greatest f ts + 1 → OneMore f ts n
  one_more ts n some is =
      let top = greatest_attained ts blank some in
      record {
        bounds = λ i within. omega (arith, greatest_bounds ts i blank within);
        attained = (top.0, top.1, omega (arith, top.2));
      }
