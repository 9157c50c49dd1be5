-- One cell more of a row, and one rank more of a ranking. Assumes nothing.
use Rattle.std.proofs.Common.{◌≡◌, ℕ, ◌+◌, ◌-◌, ◌<◌, ◌≤◌, max, false, eqb, List, get_or, Some, None, Ok, Err, Option, sym, refl, ap, ◌∙◌, ap₂, add-one, arith}
use native.Mathlib.Nat.{max_comm}
use Rattle.std.proofs.lemmas.Bool.{ne_eqb}
use Rattle.std.specs.Option.{option_map}
use Rattle.transducers.specs.Meaning.{Edge, Meaning, from, to}
use Rattle.rules.specs.Ranks.{highest}
use Rattle.rules.specs.Rows.{arrival, cell, cell_meets, column}
use Rattle.rules.specs.Walks.{GoesOn, IsWalk, longer, state_of}
use Rattle.rules.specs.declared.fault.DocketFault.{DocketFault}
use Rattle.rules.specs.declared.rows.Walk.{Walk}

-- a row at b, and a place p in it
module _ (m : Meaning) (xs : List ℕ) (b p : ℕ) (within : b ≤ p) where
  started : 0 < p - b → eqb (p - b) 0 ≡ false
  started some = ne_eqb (p - b) 0 (omega (arith, some))

  walk_arrival : (walk : Option Walk) → IsWalk m xs b (p - b) walk → arrival m xs b (p - b) ≡ state_of walk
  walk_arrival None none = rw none refl
  walk_arrival (Some w) h = rw (started h.0) h.2

  here : b + (p - b) ≡ p
  here = omega (arith, within)

  last : b + (p + 1 - b) - 1 ≡ p
  last = omega (arith, within)

  longer_walk : (walk : Option Walk) (e : Edge) → IsWalk m xs b (p - b) walk → cell m xs p ≡ Some e → IsWalk m xs b (p + 1 - b) (Some (longer walk e))
  longer_walk None e none is =
      let first : p ≡ b = omega (arith, within, none) in
      (omega (arith, within), rw (← first) (ap (option_map from) is), rw last (ap (option_map to) is))
  longer_walk (Some w) e h is = (omega (arith, within), h.1, rw last (ap (option_map to) is))

  -- the walk went on
  pub gone_on : (walk : Option Walk) (w : Walk) → IsWalk m xs b (p - b) walk → GoesOn m xs p walk w → (column m xs b (p - b) ≡ Ok tt) × IsWalk m xs b (p + 1 - b) (Some w)
  gone_on walk w h on =
      (rw (walk_arrival walk h, here, on.1, on.2) refl, rw on.3 (longer_walk walk on.0 h on.1))

  -- or it stopped
  pub stopped : (walk : Option Walk) (f : DocketFault) → IsWalk m xs b (p - b) walk → cell_meets (cell m xs p) (state_of walk) p ≡ Err f → column m xs b (p - b) ≡ Err f
  stopped walk f h at = rw (walk_arrival walk h, here) at

-- one rank more
pub highest_more : (xs : List ℕ) (n high rank r : ℕ) → high ≡ highest xs n → rank ≡ get_or xs n 0 → r ≡ max rank high → r ≡ highest xs (n + 1)
unfolding highest
highest_more xs n high rank r old here is = is ∙ ap₂ max here old ∙ max_comm (get_or xs n 0) (highest xs n) ∙ sym (ap (highest xs) (add-one n))
