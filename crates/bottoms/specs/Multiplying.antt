-- The laws of a catalogue row: what its edges compute, and that the multiplier is in lowest terms. Assumes nothing.
use Rattle.std.specs.Prelude.{◌≡◌, ℕ, ◌-◌, ◌*◌, ◌<◌, ◌≤◌, ℤ, pos, ◌+ℤ◌, ◌-ℤ◌, Some}
use Rattle.bottoms.specs.Catalogue.{carries, slot_of}
use Rattle.transducers.specs.Meaning.{Edge, Meaning, from, to, south, north}
use Rattle.bottoms.specs.declared.multiplier.Multiplier.{Multiplier}

-- the carry that a state stands for: a whole number from 1 - p to d - 1
abbrev pub carry : Multiplier → ℕ → ℤ
carry r q = pos q -ℤ pos (r.p - 1)

-- p × south + west carry = d × north + east carry
abbrev pub Balanced : Multiplier → ℕ → ℕ → ℕ → ℕ → Type 0
Balanced r c e s t = pos (r.p * s) +ℤ carry r c ≡ pos (r.d * t) +ℤ carry r e

-- a letter of the row
pub record Letter (r : Multiplier) (s : ℕ) : Type 0 where
  pub least : r.low ≤ s
  pub most : s ≤ r.high

-- the edges are the balanced ones, each in the slot of its west state, south and north
pub record Multiplies (r : Multiplier) (m : Meaning) : Type 0 where
  pub each :
      (c e s t : ℕ) → c < carries r → e < carries r → Letter r s → Letter r t → Balanced r c e s t →
      m.edge (slot_of r c s t) ≡ Some (c, e, s, t)
  pub only :
      (i : ℕ) (e : Edge) → m.edge i ≡ Some e →
      (i ≡ slot_of r (from e) (south e) (north e))
      × Letter r (south e) × Letter r (north e)
      × Balanced r (from e) (to e) (south e) (north e)

-- two numbers have no common factor but 1
abbrev pub Coprime : ℕ → ℕ → Type 0
Coprime p d = (k a b : ℕ) → p ≡ k * a → d ≡ k * b → k ≡ 1
