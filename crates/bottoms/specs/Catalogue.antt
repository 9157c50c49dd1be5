-- The catalogue: transducers that multiply by p / d, letter by letter with a carry. Assumes nothing.
use Rattle.std.specs.Prelude.{ℕ, ◌+◌, ◌-◌, ◌*◌, ◌/◌, ◌%◌, Bool, cond, ◌&&◌, List, [], ◌∷◌, Some, None, Option, nat_le, nat_lt, slice_index_or}
use Rattle.transducers.specs.Meaning.{Edge, Meaning}
use Rattle.bottoms.specs.declared.multiplier.Multiplier.{Multiplier}

abbrev pub multiplier : ℕ → ℕ → ℕ → ℕ → Multiplier
multiplier p d low high = record { p = p; d = d; low = low; high = high }

-- the eight rows: numerator, denominator, least and greatest letter
abbrev pub table : List Multiplier
table =
    multiplier 2 1 1 4 ∷ multiplier 2 3 1 4 ∷ multiplier 1 2 1 4 ∷ multiplier 1 3 1 4
    ∷ multiplier 3 1 1 4 ∷ multiplier 3 2 1 4 ∷ multiplier 1 1 0 1 ∷ multiplier 4 3 0 3 ∷ []

-- row k of the table, from 1
abbrev pub is_row : ℕ → Bool
is_row k = nat_le 1 k && nat_le k 8

abbrev pub table_row : ℕ → Multiplier
table_row k = slice_index_or table (k - 1) (multiplier 0 0 0 0)

-- a carry is a whole number from 1 - p to d - 1, and its state is the carry plus p - 1
abbrev pub carries : Multiplier → ℕ
carries r = r.p + r.d - 1

-- how many letters a cell may have
abbrev pub alphabet : Multiplier → ℕ
alphabet r = r.high - r.low + 1

-- the slot of a west state, a south letter and a north letter
abbrev pub slot_of : Multiplier → ℕ → ℕ → ℕ → ℕ
slot_of r c s t = (c * alphabet r + (s - r.low)) * alphabet r + (t - r.low)

-- the west state, the south and the north of slot i
abbrev pub west_in : Multiplier → ℕ → ℕ
west_in r i = i / alphabet r / alphabet r

abbrev pub south_in : Multiplier → ℕ → ℕ
south_in r i = r.low + i / alphabet r % alphabet r

abbrev pub north_in : Multiplier → ℕ → ℕ
north_in r i = r.low + i % alphabet r

-- p times the south and the west state, from which d times the north is to be taken
abbrev pub product : Multiplier → ℕ → ℕ
product r i = r.p * south_in r i + west_in r i

-- the edge of slot i, if what is left over is a carry's state
abbrev pub multiplied : Multiplier → ℕ → Option Edge
multiplied r i =
    cond (nat_le (r.d * north_in r i) (product r i) && nat_lt (product r i - r.d * north_in r i) (carries r))
    (Some (west_in r i, product r i - r.d * north_in r i, south_in r i, north_in r i)) None

abbrev pub catalogue : Multiplier → Meaning
catalogue r = record {
  states = carries r;
  letters = r.high + 1;
  slots = carries r * alphabet r * alphabet r;
  edge = λ i. cond (nat_lt i (carries r * alphabet r * alphabet r)) (multiplied r i) None;
}
