-- Two transducers, one on the other. Assumes nothing.
use Rattle.std.specs.Prelude.{ℕ, ◌+◌, ◌*◌, ◌/◌, ◌%◌, max, cond, Some, None, Option, ◌==◌}
use Rattle.transducers.specs.Meaning.{Edge, Meaning, from, to, south, north}

-- the pair of a lower and an upper state, of which there are n
abbrev pub paired : ℕ → ℕ → ℕ → ℕ
paired n low high = low * n + high

-- two edges one above the other are an edge if the lower north is the upper south; n is the count of upper states
abbrev pub joined_edges : ℕ → Edge → Edge → Option Edge
joined_edges n e f =
    cond (north e == south f) (Some (paired n (from e) (from f), paired n (to e) (to f), south e, north f)) None

abbrev pub both_edges : ℕ → Option Edge → Option Edge → Option Edge
both_edges n (Some e) (Some f) = joined_edges n e f
both_edges n (Some e) None = None
both_edges n None o = None

-- states and slots are pairs; the letters are the greater count
abbrev pub stack : Meaning → Meaning → Meaning
stack l u = record {
  states = l.states * u.states;
  letters = max l.letters u.letters;
  slots = l.slots * u.slots;
  edge = λ i. both_edges u.states (l.edge (i / u.slots)) (u.edge (i % u.slots));
}

-- m is k copies of t, stacked pair by pair in any bracketing; one copy is t alone
pub data Copies (t : Meaning) : ℕ → Meaning → Type 0 where
  single : Copies t 1 t
  pair : {j k : ℕ} {l u : Meaning} → Copies t j l → Copies t k u → Copies t (j + k) (stack l u)
