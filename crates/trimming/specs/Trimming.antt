-- Trimming a transducer: edges between states that can go on in both directions stay. Assumes nothing.
use Rattle.std.specs.Prelude.{◌≡◌, ℕ, Bool, true, false, cond, ◌&&◌, List, Some, None, vec_items, Option, slice_index_or}
use Rattle.transducers.specs.Meaning.{Edge, Meaning, from, to}
use Rattle.trimming.specs.declared.trim.Trim.{Trim}

-- a set of states
abbrev pub States : Type 0
States = ℕ → Bool

-- some slot has an edge that enters q and leaves a state of S
abbrev pub EdgeIn : Meaning → States → ℕ → Type 0
EdgeIn m S q = (i : ℕ) × (e : Edge) × (m.edge i ≡ Some e) × (to e ≡ q) × (S (from e) ≡ true)

-- some slot has an edge that leaves q and enters a state of S
abbrev pub EdgeOut : Meaning → States → ℕ → Type 0
EdgeOut m S q = (i : ℕ) × (e : Edge) × (m.edge i ≡ Some e) × (from e ≡ q) × (S (to e) ≡ true)

-- each state of S has an edge in from S and an edge out into S
pub record Thriving (m : Meaning) (S : States) : Type 0 where
  pub edge_in : (q : ℕ) → S q ≡ true → EdgeIn m S q
  pub edge_out : (q : ℕ) → S q ≡ true → EdgeOut m S q

-- K thrives, and every set that thrives lies within K
pub record Largest (m : Meaning) (K : States) : Type 0 where
  pub thrives : Thriving m K
  pub largest : (S : States) → Thriving m S → (q : ℕ) → S q ≡ true → K q ≡ true

-- the states at which a list has true; a state past its end is not one
abbrev pub listed : List Bool → States
listed ks q = slice_index_or ks q false

-- the states that a trimmed transducer keeps
abbrev pub kept_set : {T : Type 0} → Trim T → States
kept_set t = listed (vec_items t.kept)

-- an edge stays if both its ends are in K
abbrev pub kept_edge : States → Option Edge → Option Edge
kept_edge K None = None
kept_edge K (Some e) = cond (K (from e) && K (to e)) (Some e) None

-- the same states, letters and slots, with the edges that stay
abbrev pub trim : Meaning → States → Meaning
trim m K = record {
  states = m.states;
  letters = m.letters;
  slots = m.slots;
  edge = λ i. kept_edge K (m.edge i);
}
