-- What a transducer means. Assumes nothing.
use Rattle.std.specs.Prelude.{◌≡◌, ℕ, ◌<◌, ◌≤◌, Some, None, Option}

-- an edge of the graph: the state that it leaves, the state that it enters, and its two letters
abbrev pub Edge : Type 0
Edge = ℕ × ℕ × ℕ × ℕ

abbrev pub from : Edge → ℕ
from e = e.0

abbrev pub to : Edge → ℕ
to e = e.1

abbrev pub south : Edge → ℕ
south e = e.2

abbrev pub north : Edge → ℕ
north e = e.3

-- so many states, letters and slots, and in each slot an edge or nothing
pub record Meaning : Type 0 where
  pub states : ℕ
  pub letters : ℕ
  pub slots : ℕ
  pub edge : ℕ → Option Edge

-- the edge lies among these states and letters
pub record Inside (states letters : ℕ) (e : Edge) : Type 0 where
  pub from_state : from e < states
  pub to_state : to e < states
  pub south_letter : south e < letters
  pub north_letter : north e < letters

-- what every transducer keeps
pub record Valid (m : Meaning) : Type 0 where
  pub some_state : 1 ≤ m.states
  pub few_states : m.states ≤ 4096
  pub some_letter : 1 ≤ m.letters
  pub few_letters : m.letters ≤ 4096
  pub some_slot : 1 ≤ m.slots
  pub few_slots : m.slots ≤ 1048576
  pub inside : (i : ℕ) (e : Edge) → m.edge i ≡ Some e → Inside m.states m.letters e
  pub beyond : (i : ℕ) → m.slots ≤ i → m.edge i ≡ None
