-- The graph of a transducer: walks, closed walks, ranks that fall, periodic tilings. Assumes nothing.
use Rattle.std.specs.Prelude.{◌≡◌, ℕ, ◌+◌, ◌*◌, ◌<◌, ◌≤◌, cond, List, [], ◌∷◌, length, take, drop, Some, nat_lt, slice_index}
use Rattle.transducers.specs.Meaning.{Edge, Meaning, from, to, south, north}
use Rattle.rules.specs.Torus.{rows, width}

-- a walk along the edges in these slots, from a state to a state: each edge leaves the state that the one before enters
pub data Walk (m : Meaning) : List ℕ → ℕ → ℕ → Type 0 where
  one : {i : ℕ} (e : Edge) → m.edge i ≡ Some e → Walk m (i ∷ []) (from e) (to e)
  more : {i : ℕ} {is : List ℕ} {q : ℕ} (e : Edge) → m.edge i ≡ Some e → Walk m is (to e) q → Walk m (i ∷ is) (from e) q

-- a strip is a walk
abbrev pub Strip : Meaning → List ℕ → Type 0
Strip m is = (p : ℕ) × (q : ℕ) × Walk m is p q

-- a ring is a closed walk: its last edge enters the state that its first leaves
abbrev pub Ring : Meaning → List ℕ → Type 0
Ring m is = (q : ℕ) × Walk m is q q

-- there is a strip of that width, on paper or not
abbrev pub HasStrip : Meaning → ℕ → Type 0
HasStrip m w = (is : List ℕ) × (length is ≡ w) × Strip m is

-- a rank that falls along every edge
pub record Falls (m : Meaning) (rank : ℕ → ℕ) : Type 0 where
  pub falls : (i : ℕ) (e : Edge) → m.edge i ≡ Some e → rank (to e) < rank (from e)

-- the first slot's edge lies under the second's: its north is the other's south
abbrev pub Under : Meaning → ℕ → ℕ → Type 0
Under m i j = (e : Edge) × (f : Edge) × (m.edge i ≡ Some e) × (m.edge j ≡ Some f) × (north e ≡ south f)

-- the row above row y of r rows; above the top row comes the bottom row
abbrev pub next_row : ℕ → ℕ → ℕ
next_row r y = cond (nat_lt (y + 1) r) (y + 1) 0

-- a torus: a width and a row count, then the rows from the bottom, each a ring and each under the next
pub record TorusOn (m : Meaning) (xs : List ℕ) : Type 0 where
  pub some_column : 1 ≤ width xs
  pub some_row : 1 ≤ rows xs
  pub cells : length xs ≡ 2 + width xs * rows xs
  pub closed : (y : ℕ) → y < rows xs → Ring m (take (width xs) (drop (2 + y * width xs) xs))
  pub stacked : (x y : ℕ) → x < width xs → y < rows xs → Under m (slice_index xs (2 + y * width xs + x)) (slice_index xs (2 + next_row (rows xs) y * width xs + x))

-- a ranking: a rank for each state, none too large, which falls along every edge
pub record RankingOn (m : Meaning) (xs : List ℕ) : Type 0 where
  pub sized : length xs ≡ m.states
  pub small : (q : ℕ) → q < length xs → slice_index xs q ≤ 65535
  pub falls : Falls m (λ q. slice_index xs q)
