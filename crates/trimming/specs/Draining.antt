-- Draining a set of states: a state without a link to a state that is left goes. Assumes nothing.
use Rattle.std.specs.Prelude.{◌≡◌, ℕ, ◌+◌, ◌≤◌, ◌<◌, true, if◌then◌else◌, List, length, nat_lt, slice_index}
use Rattle.trimming.specs.Linking.{at, links, times_in}
use Rattle.trimming.specs.Trimming.{States}

-- some link leads from q to a state of S
abbrev pub LinkTo : List (List ℕ) → States → ℕ → Type 0
LinkTo ls S q = (x : ℕ) × (1 ≤ links ls q x) × (S x ≡ true)

-- each state of S has a link to a state of S
abbrev pub Lasting : List (List ℕ) → States → Type 0
Lasting ls S = (q : ℕ) → S q ≡ true → LinkTo ls S q

-- what is left when all is drained: the largest set that lasts
pub record Left (ls : List (List ℕ)) (K : States) : Type 0 where
  pub lasts : Lasting ls K
  pub largest : (S : States) → Lasting ls S → (q : ℕ) → S q ≡ true → K q ≡ true

-- how often a state stands: once if it has links, and once for each time that it is listed to go
abbrev pub standing : List ℕ → List ℕ → ℕ → ℕ
standing counts going q = (if nat_lt 0 (slice_index counts q) then 1 else 0) + times_in going q

-- the states that links lead to, but none from, each listed once
pub record AreDeadEnds (out into : List (List ℕ)) (going : List ℕ) : Type 0 where
  pub inside : (q : ℕ) → 1 ≤ times_in going q → q < length out
  pub once : (q : ℕ) → times_in going q ≤ 1
  pub left_by_none : (q : ℕ) → 1 ≤ times_in going q → length (at out q) ≡ 0
  pub led_to : (q : ℕ) → 1 ≤ times_in going q → 1 ≤ length (at into q)
  pub each : (q : ℕ) → length (at out q) ≡ 0 → 1 ≤ length (at into q) → 1 ≤ times_in going q
