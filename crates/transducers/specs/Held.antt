-- Edges held to counts: an edge outside them reads as nothing. Assumes nothing.
use Rattle.std.specs.Prelude.{◌≡◌, ℕ, ◌<◌, ◌≤◌, Bool, cond, ◌&&◌, Some, None, Option, nat_lt}
use Rattle.transducers.specs.Meaning.{Edge, Meaning, from, to, south, north}
use Rattle.transducers.specs.Stacking.{stack}
use Rattle.transducers.specs.declared.counts.Counts.{Counts}
use Rattle.transducers.specs.declared.fault.StackFault.{StackFault}
use Rattle.transducers.specs.declared.fault.StackFault.TheVariants.{States, Slots}

abbrev pub lies_inside : Counts → Edge → Bool
lies_inside c e =
    nat_lt (from e) c.states && (nat_lt (to e) c.states && (nat_lt (south e) c.letters && nat_lt (north e) c.letters))

abbrev pub held_edge : Counts → Option Edge → Option Edge
held_edge c None = None
held_edge c (Some e) = cond (lies_inside c e) (Some e) None

-- a transducer of these counts, whatever the edges
abbrev pub held_to : Counts → (ℕ → Option Edge) → Meaning
held_to c edge = record {
  states = c.states;
  letters = c.letters;
  slots = c.slots;
  edge = λ i. cond (nat_lt i c.slots) (held_edge c (edge i)) None;
}

-- the stack of two transducers, held to its counts; making it promises that this is the stack itself
abbrev pub stack_held : Counts → Meaning → Meaning → Meaning
stack_held c l u = held_to c (stack l u).edge

-- the counts of a transducer
pub record CountsOf (c : Counts) (m : Meaning) : Type 0 where
  pub states : c.states ≡ m.states
  pub letters : c.letters ≡ m.letters
  pub slots : c.slots ≡ m.slots

-- when a stack is refused: too many states, which is found first, or too many slots
abbrev pub StackRefused : StackFault → Meaning → Meaning → Type 0
StackRefused States l u = 4096 < (stack l u).states
StackRefused Slots l u = ((stack l u).states ≤ 4096) × (1048576 < (stack l u).slots)
