-- The six piles. Assumes nothing.
use Rattle.std.specs.Prelude.{◌≡◌, ◌≤◌, ◌⊎◌}
use Rattle.transducers.specs.Held.{StackRefused, stack_held}
use Rattle.transducers.specs.Meaning.{Meaning}
use Rattle.transducers.specs.Stacking.{stack}
use Rattle.trimming.specs.Trimming.{Largest, States, kept_set, trim}
use Rattle.transducers.specs.Turning.{turn}
pub use Rattle.piles.specs.PileKinds.{numbered_pile}
use Rattle.piles.specs.declared.pile.Pile.{Pile}
use Rattle.piles.specs.declared.pile.Pile.TheVariants as pile
use Rattle.piles.specs.declared.pile_kind.PileKind.{PileKind}
use Rattle.piles.specs.declared.pile_kind.PileKind.TheVariants.{FourHigh, Plain, Trimmed, TrimmedTwoHigh, Turned, TwoHigh}
use Rattle.piles.specs.declared.pile_fault.PileFault.{PileFault}
use Rattle.piles.specs.declared.pile_fault.PileFault.TheVariants as fault

-- what a pile means, by what its bottoms mean
abbrev pub pile_meaning : {B : Type 0} → (B → Meaning) → Pile B → Meaning
pile_meaning mean (pile.Plain b) = mean b
pile_meaning mean (pile.Turned t) = turn (mean t.below)
pile_meaning mean (pile.TwoHigh s) = stack_held s.counts (mean s.lower) (mean s.upper)
pile_meaning mean (pile.Trimmed t) = trim (mean t.below) (kept_set t)
pile_meaning mean (pile.TrimmedTwoHigh t) =
    trim (stack_held t.below.counts (mean t.below.lower) (mean t.below.upper)) (kept_set t)
pile_meaning mean (pile.FourHigh s) =
    stack_held s.counts
    (stack_held s.lower.counts (mean s.lower.lower) (mean s.lower.upper))
    (stack_held s.upper.counts (mean s.upper.lower) (mean s.upper.upper))

-- a transducer trimmed to the largest set of states that can go on both ways
abbrev pub TrimOf : Meaning → Meaning → Type 0
TrimOf below m = (K : States) × Largest below K × (m ≡ trim below K)

-- m is the pile of this kind over the copies a, b, c and d of a transducer
abbrev pub PileOf : PileKind → Meaning → Meaning → Meaning → Meaning → Meaning → Type 0
PileOf Plain a b c d m = m ≡ a
PileOf Turned a b c d m = m ≡ turn a
PileOf TwoHigh a b c d m = m ≡ stack a b
PileOf Trimmed a b c d m = TrimOf a m
PileOf TrimmedTwoHigh a b c d m = TrimOf (stack a b) m
PileOf FourHigh a b c d m = m ≡ stack (stack a b) (stack c d)

-- a stack of the pile is refused
abbrev pub StackedRefused : PileKind → PileFault → Meaning → Meaning → Meaning → Meaning → Type 0
StackedRefused TwoHigh (fault.Stack f) a b c d = StackRefused f a b
StackedRefused TrimmedTwoHigh (fault.Stack f) a b c d = StackRefused f a b
StackedRefused FourHigh (fault.Stack f) a b c d =
    StackRefused f a b ⊎ (StackRefused f c d ⊎ StackRefused f (stack a b) (stack c d))
StackedRefused Plain (fault.Stack f) a b c d = ⊥
StackedRefused Turned (fault.Stack f) a b c d = ⊥
StackedRefused Trimmed (fault.Stack f) a b c d = ⊥
StackedRefused k fault.List a b c d = ⊥
StackedRefused k fault.Row a b c d = ⊥
StackedRefused k fault.Memory a b c d = Unit {0}

-- the stack of two transducers is within the limits
abbrev pub StackFits : Meaning → Meaning → Type 0
StackFits l u = ((stack l u).states ≤ 4096) × ((stack l u).slots ≤ 1048576)

-- of four copies, the first stack that passes a limit is refused: the lower pair, the upper pair, the pair of pairs
abbrev pub FirstOfFourRefused : PileFault → Meaning → Meaning → Meaning → Meaning → Type 0
FirstOfFourRefused (fault.Stack f) a b c d =
    StackRefused f a b
    ⊎ (StackFits a b × (StackRefused f c d ⊎ (StackFits c d × StackRefused f (stack a b) (stack c d))))
FirstOfFourRefused fault.List a b c d = ⊥
FirstOfFourRefused fault.Row a b c d = ⊥
FirstOfFourRefused fault.Memory a b c d = Unit {0}

-- the first stack of the pile that passes a limit is refused; a pile of two copies or of one has no second
abbrev pub FirstRefused : PileKind → PileFault → Meaning → Meaning → Meaning → Meaning → Type 0
FirstRefused FourHigh f a b c d = FirstOfFourRefused f a b c d
FirstRefused TwoHigh f a b c d = StackedRefused TwoHigh f a b c d
FirstRefused TrimmedTwoHigh f a b c d = StackedRefused TrimmedTwoHigh f a b c d
FirstRefused Plain f a b c d = StackedRefused Plain f a b c d
FirstRefused Turned f a b c d = StackedRefused Turned f a b c d
FirstRefused Trimmed f a b c d = StackedRefused Trimmed f a b c d
