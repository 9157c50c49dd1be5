-- Every pile keeps the limits, and making one makes the pile that was asked for. Assumes nothing.
use Rattle.std.specs.Prelude.{◌≡◌}
use Rattle.std.proofs.Common.{ap₂, ◌∙◌}
use Rattle.transducers.specs.Held.{stack_held}
use Rattle.transducers.specs.Meaning.{Meaning, Valid}
use Rattle.transducers.specs.Stacking.{stack}
use Rattle.trimming.specs.Trimming.{kept_set}
use Rattle.transducers.specs.Stacks.{held_valid}
use Rattle.trimming.specs.TrimmingLemmas.{trim_valid}
use Rattle.transducers.specs.Turned.{turn_valid}
use Rattle.piles.specs.Piles.{pile_meaning}
use Rattle.transducers.specs.declared.stack.Stack.{Stack}
use Rattle.piles.specs.declared.pile.Pile.{Pile}
use Rattle.piles.specs.declared.pile.Pile.TheVariants as pile

pub pile_valid : {B : Type 0} (mean : B → Meaning) → ((b : B) → Valid (mean b)) → (p : Pile B) → Valid (pile_meaning mean p)
pile_valid mean valid (pile.Plain b) = valid b
pile_valid mean valid (pile.Turned t) = turn_valid (mean t.below) (valid t.below)
pile_valid mean valid (pile.TwoHigh s) = held_valid s.counts _
pile_valid mean valid (pile.Trimmed t) = trim_valid (mean t.below) (kept_set t) (valid t.below)
pile_valid mean valid (pile.TrimmedTwoHigh t) =
    trim_valid (stack_held t.below.counts (mean t.below.lower) (mean t.below.upper)) (kept_set t) (held_valid t.below.counts _)
pile_valid mean valid (pile.FourHigh s) = held_valid s.counts _

-- what two stacked transducers of a type mean
abbrev pair_meaning : {B : Type 0} → (B → Meaning) → Stack B B → Meaning
pair_meaning mean s = stack_held s.counts (mean s.lower) (mean s.upper)

-- making a stack said so
abbrev Paired : {B : Type 0} → (B → Meaning) → Stack B B → B → B → Type 0
Paired mean s a b = (s.lower ≡ a) × (s.upper ≡ b) × (stack_held s.counts (mean a) (mean b) ≡ stack (mean a) (mean b))

pair_is : {B : Type 0} (mean : B → Meaning) (s : Stack B B) (a b : B) → Paired mean s a b → pair_meaning mean s ≡ stack (mean a) (mean b)
pair_is mean s a b told = ap₂ (λ x y. stack_held s.counts (mean x) (mean y)) told.0 told.1 ∙ told.2

pub four_is : {B : Type 0} (mean : B → Meaning) (s : Stack (Stack B B) (Stack B B)) (l u : Stack B B) (a b c d : B) → Paired mean l a b → Paired mean u c d → Paired (pair_meaning mean) s l u → stack_held s.counts (pair_meaning mean s.lower) (pair_meaning mean s.upper) ≡ stack (stack (mean a) (mean b)) (stack (mean c) (mean d))
four_is mean s l u a b c d low high all =
    pair_is (pair_meaning mean) s l u all ∙ ap₂ stack (pair_is mean l a b low) (pair_is mean u c d high)
