-- Tests in an order, and the first that fails. Assumes nothing.
use Rattle.std.specs.Prelude.{ℕ, zero, suc, Bool, true, false, Ok, Err, Result}

-- what a test answers: passed, or the fault that it found
abbrev pub Verdict : Type 0 → Type 0
Verdict F = Result (Unit {0}) F

-- passed where the condition holds, else this fault
abbrev pub must : {F : Type 0} → Bool → F → Verdict F
must true f = Ok tt
must false f = Err f

infixr 20 ◌then◌
-- the first test's fault, or else the second's
abbrev pub ◌then◌ : {F : Type 0} → Verdict F → Verdict F → Verdict F
Ok u then v = v
Err f then v = Err f

-- the first fault among the tests at 0 to n - 1
unfoldable pub first : {F : Type 0} → (ℕ → Verdict F) → ℕ → Verdict F
first test zero = Ok tt
first test (suc n) = first test n then test n

-- the value where the tests passed, else their fault
abbrev pub answered : {F X : Type 0} → Verdict F → X → Result X F
answered (Ok u) x = Ok x
answered (Err f) x = Err f
