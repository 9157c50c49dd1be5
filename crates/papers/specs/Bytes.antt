-- Numbers in bytes, least byte first, and a block's check. Assumes nothing.
use Rattle.std.specs.Prelude.{ℕ, zero, suc, ◌+◌, ◌*◌, ◌<◌, List, slice_index}
use Rattle.std.specs.List.{AllByRecursion}

-- numbers that are bytes
abbrev pub Bytes : List ℕ → Type 0
Bytes bs = AllByRecursion (λ b. b < 256) bs

-- the number of 16 bits at a byte
abbrev pub half : List ℕ → ℕ → ℕ
half bs at = slice_index bs at + 256 * slice_index bs (at + 1)

-- the number of 32 bits at a byte
abbrev pub word : List ℕ → ℕ → ℕ
word bs at = slice_index bs at + 256 * slice_index bs (at + 1) + 65536 * slice_index bs (at + 2) + 16777216 * slice_index bs (at + 3)

-- the sum over the first n bytes of (i + 1) × byte i
unfoldable pub weighted : List ℕ → ℕ → ℕ
weighted bs zero = 0
weighted bs (suc n) = weighted bs n + (n + 1) * slice_index bs n
