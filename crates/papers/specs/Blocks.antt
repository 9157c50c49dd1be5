-- Bytes as blocks of 512 bytes, one behind the other. Assumes nothing.
use Rattle.std.specs.Prelude.{ℕ, ◌*◌, ◌/◌, List, length, take, drop}

-- how many blocks the bytes are
abbrev pub blocks : List ℕ → ℕ
blocks bs = length bs / 512

-- the bytes of block b
abbrev pub block_at : List ℕ → ℕ → List ℕ
block_at bs b = take 512 (drop (512 * b) bs)
