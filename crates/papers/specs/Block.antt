-- One block of a paper: 512 bytes. Bytes 0 and 1 are its place in the paper, 2 its kind, 3 how many numbers it holds,
-- 4 to 507 are 126 numbers of 32 bits, and 508 to 511 its check. Assumes nothing.
use Rattle.std.specs.Prelude.{ℕ, ◌+◌, ◌*◌, Bool, true, false, cond, ◌&&◌, ◌||◌, List, length, Result, ◌==◌, nat_le, slice_index}
use Rattle.papers.specs.Bytes.{half, word, weighted}
use Rattle.papers.specs.First.{Verdict, must, ◌then◌, first, answered}
use Rattle.papers.specs.declared.block.Block.{Block}
use Rattle.papers.specs.declared.fault.BlockFault.{BlockFault}
use Rattle.papers.specs.declared.fault.BlockFault.TheVariants as fault
use Rattle.papers.specs.declared.kind.Kind.{Kind}
use Rattle.papers.specs.declared.kind.Kind.TheVariants.{Strip, Ring, Ranking, Torus}

-- the kind that a number from 1 to 4 stands for
abbrev pub kind_of : ℕ → Kind
kind_of k = cond (k == 1) Strip (cond (k == 2) Ring (cond (k == 3) Ranking Torus))

abbrev pub is_kind : ℕ → Bool
is_kind k = nat_le 1 k && nat_le k 4

abbrev pub kind_byte : List ℕ → ℕ
kind_byte bs = slice_index bs 2

abbrev pub count_byte : List ℕ → ℕ
count_byte bs = slice_index bs 3

-- the number at place i of the block
abbrev pub block_number : List ℕ → ℕ → ℕ
block_number bs i = word bs (4 + 4 * i)

-- 1 to 126 in the last block, else 126
abbrev pub count_fits : Bool → ℕ → Bool
count_fits true n = nat_le 1 n && nat_le n 126
count_fits false n = n == 126

-- a number past the count is 0
abbrev pub padding : List ℕ → ℕ → ℕ → Verdict BlockFault
padding bs place i = must (cond (nat_le (count_byte bs) i) (block_number bs i == 0) true) (fault.Padding place)

-- a block's tests in their order, at its due place and kind (0: any); `last` says whether it is the paper's last
abbrev pub block_verdict : List ℕ → ℕ → ℕ → Bool → Verdict BlockFault
block_verdict bs place kind last =
    must (length bs == 512) fault.Length
    then must (word bs 508 == weighted bs 508) (fault.Check place)
    then must (half bs 0 == place) (fault.Place place)
    then must (is_kind (kind_byte bs) && (kind == 0 || kind_byte bs == kind)) (fault.Kind place)
    then must (count_fits last (count_byte bs)) (fault.Count place)
    then first (padding bs place) 126

-- what the block reader answers
abbrev pub block_of : List ℕ → ℕ → ℕ → Bool → Result Block BlockFault
block_of bs place kind last =
    answered (block_verdict bs place kind last) (record { kind = kind_of (kind_byte bs); count = count_byte bs })
