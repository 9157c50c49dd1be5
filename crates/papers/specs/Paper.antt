-- A paper: 1 to 64 blocks, all of one kind, whose numbers run on from block to block. Assumes nothing.
use Rattle.std.specs.Prelude.{ℕ, ◌+◌, ◌-◌, ◌*◌, ◌/◌, ◌%◌, Bool, cond, ◌&&◌, List, map, length, Ok, Err, Result, ◌==◌, nat_le, slice_index}
use Rattle.std.specs.List.{range_with_len}
use Rattle.papers.specs.Block.{block_verdict, kind_byte, kind_of}
pub use Rattle.papers.specs.Blocks.{blocks, block_at}
use Rattle.papers.specs.Bytes.{word}
use Rattle.papers.specs.First.{Verdict, must, ◌then◌, first, answered}
use Rattle.papers.specs.declared.fault.BlockFault.{BlockFault}
use Rattle.papers.specs.declared.fault.PaperFault.{PaperFault}
use Rattle.papers.specs.declared.fault.PaperFault.TheVariants as fault
use Rattle.papers.specs.declared.kind.Kind.{Kind}
use Rattle.papers.specs.declared.paper.Paper.{Paper}

-- the kind that block b has to have: any in block 0, and then that of block 0
abbrev pub due_kind : List ℕ → ℕ → ℕ
due_kind bs b = cond (b == 0) 0 (kind_byte bs)

-- a block's fault, carried whole
abbrev pub of_block : Verdict BlockFault → Verdict PaperFault
of_block (Ok u) = Ok u
of_block (Err f) = Err (fault.Block f)

abbrev pub block_passes : List ℕ → ℕ → Verdict PaperFault
block_passes bs b = of_block (block_verdict (block_at bs b) b (due_kind bs b) (b + 1 == blocks bs))

abbrev pub whole_blocks : List ℕ → Bool
whole_blocks bs = length bs % 512 == 0 && (nat_le 1 (blocks bs) && nat_le (blocks bs) 64)

-- a paper's tests in their order
abbrev pub paper_verdict : List ℕ → Verdict PaperFault
paper_verdict bs = must (whole_blocks bs) fault.Length then first (block_passes bs) (blocks bs)

-- how many numbers the blocks hold: 126 in each but the last
abbrev pub paper_count : List ℕ → ℕ
paper_count bs = 126 * (blocks bs - 1) + slice_index bs (512 * (blocks bs - 1) + 3)

-- the number at a place of the paper, whose places run through all blocks
abbrev pub number_at : List ℕ → ℕ → ℕ
number_at bs i = word bs (512 * (i / 126) + 4 + 4 * (i % 126))

-- the first n numbers
abbrev pub numbers : List ℕ → ℕ → List ℕ
numbers bs n = map (number_at bs) (range_with_len 0 n)

-- what a paper says: its kind and its numbers
pub record Contents : Type 0 where
  pub kind : Kind
  pub numbers : List ℕ

-- the contents of the bytes, or their first fault
abbrev pub contents_of : List ℕ → Result Contents PaperFault
contents_of bs =
    answered (paper_verdict bs) (record { kind = kind_of (kind_byte bs); numbers = numbers bs (paper_count bs) })

-- what a paper that was read holds
abbrev pub held : Paper → Contents
held p = record { kind = p.kind; numbers = numbers p.bytes.now p.count }

-- what a reading answered, by its contents
abbrev pub reading : Result Paper PaperFault → Result Contents PaperFault
reading (Ok p) = Ok (held p)
reading (Err f) = Err f
