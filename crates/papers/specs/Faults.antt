-- The number and the place of each fault. Assumes nothing.
use Rattle.std.specs.Prelude.{ℕ, Some, None, Option}
use Rattle.papers.specs.declared.fault.BlockFault.{BlockFault}
use Rattle.papers.specs.declared.fault.BlockFault.TheVariants as block
use Rattle.papers.specs.declared.fault.PaperFault.{PaperFault}
use Rattle.papers.specs.declared.fault.PaperFault.TheVariants as paper

abbrev pub block_fault_number : BlockFault → ℕ
block_fault_number block.Length = 11
block_fault_number (block.Check at) = 12
block_fault_number (block.Place at) = 13
block_fault_number (block.Kind at) = 14
block_fault_number (block.Count at) = 15
block_fault_number (block.Padding at) = 16

-- the block that a fault of a block blames: all but the length's blame one
abbrev pub block_blamed : BlockFault → Option ℕ
block_blamed block.Length = None
block_blamed (block.Check at) = Some at
block_blamed (block.Place at) = Some at
block_blamed (block.Kind at) = Some at
block_blamed (block.Count at) = Some at
block_blamed (block.Padding at) = Some at

abbrev pub block_fault_place : BlockFault → ℕ
block_fault_place block.Length = 0
block_fault_place (block.Check at) = at
block_fault_place (block.Place at) = at
block_fault_place (block.Kind at) = at
block_fault_place (block.Count at) = at
block_fault_place (block.Padding at) = at

abbrev pub paper_fault_number : PaperFault → ℕ
paper_fault_number paper.Length = 11
paper_fault_number (paper.Block f) = block_fault_number f

abbrev pub paper_fault_place : PaperFault → ℕ
paper_fault_place paper.Length = 0
paper_fault_place (paper.Block f) = block_fault_place f

-- the fault of a block, if it is one
abbrev pub block_fault : PaperFault → Option BlockFault
block_fault paper.Length = None
block_fault (paper.Block f) = Some f
