-- The number of each fault of a pile. Assumes nothing.
use Rattle.std.specs.Prelude.{ℕ, Some, None, Option}
use Rattle.bottoms.specs.declared.fault.ListFault.{ListFault}
use Rattle.bottoms.specs.declared.fault.ListFault.TheVariants as list
use Rattle.transducers.specs.declared.fault.StackFault.TheVariants.{Slots, States}
use Rattle.piles.specs.declared.pile_fault.PileFault.{PileFault}
use Rattle.piles.specs.declared.pile_fault.PileFault.TheVariants.{List, Memory, Row, Stack}

-- want of memory has no number
abbrev pub pile_fault_number : PileFault → Option ℕ
pile_fault_number List = Some 39
pile_fault_number Row = Some 40
pile_fault_number (Stack States) = Some 31
pile_fault_number (Stack Slots) = Some 32
pile_fault_number Memory = None

-- the fault of a list of tiles, as one of a pile
abbrev pub of_list : ListFault → PileFault
of_list list.Length = List
of_list list.Memory = Memory
