-- The lines that judge prints, as bytes. Assumes nothing.
use Rattle.std.specs.Prelude.{ℕ, List, ◌++◌, Ok, Err, codes, decimal, Result}
use Rattle.rules.specs.Faults.{docket_fault_number, docket_fault_place}
use Rattle.rules.specs.Shown.{width_text}
use Rattle.rules.specs.declared.fault.DocketFault.{DocketFault}
use Rattle.rules.specs.declared.width.Ends.{Ends}
use Rattle.setgrammar.specs.Faults.{fault_number, fault_line, fault_column}
use Rattle.setgrammar.specs.declared.fault.TextFault.{TextFault}

-- set refused N line L column M
abbrev pub set_refused : TextFault → List ℕ
set_refused f =
    codes "set refused " ++ (decimal (fault_number f)
    ++ (codes " line " ++ (decimal (fault_line f)
    ++ (codes " column " ++ decimal (fault_column f)))))

-- paper K accepted floor F ceiling C
abbrev pub paper_accepted : ℕ → Ends → List ℕ
paper_accepted k e =
    codes "paper " ++ (decimal k
    ++ (codes " accepted floor " ++ (width_text e.floor
    ++ (codes " ceiling " ++ width_text e.ceiling))))

-- paper K refused N at P
abbrev pub paper_refused : ℕ → DocketFault → List ℕ
paper_refused k f =
    codes "paper " ++ (decimal k
    ++ (codes " refused " ++ (decimal (docket_fault_number f)
    ++ (codes " at " ++ decimal (docket_fault_place f)))))

-- the line of what filing a paper answered
abbrev pub paper_text : ℕ → Result Ends DocketFault → List ℕ
paper_text k (Ok e) = paper_accepted k e
paper_text k (Err f) = paper_refused k f

-- pile refused N
abbrev pub pile_refused : ℕ → List ℕ
pile_refused n = codes "pile refused " ++ decimal n
