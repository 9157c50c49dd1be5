-- What reading a set text comes to, by the grammar. Assumes nothing.
use Rattle.std.specs.Prelude.{◌≡◌, ℕ, ◌+◌, ◌<◌, ◌≤◌, min, List, [], ◌∷◌, ◌++◌, length, Ok, Err, decimal, Result, ◌≢◌}
use Rattle.std.specs.List.{flat_map}
use Rattle.bottoms.specs.declared.tile.Tile.{Tile}
use Rattle.setgrammar.specs.Grammar.{Line, tile, written, Formed, Good, tiles_in, InTurn, Says, Begins, laid}
use Rattle.setgrammar.specs.declared.fault.Position.{Position}
use Rattle.setgrammar.specs.declared.fault.TextFault.{TextFault}
use Rattle.setgrammar.specs.declared.fault.TextFault.TheVariants as fault
use Rattle.setgrammar.specs.declared.set.SetText.{SetText}

-- these bytes are the good lines of a whole set, in turn
pub record IsSetText (bs : List ℕ) (room : ℕ) (set : SetText) (ts : List Tile) : Type 0 where
  pub short : length bs ≤ 65535
  pub lines : List Line
  pub bytes : bs ≡ flat_map written lines
  pub begins : Begins room lines
  pub says : Says lines set
  pub tiles : ts ≡ tiles_in lines

-- some line that may stand after these begins with these bytes, and goes on
abbrev pub Fits : ℕ → List Line → List ℕ → Type 0
Fits room before head =
    (l : Line) × (more : List ℕ) × Begins room (before ++ l ∷ []) × (written l ≡ head ++ more) × (0 < length more)

-- good lines in turn stand before the line of a fault, and in that line `head` before its column, and `tail` from there on
pub record Found (bs : List ℕ) (old left : List Tile) (at : Position) (Why : List Line → List ℕ → List ℕ → Type 0)
    : Type 0 where
  pub short : length bs ≤ 65535
  pub before : List Line
  pub head : List ℕ
  pub tail : List ℕ
  pub bytes : bs ≡ flat_map written before ++ (head ++ tail)
  pub begins : Begins (length old) before
  pub line : at.line ≡ length before + 1
  pub column : at.column ≡ length head + 1
  pub tiles : left ≡ laid (tiles_in before) old
  pub why : Why before head tail

-- 1: no line begins with the byte
abbrev pub WhyStart : List Line → List ℕ → List ℕ → Type 0
WhyStart before head tail =
    (head ≡ []) × (b : ℕ) × (rest : List ℕ) × (tail ≡ b ∷ rest) × ((l : Line) (more : List ℕ) → written l ≢ b ∷ more)

-- 2: a line that may stand here begins with the bytes before the column, and no line of the right form has the byte next
abbrev pub WhyByte : ℕ → List Line → List ℕ → List ℕ → Type 0
WhyByte room before head tail =
    Fits room before head × (0 < length head) × (b : ℕ) × (rest : List ℕ) × (tail ≡ b ∷ rest)
    × ((l : Line) (more : List ℕ) → Formed l → written l ≢ head ++ b ∷ more)

-- 3: a number follows a space, and no good line has it there
abbrev pub WhyRange : ℕ → List Line → List ℕ → List ℕ → Type 0
WhyRange room before head tail =
    Fits room before head × (front : List ℕ) × (head ≡ front ++ 32 ∷ [])
    × (n : ℕ) × (n ≤ 999) × (rest : List ℕ) × (tail ≡ decimal n ++ rest)
    × ((l : Line) (more : List ℕ) → Good l → written l ≢ head ++ (decimal n ++ more))

-- 4: some line begins with the byte, and none that is in turn
abbrev pub WhyTurn : List Line → List ℕ → List ℕ → Type 0
WhyTurn before head tail =
    (head ≡ []) × (b : ℕ) × (rest : List ℕ) × (tail ≡ b ∷ rest)
    × ((l : Line) × (more : List ℕ) × Good l × (written l ≡ b ∷ more))
    × ((l : Line) (more : List ℕ) → written l ≡ b ∷ more → InTurn (before ++ l ∷ []) → ⊥)

-- 5: a tile line is in turn, and there is no room for one more
abbrev pub WhyFull : ℕ → List Line → List ℕ → List ℕ → Type 0
WhyFull room before head tail =
    (head ≡ []) × (rest : List ℕ) × (tail ≡ 116 ∷ rest) × ((t : Tile) → InTurn (before ++ tile t ∷ []))
    × (length (tiles_in before) ≡ min room 1024)

-- 6: the text ends inside a line that may stand here, or before the set is complete
abbrev pub WhyEnds : ℕ → List Line → List ℕ → List ℕ → Type 0
WhyEnds room before head tail =
    Fits room before head × (tail ≡ []) × (head ≡ [] → (set : SetText) → Says before set → ⊥)

-- what each fault tells of the text
abbrev pub Faulty : List ℕ → List Tile → TextFault → List Tile → Type 0
Faulty bs old (fault.Start at) left = Found bs old left at WhyStart
Faulty bs old (fault.Byte at) left = Found bs old left at (WhyByte (length old))
Faulty bs old (fault.Range at) left = Found bs old left at (WhyRange (length old))
Faulty bs old (fault.Turn at) left = Found bs old left at WhyTurn
Faulty bs old (fault.Full at) left = Found bs old left at (WhyFull (length old))
Faulty bs old (fault.Ends at) left = Found bs old left at (WhyEnds (length old))
Faulty bs old fault.Long left = (65535 < length bs) × (left ≡ old)

-- a set that was read is what the bytes say, and its tiles are laid over the list; a fault is in the bytes
abbrev pub Told : List ℕ → List Tile → Result SetText TextFault → List Tile → Type 0
Told bs old (Ok set) left = (ts : List Tile) × IsSetText bs (length old) set ts × (left ≡ laid ts old)
Told bs old (Err f) left = Faulty bs old f left

-- each set text is taken, as what it says; and what is answered is so
pub record Law (bs : List ℕ) (old : List Tile) (r : Result SetText TextFault) (left : List Tile) : Type 0 where
  pub takes : (set : SetText) (ts : List Tile) → IsSetText bs (length old) set ts → (r ≡ Ok set) × (left ≡ laid ts old)
  pub told : Told bs old r left
