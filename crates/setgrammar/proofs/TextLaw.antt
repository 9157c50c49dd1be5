-- What reading a set text comes to, by the grammar. Assumes nothing.
use Rattle.std.proofs.Common.{◌≡◌, ℕ, zero, suc, ◌+◌, ◌<◌, ◌≤◌, List, [], ◌∷◌, ◌++◌, length, Ok, Result, sym, refl, ap, ◌∙◌, subst, inl, inr, arith}
use Rattle.std.proofs.lemmas.List.{append-nil, append_assoc, length-append, flat_map_more}
use Rattle.std.proofs.lemmas.Bool.{cases_lt, le-leb, lt-leb}
use Rattle.std.specs.List.{flat_map, AllByRecursion}
use Rattle.bottoms.specs.declared.tile.Tile.{Tile}
use Rattle.setgrammar.proofs.Breaks.{Broken, Breaks}
use Rattle.setgrammar.proofs.LineLaw.{below, taken, broken, line_cases, quiet_begins}
use Rattle.setgrammar.proofs.LineTaken.{line_taken}
use Rattle.setgrammar.proofs.Numbers.{place}
use Rattle.setgrammar.proofs.Rooms.{state_after, begins_next, Said, whole, short, said_cases, said_only}
use Rattle.setgrammar.proofs.Stands.{Stands, next, stands_next, turn_takes, tiles_append}
use Rattle.setgrammar.proofs.Turns.{some_left}
use Rattle.setgrammar.specs.Grammar.{Line, blank, note, pile, row, tile, written, Good, tiles_in, Says, Begins, laid}
use Rattle.setgrammar.specs.Law.{IsSetText, Found, Faulty, Told, Law}
use Rattle.setgrammar.specs.Lines.{Outcome, said, lines, set_text}
use Rattle.setgrammar.specs.Place.{start_of}
use Rattle.setgrammar.specs.declared.fault.Position.{Position}
use Rattle.setgrammar.specs.declared.fault.TextFault.{TextFault}
use Rattle.setgrammar.specs.declared.fault.TextFault.TheVariants as fault
use Rattle.setgrammar.specs.declared.line.Stage.{Stage}
use Rattle.setgrammar.specs.declared.line.Stage.TheVariants.{Empty}
use Rattle.setgrammar.specs.declared.set.SetText.{SetText}

-- the start of the line after these
abbrev line_after : List Line → Position
line_after ls = record { line = length ls + 1; column = 1 }

below_after : (ls : List Line) (l : Line) → line_after (ls ++ l ∷ []) ≡ below (line_after ls)
below_after ls l = ap (λ (n : ℕ). record { line = n + 1; column = 1 }) (length-append ls (l ∷ []))

pub written_some : (l : Line) → 0 < length (written l)
written_some blank = omega arith
written_some (note bs) = omega arith
written_some (pile n) = omega arith
written_some (row n) = omega arith
written_some (tile t) = omega arith

module _ (bs : List ℕ) (old : List Tile) (fits : length bs ≤ 65535) where
  found : (before : List Line) (rest : List ℕ) → bs ≡ flat_map written before ++ rest → Begins (length old) before
      → (at : Position) (Why : List Line → List ℕ → List ℕ → Type 0) → Broken rest (line_after before) at (Why before)
      → Found bs old (laid (tiles_in before) old) at Why
  found before rest bytes begins at Why b = record {
    short = fits;
    before = before;
    head = b.head;
    tail = b.tail;
    bytes = bytes ∙ rw b.bytes;
    begins = begins;
    line = ap (λ (p : Position). p.line) b.place;
    column = ap (λ (p : Position). p.column) b.place ∙ omega arith;
    tiles = refl;
    why = b.why;
  }

  faulty : (before : List Line) (rest : List ℕ) → bs ≡ flat_map written before ++ rest → Begins (length old) before
      → (f : TextFault) → Breaks (length old) before rest (line_after before) f → Faulty bs old f (laid (tiles_in before) old)
  faulty before rest bytes begins (fault.Start at) b = found before rest bytes begins at _ b
  faulty before rest bytes begins (fault.Byte at) b = found before rest bytes begins at _ b
  faulty before rest bytes begins (fault.Range at) b = found before rest bytes begins at _ b
  faulty before rest bytes begins (fault.Turn at) b = found before rest bytes begins at _ b
  faulty before rest bytes begins (fault.Full at) b = found before rest bytes begins at _ b
  faulty before rest bytes begins (fault.Ends at) b = found before rest bytes begins at _ b
  faulty before rest bytes begins fault.Long b = absurd b

  -- the text ends after whole lines
  at_end : (before : List Line) (stage : Stage) → Stands before stage → bs ≡ flat_map written before ++ [] → Begins (length old) before
      → Said before stage (line_after before) → Told bs old (said stage (line_after before)) (laid (tiles_in before) old)
  at_end before stage s bytes begins (whole set e says) =
      rw e (tiles_in before, record { short = fits; lines = before; bytes = bytes ∙ append-nil _; begins = begins; says = says; tiles = refl }, refl)
  at_end before stage s bytes begins (short e none) =
      rw e (found before [] bytes begins (line_after before) _ (record {
        head = [];
        tail = [];
        bytes = refl;
        place = refl;
        why = ((blank, 10 ∷ [], quiet_begins old before begins stage s blank tt tt refl, refl, omega arith), refl, λ _. none);
      }))

  -- one line more
  bytes_more : (before : List Line) (l : Line) (rest rest' : List ℕ) → bs ≡ flat_map written before ++ rest → rest ≡ written l ++ rest'
      → bs ≡ flat_map written (before ++ l ∷ []) ++ rest'
  bytes_more before l rest rest' bytes is = bytes ∙ rw (is, ← flat_map_more written [] before l, append_assoc (flat_map written before) (written l) rest')

  -- the lines from here on tell what the text is
  told : (n : ℕ) (before : List Line) (stage : Stage) → Stands before stage → Begins (length old) before → (rest : List ℕ)
      → length rest ≤ n → bs ≡ flat_map written before ++ rest
      → Told bs old (lines n (state_after old before stage) (place rest (line_after before))).answer
      (lines n (state_after old before stage) (place rest (line_after before))).tiles
  unfolding lines
  told zero before stage s begins [] enough bytes = at_end before stage s bytes begins (said_cases before stage s (line_after before))
  told zero before stage s begins (b ∷ rest) enough bytes = absurd (omega arith)
  told (suc n) before stage s begins [] enough bytes = at_end before stage s bytes begins (said_cases before stage s (line_after before))
  told (suc n) before stage s begins (b ∷ rest) enough bytes =
      elim (line_cases old before begins stage s b rest (line_after before)) [
        | taken l rest' takes begins' is e ↦
            let shorter : length rest' ≤ n = omega (arith, ap length is, length-append (written l) rest', written_some l) in
            rw (e, ← below_after before l)
            (told n (before ++ l ∷ []) (next stage l) (stands_next before stage l s takes) begins' rest' shorter
            (bytes_more before l (b ∷ rest) rest' bytes is))
        | broken f e breaks ↦ rw e (faulty before (b ∷ rest) bytes begins f breaks)
      ]

-- what holds of all holds of those in the middle
all_front : (P : Line → Type 0) (xs ys : List Line) → AllByRecursion P (xs ++ ys) → AllByRecursion P xs
all_front P [] ys all = tt
all_front P (x ∷ xs) ys all = (all.0, all_front P xs ys all.1)

all_at : (P : Line → Type 0) (xs : List Line) (x : Line) (ys : List Line) → AllByRecursion P (xs ++ x ∷ ys) → P x
all_at P [] x ys all = all.0
all_at P (y ∷ xs) x ys all = all_at P xs x ys all.1

tiles_front : (xs : List Line) (x : Line) (ys : List Line)
    → length (tiles_in xs) + length (tiles_in (x ∷ [])) ≤ length (tiles_in (xs ++ x ∷ ys))
tiles_front xs x ys =
    omega (
      arith,
      ap length (tiles_append xs (x ∷ ys)),
      length-append (tiles_in xs) (tiles_in (x ∷ ys)),
      ap length (tiles_append (x ∷ []) ys),
      length-append (tiles_in (x ∷ [])) (tiles_in ys),
    )

module _ (old : List Tile) where
  -- good lines in turn are read
  takes : (ls : List Line) (n : ℕ) (before : List Line) (stage : Stage) → Stands before stage → Begins (length old) before
      → (at : Position) → length (flat_map written ls) ≤ n → Begins (length old) (before ++ ls) → (set : SetText) → Says (before ++ ls) set
      → lines n (state_after old before stage) (place (flat_map written ls) at) ≡ record { answer = Ok set; tiles = laid (tiles_in (before ++ ls)) old }
  unfolding lines
  takes [] zero before stage s begins at enough all set says =
      rw (append-nil, said_only before stage s at set (subst (λ (ls : List Line). Says ls set) (append-nil before) says))
  takes [] (suc n) before stage s begins at enough all set says =
      rw (append-nil, said_only before stage s at set (subst (λ (ls : List Line). Says ls set) (append-nil before) says))
  takes (l ∷ ls) zero before stage s begins at enough all set says =
      absurd (omega (arith, length-append (written l) (flat_map written ls), written_some l))
  takes (l ∷ ls) (suc n) before stage s begins at enough all set says =
      let long = length-append (written l) (flat_map written ls) in
      let good = all_at Good before l ls all.good in
      let takes' = turn_takes before stage s l ls all.turn in
      let count = tiles_front before l ls in
      let e = line_taken old before begins (flat_map written ls) at stage s l good takes' (omega (arith, all.within)) (omega (arith, all.few)) in
      let same = append_assoc before (l ∷ []) ls in
      let begins' = begins_next (length old) before stage l begins s good takes' (omega (arith, all.within)) (omega (arith, all.few)) in
      let more = takes ls n (before ++ l ∷ []) (next stage l) (stands_next before stage l s takes') begins' (below at)
      (omega (arith, written_some l)) (rw same all) set (rw same says) in
      rw (some_left (written l ++ flat_map written ls) (omega (arith, written_some l)), e) (rw same at more)

begins_none : (old : List Tile) → Begins (length old) []
begins_none old = record { good = tt; turn = inl refl; within = omega arith; few = omega arith }

-- a set text is taken
whole_taken : (bs : List ℕ) (old : List Tile) (set : SetText) (ts : List Tile) → IsSetText bs (length old) set ts
    → lines (length bs) (record { stage = Empty; tiles = old }) (start_of bs) ≡ record { answer = Ok set; tiles = laid ts old }
whole_taken bs old set ts is =
    let e = takes old is.lines (length bs) [] Empty (refl, refl) (begins_none old) (start_of bs).at
    (omega (arith, ap length is.bytes)) is.begins set is.says in
    rw is.tiles
    (subst (λ (x : List ℕ). lines (length bs) (record { stage = Empty; tiles = old }) (start_of x)
    ≡ record { answer = Ok set; tiles = laid (tiles_in is.lines) old }) (sym is.bytes) e)

law_short : (bs : List ℕ) (old : List Tile) → length bs ≤ 65535 → Law bs old (set_text bs old).answer (set_text bs old).tiles
law_short bs old fits =
    rw (le-leb (length bs) 65535 fits) (record {
      takes = λ set ts is. let e = whole_taken bs old set ts is in (ap (λ (o : Outcome). o.answer) e, ap (λ (o : Outcome). o.tiles) e);
      told = told bs old fits (length bs) [] Empty (refl, refl) (begins_none old) bs (omega arith) refl;
    })

law_long : (bs : List ℕ) (old : List Tile) → 65535 < length bs → Law bs old (set_text bs old).answer (set_text bs old).tiles
law_long bs old long =
    rw (lt-leb (length bs) 65535 long) (record {
      takes = λ set ts is. absurd (omega (arith, is.short));
      told = (long, refl);
    })

-- what reading a text comes to is so
pub law : (bs : List ℕ) (old : List Tile) → Law bs old (set_text bs old).answer (set_text bs old).tiles
law bs old = elim (cases_lt 65535 (length bs)) [ inl long ↦ law_long bs old long | inr fits ↦ law_short bs old fits ]

pub law_of : (bs : List ℕ) (old : List Tile) (r : Result SetText TextFault) (left : List Tile)
    → r ≡ (set_text bs old).answer → left ≡ (set_text bs old).tiles → Law bs old r left
law_of bs old r left answers fills = rw (answers, fills) (law bs old)
