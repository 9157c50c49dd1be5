-- A line leaves less of the text than there was. Assumes nothing.
use Rattle.std.proofs.Common.{◌≡◌, ℕ, suc, ◌-◌, ◌<◌, ◌≤◌, Bool, true, false, cond, ◌||◌, eqb, leb, List, [], ◌∷◌, length, Ok, Err, sym, ap, subst, arith}
use Rattle.std.proofs.lemmas.List.{length-append}
use Rattle.bottoms.specs.declared.tile.Tile.{Tile}
use Rattle.setgrammar.proofs.Fields as numbers
use Rattle.setgrammar.proofs.Fields.{Sane, Fields, fields_cases}
use Rattle.setgrammar.proofs.Numbers.{place}
use Rattle.setgrammar.proofs.Remarks as remarks
use Rattle.setgrammar.proofs.Remarks.{Remark, remark_cases}
use Rattle.setgrammar.proofs.Sorts.{piles, rows, tiles}
use Rattle.setgrammar.specs.Grammar.{fields}
use Rattle.setgrammar.specs.Items.{note_at, note_from, fields_at}
use Rattle.setgrammar.specs.Lines.{State, kind_at, number_line_at, colours, tile_line_at, tile_at, turn_at, line_at}
use Rattle.setgrammar.specs.Place.{Place, Read, ◌then◌, next_byte, byte_at}
use Rattle.setgrammar.specs.declared.fault.Position.{Position}
use Rattle.setgrammar.specs.declared.line.LineKind.{LineKind}
use Rattle.setgrammar.specs.declared.line.LineKind.TheVariants as kind
use Rattle.setgrammar.specs.declared.line.Stage.{Stage}
use Rattle.setgrammar.specs.declared.line.Stage.TheVariants.{Empty, Piled, Rowed, Tiled}

-- a reading leaves at most n bytes
abbrev Within : {X : Type 0} → ℕ → Read X → Type 0
Within n (Ok got) = length got.1.rest ≤ n
Within n (Err f) = Unit {0}

module _ (n : ℕ) where
  within_then : {X Y : Type 0} (r : Read X) (next : X → Place → Read Y)
      → Within n r → ((x : X) (q : Place) → length q.rest ≤ n → Within n (next x q)) → Within n (r then next)
  within_then (Ok got) next w k = k got.0 got.1 w
  within_then (Err f) next w k = tt

  within_cond : {X : Type 0} (b : Bool) (r s : Read X) → Within n r → Within n s → Within n (cond b r s)
  within_cond true r s v w = v
  within_cond false r s v w = w

  within_byte : (bs : List ℕ) (at : Position) → length bs ≤ suc n → Within n (next_byte bs at)
  within_byte [] at h = tt
  within_byte (b ∷ bs) at h = omega arith

  after_note : (bs : List ℕ) (at : Position) → length bs ≤ n → Remark bs at → Within n (note_from bs at)
  after_note bs at h (remarks.ends none e) = rw e tt
  after_note bs at h (remarks.whole said rest none is e) = rw e (omega (arith, ap length is, length-append said (10 ∷ rest)))

  after_fields : (ranges : List (ℕ × ℕ)) (bs : List ℕ) (at : Position) → length bs ≤ n → Fields ranges bs at
      → Within n (fields_at ranges (place bs at))
  after_fields ranges bs at h (numbers.ends ns more in' begins some e) = rw e tt
  after_fields ranges bs at h (numbers.other head b rest is ns more in' begins some none e) = rw e tt
  after_fields ranges bs at h (numbers.outside head front ends m rest short is ns more in' begins some none e) = rw e tt
  after_fields ranges bs at h (numbers.whole ns rest in' is e) = rw e (omega (arith, ap length is, length-append (fields ns) rest))

  within_fields : (ranges : List (ℕ × ℕ)) → Sane ranges → (p : Place) → length p.rest ≤ n → Within n (fields_at ranges p)
  within_fields ranges sane p h = after_fields ranges p.rest p.at h (fields_cases ranges sane p.rest p.at)

  within_number_line : (low high : ℕ) → Sane ((low, high) ∷ []) → (p : Place) → length p.rest ≤ n
      → Within n (number_line_at low high p)
  within_number_line low high sane p h =
      within_then (fields_at ((low, high) ∷ []) p) _ (within_fields ((low, high) ∷ []) sane p h) (λ _ q k. k)

  within_tile : (pile count : ℕ) (ts : List Tile) (start : Position) (p : Place) → length p.rest ≤ n
      → Within n (tile_at pile count ts start p)
  within_tile pile count ts start p h =
      let line = within_then (fields_at colours p) _ (within_fields colours tiles.sane p h) (λ _ q k. k) in
      within_cond (leb (length ts) count || leb 1024 count) _ _ tt (within_then (tile_line_at p) _ line (λ _ q k. k))

  within_turn : (kind : LineKind) (stage : Stage) (ts : List Tile) (start : Position) (p : Place) → length p.rest ≤ n
      → Within n (turn_at kind stage ts start p)
  within_turn kind.Blank stage ts start p h = h
  within_turn kind.Note stage ts start p h =
      within_then (note_at p) _ (after_note p.rest p.at h (remark_cases p.rest p.at)) (λ _ q k. k)
  within_turn kind.Pile Empty ts start p h =
      within_then (number_line_at 1 6 p) _ (within_number_line 1 6 piles.sane p h) (λ _ q k. k)
  within_turn kind.Pile (Piled pile) ts start p h = tt
  within_turn kind.Pile (Rowed pile row) ts start p h = tt
  within_turn kind.Pile (Tiled pile count) ts start p h = tt
  within_turn kind.Row Empty ts start p h = tt
  within_turn kind.Row (Piled pile) ts start p h =
      within_then (number_line_at 1 8 p) _ (within_number_line 1 8 rows.sane p h) (λ _ q k. k)
  within_turn kind.Row (Rowed pile row) ts start p h = tt
  within_turn kind.Row (Tiled pile count) ts start p h = tt
  within_turn kind.Tile Empty ts start p h = tt
  within_turn kind.Tile (Piled pile) ts start p h = within_tile pile 0 ts start p h
  within_turn kind.Tile (Rowed pile row) ts start p h = tt
  within_turn kind.Tile (Tiled pile count) ts start p h = within_tile pile count ts start p h

  within_kind : (p : Place) → length p.rest ≤ suc n → Within n (kind_at p)
  within_kind p h =
      within_then (byte_at p) _ (within_byte p.rest p.at h) (λ b q k.
      within_cond (eqb b 112) _ _ k (within_cond (eqb b 102) _ _ k (within_cond (eqb b 116) _ _ k
      (within_cond (eqb b 35) _ _ k (within_cond (eqb b 10) _ _ k tt)))))

  -- a line takes at least a byte
  within_line : (s : State) (p : Place) → length p.rest ≤ suc n → Within n (line_at s p)
  within_line s p h =
      within_then (kind_at p) _ (within_kind p h) (λ kind q k. within_turn kind s.stage s.tiles p.at q k)

pub line_shrinks : (s t : State) (p q : Place) → 0 < length p.rest → Ok (t, q) ≡ line_at s p
    → length q.rest < length p.rest
line_shrinks s t p q some is =
    let within = subst (Within (length p.rest - 1)) (sym is) (within_line (length p.rest - 1) s p (omega arith)) in
    omega arith
