-- The tests of a torus pass exactly where it is one. Assumes nothing.
use Rattle.std.proofs.Common.{◌≡◌, ℕ, ◌+◌, ◌-◌, ◌*◌, ◌/◌, ◌%◌, ◌<◌, ◌≤◌, ◌↔◌, List, length, get_or, Ok, Decides, sym, ap, ◌∙◌, subst, inl, inr, mul_comm, add-mul, one-mul, zero-mul, arith}
use Rattle.std.proofs.lemmas.Nat.{div-add-mod', div_below, mod_below, mul-add-lt}
use Rattle.std.proofs.lemmas.Bool.{cases_lt, le-ltb, lt-ltb}
use Rattle.papers.specs.First.{must, first}
use Rattle.papers.proofs.FirstLaws.{first_passes, both_pass, pass_both}
use Rattle.transducers.specs.Meaning.{Meaning}
use Rattle.rules.specs.Rows.{cell}
use Rattle.rules.specs.Torus.{above, fair_shape, meets_above, rows, stacks, torus, torus_row, width}
use Rattle.laws.specs.Walking.{TorusOn, Under, next_row}
use Rattle.laws.proofs.RowLaws.{closed_law, must_true, true_must}
use Rattle.laws.proofs.TorusTests.{shape_decides, under_decides}
use Rattle.rules.proofs.Sides.{sides}

-- a row lies within the cells
pub row_fits : (w r y : ℕ) → 1 ≤ w → y < r → y * w + w ≤ w * r
row_fits w r y some within = omega (arith, mul-add-lt y w (w - 1) r within (omega arith))

up_one : (w y : ℕ) → (y + 1) * w ≡ y * w + w
up_one w y = add-mul y 1 w ∙ ap (λ n. y * w + n) (one-mul w)

-- the place above column x of row y
above_cell : (xs : List ℕ) (x y : ℕ) → x < width xs → y < rows xs → above xs (y * width xs + x) ≡ next_row (rows xs) y * width xs + x
above_cell xs x y column within =
    elim (cases_lt (y + 1) r) [
      | inl lt ↦
          let fits : (y + 1) * w + w ≤ w * r = row_fits w r (y + 1) (omega arith) lt in
          let inner : y * w + x + w < w * r = omega (arith, up_one w y) in
          rw (lt-ltb _ _ inner, lt-ltb _ _ lt) (omega (arith, up_one w y))
      | inr ge ↦
          let top : y + 1 ≡ r = omega arith in
          let all : w * r ≡ y * w + w = mul_comm w r ∙ ap (λ n. n * w) (sym top) ∙ up_one w y in
          rw (le-ltb (y * w + x + w) (w * r) (omega arith), le-ltb _ _ ge) (omega (arith, zero-mul w))
    ]
  where
    w : ℕ
    w = width xs

    r : ℕ
    r = rows xs

module _ (m : Meaning) (xs : List ℕ) where
  -- the test of the cell in column x of row y, and the one above it
  under_at : (x y : ℕ) → x < width xs → y < rows xs → Decides (stacks (cell m xs (2 + (y * width xs + x))) (cell m xs (2 + above xs (y * width xs + x)))) (Under m (get_or xs (2 + y * width xs + x) 0) (get_or xs (2 + next_row (rows xs) y * width xs + x) 0))
  under_at x y column within =
      let low : 2 + (y * width xs + x) ≡ 2 + y * width xs + x = omega arith in
      let high : 2 + above xs (y * width xs + x) ≡ 2 + next_row (rows xs) y * width xs + x = omega (arith, above_cell xs x y column within) in
      rw (high, low) (under_decides m _ _)

  torus_passes : torus m xs ≡ Ok tt → TorusOn m xs
  torus_passes pass =
      let a = both_pass (must (fair_shape xs) _) _ pass in
      let b = both_pass (first (torus_row m xs) (rows xs)) _ a.1 in
      let s = sides xs (must_true _ _ a.0) in
      record {
        some_column = s.some_column;
        some_row = s.some_row;
        cells = s.cells;
        closed = λ y within.
            let fits = row_fits (width xs) (rows xs) y s.some_column within in
            (closed_law m xs (2 + y * width xs) (width xs) (omega (arith, s.cells)) s.some_column).0
            ((first_passes (torus_row m xs) (rows xs)).0 b.0 y within);
        stacked = λ x y column within.
            let i : ℕ = y * width xs + x in
            let inside : i < width xs * rows xs = mul-add-lt y (width xs) x (rows xs) within column in
            let test = (first_passes (meets_above m xs) (width xs * rows xs)).0 b.1 i inside in
            (under_at x y column within).0 (must_true _ _ test);
      }

  module _ (t : TorusOn m xs) where
    row_passes : (y : ℕ) → y < rows xs → torus_row m xs y ≡ Ok tt
    row_passes y within =
        let fits = row_fits (width xs) (rows xs) y t.some_column within in
        (closed_law m xs (2 + y * width xs) (width xs) (omega (arith, t.cells)) t.some_column).1 (t.closed y within)

    meet_at : (x y : ℕ) → x < width xs → y < rows xs → meets_above m xs (y * width xs + x) ≡ Ok tt
    meet_at x y column within = true_must _ _ ((under_at x y column within).1 (t.stacked x y column within))

    meet_passes : (i : ℕ) → i < width xs * rows xs → meets_above m xs i ≡ Ok tt
    meet_passes i inside =
        let y : ℕ = i / width xs in
        let x : ℕ = i % width xs in
        let some : 0 < width xs = t.some_column in
        let within : y < rows xs = div_below i (width xs) (rows xs) some (rw (mul_comm (width xs) (rows xs)) at inside) in
        subst (λ k. meets_above m xs k ≡ Ok tt) (div-add-mod' i (width xs)) (meet_at x y (mod_below i (width xs) some) within)

  pub torus_law : length xs ≤ 8064 → (torus m xs ≡ Ok tt) ↔ TorusOn m xs
  torus_law few = (
    torus_passes,
    λ t.
        pass_both _ _ (true_must _ _ ((shape_decides xs few).1 (record { some_column = t.some_column; some_row = t.some_row; all_cells = t.cells })))
        (pass_both _ _
        ((first_passes (torus_row m xs) (rows xs)).1 (row_passes t))
        ((first_passes (meets_above m xs) (width xs * rows xs)).1 (meet_passes t))),
  )
