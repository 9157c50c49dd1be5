-- The sides of a torus. Assumes nothing.
use Rattle.std.proofs.Common.{◌≡◌, ℕ, ◌+◌, ◌*◌, ◌≤◌, true, List, length, arith}
use Rattle.rules.specs.Torus.{fair_shape, rows, width}

-- what a fair shape has
pub record Sides (xs : List ℕ) : Type 0 where
  pub some_column : 1 ≤ width xs
  pub few_columns : width xs ≤ 8062
  pub some_row : 1 ≤ rows xs
  pub few_rows : rows xs ≤ 8062
  pub cells : length xs ≡ 2 + width xs * rows xs

pub sides : (xs : List ℕ) → fair_shape xs ≡ true → Sides xs
sides xs fair = record {
  some_column = grind arith;
  few_columns = grind arith;
  some_row = grind arith;
  few_rows = grind arith;
  cells = grind arith;
}
