-- A list that is gone through with a number, from 1 on. Assumes nothing.
use Rattle.std.proofs.Common.{◌≡◌, ℕ, ◌+◌, ◌-◌, ◌<◌, ◌≤◌, ◌⊎◌, List, ◌∷◌, length, get_or, drop, sym, refl, ap, ◌∙◌, inl, inr, add-zero, arith}
use Rattle.std.proofs.lemmas.List.{length-drop, get_or-drop, drop-drop}

-- so many items are passed, n is the number of the next, and those from it on are left
pub record Numbered {X : Type 0} (xs : List X) (n : ℕ) (left : List X) : Type 0 where
  pub passed : ℕ
  pub next : n ≡ passed + 1
  pub within : passed ≤ length xs
  pub rest : left ≡ drop passed xs

abbrev pub none_passed : {X : Type 0} (xs : List X) → Numbered xs 1 xs
none_passed xs = record { passed = 0; next = refl; within = omega arith; rest = refl }

module _ {X : Type 0} {xs : List X} {n : ℕ} {left : List X} (so : Numbered xs n left) where
  module _ {x : X} {more : List X} (at : left ≡ x ∷ more) where
    pub inside : so.passed < length xs
    inside = omega (arith, length-drop so.passed xs, ap length (sym so.rest ∙ at))

    pub here : (d : X) → x ≡ get_or xs so.passed d
    here d = sym (ap (λ ys. get_or ys 0 d) (sym so.rest ∙ at)) ∙ get_or-drop so.passed xs 0 d ∙ ap (λ j. get_or xs j d) (add-zero so.passed)

    abbrev pub more_passed : Numbered xs (n + 1) more
    more_passed = record {
      passed = so.passed + 1;
      next = ap (λ k. k + 1) so.next;
      within = omega (arith, inside);
      rest = sym (ap (drop 1) (sym so.rest ∙ at)) ∙ drop-drop 1 so.passed xs;
    }

  -- the numbers or the items are at their end
  pub all_passed : (top : ℕ) → length xs + 1 < top → (top - n ≡ 0) ⊎ (length left ≡ 0) → so.passed ≡ length xs
  all_passed top few (inl over) = absurd (omega (arith, few, so.next, so.within))
  all_passed top few (inr none) = omega (arith, so.within, ap length so.rest, length-drop so.passed xs)
