-- What reading a number comes to. Assumes nothing.
use Rattle.std.proofs.Common.{◌≡◌, ℕ, ◌+◌, ◌-◌, ◌*◌, ◌≤◌, true, false, ◌&&◌, ltb, leb, List, [], ◌∷◌, ◌++◌, length, Ok, Err, decimal, refl, ap, ◌∙◌, inl, inr, arith}
use Rattle.std.proofs.lemmas.Bool.{cases_Bool, and_parts, ltb-true, ne_eqb, and_right}
use Rattle.std.proofs.lemmas.Bool.Decides.{nat_tests}
use Rattle.setgrammar.proofs.Fronts.{Stops, same_number}
use Rattle.setgrammar.proofs.Shapes.{one, two, three, shape, decimal_one, decimal_two, decimal_three}
use Rattle.setgrammar.specs.Items.{is_digit, digit_at, more_at, number_at}
use Rattle.setgrammar.specs.Place.{Place, ◌then◌}
use Rattle.setgrammar.specs.declared.fault.Position.{Position}
use Rattle.setgrammar.specs.declared.fault.TextFault.TheVariants.{Byte, Range, Ends}

abbrev pub place : List ℕ → Position → Place
place bs at = record { rest = bs; at = at }

-- so many columns on
abbrev pub along : Position → ℕ → Position
along at k = record { line = at.line; column = at.column + k }

pub along_along : (at : Position) (i j k : ℕ) → i + j ≡ k → along (along at i) j ≡ along at k
along_along at i j k e = ap (λ (c : ℕ). record { line = at.line; column = c }) (omega arith)

digit_true : (b : ℕ) → is_digit b ≡ true → (48 ≤ b) × (b ≤ 57)
digit_true b e = (grind arith, grind arith)

digit_false : (b : ℕ) → is_digit b ≡ false → 48 ≤ b → b ≤ 57 → ⊥
digit_false b e h k = grind (arith, nat_tests)

-- the next byte is no digit, or the text ends
abbrev NoDigit : List ℕ → Type 0
NoDigit [] = Unit {0}
NoDigit (c ∷ cs) = 48 ≤ c → c ≤ 57 → ⊥

data Digit (bs : List ℕ) (at : Position) : Type 0 where
  ends : bs ≡ [] → digit_at (place bs at) ≡ Err (Ends at) → Digit bs at
  other : (b : ℕ) (rest : List ℕ) → bs ≡ b ∷ rest → (48 ≤ b → b ≤ 57 → ⊥) → digit_at (place bs at) ≡ Err (Byte at)
      → Digit bs at
  digit : (d : ℕ) (rest : List ℕ) → bs ≡ (48 + d) ∷ rest → d ≤ 9 → digit_at (place bs at) ≡ Ok (d, place rest (along at 1))
      → Digit bs at

digit_cases : (bs : List ℕ) (at : Position) → Digit bs at
digit_cases [] at = ends refl refl
digit_cases (b ∷ rest) at =
    elim (cases_Bool (is_digit b)) [
      | inl is ↦
          let h = digit_true b is in
          let other-than-feed : b ≡ 10 → ⊥ = λ e. omega arith in
          digit (b - 48) rest (ap (λ (c : ℕ). c ∷ rest) (omega arith)) (omega arith)
          (rw (is, ne_eqb b 10 other-than-feed))
      | inr isnt ↦ other b rest refl (digit_false b isnt) (rw isnt)
    ]

data More (n : ℕ) (bs : List ℕ) (at : Position) : Type 0 where
  goes : (d : ℕ) (rest : List ℕ) → bs ≡ (48 + d) ∷ rest → d ≤ 9 → 1 ≤ n
      → more_at n (place bs at) ≡ Ok (10 * n + d, place rest (along at 1)) → More n bs at
  stops : (1 ≤ n → NoDigit bs) → more_at n (place bs at) ≡ Ok (n, place bs at) → More n bs at

more_cases : (n : ℕ) (bs : List ℕ) (at : Position) → More n bs at
more_cases n [] at = stops (λ _. tt) (rw (and_right (ltb 0 n) false refl))
more_cases n (b ∷ rest) at =
    elim (cases_Bool (ltb 0 n && is_digit b)) [
      | inl is ↦
          let p = and_parts (ltb 0 n) (is_digit b) is in
          let h = digit_true b p.1 in
          let other-than-feed : b ≡ 10 → ⊥ = λ e. omega arith in
          goes (b - 48) rest (ap (λ (c : ℕ). c ∷ rest) (omega arith)) (omega arith) (omega (arith, ltb-true 0 n p.0))
          (rw (p.0, p.1, ne_eqb b 10 other-than-feed))
      | inr isnt ↦
          stops (λ some. digit_false b (grind arith)) (rw isnt)
    ]

data Numeral (bs : List ℕ) (at : Position) : Type 0 where
  ends : bs ≡ [] → (digit_at (place bs at) then more_at then more_at) ≡ Err (Ends at) → Numeral bs at
  other : (b : ℕ) (rest : List ℕ) → bs ≡ b ∷ rest → (48 ≤ b → b ≤ 57 → ⊥)
      → (digit_at (place bs at) then more_at then more_at) ≡ Err (Byte at) → Numeral bs at
  numeral : (n : ℕ) (rest : List ℕ) → n ≤ 999 → bs ≡ decimal n ++ rest → Stops n rest
      → (digit_at (place bs at) then more_at then more_at) ≡ Ok (n, place rest (along at (length (decimal n)))) → Numeral bs at

-- no digit comes, so the number stops
no_digit_stops : (n : ℕ) (rest : List ℕ) → (1 ≤ n → NoDigit rest) → Stops n rest
no_digit_stops n [] s = tt
no_digit_stops n (c ∷ cs) s = λ h k some. absurd (s some h k)

long_stops : (n : ℕ) (rest : List ℕ) → 100 ≤ n → Stops n rest
long_stops n [] h = tt
long_stops n (c ∷ cs) h = λ _ _ _. h

numeral_after : (bs : List ℕ) (at : Position) → Digit bs at → Numeral bs at
numeral_after bs at (ends is e) = ends is (rw e)
numeral_after bs at (other b rest is no_digit e) = other b rest is no_digit (rw e)
numeral_after bs at (digit a rest is small e) =
    elim (more_cases a rest (along at 1)) [
      | stops s e' ↦
          let f = decimal_one a small in
          numeral a rest (omega arith) (rw f is) (no_digit_stops a rest s) (rw (e, e', e', f))
      | goes b rest' is' small' some e' ↦
          elim (more_cases (10 * a + b) rest' (along (along at 1) 1)) [
            | stops s e'' ↦
                let f = decimal_two a b some small small' in
                let g = along_along at 1 1 2 (omega arith) in
                numeral (10 * a + b) rest' (omega arith) (rw (f, ← is') is) (no_digit_stops (10 * a + b) rest' s) (rw (e, e', e'', f, ← g))
            | goes c rest'' is'' small'' some'' e'' ↦
                let f = decimal_three a b c some small small' small'' in
                let g : along (along (along at 1) 1) 1 ≡ along at 3 = ap (λ (c : ℕ). record { line = at.line; column = c }) (omega arith) in
                numeral (10 * (10 * a + b) + c) rest'' (omega arith) (rw (f, ← is'', ← is') is)
                (long_stops (10 * (10 * a + b) + c) rest'' (omega arith)) (rw (e, e', e'', f, ← g))
          ]
    ]

-- what reading a number from low to high comes to
pub data Number (low high : ℕ) (bs : List ℕ) (at : Position) : Type 0 where
  ends : bs ≡ [] → number_at low high (place bs at) ≡ Err (Ends at) → Number low high bs at
  other : (b : ℕ) (rest : List ℕ) → bs ≡ b ∷ rest → (48 ≤ b → b ≤ 57 → ⊥) → number_at low high (place bs at) ≡ Err (Byte at)
      → Number low high bs at
  outside : (n : ℕ) (rest : List ℕ) → n ≤ 999 → bs ≡ decimal n ++ rest → Stops n rest → (low ≤ n → n ≤ high → ⊥)
      → number_at low high (place bs at) ≡ Err (Range at) → Number low high bs at
  number : (n : ℕ) (rest : List ℕ) → n ≤ 999 → bs ≡ decimal n ++ rest → Stops n rest → low ≤ n → n ≤ high
      → number_at low high (place bs at) ≡ Ok (n, place rest (along at (length (decimal n)))) → Number low high bs at

number_after : (low high : ℕ) (bs : List ℕ) (at : Position) → Numeral bs at → Number low high bs at
number_after low high bs at (ends is e) = ends is (rw e)
number_after low high bs at (other b rest is no_digit e) = other b rest is no_digit (rw e)
number_after low high bs at (numeral n rest short is s e) =
    elim (cases_Bool (leb low n && leb n high)) [
      | inl fits ↦
          number n rest short is s (grind arith) (grind arith) (rw (e, fits))
      | inr past ↦ outside n rest short is s (λ h k. grind (arith, nat_tests)) (rw (e, past))
    ]

pub number_cases : (low high : ℕ) (bs : List ℕ) (at : Position) → Number low high bs at
number_cases low high bs at = number_after low high bs at (numeral_after bs at (digit_cases bs at))

-- the first digit
pub digit_first : (n : ℕ) → n ≤ 999 → (d : ℕ) × (tail : List ℕ) × (d ≤ 9) × (decimal n ≡ (48 + d) ∷ tail)
digit_first n h =
    elim (shape n h) [
      | one k e ↦ (n, [], k, e)
      | two a b is l i j e ↦ (a, (48 + b) ∷ [], i, e)
      | three a b c is l i j k e ↦ (a, (48 + b) ∷ (48 + c) ∷ [], i, e)
    ]

-- a number in its range is read
pub number_taken : (low high n : ℕ) (rest : List ℕ) (at : Position) → n ≤ 999 → low ≤ n → n ≤ high → Stops n rest
    → number_at low high (place (decimal n ++ rest) at) ≡ Ok (n, place rest (along at (length (decimal n))))
number_taken low high n rest at short above below halts =
    elim (number_cases low high (decimal n ++ rest) at) [
      | ends is e ↦ let f = digit_first n short in absurd (grind (arith, rw f.3 at is))
      | other b rest' is apart e ↦
          let f = digit_first n short in
          let g = rw f.3 at is in
          let h : 48 + f.0 ≡ b = cc in
          absurd (apart (omega (arith, f.2)) (omega (arith, f.2)))
      | outside m rest' short' is halts' out e ↦
          let same = same_number n m rest rest' short short' halts halts' is in
          absurd (out (omega (arith, same.0)) (omega (arith, same.0)))
      | number m rest' short' is halts' above' below' e ↦
          let same = same_number n m rest rest' short short' halts halts' is in
          e ∙ rw (same.0, same.1)
    ]
