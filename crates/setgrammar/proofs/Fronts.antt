-- Where a number ends: two texts that begin with a number. Assumes nothing.
use Rattle.std.proofs.Common.{◌≡◌, ℕ, ◌+◌, ◌≤◌, List, [], ◌∷◌, ◌++◌, decimal, subst, arith}
use Rattle.setgrammar.proofs.Shapes.{Shape, one, two, three, shape}

-- a number ends before these bytes: they begin with no digit, or it is 0, or it has three digits
abbrev pub Stops : ℕ → List ℕ → Type 0
Stops n [] = Unit {0}
Stops n (c ∷ cs) = 48 ≤ c → c ≤ 57 → 1 ≤ n → 100 ≤ n

same_shape : (m n : ℕ) (x y : List ℕ) → Shape m → Shape n → Stops m x → Stops n y → decimal m ++ x ≡ decimal n ++ y
    → (m ≡ n) × (x ≡ y)
same_shape m n x y (one h p) (one k q) s t e =
    let f = rw (p, q) at e in
    let g : 48 + m ≡ 48 + n = cc in
    (omega arith, cc)
same_shape m n x y (one h p) (two a b is l i j q) s t e =
    let f = rw (p, q) at e in
    let g : 48 + m ≡ 48 + a = cc in
    let w : x ≡ (48 + b) ∷ y = cc in
    absurd (omega (arith, subst (Stops m) w s (omega arith) (omega arith) (omega arith)))
same_shape m n x y (one h p) (three a b c is l i j k q) s t e =
    let f = rw (p, q) at e in
    let g : 48 + m ≡ 48 + a = cc in
    let w : x ≡ (48 + b) ∷ (48 + c) ∷ y = cc in
    absurd (omega (arith, subst (Stops m) w s (omega arith) (omega arith) (omega arith)))
same_shape m n x y (two a b is l i j p) (one h q) s t e =
    let f = rw (p, q) at e in
    let g : 48 + a ≡ 48 + n = cc in
    let w : y ≡ (48 + b) ∷ x = cc in
    absurd (omega (arith, subst (Stops n) w t (omega arith) (omega arith) (omega arith)))
same_shape m n x y (two a b is l i j p) (two a' b' is' l' i' j' q) s t e =
    let f = rw (p, q) at e in
    let g : 48 + a ≡ 48 + a' = cc in
    let g' : 48 + b ≡ 48 + b' = cc in
    (omega arith, cc)
same_shape m n x y (two a b is l i j p) (three a' b' c' is' l' i' j' k' q) s t e =
    let f = rw (p, q) at e in
    let w : x ≡ (48 + c') ∷ y = cc in
    absurd (omega (arith, subst (Stops m) w s (omega arith) (omega arith) (omega arith)))
same_shape m n x y (three a b c is l i j k p) (one h q) s t e =
    let f = rw (p, q) at e in
    let g : 48 + a ≡ 48 + n = cc in
    let w : y ≡ (48 + b) ∷ (48 + c) ∷ x = cc in
    absurd (omega (arith, subst (Stops n) w t (omega arith) (omega arith) (omega arith)))
same_shape m n x y (three a b c is l i j k p) (two a' b' is' l' i' j' q) s t e =
    let f = rw (p, q) at e in
    let w : y ≡ (48 + c) ∷ x = cc in
    absurd (omega (arith, subst (Stops n) w t (omega arith) (omega arith) (omega arith)))
same_shape m n x y (three a b c is l i j k p) (three a' b' c' is' l' i' j' k' q) s t e =
    let f = rw (p, q) at e in
    let g : 48 + a ≡ 48 + a' = cc in
    let g' : 48 + b ≡ 48 + b' = cc in
    let g'' : 48 + c ≡ 48 + c' = cc in
    (omega arith, cc)

-- a text begins with one number alone
pub same_number : (m n : ℕ) (x y : List ℕ) → m ≤ 999 → n ≤ 999 → Stops m x → Stops n y
    → decimal m ++ x ≡ decimal n ++ y → (m ≡ n) × (x ≡ y)
same_number m n x y h k s t e = same_shape m n x y (shape m h) (shape n k) s t e

front_shape : (m n d : ℕ) (x y : List ℕ) → Shape m → Shape n → (48 ≤ d → d ≤ 57 → ⊥) → decimal m ++ d ∷ x ≡ decimal n ++ y
    → (n ≤ m) × (n ≡ 0 → m ≡ 0)
front_shape m n d x y (one h p) (one k q) s e =
    let f = rw (p, q) at e in
    let g : 48 + m ≡ 48 + n = cc in
    (omega arith, λ z. omega arith)
front_shape m n d x y (one h p) (two a b is l i j q) s e =
    let f = rw (p, q) at e in
    let g : d ≡ 48 + b = cc in
    absurd (s (omega arith) (omega arith))
front_shape m n d x y (one h p) (three a b c is l i j k q) s e =
    let f = rw (p, q) at e in
    let g : d ≡ 48 + b = cc in
    absurd (s (omega arith) (omega arith))
front_shape m n d x y (two a b is l i j p) (one h q) s e =
    let f = rw (p, q) at e in
    let g : 48 + a ≡ 48 + n = cc in
    (omega arith, λ z. omega arith)
front_shape m n d x y (two a b is l i j p) (two a' b' is' l' i' j' q) s e =
    let f = rw (p, q) at e in
    let g : 48 + a ≡ 48 + a' = cc in
    let g' : 48 + b ≡ 48 + b' = cc in
    (omega arith, λ z. omega arith)
front_shape m n d x y (two a b is l i j p) (three a' b' c' is' l' i' j' k' q) s e =
    let f = rw (p, q) at e in
    let g : d ≡ 48 + c' = cc in
    absurd (s (omega arith) (omega arith))
front_shape m n d x y (three a b c is l i j k p) (one h q) s e =
    let f = rw (p, q) at e in
    let g : 48 + a ≡ 48 + n = cc in
    (omega arith, λ z. omega arith)
front_shape m n d x y (three a b c is l i j k p) (two a' b' is' l' i' j' q) s e =
    let f = rw (p, q) at e in
    let g : 48 + a ≡ 48 + a' = cc in
    let g' : 48 + b ≡ 48 + b' = cc in
    (omega arith, λ z. omega arith)
front_shape m n d x y (three a b c is l i j k p) (three a' b' c' is' l' i' j' k' q) s e =
    let f = rw (p, q) at e in
    let g : 48 + a ≡ 48 + a' = cc in
    let g' : 48 + b ≡ 48 + b' = cc in
    let g'' : 48 + c ≡ 48 + c' = cc in
    (omega arith, λ z. omega arith)

-- a number whose digits are the first digits of another's is not larger, and 0 is the first of 0 alone
pub front_number : (m n d : ℕ) (x y : List ℕ) → m ≤ 999 → n ≤ 999 → (48 ≤ d → d ≤ 57 → ⊥)
    → decimal m ++ d ∷ x ≡ decimal n ++ y → (n ≤ m) × (n ≡ 0 → m ≡ 0)
front_number m n d x y h k s e = front_shape m n d x y (shape m h) (shape n k) s e
