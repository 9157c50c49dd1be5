-- What reading the numbers of a line comes to. Assumes nothing.
use Rattle.std.proofs.Common.{◌≡◌, ℕ, ◌+◌, ◌<◌, ◌≤◌, List, [], ◌∷◌, ◌++◌, length, Ok, Err, decimal, refl, ap, inl, inr, arith}
use Rattle.std.proofs.lemmas.List.{append_assoc, append-nil, length-append}
use Rattle.std.proofs.lemmas.Bool.{cases_eq, cases_lt, ne_eqb, eq-eqb}
use Rattle.std.specs.List.{AllByRecursion}
use Rattle.setgrammar.proofs.Fronts.{Stops, same_number, front_number}
use Rattle.setgrammar.proofs.Numbers as numbers
use Rattle.setgrammar.proofs.Numbers.{place, along, number_cases, number_taken, digit_first}
use Rattle.setgrammar.specs.Grammar.{fields}
use Rattle.setgrammar.specs.Items.{expect_at, number_at, fields_at}
use Rattle.setgrammar.specs.Place.{after}
use Rattle.setgrammar.specs.declared.fault.Position.{Position}
use Rattle.setgrammar.specs.declared.fault.TextFault.TheVariants.{Byte, Range, Ends}

pub data Expect (due : ℕ) (bs : List ℕ) (at : Position) : Type 0 where
  ends : bs ≡ [] → expect_at due (place bs at) ≡ Err (Ends at) → Expect due bs at
  other : (b : ℕ) (rest : List ℕ) → bs ≡ b ∷ rest → (b ≡ due → ⊥) → expect_at due (place bs at) ≡ Err (Byte at) → Expect due bs at
  found : (rest : List ℕ) → bs ≡ due ∷ rest → expect_at due (place bs at) ≡ Ok (tt, place rest (after at due)) → Expect due bs at

pub expect_cases : (due : ℕ) (bs : List ℕ) (at : Position) → Expect due bs at
expect_cases due [] at = ends refl refl
expect_cases due (b ∷ rest) at =
    elim (cases_eq b due) [
      | inl is ↦ found rest (ap (λ (c : ℕ). c ∷ rest) is) (rw (eq-eqb b due is, is))
      | inr apart ↦ other b rest refl apart (rw (ne_eqb b due apart))
    ]

-- each number in its range
abbrev pub In : List (ℕ × ℕ) → List ℕ → Type 0
In [] [] = Unit {0}
In [] (n ∷ ns) = ⊥
In (r ∷ rs) [] = ⊥
In (r ∷ rs) (n ∷ ns) = ((r.0 ≤ n) × (n ≤ r.1)) × In rs ns

-- as many numbers as ranges, of at most three digits
abbrev pub Shaped : List (ℕ × ℕ) → List ℕ → Type 0
Shaped [] [] = Unit {0}
Shaped [] (n ∷ ns) = ⊥
Shaped (r ∷ rs) [] = ⊥
Shaped (r ∷ rs) (n ∷ ns) = (n ≤ 999) × Shaped rs ns

-- ranges from 0 or 1 to at most 999
abbrev pub Sane : List (ℕ × ℕ) → Type 0
Sane ranges = AllByRecursion (λ r. (r.0 ≤ 1) × (r.0 ≤ r.1) × (r.1 ≤ 999)) ranges

lows : List (ℕ × ℕ) → List ℕ
lows [] = []
lows (r ∷ rs) = r.0 ∷ lows rs

lows_in : (rs : List (ℕ × ℕ)) → Sane rs → In rs (lows rs)
unfolding lows
lows_in [] sane = tt
lows_in (r ∷ rs) sane = ((omega arith, sane.0.1), lows_in rs sane.1)

fields_some : (ns : List ℕ) → 0 < length (fields ns)
fields_some [] = omega arith
fields_some (n ∷ ns) = omega arith

more_some : (n : ℕ) (ns : List ℕ) → 0 < length (decimal n ++ fields ns)
more_some n ns = omega (arith, length-append (decimal n) (fields ns), fields_some ns)

-- no number goes on over a space or a line feed
fields_stop : (n : ℕ) (ns : List ℕ) → Stops n (fields ns)
fields_stop n [] = λ h k some. absurd (omega arith)
fields_stop n (m ∷ ns) = λ h k some. absurd (omega arith)

stops_swap : (n : ℕ) (head x y : List ℕ) → 0 < length head → Stops n (head ++ x) → Stops n (head ++ y)
stops_swap n [] x y some s = absurd (omega arith)
stops_swap n (c ∷ cs) x y some s = s

-- what reading the numbers of a line comes to, by what lines there are
pub data Fields (rs : List (ℕ × ℕ)) (bs : List ℕ) (at : Position) : Type 0 where
  ends : (ns more : List ℕ) → In rs ns → fields ns ≡ bs ++ more → 0 < length more
      → fields_at rs (place bs at) ≡ Err (Ends (along at (length bs))) → Fields rs bs at
  other : (head : List ℕ) (b : ℕ) (rest : List ℕ) → bs ≡ head ++ b ∷ rest
      → (ns more : List ℕ) → In rs ns → fields ns ≡ head ++ more → 0 < length more
      → ((ms tail : List ℕ) → Shaped rs ms → fields ms ≡ head ++ b ∷ tail → ⊥)
      → fields_at rs (place bs at) ≡ Err (Byte (along at (length head))) → Fields rs bs at
  outside : (head front : List ℕ) → head ≡ front ++ 32 ∷ [] → (n : ℕ) (rest : List ℕ) → n ≤ 999
      → bs ≡ head ++ (decimal n ++ rest)
      → (ns more : List ℕ) → In rs ns → fields ns ≡ head ++ more → 0 < length more
      → ((ms tail : List ℕ) → In rs ms → fields ms ≡ head ++ (decimal n ++ tail) → ⊥)
      → fields_at rs (place bs at) ≡ Err (Range (along at (length head))) → Fields rs bs at
  whole : (ns rest : List ℕ) → In rs ns → bs ≡ fields ns ++ rest
      → fields_at rs (place bs at) ≡ Ok (ns, place rest (record { line = at.line + 1; column = 1 })) → Fields rs bs at

along_none : (at : Position) → at ≡ along at 0
along_none at = ap (λ (c : ℕ). record { line = at.line; column = c }) (omega arith)

no_other : (b : ℕ) → (b ≡ 10 → ⊥) → (ms tail : List ℕ) → Shaped [] ms → fields ms ≡ b ∷ tail → ⊥
no_other b apart [] tail shaped e = apart (cc)
no_other b apart (m ∷ ms) tail shaped e = shaped

fields_none : (bs : List ℕ) (at : Position) → Expect 10 bs at → Fields [] bs at
fields_none bs at (ends is e) = ends [] (10 ∷ []) tt (rw is) (omega arith) (rw (e, is, ← along_none at))
fields_none bs at (other b rest is apart e) =
    other [] b rest is [] (10 ∷ []) tt refl (omega arith) (no_other b apart) (rw (e, ← along_none at))
fields_none bs at (found rest is e) = whole [] rest tt is (rw e)

fields_first : (ns : List ℕ) → (d : ℕ) × (tail : List ℕ) × (d ≤ 32) × (fields ns ≡ d ∷ tail)
fields_first [] = (10, [], omega arith, refl)
fields_first (n ∷ ns) = (32, decimal n ++ fields ns, omega arith, refl)

module _ (r : ℕ × ℕ) (rs : List (ℕ × ℕ)) (sane : Sane (r ∷ rs)) where
  no_space : (b : ℕ) → (b ≡ 32 → ⊥) → (ms tail : List ℕ) → Shaped (r ∷ rs) ms → fields ms ≡ b ∷ tail → ⊥
  no_space b apart [] tail shaped e = shaped
  no_space b apart (m ∷ ms) tail shaped e = apart (cc)

  no_digit : (b : ℕ) → (48 ≤ b → b ≤ 57 → ⊥) → (ms tail : List ℕ) → Shaped (r ∷ rs) ms → fields ms ≡ 32 ∷ b ∷ tail → ⊥
  no_digit b apart [] tail shaped e = shaped
  no_digit b apart (m ∷ ms) tail shaped e =
      let f = digit_first m shaped.0 in
      let g = rw f.3 at e in
      let h : 48 + f.0 ≡ b = cc in
      apart (omega (arith, f.2)) (omega (arith, f.2))

  no_number : (n : ℕ) → n ≤ 999 → (r.0 ≤ n → n ≤ r.1 → ⊥) → (ms tail : List ℕ) → In (r ∷ rs) ms
      → fields ms ≡ 32 ∷ (decimal n ++ tail) → ⊥
  no_number n short out [] tail in' e = in'
  no_number n short out (m ∷ ms) tail in' e =
      let f = fields_first ms in
      let g : decimal m ++ fields ms ≡ decimal n ++ tail = cc in
      let h = front_number m n f.0 f.1 tail (omega arith) short (λ i j. omega (arith, f.2)) (rw f.3 at g) in
      let low : r.0 ≤ n =
      elim (cases_lt 0 n) [
        | inl some ↦ omega arith
        | inr none ↦ let zero : n ≡ 0 = omega arith in omega (arith, h.1 zero)
      ] in
      out low (omega arith)

  -- one number more at the front: no line has another byte there, since none has another number
  no_other_after : (n : ℕ) → n ≤ 999 → (head : List ℕ) (b : ℕ) (rest : List ℕ) → Stops n (head ++ b ∷ rest)
      → ((ms tail : List ℕ) → Shaped rs ms → fields ms ≡ head ++ b ∷ tail → ⊥)
      → (ms tail : List ℕ) → Shaped (r ∷ rs) ms → fields ms ≡ (32 ∷ (decimal n ++ head)) ++ b ∷ tail → ⊥
  no_other_after n short head b rest stops none [] tail shaped e = shaped
  no_other_after n short head b rest stops none (m ∷ ms) tail shaped e =
      let f = rw append_assoc at e in
      let g : decimal m ++ fields ms ≡ decimal n ++ (head ++ b ∷ tail) = cc in
      let s = stops_swap n (head ++ b ∷ []) rest tail (simp length-append (omega arith)) (rw append_assoc stops) in
      let same = same_number m n (fields ms) (head ++ b ∷ tail) shaped.0 short (fields_stop m ms) (rw append_assoc at s) g in
      none ms tail shaped.1 same.1

  no_outside_after : (n k : ℕ) → n ≤ 999 → (head : List ℕ) → 0 < length head → (rest : List ℕ) → Stops n (head ++ rest)
      → ((ms tail : List ℕ) → In rs ms → fields ms ≡ head ++ (decimal k ++ tail) → ⊥)
      → (ms tail : List ℕ) → In (r ∷ rs) ms → fields ms ≡ (32 ∷ (decimal n ++ head)) ++ (decimal k ++ tail) → ⊥
  no_outside_after n k short head some rest stops none [] tail in' e = in'
  no_outside_after n k short head some rest stops none (m ∷ ms) tail in' e =
      let f = rw append_assoc at e in
      let g : decimal m ++ fields ms ≡ decimal n ++ (head ++ (decimal k ++ tail)) = cc in
      let s = stops_swap n head rest (decimal k ++ tail) some stops in
      let same = same_number m n (fields ms) (head ++ (decimal k ++ tail)) (omega arith) short (fields_stop m ms) s g in
      none ms tail in'.1 same.1

  -- columns over a space, a number and what stands after it
  over : (at : Position) (n : ℕ) (head : List ℕ)
      → along (along (along at 1) (length (decimal n))) (length head) ≡ along at (length (32 ∷ (decimal n ++ head)))
  over at n head =
      ap (λ (c : ℕ). record { line = at.line; column = c }) (omega (arith, length-append (decimal n) head))

  after_number : (bs : List ℕ) (at : Position) (tail : List ℕ) → bs ≡ 32 ∷ tail
      → expect_at 32 (place bs at) ≡ Ok (tt, place tail (along at 1))
      → (n : ℕ) (rest : List ℕ) → n ≤ 999 → tail ≡ decimal n ++ rest → Stops n rest → r.0 ≤ n → n ≤ r.1
      → number_at r.0 r.1 (place tail (along at 1)) ≡ Ok (n, place rest (along (along at 1) (length (decimal n))))
      → Fields rs rest (along (along at 1) (length (decimal n))) → Fields (r ∷ rs) bs at
  after_number bs at tail is e n rest short is' stops low high e' (ends ns more in' begins some e'') =
      ends (n ∷ ns) more ((low, high), in') (rw (is, is', begins, append_assoc)) some
      (rw (e, e', e'', is, is', over at n rest))
  after_number bs at tail is e n rest short is' stops low high e' (other head b rest' is'' ns more in' begins some none e'') =
      other (32 ∷ (decimal n ++ head)) b rest' (rw (is, is', is'', append_assoc)) (n ∷ ns) more ((low, high), in')
      (rw (begins, append_assoc)) some (no_other_after n short head b rest' (rw is'' at stops) none) (rw (e, e', e'', over at n head))
  after_number bs at tail is e n rest short is' stops low high e' (outside head front ends' k rest' short' is'' ns more in' begins some none e'') =
      outside (32 ∷ (decimal n ++ head)) (32 ∷ (decimal n ++ front)) (rw (ends', append_assoc)) k rest' short'
      (rw (is, is', is'', append_assoc)) (n ∷ ns) more ((low, high), in') (rw (begins, append_assoc)) some
      (no_outside_after n k short head (omega (arith, ap length ends', length-append front (32 ∷ []))) (decimal k ++ rest') (rw is'' at stops) none)
      (rw (e, e', e'', over at n head))
  after_number bs at tail is e n rest short is' stops low high e' (whole ns rest' in' is'' e'') =
      whole (n ∷ ns) rest' ((low, high), in') (rw (is, is', is'', append_assoc)) (rw (e, e', e''))

  after_space : (bs : List ℕ) (at : Position) (tail : List ℕ) → bs ≡ 32 ∷ tail
      → expect_at 32 (place bs at) ≡ Ok (tt, place tail (along at 1)) → ((x : List ℕ) (a : Position) → Fields rs x a)
      → numbers.Number r.0 r.1 tail (along at 1) → Fields (r ∷ rs) bs at
  unfolding lows
  after_space bs at tail is e more (numbers.ends is' e') =
      ends (lows (r ∷ rs)) (decimal r.0 ++ fields (lows rs)) (lows_in (r ∷ rs) sane) (rw (is, is')) (more_some r.0 (lows rs)) (rw (e, e', is, is'))
  after_space bs at tail is e more (numbers.other b rest is' apart e') =
      other (32 ∷ []) b rest (rw (is, is')) (lows (r ∷ rs)) (decimal r.0 ++ fields (lows rs)) (lows_in (r ∷ rs) sane)
      refl (more_some r.0 (lows rs))
      (no_digit b apart) (rw (e, e'))
  after_space bs at tail is e more (numbers.outside n rest short is' stops out e') =
      outside (32 ∷ []) [] refl n rest short (rw (is, is')) (lows (r ∷ rs)) (decimal r.0 ++ fields (lows rs)) (lows_in (r ∷ rs) sane)
      refl (more_some r.0 (lows rs))
      (no_number n short out) (rw (e, e'))
  after_space bs at tail is e more (numbers.number n rest short is' stops low high e') =
      after_number bs at tail is e n rest short is' stops low high e' (more rest (along (along at 1) (length (decimal n))))

  one_more : (bs : List ℕ) (at : Position) → ((x : List ℕ) (a : Position) → Fields rs x a) → Expect 32 bs at
      → Fields (r ∷ rs) bs at
  one_more bs at more (ends is e) =
      ends (lows (r ∷ rs)) (fields (lows (r ∷ rs))) (lows_in (r ∷ rs) sane) (rw is) (fields_some (lows (r ∷ rs)))
      (rw (e, is, ← along_none at))
  one_more bs at more (other b rest is apart e) =
      other [] b rest is (lows (r ∷ rs)) (fields (lows (r ∷ rs))) (lows_in (r ∷ rs) sane) refl (fields_some (lows (r ∷ rs)))
      (no_space b apart) (rw (e, ← along_none at))
  one_more bs at more (found rest is e) =
      after_space bs at rest is e more (number_cases r.0 r.1 rest (along at 1))

pub fields_cases : (rs : List (ℕ × ℕ)) → Sane rs → (bs : List ℕ) (at : Position) → Fields rs bs at
fields_cases [] sane bs at = fields_none bs at (expect_cases 10 bs at)
fields_cases (r ∷ rs) sane bs at = one_more r rs sane bs at (fields_cases rs sane.1) (expect_cases 32 bs at)

-- numbers in their ranges are read
pub fields_taken : (rs : List (ℕ × ℕ)) → Sane rs → (ns : List ℕ) → In rs ns → (rest : List ℕ) (at : Position)
    → fields_at rs (place (fields ns ++ rest) at) ≡ Ok (ns, place rest (record { line = at.line + 1; column = 1 }))
fields_taken [] sane [] in' rest at = refl
fields_taken [] sane (n ∷ ns) in' rest at = absurd in'
fields_taken (r ∷ rs) sane [] in' rest at = absurd in'
fields_taken (r ∷ rs) sane (n ∷ ns) in' rest at =
    let e = number_taken r.0 r.1 n (fields ns ++ rest) (along at 1) (omega arith) in'.0.0 in'.0.1
    (stops_swap n (fields ns) [] rest (fields_some ns) (rw append-nil (fields_stop n ns))) in
    let f = fields_taken rs sane.1 ns in'.1 rest (along (along at 1) (length (decimal n))) in
    rw (append_assoc, e, f)
