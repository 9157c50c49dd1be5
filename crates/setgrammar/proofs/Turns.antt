-- The steps of the loop over the lines. Assumes nothing.
use Rattle.std.proofs.Common.{◌≡◌, ℕ, zero, suc, ◌<◌, ◌≤◌, true, false, List, [], ◌∷◌, length, Ok, Err, refl, arith}
use Rattle.setgrammar.proofs.Shrinks.{line_shrinks}
use Rattle.setgrammar.specs.Lines.{State, Outcome, said, is_empty, lines, line_at}
use Rattle.setgrammar.specs.Place.{Place}
use Rattle.setgrammar.specs.declared.fault.TextFault.{TextFault}

pub some_left : (bs : List ℕ) → 0 < length bs → is_empty bs ≡ false
some_left [] h = absurd (omega arith)
some_left (b ∷ bs) h = refl

none_left : (bs : List ℕ) → length bs ≡ 0 → is_empty bs ≡ true
none_left [] h = refl
none_left (b ∷ bs) h = absurd (omega arith)

-- enough turns are left for what is left of the text, and they come to the outcome
abbrev pub Comes : State → Place → Outcome → Type 0
Comes s p o = (n : ℕ) × (length p.rest ≤ n) × (lines n s p ≡ o)

pub comes_more : (s t : State) (p q : Place) (o : Outcome) → 0 < length p.rest → Ok (t, q) ≡ line_at s p
    → Comes s p o → Comes t q o
unfolding lines
comes_more s t p q o some is (zero, enough, to) = absurd (omega arith)
comes_more s t p q o some is (suc n, enough, to) =
    (n, omega (arith, line_shrinks s t p q some is), rw (some_left p.rest some, ← is) at to)

pub comes_fault : (s : State) (p : Place) (f : TextFault) (o : Outcome) → 0 < length p.rest → Err f ≡ line_at s p
    → Comes s p o → record { answer = Err f; tiles = s.tiles } ≡ o
unfolding lines
comes_fault s p f o some is (zero, enough, to) = absurd (omega arith)
comes_fault s p f o some is (suc n, enough, to) = rw (some_left p.rest some, ← is) at to

pub comes_all : (s : State) (p : Place) (o : Outcome) → length p.rest ≡ 0 → Comes s p o
    → record { answer = said s.stage p.at; tiles = s.tiles } ≡ o
unfolding lines
comes_all s p o none (zero, enough, to) = to
comes_all s p o none (suc n, enough, to) = rw (none_left p.rest none) at to
