-- What reading a note comes to. Assumes nothing.
use Rattle.std.proofs.Common.{◌≡◌, ℕ, ◌+◌, List, [], ◌∷◌, ◌++◌, length, Ok, Err, refl, ap, inl, inr, arith}
use Rattle.std.proofs.lemmas.Bool.{cases_eq, ne_eqb, eq-eqb}
use Rattle.setgrammar.proofs.Numbers.{place, along, along_along}
use Rattle.setgrammar.specs.Grammar.{NoFeed}
use Rattle.setgrammar.specs.Items.{note_from}
use Rattle.setgrammar.specs.declared.fault.Position.{Position}
use Rattle.setgrammar.specs.declared.fault.TextFault.TheVariants.{Ends}

pub data Remark (bs : List ℕ) (at : Position) : Type 0 where
  ends : NoFeed bs → note_from bs at ≡ Err (Ends (along at (length bs))) → Remark bs at
  whole : (said rest : List ℕ) → NoFeed said → bs ≡ said ++ 10 ∷ rest
      → note_from bs at ≡ Ok (tt, place rest (record { line = at.line + 1; column = 1 })) → Remark bs at

remark_more : (b : ℕ) (bs : List ℕ) (at : Position) → (b ≡ 10 → ⊥) → Remark bs (along at 1) → Remark (b ∷ bs) at
unfolding note_from
remark_more b bs at apart (ends none e) =
    ends (apart, none) (rw (ne_eqb b 10 apart, e, along_along at 1 (length bs) (length (b ∷ bs)) (omega arith)))
remark_more b bs at apart (whole said rest none is e) =
    whole (b ∷ said) rest (apart, none) (rw is) (rw (ne_eqb b 10 apart, e))

pub remark_cases : (bs : List ℕ) (at : Position) → Remark bs at
unfolding note_from
remark_cases [] at = ends tt (ap (λ (c : ℕ). Err (Ends (record { line = at.line; column = c }))) (omega arith))
remark_cases (b ∷ bs) at =
    elim (cases_eq b 10) [
      | inl is ↦ whole [] bs tt (ap (λ (c : ℕ). c ∷ bs) is) (rw (eq-eqb b 10 is))
      | inr apart ↦ remark_more b bs at apart (remark_cases bs (along at 1))
    ]

-- a note is read
pub remark_taken : (said rest : List ℕ) (at : Position) → NoFeed said
    → note_from (said ++ 10 ∷ rest) at ≡ Ok (tt, place rest (record { line = at.line + 1; column = 1 }))
unfolding note_from
remark_taken [] rest at none = refl
remark_taken (b ∷ said) rest at none = rw (ne_eqb b 10 none.0) (remark_taken said rest (along at 1) none.1)
