-- Where a line breaks. Assumes nothing.
use Rattle.std.proofs.Common.{◌≡◌, ℕ, ◌+◌, List, [], ◌∷◌, ◌++◌, length, Ok, Err, decimal, sym, refl, ap, ◌∙◌, arith}
use Rattle.std.proofs.lemmas.List.{append-nil}
use Rattle.setgrammar.proofs.Fields as numbers
use Rattle.setgrammar.proofs.Fields.{In, Shaped, Sane, Fields}
use Rattle.setgrammar.proofs.Numbers.{place, along, along_along}
use Rattle.setgrammar.specs.Grammar.{Line, written, fields, Formed, Good, Begins}
use Rattle.setgrammar.specs.Items.{fields_at}
use Rattle.setgrammar.specs.Law.{WhyStart, WhyByte, WhyRange, WhyTurn, WhyFull, WhyEnds}
use Rattle.setgrammar.specs.declared.fault.Position.{Position}
use Rattle.setgrammar.specs.declared.fault.TextFault.{TextFault}
use Rattle.setgrammar.specs.declared.fault.TextFault.TheVariants as fault

-- the bytes from a line's start on break at a position
pub record Broken (bs : List ℕ) (start at : Position) (Why : List ℕ → List ℕ → Type 0) : Type 0 where
  pub head : List ℕ
  pub tail : List ℕ
  pub bytes : bs ≡ head ++ tail
  pub place : at ≡ along start (length head)
  pub why : Why head tail

abbrev pub Breaks : ℕ → List Line → List ℕ → Position → TextFault → Type 0
Breaks room before bs start (fault.Start at) = Broken bs start at (WhyStart before)
Breaks room before bs start (fault.Byte at) = Broken bs start at (WhyByte room before)
Breaks room before bs start (fault.Range at) = Broken bs start at (WhyRange room before)
Breaks room before bs start (fault.Turn at) = Broken bs start at (WhyTurn before)
Breaks room before bs start (fault.Full at) = Broken bs start at (WhyFull room before)
Breaks room before bs start (fault.Ends at) = Broken bs start at (WhyEnds room before)
Breaks room before bs start fault.Long = ⊥

-- a kind of line with numbers: its first byte, their ranges, and the line that they make
pub record Numbers (k : ℕ) (rs : List (ℕ × ℕ)) (make : List ℕ → Line) : Type 0 where
  pub sane : Sane rs
  pub writes : (ns : List ℕ) → In rs ns → written (make ns) ≡ k ∷ fields ns
  pub fair : (ns : List ℕ) → In rs ns → Good (make ns)
  pub formed : (l : Line) (x : List ℕ) → Formed l → written l ≡ k ∷ x → (ns : List ℕ) × Shaped rs ns × (fields ns ≡ x)
  pub good : (l : Line) (x : List ℕ) → Good l → written l ≡ k ∷ x → (ns : List ℕ) × In rs ns × (fields ns ≡ x)

module _ {k : ℕ} {rs : List (ℕ × ℕ)} {make : List ℕ → Line} (kind : Numbers k rs make) (room : ℕ) (before : List Line) where
  -- reading such a line, after its first byte
  pub data Numbered (bs : List ℕ) (at : Position) : Type 0 where
    broken : (f : TextFault) → fields_at rs (place bs (along at 1)) ≡ Err f → Breaks room before (k ∷ bs) at f → Numbered bs at
    whole : (ns rest : List ℕ) → In rs ns → bs ≡ fields ns ++ rest
        → fields_at rs (place bs (along at 1)) ≡ Ok (ns, place rest (record { line = at.line + 1; column = 1 })) → Numbered bs at

  on : (at : Position) (head : List ℕ) → along (along at 1) (length head) ≡ along at (length (k ∷ head))
  on at head = along_along at 1 (length head) (length (k ∷ head)) (omega arith)

  pub numbered : ((ns : List ℕ) → In rs ns → Begins room (before ++ make ns ∷ [])) → (bs : List ℕ) (at : Position)
      → Fields rs bs (along at 1) → Numbered bs at
  numbered may bs at (numbers.ends ns more in' begins some e) =
      broken (fault.Ends (along (along at 1) (length bs))) e (record {
        head = k ∷ bs;
        tail = [];
        bytes = sym (append-nil (k ∷ bs));
        place = on at bs;
        why = ((make ns, more, may ns in', kind.writes ns in' ∙ rw begins, some), refl, λ none. absurd (omega (arith, ap length none)));
      })
  numbered may bs at (numbers.other head b rest is ns more in' begins some none e) =
      broken (fault.Byte (along (along at 1) (length head))) e (record {
        head = k ∷ head;
        tail = b ∷ rest;
        bytes = rw is;
        place = on at head;
        why = (
          (make ns, more, may ns in', kind.writes ns in' ∙ rw begins, some),
          omega arith,
          b,
          rest,
          refl,
          λ l tail formed e'. let f = kind.formed l (head ++ b ∷ tail) formed e' in none f.0 tail f.1 f.2,
        );
      })
  numbered may bs at (numbers.outside head front ends n rest short is ns more in' begins some none e) =
      broken (fault.Range (along (along at 1) (length head))) e (record {
        head = k ∷ head;
        tail = decimal n ++ rest;
        bytes = rw is;
        place = on at head;
        why = (
          (make ns, more, may ns in', kind.writes ns in' ∙ rw begins, some),
          k ∷ front,
          rw ends,
          n,
          short,
          rest,
          refl,
          λ l tail good e'. let f = kind.good l (head ++ (decimal n ++ tail)) good e' in none f.0 tail f.1 f.2,
        );
      })
  numbered may bs at (numbers.whole ns rest in' is e) = whole ns rest in' is e
