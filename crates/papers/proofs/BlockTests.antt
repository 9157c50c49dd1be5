-- What the tests of a block say of its bytes, in plain facts. Assumes nothing.
use Rattle.std.proofs.Common.{◌≡◌, ℕ, ◌≤◌, Bool, true, false, cond, ◌&&◌, ◌||◌, eqb, leb, ◌↔◌, List, length, Ok, Decides, refl, arith}
use Rattle.std.proofs.lemmas.Bool.{leb-true, le-leb, both_ways}
use Rattle.std.proofs.lemmas.Bool.Decides.{Decides-eqb, Decides-and, Decides-or, Decides-like, nat_tests}
use Rattle.papers.proofs.FirstLaws.{both_pass, pass_both, first_passes}
use Rattle.papers.specs.Block.{block_verdict, is_kind, kind_byte, count_byte, count_fits, block_number, padding}
use Rattle.papers.specs.Bytes.{half, word, weighted}
use Rattle.papers.specs.First.{Verdict, must, ◌then◌, first}
use Rattle.papers.specs.Form.{KindFits, CountFits, Padded}

pub decides_leb : (a b : ℕ) → Decides (leb a b) (a ≤ b)
decides_leb a b = (leb-true a b, le-leb a b)

-- a test that passes where the fact holds, and only there
pub must_passes : {F P : Type 0} (b : Bool) (f : F) → Decides b P → (must b f ≡ Ok tt) ↔ P
must_passes true f d = (λ e. d.0 refl, λ p. refl)
must_passes false f d =
    (λ e. absurd (cc), λ p. absurd (both_ways false refl (d.1 p)))

pub then_passes : {F P Q : Type 0} (v w : Verdict F) → (v ≡ Ok tt) ↔ P → (w ≡ Ok tt) ↔ Q → (v then w ≡ Ok tt) ↔ (P × Q)
then_passes v w p q =
    (λ e. let both = both_pass v w e in (p.0 both.0, q.0 both.1), λ h. pass_both v w (p.1 h.0) (q.1 h.1))

pub decides_kind : (due k : ℕ) → Decides (is_kind k && (eqb due 0 || eqb k due)) (KindFits due k)
decides_kind due k =
    Decides-like _ (λ p. (p.0.0, p.0.1, p.1)) (λ p. ((p.0, p.1), p.2))
    (Decides-and (is_kind k) _ (Decides-and _ _ (decides_leb 1 k) (decides_leb k 4)) (Decides-or _ _ (Decides-eqb due 0) (Decides-eqb k due)))

pub decides_count : (last : Bool) (n : ℕ) → Decides (count_fits last n) (CountFits last n)
decides_count true n = Decides-and _ _ (decides_leb 1 n) (decides_leb n 126)
decides_count false n = Decides-eqb n 126

pub decides_pad : (n i x : ℕ) → Decides (cond (leb n i) (eqb x 0) true) (n ≤ i → x ≡ 0)
decides_pad n i x = (λ e h. grind (arith, nat_tests), λ h. grind (arith, nat_tests))

-- the bytes pass each test
pub record Passes (bs : List ℕ) (place due : ℕ) (last : Bool) : Type 0 where
  pub size : length bs ≡ 512
  pub checked : word bs 508 ≡ weighted bs 508
  pub at : half bs 0 ≡ place
  pub kind_fits : KindFits due (kind_byte bs)
  pub count_fits : CountFits last (count_byte bs)
  pub padded : Padded bs

module _ (bs : List ℕ) (place : ℕ) where
  pad_passes : (i : ℕ) → (padding bs place i ≡ Ok tt) ↔ (count_byte bs ≤ i → block_number bs i ≡ 0)
  pad_passes i = must_passes _ _ (decides_pad (count_byte bs) i (block_number bs i))

  pub padded_exactly : (first (padding bs place) 126 ≡ Ok tt) ↔ Padded bs
  padded_exactly =
      let each = first_passes (padding bs place) 126 in
      (λ e i h. (pad_passes i).0 (each.0 e i h), λ p. each.1 (λ i h. (pad_passes i).1 (p i h)))

module _ (bs : List ℕ) (place due : ℕ) (last : Bool) where
  in_turn : (block_verdict bs place due last ≡ Ok tt)
      ↔ ((length bs ≡ 512) × ((word bs 508 ≡ weighted bs 508) × ((half bs 0 ≡ place) × (KindFits due (kind_byte bs) × (CountFits last (count_byte bs) × Padded bs)))))
  in_turn =
      then_passes _ _ (must_passes _ _ (Decides-eqb (length bs) 512))
      (then_passes _ _ (must_passes _ _ (Decides-eqb (word bs 508) (weighted bs 508)))
      (then_passes _ _ (must_passes _ _ (Decides-eqb (half bs 0) place))
      (then_passes _ _ (must_passes _ _ (decides_kind due (kind_byte bs)))
      (then_passes _ _ (must_passes _ _ (decides_count last (count_byte bs))) (padded_exactly bs place)))))

  pub passes_exactly : (block_verdict bs place due last ≡ Ok tt) ↔ Passes bs place due last
  passes_exactly = (
    λ e. let p = in_turn.0 e in record { size = p.0; checked = p.1.0; at = p.1.1.0; kind_fits = p.1.1.1.0; count_fits = p.1.1.1.1.0; padded = p.1.1.1.1.1 },
    λ p. in_turn.1 (p.size, (p.checked, (p.at, (p.kind_fits, (p.count_fits, p.padded))))),
  )
