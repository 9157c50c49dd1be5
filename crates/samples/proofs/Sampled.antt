-- The worked samples hold. Assumes nothing.
use Rattle.std.proofs.Common.{◌≡◌, ℕ, zero, suc, ◌^◌, ◌<◌, Bool, true, ◌&&◌, ltb, leb, List, [], ◌∷◌, length, get_or, Result, refl, ap, ◌∙◌, arith}
use Rattle.std.proofs.lemmas.Bool.{and_parts, leb-true, ltb-true}
use Rattle.papers.proofs.Written.{written}
use Rattle.papers.specs.Bytes.{weighted}
use Rattle.papers.specs.First.{first}
use Rattle.papers.specs.declared.kind.Kind.{Kind}
use Rattle.transducers.specs.Meaning.{Meaning}
use Rattle.bottoms.specs.Tiles.{greatest}
use Rattle.setgrammar.specs.Lines.{lines}
use Rattle.rules.specs.Filing.{filing_answer, judged_contents, weighed}
use Rattle.rules.specs.Ranks.{highest}
use Rattle.rules.specs.Widths.{fresh_ends}
use Rattle.rules.specs.declared.fault.DocketFault.{DocketFault}
use Rattle.rules.specs.declared.fault.DocketFault.TheVariants.{NoEdge, Apart, Open, ApartAbove, NoFall}
use Rattle.rules.specs.declared.width.Ends.{Ends}
use Rattle.samples.specs.Samples.{set_a, Answers, Samples, saying}
use Rattle.samples.proofs.TrimmedA.{largest_is_none, none_is_largest, none_kept}

-- numbers of 32 bits, and as many as a paper may have
abbrev small : List ℕ → Bool
small [] = true
small (x ∷ xs) = ltb x (2 ^ 32) && small xs

abbrev fair : List ℕ → Bool
fair xs = leb 1 (length xs) && (leb (length xs) 8064 && small xs)

small_number : (xs : List ℕ) → small xs ≡ true → (i : ℕ) → i < length xs → get_or xs i 0 < 2 ^ 32
small_number [] h i within = absurd (omega arith)
small_number (x ∷ xs) h zero within = ltb-true x (2 ^ 32) (and_parts (ltb x (2 ^ 32)) (small xs) h).0
small_number (x ∷ xs) h (suc i) within = small_number xs (and_parts (ltb x (2 ^ 32)) (small xs) h).1 i (omega arith)

-- a paper is answered by what it says
answers : (m : Meaning) (kind : Kind) (xs : List ℕ) (r : Result Ends DocketFault) → fair xs ≡ true → filing_answer fresh_ends (weighed m (saying kind xs)) ≡ r → Answers m kind xs r
answers m kind xs r f is =
    let some = and_parts (leb 1 (length xs)) _ f in
    let most = and_parts (leb (length xs) 8064) _ some.1 in
    record {
      contents = is;
      each_paper = λ bs says. ap (λ c. filing_answer fresh_ends (judged_contents m c)) says ∙ is;
      some_paper = written kind xs (leb-true _ _ some.0) (leb-true _ _ most.0) (small_number xs most.1);
    }

pub samples : Samples
unfolding lines greatest first highest weighted
samples =
    record {
      text_makes_a = λ s t. refl;
      a_has_3_states = refl;
      a_has_1_letter = refl;
      a_has_2_slots = refl;
      strip_0_1 = answers _ _ _ _ refl refl;
      strip_1_0 = (Apart 1, answers _ _ _ _ refl refl, refl, refl);
      ranking_2_1_0 = answers _ _ _ _ refl refl;
      ranking_2_0_1 = (NoFall 1, answers _ _ _ _ refl refl, refl, refl);
      ring_0 = (Open 0, answers _ _ _ _ refl refl, refl, refl);
      stacked_states = refl;
      stacked_slots = refl;
      stacked_slot_1 = refl;
      turned_ring_0 = answers _ _ _ _ refl refl;
      turned_torus_1_1_0 = (ApartAbove 2, answers _ _ _ _ refl refl, refl, refl);
      trimmed_to_nothing = none_is_largest;
      trimmed_keeps_nothing = λ K l q. rw (largest_is_none K l);
      trimmed_has_no_edge = λ K l i. rw (largest_is_none K l) (none_kept (set_a.edge i));
      trimmed_ranking_0_0_0 = λ K l. rw (largest_is_none K l) (answers _ _ _ _ refl refl);
      row_1_slot_17 = refl;
      row_1_slot_0 = refl;
      row_1_slot_2 = refl;
      row_7_torus_1_1_0 = answers _ _ _ _ refl refl;
      row_7_torus_1_1_1 = (NoEdge 2, answers _ _ _ _ refl refl, refl, refl);
      strip_17_check = refl;
      strip_17_reads = refl;
    }
