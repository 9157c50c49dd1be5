-- A row of the catalogue multiplies, and no row has a common factor. Assumes nothing.
use Rattle.std.proofs.Common.{◌≡◌, ℕ, ◌+◌, ◌-◌, ◌*◌, ◌/◌, ◌%◌, ◌<◌, true, ltb, leb, Some, sym, refl, ap, ◌∙◌, subst, mul_comm, arith}
use Rattle.std.proofs.lemmas.Nat.{div-add-mod', div-mul-add, mod_below, mod-mul-add, mul-add-lt}
use Rattle.std.proofs.lemmas.Int.{ints}
use Rattle.std.proofs.lemmas.Bool.{and_from, le-leb, lt-ltb}
use Rattle.bottoms.specs.Catalogue.{alphabet, carries, catalogue, north_in, slot_of, south_in, west_in}
use Rattle.transducers.specs.Meaning.{Edge, from, to, south, north}
use Rattle.bottoms.specs.Multiplying.{Balanced, Letter, Multiplies}
use Rattle.bottoms.specs.declared.multiplier.Multiplier.{Multiplier}
use Rattle.bottoms.specs.Multipliers.{Small, edge_found, some_letter}

module _ (r : Multiplier) (small : Small r) where
  -- p - 1 stands on both sides, so states balance as carries do
  balanced_states : (c e s t : ℕ) → Balanced r c e s t → r.p * s + c ≡ r.d * t + e
  balanced_states c e s t b = omega (arith, ints, b)

  states_balanced : (c e s t : ℕ) → r.p * s + c ≡ r.d * t + e → Balanced r c e s t
  states_balanced c e s t b = omega (arith, ints, b)

  module _ (c s t : ℕ) (state : c < carries r) (low : Letter r s) (high : Letter r t) where
    abbrev i : ℕ
    i = slot_of r c s t

    abbrev row_part : ℕ
    row_part = c * alphabet r + (s - r.low)

    south_place : s - r.low < alphabet r
    south_place = omega (arith, low.most, low.least)

    north_place : t - r.low < alphabet r
    north_place = omega (arith, high.most, high.least)

    front : i / alphabet r ≡ row_part
    front = div-mul-add row_part (alphabet r) (t - r.low) north_place

    west_is : west_in r i ≡ c
    west_is = ap (λ n. n / alphabet r) front ∙ div-mul-add c (alphabet r) (s - r.low) south_place

    south_is : south_in r i ≡ s
    south_is =
        let back = mod-mul-add c (alphabet r) (s - r.low) south_place in
        ap (λ n. r.low + n % alphabet r) front ∙ ap (λ n. r.low + n) back ∙ omega (arith, low.least)

    north_is : north_in r i ≡ t
    north_is =
        let back = mod-mul-add row_part (alphabet r) (t - r.low) north_place in
        ap (λ n. r.low + n) back ∙ omega (arith, high.least)

    slot_inside : i < carries r * alphabet r * alphabet r
    slot_inside =
        let rows = carries r * alphabet r in
        let a : row_part < rows =
        rw (mul_comm (carries r) (alphabet r))
        (mul-add-lt c (alphabet r) (s - r.low) (carries r) state south_place) in
        rw (mul_comm rows (alphabet r)) (mul-add-lt row_part (alphabet r) (t - r.low) rows a north_place)

    each_at : (e : ℕ) → e < carries r → Balanced r c e s t → (catalogue r).edge i ≡ Some (c, e, s, t)
    each_at e within b =
        let sum = balanced_states c e s t b in
        let left : r.p * s + c - r.d * t ≡ e = omega (arith, sum) in
        let enough : leb (r.d * t) (r.p * s + c) ≡ true = le-leb _ _ (omega (arith, sum)) in
        let fits : ltb (r.p * s + c - r.d * t) (carries r) ≡ true = lt-ltb _ _ (omega (arith, left)) in
        rw (lt-ltb i _ slot_inside, west_is, south_is, north_is, and_from _ _ enough fits, left) refl

  slot_again : (i : ℕ) → i ≡ slot_of r (west_in r i) (south_in r i) (north_in r i)
  slot_again i =
      let rows = div-add-mod' (i / alphabet r) (alphabet r) in
      let south-back : south_in r i - r.low ≡ i / alphabet r % alphabet r = omega arith in
      let north-back : north_in r i - r.low ≡ i % alphabet r = omega arith in
      sym (rw (south-back, north-back, rows) (div-add-mod' i (alphabet r)))

  letter_south : (i : ℕ) → Letter r (south_in r i)
  letter_south i = record {
    least = omega arith;
    most = omega (arith, mod_below (i / alphabet r) (alphabet r) (some_letter r small));
  }

  letter_north : (i : ℕ) → Letter r (north_in r i)
  letter_north i = record {
    least = omega arith;
    most = omega (arith, mod_below i (alphabet r) (some_letter r small));
  }

  abbrev Only : ℕ → Edge → Type 0
  Only i e =
      (i ≡ slot_of r (from e) (south e) (north e))
      × Letter r (south e) × Letter r (north e)
      × Balanced r (from e) (to e) (south e) (north e)

  only_at : (i : ℕ) (e : Edge) → (catalogue r).edge i ≡ Some e → Only i e
  only_at i e is =
      let found = edge_found r i e is in
      let balance = states_balanced _ _ _ _ (grind (arith, found.carried)) in
      subst (Only i) found.same (slot_again i, letter_south i, letter_north i, balance)

  pub catalogue_multiplies : Multiplies r (catalogue r)
  catalogue_multiplies = record {
    each = λ c e s t state within low high b. each_at c s t state low high e within b;
    only = only_at;
  }
