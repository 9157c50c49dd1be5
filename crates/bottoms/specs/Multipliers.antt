-- A row of the catalogue keeps the limits. Assumes nothing.
use Rattle.std.specs.Prelude.{◌≡◌, ℕ, ◌+◌, ◌-◌, ◌*◌, ◌/◌, ◌<◌, ◌≤◌, Bool, true, false, cond, ◌&&◌, Some, None, nat_le, nat_lt, refl}
use Rattle.std.proofs.Common.{subst, arith}
use Rattle.std.proofs.lemmas.Option.{cond_some, none-some}
use Rattle.std.proofs.lemmas.Nat.{div_below, mod_below, mul-le}
use Rattle.std.proofs.lemmas.Bool.{ltb-true, le-ltb}
use Rattle.bottoms.specs.Catalogue.{alphabet, carries, catalogue, multiplied, north_in, product, south_in, west_in}
use Rattle.transducers.specs.Meaning.{Edge, Inside, Valid}
use Rattle.bottoms.specs.declared.multiplier.Multiplier.{Multiplier}

-- the limits that every row of the table keeps
pub record Small (r : Multiplier) : Type 0 where
  pub some_p : 1 ≤ r.p
  pub few_p : r.p ≤ 4
  pub some_d : 1 ≤ r.d
  pub few_d : r.d ≤ 4
  pub in_order : r.low ≤ r.high
  pub few_letters : r.high ≤ 4

-- what is left over in slot i is a carry's state
abbrev pub leaves_carry : Multiplier → ℕ → Bool
leaves_carry r i = nat_le (r.d * north_in r i) (product r i) && nat_lt (product r i - r.d * north_in r i) (carries r)

-- the edge that slot i has then
abbrev pub edge_in : Multiplier → ℕ → Edge
edge_in r i = (west_in r i, product r i - r.d * north_in r i, south_in r i, north_in r i)

-- what an edge in slot i shows
pub record Found (r : Multiplier) (i : ℕ) (e : Edge) : Type 0 where
  pub within : i < carries r * alphabet r * alphabet r
  pub carried : leaves_carry r i ≡ true
  pub same : edge_in r i ≡ e

pub edge_found : (r : Multiplier) (i : ℕ) (e : Edge) → (catalogue r).edge i ≡ Some e → Found r i e
edge_found r i e is = by_test _ refl is
  where
    by_test :
        (b : Bool) → nat_lt i (carries r * alphabet r * alphabet r) ≡ b →
        cond b (multiplied r i) None ≡ Some e → Found r i e
    by_test true within told =
        let h = cond_some (leaves_carry r i) (edge_in r i) e told in
        record { within = ltb-true _ _ within; carried = h.0; same = h.1 }
    by_test false within told = absurd (none-some e told)

module _ (r : Multiplier) (small : Small r) where
  pub some_letter : 1 ≤ alphabet r
  some_letter = omega arith

  pub slots_some : 1 ≤ carries r * alphabet r * alphabet r
  slots_some =
      let a : 1 * 1 ≤ carries r * alphabet r = mul-le 1 1 _ _ (omega arith) (omega arith) in
      let b : 1 * 1 ≤ carries r * alphabet r * alphabet r = mul-le 1 1 _ _ a (omega arith) in
      b

  pub slots_few : carries r * alphabet r * alphabet r ≤ 175
  slots_few =
      let a : carries r * alphabet r ≤ 7 * 5 = mul-le _ _ 7 5 (omega arith) (omega arith) in
      let b : carries r * alphabet r * alphabet r ≤ 35 * 5 = mul-le _ _ 35 5 a (omega arith) in
      b

  pub west_below : (i : ℕ) → i < carries r * alphabet r * alphabet r → west_in r i < carries r
  west_below i within =
      let front = div_below i (alphabet r) (carries r * alphabet r) some_letter within in
      div_below (i / alphabet r) (alphabet r) (carries r) some_letter front

  pub south_below : (i : ℕ) → south_in r i < r.high + 1
  south_below i = omega (arith, mod_below (i / alphabet r) (alphabet r) some_letter)

  pub north_below : (i : ℕ) → north_in r i < r.high + 1
  north_below i = omega (arith, mod_below i (alphabet r) some_letter)

  edge_inside :
      (i : ℕ) → i < carries r * alphabet r * alphabet r → leaves_carry r i ≡ true →
      Inside (carries r) (r.high + 1) (edge_in r i)
  edge_inside i within passed = record {
    from_state = west_below i within;
    to_state = grind arith;
    south_letter = south_below i;
    north_letter = north_below i;
  }

  slot_inside : (i : ℕ) (e : Edge) → (catalogue r).edge i ≡ Some e → Inside (carries r) (r.high + 1) e
  slot_inside i e is =
      let found = edge_found r i e is in
      subst (Inside (carries r) (r.high + 1)) found.same (edge_inside i found.within found.carried)

  pub catalogue_valid : Valid (catalogue r)
  catalogue_valid = record {
    some_state = omega arith;
    few_states = omega arith;
    some_letter = omega arith;
    few_letters = omega arith;
    some_slot = slots_some;
    few_slots = omega (arith, slots_few);
    inside = slot_inside;
    beyond = λ i past. rw (le-ltb i (carries r * alphabet r * alphabet r) past) refl;
  }
