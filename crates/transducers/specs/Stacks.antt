-- The stack of two valid transducers lies within its counts. Assumes nothing.
use Rattle.std.specs.Prelude.{◌≡◌, ℕ, ◌*◌, ◌/◌, ◌<◌, ◌≤◌, Bool, true, false, cond, Some, None, Option, ◌==◌, nat_lt, refl}
use Rattle.std.proofs.Common.{sym, subst, mul_comm, arith}
use Rattle.std.proofs.Math.Path.{fun_ext}
use Rattle.std.proofs.lemmas.Option.{cond_some, none-some}
use Rattle.std.proofs.lemmas.Nat.{le-div, mul-add-lt, mul-le}
use Rattle.std.proofs.lemmas.Bool.{le-ltb, ltb-false}
use Rattle.transducers.specs.Held.{held_edge, held_to, lies_inside, stack_held}
use Rattle.transducers.specs.Meaning.{Edge, Meaning, Inside, Valid, from, to, south, north}
use Rattle.transducers.specs.Stacking.{both_edges, paired, stack}
use Rattle.transducers.specs.declared.counts.Counts.{Counts}

pub some_product : (a b : ℕ) → 1 ≤ a → 1 ≤ b → 1 ≤ a * b
some_product a b some more = let h : 1 * 1 ≤ a * b = mul-le 1 1 a b some more in h

pub paired_below : (a b q p : ℕ) → q < a → p < b → paired b q p < a * b
paired_below a b q p low high = rw (mul_comm a b) (mul-add-lt q b p a low high)

-- whatever is held to counts keeps the limits
module _ (c : Counts) (edge : ℕ → Option Edge) where
  inside_by : (e : Edge) → lies_inside c e ≡ true → Inside c.states c.letters e
  inside_by e lies = record {
    from_state = grind arith;
    to_state = grind arith;
    south_letter = grind arith;
    north_letter = grind arith;
  }

  held_inside : (o : Option Edge) (e : Edge) → held_edge c o ≡ Some e → Inside c.states c.letters e
  held_inside None e is = absurd (none-some e is)
  held_inside (Some d) e is =
      let h = cond_some (lies_inside c d) d e is in
      subst (Inside c.states c.letters) h.1 (inside_by d h.0)

  slot_inside :
      (i : ℕ) (e : Edge) (b : Bool) → cond b (held_edge c (edge i)) None ≡ Some e → Inside c.states c.letters e
  slot_inside i e true is = held_inside (edge i) e is
  slot_inside i e false is = absurd (none-some e is)

  pub held_valid : Valid (held_to c edge)
  held_valid = record {
    some_state = c.some_state;
    few_states = c.few_states;
    some_letter = c.some_letter;
    few_letters = c.few_letters;
    some_slot = c.some_slot;
    few_slots = c.few_slots;
    inside = λ i e is. slot_inside i e (nat_lt i c.slots) is;
    beyond = λ i past. rw (le-ltb i c.slots past) refl;
  }

module _ (l u : Meaning) (lv : Valid l) (uv : Valid u) where
  abbrev joined : Edge → Edge → Edge
  joined e f = (paired u.states (from e) (from f), paired u.states (to e) (to f), south e, north f)

  joined_inside :
      (e f : Edge) → Inside l.states l.letters e → Inside u.states u.letters f →
      Inside (stack l u).states (stack l u).letters (joined e f)
  joined_inside e f low high = record {
    from_state = paired_below l.states u.states _ _ low.from_state high.from_state;
    to_state = paired_below l.states u.states _ _ low.to_state high.to_state;
    south_letter = omega (arith, low.south_letter);
    north_letter = omega (arith, high.north_letter);
  }

  -- past the last pair of slots there is nothing
  pub stack_beyond : (i : ℕ) → l.slots * u.slots ≤ i → (stack l u).edge i ≡ None
  stack_beyond i past = rw (lv.beyond (i / u.slots) (le-div l.slots i u.slots uv.some_slot past)) refl

  module _
      (c : Counts) (states : c.states ≡ (stack l u).states) (letters : c.letters ≡ (stack l u).letters)
      (slots : c.slots ≡ (stack l u).slots)
    where
      lies : (e : Edge) → Inside (stack l u).states (stack l u).letters e → lies_inside c e ≡ true
      lies e h =
          grind (arith, states, letters, h.from_state, h.to_state, h.south_letter, h.north_letter)

      kept_joined :
          (e f : Edge) → Inside l.states l.letters e → Inside u.states u.letters f → (b : Bool) →
          held_edge c (cond b (Some (joined e f)) None) ≡ cond b (Some (joined e f)) None
      kept_joined e f low high true = rw (lies _ (joined_inside e f low high)) refl
      kept_joined e f low high false = refl

      kept :
          (i j : ℕ) (o p : Option Edge) → l.edge i ≡ o → u.edge j ≡ p →
          held_edge c (both_edges u.states o p) ≡ both_edges u.states o p
      kept i j (Some e) (Some f) low high = kept_joined e f (lv.inside i e low) (uv.inside j f high) (north e == south f)
      kept i j (Some e) None low high = refl
      kept i j None p low high = refl

      held_slot :
          (i : ℕ) (b : Bool) → nat_lt i c.slots ≡ b →
          cond b (held_edge c ((stack l u).edge i)) None ≡ (stack l u).edge i
      held_slot i true within = kept _ _ _ _ refl refl
      held_slot i false within =
          let past : l.slots * u.slots ≤ i = subst (λ n. n ≤ i) slots (ltb-false i c.slots within) in
          sym (stack_beyond i past)

      -- so a stack held to its counts is the stack
      pub stack_is_held : stack_held c l u ≡ stack l u
      stack_is_held = λ k. record {
        states = states k;
        letters = letters k;
        slots = slots k;
        edge = fun_ext (λ i. held_slot i _ refl) k;
      }

-- the states of an edge that was answered
pub states_below : (m : Meaning) (v : Valid m) (i : ℕ) (e : Edge) → Some e ≡ m.edge i → (from e < 4096) × (to e < 4096)
states_below m v i e told =
    let h = v.inside i e (sym told) in
    (omega (arith, h.from_state, v.few_states), omega (arith, h.to_state, v.few_states))
