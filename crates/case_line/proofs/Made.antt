-- A fine module has tables for the steps: those that a run's arrays are made of.
use Prim.Native.Nat.{ℕ, zero, suc, ◌+◌, ◌*◌, ◌/◌, ◌%◌, ◌^◌, ◌≤◌, ◌<◌}
use mathlib.Core.Path.{◌≡◌, refl, ap, ◌∙◌}
use mathlib.Core.Bool.{Bool, true, false}
use mathlib.Core.Logic.{◌⊎◌, inl, inr}
use mathlib.Core.Option.{Option, none, some}
use mathlib.Core.List.{List}
use native.Mathlib.Omega.{arith}
use lib.ListN.{length, get_or}
use lib.Bits.{bit_or}
use Rattle.model.specs.Answer.{pick, or_else, or_next}
use Rattle.model.specs.Tables.{Module, parent_of, descends, of_root}
use Rattle.model.specs.Step.{choose_up}
use Rattle.loaded.specs.declared.Loaded.{Loaded}
use Rattle.state.specs.View.{span}
use Rattle.state.specs.Order.{Fine, kind_or_none, HoldsVariables, HoldsAncestors, HoldsChosen, HoldsMade}
use Rattle.ancestor.specs.Parents.{Falls}
use Rattle.faithful.proofs.Lists.{le_or_lt, get_d_span, get_d_span_out}
use Rattle.faithful.proofs.Rows.{row_in, first_row_lem}
use Rattle.prepare.specs.Sets.{Has, Upto}
use Rattle.prepare.proofs.Asking.{numbers_are, unasked_all, upto_first, upto_same, upto_more, upto_all}

-- a table whose cell i is f i
table_at : (f : ℕ → ℕ) (n i : ℕ) → i < n → get_or (span f 0 n) i 0 ≡ f i
table_at f n i h = get_d_span f 0 n i 0 h ∙ ap f (omega arith)

-- ---- Variables

abbrev variables : List ℕ → List ℕ
variables methods = span (λ i. kind_or_none (get_or methods i 0)) 0 4128

variables_hold : (n : ℕ) (methods : List ℕ) → n ≤ 128 → HoldsVariables n methods (variables methods)
variables_hold n methods few = record { kind_at_lem = λ r i low high less. table_at (λ j. kind_or_none (get_or methods j 0)) 4128 (r * 32 + i) (omega arith) }

-- ---- Ancestors

-- the numbers of a class in a set
abbrev two : ℕ → ℕ
two d = bit_or (1 * 2 ^ d % 2 ^ 64) (1 * 2 ^ ((32 + d) % 64) % 2 ^ 64)

module _ (ps : List ℕ) (c : ℕ) where
  -- the classes up to d that class c is or descends from
  unfoldable pub set_to : ℕ → ℕ
  set_to zero = 0
  set_to (suc d) = pick (descends ps c (suc d)) (bit_or (set_to d) (two (suc d))) (set_to d)

  set_to_lem : (d : ℕ) → d ≤ 32 → Upto ps c (suc d) (set_to d)
  unfolding set_to pick
  set_to_lem zero h = upto_first ps c 1 (unasked_all ps c)
  set_to_lem (suc d) h = go (descends ps c (suc d)) refl (set_to_lem d (omega arith))
    where
      next : suc d + 1 ≡ suc (suc d)
      next = omega arith

      go : (b : Bool) → descends ps c (suc d) ≡ b → Upto ps c (suc d) (set_to d) → Upto ps c (suc (suc d)) (pick b (bit_or (set_to d) (two (suc d))) (set_to d))
      go true e u = rw next at (upto_more ps c (suc d) (set_to d) u (two (suc d)) (numbers_are (suc d) (omega arith) h) (omega arith) h e)
      go false e u = rw next at (upto_same ps c (suc d) (set_to d) u (omega arith) h e)

  set_has : Falls ps → c ≤ 32 → (e : ℕ) → 0 < e → e ≤ 32 → Has (set_to c) e (descends ps c e)
  set_has falls h = upto_all ps falls c (set_to c) (let e : suc c ≡ c + 1 = omega arith in rw e at (set_to_lem c h))

abbrev ancestors : List ℕ → List ℕ
ancestors ps = span (λ c. set_to ps c c) 0 33

ancestors_hold : (ps : List ℕ) → Falls ps → HoldsAncestors ps (ancestors ps)
ancestors_hold ps falls = record {
  by_row = λ c d hc pos few. rw (table_at (λ k. set_to ps k k) 33 c (omega arith)) (set_has ps c falls hc d pos few).by_row;
  by_type = λ c d hc pos few. rw (table_at (λ k. set_to ps k k) 33 c (omega arith)) (set_has ps c falls hc d pos few).by_type;
}

-- ---- Methods by class and root

module _ (M : Module) where
  -- what is chosen is a row
  chosen_few : (q n c : ℕ) → or_else (choose_up M q n c) 0 ≤ length M.methods
  unfolding choose_up or_else or_next of_root
  chosen_few q zero c = omega arith
  chosen_few q (suc n) zero = omega arith
  chosen_few q (suc n) (suc c) = go (of_root M.methods (suc c) q) refl (chosen_few q n (parent_of M.parents (suc c)))
    where
      go : (o : Option ℕ) → of_root M.methods (suc c) q ≡ o → or_else (choose_up M q n (parent_of M.parents (suc c))) 0 ≤ length M.methods
          → or_else (or_next o (choose_up M q n (parent_of M.parents (suc c)))) 0 ≤ length M.methods
      go none e h = h
      go (some r) e h = let (m, (w, _)) = first_row_lem _ M.methods r e in (row_in M.methods r m w).1

  abbrev choice : ℕ → ℕ
  choice i = or_else (choose_up M (i % 129) (i / 129) (i / 129)) 0

  chosen_hold : length M.parents ≤ 32 → length M.methods ≤ 128 → HoldsChosen M (span choice 0 4257)
  chosen_hold classes methods = record {
    row_at = λ c q low high pos few.
        let a : (c * 129 + q) / 129 ≡ c = omega arith in
        let b : (c * 129 + q) % 129 ≡ q = omega arith in
        table_at choice 4257 (c * 129 + q) (omega arith) ∙ rw (a, b);
    there = λ i. there i (le_or_lt 4257 i);
  }
    where
      there : (i : ℕ) → (4257 ≤ i) ⊎ (i < 4257) → get_or (span choice 0 4257) i 0 ≤ length M.methods
      there i (inl h) = rw (get_d_span_out choice 0 4257 i 0 h) (omega arith)
      there i (inr h) = rw (table_at choice 4257 i h) (chosen_few (i % 129) (i / 129) (i / 129))

-- ---- All three

pub made : (M : Module) → Fine M → (L : Loaded) → HoldsMade M L (variables L.methods) (ancestors M.parents) (span (choice M) 0 4257)
unfolding Falls
made M fin L = record {
  by_variable = variables_hold (length M.methods) L.methods fin.methods_few;
  by_class = ancestors_hold M.parents fin.falling;
  by_root = chosen_hold M fin.classes_few fin.methods_few;
}
