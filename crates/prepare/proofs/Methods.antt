-- The methods that each class has itself, a row at a time from the last down, and with those inherited.
use Prim.Native.Nat.{ℕ, zero, suc, ◌+◌, ◌-◌, ◌*◌, ◌%◌, ◌≤◌, ◌<◌}
use mathlib.Core.Path.{◌≡◌, refl, sym, ap, ◌∙◌}
use mathlib.Core.Bool.{Bool, true, false, ◌&&◌}
use mathlib.Core.Option.{Option, none, some}
use mathlib.Core.List.{List}
use native.Mathlib.Omega.{arith}
use native.Mathlib.Nat.{mod-eq_of_lt}
use lib.ListN.{length, get_or, set, replicate, drop_of_length-le}
use lib.Dec.{eqb, eqb-suc-zero}
use borrow.Author.Tests.{ne_eqb}
use Rattle.model.specs.Answer.{pick, or_else, or_next, at, row, first_row}
use Rattle.model.specs.Tables.{Method, Module, parent_of, root, of_root}
use Rattle.model.specs.Step.{choose_up}
use Rattle.prepare.specs.Rows.{or_other, Inherited}
use Rattle.prepare.specs.Told.{MethodsTold, of_root_from, OwnFrom}
use Rattle.prepare.proofs.Lists.{there, first_least, first_none}
use Rattle.prepare.proofs.Up.{choose_once}
use Rattle.prepare.proofs.Turns.{stored, set_few, zeros, rows_are}

-- ---- A row at a time

none_left : (ms : List Method) (r c q : ℕ) → length ms ≤ r → or_else (of_root_from ms r c q) 0 ≡ 0
unfolding of_root_from first_row or_else
none_left ms r c q h = rw (drop_of_length-le ms h)

pub own_none : (ms : List Method) (r : ℕ) (chosen : List ℕ) → length ms ≤ r → chosen ≡ replicate 4257 0 → OwnFrom ms r chosen
own_none ms r chosen h B = record {
  own = λ c q _ _. zeros 4257 chosen B (c * 129 + q) ∙ sym (none_left ms r c q h);
  there = λ i. omega (arith, zeros 4257 chosen B i);
}

first_or : (b : Bool) (r : ℕ) (o : Option ℕ) → or_else (pick b (some r) o) 0 ≡ pick b r (or_else o 0)
unfolding pick or_else
first_or true r o = refl
first_or false r o = refl

module _ (ms : List Method) (methods : List ℕ) (T : MethodsTold ms methods) (n : ℕ) (h : n < length ms) where
  -- the method of the row
  its_row : row ms (suc n) ≡ some (there ms n h).one
  unfolding row
  its_row = (there ms n h).at_is

  its_owner : get_or methods (suc n * 32 + 25) 0 % 33 ≡ (there ms n h).one.owner
  its_owner = ap (λ k. k % 33) (T.owner (suc n) _ its_row) ∙ mod-eq_of_lt (T.owned (suc n) _ its_row)

  its_root : get_or methods (suc n * 32 + 30) 0 % 129 ≡ root ms (suc n)
  its_root = ap (λ k. k % 129) (T.root_at_lem (suc n) _ its_row) ∙ mod-eq_of_lt (T.root_few (suc n) _ its_row)

  its_turn : (c q : ℕ) → of_root_from ms n c q ≡ pick (eqb (there ms n h).one.owner c && eqb (root ms (suc n)) q) (some (suc n)) (of_root_from ms (suc n) c q)
  unfolding of_root_from first_row
  its_turn c q = rw (there ms n h).drop_is

  own_more : (chosen : List ℕ) → length chosen ≡ 4257 → OwnFrom ms (suc n) chosen
      → OwnFrom ms n (set chosen (get_or methods (suc n * 32 + 25) 0 % 33 * 129 + get_or methods (suc n * 32 + 30) 0 % 129) (suc n))
  own_more chosen long O = record {
    own = λ c q hc hq.
        let low : (there ms n h).one.owner < 33 = T.owned (suc n) _ its_row in
        let few : root ms (suc n) < 129 = T.root_few (suc n) _ its_row in
        rw (its_owner, its_root, its_turn c q, first_or, ← O.own c q hc hq)
        (stored 129 chosen (there ms n h).one.owner (root ms (suc n)) (suc n) c q (omega arith) few hq);
    there = set_few chosen _ (suc n) (length ms) (omega arith) (omega arith) O.there;
  }

pub own_turn : (ms : List Method) (methods : List ℕ) → MethodsTold ms methods → (r : ℕ) (chosen : List ℕ) → 0 < r → r ≤ length ms → length chosen ≡ 4257
    → OwnFrom ms r chosen
    → OwnFrom ms (r - 1) (set chosen (get_or methods (r * 32 + 25) 0 % 33 * 129 + get_or methods (r * 32 + 30) 0 % 129) r)
own_turn ms methods T zero chosen pos h long O = absurd (omega arith)
own_turn ms methods T (suc n) chosen pos h long O = let z : suc n - 1 ≡ n = omega arith in rw z (own_more ms methods T n (omega arith) chosen long O)

-- ---- With those inherited

or_next_lem : (a b : Option ℕ) → ((k : ℕ) → a ≡ some k → 0 < k) → or_else (or_next a b) 0 ≡ or_other (or_else a 0) (or_else b 0)
unfolding or_else or_next or_other pick
or_next_lem none b h = refl
or_next_lem (some zero) b h = absurd (let z : 0 < 0 = h 0 refl in omega arith)
or_next_lem (some (suc k)) b h = rw (eqb-suc-zero k)

module _ (M : Module) (parents before after : List ℕ) (past : (c : ℕ) → length M.parents < c → get_or parents c 0 ≡ 0)
    (parent : (c : ℕ) → get_or parents c 0 ≡ parent_of M.parents c) (falling : (c : ℕ) → 0 < c → parent_of M.parents c < c)
    (owned : (n : ℕ) (m : Method) → at M.methods n ≡ some m → 0 < m.owner)
    (O : OwnFrom M.methods 0 before) (I : Inherited parents 129 (length M.methods + 1) (length M.parents + 1) before after)
    (small : length M.methods ≤ 128) where
  whole : (c q : ℕ) → of_root_from M.methods 0 c q ≡ of_root M.methods c q
  unfolding of_root_from of_root
  whole c q = refl

  no_owner : (q : ℕ) → of_root M.methods 0 q ≡ none
  unfolding of_root
  no_owner q = first_none _ 1 M.methods (λ n m e k. rw (ne_eqb m.owner 0 (λ z. let l : 0 < m.owner = owned n m e in omega arith)))

  no_class : (q : ℕ) → or_else (choose_up M q 0 0) 0 ≡ 0
  unfolding or_else choose_up
  no_class q = refl

  root_first : (q : ℕ) → q < 129 → get_or before q 0 ≡ 0
  unfolding or_else
  root_first q h = let z : 0 * 129 + q ≡ q = omega arith in rw z at (O.own 0 q (omega arith) h) ∙ rw (whole 0 q, no_owner q)

  root_positive : (c q k : ℕ) → of_root M.methods c q ≡ some k → 0 < k
  unfolding of_root
  root_positive c q k e = let l : 1 ≤ k = first_least _ 1 M.methods k e in omega arith

  root_up_lem : (q : ℕ) → q < 129 → (c : ℕ) → 0 < c → c < 33 → or_else (choose_up M q c c) 0 ≡ or_other (get_or before (c * 129 + q) 0)
      (or_else (choose_up M q (get_or parents c 0) (get_or parents c 0)) 0)
  root_up_lem q h c low high =
      rw (choose_once M falling q c low, parent c, O.own c q high h, whole c q)
      (or_next_lem (of_root M.methods c q) (choose_up M q (parent_of M.parents c) (parent_of M.parents c)) (root_positive c q))

  pub chosen_are : (c q : ℕ) → c < 33 → q ≤ length M.methods → get_or after (c * 129 + q) 0 ≡ or_else (choose_up M q c c) 0
  chosen_are c q hc hq =
      rows_are parents (length M.parents) 129 (length M.methods + 1) before after I (λ k l. rw (parent k) (falling k l)) past
      (λ k. or_else (choose_up M q k k) 0) q (omega arith) (root_first q (omega arith)) (no_class q) (root_up_lem q (omega arith)) c hc
