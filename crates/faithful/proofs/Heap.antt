-- What a change of the arrays does to the marks and the heap that are seen in them.
use Prim.Native.Nat.{ℕ, zero, suc, ◌+◌, ◌-◌, ◌*◌, ◌≤◌, ◌<◌}
use mathlib.Core.Path.{◌≡◌, refl, sym, subst, ◌∙◌}
use mathlib.Core.Bool.{true, not}
use mathlib.Core.Logic.{◌⊎◌, inl, inr}
use mathlib.Core.Option.{Option, none, some}
use mathlib.Core.List.{List, [], ◌∷◌, map}
use native.Mathlib.Omega.{arith}
use lib.ListN.{length, get_or, set, length-set}
use lib.Seq.{get_or-set_same, get_or-set_other}
use lib.Dec.{eqb}
use borrow.Author.Tests.{ne_eqb}
use Rattle.model.specs.Answer.{pick, or_else, at}
use Rattle.model.specs.Tables.{Ty, Module, layout, layout_up, field_types}
use Rattle.model.specs.State.{zero_of, Object, Heap, get, store, free_from, free, object_at, new_object}
use Rattle.model.specs.Step.{with_cell}
use Rattle.state.specs.View.{span, kind_of_type, value_by, seen, types_of, place_in, mark_in, marks_of}
use Rattle.state.specs.Order.{Fine, GoodMarks, GoodHeap}
use Rattle.faithful.proofs.Lists.{le_or_lt, is_or_not, get_d_span, span_set, small_set, at_in}
use Rattle.faithful.proofs.Seen.{seen_ext, seen_set, seen_zeros, place_seen}

-- ---- Marks

module _ (M : Module) (marks : List ℕ) (g : GoodMarks M marks) (k : ℕ) (lo : 0 < k) (hi : k ≤ length M.parents) (fin : Fine M) where
  pub mark_seen : get_or (marks_of M marks) (k - 1) true ≡ not (eqb (get_or marks k 0) 0)
  unfolding marks_of mark_in
  mark_seen = let e : suc (0 + (k - 1)) ≡ k = omega arith in get_d_span (mark_in marks) 0 (length M.parents) (k - 1) true (omega arith) ∙ rw e

  pub mark_set : marks_of M (set marks k 1) ≡ set (marks_of M marks) (k - 1) true
  unfolding marks_of mark_in
  mark_set =
      let e : suc (0 + (k - 1)) ≡ k = omega arith in
      let here : not (eqb (get_or (set marks k 1) (suc (0 + (k - 1))) 0) 0) ≡ true = rw (e, get_or-set_same marks k 1 0 (omega arith)) in
      let r : span (mark_in (set marks k 1)) 0 (length M.parents) ≡ set (span (mark_in marks) 0 (length M.parents)) (k - 1) (mark_in (set marks k 1) (0 + (k - 1))) =
      span_set (mark_in marks) (mark_in (set marks k 1)) 0 (length M.parents) (k - 1) (omega arith) (λ j n. rw (get_or-set_other marks k (suc j) 1 0 (λ z. n (omega arith)))) in
      r ∙ rw here

  pub marks_set_good : GoodMarks M (set marks k 1)
  marks_set_good =
      record {
        marks_long = simp length-set g.marks_long;
        marks_few = λ i. small_set marks k i 1 1 g.marks_few (omega arith);
        no_class = λ i o. get_or-set_other marks k i 1 0 (λ e. other i e o) ∙ g.no_class i o;
      }
    where
      other : (i : ℕ) → i ≡ k → (i ≡ 0) ⊎ (length M.parents < i) → ⊥
      other i e (inl z) = omega arith
      other i e (inr z) = omega arith

-- ---- The heap

-- the lowest free place
free_found : (f : ℕ → Option Object) (k i n m : ℕ) → i ≤ m → m < i + k → ((j : ℕ) → i ≤ j → j < m → (o : Object) × (f j ≡ some o)) → f m ≡ none → free_from n (span f i k) ≡ some (n + (m - i))
unfolding free_from span
free_found f zero i n m h l s e = absurd (omega arith)
free_found f (suc k) i n m h l s e = go (is_or_not i m) (λ a b. free_found f k (suc i) (suc n) m a b (λ j p q. s j (omega arith) q) e) where
  go : (i ≡ m) ⊎ (i ≡ m → ⊥) → (suc i ≤ m → m < suc i + k → free_from (suc n) (span f (suc i) k) ≡ some (suc n + (m - suc i))) → free_from n (f i ∷ span f (suc i) k) ≡ some (n + (m - i))
  go (inl z) r =
      let w : n + (m - i) ≡ n = omega arith in
      let q : f i ≡ none = rw z e in
      rw w (subst (λ (o : Option Object). free_from n (o ∷ span f (suc i) k) ≡ some n) (sym q) refl)
  go (inr z) r =
      let (o, q) = s i (omega arith) (omega arith) in
      let w : n + (m - i) ≡ suc n + (m - suc i) = omega arith in
      rw w (subst (λ (o : Option Object). free_from n (o ∷ span f (suc i) k) ≡ some (suc n + (m - suc i))) (sym q) (r (omega arith) (omega arith)))

free_none : (f : ℕ → Option Object) (k i n : ℕ) → ((j : ℕ) → i ≤ j → j < i + k → (o : Object) × (f j ≡ some o)) → free_from n (span f i k) ≡ none
unfolding free_from span
free_none f zero i n s = refl
free_none f (suc k) i n s =
    let (o, q) = s i (omega arith) (omega arith) in
    subst (λ (o : Option Object). free_from n (o ∷ span f (suc i) k) ≡ none) (sym q) (free_none f k (suc i) (suc n) (λ j p l. s j (omega arith) (omega arith)))

place_taken : (M : Module) (classes heap : List ℕ) (j : ℕ) → 0 < get_or classes j 0 → place_in M classes heap j ≡ some (record { class = get_or classes j 0; cells = seen (types_of M (get_or classes j 0)) heap (j * 8) })
unfolding place_in pick
place_taken M classes heap j h = rw (ne_eqb (get_or classes j 0) 0 (λ e. omega arith))

place_free : (M : Module) (classes heap : List ℕ) (j : ℕ) → get_or classes j 0 ≡ 0 → place_in M classes heap j ≡ none
unfolding place_in pick
place_free M classes heap j h = rw h

-- no class stands at row 0
none_at_zero : (M : Module) → types_of M 0 ≡ []
unfolding types_of field_types layout layout_up
none_at_zero M = refl

module _ (M : Module) (fin : Fine M) (made : ℕ) (classes heap : List ℕ) (g : GoodHeap M made classes heap) where
  abbrev seen_heap : List ℕ → List ℕ → Heap
  seen_heap k h = span (place_in M k h) 0 256

  -- objects are numbered as made
  pub free_seen : made < 256 → free (seen_heap classes heap) ≡ some (suc made)
  unfolding free
  free_seen h =
      let e : 1 + (made - 0) ≡ suc made = omega arith in
      free_found (place_in M classes heap) 256 0 1 made (omega arith) (omega arith) (λ j p q. (_, place_taken M classes heap j (g.taken j q).0)) (place_free M classes heap made (g.unmade made (omega arith))) ∙ rw e

  pub free_full : 256 ≤ made → free (seen_heap classes heap) ≡ none
  unfolding free
  free_full h = free_none (place_in M classes heap) 256 0 1 (λ j p q. (_, place_taken M classes heap j (g.taken j (omega arith)).0))

  -- the object with a number
  pub object_seen : (n : ℕ) → 0 < get_or classes n 0 → object_at (seen_heap classes heap) (suc n) ≡ record { class = get_or classes n 0; cells = seen (types_of M (get_or classes n 0)) heap (n * 8) }
  unfolding object_at get or_else
  object_seen n h = rw (place_seen M classes heap n g.classes_long, place_taken M classes heap n h)

  -- a number that has a class is an object made
  pub made_below : (n : ℕ) → 0 < get_or classes n 0 → n < made
  made_below n h = go (le_or_lt made n) where
    go : (made ≤ n) ⊎ (n < made) → n < made
    go (inl l) = let e = g.unmade n l in absurd (omega arith)
    go (inr l) = l

  field_kept : (n i v j : ℕ) → i < 8 → (j ≡ n → ⊥) → place_in M classes (set heap (n * 8 + i) v) j ≡ place_in M classes heap j
  unfolding place_in
  field_kept n i v j h q =
      let few = fin.cells_few (get_or classes j 0) in
      rw (seen_ext (types_of M (get_or classes j 0)) (set heap (n * 8 + i) v) heap (j * 8) (j * 8) (λ x p. get_or-set_other heap (n * 8 + i) (j * 8 + x) v 0 (λ e. q (omega arith))))

  -- a store of a field
  pub heap_put : (n i v : ℕ) (t : Ty) → 0 < get_or classes n 0 → at (types_of M (get_or classes n 0)) i ≡ some t
      → seen_heap classes (set heap (n * 8 + i) v) ≡ store (seen_heap classes heap) (suc n) (with_cell (object_at (seen_heap classes heap) (suc n)) i (value_by (kind_of_type t) v))
  unfolding store with_cell
  heap_put n i v t h a =
      let b = made_below n h in
      let few = fin.cells_few (get_or classes n 0) in
      let ins = at_in _ _ _ a in
      let s : seen_heap classes (set heap (n * 8 + i) v) ≡ set (seen_heap classes heap) n (place_in M classes (set heap (n * 8 + i) v) (0 + n)) =
      span_set (place_in M classes heap) (place_in M classes (set heap (n * 8 + i) v)) 0 256 n (omega arith) (λ j q. field_kept n i v j (omega arith) (λ x. q (omega arith))) in
      let x : 0 + n ≡ n = omega arith in
      let e : seen (types_of M (get_or classes n 0)) (set heap (n * 8 + i) v) (n * 8) ≡ set (seen (types_of M (get_or classes n 0)) heap (n * 8)) i (value_by (kind_of_type t) v) =
      seen_set (types_of M (get_or classes n 0)) heap (n * 8) i v t a (omega arith) in
      s ∙ rw (x, object_seen n h, place_taken M classes (set heap (n * 8 + i) v) n h, e)

  pub put_heap_good : (n i v : ℕ) (t : Ty) → at (types_of M (get_or classes n 0)) i ≡ some t → GoodHeap M made classes (set heap (n * 8 + i) v)
  put_heap_good n i v t a =
      let few = fin.cells_few (get_or classes n 0) in
      let ins = at_in _ _ _ a in
      record {
        classes_long = g.classes_long;
        heap_long = simp length-set g.heap_long;
        few = g.few;
        taken = g.taken;
        unmade = g.unmade;
        blank = λ s j q z. get_or-set_other heap (n * 8 + i) (s * 8 + j) v 0 (λ e. let x : s ≡ n = omega arith in let y : length (types_of M (get_or classes n 0)) ≤ j = rw x at z in omega arith) ∙ g.blank s j q z;
      }

  -- the cells of an object to be made
  blank_new : (j : ℕ) → j < 8 → get_or heap (made * 8 + j) 0 ≡ 0
  blank_new j h = g.blank made j h (rw (g.unmade made (omega arith), none_at_zero M) (omega arith))

  class_kept : (k j : ℕ) → (j ≡ made → ⊥) → place_in M (set classes made k) heap j ≡ place_in M classes heap j
  unfolding place_in
  class_kept k j q = rw (get_or-set_other classes made j k 0 q)

  -- an object made
  pub heap_grow : (k : ℕ) → made < 256 → 0 < k → seen_heap (set classes made k) heap ≡ store (seen_heap classes heap) (suc made) (new_object M k)
  unfolding store new_object types_of
  heap_grow k h p =
      let few = fin.cells_few k in
      let z : get_or (set classes made k) made 0 ≡ k = get_or-set_same classes made k 0 (omega arith) in
      let zp : 0 < get_or (set classes made k) made 0 = rw z p in
      let x : 0 + made ≡ made = omega arith in
      let s : seen_heap (set classes made k) heap ≡ set (seen_heap classes heap) made (place_in M (set classes made k) heap (0 + made)) =
      span_set (place_in M classes heap) (place_in M (set classes made k) heap) 0 256 made h (λ j q. class_kept k j (λ y. q (omega arith))) in
      let b : seen (types_of M k) heap (made * 8) ≡ map zero_of (types_of M k) = seen_zeros (types_of M k) heap (made * 8) (λ j l. blank_new j (omega arith)) in
      s ∙ rw (x, place_taken M (set classes made k) heap made zp, z, b)

  pub grow_good : (k : ℕ) → made < 256 → 0 < k → k ≤ length M.parents → GoodHeap M (suc made) (set classes made k) heap
  grow_good k h p q =
      record {
        classes_long = simp length-set g.classes_long;
        heap_long = g.heap_long;
        few = omega arith;
        taken = λ i l. took i (is_or_not i made) l;
        unmade = λ i l. get_or-set_other classes made i k 0 (λ e. omega arith) ∙ g.unmade i (omega arith);
        blank = λ s j l z. blanks s j (is_or_not s made) l z;
      }
    where
      took : (i : ℕ) → (i ≡ made) ⊎ (i ≡ made → ⊥) → i < suc made → (0 < get_or (set classes made k) i 0) × (get_or (set classes made k) i 0 ≤ length M.parents)
      took i (inl e) l = rw (e, get_or-set_same classes made k 0 (omega arith)) (p, q)
      took i (inr e) l = rw (get_or-set_other classes made i k 0 e) (g.taken i (omega arith))

      blanks : (s j : ℕ) → (s ≡ made) ⊎ (s ≡ made → ⊥) → j < 8 → length (types_of M (get_or (set classes made k) s 0)) ≤ j → get_or heap (s * 8 + j) 0 ≡ 0
      blanks s j (inl e) l z = rw e (blank_new j l)
      blanks s j (inr e) l z = g.blank s j l (rw (get_or-set_other classes made s k 0 e) at z)
