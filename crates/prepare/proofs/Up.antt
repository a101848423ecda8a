-- Going up from class to parent, which always falls: what is said by rows is one step at a time.
use Prim.Native.Nat.{ℕ, zero, suc, ◌≤◌, ◌<◌}
use mathlib.Core.Path.{◌≡◌, refl, ap}
use mathlib.Core.Option.{none}
use mathlib.Core.List.{List, [], ◌++◌}
use native.Mathlib.Omega.{arith}
use Rattle.model.specs.Answer.{or_next, those}
use Rattle.model.specs.Tables.{Field, Module, parent_of, is_own, layout_up, layout, of_root}
use Rattle.model.specs.Step.{choose_up}

-- a step at each class from c on, n rows up at most
unfoldable go_up : {A : Type 0} → A → (ℕ → A → A) → (ℕ → ℕ) → ℕ → ℕ → A
go_up z step parent zero c = z
go_up z step parent (suc n) zero = z
go_up z step parent (suc n) (suc c) = step (suc c) (go_up z step parent n (parent (suc c)))

module _ {A : Type 0} (z : A) (step : ℕ → A → A) (parent : ℕ → ℕ) (falls : (c : ℕ) → 0 < c → parent c < c) where
  -- rows beyond the class's number change nothing
  enough : (n m c : ℕ) → c ≤ n → c ≤ m → go_up z step parent n c ≡ go_up z step parent m c
  unfolding go_up
  enough zero zero c h k = refl
  enough zero (suc m) zero h k = refl
  enough zero (suc m) (suc c) h k = absurd (omega arith)
  enough (suc n) zero zero h k = refl
  enough (suc n) zero (suc c) h k = absurd (omega arith)
  enough (suc n) (suc m) zero h k = refl
  enough (suc n) (suc m) (suc c) h k =
      let l : parent (suc c) < suc c = falls (suc c) (omega arith) in
      ap (step (suc c)) (enough n m (parent (suc c)) (omega arith) (omega arith))

  once : (c : ℕ) → 0 < c → go_up z step parent c c ≡ step c (go_up z step parent (parent c) (parent c))
  unfolding go_up
  once zero h = absurd (omega arith)
  once (suc c) h =
      let l : parent (suc c) < suc c = falls (suc c) (omega arith) in
      ap (step (suc c)) (enough c (parent (suc c)) (parent (suc c)) (omega arith) (omega arith))

-- ---- Fields

module _ (ps : List ℕ) (fs : List Field) (falls : (c : ℕ) → 0 < c → parent_of ps c < c) where
  layout_up_lem : (n c : ℕ) → layout_up ps fs n c ≡ go_up [] (λ k l. l ++ those (is_own k) fs) (parent_of ps) n c
  unfolding layout_up go_up
  layout_up_lem zero c = refl
  layout_up_lem (suc n) zero = refl
  layout_up_lem (suc n) (suc c) = ap (λ l. l ++ those (is_own (suc c)) fs) (layout_up_lem n (parent_of ps (suc c)))

  -- the fields of a class are those of its parent, then its own
  pub layout_once : (c : ℕ) → 0 < c → layout ps fs c ≡ layout ps fs (parent_of ps c) ++ those (is_own c) fs
  unfolding layout
  layout_once c h = rw (layout_up_lem c c, layout_up_lem (parent_of ps c) (parent_of ps c)) (once [] (λ k l. l ++ those (is_own k) fs) (parent_of ps) falls c h)

-- ---- Methods

module _ (M : Module) (falls : (c : ℕ) → 0 < c → parent_of M.parents c < c) (q : ℕ) where
  choose_up_lem : (n c : ℕ) → choose_up M q n c ≡ go_up none (λ k o. or_next (of_root M.methods k q) o) (parent_of M.parents) n c
  unfolding choose_up go_up
  choose_up_lem zero c = refl
  choose_up_lem (suc n) zero = refl
  choose_up_lem (suc n) (suc c) = ap (λ o. or_next (of_root M.methods (suc c) q) o) (choose_up_lem n (parent_of M.parents (suc c)))

  pub choose_once : (c : ℕ) → 0 < c → choose_up M q c c ≡ or_next (of_root M.methods c q) (choose_up M q (parent_of M.parents c) (parent_of M.parents c))
  choose_once c h =
      rw (choose_up_lem c c, choose_up_lem (parent_of M.parents c) (parent_of M.parents c))
      (once none (λ k o. or_next (of_root M.methods k q) o) (parent_of M.parents) falls c h)
