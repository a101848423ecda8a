-- The shape found before an instruction, told type by type; and the shapes found by row.
use Prim.Native.Nat.{ℕ, zero, suc, ◌-◌, ◌%◌, ◌≤◌, ◌<◌}
use mathlib.Core.Path.{◌≡◌, refl, sym, ap, ◌∙◌, subst}
use mathlib.Core.Option.{Option as ModelOption, none, some}
use Rattle.std.specs.Prelude.{Option, None, Some}
use mathlib.Core.List.{List, [], ◌∷◌, ◌++◌, append_assoc}
use native.Mathlib.Omega.{arith}
use lib.ListN.{length, get_or, set, drop, replicate, length-set, get_or-eq_default}
use lib.Seq.{drop-cons, drop-set-lt, get_or-set_same}
use Rattle.model.specs.Answer.{ok, or_else, at, row}
use Rattle.model.specs.Tables.{byte_of, Method, Module}
use Rattle.model.specs.Check.{Shape, Shapes, check_method, check_methods, check_module, found_at}
use Rattle.model.proofs.Hoare.{ok_eq, bind_inv, blame_inv}
use Rattle.shapes.specs.declared.shape.Pool.{Pool}
use Rattle.shapes.specs.Pool.{Fine, Shows}
use Rattle.shapes.proofs.Showing.{height}
use Rattle.shapes.proofs.Replies.{one}
use Rattle.visits.specs.Found.{Kept}
use Rattle.checker.specs.declared.tell.Found.{Found}
use Rattle.checker.specs.Told.{bottom_up, told}

-- ---- Type by type

-- what is still to be told, and what is told
pub record Telling (P : Pool) (S : Shape) (n x : ℕ) (types : List ℕ) : Type 0 where
  pub rest : Shape
  pub shows : Shows P rest x
  pub size : length rest ≡ n
  pub same : bottom_up rest ++ drop n types ≡ bottom_up S ++ replicate (32 - length S) 0

drop_zeros : (n k : ℕ) → ◌≡◌ {A = List ℕ} (drop k (replicate n 0)) (replicate (n - k) 0)
drop_zeros n zero = let z : n ≡ n - 0 = omega arith in ap (λ (j : ℕ). replicate j 0) z
drop_zeros zero (suc k) = let z : 0 ≡ 0 - suc k = omega arith in ap (λ (j : ℕ). replicate j 0) z
drop_zeros (suc n) (suc k) = let z : n - k ≡ suc n - suc k = omega arith in drop_zeros n k ∙ ap (λ (j : ℕ). replicate j 0) z

pub telling_start : (P : Pool) (S : Shape) (n x : ℕ) → Shows P S x → n ≡ get_or P.heights x 0 → Telling P S n x (replicate 32 0)
telling_start P S n x w e =
    let z : n ≡ length S = e ∙ height P S x w in
    record { rest = S; shows = w; size = sym z; same = ap (λ (l : List ℕ). bottom_up S ++ l) (drop_zeros 32 n ∙ ap (λ (k : ℕ). replicate (32 - k) 0) z) }

-- a store at the end of what is still to be told
store_drop : (l : List ℕ) (n v : ℕ) → n < length l → drop n (set l n v) ≡ v ∷ drop (suc n) l
store_drop l n v h =
    drop-cons (set l n v) n 0 (rw length-set h)
    ∙ ap (λ (k : ℕ). k ∷ drop (suc n) (set l n v)) (get_or-set_same l n v 0 h)
    ∙ ap (λ (k : List ℕ). v ∷ k) (drop-set-lt (suc n) l n v (omega arith))

module _ (P : Pool) (S : Shape) (n x : ℕ) (types : List ℕ) (t : Telling P S n x types) where
  pub telling_next : Fine P → 0 < n → length types ≡ 32 → n ≤ 32 → (b : ℕ) → b ≡ get_or P.belows x 0 % 2048
      → Telling P S (n - 1) b (set types (n - 1) (get_or P.tops x 0))
  unfolding bottom_up
  telling_next f h l m b e =
      let o = one P t.rest x f (rw (height P t.rest x t.shows, t.size) h) t.shows in
      let z : suc (n - 1) ≡ n = omega arith in
      record {
        rest = o.rest;
        shows = o.below b e;
        size = let q : suc (length o.rest) ≡ n = sym (ap length o.is) ∙ t.size in omega arith;
        same =
            ap (λ (k : List ℕ). bottom_up o.rest ++ k) (store_drop types (n - 1) (get_or P.tops x 0) (rw l (omega arith)) ∙ ap
            (λ (k : ℕ). get_or P.tops x 0 ∷ drop k types) z ∙ ap (λ (k : ℕ). k ∷ drop n types) (sym o.byte))
            ∙ sym (append_assoc (bottom_up o.rest) (byte_of o.top ∷ []) (drop n types))
            ∙ ap (λ (R : Shape). bottom_up R ++ drop n types) (sym o.is)
            ∙ t.same;
      }

  pub telling_end : (d : ℕ) → n ≤ 0 → d ≡ length S → ◌≡◌ {A = Option Found} (Some (record { depth = d; types = types })) (told (some S))
  unfolding told bottom_up
  telling_end d h e =
      let z : n ≡ 0 = omega arith in
      let q : types ≡ bottom_up S ++ replicate (32 - length S) 0 = sym (nil t.rest (t.size ∙ z)) ∙ ap (λ (k : ℕ). bottom_up t.rest ++ drop k types)
      (sym z) ∙ t.same in
      rw (e, q) refl
    where
      nil : (R : Shape) → length R ≡ 0 → bottom_up R ++ drop 0 types ≡ types
      nil [] e = refl
      nil (u ∷ R) e = absurd (omega arith)

-- ---- At an offset

module _ (P : Pool) (n : ℕ) (F : Shapes) (found : List ℕ) (k : Kept P n F found) (o : ℕ) where
  pub past_none : n ≤ o → get_or F o none ≡ none
  past_none h = get_or-eq_default F none (rw k.size h)

-- ---- By row

-- each method has the shapes that its check found
unfoldable Each : Module → ModelOption Method → ModelOption Shapes → Type 0
Each M none none = Unit {0}
Each M none (some F) = ⊥
Each M (some m) none = ⊥
Each M (some m) (some F) = check_method M m ≡ ok F

rows : (M : Module) (r : ℕ) (ms : List Method) (found : List Shapes) → check_methods M r ms ≡ ok found → (i : ℕ) → Each M (at ms i) (at found i)
unfolding check_methods at Each
rows M r [] found e i = subst (λ (l : List Shapes). Each M none (at l i)) (ok_eq e) tt
rows M r (m ∷ ms) found e i =
    let (F, p, q) = bind_inv _ _ _ e in
    let (l, u, v) = bind_inv _ _ _ q in
    subst (λ (x : List Shapes). Each M (at (m ∷ ms) i) (at x i)) (ok_eq v) (go F l (blame_inv _ _ _ p) (rows M (suc r) ms l u) i)
  where
    go : (F : Shapes) (l : List Shapes) → check_method M m ≡ ok F → ((j : ℕ) → Each M (at ms j) (at l j)) → (i : ℕ) → Each M (at (m ∷ ms) i) (at (F ∷ l) i)
    go F l p h zero = p
    go F l p h (suc i) = h i

each : (M : Module) (found : List Shapes) → check_module M ≡ ok found → (r : ℕ) → Each M (row M.methods r) (row found r)
unfolding check_module row Each
each M found e zero = tt
each M found e (suc i) = rows M 1 M.methods found e i

module _ (M : Module) (found : List Shapes) (e : check_module M ≡ ok found) (r : ℕ) where
  pub no_method_lem : row M.methods r ≡ none → (o : ℕ) → found_at found r o ≡ none
  unfolding found_at or_else Each
  no_method_lem q o = go (row found r) (subst (λ (x : ModelOption Method). Each M x (row found r)) q (each M found e r))
    where
      go : (R : ModelOption Shapes) → Each M none R → get_or (or_else R []) o none ≡ none
      go none h = refl
      go (some F) h = absurd h

  pub method_found : (m : Method) (F : Shapes) → row M.methods r ≡ some m → check_method M m ≡ ok F → (o : ℕ) → found_at found r o ≡ get_or F o none
  unfolding found_at or_else Each
  method_found m F q p o = go (row found r) (subst (λ (x : ModelOption Method). Each M x (row found r)) q (each M found e r))
    where
      go : (R : ModelOption Shapes) → Each M (some m) R → get_or (or_else R []) o none ≡ get_or F o none
      go none h = absurd h
      go (some G) h = ap (λ (H : Shapes). get_or H o none) (ok_eq (sym h ∙ p))

  -- the method's check passes
  pub method_passed : (m : Method) → row M.methods r ≡ some m → (F : Shapes) × (check_method M m ≡ ok F)
  unfolding Each
  method_passed m q = go (row found r) (subst (λ (x : ModelOption Method). Each M x (row found r)) q (each M found e r))
    where
      go : (R : ModelOption Shapes) → Each M (some m) R → (F : Shapes) × (check_method M m ≡ ok F)
      go none h = absurd h
      go (some G) h = (G, h)

pub row_past : {A : Type 0} (l : List A) (r : ℕ) → length l < r → row l r ≡ none
unfolding row at
row_past l zero h = refl
row_past [] (suc r) h = refl
row_past (x ∷ l) (suc zero) h = absurd (omega arith)
row_past (x ∷ l) (suc (suc r)) h = row_past l (suc r) (omega arith)

pub row_none : {A : Type 0} (l : List A) (r : ℕ) → r < 1 → row l r ≡ none
unfolding row
row_none l zero h = refl
row_none l (suc r) h = absurd (omega arith)

pub told_none : (R : ModelOption Shape) → R ≡ none → None ≡ told R
unfolding told
told_none R e = rw e refl
