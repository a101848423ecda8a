-- Methods: what a new method, or a change of the last one, does to rows, roots, initialisers and columns.
use mathlib.Core.Path.{◌≡◌, refl, sym, ap, ◌∙◌, subst}
use Prim.Native.Nat.{ℕ, zero, suc, ◌+◌, ◌-◌, ◌≤◌, ◌<◌}
use mathlib.Core.Bool.{Bool, true, false, ◌&&◌}
use mathlib.Core.Option.{Option, none, some}
use mathlib.Core.List.{List, [], ◌∷◌, ◌++◌, append_assoc}
use native.Mathlib.Omega.{arith}
use native.Mathlib.Numerals.{add-one}
use native.Mathlib.Decide.{ℕ_discrete}
use lib.ListN.{length, get_or, set, length-set}
use lib.Seq.{get_or-set_same, get_or-set_other}
use lib.Dec.{ltb, eqb}
use borrow.Author.Tests.{ltb-true, eq-eqb, ne_eqb, lt-ltb, le-ltb, ltb-false}
use Rattle.model.specs.Answer.{pick, or_else, or_next, only_if, map_option, at, row, on_last, last_of}
use Rattle.model.specs.Tables.{Ty, byte_of, Sort, initialiser, sort_byte, is_sort, Method, no_method, method_at, this_of, arguments, root_up, root, initialiser_of}
use Rattle.model.specs.Loading.{with_param}
use Rattle.loaded.specs.Holds.{byte_at, from_row}
use Rattle.loader.specs.Stands.{method_column, root_at, method_cell, marked, InitialiserRows}
use Rattle.loader.proofs.Rows.{row_here, row_there, row_last, row_kept, row_some, at_here, at_there, first_snoc, first_kept, grown, last_row, row_past, drop_at}

-- ---- Rows

pub method_here : (ms : List Method) (m : Method) → method_at (ms ++ (m ∷ [])) (length ms + 1) ≡ m
unfolding method_at or_else
method_here ms m = ap (λ (k : ℕ). or_else (row (ms ++ (m ∷ [])) k) no_method) (add-one (length ms)) ∙ ap (λ (o : Option Method). or_else o no_method) (row_here ms m)

pub method_there : (ms : List Method) (m : Method) (r : ℕ) → (r ≡ length ms + 1 → ⊥) → method_at (ms ++ (m ∷ [])) r ≡ method_at ms r
unfolding method_at
method_there ms m r n = ap (λ (o : Option Method). or_else o no_method) (row_there ms m r (λ e. n (e ∙ sym (add-one (length ms)))))

-- what holds of each row before, and of the new one, holds of each row after
pub rows_snoc : (ms : List Method) (m : Method) (P : ℕ → Method → Type 0) → ((r : ℕ) → P r (method_at ms r)) → P (length ms + 1) m → (r : ℕ) → P r (method_at (ms ++ (m ∷ [])) r)
rows_snoc ms m P h new r = go (ℕ_discrete r (length ms + 1))
  where
    go : Dec (r ≡ length ms + 1) → P r (method_at (ms ++ (m ∷ [])) r)
    go (yes e) = subst (λ (k : ℕ). P k (method_at (ms ++ (m ∷ [])) k)) (sym e) (subst (P (length ms + 1)) (sym (method_here ms m)) new)
    go (no n) = subst (P r) (sym (method_there ms m r n)) (h r)

pub method_kept : (f : Method → Method) (ms : List Method) (r : ℕ) → (r ≡ length ms → ⊥) → method_at (on_last f ms) r ≡ method_at ms r
unfolding method_at
method_kept f ms r n = ap (λ (o : Option Method). or_else o no_method) (row_kept f ms r n)

-- a row is there up to their number
row_is : {A : Type 0} (l : List A) (r : ℕ) → 0 < r → r ≤ length l → (x : A) × (row l r ≡ some x)
unfolding row
row_is l zero lo hi = absurd (omega arith)
row_is l (suc r) lo hi = let w = drop_at l r (omega arith) in (w.0, w.1)

pub method_last : (f : Method → Method) (ms : List Method) → 0 < length ms → method_at (on_last f ms) (length ms) ≡ f (method_at ms (length ms))
unfolding method_at or_else map_option
method_last f ms h =
    let w = row_is ms (length ms) h (omega arith) in
    ap (λ (o : Option Method). or_else o no_method) (row_last f ms ∙ ap (map_option f) w.1) ∙ ap (λ (o : Option Method). f (or_else o no_method)) (sym w.1)

-- what the change does not touch is as it was at each row
pub unchanged : {X : Type 0} (h : Method → X) (f : Method → Method) → ((m : Method) → h (f m) ≡ h m) → (ms : List Method) (r : ℕ) → h (method_at (on_last f ms) r) ≡ h (method_at ms r)
unfolding method_at or_else map_option
unchanged h f same ms r = go (ℕ_discrete r (length ms))
  where
    one : (o : Option Method) → h (or_else (map_option f o) no_method) ≡ h (or_else o no_method)
    one none = refl
    one (some m) = same m

    go : Dec (r ≡ length ms) → h (or_else (row (on_last f ms) r) no_method) ≡ h (or_else (row ms r) no_method)
    go (yes e) =
        ap (λ (k : ℕ). h (or_else (row (on_last f ms) k) no_method)) e
        ∙ ap (λ (o : Option Method). h (or_else o no_method)) (row_last f ms)
        ∙ one (row ms (length ms))
        ∙ ap (λ (k : ℕ). h (or_else (row ms k) no_method)) (sym e)
    go (no n) = ap (λ (o : Option Method). h (or_else o no_method)) (row_kept f ms r n)

-- past the last there is none
pub method_past : (ms : List Method) (r : ℕ) → length ms < r → method_at ms r ≡ no_method
unfolding method_at or_else
method_past ms r h = ap (λ (o : Option Method). or_else o no_method) (row_past ms r h)

-- the last method is the one at the row of their number
pub latest_at : (ms : List Method) → last_of no_method ms ≡ method_at ms (length ms)
unfolding method_at
latest_at ms = sym (last_row no_method ms)

-- ---- Roots

abbrev pub Downward : List Method → Type 0
Downward ms = (r : ℕ) → 0 < r → (method_at ms r).overridden < r

pub overrides_below : (ms : List Method) → Downward ms → (r : ℕ) → (method_at ms r).overridden ≤ length ms
unfolding no_method method_at row or_else
overrides_below ms earlier zero = omega arith
overrides_below ms earlier (suc r) = go (ltb (length ms) (suc r)) refl
  where
    go : (b : Bool) → ltb (length ms) (suc r) ≡ b → (method_at ms (suc r)).overridden ≤ length ms
    go true e = let q : (method_at ms (suc r)).overridden ≡ 0 = ap (λ (m : Method). m.overridden) (method_past ms (suc r) (ltb-true (length ms) (suc r) e)) in omega arith
    go false e = let q = ltb-false (length ms) (suc r) e in let l = earlier (suc r) (omega arith) in omega arith

-- roots go by what the rows below override
pub root_same : (ms ns : List Method) → Downward ms → (n j r : ℕ) → r ≤ n → r ≤ j → ((k : ℕ) → k ≤ r → (method_at ns k).overridden ≡ (method_at ms k).overridden) → root_up ns j r ≡ root_up ms n r
unfolding root_up method_at or_else row no_method pick
root_same ms ns earlier zero zero r hn hj agree = refl
root_same ms ns earlier zero (suc j) zero hn hj agree = refl
root_same ms ns earlier zero (suc j) (suc r) hn hj agree = absurd (omega arith)
root_same ms ns earlier (suc n) zero zero hn hj agree = refl
root_same ms ns earlier (suc n) zero (suc r) hn hj agree = absurd (omega arith)
root_same ms ns earlier (suc n) (suc j) zero hn hj agree = refl
root_same ms ns earlier (suc n) (suc j) (suc r) hn hj agree =
    let a = (method_at ms (suc r)).overridden in
    let l : (method_at ms (suc r)).overridden < suc r = earlier (suc r) (omega arith) in
    ap (λ (k : ℕ). pick (eqb k 0) (suc r) (root_up ns j k)) (agree (suc r) (omega arith))
    ∙ ap (pick (eqb a 0) (suc r)) (root_same ms ns earlier n j a (omega arith) (omega arith) (λ k h. agree k (omega arith)))

pub root_old : (ms : List Method) (m : Method) → Downward ms → (r : ℕ) → r ≤ length ms → root (ms ++ (m ∷ [])) r ≡ root ms r
unfolding root
root_old ms m earlier r h = root_same ms (ms ++ (m ∷ [])) earlier r r r (omega arith) (omega arith) (λ k q. ap (λ (x : Method). x.overridden) (method_there ms m k (λ e. omega arith)))

pub root_new : (ms : List Method) (m : Method) → Downward ms → m.overridden ≤ length ms → root (ms ++ (m ∷ [])) (length ms + 1) ≡ pick (eqb m.overridden 0) (length ms + 1) (root ms m.overridden)
unfolding root root_up
root_new ms m earlier h =
    ap (λ (k : ℕ). root_up (ms ++ (m ∷ [])) k (length ms + 1)) (add-one (length ms))
    ∙ ap (λ (x : Method). pick (eqb x.overridden 0) (length ms + 1) (root_up (ms ++ (m ∷ [])) (length ms) x.overridden)) (method_here ms m)
    ∙ ap (pick (eqb m.overridden 0) (length ms + 1))
    (root_same ms (ms ++ (m ∷ [])) earlier m.overridden (length ms) m.overridden (omega arith) h (λ k q. ap (λ (x : Method). x.overridden) (method_there ms m k (λ e. omega arith))))

pub root_last : (f : Method → Method) → ((m : Method) → (f m).overridden ≡ m.overridden) → (ms : List Method) → Downward ms → (r : ℕ) → root (on_last f ms) r ≡ root ms r
unfolding root
root_last f same ms earlier r = root_same ms (on_last f ms) earlier r r r (omega arith) (omega arith) (λ k q. unchanged (λ m. m.overridden) f same ms k)

-- ---- Initialisers

or_none : {A : Type 0} (o : Option A) → or_next o none ≡ o
unfolding or_next
or_none none = refl
or_none (some a) = refl

marked_long : (a : List ℕ) (s o r : ℕ) → length (marked a s o r) ≡ length a
unfolding marked pick
marked_long a s o r = go (eqb s 4)
  where
    go : (b : Bool) → length (pick b (set a o r) a) ≡ length a
    go true = length-set a o r
    go false = refl

module _ (ms : List Method) (m : Method) where
  init_snoc : (c : ℕ) → initialiser_of (ms ++ (m ∷ [])) c ≡ or_next (initialiser_of ms c) (only_if (eqb m.owner c && is_sort m.sort initialiser) (some (1 + length ms)))
  unfolding initialiser_of
  init_snoc c = first_snoc (λ r x. eqb x.owner c && is_sort x.sort initialiser) 1 ms m

  init_other : (c : ℕ) → eqb m.owner c && is_sort m.sort initialiser ≡ false → initialiser_of (ms ++ (m ∷ [])) c ≡ initialiser_of ms c
  unfolding only_if
  init_other c e = init_snoc c ∙ ap (λ (b : Bool). or_next (initialiser_of ms c) (only_if b (some (1 + length ms)))) e ∙ or_none (initialiser_of ms c)

  init_here : is_sort m.sort initialiser ≡ true → initialiser_of ms m.owner ≡ none → or_else (initialiser_of (ms ++ (m ∷ [])) m.owner) 0 ≡ length ms + 1
  unfolding only_if or_next or_else
  init_here e n =
      ap (λ (o : Option ℕ). or_else o 0)
      (init_snoc m.owner
      ∙ ap (λ (o : Option ℕ). or_next o (only_if (eqb m.owner m.owner && is_sort m.sort initialiser) (some (1 + length ms)))) n
      ∙ ap (λ (b : Bool). only_if (b && is_sort m.sort initialiser) (some (1 + length ms))) (eq-eqb m.owner m.owner refl)
      ∙ ap (λ (b : Bool). only_if b (some (1 + length ms))) e)
      ∙ omega arith

  and_false : (a : Bool) → a && false ≡ false
  and_false true = refl
  and_false false = refl

  pub initialisers_new : {a : List ℕ} (s : ℕ) → eqb s 4 ≡ is_sort m.sort initialiser → m.owner < 33 → InitialiserRows ms a
      → (is_sort m.sort initialiser ≡ true → initialiser_of ms m.owner ≡ none) → InitialiserRows (ms ++ (m ∷ [])) (marked a s m.owner (length ms + 1))
  unfolding marked pick
  initialisers_new {a} s e small R single = record { long = marked_long a s m.owner (length ms + 1) ∙ R.long; each = λ c. go c (eqb s 4) refl (ℕ_discrete c m.owner) }
    where
      go : (c : ℕ) (b : Bool) → eqb s 4 ≡ b → Dec (c ≡ m.owner) → get_or (pick b (set a m.owner (length ms + 1)) a) c 0 ≡ or_else (initialiser_of (ms ++ (m ∷ [])) c) 0
      go c true t (yes q) =
          ap (λ (k : ℕ). get_or (set a m.owner (length ms + 1)) k 0) q
          ∙ get_or-set_same a m.owner (length ms + 1) 0 (subst (λ (k : ℕ). m.owner < k) (sym R.long) small)
          ∙ sym (init_here (sym e ∙ t) (single (sym e ∙ t)))
          ∙ ap (λ (k : ℕ). or_else (initialiser_of (ms ++ (m ∷ [])) k) 0) (sym q)
      go c true t (no n) =
          get_or-set_other a m.owner c (length ms + 1) 0 n
          ∙ R.each c
          ∙ ap (λ (o : Option ℕ). or_else o 0) (sym (init_other c (ap (λ (b : Bool). b && is_sort m.sort initialiser) (ne_eqb m.owner c (λ q. n (sym q))))))
      go c false t d =
          R.each c
          ∙ ap (λ (o : Option ℕ). or_else o 0) (sym (init_other c (ap (λ (b : Bool). eqb m.owner c && b) (sym e ∙ t) ∙ and_false (eqb m.owner c))))

pub initialisers_last : (f : Method → Method) → ((m : Method) → (f m).owner ≡ m.owner) → ((m : Method) → (f m).sort ≡ m.sort) → (ms : List Method) {a : List ℕ} → InitialiserRows ms a → InitialiserRows (on_last f ms) a
unfolding initialiser_of
initialisers_last f own sort ms R = record { long = R.long; each = λ c. R.each c ∙ ap (λ (o : Option ℕ). or_else o 0) (sym (same c)) }
  where
    same : (c : ℕ) → initialiser_of (on_last f ms) c ≡ initialiser_of ms c
    same c =
        first_kept (λ r x. eqb x.owner c && is_sort x.sort initialiser) f
        (λ r x. ap (λ (k : ℕ). eqb k c && is_sort (f x).sort initialiser) (own x) ∙ ap (λ (k : Sort). eqb x.owner c && is_sort k initialiser) (sort x)) 1 ms

-- ---- Roots by row

pub root_there : (ms : List Method) (r : ℕ) → 0 < r → r ≤ length ms → root_at ms r ≡ root ms r
unfolding root_at from_row
root_there ms r lo hi = go (row ms r) refl
  where
    go : (o : Option Method) → row ms r ≡ o → from_row (λ (m : Method). root ms r) o ≡ root ms r
    go none e = absurd (gone ms r lo hi e)
      where
        gone : (ms : List Method) (r : ℕ) → 0 < r → r ≤ length ms → row ms r ≡ none → ⊥
        gone ms r lo hi e = let w = row_is ms r lo hi in let z : ◌≡◌ {A = ℕ} 0 1 = cc w.1 in omega arith
    go (some m) e = refl

pub root_past : (ms : List Method) (r : ℕ) → length ms < r → root_at ms r ≡ 0
unfolding root_at from_row
root_past ms r h = ap (from_row (λ (m : Method). root ms r)) (row_past ms r h)

pub root_snoc : (ms : List Method) (m : Method) → Downward ms → (r : ℕ) → (r ≡ length ms + 1 → ⊥) → root_at (ms ++ (m ∷ [])) r ≡ root_at ms r
unfolding root_at from_row
root_snoc ms m earlier r n = ap (from_row (λ (x : Method). root (ms ++ (m ∷ [])) r)) (row_there ms m r (λ e. n (e ∙ sym (add-one (length ms))))) ∙ go (row ms r) refl
  where
    go : (o : Option Method) → row ms r ≡ o → from_row (λ (x : Method). root (ms ++ (m ∷ [])) r) o ≡ from_row (λ (x : Method). root ms r) o
    go none e = refl
    go (some x) e = root_old ms m earlier r (row_some ms r x e).1

pub root_kept : (f : Method → Method) → ((m : Method) → (f m).overridden ≡ m.overridden) → (ms : List Method) → Downward ms → (r : ℕ) → root_at (on_last f ms) r ≡ root_at ms r
unfolding root_at from_row map_option
root_kept f same ms earlier r = ap (λ (n : ℕ). from_row (λ (x : Method). n) (row (on_last f ms) r)) (root_last f same ms earlier r) ∙ go (ℕ_discrete r (length ms))
  where
    one : (n : ℕ) (o : Option Method) → from_row (λ (x : Method). n) (map_option f o) ≡ from_row (λ (x : Method). n) o
    one n none = refl
    one n (some m) = refl

    go : Dec (r ≡ length ms) → from_row (λ (x : Method). root ms r) (row (on_last f ms) r) ≡ from_row (λ (x : Method). root ms r) (row ms r)
    go (yes e) =
        ap (λ (k : ℕ). from_row (λ (x : Method). root ms r) (row (on_last f ms) k)) e
        ∙ ap (from_row (λ (x : Method). root ms r)) (row_last f ms)
        ∙ one (root ms r) (row ms (length ms))
        ∙ ap (λ (k : ℕ). from_row (λ (x : Method). root ms r) (row ms k)) (sym e)
    go (no n) = ap (from_row (λ (x : Method). root ms r)) (row_kept f ms r n)

-- ---- Columns

-- the columns of a method's row
pub columns : (P : ℕ → Type 0) → ((k : ℕ) → k < 8 → P k) → ((i : ℕ) → i < 16 → P (8 + i)) → P 24 → P 25 → P 26 → P 27 → P 28 → P 29 → P 30 → P 31 → (k : ℕ) → k < 32 → P k
columns P arguments locals a b c d e f g h k l = go (ltb k 8) refl (ltb k 24) refl
  where
    last : (j : ℕ) → j < 8 → P (24 + j)
    last zero q = a
    last (suc zero) q = b
    last (suc (suc zero)) q = c
    last (suc (suc (suc zero))) q = d
    last (suc (suc (suc (suc zero)))) q = e
    last (suc (suc (suc (suc (suc zero))))) q = f
    last (suc (suc (suc (suc (suc (suc zero)))))) q = g
    last (suc (suc (suc (suc (suc (suc (suc zero))))))) q = h
    last (suc (suc (suc (suc (suc (suc (suc (suc j)))))))) q = absurd (omega arith)

    go : (x : Bool) → ltb k 8 ≡ x → (y : Bool) → ltb k 24 ≡ y → P k
    go true p y q = arguments k (ltb-true k 8 p)
    go false p true q =
        let u = ltb-false k 8 p in
        let v = ltb-true k 24 q in
        let z : 8 + (k - 8) ≡ k = omega arith in
        subst P z (locals (k - 8) (omega arith))
    go false p false q =
        let v = ltb-false k 24 q in
        let z : 24 + (k - 24) ≡ k = omega arith in
        subst P z (last (k - 24) (omega arith))

pub argument_column : (q : ℕ) (m : Method) (k : ℕ) → k < 8 → method_column q m k ≡ byte_at (at (arguments m) k)
unfolding method_column pick
argument_column q m k h = simp (lt-ltb k 8 h)

pub local_column : (q : ℕ) (m : Method) (i : ℕ) → i < 16 → method_column q m (8 + i) ≡ byte_at (at m.locals i)
unfolding method_column pick
local_column q m i h = simp (le-ltb (8 + i) 8 (omega arith), lt-ltb (8 + i) 24 (omega arith)) (ap (λ (k : ℕ). byte_at (at m.locals k)) eight)
  where
    eight : 8 + i - 8 ≡ i
    eight = omega arith

-- no method shows no cell
pub column_none : (k : ℕ) → k < 32 → method_column 0 no_method k ≡ 0
unfolding method_column no_method arguments this_of at byte_at sort_byte pick
column_none =
    columns (λ k. method_column 0 no_method k ≡ 0) (λ k h. argument_column 0 no_method k h) (λ i h. local_column 0 no_method i h) refl refl refl refl refl refl refl refl

pub cell_past : (ms : List Method) (r k : ℕ) → length ms < r → k < 32 → method_cell ms r k ≡ 0
unfolding method_cell
cell_past ms r k h l = ap (λ (q : ℕ). method_column q (method_at ms r) k) (root_past ms r h) ∙ ap (λ (m : Method). method_column 0 m k) (method_past ms r h) ∙ column_none k l

-- a list that grows by one shows one cell more
pub byte_there : (l : List Ty) (u : Ty) (k : ℕ) → (k ≡ length l → ⊥) → byte_at (at (l ++ (u ∷ [])) k) ≡ byte_at (at l k)
byte_there l u k n = ap byte_at (at_there l u k n)

pub byte_here : (l : List Ty) (u : Ty) → byte_at (at (l ++ (u ∷ [])) (length l)) ≡ byte_of u
unfolding byte_at
byte_here l u = ap byte_at (at_here l u)

pub arguments_param : (u : Ty) (m : Method) → arguments (with_param u m) ≡ arguments m ++ (u ∷ [])
unfolding arguments with_param
arguments_param u m = sym (append_assoc (this_of m.sort m.owner) m.params (u ∷ []))

pub arguments_more : (u : Ty) (m : Method) → length (arguments (with_param u m)) ≡ length (arguments m) + 1
arguments_more u m = ap length (arguments_param u m) ∙ grown (arguments m) u
