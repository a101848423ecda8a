-- What follows from a module's rows: tokens, initialisers, roots, and the method that callvirt takes.
use Prim.Native.Nat.{ℕ, zero, suc, ◌-◌, ◌/◌, ◌%◌, ◌≤◌, ◌<◌}
use mathlib.Core.Path.{◌≡◌, refl, sym, ap, subst, ◌∙◌}
use mathlib.Core.Bool.{Bool, true, false, not, ◌&&◌}
use mathlib.Core.Logic.{◌⊎◌, inl, inr}
use mathlib.Core.Option.{Option, none, some}
use mathlib.Core.List.{List, [], ◌∷◌, ◌++◌, map}
use native.Mathlib.Omega.{arith}
use lib.ListN.{length}
use lib.Dec.{leb, eqb}
use borrow.Author.Tests.{le-leb, lt-leb, eqb-true, eqb-false, leb-true}
use Rattle.model.specs.Answer.{pick, only_if, or_else, or_next, map_option, at, row, first_row}
use Rattle.model.specs.Tables.{Ty, Sort, static, instance, virtual, constructor, initialiser, sort_byte, is_sort, Field, Method, Module, no_method, method_at, this_of, arguments, as_list, due, parent_of, root_up, root, of_root, initialiser_of}
use Rattle.model.specs.Loading.{within, no_field}
use Rattle.model.specs.Code.{Act, and_then, row_of, class_of, field_of, method_of, dispatched}
use Rattle.model.specs.Operators.{kind}
use Rattle.model.specs.Step.{choose_up}
use Rattle.state.specs.View.{kind_of_type}
use Rattle.state.specs.Order.{Named, AllNamed, Overrides, FineMethod, Fine}
use Rattle.state.specs.Work.{is_token}
use Rattle.faithful.proofs.Lists.{le_or_lt, and_true, and_l, and_r, at_out, at_in, at_some}

-- ---- Rows

module _ {A : Type 0} where
  pub row_some : (l : List A) (r : ℕ) → 0 < r → r ≤ length l → (x : A) × (row l r ≡ some x)
  unfolding row
  row_some l zero h k = absurd (omega arith)
  row_some l (suc r) h k = at_some l r (omega arith)

  pub row_in : (l : List A) (r : ℕ) (x : A) → row l r ≡ some x → (0 < r) × (r ≤ length l)
  unfolding row
  row_in l zero x e = let z : ◌≡◌ {A = ℕ} 0 1 = cc in absurd (omega arith)
  row_in l (suc r) x e = let h : r < length l = at_in l r x e in (omega arith, omega arith)

  row_none : (l : List A) (r : ℕ) → (r ≡ 0) ⊎ (length l < r) → row l r ≡ none
  unfolding row
  row_none l zero h = refl
  row_none l (suc r) (inl e) = absurd (omega arith)
  row_none l (suc r) (inr h) = at_out l r (omega arith)

  -- what stands at a row and passes a test
  row_only : {B : Type 0} (l : List A) (r : ℕ) (q : A → Bool) (f : A → B) (d : A)
      → and_then (row l r) (λ x. only_if (q x) (some (f x))) ≡ only_if (within 1 (length l) r && q (or_else (row l r) d)) (some (f (or_else (row l r) d)))
  unfolding and_then only_if or_else within
  row_only l r q f d = go (le_or_lt 1 r) (le_or_lt r (length l)) where
    go : (1 ≤ r) ⊎ (r < 1) → (r ≤ length l) ⊎ (length l < r)
        → and_then (row l r) (λ x. only_if (q x) (some (f x))) ≡ only_if (leb 1 r && leb r (length l) && q (or_else (row l r) d)) (some (f (or_else (row l r) d)))
    go (inl a) (inl b) = let (x, e) = row_some l r (omega arith) b in rw (le-leb 1 r a, le-leb r (length l) b) (subst (λ (o : Option A). and_then o (λ x. only_if (q x) (some (f x))) ≡ only_if (q (or_else o d)) (some (f (or_else o d)))) (sym e) refl)
    go (inl a) (inr b) = rw (row_none l r (inr b), le-leb 1 r a, lt-leb r (length l) b)
    go (inr a) b = rw (row_none l r (inl (omega arith)), lt-leb 1 r a)

  pub row_is : (l : List A) (r : ℕ) (d : A) → within 1 (length l) r ≡ true → row l r ≡ some (or_else (row l r) d)
  unfolding within or_else
  row_is l r d e =
      let a : 1 ≤ r = leb-true 1 r (and_l _ _ e) in
      let b : r ≤ length l = leb-true r (length l) (and_r (leb 1 r) (leb r (length l)) e) in
      let (x, q) = row_some l r (omega arith) b in
      subst (λ (o : Option A). o ≡ some (or_else o d)) (sym q) refl

-- ---- Tokens

-- the field at a row
unfoldable pub field_at : List Field → ℕ → Field
field_at fs r = or_else (row fs r) no_field

module _ (M : Module) where
  pub method_token : (p : Sort → Bool) (f : ℕ → Method → Act) (t : ℕ)
      → method_of M p f t ≡ only_if (is_token 6 (length M.methods) t && p (method_at M.methods (t % 0x1000000)).sort) (some (f (t % 0x1000000) (method_at M.methods (t % 0x1000000))))
  unfolding method_of row_of and_then only_if is_token method_at
  method_token p f t = go (eqb (t / 0x1000000) 6) where
    go : (b : Bool) → and_then (only_if b (some (t % 0x1000000))) (λ r. and_then (row M.methods r) (λ m. only_if (p m.sort) (some (f r m))))
        ≡ only_if (b && within 1 (length M.methods) (t % 0x1000000) && p (or_else (row M.methods (t % 0x1000000)) no_method).sort) (some (f (t % 0x1000000) (or_else (row M.methods (t % 0x1000000)) no_method)))
    go true = row_only M.methods (t % 0x1000000) (λ m. p m.sort) (λ m. f (t % 0x1000000) m) no_method
    go false = refl

  pub field_token : (s : Bool) (f : ℕ → Field → Act) (t : ℕ)
      → field_of M s f t ≡ only_if (is_token 4 (length M.fields) t && pick s (field_at M.fields (t % 0x1000000)).is_static (not (field_at M.fields (t % 0x1000000)).is_static)) (some (f (t % 0x1000000) (field_at M.fields (t % 0x1000000))))
  unfolding field_of row_of and_then only_if is_token field_at
  field_token s f t = go (eqb (t / 0x1000000) 4) where
    go : (b : Bool) → and_then (only_if b (some (t % 0x1000000))) (λ r. and_then (row M.fields r) (λ d. only_if (pick s d.is_static (not d.is_static)) (some (f r d))))
        ≡ only_if (b && within 1 (length M.fields) (t % 0x1000000) && pick s (or_else (row M.fields (t % 0x1000000)) no_field).is_static (not (or_else (row M.fields (t % 0x1000000)) no_field).is_static)) (some (f (t % 0x1000000) (or_else (row M.fields (t % 0x1000000)) no_field)))
    go true = row_only M.fields (t % 0x1000000) (λ d. pick s d.is_static (not d.is_static)) (λ d. f (t % 0x1000000) d) no_field
    go false = refl

  map_only : {A B : Type 0} (f : A → B) (o : Option ℕ) (r : A) → map_option f (map_option (λ _. r) o) ≡ and_then o (λ x. only_if true (some (f r)))
  unfolding map_option and_then only_if
  map_only f none r = refl
  map_only f (some x) r = refl

  pub class_token : (f : ℕ → Act) (t : ℕ) → map_option f (class_of M t) ≡ only_if (is_token 2 (length M.parents) t) (some (f (t % 0x1000000)))
  unfolding class_of row_of and_then only_if is_token map_option
  class_token f t = go (eqb (t / 0x1000000) 2) where
    go : (b : Bool) → map_option f (and_then (only_if b (some (t % 0x1000000))) (λ r. map_option (λ _. r) (row M.parents r)))
        ≡ only_if (b && within 1 (length M.parents) (t % 0x1000000)) (some (f (t % 0x1000000)))
    go true = map_only f (row M.parents (t % 0x1000000)) (t % 0x1000000) ∙ row_only M.parents (t % 0x1000000) (λ _. true) (λ _. f (t % 0x1000000)) 0 ∙ rw (and_true (within 1 (length M.parents) (t % 0x1000000)))
    go false = refl

pub token_row : (k n t : ℕ) → is_token k n t ≡ true → within 1 n (t % 0x1000000) ≡ true
unfolding is_token
token_row k n t e = and_r (eqb (t / 0x1000000) k) (within 1 n (t % 0x1000000)) e

-- the sorts that callvirt takes are 1 and 2
pub dispatched_is : (s : Sort) → dispatched s ≡ within 1 2 (sort_byte s)
unfolding dispatched within sort_byte is_sort
dispatched_is static = refl
dispatched_is instance = refl
dispatched_is virtual = refl
dispatched_is constructor = refl
dispatched_is initialiser = refl

pub sort_is : (s t : Sort) → is_sort s t ≡ true → s ≡ t
unfolding is_sort sort_byte
sort_is static static e = refl
sort_is static instance e = cc
sort_is static virtual e = cc
sort_is static constructor e = cc
sort_is static initialiser e = cc
sort_is instance static e = cc
sort_is instance instance e = refl
sort_is instance virtual e = cc
sort_is instance constructor e = cc
sort_is instance initialiser e = cc
sort_is virtual static e = cc
sort_is virtual instance e = cc
sort_is virtual virtual e = refl
sort_is virtual constructor e = cc
sort_is virtual initialiser e = cc
sort_is constructor static e = cc
sort_is constructor instance e = cc
sort_is constructor virtual e = cc
sort_is constructor constructor e = refl
sort_is constructor initialiser e = cc
sort_is initialiser static e = cc
sort_is initialiser instance e = cc
sort_is initialiser virtual e = cc
sort_is initialiser constructor e = cc
sort_is initialiser initialiser e = refl

-- ---- The first row that passes a test

first_found : {A : Type 0} (p : ℕ → A → Bool) (k : ℕ) (l : List A) (x : ℕ) → first_row p k l ≡ some x → (k ≤ x) × ((a : A) × ((at l (x - k) ≡ some a) × (p x a ≡ true)))
unfolding first_row at pick
first_found p k [] x e = let z : ◌≡◌ {A = ℕ} 0 1 = cc in absurd (omega arith)
first_found {A = A} p k (y ∷ l) x e = go (p k y) refl e (first_found p (suc k) l x) where
  go : (b : Bool) → p k y ≡ b → pick b (some k) (first_row p (suc k) l) ≡ some x
      → (first_row p (suc k) l ≡ some x → (suc k ≤ x) × ((a : A) × ((at l (x - suc k) ≡ some a) × (p x a ≡ true))))
      → (k ≤ x) × ((a : A) × ((at (y ∷ l) (x - k) ≡ some a) × (p x a ≡ true)))
  go true t q r = let w : k ≡ x = cc in let n : x - k ≡ 0 = omega arith in (omega arith, (y, (rw n refl, rw w at t)))
  go false t q r = let (h, (a, (u, v))) = r q in let n : x - k ≡ suc (x - suc k) = omega arith in (omega arith, (a, (rw n u, v)))

pub first_row_lem : {A : Type 0} (p : ℕ → A → Bool) (l : List A) (x : ℕ) → first_row p 1 l ≡ some x → (a : A) × ((row l x ≡ some a) × (p x a ≡ true))
unfolding row
first_row_lem {A = A} p l x e = go x (first_found p 1 l x e) where
  go : (y : ℕ) → (1 ≤ y) × ((a : A) × ((at l (y - 1) ≡ some a) × (p y a ≡ true))) → (a : A) × ((row l y ≡ some a) × (p y a ≡ true))
  go zero r = absurd (omega arith)
  go (suc y) r = let n : suc y - 1 ≡ y = omega arith in (r.1.0, (rw n at r.1.1.0, r.1.1.1))

-- ---- Methods

pub method_is : (ms : List Method) (r : ℕ) (m : Method) → row ms r ≡ some m → method_at ms r ≡ m
unfolding method_at or_else
method_is ms r m e = rw e

-- methods of one root take the same and give the same
pub record Alike (m o : Method) : Type 0 where
  pub same_sort : m.sort ≡ o.sort
  pub same_params : m.params ≡ o.params
  pub same_returns : m.returns ≡ o.returns

pub record Rooted (M : Module) (r q : ℕ) : Type 0 where
  pub above : 0 < q
  pub below : q ≤ length M.methods
  pub alike : Alike (method_at M.methods r) (method_at M.methods q)

module _ (M : Module) (fin : Fine M) where
  -- what holds of every method's record, and of what stands for a missing one
  pub every : (P : Method → Type 0) → ((r : ℕ) (m : Method) → FineMethod M r m → P m) → P no_method → (r : ℕ) → P (method_at M.methods r)
  unfolding method_at or_else
  every P h z r = go (row M.methods r) (λ m e. h r m (fin.method r m e)) where
    go : (o : Option Method) → ((m : Method) → o ≡ some m → P m) → P (or_else o no_method)
    go none f = z
    go (some m) f = f m refl

  pub stack_few : (r : ℕ) → (method_at M.methods r).max_stack ≤ 32
  unfolding no_method
  stack_few r = every (λ m. m.max_stack ≤ 32) (λ r m f. f.stack_few) (omega arith) r

  pub arguments_few : (r : ℕ) → length (arguments (method_at M.methods r)) ≤ 8
  unfolding no_method arguments this_of
  arguments_few r = every (λ m. length (arguments m) ≤ 8) (λ r m f. f.arguments_few) (omega arith) r

  pub locals_few : (r : ℕ) → length (method_at M.methods r).locals ≤ 16
  unfolding no_method
  locals_few r = every (λ m. length m.locals ≤ 16) (λ r m f. f.locals_few) (omega arith) r

  pub locals_named : (r : ℕ) → AllNamed (method_at M.methods r).locals
  unfolding no_method AllNamed
  locals_named r = every (λ m. AllNamed m.locals) (λ r m f. f.locals_named) tt r

  pub due_named : (r : ℕ) → AllNamed (due (method_at M.methods r))
  unfolding no_method AllNamed due as_list
  due_named r = every (λ m. AllNamed (due m)) (λ r m f. f.due_named) tt r

  this_named : (s : Sort) (c : ℕ) (ts : List Ty) → (0 < c) × (c ≤ 32) → AllNamed ts → AllNamed (this_of s c ++ ts)
  unfolding this_of AllNamed Named
  this_named static c ts h n = n
  this_named instance c ts h n = (h, n)
  this_named virtual c ts h n = (h, n)
  this_named constructor c ts h n = (h, n)
  this_named initialiser c ts h n = n

  pub arguments_named : (r : ℕ) → AllNamed (arguments (method_at M.methods r))
  unfolding no_method AllNamed arguments this_of
  arguments_named r = every (λ m. AllNamed (arguments m)) (λ r m f. this_named m.sort m.owner m.params (owner_row m f.owned) f.params_named) tt r where
    owner_row : (m : Method) → (0 < m.owner) × (m.owner ≤ length M.parents) → (0 < m.owner) × (m.owner ≤ 32)
    owner_row m o = let l = o.0 in (l, omega arith)

  pub initialiser_void : (r : ℕ) → (method_at M.methods r).sort ≡ initialiser → due (method_at M.methods r) ≡ []
  unfolding no_method due as_list
  initialiser_void r = every (λ m. m.sort ≡ initialiser → due m ≡ []) (λ r m f e. rw (f.initialiser_bare e).1) (λ e. refl) r

  -- the initialiser of a class
  pub initialiser_row : (c r : ℕ) → initialiser_of M.methods c ≡ some r → (0 < r) × ((arguments (method_at M.methods r) ≡ []) × (due (method_at M.methods r) ≡ []))
  unfolding initialiser_of arguments due as_list this_of
  initialiser_row c r e =
      let (m, (q, t)) = first_row_lem (λ r m. eqb m.owner c && is_sort m.sort initialiser) M.methods r e in
      let s : m.sort ≡ initialiser = sort_is m.sort initialiser (and_r (eqb m.owner c) (is_sort m.sort initialiser) t) in
      let f = fin.method r m q in
      let b = f.initialiser_bare s in
      ((row_in M.methods r m q).0, (rw (method_is M.methods r m q, s, b.0), rw (method_is M.methods r m q, b.1)))

  pub initialiser_owner : (c r : ℕ) → initialiser_of M.methods c ≡ some r → (method_at M.methods r).owner ≡ c
  unfolding initialiser_of
  initialiser_owner c r e =
      let (m, (q, t)) = first_row_lem (λ r m. eqb m.owner c && is_sort m.sort initialiser) M.methods r e in
      rw (method_is M.methods r m q) (eqb-true m.owner c (and_l (eqb m.owner c) (is_sort m.sort initialiser) t))

  pub initialiser_few : (c : ℕ) → or_else (initialiser_of M.methods c) 0 ≤ length M.methods
  unfolding initialiser_of or_else
  initialiser_few c = go (initialiser_of M.methods c) refl where
    go : (o : Option ℕ) → initialiser_of M.methods c ≡ o → or_else o 0 ≤ length M.methods
    go none e = omega arith
    go (some r) e = let (m, (q, t)) = first_row_lem (λ r m. eqb m.owner c && is_sort m.sort initialiser) M.methods r e in (row_in M.methods r m q).1

  -- ---- Roots

  root_up_lem : (n r : ℕ) → 0 < r → r ≤ length M.methods → Rooted M r (root_up M.methods n r)
  unfolding root_up pick
  root_up_lem zero r h k = record { above = h; below = k; alike = record { same_sort = refl; same_params = refl; same_returns = refl } }
  root_up_lem (suc n) r h k = go (eqb (method_at M.methods r).overridden 0) refl (λ p q. root_up_lem n (method_at M.methods r).overridden p q) where
    go : (b : Bool) → eqb (method_at M.methods r).overridden 0 ≡ b
        → (0 < (method_at M.methods r).overridden → (method_at M.methods r).overridden ≤ length M.methods → Rooted M (method_at M.methods r).overridden (root_up M.methods n (method_at M.methods r).overridden))
        → Rooted M r (pick b r (root_up M.methods n (method_at M.methods r).overridden))
    go true e f = record { above = h; below = k; alike = record { same_sort = refl; same_params = refl; same_returns = refl } }
    go false e f =
        let (m, q) = row_some M.methods r h k in
        let x : method_at M.methods r ≡ m = method_is M.methods r m q in
        let fm = fin.method r m q in
        let nz : (method_at M.methods r).overridden ≡ 0 → ⊥ = eqb-false _ _ e in
        let ov : Overrides m (method_at M.methods m.overridden) = fm.overriding (λ z. nz (rw x z)) in
        let ov' : Overrides (method_at M.methods r) (method_at M.methods (method_at M.methods r).overridden) = subst (λ (y : Method). Overrides y (method_at M.methods y.overridden)) (sym x) ov in
        let lt : (method_at M.methods r).overridden < r = subst (λ (y : Method). y.overridden < r) (sym x) fm.earlier in
        let R = f (omega arith) (omega arith) in
        record {
          above = R.above;
          below = R.below;
          alike = record {
            same_sort = (ov'.sort_virtual ∙ sym ov'.same_sort) ∙ R.alike.same_sort;
            same_params = ov'.same_params ∙ R.alike.same_params;
            same_returns = ov'.same_returns ∙ R.alike.same_returns;
          };
        }

  pub rooted : (r : ℕ) → 0 < r → r ≤ length M.methods → Rooted M r (root M.methods r)
  unfolding root
  rooted r h k = root_up_lem r r h k

  -- ---- The method that callvirt takes

  choose_found : (q n c x : ℕ) → choose_up M q n c ≡ some x → (m : Method) × ((row M.methods x ≡ some m) × (root M.methods x ≡ q))
  unfolding choose_up or_next of_root
  choose_found q zero c x e = let z : ◌≡◌ {A = ℕ} 0 1 = cc in absurd (omega arith)
  choose_found q (suc n) zero x e = let z : ◌≡◌ {A = ℕ} 0 1 = cc in absurd (omega arith)
  choose_found q (suc n) (suc c) x e = go (of_root M.methods (suc c) q) refl e (λ w. choose_found q n (parent_of M.parents (suc c)) x w) where
    go : (o : Option ℕ) → of_root M.methods (suc c) q ≡ o → or_next o (choose_up M q n (parent_of M.parents (suc c))) ≡ some x
        → (choose_up M q n (parent_of M.parents (suc c)) ≡ some x → (m : Method) × ((row M.methods x ≡ some m) × (root M.methods x ≡ q)))
        → (m : Method) × ((row M.methods x ≡ some m) × (root M.methods x ≡ q))
    go none h w f = f w
    go (some y) h w f =
        let v : y ≡ x = cc in
        let (m, (a, b)) = first_row_lem (λ r m. eqb m.owner (suc c) && eqb (root M.methods r) q) M.methods x (h ∙ ap some v) in
        (m, (a, eqb-true _ _ (and_r (eqb m.owner (suc c)) (eqb (root M.methods x) q) b)))

  pub chosen_alike : (r c x : ℕ) → 0 < r → r ≤ length M.methods → choose_up M (root M.methods r) c c ≡ some x
      → ((0 < x) × (x ≤ length M.methods)) × Alike (method_at M.methods x) (method_at M.methods r)
  chosen_alike r c x h k e =
      let (m, (a, b)) = choose_found (root M.methods r) c c x e in
      let i = row_in M.methods x m a in
      let X = rooted x i.0 i.1 in
      let R = rooted r h k in (
        i,
        subst (λ (q : ℕ). Alike (method_at M.methods x) (method_at M.methods q) → Alike (method_at M.methods x) (method_at M.methods r)) (sym b)
            (λ w. record { same_sort = w.same_sort ∙ sym R.alike.same_sort; same_params = w.same_params ∙ sym R.alike.same_params; same_returns = w.same_returns ∙ sym R.alike.same_returns }) X.alike,
      )

  this_kinds : (s : Sort) (c d : ℕ) (ts : List Ty) → map kind_of_type (this_of s c ++ ts) ≡ map kind_of_type (this_of s d ++ ts)
  unfolding this_of kind_of_type kind
  this_kinds static c d ts = refl
  this_kinds instance c d ts = refl
  this_kinds virtual c d ts = refl
  this_kinds constructor c d ts = refl
  this_kinds initialiser c d ts = refl

  pub alike_kinds : (m o : Method) → Alike m o → map kind_of_type (arguments m) ≡ map kind_of_type (arguments o)
  unfolding arguments
  alike_kinds m o a = rw (a.same_sort, a.same_params) (this_kinds o.sort m.owner o.owner o.params)

  pub alike_due : (m o : Method) → Alike m o → due m ≡ due o
  unfolding due
  alike_due m o a = rw a.same_returns
