-- The rules between records, as tests on the arrays.
use mathlib.Core.Path.{◌≡◌, refl, sym, ap, ◌∙◌, subst}
use Prim.Native.Nat.{ℕ, suc, ◌+◌, ◌*◌, ◌≤◌, ◌<◌}
use mathlib.Core.Bool.{Bool, true, false, not, ◌&&◌, ◌||◌}
use mathlib.Core.Option.{Option, none, some}
use mathlib.Core.List.{List, ◌∷◌, ◌++◌}
use native.Mathlib.Omega.{arith}
use lib.ListN.{length, get_or, get_or-eq_default}
use lib.Dec.{ltb, eqb}
use borrow.Author.Tests.{eq-eqb, ne_eqb, lt-leb, le-leb, le-ltb, lt-ltb, eqb-false}
use Rattle.model.specs.Answer.{pick, or_else, is_none, at, first_row}
use Rattle.model.specs.Tables.{Ty, int32, int64, F, null, class, byte_of, eq_ty, eq_tys, Sort, static, instance, virtual, constructor, initialiser, sort_byte, is_sort, Method, method_at, this_of, arguments, descends, root, of_root, initialiser_of}
use Rattle.model.specs.Loading.{Loading, within, override_fits, root_free, sort_fits, is_class, is_integer, all, no_class, entry_fits, eq_returns, differs}
use Rattle.loaded.specs.Holds.{byte_at}
use Rattle.loader.specs.Rules.{OverrideRule, SortRule, EntryRule}
use Rattle.loader.specs.Stands.{method_column, method_cell, MethodCells, InitialiserRows, Sound}
use Rattle.loader.proofs.Rows.{first_least}
use Rattle.loader.proofs.Methods.{root_there, argument_column}
use Rattle.loader.proofs.Search.{lengths_differ}

-- ---- Cells by row

module _ (ms : List Method) {a : List ℕ} (G : MethodCells ms a) (r : ℕ) where
  pub sort_at : get_or a (r * 32 + 24) 0 ≡ sort_byte (method_at ms r).sort
  unfolding method_cell method_column pick
  sort_at = G.each r 24 (omega arith)

  pub owner_at : get_or a (r * 32 + 25) 0 ≡ (method_at ms r).owner
  unfolding method_cell method_column pick
  owner_at = G.each r 25 (omega arith)

  pub return_at : get_or a (r * 32 + 26) 0 ≡ byte_at (method_at ms r).returns
  unfolding method_cell method_column pick
  return_at = G.each r 26 (omega arith)

  pub argument_at : get_or a (r * 32 + 28) 0 ≡ length (arguments (method_at ms r))
  unfolding method_cell method_column pick
  argument_at = G.each r 28 (omega arith)

  pub root_at_lem : 0 < r → r ≤ length ms → get_or a (r * 32 + 30) 0 ≡ root ms r
  unfolding method_cell method_column pick
  root_at_lem lo hi = G.each r 30 (omega arith) ∙ root_there ms r lo hi

  pub override_at : get_or a (r * 32 + 31) 0 ≡ (method_at ms r).overridden
  unfolding method_cell method_column pick
  override_at = G.each r 31 (omega arith)

  pub type_cell : (k : ℕ) → k < 8 → get_or a (r * 32 + k) 0 ≡ byte_at (at (arguments (method_at ms r)) k)
  unfolding method_cell
  type_cell k h = G.each r k (omega arith) ∙ argument_column _ (method_at ms r) k h

-- ---- The root's search

unfoldable pub root_test : List Method → ℕ → ℕ → ℕ → Method → Bool
root_test ms c q r m = eqb m.owner c && eqb (root ms r) q

pub of_root_lem : (ms : List Method) (c q : ℕ) → of_root ms c q ≡ first_row (root_test ms c q) 1 ms
unfolding of_root root_test
of_root_lem ms c q = refl

and_no : (a : Bool) → a && false ≡ false
and_no true = refl
and_no false = refl

and_yes : (b : Bool) → b ≡ b && true
and_yes true = refl
and_yes false = refl

module _ (ms : List Method) {a : List ℕ} (G : MethodCells ms a) (c q r : ℕ) (lo : 0 < r) (hi : r ≤ length ms) where
  pub root_hit : get_or a (r * 32 + 25) 0 ≡ c → get_or a (r * 32 + 30) 0 ≡ q → root_test ms c q r (method_at ms r) ≡ true
  unfolding root_test
  root_hit o p = ap (λ (b : Bool). b && eqb (root ms r) q) (eq-eqb (method_at ms r).owner c (sym (owner_at ms G r) ∙ o)) ∙ eq-eqb (root ms r) q (sym (root_at_lem ms G r lo hi) ∙ p)

  pub root_owner : (get_or a (r * 32 + 25) 0 ≡ c → ⊥) → root_test ms c q r (method_at ms r) ≡ false
  unfolding root_test
  root_owner n = ap (λ (b : Bool). b && eqb (root ms r) q) (ne_eqb (method_at ms r).owner c (λ e. n (owner_at ms G r ∙ e)))

  pub root_other : (get_or a (r * 32 + 30) 0 ≡ q → ⊥) → root_test ms c q r (method_at ms r) ≡ false
  unfolding root_test
  root_other n = ap (λ (b : Bool). eqb (method_at ms r).owner c && b) (ne_eqb (root ms r) q (λ e. n (root_at_lem ms G r lo hi ∙ e))) ∙ and_no (eqb (method_at ms r).owner c)

-- ---- Overriding

-- the rule on the overridden row v, the sort s and the owner o, from how many methods there are, the sort and the owner of the
-- method at v, and whether o descends from that owner
unfoldable pub overriding : ℕ → ℕ → ℕ → ℕ → ℕ → ℕ → Bool → Bool
overriding v s o n sort owner below = eqb v 0 || (eqb s 2 && (within 1 n v && (eqb sort 2 && (not (eqb owner o) && below))))

module _ (L : Loading) {a : List ℕ} (G : MethodCells L.methods a) (o s v n : ℕ) (en : n ≡ length L.methods) where
  override_as : (m : Method) → m.owner ≡ o → sort_byte m.sort ≡ s → m.overridden ≡ v → override_fits L m ≡ overriding v s o n (get_or a (v * 32 + 24) 0) (get_or a (v * 32 + 25) 0) (descends L.parents o (get_or a (v * 32 + 25) 0))
  unfolding override_fits overriding is_sort sort_byte
  override_as m mo ms mv =
      let x : get_or a (v * 32 + 24) 0 ≡ sort_byte (method_at L.methods m.overridden).sort = sort_at L.methods G v ∙ ap (λ (k : ℕ). sort_byte (method_at L.methods k).sort) (sym mv) in
      let y : get_or a (v * 32 + 25) 0 ≡ (method_at L.methods m.overridden).owner = owner_at L.methods G v ∙ ap (λ (k : ℕ). (method_at L.methods k).owner) (sym mv) in
      all_of m.overridden v mv (sort_byte m.sort) s ms m.owner o mo (length L.methods) n (sym en) _ _ (sym x) _ _ (sym y)
    where
      all_of : (v v' : ℕ) → v ≡ v' → (s s' : ℕ) → s ≡ s' → (o o' : ℕ) → o ≡ o' → (n n' : ℕ) → n ≡ n' → (a a' : ℕ) → a ≡ a' → (b b' : ℕ) → b ≡ b' →
          (eqb v 0 || (eqb s 2 && (within 1 n v && (eqb a 2 && (not (eqb b o) && descends L.parents o b))))) ≡ (eqb v' 0 || (eqb s' 2 && (within 1 n' v' && (eqb a' 2 && (not (eqb b' o') && descends L.parents o' b')))))
      all_of v v' p s s' q o o' r n n' t a a' u b b' w = λ i. eqb (p i) 0 || (eqb (q i) 2 && (within 1 (t i) (p i) && (eqb (u i) 2 && (not (eqb (w i) (r i)) && descends L.parents (r i) (w i)))))

  -- nothing is overridden
  pub override_none : v ≡ 0 → OverrideRule L o s v true
  unfolding OverrideRule root_free overriding
  override_none z m mo ms mv =
      sym (ap (λ (b : Bool). b && root_free L m) (override_as m mo ms mv ∙ ap (λ (b : Bool). b || (eqb s 2 && (within 1 n v && (eqb (get_or a (v * 32 + 24) 0) 2 && (not (eqb (get_or a (v * 32 + 25) 0) o) && descends L.parents o (get_or a (v * 32 + 25) 0)))))) (eq-eqb v 0 z))
      ∙ ap (λ (b : Bool). b || is_none (of_root L.methods m.owner (root L.methods m.overridden))) (eq-eqb m.overridden 0 (mv ∙ z)))

  pub override_off : overriding v s o n (get_or a (v * 32 + 24) 0) (get_or a (v * 32 + 25) 0) (descends L.parents o (get_or a (v * 32 + 25) 0)) ≡ false → OverrideRule L o s v false
  unfolding OverrideRule
  override_off e m mo ms mv = sym (ap (λ (b : Bool). b && root_free L m) (override_as m mo ms mv ∙ e))

  pub override_on : (b : Bool) → (v ≡ 0 → ⊥) → v ≤ n → overriding v s o n (get_or a (v * 32 + 24) 0) (get_or a (v * 32 + 25) 0) (descends L.parents o (get_or a (v * 32 + 25) 0)) ≡ true
      → b ≡ is_none (of_root L.methods o (get_or a (v * 32 + 30) 0)) → OverrideRule L o s v b
  unfolding OverrideRule root_free
  override_on b nz h e f m mo ms mv =
      let q : get_or a (v * 32 + 30) 0 ≡ root L.methods m.overridden =
      root_at_lem L.methods G v (omega arith) (subst (λ (k : ℕ). v ≤ k) en h) ∙ ap (root L.methods) (sym mv) in
      f
      ∙ ap (λ (k : ℕ). is_none (of_root L.methods o k)) q
      ∙ ap (λ (k : ℕ). is_none (of_root L.methods k (root L.methods m.overridden))) (sym mo)
      ∙ sym (ap (λ (x : Bool). x || is_none (of_root L.methods m.owner (root L.methods m.overridden))) (ne_eqb m.overridden 0 (λ z. nz (sym mv ∙ z))))
      ∙ sym (ap (λ (x : Bool). x && (eqb m.overridden 0 || is_none (of_root L.methods m.owner (root L.methods m.overridden)))) (override_as m mo ms mv ∙ e))

-- the tests one after the other
module _ (v s o n sort owner : ℕ) (below : Bool) where
  pub off_sort : (v ≡ 0 → ⊥) → (s ≡ 2 → ⊥) → overriding v s o n sort owner below ≡ false
  unfolding overriding
  off_sort a b = simp (ne_eqb v 0 a, ne_eqb s 2 b)

  pub off_row : (v ≡ 0 → ⊥) → s ≡ 2 → n < v → overriding v s o n sort owner below ≡ false
  unfolding overriding within
  off_row a b c = simp (ne_eqb v 0 a, eq-eqb s 2 b, lt-leb v n c, le-leb 1 v (omega arith))

  pub off_virtual : (v ≡ 0 → ⊥) → s ≡ 2 → v ≤ n → (sort ≡ 2 → ⊥) → overriding v s o n sort owner below ≡ false
  unfolding overriding within
  off_virtual a b c d = simp (ne_eqb v 0 a, eq-eqb s 2 b, le-leb v n c, le-leb 1 v (omega arith), ne_eqb sort 2 d)

  pub off_own : (v ≡ 0 → ⊥) → s ≡ 2 → v ≤ n → sort ≡ 2 → owner ≡ o → overriding v s o n sort owner below ≡ false
  unfolding overriding within
  off_own a b c d e = simp (ne_eqb v 0 a, eq-eqb s 2 b, le-leb v n c, le-leb 1 v (omega arith), eq-eqb sort 2 d, eq-eqb owner o e)

  pub on_or_off : (v ≡ 0 → ⊥) → s ≡ 2 → v ≤ n → sort ≡ 2 → (owner ≡ o → ⊥) → overriding v s o n sort owner below ≡ below
  unfolding overriding within
  on_or_off a b c d e = simp (ne_eqb v 0 a, eq-eqb s 2 b, le-leb v n c, le-leb 1 v (omega arith), eq-eqb sort 2 d, ne_eqb owner o e)

-- ---- Initialisers and constructors

-- the rule on the sort s and the return byte r, where i is the initialiser's row so far, 0 where there is none
unfoldable pub sorting : ℕ → ℕ → ℕ → ℕ → Bool
sorting s o r i = (not (eqb s 4) || (eqb i 0 && (not (eqb o 1) && eqb r 0))) && (not (eqb s 3) || eqb r 0)

module _ (s o r i : ℕ) where
  pub sort_object : s ≡ 4 → o ≡ 1 → false ≡ sorting s o r i
  unfolding sorting
  sort_object a b = sym (simp (eq-eqb s 4 a, eq-eqb o 1 b, and_no))

  pub sort_value : s ≡ 4 → (r ≡ 0 → ⊥) → false ≡ sorting s o r i
  unfolding sorting
  sort_value a b = sym (simp (eq-eqb s 4 a, ne_eqb r 0 b, and_no))

  pub sort_single : s ≡ 4 → (o ≡ 1 → ⊥) → r ≡ 0 → eqb i 0 ≡ sorting s o r i
  unfolding sorting
  sort_single a b c = sym (simp (eq-eqb s 4 a, ne_eqb o 1 b, eq-eqb r 0 c, sym (and_yes (eqb i 0)), ne_eqb s 3 (λ e. omega arith)))

  pub sort_constructor : (s ≡ 4 → ⊥) → s ≡ 3 → eqb r 0 ≡ sorting s o r i
  unfolding sorting
  sort_constructor a b = sym (simp (ne_eqb s 4 a, eq-eqb s 3 b))

  pub sort_other : (s ≡ 4 → ⊥) → (s ≡ 3 → ⊥) → true ≡ sorting s o r i
  unfolding sorting
  sort_other a b = sym (simp (ne_eqb s 4 a, ne_eqb s 3 b))

none_zero : (o : Option ℕ) → ((k : ℕ) → o ≡ some k → 1 ≤ k) → is_none o ≡ eqb (or_else o 0) 0
unfolding is_none or_else
none_zero none h = refl
none_zero (some k) h = sym (ne_eqb k 0 (λ e. let q = h k refl in omega arith))

init_none : (ms : List Method) (c : ℕ) → is_none (initialiser_of ms c) ≡ eqb (or_else (initialiser_of ms c) 0) 0
unfolding initialiser_of
init_none ms c = none_zero (first_row (λ r m. eqb m.owner c && is_sort m.sort initialiser) 1 ms) (λ k e. (first_least (λ r m. eqb m.owner c && is_sort m.sort initialiser) 1 ms k e).0)

pub sort_rule : (L : Loading) {a : List ℕ} → InitialiserRows L.methods a → (o s r : ℕ) (b : Bool) → b ≡ sorting s o r (get_or a o 0) → SortRule L o s r b
unfolding SortRule sort_fits sorting is_sort sort_byte
sort_rule L {a} R o s r b e m mo ms mr =
    e
    ∙ ap (λ (k : ℕ). (not (eqb k 4) || (eqb (get_or a o 0) 0 && (not (eqb o 1) && eqb r 0))) && (not (eqb k 3) || eqb r 0)) (sym ms)
    ∙ ap (λ (x : Bool). (not (eqb (sort_byte m.sort) 4) || (eqb (get_or a o 0) 0 && (not (eqb o 1) && x))) && (not (eqb (sort_byte m.sort) 3) || x)) (sym mr)
    ∙ ap (λ (x : Bool). (not (eqb (sort_byte m.sort) 4) || (x && (not (eqb o 1) && is_none m.returns))) && (not (eqb (sort_byte m.sort) 3) || is_none m.returns))
    (ap (λ (k : ℕ). eqb k 0) (R.each o) ∙ sym (init_none L.methods o))
    ∙ ap (λ (k : ℕ). (not (eqb (sort_byte m.sort) 4) || (is_none (initialiser_of L.methods k) && (not (eqb k 1) && is_none m.returns))) && (not (eqb (sort_byte m.sort) 3) || is_none m.returns)) (sym mo)

-- no class past the last row has an initialiser
pub past : {ms : List Method} {a : List ℕ} → InitialiserRows ms a → (o : ℕ) → 32 < o → get_or a o 0 ≡ 0
past {a = a} R o h = get_or-eq_default a 0 (subst (λ (k : ℕ). k ≤ o) (sym R.long) (omega arith))

-- ---- The entry

not_class : (o : Option Ty) → no_class o ≡ ltb (byte_at o) 32
unfolding no_class is_class byte_at byte_of
not_class none = refl
not_class (some int32) = refl
not_class (some int64) = refl
not_class (some F) = refl
not_class (some null) = refl
not_class (some (class c)) = sym (le-ltb (32 + c) 32 (omega arith))

is_static : (k : Sort) → sort_byte k ≡ 0 → k ≡ static
unfolding sort_byte
is_static static e = refl
is_static instance e = absurd (omega arith)
is_static virtual e = absurd (omega arith)
is_static constructor e = absurd (omega arith)
is_static initialiser e = absurd (omega arith)

-- a static method's arguments are its parameters
static_arguments : (m : Method) → m.sort ≡ static → arguments m ≡ m.params
unfolding arguments this_of
static_arguments m e = ap (λ (k : Sort). this_of k m.owner ++ m.params) e

module _ (L : Loading) {a : List ℕ} (G : MethodCells L.methods a) (r : ℕ) where
  pub entry_sort : (get_or a (r * 32 + 24) 0 ≡ 0 → ⊥) → EntryRule L r false
  unfolding EntryRule entry_fits is_sort sort_byte
  entry_sort n h = sym (ap (λ (b : Bool). b && (all is_integer (method_at L.methods r).params && no_class (method_at L.methods r).returns)) (ne_eqb (sort_byte (method_at L.methods r).sort) 0 (λ e. n (sort_at L.methods G r ∙ e))))

  pub entry_return : 32 ≤ get_or a (r * 32 + 26) 0 → EntryRule L r false
  unfolding EntryRule entry_fits
  entry_return h q =
      sym (ap (λ (b : Bool). is_sort (method_at L.methods r).sort static && (all is_integer (method_at L.methods r).params && b))
      (not_class (method_at L.methods r).returns ∙ le-ltb (byte_at (method_at L.methods r).returns) 32 (subst (λ (k : ℕ). 32 ≤ k) (return_at L.methods G r) h))
      ∙ ap (λ (b : Bool). is_sort (method_at L.methods r).sort static && b) (and_no (all is_integer (method_at L.methods r).params))
      ∙ and_no (is_sort (method_at L.methods r).sort static))

  entry_params : get_or a (r * 32 + 24) 0 ≡ 0 → arguments (method_at L.methods r) ≡ (method_at L.methods r).params
  entry_params z = static_arguments (method_at L.methods r) (is_static (method_at L.methods r).sort (sym (sort_at L.methods G r) ∙ z))

  pub entry_integers : get_or a (r * 32 + 24) 0 ≡ 0 → get_or a (r * 32 + 26) 0 < 32 → (b : Bool) → b ≡ all is_integer (arguments (method_at L.methods r)) → EntryRule L r b
  unfolding EntryRule entry_fits is_sort sort_byte
  entry_integers z h b e q =
      e
      ∙ ap (all is_integer) (entry_params z)
      ∙ and_yes (all is_integer (method_at L.methods r).params)
      ∙ sym (ap (λ (x : Bool). x && (all is_integer (method_at L.methods r).params && no_class (method_at L.methods r).returns)) (eq-eqb (sort_byte (method_at L.methods r).sort) 0 (sym (sort_at L.methods G r) ∙ z))
      ∙ ap (λ (x : Bool). all is_integer (method_at L.methods r).params && x) (not_class (method_at L.methods r).returns ∙ lt-ltb (byte_at (method_at L.methods r).returns) 32 (subst (λ (k : ℕ). k < 32) (return_at L.methods G r) h)))

-- ---- Overrides that differ

same_returns : (a b : Option Ty) → is_none a ≡ eqb (byte_at a) 0 → is_none b ≡ eqb (byte_at b) 0 → eq_returns a b ≡ eqb (byte_at a) (byte_at b)
unfolding eq_returns is_none byte_at eq_ty
same_returns none none p q = refl
same_returns none (some u) p q = sym (ne_eqb 0 (byte_of u) (λ e. eqb-false (byte_of u) 0 (sym q) (sym e)))
same_returns (some t) none p q = sym (ne_eqb (byte_of t) 0 (eqb-false (byte_of t) 0 (sym p)))
same_returns (some t) (some u) p q = refl

virtual_arguments : (m : Method) → m.sort ≡ virtual → arguments m ≡ class m.owner ∷ m.params
unfolding arguments this_of
virtual_arguments m e = ap (λ (k : Sort). this_of k m.owner ++ m.params) e

module _ {code : List ℕ} {ms : List Method} (sound : Sound code ms) {a : List ℕ} (G : MethodCells ms a) (r : ℕ) where
  pub differs_none : get_or a (r * 32 + 31) 0 ≡ 0 → false ≡ differs ms r (method_at ms r)
  unfolding differs
  differs_none z = sym (ap (λ (b : Bool). not b && not (eq_returns (method_at ms r).returns (method_at ms (method_at ms r).overridden).returns && eq_tys (method_at ms r).params (method_at ms (method_at ms r).overridden).params)) (eq-eqb (method_at ms r).overridden 0 (sym (override_at ms G r) ∙ z)))

  differs_as : (get_or a (r * 32 + 31) 0 ≡ 0 → ⊥) → differs ms r (method_at ms r) ≡ not (eqb (get_or a (r * 32 + 26) 0) (get_or a (get_or a (r * 32 + 31) 0 * 32 + 26) 0) && eq_tys (method_at ms r).params (method_at ms (get_or a (r * 32 + 31) 0)).params)
  unfolding differs
  differs_as n =
      ap (λ (b : Bool). not b && not (eq_returns (method_at ms r).returns (method_at ms (method_at ms r).overridden).returns && eq_tys (method_at ms r).params (method_at ms (method_at ms r).overridden).params)) (ne_eqb (method_at ms r).overridden 0 (λ e. n (override_at ms G r ∙ e)))
      ∙ ap (λ (k : ℕ). not (eq_returns (method_at ms r).returns (method_at ms k).returns && eq_tys (method_at ms r).params (method_at ms k).params)) (sym (override_at ms G r))
      ∙ ap (λ (b : Bool). not (b && eq_tys (method_at ms r).params (method_at ms (get_or a (r * 32 + 31) 0)).params))
      (same_returns (method_at ms r).returns (method_at ms (get_or a (r * 32 + 31) 0)).returns (sound.void r) (sound.void (get_or a (r * 32 + 31) 0))
      ∙ ap (λ (k : ℕ). eqb k (byte_at (method_at ms (get_or a (r * 32 + 31) 0)).returns)) (sym (return_at ms G r))
      ∙ ap (eqb (get_or a (r * 32 + 26) 0)) (sym (return_at ms G (get_or a (r * 32 + 31) 0))))

  pub differs_return : (get_or a (r * 32 + 31) 0 ≡ 0 → ⊥) → (get_or a (r * 32 + 26) 0 ≡ get_or a (get_or a (r * 32 + 31) 0 * 32 + 26) 0 → ⊥) → true ≡ differs ms r (method_at ms r)
  differs_return n d = sym (differs_as n ∙ ap (λ (b : Bool). not (b && eq_tys (method_at ms r).params (method_at ms (get_or a (r * 32 + 31) 0)).params)) (ne_eqb (get_or a (r * 32 + 26) 0) (get_or a (get_or a (r * 32 + 31) 0 * 32 + 26) 0) d))

  differs_params : (get_or a (r * 32 + 31) 0 ≡ 0 → ⊥) → get_or a (r * 32 + 26) 0 ≡ get_or a (get_or a (r * 32 + 31) 0 * 32 + 26) 0 → differs ms r (method_at ms r) ≡ not (eq_tys (method_at ms r).params (method_at ms (get_or a (r * 32 + 31) 0)).params)
  differs_params n e = differs_as n ∙ ap (λ (b : Bool). not (b && eq_tys (method_at ms r).params (method_at ms (get_or a (r * 32 + 31) 0)).params)) (eq-eqb (get_or a (r * 32 + 26) 0) (get_or a (get_or a (r * 32 + 31) 0 * 32 + 26) 0) e)

  dispatch : (get_or a (r * 32 + 31) 0 ≡ 0 → ⊥) → ((method_at ms r).sort ≡ virtual) × ((method_at ms (get_or a (r * 32 + 31) 0)).sort ≡ virtual)
  dispatch n =
      let p = override_at ms G r in
      let w = sound.dispatched r (omega arith) in
      (w.0, ap (λ (k : ℕ). (method_at ms k).sort) (override_at ms G r) ∙ w.1)

  counted : (k : ℕ) → (method_at ms k).sort ≡ virtual → get_or a (k * 32 + 28) 0 ≡ suc (length (method_at ms k).params)
  counted k e = argument_at ms G k ∙ ap length (virtual_arguments (method_at ms k) e)

  pub differs_count : (get_or a (r * 32 + 31) 0 ≡ 0 → ⊥) → get_or a (r * 32 + 26) 0 ≡ get_or a (get_or a (r * 32 + 31) 0 * 32 + 26) 0 → (get_or a (r * 32 + 28) 0 ≡ get_or a (get_or a (r * 32 + 31) 0 * 32 + 28) 0 → ⊥) → true ≡ differs ms r (method_at ms r)
  differs_count n e c =
      let w = dispatch n in
      sym (differs_params n e ∙ ap not (lengths_differ (method_at ms r).params (method_at ms (get_or a (r * 32 + 31) 0)).params (λ q. c (counted r w.0 ∙ ap suc q ∙ sym (counted (get_or a (r * 32 + 31) 0) w.1)))))

  param_cell : (k : ℕ) → (method_at ms k).sort ≡ virtual → (j : ℕ) → j < 7 → get_or a (k * 32 + (1 + j)) 0 ≡ byte_at (at (method_at ms k).params j)
  unfolding at
  param_cell k e j h =
      let p : 1 + j ≡ suc j = omega arith in
      ap (λ (i : ℕ). get_or a (k * 32 + i) 0) p ∙ type_cell ms G k (suc j) (omega arith) ∙ ap (λ (l : List Ty). byte_at (at l (suc j))) (virtual_arguments (method_at ms k) e)

  few_params : (k : ℕ) → (method_at ms k).sort ≡ virtual → length (method_at ms k).params ≤ 7
  few_params k e = let q : length (arguments (method_at ms k)) ≡ suc (length (method_at ms k).params) = ap length (virtual_arguments (method_at ms k) e) in let h = sound.narrow k in omega arith

  -- what two lists of parameters with the same cells come to
  abbrev pub Compared : Bool → Type 0
  Compared b = (l m : List Ty) → length l ≡ length m → length l ≤ 7 → ((k : ℕ) → k < 7 → get_or a (r * 32 + (1 + k)) 0 ≡ byte_at (at l k)) → ((k : ℕ) → k < 7 → get_or a (get_or a (r * 32 + 31) 0 * 32 + (1 + k)) 0 ≡ byte_at (at m k)) → b ≡ eq_tys l m

  pub differs_cells : (get_or a (r * 32 + 31) 0 ≡ 0 → ⊥) → get_or a (r * 32 + 26) 0 ≡ get_or a (get_or a (r * 32 + 31) 0 * 32 + 26) 0 → get_or a (r * 32 + 28) 0 ≡ get_or a (get_or a (r * 32 + 31) 0 * 32 + 28) 0
      → (b : Bool) → Compared b → not b ≡ differs ms r (method_at ms r)
  differs_cells n e c b same =
      let w = dispatch n in
      let x = counted r w.0 in
      let y = counted (get_or a (r * 32 + 31) 0) w.1 in
      ap not (same (method_at ms r).params (method_at ms (get_or a (r * 32 + 31) 0)).params (omega arith) (few_params r w.0) (param_cell r w.0) (param_cell (get_or a (r * 32 + 31) 0) w.1))
      ∙ sym (differs_params n e)
