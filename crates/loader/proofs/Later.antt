-- The records behind a method's: a parameter's, a local's and the entry's keep what stands.
use mathlib.Core.Path.{◌≡◌, refl, sym, ap, ◌∙◌, subst}
use Prim.Native.Nat.{ℕ, ◌+◌, ◌*◌, ◌≤◌, ◌<◌}
use mathlib.Core.Bool.{Bool, true, false, not}
use mathlib.Core.Option.{Option}
use mathlib.Core.List.{List, [], ◌∷◌, ◌++◌}
use native.Mathlib.Omega.{arith}
use native.Mathlib.Decide.{ℕ_discrete}
use lib.ListN.{length, get_or, set}
use lib.Dec.{ltb, eqb}
use borrow.Author.Tests.{ltb-true, eqb-true, eqb-false, eq-eqb, ne_eqb}
use Rattle.model.specs.Answer.{pick, is_none, at, on_last}
use Rattle.model.specs.Tables.{Ty, byte_of, Sort, initialiser, sort_byte, is_sort, Method, part_of, method_at, arguments, type_at}
use Rattle.model.specs.Loading.{Loading, follows, within, latest, with_param, with_local, on_latest, param_record, local_record, entry_record}
use Rattle.std.specs.Prelude.{Some, Ok, Err}
use Rattle.loaded.specs.declared.Counts.{Counts}
use Rattle.loaded.specs.declared.Loaded.{Loaded}
use Rattle.loader.specs.declared.notes.Notes.{Notes}
use Rattle.loaded.specs.Holds.{byte_at}
use Rattle.loader.specs.declared.kind.Kind.{Kind}
use Rattle.loader.specs.declared.kind.Kind.TheVariants.{Parameter as ParameterKind, Local as LocalKind, Entry}
use Rattle.loader.specs.declared.variable.Variable.{Variable}
use Rattle.loader.specs.declared.variable.Variable.TheVariants.{Parameter, Local}
use Rattle.loader.specs.declared.refusal.Refusal.{Refusal}
use Rattle.loader.specs.Variables.{kind_of, count_of, column_of, most_of, variable_record}
use Rattle.loader.specs.Kinds.{kind_byte, last_byte}
use Rattle.loader.specs.Goes.{Goes}
use Rattle.loader.specs.Rules.{EntryRule}
use Rattle.loader.specs.Allowed.{is_type, variable_allowed, entry_allowed}
use Rattle.loader.specs.Stands.{Cell, put, stored, method_column, root_at, method_cell, part_cell, MethodCells, Sound, MethodRows, Stands, counts_of}
use Rattle.loader.proofs.Rows.{length_last, grown}
use Rattle.loader.proofs.Grid.{after, Below, grid_as, grid_row}
use Rattle.loader.proofs.Methods.{method_last, method_kept, unchanged, latest_at, root_kept, initialisers_last, columns, argument_column, local_column, byte_there, byte_here, arguments_param, arguments_more}
use Rattle.loader.proofs.Open.{refuse, accept}
use Rattle.loader.proofs.Ladder.{goes_guard, goes_need, goes_test, goes_ok, within_true, type_byte}

-- ---- A change of the last method's parameters or locals

-- all else of a method
pub record Rest : Type 0 where
  pub owner : ℕ
  pub sort : Sort
  pub returns : Option Ty
  pub max_stack : ℕ
  pub overridden : ℕ
  pub offset : ℕ
  pub code : List ℕ

unfoldable pub rest_of : Method → Rest
rest_of m = record { owner = m.owner; sort = m.sort; returns = m.returns; max_stack = m.max_stack; overridden = m.overridden; offset = m.offset; code = m.code }

module _ (code : List ℕ) (ms : List Method) (inits a parts : List ℕ) (R : MethodRows code ms inits a parts) (f : Method → Method) (kept : (m : Method) → rest_of (f m) ≡ rest_of m) where
  sound_last : ((r : ℕ) → length (arguments (method_at (on_last f ms) r)) ≤ 8) → Sound code (on_last f ms)
  unfolding rest_of
  sound_last few = record {
    earlier = λ r h. subst (λ (k : ℕ). k < r) (sym (over r)) (R.sound.earlier r h);
    dispatched = λ r h.
        let w = R.sound.dispatched r (subst (λ (k : ℕ). 0 < k) (over r) h) in
        (sorted r ∙ w.0, sorted (method_at (on_last f ms) r).overridden ∙ ap (λ (k : ℕ). (method_at ms k).sort) (over r) ∙ w.1);
    part = λ r. coded r ∙ R.sound.part r ∙ ap (λ (x : Rest). part_of code x.offset (length x.code)) (sym (unchanged rest_of f kept ms r));
    narrow = few;
    void = λ r. ap (λ (x : Rest). is_none x.returns) (unchanged rest_of f kept ms r) ∙ R.sound.void r ∙ ap (λ (x : Rest). eqb (byte_at x.returns) 0) (sym (unchanged rest_of f kept ms r));
  }
    where
      over : (r : ℕ) → (method_at (on_last f ms) r).overridden ≡ (method_at ms r).overridden
      over r = ap (λ (x : Rest). x.overridden) (unchanged rest_of f kept ms r)

      sorted : (r : ℕ) → (method_at (on_last f ms) r).sort ≡ (method_at ms r).sort
      sorted r = ap (λ (x : Rest). x.sort) (unchanged rest_of f kept ms r)

      coded : (r : ℕ) → (method_at (on_last f ms) r).code ≡ (method_at ms r).code
      coded r = ap (λ (x : Rest). x.code) (unchanged rest_of f kept ms r)

  -- the last row becomes what the change says of it
  pub rows_last : 0 < length ms → (cs : List Cell) → Below 32 cs
      → ((k : ℕ) → k < 32 → after cs k (method_column (root_at ms (length ms)) (method_at ms (length ms)) k) ≡ method_column (root_at ms (length ms)) (f (method_at ms (length ms))) k)
      → ((r : ℕ) → length (arguments (method_at (on_last f ms) r)) ≤ 8) → MethodRows code (on_last f ms) inits (stored 32 (length ms) a cs) parts
  unfolding rest_of method_cell part_cell
  rows_last begun cs low here few = record {
    initialiser = initialisers_last f (λ m. ap (λ (x : Rest). x.owner) (kept m)) (λ m. ap (λ (x : Rest). x.sort) (kept m)) ms R.initialiser;
    cell = grid_row R.cell (length ms) (let q = R.few in omega arith) cs low (method_cell (on_last f ms))
        (λ r k h n. ap (λ (q : ℕ). method_column q (method_at ms r) k) (sym (rooted r)) ∙ ap (λ (m : Method). method_column (root_at (on_last f ms) r) m k) (sym (method_kept f ms r n)))
        (λ k h. here k h ∙ ap (λ (q : ℕ). method_column q (f (method_at ms (length ms))) k) (sym (rooted (length ms))) ∙ ap (λ (m : Method). method_column (root_at (on_last f ms) (length ms)) m k) (sym (method_last f ms begun)));
    part = grid_as (λ r k h. ap (λ (x : Rest). pick (eqb k 0) x.offset (length x.code)) (sym (unchanged rest_of f kept ms r))) R.part;
    sound = sound_last few;
    few = subst (λ (n : ℕ). n ≤ 128) (sym (length_last f ms)) R.few;
  }
    where
      rooted : (r : ℕ) → root_at (on_last f ms) r ≡ root_at ms r
      rooted r = root_kept f (λ m. ap (λ (x : Rest). x.overridden) (kept m)) ms R.sound.earlier r

-- ---- A parameter's record

param_rest : (u : Ty) (m : Method) → rest_of (with_param u m) ≡ rest_of m
unfolding rest_of with_param
param_rest u m = refl

-- how many there are, and the type of the last
abbrev pub variable_cells : Variable → ℕ → ℕ → List Cell
variable_cells v n t = put (count_of v) (n + 1) ∷ put (column_of v n) t ∷ []

-- a list of types that grows by one, a cell at a time
grown_byte : (l : List Ty) (u : Ty) (k : ℕ) → pick (eqb k (length l)) (byte_of u) (byte_at (at l k)) ≡ byte_at (at (l ++ (u ∷ [])) k)
unfolding pick
grown_byte l u k = go (eqb k (length l)) refl
  where
    go : (b : Bool) → eqb k (length l) ≡ b → pick b (byte_of u) (byte_at (at l k)) ≡ byte_at (at (l ++ (u ∷ [])) k)
    go true e = sym (ap (λ (i : ℕ). byte_at (at (l ++ (u ∷ [])) i)) (eqb-true k (length l) e) ∙ byte_here l u)
    go false e = sym (byte_there l u k (eqb-false k (length l) e))

module _ (q : ℕ) (u : Ty) (m : Method) where
  param_column : length (arguments m) < 8 → (k : ℕ) → k < 32 → after (variable_cells Parameter (length (arguments m)) (byte_of u)) k (method_column q m k) ≡ method_column q (with_param u m) k
  unfolding after pick method_column with_param
  param_column room =
      columns (λ k. pick (eqb k (length (arguments m))) (byte_of u) (pick (eqb k 28) (length (arguments m) + 1) (method_column q m k)) ≡ method_column q (with_param u m) k)
      argument local (far 24 (omega arith) refl) (far 25 (omega arith) refl) (far 26 (omega arith) refl) (far 27 (omega arith) refl) (far 28 (omega arith) (sym (arguments_more u m)))
      (far 29 (omega arith) refl) (far 30 (omega arith) refl) (far 31 (omega arith) refl)
    where
      far : (k : ℕ) → 8 ≤ k → {x y : ℕ} → x ≡ y → pick (eqb k (length (arguments m))) (byte_of u) x ≡ y
      far k h {x} e = ap (λ (b : Bool). pick b (byte_of u) x) (ne_eqb k (length (arguments m)) (λ z. omega arith)) ∙ e

      argument : (k : ℕ) → k < 8 → pick (eqb k (length (arguments m))) (byte_of u) (pick (eqb k 28) (length (arguments m) + 1) (method_column q m k)) ≡ method_column q (with_param u m) k
      argument k h =
          ap (λ (b : Bool). pick (eqb k (length (arguments m))) (byte_of u) (pick b (length (arguments m) + 1) (method_column q m k))) (ne_eqb k 28 (λ z. omega arith))
          ∙ ap (pick (eqb k (length (arguments m))) (byte_of u)) (argument_column q m k h)
          ∙ grown_byte (arguments m) u k
          ∙ ap (λ (l : List Ty). byte_at (at l k)) (sym (arguments_param u m))
          ∙ sym (argument_column q (with_param u m) k h)

      local : (i : ℕ) → i < 16 → pick (eqb (8 + i) (length (arguments m))) (byte_of u) (pick (eqb (8 + i) 28) (length (arguments m) + 1) (method_column q m (8 + i))) ≡ method_column q (with_param u m) (8 + i)
      local i h =
          far (8 + i) (omega arith)
          (ap (λ (b : Bool). pick b (length (arguments m) + 1) (method_column q m (8 + i))) (ne_eqb (8 + i) 28 (λ z. omega arith)) ∙ local_column q m i h ∙ sym (local_column q (with_param u m) i h))

  local_changes : length m.locals < 16 → (k : ℕ) → k < 32 → after (variable_cells Local (length m.locals) (byte_of u)) k (method_column q m k) ≡ method_column q (with_local u m) k
  unfolding after pick method_column with_local arguments
  local_changes room =
      columns (λ k. pick (eqb k (8 + length m.locals)) (byte_of u) (pick (eqb k 29) (length m.locals + 1) (method_column q m k)) ≡ method_column q (with_local u m) k)
      argument local (far 24 (omega arith) refl) (far 25 (omega arith) refl) (far 26 (omega arith) refl) (far 27 (omega arith) refl) (far 28 (omega arith) refl)
      (far 29 (omega arith) (sym (grown m.locals u))) (far 30 (omega arith) refl) (far 31 (omega arith) refl)
    where
      far : (k : ℕ) → 24 ≤ k → {x y : ℕ} → x ≡ y → pick (eqb k (8 + length m.locals)) (byte_of u) x ≡ y
      far k h {x} e = ap (λ (b : Bool). pick b (byte_of u) x) (ne_eqb k (8 + length m.locals) (λ z. omega arith)) ∙ e

      argument : (k : ℕ) → k < 8 → pick (eqb k (8 + length m.locals)) (byte_of u) (pick (eqb k 29) (length m.locals + 1) (method_column q m k)) ≡ method_column q (with_local u m) k
      argument k h =
          ap (λ (b : Bool). pick b (byte_of u) (pick (eqb k 29) (length m.locals + 1) (method_column q m k))) (ne_eqb k (8 + length m.locals) (λ z. omega arith))
          ∙ ap (λ (b : Bool). pick b (length m.locals + 1) (method_column q m k)) (ne_eqb k 29 (λ z. omega arith))
          ∙ argument_column q m k h
          ∙ sym (argument_column q (with_local u m) k h)

      same : (i n : ℕ) → eqb (8 + i) (8 + n) ≡ eqb i n
      same i n = go (eqb i n) refl
        where
          go : (b : Bool) → eqb i n ≡ b → eqb (8 + i) (8 + n) ≡ b
          go true e = eq-eqb (8 + i) (8 + n) (ap (λ (x : ℕ). 8 + x) (eqb-true i n e))
          go false e = let z = eqb-false i n e in ne_eqb (8 + i) (8 + n) (λ w. z (omega arith))

      local : (i : ℕ) → i < 16 → pick (eqb (8 + i) (8 + length m.locals)) (byte_of u) (pick (eqb (8 + i) 29) (length m.locals + 1) (method_column q m (8 + i))) ≡ method_column q (with_local u m) (8 + i)
      local i h =
          ap (λ (b : Bool). pick b (byte_of u) (pick (eqb (8 + i) 29) (length m.locals + 1) (method_column q m (8 + i)))) (same i (length m.locals))
          ∙ ap (λ (b : Bool). pick (eqb i (length m.locals)) (byte_of u) (pick b (length m.locals + 1) (method_column q m (8 + i)))) (ne_eqb (8 + i) 29 (λ z. omega arith))
          ∙ ap (pick (eqb i (length m.locals)) (byte_of u)) (local_column q m i h)
          ∙ grown_byte m.locals u i
          ∙ sym (local_column q (with_local u m) i h)

local_rest : (u : Ty) (m : Method) → rest_of (with_local u m) ≡ rest_of m
unfolding rest_of with_local
local_rest u m = refl

local_arguments : (u : Ty) (m : Method) → length (arguments (with_local u m)) ≡ length (arguments m)
unfolding with_local arguments
local_arguments u m = refl

module _ (code : List ℕ) (ms : List Method) (inits a parts : List ℕ) (R : MethodRows code ms inits a parts) (begun : 0 < length ms) (u : Ty) (t : ℕ) (typed : byte_of u ≡ t) where
  pub param_rows : (n : ℕ) → n ≡ length (arguments (method_at ms (length ms))) → n < 8 → MethodRows code (on_last (with_param u) ms) inits (stored 32 (length ms) a (variable_cells Parameter n t)) parts
  unfolding Below
  param_rows n e room =
      rows_last code ms inits a parts R (with_param u) (param_rest u) begun (variable_cells Parameter n t) (omega arith, (omega arith, tt))
      (subst (λ (i : ℕ). (k : ℕ) → k < 32 → after (variable_cells Parameter i t) k (method_column (root_at ms (length ms)) (method_at ms (length ms)) k) ≡ method_column (root_at ms (length ms)) (with_param u (method_at ms (length ms))) k) (sym e)
      (subst (λ (i : ℕ). (k : ℕ) → k < 32 → after (variable_cells Parameter (length (arguments (method_at ms (length ms)))) i) k (method_column (root_at ms (length ms)) (method_at ms (length ms)) k) ≡ method_column (root_at ms (length ms)) (with_param u (method_at ms (length ms))) k) typed
      (param_column (root_at ms (length ms)) u (method_at ms (length ms)) (omega arith))))
      (λ r. few r (ℕ_discrete r (length ms)))
    where
      few : (r : ℕ) → Dec (r ≡ length ms) → length (arguments (method_at (on_last (with_param u) ms) r)) ≤ 8
      few r (yes w) =
          let q : length (arguments (method_at (on_last (with_param u) ms) r)) ≡ length (arguments (method_at ms (length ms))) + 1 =
          ap (λ (i : ℕ). length (arguments (method_at (on_last (with_param u) ms) i))) w ∙ ap (λ (m : Method). length (arguments m)) (method_last (with_param u) ms begun) ∙ arguments_more u (method_at ms (length ms)) in
          omega arith
      few r (no w) = subst (λ (m : Method). length (arguments m) ≤ 8) (sym (method_kept (with_param u) ms r w)) (R.sound.narrow r)

  pub local_rows : (n : ℕ) → n ≡ length (method_at ms (length ms)).locals → n < 16 → MethodRows code (on_last (with_local u) ms) inits (stored 32 (length ms) a (variable_cells Local n t)) parts
  unfolding Below
  local_rows n e room =
      rows_last code ms inits a parts R (with_local u) (local_rest u) begun (variable_cells Local n t) (omega arith, (omega arith, tt))
      (subst (λ (i : ℕ). (k : ℕ) → k < 32 → after (variable_cells Local i t) k (method_column (root_at ms (length ms)) (method_at ms (length ms)) k) ≡ method_column (root_at ms (length ms)) (with_local u (method_at ms (length ms))) k) (sym e)
      (subst (λ (i : ℕ). (k : ℕ) → k < 32 → after (variable_cells Local (length (method_at ms (length ms)).locals) i) k (method_column (root_at ms (length ms)) (method_at ms (length ms)) k) ≡ method_column (root_at ms (length ms)) (with_local u (method_at ms (length ms))) k) typed
      (local_changes (root_at ms (length ms)) u (method_at ms (length ms)) (omega arith))))
      (λ r. subst (λ (n : ℕ). n ≤ 8) (sym (unchanged (λ m. length (arguments m)) (with_local u) (local_arguments u) ms r)) (R.sound.narrow r))

-- ---- What each record goes to

module _ (L : Loading) {a : List ℕ} (G : MethodCells L.methods a) where
  latest_count : get_or a (length L.methods * 32 + 28) 0 ≡ length (arguments (latest L))
  unfolding method_cell method_column latest pick
  latest_count = G.each (length L.methods) 28 (omega arith) ∙ ap (λ (m : Method). length (arguments m)) (sym (latest_at L.methods))

  latest_locals : get_or a (length L.methods * 32 + 29) 0 ≡ length (latest L).locals
  unfolding method_cell method_column latest pick
  latest_locals = G.each (length L.methods) 29 (omega arith) ∙ ap (λ (m : Method). length m.locals) (sym (latest_at L.methods))

  latest_sort : eqb (get_or a (length L.methods * 32 + 24) 0) 4 ≡ is_sort (latest L).sort initialiser
  unfolding method_cell method_column latest is_sort sort_byte pick
  latest_sort = ap (λ (n : ℕ). eqb n 4) (G.each (length L.methods) 24 (omega arith) ∙ ap (λ (m : Method). sort_byte m.sort) (sym (latest_at L.methods)))

latest_is : (L : Loading) → latest L ≡ method_at L.methods (length L.methods)
unfolding latest
latest_is L = latest_at L.methods

-- the module whose method rows are then m
abbrev pub rows_in : Loaded → List ℕ → Loaded
rows_in N m = record { counts = N.counts; parents = N.parents; initialisers = N.initialisers; fields = N.fields; methods = m; parts = N.parts }

abbrev pub noted : Notes → Kind → Notes
noted S k = record { last = Some k; own = S.own; places = S.places }

-- where the code's cell of the count is at a column
abbrev pub count_at : Loaded → ℕ → ℕ → ℕ
count_at N n column = get_or N.methods (n * 32 + column) 0

abbrev pub VariableTo : List ℕ → Loading → Loaded → Notes → Variable → ℕ → Counts → ℕ → Type 0
VariableTo code L N S v t n last =
    Goes (variable_record v L t) (variable_allowed v last n.classes t (count_at N n.methods (count_of v)) (count_at N n.methods 24)) (λ K.
    Stands code K (rows_in N (stored 32 n.methods N.methods (variable_cells v (count_at N n.methods (count_of v)) t))) (noted S (kind_of v)))

module _ (code : List ℕ) (L : Loading) (N : Loaded) (S : Notes) (Z : Stands code L N S) where
  later : (k : Kind) (f : Method → Method) (b : List ℕ) → 3 ≤ L.last → L.last ≤ 5 → 3 ≤ kind_byte k → MethodRows code (on_last f L.methods) N.initialisers b N.parts → Stands code (on_latest (kind_byte k) f L) (rows_in N b) (noted S k)
  unfolding on_latest counts_of
  later k f b lo hi three R = record {
    counted = Z.counted ∙ cc (length_last f L.methods);
    last = refl;
    classes = Z.classes;
    fields = Z.fields;
    methods = R;
    place = Z.place;
    placed = Z.placed ∙ sym (length_last f L.methods);
    fieldless = λ h. absurd (omega arith);
    begun = λ p q. subst (λ (n : ℕ). 0 < n) (sym (length_last f L.methods)) (Z.begun lo hi);
  }

  param_goes : (t : ℕ) → VariableTo code L N S Parameter t N.counts (last_byte S.last)
  unfolding param_record variable_allowed counts_of is_type follows pick
  param_goes t =
      subst (λ (n : Counts). VariableTo code L N S Parameter t n (last_byte S.last)) (sym Z.counted)
      (subst (VariableTo code L N S Parameter t (counts_of L)) (sym Z.last)
      (goes_guard (within 3 4 L.last) 3 _ _ _ _ refl (omega arith) (omega arith) λ x.
      goes_need (type_at (length L.parents) t) 4 _ _ _ _ refl (omega arith) (omega arith) λ u b.
      goes_test _ _ 5 _ _ _ _ refl (omega arith) (omega arith) (ap (λ (n : ℕ). ltb n 8) (latest_count L Z.methods.cell)) λ c.
      goes_test _ _ 6 _ _ _ _ refl (omega arith) (omega arith) (ap not (latest_sort L Z.methods.cell)) λ d.
      goes_ok _ _ (
      let w = within_true 3 4 L.last x in
      let few : length (arguments (latest L)) < 8 = ltb-true (length (arguments (latest L))) 8 c in
      let n = latest_count L Z.methods.cell in
      later ParameterKind (with_param u) _ w.0 (omega (arith, w.1)) (omega arith)
      (param_rows code L.methods N.initialisers N.methods N.parts Z.methods (Z.begun w.0 (omega (arith, w.1))) u t (type_byte (length L.parents) t u b) _
      (n ∙ ap (λ (m : Method). length (arguments m)) (latest_is L)) (omega arith)))))

  local_goes : (t : ℕ) → VariableTo code L N S Local t N.counts (last_byte S.last)
  unfolding local_record variable_allowed counts_of is_type follows pick
  local_goes t =
      subst (λ (n : Counts). VariableTo code L N S Local t n (last_byte S.last)) (sym Z.counted)
      (subst (VariableTo code L N S Local t (counts_of L)) (sym Z.last)
      (goes_guard (within 3 5 L.last) 3 _ _ _ _ refl (omega arith) (omega arith) λ x.
      goes_need (type_at (length L.parents) t) 4 _ _ _ _ refl (omega arith) (omega arith) λ u b.
      goes_test _ _ 5 _ _ _ _ refl (omega arith) (omega arith) (ap (λ (n : ℕ). ltb n 16) (latest_locals L Z.methods.cell)) λ c.
      goes_ok _ _ (
      let w = within_true 3 5 L.last x in
      let few : length (latest L).locals < 16 = ltb-true (length (latest L).locals) 16 c in
      let n = latest_locals L Z.methods.cell in
      later LocalKind (with_local u) _ w.0 w.1 (omega arith)
      (local_rows code L.methods N.initialisers N.methods N.parts Z.methods (Z.begun w.0 w.1) u t (type_byte (length L.parents) t u b) _
      (n ∙ ap (λ (m : Method). length m.locals) (latest_is L)) (omega arith)))))

  pub variable_goes : (v : Variable) (t : ℕ) → VariableTo code L N S v t N.counts (last_byte S.last)
  variable_goes Parameter = param_goes
  variable_goes Local = local_goes

  -- with the columns and the kind as the code has them
  abbrev Made : Variable → ℕ → ℕ → ℕ → Kind → Type 0
  Made v t i j k =
      Ok tt ≡ variable_allowed v (last_byte S.last) N.counts.classes t (count_at N N.counts.methods i) (count_at N N.counts.methods 24)
      → Goes (variable_record v L t) (Ok tt) (λ K. Stands code K
      (rows_in N (set (set N.methods (N.counts.methods * 32 + i) (count_at N N.counts.methods i + 1)) (N.counts.methods * 32 + j) t)) (noted S k))

  pub variable_taken : (v : Variable) (t i j : ℕ) (k : Kind) → i ≡ count_of v → j ≡ column_of v (count_at N N.counts.methods i) → k ≡ kind_of v → Made v t i j k
  unfolding stored
  variable_taken v t i j k ei ej ek =
      subst (λ (i : ℕ). Made v t i j k) (sym ei)
      (subst (λ (j : ℕ). Made v t (count_of v) j k) (sym (ej ∙ ap (λ (i : ℕ). column_of v (count_at N N.counts.methods i)) ei))
      (subst (Made v t (count_of v) (column_of v (count_at N N.counts.methods (count_of v)))) (sym ek)
      (λ q. accept _ _ _ q (variable_goes v t))))

  pub variable_refused : (v : Variable) (t i : ℕ) (e : Refusal) (P : Loading → Type 0) → i ≡ count_of v
      → Err e ≡ variable_allowed v (last_byte S.last) N.counts.classes t (count_at N N.counts.methods i) (count_at N N.counts.methods 24) → Goes (variable_record v L t) (Err e) P
  variable_refused v t i e P ei q =
      refuse _ _ _ _ _ (q ∙ ap (λ (i : ℕ). variable_allowed v (last_byte S.last) N.counts.classes t (count_at N N.counts.methods i) (count_at N N.counts.methods 24)) ei) (variable_goes v t)

-- a row has room for one more
pub room : (v : Variable) (n : ℕ) → n < most_of v → (n < 16) × (column_of v n < 24)
room Parameter n h = (omega arith, omega arith)
room Local n h = (omega arith, omega arith)

-- the module after the entry
abbrev pub entry_in : Loaded → Counts → ℕ → Loaded
entry_in N n r = record {
  counts = record { classes = n.classes; fields = n.fields; statics = n.statics; methods = n.methods; entry = r };
  parents = N.parents;
  initialisers = N.initialisers;
  fields = N.fields;
  methods = N.methods;
  parts = N.parts;
}

abbrev pub EntryTo : List ℕ → Loading → Loaded → Notes → ℕ → Bool → Counts → ℕ → Type 0
EntryTo code L N S r fits n last = Goes (entry_record L r) (entry_allowed last n.methods r fits) (λ K. Stands code K (entry_in N n r) (noted S Entry))

pub entry_goes : (code : List ℕ) (L : Loading) (N : Loaded) (S : Notes) → Stands code L N S → (r : ℕ) (fits : Bool) → EntryRule L r fits → EntryTo code L N S r fits N.counts (last_byte S.last)
unfolding entry_record entry_allowed counts_of EntryRule
entry_goes code L N S Z r fits rule =
    subst (λ (n : Counts). EntryTo code L N S r fits n (last_byte S.last)) (sym Z.counted)
    (subst (EntryTo code L N S r fits (counts_of L)) (sym Z.last)
    (goes_guard (follows L.last 6) 3 _ _ _ _ refl (omega arith) (omega arith) λ a.
    goes_guard (within 1 (length L.methods) r) 4 _ _ _ _ refl (omega arith) (omega arith) λ b.
    goes_test _ fits 6 _ _ _ _ refl (omega arith) (omega arith) (rule (within_true 1 (length L.methods) r b).1) λ c.
    goes_ok _ _ (record {
      counted = refl;
      last = refl;
      classes = Z.classes;
      fields = Z.fields;
      methods = Z.methods;
      place = Z.place;
      placed = Z.placed;
      fieldless = λ h. absurd (omega arith);
      begun = λ p q. absurd (omega arith);
    })))
