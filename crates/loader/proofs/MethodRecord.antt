-- A method's record keeps what stands.
use mathlib.Core.Path.{◌≡◌, refl, sym, ap, ◌∙◌, subst}
use Prim.Native.Nat.{ℕ, zero, suc, ◌+◌, ◌*◌, ◌≤◌, ◌<◌}
use mathlib.Core.Bool.{Bool, true, false, not, ◌&&◌, ◌||◌}
use mathlib.Core.Option.{Option, none, some}
use mathlib.Core.List.{List, [], ◌∷◌, ◌++◌}
use native.Mathlib.Omega.{arith}
use lib.ListN.{length, get_or, set, drop, length-drop}
use lib.Seq.{length-take-le}
use lib.Dec.{leb, ltb, eqb}
use borrow.Author.Tests.{leb-true, ltb-true, ltb-false, eqb-true, eqb-false, ne_eqb}
use Rattle.model.specs.Answer.{Answer, pick, is_none, at}
use Rattle.model.specs.Tables.{Ty, byte_of, Sort, static, instance, virtual, constructor, initialiser, sort_byte, is_sort, Method, part_of, method_at, this_of, arguments, root, initialiser_of, sort_at}
use Rattle.model.specs.Loading.{Loading, follows, within, return_at, override_fits, root_free, sort_fits, code_fits, method_record}
use Rattle.std.specs.Prelude.{Some, Result, Ok, ⊤}
use Rattle.loaded.specs.declared.Counts.{Counts}
use Rattle.loaded.specs.declared.Loaded.{Loaded}
use Rattle.loader.specs.declared.notes.Notes.{Notes}
use Rattle.loader.specs.declared.refusal.Refusal.{Refusal}
use Rattle.loader.specs.declared.method.Body.{Body}
use Rattle.loaded.specs.Holds.{byte_at}
use Rattle.loader.specs.declared.kind.Kind.TheVariants.{Method as MethodKind}
use Rattle.loader.specs.Kinds.{last_byte}
use Rattle.loader.specs.Goes.{Goes}
use Rattle.loader.specs.Rules.{OverrideRule, SortRule}
use Rattle.loader.specs.Allowed.{is_return, code_in, method_allowed}
use Rattle.loader.specs.Stands.{Column, stored, method_column, root_at, method_cell, part_cell, method_cells, part_cells, marked, this_byte, one_if, root_in, Sound, MethodRows, Stands, counts_of}
use Rattle.loader.proofs.Rows.{column_snoc, grown}
use Rattle.loader.proofs.Grid.{after, Below, grid_row}
use Rattle.loader.proofs.Methods.{method_here, method_there, rows_snoc, overrides_below, root_there, root_snoc, root_new, initialisers_new, columns, argument_column, local_column, cell_past}
use Rattle.loader.proofs.Open.{accept}
use Rattle.loader.proofs.Ladder.{goes_guard, goes_need, goes_test, goes_want, goes_ok, both_true, within_true, return_byte, return_void, sort_byte_lem, sort_test}

-- the method that a record declares, its sort and return type being k and u
abbrev pub method_of : List ℕ → Body → Sort → Option Ty → Method
method_of code b k u =
    record { owner = b.owner; sort = k; returns = u; max_stack = b.stack; overridden = b.overridden; offset = b.offset; code = part_of code b.offset b.size; params = []; locals = [] }

-- ---- `this`

this_byte_lem : (k : Sort) (o : ℕ) → byte_at (at (this_of k o ++ []) 0) ≡ this_byte (sort_byte k) o
unfolding byte_at at this_of this_byte sort_byte byte_of pick
this_byte_lem static o = refl
this_byte_lem instance o = refl
this_byte_lem virtual o = refl
this_byte_lem constructor o = refl
this_byte_lem initialiser o = refl

this_count : (k : Sort) (o : ℕ) → one_if (this_byte (sort_byte k) o) ≡ length (this_of k o ++ [])
unfolding this_of this_byte sort_byte one_if pick
this_count static o = refl
this_count instance o = ap (λ (b : Bool). pick b 0 1) (ne_eqb (32 + o) 0 (λ e. omega arith))
this_count virtual o = ap (λ (b : Bool). pick b 0 1) (ne_eqb (32 + o) 0 (λ e. omega arith))
this_count constructor o = ap (λ (b : Bool). pick b 0 1) (ne_eqb (32 + o) 0 (λ e. omega arith))
this_count initialiser o = refl

this_alone : (k : Sort) (o j : ℕ) → (j ≡ 0 → ⊥) → byte_at (at (this_of k o ++ []) j) ≡ 0
unfolding byte_at at this_of
this_alone k o zero n = absurd (n refl)
this_alone static o (suc j) n = refl
this_alone instance o (suc j) n = refl
this_alone virtual o (suc j) n = refl
this_alone constructor o (suc j) n = refl
this_alone initialiser o (suc j) n = refl

this_few : (k : Sort) (o : ℕ) → length (this_of k o ++ []) ≤ 8
unfolding this_of
this_few static o = omega arith
this_few instance o = omega arith
this_few virtual o = omega arith
this_few constructor o = omega arith
this_few initialiser o = omega arith

part_length : (code : List ℕ) (offset size : ℕ) → offset + size ≤ length code → size ≡ length (part_of code offset size)
unfolding part_of
part_length code offset size h = sym (length-take-le size (drop offset code) (subst (λ (n : ℕ). size ≤ n) (sym (length-drop offset code)) (omega arith)))

is_initialiser : (k : Sort) (s : ℕ) → sort_byte k ≡ s → eqb s 4 ≡ is_sort k initialiser
unfolding is_sort sort_byte
is_initialiser k s e = ap (λ (i : ℕ). eqb i 4) (sym e)

part_two : (code : List ℕ) (offset size d j : ℕ) → j < 2 → offset + size ≤ length code → after (part_cells offset size) j d ≡ pick (eqb j 0) offset (length (part_of code offset size))
unfolding after pick
part_two code offset size d zero h l = refl
part_two code offset size d (suc zero) h l = part_length code offset size l
part_two code offset size d (suc (suc j)) h l = absurd (omega arith)

-- ---- The rows with one method more

module _ (code : List ℕ) (ms : List Method) (inits a parts : List ℕ) (R : MethodRows code ms inits a parts)
    (b : Body) (k : Sort) (u : Option Ty) (sorted : sort_byte k ≡ b.sort) (returned : byte_at u ≡ b.returns) (voided : is_none u ≡ eqb b.returns 0)
    (small : b.owner < 33) (fits : b.offset + b.size ≤ length code) (room : length ms < 128) (below : b.overridden ≤ length ms)
    (dispatch : 0 < b.overridden → (k ≡ virtual) × ((method_at ms b.overridden).sort ≡ virtual)) (single : is_sort k initialiser ≡ true → initialiser_of ms b.owner ≡ none) where
  abbrev m : Method
  m = method_of code b k u

  sound_new : Sound code (ms ++ (method_of code b k u ∷ []))
  unfolding arguments
  sound_new = record {
    earlier = rows_snoc ms m (λ r x. 0 < r → x.overridden < r) R.sound.earlier (λ h. omega arith);
    dispatched = rows_snoc ms m (λ r x. 0 < x.overridden → (x.sort ≡ virtual) × ((method_at (ms ++ (m ∷ [])) x.overridden).sort ≡ virtual))
        (λ r h. let w = R.sound.dispatched r h in (w.0, old (method_at ms r).overridden (overrides_below ms R.sound.earlier r) w.1))
        (λ h. let w = dispatch h in (w.0, old b.overridden below w.1));
    part = rows_snoc ms m (λ r x. x.code ≡ part_of code x.offset (length x.code)) R.sound.part (ap (part_of code b.offset) (part_length code b.offset b.size fits));
    narrow = rows_snoc ms m (λ r x. length (arguments x) ≤ 8) R.sound.narrow (this_few k b.owner);
    void = rows_snoc ms m (λ r x. is_none x.returns ≡ eqb (byte_at x.returns) 0) R.sound.void (voided ∙ ap (λ (i : ℕ). eqb i 0) (sym returned));
  }
    where
      old : (w : ℕ) → w ≤ length ms → (method_at ms w).sort ≡ virtual → (method_at (ms ++ (m ∷ [])) w).sort ≡ virtual
      old w h e = ap (λ (x : Method). x.sort) (method_there ms m w (λ q. omega arith)) ∙ e

  abbrev this : ℕ
  this = this_byte b.sort b.owner

  -- the new row's columns, q being its root
  row_new : (q j : ℕ) → j < 32 → after (method_cells b (one_if this) this q) j 0 ≡ method_column q m j
  unfolding after method_cells method_column pick arguments at byte_at
  row_new q =
      columns (λ j. after (method_cells b (one_if this) this q) j 0 ≡ method_column q m j)
      (λ j h. argument j h (eqb j 0) refl ∙ sym (argument_column q m j h)) (λ i h. far (8 + i) (omega arith) (λ z. omega arith) ∙ sym (local_column q m i h))
      (sym sorted) refl (sym returned) refl (ap (λ (i : ℕ). one_if (this_byte i b.owner)) (sym sorted) ∙ this_count k b.owner) refl refl refl
    where
      far : (j : ℕ) → j < 24 → (j ≡ 0 → ⊥) → after (method_cells b (one_if this) this q) j 0 ≡ 0
      far j h n =
          simp (ne_eqb j 24 (λ z. omega arith), ne_eqb j 25 (λ z. omega arith), ne_eqb j 26 (λ z. omega arith), ne_eqb j 27 (λ z. omega arith), ne_eqb j 28 (λ z. omega arith), ne_eqb j 30 (λ z. omega arith), ne_eqb j 31 (λ z. omega arith), ne_eqb j 0 n)

      argument : (j : ℕ) → j < 8 → (c : Bool) → eqb j 0 ≡ c → after (method_cells b (one_if this) this q) j 0 ≡ byte_at (at (arguments m) j)
      argument j h true e =
          let z : j ≡ 0 = eqb-true j 0 e in
          ap (λ (i : ℕ). after (method_cells b (one_if this) this q) i 0) z
          ∙ ap (λ (i : ℕ). this_byte i b.owner) (sym sorted)
          ∙ sym (this_byte_lem k b.owner)
          ∙ ap (λ (i : ℕ). byte_at (at (arguments m) i)) (sym z)
      argument j h false e = far j (omega arith) (eqb-false j 0 e) ∙ sym (this_alone k b.owner j (eqb-false j 0 e))

  root_is : root_in a (length ms + 1) b.overridden ≡ root_at (ms ++ (m ∷ [])) (length ms + 1)
  unfolding root_in pick method_cell method_column
  root_is =
      pointed (eqb b.overridden 0) refl
      ∙ sym (root_new ms m R.sound.earlier below)
      ∙ sym (root_there (ms ++ (m ∷ [])) (length ms + 1) (omega arith) (let q = grown ms m in omega arith))
    where
      pointed : (x : Bool) → eqb b.overridden 0 ≡ x → pick x (length ms + 1) (get_or a (b.overridden * 32 + 30) 0) ≡ pick x (length ms + 1) (root ms b.overridden)
      pointed true e = refl
      pointed false e =
          let nz : b.overridden ≡ 0 → ⊥ = eqb-false b.overridden 0 e in
          R.cell.each b.overridden 30 (omega arith) ∙ root_there ms b.overridden (omega arith) below

  pub method_rows : MethodRows code (ms ++ (method_of code b k u ∷ [])) (marked inits b.sort b.owner (length ms + 1))
      (stored 32 (length ms + 1) a (method_cells b (one_if (this_byte b.sort b.owner)) (this_byte b.sort b.owner) (root_in a (length ms + 1) b.overridden)))
      (stored 2 (length ms + 1) parts (part_cells b.offset b.size))
  unfolding method_cell part_cell Below method_cells
  method_rows = record {
    initialiser = initialisers_new ms m b.sort (is_initialiser k b.sort sorted) small R.initialiser single;
    cell = grid_row R.cell (length ms + 1) (omega arith) _ (omega arith, (omega arith, (omega arith, (omega arith, (omega arith, (omega arith, (omega arith, (omega arith, tt)))))))) (method_cell (ms ++ (m ∷ [])))
        (λ r j h n. ap (λ (q : ℕ). method_column q (method_at ms r) j) (sym (root_snoc ms m R.sound.earlier r n)) ∙ ap (λ (x : Method). method_column (root_at (ms ++ (m ∷ [])) r) x j) (sym (method_there ms m r n)))
        (λ j h. ap (after _ j) (cell_past ms (length ms + 1) j (omega arith) h) ∙ row_new _ j h ∙ ap (λ (q : ℕ). method_column q m j) root_is ∙ ap (λ (x : Method). method_column (root_at (ms ++ (m ∷ [])) (length ms + 1)) x j) (sym (method_here ms m)));
    part = grid_row R.part (length ms + 1) (omega arith) _ (omega arith, (omega arith, tt)) (part_cell (ms ++ (m ∷ [])))
        (λ r j h n. ap (λ (x : Method). pick (eqb j 0) x.offset (length x.code)) (sym (method_there ms m r n)))
        (λ j h. part_two code b.offset b.size _ j h fits ∙ ap (λ (x : Method). pick (eqb j 0) x.offset (length x.code)) (sym (method_here ms m)));
    sound = sound_new;
    few = let q = grown ms m in omega arith;
  }

-- ---- What the rules say

none_of : {A : Type 0} (o : Option A) → is_none o ≡ true → o ≡ none
unfolding is_none
none_of none e = refl
none_of (some a) e = let z : ◌≡◌ {A = ℕ} 0 1 = cc in absurd (omega arith)

is_virtual : (k : Sort) → is_sort k virtual ≡ true → k ≡ virtual
unfolding is_sort sort_byte
is_virtual static e = let z : ◌≡◌ {A = ℕ} 0 1 = cc in absurd (omega arith)
is_virtual instance e = let z : ◌≡◌ {A = ℕ} 0 1 = cc in absurd (omega arith)
is_virtual virtual e = refl
is_virtual constructor e = let z : ◌≡◌ {A = ℕ} 0 1 = cc in absurd (omega arith)
is_virtual initialiser e = let z : ◌≡◌ {A = ℕ} 0 1 = cc in absurd (omega arith)

or_true : (a b : Bool) → a || b ≡ true → (a ≡ false → b ≡ true)
or_true true b e f = let z : ◌≡◌ {A = ℕ} 0 1 = cc in absurd (omega arith)
or_true false b e f = e

not_or : (a b : Bool) → not a || b ≡ true → a ≡ true → b ≡ true
not_or true b e f = e
not_or false b e f = let z : ◌≡◌ {A = ℕ} 0 1 = cc in absurd (omega arith)

-- an overridden row is 0 or an earlier virtual method's, of a virtual method
override_says : (L : Loading) (m : Method) → override_fits L m ≡ true → (0 < m.overridden → (m.overridden ≤ length L.methods) × (m.sort ≡ virtual) × ((method_at L.methods m.overridden).sort ≡ virtual))
unfolding override_fits
override_says L m e h =
    let rest = or_true (eqb m.overridden 0) _ e (ne_eqb m.overridden 0 (λ q. omega arith)) in
    let one = both_true (is_sort m.sort virtual) _ rest in
    let two = both_true (within 1 (length L.methods) m.overridden) _ one.1 in
    let three = both_true (is_sort (method_at L.methods m.overridden).sort virtual) _ two.1 in
    ((within_true 1 (length L.methods) m.overridden two.0).1, is_virtual m.sort one.0, is_virtual (method_at L.methods m.overridden).sort three.0)

sort_says : (L : Loading) (m : Method) → sort_fits L m ≡ true → is_sort m.sort initialiser ≡ true → initialiser_of L.methods m.owner ≡ none
unfolding sort_fits
sort_says L m e i =
    none_of (initialiser_of L.methods m.owner) (both_true (is_none (initialiser_of L.methods m.owner)) _ (not_or (is_sort m.sort initialiser) _ (both_true _ _ e).0 i)).0

-- ---- A method's record

and_assoc : (a b c : Bool) → (a && b) && c ≡ a && (b && c)
and_assoc true b c = refl
and_assoc false b c = refl

-- the module and the notes after a method, whose initialisers, rows and parts are then i, m and p
abbrev pub method_in : Loaded → Counts → List ℕ → List ℕ → List ℕ → Loaded
method_in N n i m p = record {
  counts = record { classes = n.classes; fields = n.fields; statics = n.statics; methods = n.methods + 1; entry = n.entry };
  parents = N.parents;
  initialisers = i;
  fields = N.fields;
  methods = m;
  parts = p;
}

abbrev pub method_noted : Notes → ℕ → ℕ → Notes
method_noted S place n = record { last = Some MethodKind; own = S.own; places = set S.places (n + 1) place }

abbrev pub filled : Loaded → Body → Counts → Loaded
filled N b n =
    method_in N n (marked N.initialisers b.sort b.owner (n.methods + 1))
    (stored 32 (n.methods + 1) N.methods (method_cells b (one_if (this_byte b.sort b.owner)) (this_byte b.sort b.owner) (root_in N.methods (n.methods + 1) b.overridden)))
    (stored 2 (n.methods + 1) N.parts (part_cells b.offset b.size))

abbrev pub record_of : List ℕ → Loading → ℕ → Body → Answer ℕ Loading
record_of code L place b = method_record code L place b.owner b.sort b.returns b.stack b.overridden b.offset b.size

abbrev pub allowed : ℕ → Counts → Body → ℕ → Bool → Bool → Result ⊤ Refusal
allowed last n b code over fits = method_allowed last n.classes n.methods b.owner b.sort b.returns b.stack (code_in code b.offset b.size) over fits

abbrev pub MethodTo : List ℕ → Loading → Loaded → Notes → Body → ℕ → Bool → Bool → Counts → ℕ → Type 0
MethodTo code L N S b place over fits n last =
    Goes (record_of code L place b) (allowed last n b (length code) over fits) (λ K. Stands code K (filled N b n) (method_noted S place n.methods))

module _ (code : List ℕ) (L : Loading) (N : Loaded) (S : Notes) (Z : Stands code L N S) (b : Body) (place : ℕ) where
  After : Loading → Type 0
  After K = Stands code K (filled N b (counts_of L)) (method_noted S place (length L.methods))

  taken : (k : Sort) (u : Option Ty) → within 1 (length L.parents) b.owner ≡ true → sort_at b.sort ≡ some k → return_at (length L.parents) b.returns ≡ some u → code_fits code b.offset b.size ≡ true → ltb (length L.methods) 128 ≡ true
      → override_fits L (method_of code b k u) && (root_free L (method_of code b k u) && sort_fits L (method_of code b k u)) ≡ true
      → After (record { last = 3; parents = L.parents; fields = L.fields; entry = L.entry; methods = L.methods ++ (method_of code b k u ∷ []); places = L.places ++ (place ∷ []) })
  unfolding After code_fits counts_of
  taken k u x c d f h w =
      let m = method_of code b k u in
      let own = within_true 1 (length L.parents) b.owner x in
      let many : length L.parents ≤ 32 = Z.classes.few in
      let rules = both_true (override_fits L m) _ w in
      let over = override_says L m rules.0 in
      let sorts = sort_says L m (both_true (root_free L m) _ rules.1).1 in
      let fits = leb-true (b.offset + b.size) (length code) (both_true (within 1 1024 b.size) _ f).1 in
      let room = ltb-true (length L.methods) 128 h in
      record {
        counted = cc (grown L.methods m);
        last = refl;
        classes = Z.classes;
        fields = Z.fields;
        methods = method_rows code L.methods N.initialisers N.methods N.parts Z.methods b k u (sort_byte_lem b.sort k c) (return_byte (length L.parents) b.returns u d) (return_void (length L.parents) b.returns u d)
            (omega (arith, own.1)) fits room (below (ltb 0 b.overridden) refl (λ q. (over q).0)) (λ q. ((over q).1, (over q).2)) sorts;
        place = subst (λ (i : ℕ). Column 129 (L.places ++ (place ∷ [])) (set S.places (i + 1) place)) Z.placed (column_snoc Z.place (let q = Z.placed in omega arith) place);
        placed = grown L.places place ∙ ap (λ (i : ℕ). i + 1) Z.placed ∙ sym (grown L.methods m);
        fieldless = λ q. absurd (omega arith);
        begun = λ p q. let z = grown L.methods m in omega arith;
      }
    where
      below : (x : Bool) → ltb 0 b.overridden ≡ x → (0 < b.overridden → b.overridden ≤ length L.methods) → b.overridden ≤ length L.methods
      below true e h = h (ltb-true 0 b.overridden e)
      below false e h = let z = ltb-false 0 b.overridden e in omega arith

  pub method_goes : (over fits : Bool) → OverrideRule L b.owner b.sort b.overridden over → SortRule L b.owner b.sort b.returns fits
      → (size : ℕ) → size ≡ length code → Goes (record_of code L place b) (allowed (last_byte S.last) N.counts b size over fits) (λ K. Stands code K (filled N b N.counts) (method_noted S place N.counts.methods))
  unfolding method_record method_allowed counts_of is_return code_in code_fits OverrideRule SortRule After
  method_goes over fits rule sorts size es =
      subst (λ (i : ℕ). Goes (record_of code L place b) (allowed (last_byte S.last) N.counts b i over fits) (λ K. Stands code K (filled N b N.counts) (method_noted S place N.counts.methods))) (sym es)
      (subst (λ (n : Counts). MethodTo code L N S b place over fits n (last_byte S.last)) (sym Z.counted)
      (subst (MethodTo code L N S b place over fits (counts_of L)) (sym Z.last)
      (goes_guard (follows L.last 3) 3 _ _ After _ refl (omega arith) (omega arith) λ x.
      goes_guard (within 1 (length L.parents) b.owner) 4 _ _ After _ refl (omega arith) (omega arith) λ y.
      goes_want (sort_at b.sort) (leb b.sort 4) 4 _ _ After _ refl (omega arith) (omega arith) (sym (sort_test b.sort)) λ k c.
      goes_need (return_at (length L.parents) b.returns) 4 _ _ After _ refl (omega arith) (omega arith) λ u d.
      goes_guard (leb b.stack 32) 4 _ _ After _ refl (omega arith) (omega arith) λ i.
      goes_guard (code_fits code b.offset b.size) 4 _ _ After _ refl (omega arith) (omega arith) λ f.
      goes_guard (ltb (length L.methods) 128) 5 _ _ After _ refl (omega arith) (omega arith) λ h.
      goes_test _ (over && fits) 6 _ _ After _ refl (omega arith) (omega arith)
      (ap (λ (z : Bool). z && fits) (rule (method_of code b k u) refl (sort_byte_lem b.sort k c) refl)
      ∙ ap (λ (z : Bool). (override_fits L (method_of code b k u) && root_free L (method_of code b k u)) && z) (sorts (method_of code b k u) refl (sort_byte_lem b.sort k c) (return_void (length L.parents) b.returns u d))
      ∙ and_assoc (override_fits L (method_of code b k u)) (root_free L (method_of code b k u)) (sort_fits L (method_of code b k u))) λ w.
      goes_ok _ After (taken k u y c d f h w))))

  -- with the values and rows as the code has them
  pub method_taken : (over fits : Bool) → OverrideRule L b.owner b.sort b.overridden over → SortRule L b.owner b.sort b.returns fits
      → (size : ℕ) → size ≡ length code → Ok tt ≡ allowed (last_byte S.last) N.counts b size over fits
      → (this q : ℕ) → this ≡ this_byte b.sort b.owner → q ≡ root_in N.methods (N.counts.methods + 1) b.overridden
      → (i m p : List ℕ) → i ≡ marked N.initialisers b.sort b.owner (N.counts.methods + 1) → m ≡ stored 32 (N.counts.methods + 1) N.methods (method_cells b (one_if this) this q) → p ≡ stored 2 (N.counts.methods + 1) N.parts (part_cells b.offset b.size)
      → Goes (record_of code L place b) (Ok tt) (λ K. Stands code K (method_in N N.counts i m p) (method_noted S place N.counts.methods))
  method_taken over fits rule sorts size es z this q et eq i m p ei em ep =
      subst (λ (x : Loaded). Goes (record_of code L place b) (Ok tt) (λ K. Stands code K x (method_noted S place N.counts.methods))) (sym same)
      (accept _ _ _ z (method_goes over fits rule sorts size es))
    where
      cells : stored 32 (N.counts.methods + 1) N.methods (method_cells b (one_if this) this q) ≡ stored 32 (N.counts.methods + 1) N.methods (method_cells b (one_if (this_byte b.sort b.owner)) (this_byte b.sort b.owner) (root_in N.methods (N.counts.methods + 1) b.overridden))
      cells = λ x. stored 32 (N.counts.methods + 1) N.methods (method_cells b (one_if (et x)) (et x) (eq x))

      same : method_in N N.counts i m p ≡ filled N b N.counts
      same = λ x. method_in N N.counts (ei x) ((em ∙ cells) x) (ep x)
