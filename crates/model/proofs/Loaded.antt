-- What loading ensures of a module.
use mathlib.Core.Logic.{◌≢◌}
use mathlib.Core.Path.{◌≡◌, refl, sym, ap, ◌∙◌, subst}
use Prim.Native.Nat.{ℕ, zero, suc, ◌+◌, ◌≤◌, ◌<◌, zero-le}
use native.Mathlib.Nat.{le_refl}
use native.Mathlib.Omega.{arith}
use mathlib.Core.Bool.{Bool, true, false, not, ◌&&◌, ◌||◌}
use mathlib.Core.Option.{Option, none, some}
use mathlib.Core.List.{List, [], ◌∷◌, ◌++◌, append_assoc, append-nil}
use lib.ListN.{length, get_or, drop, length-append, length-drop}
use lib.Seq.{length-take-le}
use lib.Dec.{T, leb, ltb, eqb, eqb→eq, eqb_refl, leb→le, ltb→lt, T_not, not_T, nltb→le}
use Rattle.model.specs.Answer.{ok, pick, or_else, is_none, at, row, keep_if, those, last_of, on_last}
use Rattle.model.specs.Tables.{most_classes, most_fields, most_statics, most_methods, most_instance, most_arguments, most_locals, most_stack, most_length}
use Rattle.model.specs.Tables.{Ty, int32, int64, F, null, class, eq_tys, type_at, Sort, static, instance, virtual, constructor, initialiser, is_sort}
use Rattle.model.specs.Tables.{Field, Method, Module, part_of, no_method, method_at, this_of, arguments, parent_of, descends, is_own, layout_up, layout}
use Rattle.model.specs.Tables.{is_static_field, initialiser_of}
use Rattle.model.specs.Loading.{Loading, nothing, within, follows, parent_fits, class_record, no_field, field_room, field_record, return_at, override_fits}
use Rattle.model.specs.Loading.{root_free, sort_fits, code_fits, method_record, latest, with_param, with_local, on_latest, param_record, local_record, is_integer}
use Rattle.model.specs.Loading.{all, no_class, entry_fits, entry_record, one_record, read_record, records, eq_returns, differs, agreed, load}
use Rattle.model.proofs.Hoare.{Yields, yields_ok, yields_bind, yields_then, yields_need, yields_guard, yields_blame, yields_pick, yields_of, none_some}
use Rattle.model.proofs.Hoare.{some_eq, bad_ok, and_l, and_r, or_e, by_test, implies, is_none_lem, only_inv, map_inv, pick_inv, All, anil, all_snoc}
use Rattle.model.proofs.Rows.{at_snoc, length_snoc, row_at, row_append, row_inside, those_snoc, those_none, first_none, last_snoc, length_on_last}
use Rattle.model.proofs.Rows.{on_last_at, row_on_last}
use Rattle.model.proofs.Ancestors.{Falls, Above, descends_above, layout_parent, eq_ty_eq, eq_tys_eq}

-- ---- The laws

-- a type that tables with n classes can declare
unfoldable pub Declared : ℕ → Ty → Type 0
Declared n int32 = Unit {0}
Declared n int64 = Unit {0}
Declared n F = Unit {0}
Declared n null = ⊥
Declared n (class c) = (1 ≤ c) × (c ≤ n)

pub record FieldFits (n : ℕ) (f : Field) : Type 0 where
  pub low : 1 ≤ f.owner
  pub high : f.owner ≤ n
  pub type : Declared n f.type

-- a method's code is a part of the lent code
pub record CodeFits (code : List ℕ) (m : Method) : Type 0 where
  pub least : 1 ≤ length m.code
  pub most : length m.code ≤ most_length
  pub inside : m.offset + length m.code ≤ length code
  pub part : m.code ≡ part_of code m.offset (length m.code)

pub record MethodFits (n : ℕ) (code : List ℕ) (m : Method) : Type 0 where
  pub low : 1 ≤ m.owner
  pub high : m.owner ≤ n
  pub stack : m.max_stack ≤ most_stack
  pub count : length (arguments m) ≤ most_arguments
  pub local_count : length m.locals ≤ most_locals
  pub returns : (t : Ty) → m.returns ≡ some t → Declared n t
  pub params : All (Declared n) m.params
  pub locals : All (Declared n) m.locals
  pub bytes : CodeFits code m
  pub initialises : T (is_sort m.sort initialiser) → (m.returns ≡ none) × (m.params ≡ []) × (m.owner ≢ 1)
  pub constructs : T (is_sort m.sort constructor) → m.returns ≡ none

-- the method at a row overrides an earlier virtual one of a proper ancestor
pub record Overrides (ps : List ℕ) (ms : List Method) (r : ℕ) (m : Method) : Type 0 where
  pub named : Method
  pub is : row ms m.overridden ≡ some named
  pub earlier : m.overridden < r
  pub overrides : T (is_sort m.sort virtual)
  pub overridden : T (is_sort named.sort virtual)
  pub proper : named.owner ≢ m.owner
  pub above : Above ps named.owner m.owner

-- the same return and parameters
pub record Like (a b : Method) : Type 0 where
  pub returns : a.returns ≡ b.returns
  pub params : a.params ≡ b.params

pub record EntryFits (ms : List Method) (r : ℕ) : Type 0 where
  pub is : row ms r ≡ some (method_at ms r)
  pub is_static : T (is_sort (method_at ms r).sort static)
  pub integers : T (all is_integer (method_at ms r).params)
  pub returns : T (no_class (method_at ms r).returns)

pub record Loaded (code : List ℕ) (M : Module) : Type 0 where
  pub falls : Falls M.parents
  pub parent : (c p : ℕ) → row M.parents (suc c) ≡ some p → (p ≤ c) × (0 < c → 1 ≤ p)
  pub classes : length M.parents ≤ most_classes
  pub field : (r : ℕ) (f : Field) → row M.fields r ≡ some f → FieldFits (length M.parents) f
  pub fields : length M.fields ≤ most_fields
  pub statics : length (those is_static_field M.fields) ≤ most_statics
  pub layouts : (c : ℕ) → length (layout M.parents M.fields c) ≤ most_instance
  pub method : (r : ℕ) (m : Method) → row M.methods r ≡ some m → MethodFits (length M.parents) code m
  pub methods : length M.methods ≤ most_methods
  pub override : (r : ℕ) (m : Method) → row M.methods r ≡ some m → m.overridden ≢ 0 → Overrides M.parents M.methods r m
  pub agree : (r : ℕ) (m : Method) → row M.methods r ≡ some m → m.overridden ≢ 0 → Like m (method_at M.methods m.overridden)
  pub entry : EntryFits M.methods M.entry

-- ---- Types and parents

declared : (n b : ℕ) (t : Ty) → type_at n b ≡ some t → Declared n t
unfolding type_at Declared
declared n b t e =
    pick_inv (eqb b 1) _ _ t e (λ _ q. subst (λ (x : Ty). Declared n x) (some_eq q) tt) λ _ e1.
    pick_inv (eqb b 2) _ _ t e1 (λ _ q. subst (λ (x : Ty). Declared n x) (some_eq q) tt) λ _ e2.
    pick_inv (eqb b 3) _ _ t e2 (λ _ q. subst (λ (x : Ty). Declared n x) (some_eq q) tt) λ _ e3.
    let (u, q) = only_inv (ltb 32 b && leb b (32 + n)) _ _ e3 in
    let h : 32 < b = ltb→lt 32 b (and_l (ltb 32 b) (leb b (32 + n)) u) in
    let k : b ≤ 32 + n = leb→le b (32 + n) (and_r (ltb 32 b) (leb b (32 + n)) u) in
    subst (λ (x : Ty). Declared n x) (some_eq q) (omega arith, omega arith)

returned : (n b : ℕ) (u : Option Ty) → return_at n b ≡ some u → (t : Ty) → u ≡ some t → Declared n t
unfolding return_at
returned n b u e t z =
    pick_inv (eqb b 0) _ _ u e (λ _ q. none_some (some_eq q ∙ z)) λ _ q.
    let (s, e1, e2) = map_inv _ _ _ q in
    declared n b t (e1 ∙ e2 ∙ z)

within_low : (low high n : ℕ) → T (within low high n) → low ≤ n
unfolding within
within_low low high n t = leb→le low n (and_l (leb low n) (leb n high) t)

within_high : (low high n : ℕ) → T (within low high n) → n ≤ high
unfolding within
within_high low high n t = leb→le n high (and_r (leb low n) (leb n high) t)

parent_fits_lem : (c p : ℕ) → T (parent_fits c p) → (p ≤ c) × (0 < c → 1 ≤ p)
unfolding parent_fits
parent_fits_lem c p t = go (eqb c 0) (λ s. eqb→eq c 0 s) t
  where
    go : (b : Bool) → (T b → c ≡ 0) → T (pick b (eqb p 0) (within 1 c p)) → (p ≤ c) × (0 < c → 1 ≤ p)
    go true f t = let z : p ≡ 0 = eqb→eq p 0 (unfold pick in t) in let y : c ≡ 0 = f tt in (omega arith, λ h. absurd (omega arith))
    go false f t = (within_high 1 c p (unfold pick in t), λ _. within_low 1 c p (unfold pick in t))

parents_fall : (ps : List ℕ) → ((i p : ℕ) → at ps i ≡ some p → T (parent_fits i p)) → Falls ps
unfolding parent_of row or_else
parents_fall ps h c = go (at ps c) refl
  where
    go : (o : Option ℕ) → at ps c ≡ o → or_else o 0 ≤ c
    go none e = unfold or_else in (omega arith)
    go (some p) e = unfold or_else in (parent_fits_lem c p (h c p e)).0

-- ---- While loading

record Loads (code : List ℕ) (L : Loading) : Type 0 where
  pub parent : (i p : ℕ) → at L.parents i ≡ some p → T (parent_fits i p)
  pub classes : length L.parents ≤ most_classes
  pub field : (i : ℕ) (f : Field) → at L.fields i ≡ some f → FieldFits (length L.parents) f
  pub fields : length L.fields ≤ most_fields
  pub statics : length (those is_static_field L.fields) ≤ most_statics
  pub sorted : (i : ℕ) (f : Field) → at L.fields i ≡ some f → f.owner ≤ (last_of no_field L.fields).owner
  pub layouts : (c : ℕ) → length (layout L.parents L.fields c) ≤ most_instance
  pub method : (i : ℕ) (m : Method) → at L.methods i ≡ some m → MethodFits (length L.parents) code m
  pub methods : length L.methods ≤ most_methods
  pub override : (i : ℕ) (m : Method) → at L.methods i ≡ some m → m.overridden ≢ 0 → Overrides L.parents L.methods (suc i) m
  pub no_fields : L.last ≤ 1 → L.fields ≡ []
  pub no_methods : L.last ≤ 2 → L.methods ≡ []
  pub entry : L.last ≡ 6 → EntryFits L.methods L.entry

-- no fields, no layout
layout_nil : (ps : List ℕ) (n c : ℕ) → layout_up ps [] n c ≡ []
unfolding layout_up those
layout_nil ps zero c = refl
layout_nil ps (suc n) zero = refl
layout_nil ps (suc n) (suc c) = rw (layout_nil ps n (parent_of ps (suc c)))

no_layout : (ps : List ℕ) (c : ℕ) → length (layout ps [] c) ≤ most_instance
unfolding layout
no_layout ps c = rw (layout_nil ps c c) zero-le

nothing_loads : (code : List ℕ) → Loads code nothing
unfolding nothing at those
nothing_loads code = record {
  parent = λ i p e. none_some e;
  classes = zero-le;
  field = λ i f e. none_some e;
  fields = zero-le;
  statics = zero-le;
  sorted = λ i f e. none_some e;
  layouts = no_layout [];
  method = λ i m e. none_some e;
  methods = zero-le;
  override = λ i m e. none_some e;
  no_fields = λ _. refl;
  no_methods = λ _. refl;
  entry = λ h. absurd (omega arith);
}

at_empty : {X : Type 0} {A : Type 0} (l : List A) (i : ℕ) (a : A) → l ≡ [] → at l i ≡ some a → X
unfolding at
at_empty [] i a z e = none_some e
at_empty (x ∷ l) i a z e = let y : ◌≡◌ {A = ℕ} 0 1 = cc in absurd (omega arith)

after_classes : (last : ℕ) → T (follows last 1) → last ≤ 1
unfolding follows pick
after_classes last t = leb→le last 1 t

after_fields : (last : ℕ) → T (follows last 2) → last ≤ 2
unfolding follows pick
after_fields last t = within_high 1 2 last t

class_loads : (code : List ℕ) (L : Loading) (p : ℕ) → Loads code L → Yields (Loads code) (class_record L p)
unfolding class_record
class_loads code L p k =
    yields_guard _ _ _ _ λ t. yields_guard _ _ _ _ λ u. yields_guard _ _ _ _ λ v.
    let h : L.last ≤ 1 = after_classes L.last t in
    let f : L.fields ≡ [] = k.no_fields h in
    let g : L.methods ≡ [] = k.no_methods (omega arith) in
    let n : length L.parents < most_classes = ltb→lt (length L.parents) most_classes v in
    yields_ok _ _ _ (record {
      parent = λ i q e. at_snoc L.parents p i q e (λ d. k.parent i q d) (λ z y. rw (z, ← y) u);
      classes = rw (length_snoc L.parents p) n;
      field = λ i d e. at_empty L.fields i d f e;
      fields = k.fields;
      statics = k.statics;
      sorted = k.sorted;
      layouts = λ c. rw f (no_layout (L.parents ++ (p ∷ [])) c);
      method = λ i m e. at_empty L.methods i m g e;
      methods = k.methods;
      override = λ i m e. at_empty L.methods i m g e;
      no_fields = λ _. f;
      no_methods = λ _. g;
      entry = λ z. absurd (omega arith);
    })

-- ---- A field

-- a field of another class, or a static one, adds nothing to a class's own
own_else : (c : ℕ) (fs : List Field) (f : Field) → T (not (is_own c f)) → those (is_own c) (fs ++ (f ∷ [])) ≡ those (is_own c) fs
own_else c fs f t = those_snoc (is_own c) fs f ∙ ap (λ (l : List Field). those (is_own c) fs ++ l) (keep_no (is_own c f) f t) ∙ append-nil (those (is_own c) fs)
  where
    keep_no : (b : Bool) (x : Field) → T (not b) → keep_if b x [] ≡ []
    keep_no true x t = absurd t
    keep_no false x t = unfold keep_if in refl

not_own : (c : ℕ) (f : Field) → f.owner ≢ c → T (not (is_own c f))
unfolding is_own
not_own c f h = not_T (eqb f.owner c && not f.is_static) (λ t. h (eqb→eq f.owner c (and_l (eqb f.owner c) (not f.is_static) t)))

module _ (ps : List ℕ) (w : Falls ps) (fs : List Field) (f : Field) where
  -- a class before the field's keeps its layout
  layout_before : (n c : ℕ) → c ≤ n → c < f.owner → layout ps (fs ++ (f ∷ [])) c ≡ layout ps fs c
  unfolding layout layout_up
  layout_before zero zero h k = refl
  layout_before zero (suc c) h k = absurd (omega arith)
  layout_before (suc n) zero h k = refl
  layout_before (suc n) (suc c) h k =
      let p : parent_of ps (suc c) ≤ c = w c in
      layout_parent ps (fs ++ (f ∷ [])) w c
      ∙ ap (λ (l : List Field). l ++ those (is_own (suc c)) (fs ++ (f ∷ []))) (layout_before n (parent_of ps (suc c)) (omega arith) (omega arith))
      ∙ ap (λ (l : List Field). layout ps fs (parent_of ps (suc c)) ++ l) (own_else (suc c) fs f (not_own (suc c) f (λ e. absurd (omega arith))))
      ∙ sym (layout_parent ps fs w c)

  module _ (sorted : (i : ℕ) (g : Field) → at fs i ≡ some g → g.owner ≤ f.owner) (old : (c : ℕ) → length (layout ps fs c) ≤ most_instance)
      (room : T (not f.is_static) → length (layout ps fs f.owner) < most_instance) where
    -- a later class has no fields of its own yet
    own_later : (c : ℕ) → f.owner < c → those (is_own c) (fs ++ (f ∷ [])) ≡ []
    own_later c h = those_none (is_own c) (fs ++ (f ∷ [])) λ i g e. at_snoc fs f i g e
        (λ q. let l : g.owner ≤ f.owner = sorted i g q in not_own c g (λ z. absurd (omega arith)))
        (λ _ q. let z : f.owner ≡ g.owner = ap (λ (x : Field). x.owner) q in not_own c g (λ y. absurd (omega arith)))

    -- the field's own class
    layout_here : (c : ℕ) → f.owner ≡ suc c → length (layout ps (fs ++ (f ∷ [])) (suc c)) ≤ most_instance
    layout_here c z =
        let p : parent_of ps (suc c) ≤ c = w c in
        let before = layout_before c (parent_of ps (suc c)) p (omega arith) in
        let all : layout ps (fs ++ (f ∷ [])) (suc c) ≡ layout ps fs (suc c) ++ keep_if (is_own (suc c) f) f [] =
        layout_parent ps (fs ++ (f ∷ [])) w c
        ∙ ap (λ (l : List Field). l ++ those (is_own (suc c)) (fs ++ (f ∷ []))) before
        ∙ ap (λ (l : List Field). layout ps fs (parent_of ps (suc c)) ++ l) (those_snoc (is_own (suc c)) fs f)
        ∙ sym (append_assoc (layout ps fs (parent_of ps (suc c))) (those (is_own (suc c)) fs) (keep_if (is_own (suc c) f) f []))
        ∙ ap (λ (l : List Field). l ++ keep_if (is_own (suc c) f) f []) (sym (layout_parent ps fs w c)) in
        let o : length (layout ps fs (suc c)) ≤ most_instance = old (suc c) in
        rw all (rw (length-append (layout ps fs (suc c)) (keep_if (is_own (suc c) f) f [])) (by_test f.is_static
        (λ t. rw (kept (is_own (suc c) f) (own_static (suc c) t)) (omega arith))
        (λ t. let r : length (layout ps fs f.owner) < most_instance = room t in
        let s : length (layout ps fs (suc c)) < most_instance = rw z at r in
        let q : length (keep_if (is_own (suc c) f) f []) ≤ 1 = at_most (is_own (suc c) f) in omega arith)))
      where
        own_static : (c : ℕ) → T f.is_static → T (not (is_own c f))
        own_static c t =
            unfold is_own in (not_T (eqb f.owner c && not f.is_static) (λ s. T_not f.is_static (and_r (eqb f.owner c) (not f.is_static) s) t))

        kept : (b : Bool) → T (not b) → length (keep_if b f []) ≡ 0
        kept true t = absurd t
        kept false t = unfold keep_if in refl

        at_most : (b : Bool) → length (keep_if b f []) ≤ 1
        at_most true = unfold keep_if in (omega arith)
        at_most false = unfold keep_if in (omega arith)

    -- no layout passes the most
    layout_most : (n c : ℕ) → c ≤ n → length (layout ps (fs ++ (f ∷ [])) c) ≤ most_instance
    unfolding layout layout_up
    layout_most zero zero h = zero-le
    layout_most zero (suc c) h = absurd (omega arith)
    layout_most (suc n) zero h = zero-le
    layout_most (suc n) (suc c) h = by_test (ltb (suc c) f.owner)
        (λ t. let k : suc c < f.owner = ltb→lt (suc c) f.owner t in rw (layout_before (suc c) (suc c) (le_refl (suc c)) k) (old (suc c)))
        (λ t. let k : f.owner ≤ suc c = nltb→le (suc c) f.owner t in by_test (eqb f.owner (suc c))
        (λ u. layout_here c (eqb→eq f.owner (suc c) u))
        (λ u. let z : f.owner ≢ suc c = λ e. T_not (eqb f.owner (suc c)) u (rw e (eqb_refl (suc c))) in
        let p : parent_of ps (suc c) ≤ c = w c in
        let later : f.owner < suc c = lt_of k z in
        rw (layout_parent ps (fs ++ (f ∷ [])) w c, own_later (suc c) later, append-nil) (layout_most n (parent_of ps (suc c)) (omega arith))))
      where
        lt_of : {a b : ℕ} → a ≤ b → a ≢ b → a < b
        lt_of h z = omega arith

field_loads : (code : List ℕ) (L : Loading) (o flag t : ℕ) → Loads code L → Yields (Loads code) (field_record L o flag t)
unfolding field_record field_room
field_loads code L o flag t k =
    yields_guard _ _ _ _ λ a. yields_guard _ _ _ _ λ b. yields_guard _ _ _ _ λ c. yields_need _ _ _ _ λ u e. yields_guard _ _ _ _ λ d.
    let f : Field = record { owner = o; is_static = eqb flag 1; type = u } in
    let g : L.methods ≡ [] = k.no_methods (after_fields L.last (and_l (follows L.last 2) (leb (last_of no_field L.fields).owner o) a)) in
    let last : (last_of no_field L.fields).owner ≤ o = leb→le (last_of no_field L.fields).owner o
    (and_r (follows L.last 2) (leb (last_of no_field L.fields).owner o) a) in
    let sorted : (i : ℕ) (h : Field) → at L.fields i ≡ some h → h.owner ≤ o = λ i h q.
    (let l : h.owner ≤ (last_of no_field L.fields).owner = k.sorted i h q in omega arith) in
    let room = and_r (ltb (length L.fields) most_fields) (pick (eqb flag 1) (ltb (length (those is_static_field L.fields)) most_statics)
    (ltb (length (layout L.parents L.fields o)) most_instance)) d in
    yields_ok _ _ _ (record {
      parent = k.parent;
      classes = k.classes;
      field = λ i h q. at_snoc L.fields f i h q (λ r. k.field i h r)
          (λ _ z. subst (λ (x : Field). FieldFits (length L.parents) x) z
          (record { low = within_low 1 _ o b; high = within_high 1 _ o b; type = declared (length L.parents) t u e }));
      fields = rw (length_snoc L.fields f) (ltb→lt (length L.fields) most_fields (and_l (ltb (length L.fields) most_fields) _ d));
      statics = static_most L.fields f (eqb flag 1) (length (layout L.parents L.fields o)) refl k.statics room;
      sorted = λ i h q. rw (last_snoc no_field L.fields f) (at_snoc L.fields f i h q (λ r. sorted i h r) (λ _ z. rw (← z) (le_refl o)));
      layouts = λ c. layout_most L.parents (parents_fall L.parents k.parent) L.fields f sorted k.layouts
          (λ s. own_room (eqb flag 1) (length (those is_static_field L.fields)) (length (layout L.parents L.fields o)) s room) c c (le_refl c);
      method = λ i m q. at_empty L.methods i m g q;
      methods = k.methods;
      override = λ i m q. at_empty L.methods i m g q;
      no_fields = λ h. absurd (omega arith);
      no_methods = λ _. g;
      entry = λ z. absurd (omega arith);
    })
  where
    own_room : (b : Bool) (s n : ℕ) → T (not b) → T (pick b (ltb s most_statics) (ltb n most_instance)) → n < most_instance
    own_room true s n t r = absurd t
    own_room false s n t r = ltb→lt n most_instance (unfold pick in r)

    static_most : (fs : List Field) (f : Field) (b : Bool) (n : ℕ) → f.is_static ≡ b → length (those is_static_field fs) ≤ most_statics
        → T (pick b (ltb (length (those is_static_field fs)) most_statics) (ltb n most_instance)) → length (those is_static_field (fs ++ (f ∷ []))) ≤ most_statics
    static_most fs f true n e h r =
        let l : length (those is_static_field fs) < most_statics = ltb→lt (length (those is_static_field fs)) most_statics (unfold pick in r) in
        let z : keep_if (is_static_field f) f [] ≡ f ∷ [] = unfold is_static_field keep_if in (rw e) in
        rw (those_snoc is_static_field fs f, z, length_snoc (those is_static_field fs) f) l
    static_most fs f false n e h r =
        let z : keep_if (is_static_field f) f [] ≡ [] = unfold is_static_field keep_if in (rw e) in
        rw (those_snoc is_static_field fs f, z, append-nil) h

-- ---- A method

-- the same owner, sort and overridden row
record Same (a b : Method) : Type 0 where
  pub owner : a.owner ≡ b.owner
  pub sort : a.sort ≡ b.sort
  pub over : a.overridden ≡ b.overridden

same_refl : (m : Method) → Same m m
same_refl m = record { owner = refl; sort = refl; over = refl }

overrides_same : {ps : List ℕ} {ms : List Method} {r : ℕ} {a b : Method} → Same a b → Overrides ps ms r a → Overrides ps ms r b
overrides_same {ps} {ms} {r} s h = record {
  named = h.named;
  is = subst (λ (v : ℕ). row ms v ≡ some h.named) s.over h.is;
  earlier = subst (λ (v : ℕ). v < r) s.over h.earlier;
  overrides = subst (λ (k : Sort). T (is_sort k virtual)) s.sort h.overrides;
  overridden = h.overridden;
  proper = λ e. h.proper (e ∙ sym s.owner);
  above = subst (λ (c : ℕ). Above ps h.named.owner c) s.owner h.above;
}

overrides_named : {ps : List ℕ} {ms ks : List Method} {r : ℕ} {m : Method} (h : Overrides ps ms r m) (k : Method) → Same h.named k
    → row ks m.overridden ≡ some k → Overrides ps ks r m
overrides_named {ps} {m = m} h k s e = record {
  named = k;
  is = e;
  earlier = h.earlier;
  overrides = h.overrides;
  overridden = subst (λ (x : Sort). T (is_sort x virtual)) s.sort h.overridden;
  proper = λ q. h.proper (s.owner ∙ q);
  above = subst (λ (c : ℕ). Above ps c m.owner) s.owner h.above;
}

override_fits_lem : (L : Loading) (m : Method) → T (override_fits L m) → m.overridden ≢ 0 → Overrides L.parents L.methods (suc (length L.methods)) m
unfolding override_fits
override_fits_lem L m t z =
    let k : Method = method_at L.methods m.overridden in
    or_e (eqb m.overridden 0) _ t (λ s. absurd (z (eqb→eq m.overridden 0 s))) λ a.
    let b = and_r (is_sort m.sort virtual)
    (within 1 (length L.methods) m.overridden
    && (is_sort k.sort virtual && (not (eqb k.owner m.owner) && descends L.parents m.owner k.owner))) a in
    let c = and_r (within 1 (length L.methods) m.overridden)
    (is_sort k.sort virtual && (not (eqb k.owner m.owner) && descends L.parents m.owner k.owner)) b in
    let d = and_r (is_sort k.sort virtual) (not (eqb k.owner m.owner) && descends L.parents m.owner k.owner) c in
    let w : T (within 1 (length L.methods) m.overridden) = and_l (within 1 (length L.methods) m.overridden) _ b in
    let low : 1 ≤ m.overridden = within_low 1 (length L.methods) m.overridden w in
    let high : m.overridden ≤ length L.methods = within_high 1 (length L.methods) m.overridden w in
    record {
      named = k;
      is = row_inside L.methods m.overridden low high;
      earlier = omega arith;
      overrides = and_l (is_sort m.sort virtual) _ a;
      overridden = and_l (is_sort k.sort virtual) _ c;
      proper = λ e. T_not (eqb k.owner m.owner) (and_l (not (eqb k.owner m.owner)) (descends L.parents m.owner k.owner) d)
          (rw e (eqb_refl m.owner));
      above = descends_above L.parents m.owner k.owner (and_r (not (eqb k.owner m.owner)) (descends L.parents m.owner k.owner) d);
    }

part_length : (code : List ℕ) (offset size : ℕ) → offset + size ≤ length code → length (part_of code offset size) ≡ size
unfolding part_of
part_length code offset size h = length-take-le size (drop offset code) (rw (length-drop offset code) (omega arith))

code_fits_lem : (code : List ℕ) (m : Method) (offset size : ℕ) → m.offset ≡ offset → m.code ≡ part_of code offset size → T (code_fits code offset size)
    → CodeFits code m
unfolding code_fits
code_fits_lem code m offset size z e t =
    let a = and_l (within 1 most_length size) (leb (offset + size) (length code)) t in
    let h : offset + size ≤ length code = leb→le (offset + size) (length code) (and_r (within 1 most_length size) (leb (offset + size) (length code)) t) in
    let n : length m.code ≡ size = ap length e ∙ part_length code offset size h in
    record { least = rw n (within_low 1 most_length size a); most = rw n (within_high 1 most_length size a); inside = rw (n, z) h; part = e ∙ rw (n, z) }

this_most : (s : Sort) (c : ℕ) → length (this_of s c ++ []) ≤ most_arguments
unfolding this_of
this_most static c = omega arith
this_most instance c = omega arith
this_most virtual c = omega arith
this_most constructor c = omega arith
this_most initialiser c = omega arith

sort_fits_lem : (L : Loading) (m : Method) → T (sort_fits L m)
    → (T (is_sort m.sort initialiser) → (m.returns ≡ none) × (m.owner ≢ 1)) × (T (is_sort m.sort constructor) → m.returns ≡ none)
unfolding sort_fits
sort_fits_lem L m t =
    let one : Bool = is_none (initialiser_of L.methods m.owner) && (not (eqb m.owner 1) && is_none m.returns) in
    let a = and_l (not (is_sort m.sort initialiser) || one) (not (is_sort m.sort constructor) || is_none m.returns) t in
    let b = and_r (not (is_sort m.sort initialiser) || one) (not (is_sort m.sort constructor) || is_none m.returns) t in (
      λ s. (let c = and_r (is_none (initialiser_of L.methods m.owner)) (not (eqb m.owner 1) && is_none m.returns)
          (implies (is_sort m.sort initialiser) one a s) in (
            is_none_lem m.returns (and_r (not (eqb m.owner 1)) (is_none m.returns) c),
            λ e. T_not (eqb m.owner 1) (and_l (not (eqb m.owner 1)) (is_none m.returns) c) (rw e (eqb_refl 1)),
          )),
      λ s. is_none_lem m.returns (implies (is_sort m.sort constructor) (is_none m.returns) b s),
    )

-- one more method
method_more : (code : List ℕ) (L : Loading) (m : Method) (places : List ℕ) → Loads code L → length L.methods < most_methods
    → MethodFits (length L.parents) code m → T (override_fits L m)
    → Loads code (record { last = 3; parents = L.parents; fields = L.fields; methods = L.methods ++ (m ∷ []); places = places; entry = L.entry })
method_more code L m places k n f o = record {
  parent = k.parent;
  classes = k.classes;
  field = k.field;
  fields = k.fields;
  statics = k.statics;
  sorted = k.sorted;
  layouts = k.layouts;
  method = λ i x e. at_snoc L.methods m i x e (λ q. k.method i x q) (λ _ q. subst (λ (y : Method). MethodFits (length L.parents) code y) q f);
  methods = rw (length_snoc L.methods m) n;
  override = λ i x e z. at_snoc L.methods m i x e
      (λ q. let h = k.override i x q z in overrides_named h h.named (same_refl h.named)
      (row_append L.methods (m ∷ []) x.overridden h.named h.is))
      (λ y q. let h = override_fits_lem L m o (λ v. z (ap (λ (a : Method). a.overridden) (sym q) ∙ v)) in
      subst (λ (a : Method). Overrides L.parents (L.methods ++ (m ∷ [])) (suc i) a) q
      (subst (λ (j : ℕ). Overrides L.parents (L.methods ++ (m ∷ [])) (suc j) m) (sym y)
      (overrides_named h h.named (same_refl h.named) (row_append L.methods (m ∷ []) m.overridden h.named h.is))));
  no_fields = λ h. absurd (omega arith);
  no_methods = λ h. absurd (omega arith);
  entry = λ z. absurd (omega arith);
}

method_loads : (code : List ℕ) (L : Loading) (place o s r most v offset size : ℕ) → Loads code L
    → Yields (Loads code) (method_record code L place o s r most v offset size)
unfolding method_record arguments
method_loads code L place o s r most v offset size k =
    yields_guard _ _ _ _ λ a. yields_guard _ _ _ _ λ b. yields_need _ _ _ _ λ sort e. yields_need _ _ _ _ λ u q. yields_guard _ _ _ _ λ c.
    yields_guard _ _ _ _ λ d. yields_guard _ _ _ _ λ g.
    yields_guard _ _ _ _ λ h.
    let m : Method = record {
      owner = o;
      sort = sort;
      returns = u;
      max_stack = most;
      overridden = v;
      offset = offset;
      code = part_of code offset size;
      params = [];
      locals = [];
    } in
    let f = sort_fits_lem L m (and_r (root_free L m) (sort_fits L m) (and_r (override_fits L m) (root_free L m && sort_fits L m) h)) in
    yields_ok _ _ _ (method_more code L m _ k (ltb→lt (length L.methods) most_methods g)
    (record {
      low = within_low 1 (length L.parents) o b;
      high = within_high 1 (length L.parents) o b;
      stack = leb→le most most_stack c;
      count = this_most sort o;
      local_count = zero-le;
      returns = returned (length L.parents) r u q;
      params = anil;
      locals = anil;
      bytes = code_fits_lem code m offset size refl refl d;
      initialises = λ t. ((f.0 t).0, refl, (f.0 t).1);
      constructs = f.1;
    })
    (and_l (override_fits L m) (root_free L m && sort_fits L m) h))

-- ---- A parameter, a local, the entry

latest_loads : (code : List ℕ) (L : Loading) (n : ℕ) (f : Method → Method) → ((m : Method) → Same m (f m)) → 2 < n → n < 6
    → (MethodFits (length L.parents) code (latest L) → MethodFits (length L.parents) code (f (latest L))) → Loads code L → Loads code (on_latest n f L)
unfolding on_latest latest
latest_loads code L n f same low high fit k = record {
  parent = k.parent;
  classes = k.classes;
  field = k.field;
  fields = k.fields;
  statics = k.statics;
  sorted = k.sorted;
  layouts = k.layouts;
  method = λ i m e. on_last_at f no_method L.methods i m e (λ q. k.method i m q)
      (λ q z. subst (λ (x : Method). MethodFits (length L.parents) code x) z (fit (k.method i _ q)));
  methods = rw (length_on_last f L.methods) k.methods;
  override = λ i m e z. on_last_at f no_method L.methods i m e (λ q. moved (k.override i m q z))
      (λ q y. let s : Same (last_of no_method L.methods) m = subst (λ (x : Method). Same (last_of no_method L.methods) x) y (same _) in
      moved (overrides_same s (k.override i _ q (λ v. z (sym s.over ∙ v)))));
  no_fields = λ h. absurd (omega arith);
  no_methods = λ h. absurd (omega arith);
  entry = λ z. absurd (omega arith);
}
  where
    moved : {r : ℕ} {m : Method} → Overrides L.parents L.methods r m → Overrides L.parents (on_last f L.methods) r m
    moved {m = m} h = let (y, e, s) = row_on_last f Same same_refl same L.methods m.overridden h.named h.is in overrides_named h y s e

param_fits : (n : ℕ) (code : List ℕ) (m : Method) (t : Ty) → Declared n t → length (arguments m) < most_arguments → T (not (is_sort m.sort initialiser))
    → MethodFits n code m → MethodFits n code (with_param t m)
unfolding with_param arguments
param_fits n code m t d c i k = record {
  low = k.low;
  high = k.high;
  stack = k.stack;
  local_count = k.local_count;
  returns = k.returns;
  locals = k.locals;
  count = rw (← (append_assoc (this_of m.sort m.owner) m.params (t ∷ [])), length_snoc (this_of m.sort m.owner ++ m.params) t) c;
  params = all_snoc _ k.params t d;
  bytes = record { least = k.bytes.least; most = k.bytes.most; inside = k.bytes.inside; part = k.bytes.part };
  initialises = λ s. absurd (T_not (is_sort m.sort initialiser) i s);
  constructs = k.constructs;
}

local_fits : (n : ℕ) (code : List ℕ) (m : Method) (t : Ty) → Declared n t → length m.locals < most_locals → MethodFits n code m
    → MethodFits n code (with_local t m)
unfolding with_local arguments
local_fits n code m t d c k = record {
  low = k.low;
  high = k.high;
  stack = k.stack;
  count = k.count;
  returns = k.returns;
  params = k.params;
  local_count = rw (length_snoc m.locals t) c;
  locals = all_snoc _ k.locals t d;
  bytes = record { least = k.bytes.least; most = k.bytes.most; inside = k.bytes.inside; part = k.bytes.part };
  initialises = k.initialises;
  constructs = k.constructs;
}

param_loads : (code : List ℕ) (L : Loading) (t : ℕ) → Loads code L → Yields (Loads code) (param_record L t)
unfolding param_record
param_loads code L t k =
    yields_guard _ _ _ _ λ _. yields_need _ _ _ _ λ u e. yields_guard _ _ _ _ λ c. yields_guard _ _ _ _ λ i.
    yields_ok _ _ _ (latest_loads code L 4 (with_param u)
    (λ m. unfold with_param in (record { owner = refl; sort = refl; over = refl })) (omega arith) (omega arith)
    (param_fits (length L.parents) code (latest L) u (declared (length L.parents) t u e) (ltb→lt (length (arguments (latest L))) most_arguments c) i) k)

local_loads : (code : List ℕ) (L : Loading) (t : ℕ) → Loads code L → Yields (Loads code) (local_record L t)
unfolding local_record
local_loads code L t k =
    yields_guard _ _ _ _ λ _. yields_need _ _ _ _ λ u e. yields_guard _ _ _ _ λ c.
    yields_ok _ _ _ (latest_loads code L 5 (with_local u)
    (λ m. unfold with_local in (record { owner = refl; sort = refl; over = refl })) (omega arith) (omega arith)
    (local_fits (length L.parents) code (latest L) u (declared (length L.parents) t u e) (ltb→lt (length (latest L).locals) most_locals c)) k)

entry_loads : (code : List ℕ) (L : Loading) (r : ℕ) → Loads code L → Yields (Loads code) (entry_record L r)
unfolding entry_record entry_fits
entry_loads code L r k =
    yields_guard _ _ _ _ λ _. yields_guard _ _ _ _ λ a. yields_guard _ _ _ _ λ b.
    let m : Method = method_at L.methods r in
    let c = and_r (is_sort m.sort static) (all is_integer m.params && no_class m.returns) b in
    yields_ok _ _ _ (record {
      parent = k.parent;
      classes = k.classes;
      field = k.field;
      fields = k.fields;
      statics = k.statics;
      sorted = k.sorted;
      layouts = k.layouts;
      method = k.method;
      methods = k.methods;
      override = k.override;
      no_fields = λ h. absurd (omega arith);
      no_methods = λ h. absurd (omega arith);
      entry = λ _. record {
        is = row_inside L.methods r (within_low 1 (length L.methods) r a) (within_high 1 (length L.methods) r a);
        is_static = and_l (is_sort m.sort static) _ b;
        integers = and_l (all is_integer m.params) _ c;
        returns = and_r (all is_integer m.params) (no_class m.returns) c;
      };
    })

-- ---- Record by record

one_loads : (code : List ℕ) (L : Loading) (place n : ℕ) (b : List ℕ) → Loads code L → Yields (Loads code) (one_record code L place n b)
unfolding one_record
one_loads code L place n b k =
    yields_pick _ _ _ _ (λ _. class_loads code L _ k) λ _.
    yields_pick _ _ _ _ (λ _. field_loads code L _ _ _ k) λ _.
    yields_pick _ _ _ _ (λ _. method_loads code L place _ _ _ _ _ _ _ k) λ _.
    yields_pick _ _ _ _ (λ _. param_loads code L _ k) λ _.
    yields_pick _ _ _ _ (λ _. local_loads code L _ k) λ _. entry_loads code L _ k

read_loads : (code : List ℕ) (L : Loading) (place : ℕ) (l : List ℕ) → Loads code L → Yields (λ R. Loads code R.loading) (read_record code L place l)
unfolding read_record
read_loads code L place l k =
    yields_need _ _ _ _ λ n _. yields_guard _ _ _ _ λ _. yields_bind _ _ _ _ (one_loads code L place (get_or l 0 0) (drop 1 l) k) λ K h. yields_ok _ _ _ h

records_load : (n : ℕ) (tables code : List ℕ) (o : ℕ) (L : Loading) → Loads code L → Yields (Loads code) (records n tables code o L)
unfolding records
records_load zero tables code o L k = yields_ok _ _ _ k
records_load (suc n) tables code o L k =
    yields_pick _ _ _ _ (λ _. yields_ok _ _ _ k) λ _.
    yields_bind _ _ _ _ (yields_blame _ _ _ (read_loads code L o (drop o tables) k)) λ R h. records_load n tables code (o + R.size) R.loading h

agreed_none : (L : Loading) (o : Option ℕ) (u : Unit {0}) → agreed L o ≡ ok u → o ≡ none
unfolding agreed
agreed_none L none u e = refl
agreed_none L (some r) u e = bad_ok e

eq_returns_eq : (a b : Option Ty) → T (eq_returns a b) → a ≡ b
unfolding eq_returns
eq_returns_eq none none t = refl
eq_returns_eq none (some u) t = absurd t
eq_returns_eq (some s) none t = absurd t
eq_returns_eq (some s) (some u) t = ap some (eq_ty_eq s u t)

alike : (ms : List Method) (r : ℕ) (m : Method) → T (not (differs ms r m)) → m.overridden ≢ 0 → Like m (method_at ms m.overridden)
unfolding differs
alike ms r m t z =
    let k : Method = method_at ms m.overridden in
    let s = split (eqb m.overridden 0) (eq_returns m.returns k.returns && eq_tys m.params k.params) t (λ u. z (eqb→eq m.overridden 0 u)) in
    record {
      returns = eq_returns_eq m.returns k.returns (and_l (eq_returns m.returns k.returns) (eq_tys m.params k.params) s);
      params = eq_tys_eq m.params k.params (and_r (eq_returns m.returns k.returns) (eq_tys m.params k.params) s);
    }
  where
    split : (a b : Bool) → T (not (not a && not b)) → (T a → ⊥) → T b
    split true b t z = absurd (z tt)
    split false true t z = tt
    split false false t z = t

-- a module that loads
pub loaded : (tables code : List ℕ) (M : Module) → load tables code ≡ ok M → Loaded code M
unfolding load row
loaded tables code M e = yields_of (Loaded code) (load tables code) M e (
    yields_guard _ _ _ _ λ _.
    yields_bind _ _ _ _ (records_load (length tables) tables code 0 nothing (nothing_loads code)) λ L k.
    yields_guard _ _ _ _ λ z.
    yields_then _ _ _ λ u q.
    let none-differs = first_none (differs L.methods) 1 L.methods (agreed_none L _ u q) in
    yields_ok _ _ _ (record {
      falls = parents_fall L.parents k.parent;
      parent = λ c p d. parent_fits_lem c p (k.parent c p d);
      classes = k.classes;
      field = λ r f d. (let (i, _, b) = row_at L.fields r f d in k.field i f b);
      fields = k.fields;
      statics = k.statics;
      layouts = k.layouts;
      method = λ r m d. (let (i, _, b) = row_at L.methods r m d in k.method i m b);
      methods = k.methods;
      override = λ r m d v. (let (i, a, b) = row_at L.methods r m d in subst (λ (x : ℕ). Overrides L.parents L.methods x m) (sym a)
          (k.override i m b v));
      agree = λ r m d v. (let (i, _, b) = row_at L.methods r m d in alike L.methods (1 + i) m (none-differs i m b) v);
      entry = k.entry (eqb→eq L.last 6 z);
    }))
