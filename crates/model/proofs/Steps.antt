-- A step of a checked module from a state as found: no stuck ending, and the next state is as found.
use mathlib.Core.Path.{◌≡◌, refl, sym, ap, ◌∙◌, subst}
use Prim.Native.Nat.{ℕ, ◌+◌}
use native.Mathlib.Omega.{arith}
use mathlib.Core.Bool.{Bool, true, false, not}
use mathlib.Core.Option.{Option, none, some}
use mathlib.Core.List.{List, [], ◌∷◌, ◌++◌, map}
use lib.ListN.{get_or, set}
use lib.Dec.{T, lt→ltb}
use Rattle.model.specs.Answer.{Answer, ok, ◌>>=◌, guard, pick, is_nil, at, row, those}
use Rattle.model.specs.Tables.{Ty, class, Sort, static, instance, virtual, constructor, initialiser, is_sort, sort_byte, Field, Method, Module, method_at}
use Rattle.model.specs.Tables.{this_of, arguments, as_list, due, layout, field_types, is_static_field, slot, initialiser_of}
use Rattle.model.specs.Code.{Plain, nop, pop, dup, ret, ldc, binary, unary, Binary, Unary, Relation, Jump, always, iftrue, iffalse, when, Act, callable}
use Rattle.model.specs.Code.{dispatched, constructs}
use Rattle.model.specs.State.{Value, vnull, vobject, zero_of, bits_in, Object, Heap, store, object_at, new_object, fits_value, check_number, stuck_number}
use Rattle.model.specs.State.{room, Frame, Machine, enter}
use Rattle.model.specs.Step.{Outcome, goes, Allocator, moved, with_top, move, move_with, push, is_marked, start_by, starting, do_binary, do_unary, do_test}
use Rattle.model.specs.Step.{do_when, do_jump, do_push, do_dup, popping, do_starg, do_stloc, choose, do_call, do_callvirt, do_newobj, resumed, return, do_ret}
use Rattle.model.specs.Step.{do_cast, slot_in, do_ldfld, with_cell, do_stfld, do_ldsfld, do_stsfld, do_plain, act, step}
use Rattle.model.specs.Check.{Shape, Shapes, pops_one, pushes, plain_effect, test_effect, jump_effect, call_effect, newobj_effect, cast_effect, effect}
use Rattle.model.specs.Check.{jump_falls, plain_falls, falls, targets, found_at}
use Rattle.model.proofs.Hoare.{Holds, holds_bind, holds_ok, holds_bad, holds_need, holds_seek, holds_guard, holds_test, bind_inv, need_inv, guard_inv}
use Rattle.model.proofs.Hoare.{bad_ok, ok_eq, pick_either, pick_no, pick_yes, All, acons}
use Rattle.model.proofs.Rows.{at_map, method_is}
use Rattle.model.proofs.Ancestors.{Above, layout_prefix}
use Rattle.model.proofs.Decoding.{decode_advances}
use Rattle.model.proofs.Operands.{Stated, waits, operated}
use Rattle.model.proofs.Certificate.{Lands, Certificate}
use Rattle.model.proofs.Typing.{Has, has_kind, has_value, has_null, Ext, ext_refl, Fit, fnil, fcons, fit_grow, fit_length, fit_append, fit_get_d}
use Rattle.model.proofs.Typing.{fit_set, fit_zero, First, fit_first, pops_fit, pop1_fit, pop2_fit, HeapFits, Places, Grows, placed_ext, placed_fits}
use Rattle.model.proofs.Typing.{placed_has, has_object, store_ext, store_fits, leads}
use Rattle.model.proofs.Endings.{binary_calm}
use Rattle.model.proofs.Loaded.{Like, Loaded}
use Rattle.model.proofs.Members.{sort_eq, slot_field, slot_static, initialiser_is, Taken, taken}
use Rattle.model.proofs.States.{Fine, on, end, Stands, Waiting, alone, called, started, Good, waiting_grow, runs}

-- ---- Sorts

this_first : (s : Sort) (c : ℕ) → T (dispatched s) → this_of s c ≡ class c ∷ []
unfolding dispatched is_sort sort_byte this_of
this_first static c t = absurd t
this_first instance c t = refl
this_first virtual c t = refl
this_first constructor c t = absurd t
this_first initialiser c t = absurd t

dispatched_arguments : (m : Method) → T (dispatched m.sort) → arguments m ≡ class m.owner ∷ m.params
unfolding arguments
dispatched_arguments m t = rw (this_first m.sort m.owner t)

dispatched_callable : (s : Sort) → T (dispatched s) → T (callable s)
unfolding dispatched callable is_sort sort_byte
dispatched_callable static t = absurd t
dispatched_callable instance t = tt
dispatched_callable virtual t = tt
dispatched_callable constructor t = absurd t
dispatched_callable initialiser t = absurd t

constructor_arguments : (m : Method) → T (is_sort m.sort constructor) → arguments m ≡ class m.owner ∷ m.params
unfolding arguments this_of
constructor_arguments m t = rw (sort_eq m.sort constructor t)

constructor_callable : (s : Sort) → T (is_sort s constructor) → T (callable s)
constructor_callable s t = subst (λ (x : Sort). T (callable x)) (sym (sort_eq s constructor t)) (unfold callable is_sort sort_byte in tt)

-- ---- Tests that the check has made

fit_nil : {M : Module} {h : Heap} {vs : List Value} {R : Shape} → Fit M h vs R → T (is_nil R) → T (is_nil vs)
unfolding is_nil
fit_nil fnil t = t
fit_nil (fcons p ps) t = absurd t

guard_passed : {E : Type 0} (b : Bool) (n : E) (u : Unit {0}) → guard b n ≡ ok u → T b
unfolding guard
guard_passed true n u e = tt
guard_passed false n u e = bad_ok e

holds_room : {B : Type 0} (P : B → Type 0) {M : Module} {h : Heap} (m : Method) (n : ℕ) {vs : List Value} {R : Shape} (f : Unit {0} → Answer ℕ B)
    (u : Unit {0})
    → Fit M h vs R → room check_number m n R ≡ ok u → Holds P (f tt) → Holds P (room stuck_number m n vs >>= f)
unfolding room
holds_room P m n f u p e k = holds_guard _ _ _ _ (rw (fit_length p) (guard_passed _ _ u e)) k

module _ (code : List ℕ) (M : Module) (L : Loaded code M) (found : List Shapes)
    (C : (r : ℕ) (m : Method) → row M.methods r ≡ some m → Certificate M m (found_at found r)) where
  pub entered : (h : Heap) (r : ℕ) (j : Method) (e : row M.methods r ≡ some j) (vs : List Value) → Fit M h vs (arguments j)
      → Stands M found h 0 [] (enter r j vs)
  unfolding enter
  entered h r j e vs f =
      let z : method_at M.methods r ≡ j = method_is M.methods r j e in
      let c = (C r j e).first in
      record {
        is = e ∙ ap some (sym z);
        shape = c.shape;
        finds = c.is;
        left = [];
        below = c.below;
        args = rw z f;
        locals = subst (λ (x : Method). Fit M h (map zero_of j.locals) x.locals) (sym z) (fit_zero M L.falls h j.locals);
        stack = fnil;
      }

  module _ (s : Machine) (k : Good M found s) where
    abbrev this : Method
    this = method_at M.methods s.top.method

    abbrev Arrives : ℕ → Shape → Type 0
    Arrives = Lands M.parents (found_at found s.top.method)

    top_fits : Fit M s.heap s.top.stack k.top.shape
    top_fits = runs M found L.falls k.top

    -- ---- The running frame moves on

    -- to an offset, with other values and another heap
    goes_ok : (st : List Value) (marks : List Bool) (h : Heap) (o : ℕ) (us ls vs : List Value) {S : Shape} → Ext s.heap h → HeapFits M h
        → Fit M h st (field_types (those is_static_field M.fields)) → Arrives o S → Fit M h us (arguments this) → Fit M h ls this.locals → Fit M h vs S
        → Holds (Fine M found) (ok (goes (record {
          top = record { method = s.top.method; offset = o; args = us; locals = ls; stack = vs };
          below = s.below;
          statics = st;
          marks = marks;
          heap = h;
        })))
    goes_ok st marks h o us ls vs {S} g H F a x y f = holds_ok _ _ (on (record {
      heap = H;
      statics = F;
      waiting = waiting_grow M found g k.waiting;
      top = record { is = k.top.is; shape = a.shape; finds = a.is; left = S; below = a.below; args = x; locals = y; stack = f };
    }))

    move_ok : (o : ℕ) (vs : List Value) {S : Shape} → Arrives o S → Fit M s.heap vs S → Holds (Fine M found) (move s o vs)
    unfolding move with_top moved
    move_ok o vs a f = goes_ok _ _ _ o _ _ vs (ext_refl _) k.heap k.statics a k.top.args k.top.locals f

    move_with_ok : (st : List Value) (marks : List Bool) (h : Heap) (o : ℕ) (vs : List Value) {S : Shape} → Ext s.heap h → HeapFits M h
        → Fit M h st (field_types (those is_static_field M.fields)) → Arrives o S → Fit M h vs S → Holds (Fine M found) (move_with s st marks h o vs)
    unfolding move_with moved
    move_with_ok st marks h o vs g H F a f = goes_ok st marks h o _ _ vs g H F a (fit_grow g k.top.args) (fit_grow g k.top.locals) f

    -- ---- A frame is pushed

    push_ok : (marks : List Bool) (h : Heap) (vs : List Value) (f : Frame) → Ext s.heap h → HeapFits M h → Stands M found h f.offset [] f
        → Waiting M found h (method_at M.methods f.method) (moved s.top s.top.offset vs ∷ s.below) → Holds (Fine M found) (push s marks h vs f)
    unfolding push
    push_ok marks h vs f g H p c =
        holds_test _ _ _ _ (omega arith) λ _. holds_ok _ _ (on (record { heap = H; statics = fit_grow g k.statics; top = p; waiting = c }))

    -- a call of the method at a row, the rest of the stack waiting for its value
    call_ok : (marks : List Bool) (h : Heap) (rest : List Value) (R : Shape) (r : ℕ) (j : Method) (vs : List Value) → Ext s.heap h → HeapFits M h
        → Fit M h rest R → row M.methods r ≡ some j → T (callable j.sort) → Fit M h vs (arguments j) → Arrives (s.top.offset + 5) (due j ++ R)
        → Holds (Fine M found) (push s marks h rest (enter r j vs))
    unfolding enter moved callable
    call_ok marks h rest R r j vs g H f e t v a =
        push_ok marks h rest _ g H (entered h r j e vs v)
        (subst (λ (x : Method). Waiting M found h x (moved s.top s.top.offset rest ∷ s.below)) (sym (method_is M.methods r j e))
        (called t (record {
          is = k.top.is;
          shape = a.shape;
          finds = a.is;
          left = R;
          below = a.below;
          args = fit_grow g k.top.args;
          locals = fit_grow g k.top.locals;
          stack = f;
        })
        (waiting_grow M found g k.waiting)))

    start_by_ok : (c : ℕ) (f : List Bool → Answer ℕ Outcome) → ((marks : List Bool) → Holds (Fine M found) (f marks)) → (o : Option ℕ)
        → initialiser_of M.methods c ≡ o → Holds (Fine M found) (start_by M s c o f)
    unfolding start_by enter moved
    start_by_ok c f h none e = h _
    start_by_ok c f h (some r) e =
        let i = initialiser_is code M L c r e in
        push_ok _ s.heap s.top.stack _ (ext_refl _) k.heap (entered s.heap r _ i.is [] (rw i.args fnil))
        (started i.sort k.top k.waiting)

    -- the start of a class, if any, before the instruction
    starting_ok : (o : Option ℕ) (f : List Bool → Answer ℕ Outcome) → ((marks : List Bool) → Holds (Fine M found) (f marks))
        → Holds (Fine M found) (starting M s o f)
    unfolding starting
    starting_ok none f h = h _
    starting_ok (some c) f h = pick_either (λ (x : Answer ℕ Outcome). Holds (Fine M found) x) (is_marked s c) _ _ (λ _. h _) (λ _. start_by_ok _ f h _ refl)

    -- ---- Loads, stores, operators, branches

    push_value : (v : Value) (t : Ty) (next : ℕ) (R : Shape) → Has M s.heap v t → pushes this t k.top.shape ≡ ok R → Arrives next R
        → Holds (Fine M found) (do_push s this v next)
    unfolding do_push pushes
    push_value v t next R p e a =
        let (u, e1, e2) = bind_inv _ _ _ e in
        holds_room _ this 1 _ u top_fits e1 (move_ok next _ (subst (λ (x : Shape). Arrives next x) (sym (ok_eq e2)) a) (fcons p top_fits))

    popping_ok : (t : Ty) (f : Value → List Value → Answer ℕ Outcome) (R : Shape) → pops_one M t k.top.shape ≡ ok R
        → ((v : Value) (vs : List Value) → Has M s.heap v t → Fit M s.heap vs R → Holds (Fine M found) (f v vs)) → Holds (Fine M found) (popping M s t f)
    unfolding popping pops_one
    popping_ok t f R e h =
        let (P, e1, e2) = bind_inv _ _ _ e in
        holds_bind _ _ _ _ (pops_fit L.falls (t ∷ []) top_fits P e1) λ p q.
        h _ _ (fit_first q.0).this (subst (λ (x : Shape). Fit M s.heap p.rest x) (ok_eq e2) q.1)

    binary_ok : (o : Binary) (next : ℕ) (R : Shape) → plain_effect M this (binary o) k.top.shape ≡ ok R → Arrives next R
        → Holds (Fine M found) (do_binary s o next)
    unfolding do_binary plain_effect
    binary_ok o next R e a =
        let (p, e1, e2) = bind_inv _ _ _ e in
        let (g, e3, e4) = need_inv _ _ _ _ e2 in
        holds_bind _ _ _ _ (pop2_fit top_fits p e1) λ q h.
        holds_need _ _ _ _ g (rw (has_kind h.0, has_kind h.1) e3) (
        holds_bind _ _ _ _ (binary_calm o _ _ g e3 (bits_in q.0) (bits_in q.1)) λ n _.
        move_ok next _ (subst (λ (x : Shape). Arrives next x) (sym (ok_eq e4)) a) (fcons (has_value M L.falls s.heap g.gives n) h.2))

    unary_ok : (o : Unary) (next : ℕ) (R : Shape) → plain_effect M this (unary o) k.top.shape ≡ ok R → Arrives next R
        → Holds (Fine M found) (do_unary s o next)
    unfolding do_unary plain_effect
    unary_ok o next R e a =
        let (p, e1, e2) = bind_inv _ _ _ e in
        let (g, e3, e4) = need_inv _ _ _ _ e2 in
        holds_bind _ _ _ _ (pop1_fit top_fits p e1) λ q h.
        holds_need _ _ _ _ g (rw (has_kind h.0) e3) (
        move_ok next _ (subst (λ (x : Shape). Arrives next x) (sym (ok_eq e4)) a) (fcons (has_value M L.falls s.heap g.gives _) h.1))

    pick_ok : (b : Bool) (t n : ℕ) (vs : List Value) {S : Shape} → Arrives t S → Arrives n S → Fit M s.heap vs S
        → Holds (Fine M found) (move s (pick b t n) vs)
    pick_ok b t n vs p q f = pick_either (λ (o : ℕ). Holds (Fine M found) (move s o vs)) b t n (λ _. move_ok t vs p f) (λ _. move_ok n vs q f)

    test_ok : (zero other : ℕ) (R : Shape) → test_effect k.top.shape ≡ ok R → Arrives zero R → Arrives other R → Holds (Fine M found) (do_test s zero other)
    unfolding do_test test_effect
    test_ok z o R e a b =
        let (p, e1, e2) = bind_inv _ _ _ e in
        let (t, e3) = guard_inv _ _ _ _ e2 in
        holds_bind _ _ _ _ (pop1_fit top_fits p e1) λ q h.
        holds_guard _ _ _ _ (rw (has_kind h.0) t) (
        pick_ok _ z o _ a b (subst (λ (x : Shape). Fit M s.heap q.1 x) (ok_eq e3) h.1))

    when_ok : (r : Relation) (target next : ℕ) (R : Shape) → jump_effect (when r) k.top.shape ≡ ok R → Arrives target R → Arrives next R
        → Holds (Fine M found) (do_when s r target next)
    unfolding do_when jump_effect
    when_ok r t n R e a b =
        let (p, e1, e2) = bind_inv _ _ _ e in
        let (g, e3, e4) = need_inv _ _ _ _ e2 in
        holds_bind _ _ _ _ (pop2_fit top_fits p e1) λ q h.
        holds_need _ _ _ _ g (rw (has_kind h.0, has_kind h.1) e3) (
        pick_ok _ t n _ a b (subst (λ (x : Shape). Fit M s.heap q.2 x) (ok_eq e4) h.2))

    jump_ok : (j : Jump) (target next : ℕ) (R : Shape) → jump_effect j k.top.shape ≡ ok R → Arrives target R → (T (jump_falls j) → Arrives next R)
        → Holds (Fine M found) (do_jump s j target next)
    unfolding do_jump jump_effect jump_falls
    jump_ok always t n R e a b = move_ok t _ (subst (λ (x : Shape). Arrives t x) (sym (ok_eq e)) a) top_fits
    jump_ok iftrue t n R e a b = test_ok n t R e (b tt) a
    jump_ok iffalse t n R e a b = test_ok t n R e a (b tt)
    jump_ok (when r) t n R e a b = when_ok r t n R e a (b tt)

    starg_ok : (i : ℕ) (t : Ty) (next : ℕ) (R : Shape) → at (arguments this) i ≡ some t → pops_one M t k.top.shape ≡ ok R → Arrives next R
        → Holds (Fine M found) (do_starg M s i t next)
    unfolding do_starg with_top
    starg_ok i t next R d e a = popping_ok t _ R e λ v vs p f.
        goes_ok _ _ _ next _ _ vs (ext_refl _) k.heap k.statics a (fit_set k.top.args i t v d p) k.top.locals f

    stloc_ok : (i : ℕ) (t : Ty) (next : ℕ) (R : Shape) → at this.locals i ≡ some t → pops_one M t k.top.shape ≡ ok R → Arrives next R
        → Holds (Fine M found) (do_stloc M s i t next)
    unfolding do_stloc with_top
    stloc_ok i t next R d e a = popping_ok t _ R e λ v vs p f.
        goes_ok _ _ _ next _ _ vs (ext_refl _) k.heap k.statics a k.top.args (fit_set k.top.locals i t v d p) f

    cast_ok : (c : ℕ) (miss : Answer ℕ Value) (next : ℕ) (R : Shape) → Holds (λ v. Has M s.heap v (class c)) miss → cast_effect c k.top.shape ≡ ok R
        → Arrives next R → Holds (Fine M found) (do_cast M s c miss next)
    unfolding do_cast cast_effect
    cast_ok c miss next R m e a =
        let (p, e1, e2) = bind_inv _ _ _ e in
        let (t, e3) = guard_inv _ _ _ _ e2 in
        holds_bind _ _ _ _ (pop1_fit top_fits p e1) λ q h.
        holds_guard _ _ _ _ (rw (has_kind h.0) t) (
        holds_bind _ _ _ _ (pick_either (λ (x : Answer ℕ Value). Holds (λ v. Has M s.heap v (class c)) x) (fits_value M s.heap q.0 (class c)) _ miss
        (λ u. holds_ok _ _ (record { fit = u; there = h.0.there })) (λ _. m)) λ v x.
        move_ok next _ (subst (λ (y : Shape). Arrives next y) (sym (ok_eq e3)) a) (fcons x h.1))

    -- ---- Fields

    abbrev cell_at : ℕ → Field → ℕ
    cell_at r d = slot M.parents M.fields r d

    -- a field's cell in an object of its class or a derived one
    cell_typed : (r : ℕ) (d : Field) → row M.fields r ≡ some d → T (not d.is_static) → {c : ℕ} → Above M.parents d.owner c
        → at (field_types (layout M.parents M.fields c)) (cell_at r d) ≡ some d.type
    unfolding field_types
    cell_typed r d e t a =
        at_map (λ (f : Field). f.type) _ (cell_at r d) d (layout_prefix M.parents M.fields L.falls a (cell_at r d) d (slot_field code M L r d e t))

    static_typed : (r : ℕ) (d : Field) → row M.fields r ≡ some d → T d.is_static
        → at (field_types (those is_static_field M.fields)) (cell_at r d) ≡ some d.type
    unfolding field_types
    static_typed r d e t = at_map (λ (f : Field). f.type) _ (cell_at r d) d (slot_static code M L r d e t)

    ldfld_ok : (r : ℕ) (d : Field) (next : ℕ) (R : Shape) → row M.fields r ≡ some d → T (not d.is_static)
        → (pops_one M (class d.owner) k.top.shape >>= λ S. ok (d.type ∷ S)) ≡ ok R → Arrives next R
        → Holds (Fine M found) (do_ldfld M s r d next)
    unfolding do_ldfld pops_one slot_in
    ldfld_ok r d next R e t q a =
        let (S, e1, e2) = bind_inv _ _ _ q in
        let (P, e3, e4) = bind_inv _ _ _ e1 in
        holds_bind _ _ _ _ (pops_fit L.falls (class d.owner ∷ []) top_fits P e3) λ p h.
        starting_ok _ _ λ marks.
        holds_bind _ _ _ _ (leads k.heap (fit_first h.0).this) λ n l.
        let c = fit_get_d (k.heap.cells n l.object l.found) (cell_at r d) d.type (zero_of d.type) (cell_typed r d e t l.above) in
        move_with_ok _ marks s.heap next _ (ext_refl _) k.heap k.statics (subst (λ (x : Shape). Arrives next x) (sym (ok_eq e2)) a)
        (fcons (subst (λ (o : Object). Has M s.heap (get_or o.cells (cell_at r d) (zero_of d.type)) d.type) (sym l.is) c)
        (subst (λ (x : Shape). Fit M s.heap p.rest x) (ok_eq e4) h.1))

    stfld_ok : (r : ℕ) (d : Field) (next : ℕ) (R : Shape) → row M.fields r ≡ some d → T (not d.is_static)
        → effect M this (Act.stfld r d) k.top.shape ≡ ok R → Arrives next R → Holds (Fine M found) (do_stfld M s r d next)
    unfolding do_stfld effect slot_in with_cell at
    stfld_ok r d next R e t q a =
        let (P, e1, e2) = bind_inv _ _ _ q in
        holds_bind _ _ _ _ (pops_fit L.falls (class d.owner ∷ d.type ∷ []) top_fits P e1) λ p h.
        starting_ok _ _ λ marks.
        holds_bind _ _ _ _ (leads k.heap (fit_first h.0).this) λ n l.
        let v : Value = get_or p.got 1 vnull in
        let x : Object = record { class = (object_at s.heap n).class; cells = set (object_at s.heap n).cells (cell_at r d) v } in
        let z : x.class ≡ l.object.class = ap (λ (o : Object). o.class) l.is in
        let f : Fit M s.heap x.cells (field_types (layout M.parents M.fields x.class)) =
        subst (λ (o : Object). Fit M s.heap (set o.cells (cell_at r d) v) (field_types (layout M.parents M.fields o.class))) (sym l.is)
        (fit_set (k.heap.cells n l.object l.found) (cell_at r d) d.type v (cell_typed r d e t l.above)
        (fit_get_d h.0 1 d.type vnull refl)) in
        let g : Ext s.heap (store s.heap n x) = store_ext s.heap n l.object x l.found z in
        move_with_ok _ marks _ next _ g (store_fits M s.heap n l.object x l.found z f k.heap) (fit_grow g k.statics) a
        (fit_grow g (subst (λ (y : Shape). Fit M s.heap p.rest y) (ok_eq e2) h.1))

    ldsfld_ok : (r : ℕ) (d : Field) (next : ℕ) (R : Shape) → row M.fields r ≡ some d → T d.is_static → pushes this d.type k.top.shape ≡ ok R
        → Arrives next R → Holds (Fine M found) (do_ldsfld M s this r d next)
    unfolding do_ldsfld pushes slot_in
    ldsfld_ok r d next R e t q a =
        let (u, e1, e2) = bind_inv _ _ _ q in
        holds_room _ this 1 _ u top_fits e1 (
        starting_ok _ _ λ marks.
        move_with_ok _ marks s.heap next _ (ext_refl _) k.heap k.statics (subst (λ (x : Shape). Arrives next x) (sym (ok_eq e2)) a)
        (fcons (fit_get_d k.statics (cell_at r d) d.type (zero_of d.type) (static_typed r d e t)) top_fits))

    stsfld_ok : (r : ℕ) (d : Field) (next : ℕ) (R : Shape) → row M.fields r ≡ some d → T d.is_static → pops_one M d.type k.top.shape ≡ ok R
        → Arrives next R → Holds (Fine M found) (do_stsfld M s r d next)
    unfolding do_stsfld slot_in
    stsfld_ok r d next R e t q a = popping_ok d.type _ R q λ v vs p f.
        starting_ok _ _ λ marks.
        move_with_ok _ marks s.heap next _ (ext_refl _) k.heap (fit_set k.statics (cell_at r d) d.type v (static_typed r d e t) p) a f

    -- ---- Calls

    docall_ok : (r : ℕ) (j : Method) (R : Shape) → row M.methods r ≡ some j → T (callable j.sort) → call_effect M this j k.top.shape ≡ ok R
        → Arrives (s.top.offset + 5) R → Holds (Fine M found) (do_call M s this r j)
    unfolding do_call call_effect
    docall_ok r j R e t q a =
        let (P, e1, e2) = bind_inv _ _ _ q in
        let (u, e3, e4) = bind_inv _ _ _ e2 in
        holds_bind _ _ _ _ (pops_fit L.falls (arguments j) top_fits P e1) λ p h.
        holds_room _ this _ _ u h.1 e3 (
        starting_ok _ _ λ marks.
        call_ok marks s.heap p.rest P.rest r j p.got (ext_refl _) k.heap h.1 e t h.0
        (subst (λ (x : Shape). Arrives (s.top.offset + 5) x) (sym (ok_eq e4)) a))

    callvirt_ok : (r : ℕ) (j : Method) (R : Shape) → row M.methods r ≡ some j → T (dispatched j.sort) → call_effect M this j k.top.shape ≡ ok R
        → Arrives (s.top.offset + 5) R → Holds (Fine M found) (do_callvirt M s this r j)
    unfolding do_callvirt call_effect due
    callvirt_ok r j R e t q a =
        let (P, e1, e2) = bind_inv _ _ _ q in
        let (u, e3, e4) = bind_inv _ _ _ e2 in
        let z : method_at M.methods r ≡ j = method_is M.methods r j e in
        holds_bind _ _ _ _ (pops_fit L.falls (arguments j) top_fits P e1) λ p h.
        holds_room _ this _ _ u h.1 e3 (
        let f : First M s.heap p.got (class j.owner) j.params =
        fit_first (subst (λ (x : List Ty). Fit M s.heap p.got x) (dispatched_arguments j t) h.0) in
        holds_bind _ _ _ _ (leads k.heap f.this) λ n l.
        let c : ℕ = choose M r j (object_at s.heap n).class in
        let i : Method = method_at M.methods c in
        let w : Taken code M L (object_at s.heap n).class r c = taken code M L r j e t _
        (subst (λ (o : Object). Above M.parents j.owner o.class) (sym l.is) l.above) in
        let y : Like i j = subst (λ (x : Method). Like i x) z w.like in
        let o : Has M s.heap (get_or p.got 0 vnull) (class i.owner) =
        rw l.via (has_object M L.falls s.heap n l.object i.owner l.found
        (subst (λ (o : Object). Above M.parents i.owner o.class) l.is w.above)) in
        starting_ok _ _ λ marks.
        call_ok marks s.heap p.rest P.rest c i p.got (ext_refl _) k.heap h.1 w.is (dispatched_callable i.sort w.sort)
        (rw (dispatched_arguments i w.sort, y.params) (f.again (class i.owner) o))
        (rw y.returns (subst (λ (x : Shape). Arrives (s.top.offset + 5) x) (sym (ok_eq e4)) a)))

    newobj_ok : (new : Allocator) → Grows new → (r : ℕ) (j : Method) (R : Shape) → row M.methods r ≡ some j → T (constructs j.sort)
        → newobj_effect M this j k.top.shape ≡ ok R → Arrives (s.top.offset + 5) R → Holds (Fine M found) (do_newobj new M s this r j)
    unfolding do_newobj newobj_effect constructs due as_list
    newobj_ok new G r j R e t q a =
        let (P, e1, e2) = bind_inv _ _ _ q in
        let (u, e3, e4) = bind_inv _ _ _ e2 in
        let m = L.method r j e in
        holds_bind _ _ _ _ (pops_fit L.falls j.params top_fits P e1) λ p h.
        holds_room _ this 1 _ u h.1 e3 (
        starting_ok _ _ λ marks.
        holds_seek _ _ _ _ (omega arith) λ o e5.
        let g : Places s.heap (new_object M j.owner) o = G s (new_object M j.owner) o e5 in
        let x : Ext s.heap o.heap = placed_ext g in
        let v : Has M o.heap (vobject o.number) (class j.owner) = placed_has M L.falls m.low g in
        call_ok marks o.heap _ (class j.owner ∷ P.rest) r j _ x (placed_fits M L.falls j.owner m.low m.high g k.heap)
        (fcons v (fit_grow x h.1)) e (constructor_callable j.sort t)
        (rw (constructor_arguments j t) (fcons v (fit_grow x h.0)))
        (rw (m.constructs t) (subst (λ (y : Shape). Arrives (s.top.offset + 5) y) (sym (ok_eq e4)) a)))

    -- ---- Returns

    back_ok : (f : Frame) (fs : List Frame) → Stands M found s.heap f.offset [] f → Waiting M found s.heap (method_at M.methods f.method) fs
        → Holds (Fine M found) (ok (goes (record { top = f; below = fs; statics = s.statics; marks = s.marks; heap = s.heap })))
    back_ok f fs p ps = holds_ok _ _ (on (record { heap = k.heap; statics = k.statics; top = p; waiting = ps }))

    return_ok : (vs : List Value) → Fit M s.heap vs (due this) → (fs : List Frame) → Waiting M found s.heap this fs
        → Holds (Fine M found) (return s this vs fs)
    unfolding return resumed moved
    return_ok vs f [] alone = holds_ok _ _ end
    return_ok vs f (g ∷ fs) (called t p ps) = rw (pick_no (is_sort this.sort initialiser) g _ t)
        (back_ok _ fs (record {
          is = p.is;
          shape = p.shape;
          finds = p.finds;
          left = due this ++ p.left;
          below = p.below;
          args = p.args;
          locals = p.locals;
          stack = fit_append f p.stack;
        }) ps)
    return_ok vs f (g ∷ fs) (started t p ps) = rw (pick_yes (is_sort this.sort initialiser) g _ t) (back_ok g fs p ps)

    ret_ok : (R : Shape) → plain_effect M this ret k.top.shape ≡ ok R → Holds (Fine M found) (do_ret M s this)
    unfolding do_ret plain_effect
    ret_ok R e =
        let (P, e1, e2) = bind_inv _ _ _ e in
        let (t, _) = guard_inv _ _ _ _ e2 in
        holds_bind _ _ _ _ (pops_fit L.falls (due this) top_fits P e1) λ p h.
        holds_guard _ _ _ _ (fit_nil h.1 t) (return_ok p.got h.0 s.below k.waiting)

    -- ---- Any instruction

    plain_ok : (p : Plain) (next : ℕ) (R : Shape) → plain_effect M this p k.top.shape ≡ ok R → (T (plain_falls p) → Arrives next R)
        → Holds (Fine M found) (do_plain M s this p next)
    unfolding do_plain do_dup plain_falls plain_effect
    plain_ok nop next R e a = move_ok next _ (subst (λ (x : Shape). Arrives next x) (sym (ok_eq e)) (a tt)) top_fits
    plain_ok pop next R e a =
        let (p, e1, e2) = bind_inv _ _ _ e in
        holds_bind _ _ _ _ (pop1_fit top_fits p e1) λ q h. move_ok next _ (subst (λ (x : Shape). Arrives next x) (sym (ok_eq e2)) (a tt)) h.1
    plain_ok dup next R e a =
        let (p, e1, e2) = bind_inv _ _ _ e in
        holds_bind _ _ _ _ (pop1_fit top_fits p e1) λ q h. push_value q.0 p.0 next R h.0 e2 (a tt)
    plain_ok ret next R e a = ret_ok R e
    plain_ok (ldc t n) next R e a = push_value _ t next R (has_value M L.falls s.heap t n) e (a tt)
    plain_ok (binary o) next R e a = binary_ok o next R e (a tt)
    plain_ok (unary o) next R e a = unary_ok o next R e (a tt)

    act_ok : (new : Allocator) → Grows new → (a : Act) (next : ℕ) (R : Shape) → Stated M this a → (T (waits a) → next ≡ s.top.offset + 5)
        → effect M this a k.top.shape ≡ ok R
        → All (λ t. Arrives t R) (targets a) → (T (falls a) → Arrives next R) → Holds (Fine M found) (act new M s this a next)
    unfolding act effect Stated waits targets falls
    act_ok new G (Act.plain p) next R d w e t a = plain_ok p next R e a
    act_ok new G (Act.ldarg i u) next R d w e t a = push_value _ u next R (fit_get_d k.top.args i u _ d) e (a tt)
    act_ok new G (Act.starg i u) next R d w e t a = starg_ok i u next R d e (a tt)
    act_ok new G (Act.ldloc i u) next R d w e t a = push_value _ u next R (fit_get_d k.top.locals i u _ d) e (a tt)
    act_ok new G (Act.stloc i u) next R d w e t a = stloc_ok i u next R d e (a tt)
    act_ok new G (Act.jump j o) next R d w e (acons t ts) a = jump_ok j o next R e t a
    act_ok new G (Act.call r j) next R d w e t a = docall_ok r j R d.0 d.1 e (subst (λ (x : ℕ). Arrives x R) (w tt) (a tt))
    act_ok new G (Act.callvirt r j) next R d w e t a = callvirt_ok r j R d.0 d.1 e (subst (λ (x : ℕ). Arrives x R) (w tt) (a tt))
    act_ok new G (Act.newobj r j) next R d w e t a = newobj_ok new G r j R d.0 d.1 e (subst (λ (x : ℕ). Arrives x R) (w tt) (a tt))
    act_ok new G (Act.castclass c) next R d w e t a = cast_ok c _ next R (holds_bad _ _ (omega arith)) e (a tt)
    act_ok new G (Act.isinst c) next R d w e t a = cast_ok c _ next R (holds_ok _ _ (has_null M L.falls s.heap c)) e (a tt)
    act_ok new G (Act.ldfld r f) next R d w e t a = ldfld_ok r f next R d.0 d.1 e (a tt)
    act_ok new G (Act.stfld r f) next R d w e t a = stfld_ok r f next R d.0 d.1 e (a tt)
    act_ok new G (Act.ldsfld r f) next R d w e t a = ldsfld_ok r f next R d.0 d.1 e (a tt)
    act_ok new G (Act.stsfld r f) next R d w e t a = stsfld_ok r f next R d.0 d.1 e (a tt)

    pub step_ok : (new : Allocator) → Grows new → Holds (Fine M found) (step new M s)
    unfolding step
    step_ok new G =
        let v = (C s.top.method this k.top.is).site s.top.offset k.top.shape k.top.finds in
        let o = operated M this v.ins v.act v.finds in
        holds_guard _ _ _ _ (lt→ltb _ _ v.inside) (
        holds_need _ _ _ _ _ v.reads (
        holds_need _ _ _ _ _ v.finds (
        act_ok new G v.act v.next v.brings o.stated (λ t. (decode_advances this.code s.top.offset _ v.reads).call (o.call t))
        v.passes v.away v.onward)))
