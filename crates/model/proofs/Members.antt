-- Members of a loaded module: the cells of its fields, and the methods that are found in it.
use mathlib.Core.Logic.{◌≢◌}
use mathlib.Core.Path.{◌≡◌, refl, sym, ap, ◌∙◌, subst}
use Prim.Native.Nat.{ℕ, zero, suc, ◌+◌, ◌-◌, ◌≤◌, ◌<◌}
use native.Mathlib.Nat.{le_refl}
use native.Mathlib.Omega.{arith}
use mathlib.Core.Bool.{not, ◌&&◌}
use mathlib.Core.Option.{Option, none, some}
use mathlib.Core.List.{List, []}
use lib.ListN.{length, take}
use lib.Dec.{T, eqb, eqb→eq, eqb_refl, T_not}
use Rattle.model.specs.Answer.{or_else, or_next, at, row, those}
use Rattle.model.specs.Tables.{Sort, static, instance, virtual, constructor, initialiser, is_sort, sort_byte, Field, Method, Module, method_at, this_of}
use Rattle.model.specs.Tables.{arguments, parent_of, is_own, layout, is_static_field, slot, root_up, root, of_root, initialiser_of}
use Rattle.model.specs.Code.{dispatched}
use Rattle.model.specs.Step.{choose_up, choose}
use Rattle.model.proofs.Hoare.{and_l, and_r, and_i, pick_either, pick_no, pick_yes}
use Rattle.model.proofs.Rows.{at_after, row_at, method_is, at_those, first_at, first_none}
use Rattle.model.proofs.Ancestors.{Above, here, up, above_trans, above_pos, layout_parent}
use Rattle.model.proofs.Loaded.{Like, Loaded}

pub sort_eq : (s t : Sort) → T (is_sort s t) → s ≡ t
unfolding is_sort sort_byte
sort_eq static static h = refl
sort_eq static instance h = absurd h
sort_eq static virtual h = absurd h
sort_eq static constructor h = absurd h
sort_eq static initialiser h = absurd h
sort_eq instance static h = absurd h
sort_eq instance instance h = refl
sort_eq instance virtual h = absurd h
sort_eq instance constructor h = absurd h
sort_eq instance initialiser h = absurd h
sort_eq virtual static h = absurd h
sort_eq virtual instance h = absurd h
sort_eq virtual virtual h = refl
sort_eq virtual constructor h = absurd h
sort_eq virtual initialiser h = absurd h
sort_eq constructor static h = absurd h
sort_eq constructor instance h = absurd h
sort_eq constructor virtual h = absurd h
sort_eq constructor constructor h = refl
sort_eq constructor initialiser h = absurd h
sort_eq initialiser static h = absurd h
sort_eq initialiser instance h = absurd h
sort_eq initialiser virtual h = absurd h
sort_eq initialiser constructor h = absurd h
sort_eq initialiser initialiser h = refl

above_split : {X : Type 0} {ps : List ℕ} {d c : ℕ} → Above ps d c → (d ≡ c → X) → ((b : ℕ) → suc b ≡ c → Above ps d (parent_of ps (suc b)) → X) → X
above_split (here h) f g = f refl
above_split (up {c = b} p) f g = g b refl p

like_refl : (a : Method) → Like a a
like_refl a = record { returns = refl; params = refl }

like_trans : {a b c : Method} → Like a b → Like b c → Like a c
like_trans p q = record { returns = p.returns ∙ q.returns; params = p.params ∙ q.params }

like_sym : {a b : Method} → Like a b → Like b a
like_sym p = record { returns = sym p.returns; params = sym p.params }

module _ (code : List ℕ) (M : Module) (k : Loaded code M) where
  -- ---- Fields

  -- an instance field's cell among its class's
  pub slot_field : (r : ℕ) (f : Field) → row M.fields r ≡ some f → T (not f.is_static)
      → at (layout M.parents M.fields f.owner) (slot M.parents M.fields r f) ≡ some f
  unfolding slot
  slot_field r f e s =
      let (i, z, a) = row_at M.fields r f e in
      rw (pick_no f.is_static _ _ s) (go i z a f.owner refl (k.field r f e).low)
    where
      owned : (c : ℕ) → f.owner ≡ c → T (is_own c f)
      owned c q = unfold is_own in (and_i (eqb f.owner c) (not f.is_static) (rw q (eqb_refl c)) s)

      go : (i : ℕ) → r ≡ suc i → at M.fields i ≡ some f → (c : ℕ) → f.owner ≡ c → 1 ≤ c
          → at (layout M.parents M.fields c)
          (length (layout M.parents M.fields (parent_of M.parents c)) + length (those (is_own c) (take (r - 1) M.fields))) ≡ some f
      go i z a zero q h = absurd (omega arith)
      go i z a (suc c) q h =
          let y : r - 1 ≡ i = omega arith in
          rw (y, layout_parent M.parents M.fields k.falls c)
          (at_after (layout M.parents M.fields (parent_of M.parents (suc c))) (those (is_own (suc c)) M.fields)
          (length (those (is_own (suc c)) (take i M.fields)))
          ∙ at_those (is_own (suc c)) M.fields i f a (owned (suc c) q))

  -- a static field's cell among the static ones
  pub slot_static : (r : ℕ) (f : Field) → row M.fields r ≡ some f → T f.is_static
      → at (those is_static_field M.fields) (slot M.parents M.fields r f) ≡ some f
  unfolding slot is_static_field
  slot_static r f e s =
      let (i, z, a) = row_at M.fields r f e in
      let y : r - 1 ≡ i = omega arith in
      rw (pick_yes f.is_static _ _ s, y) (at_those is_static_field M.fields i f a s)

  -- ---- Initialisers

  -- a class's initialiser has no arguments and returns nothing
  pub record Initialises (r : ℕ) : Type 0 where
    pub is : row M.methods r ≡ some (method_at M.methods r)
    pub sort : T (is_sort (method_at M.methods r).sort initialiser)
    pub args : arguments (method_at M.methods r) ≡ []

  pub initialiser_is : (c r : ℕ) → initialiser_of M.methods c ≡ some r → Initialises r
  unfolding initialiser_of row arguments this_of
  initialiser_is c r e =
      let f = first_at (λ (r : ℕ) (m : Method). eqb m.owner c && is_sort m.sort initialiser) 1 M.methods r e in
      let z : r ≡ suc f.index = f.place ∙ omega arith in
      let q : row M.methods r ≡ some f.what = subst (λ (x : ℕ). row M.methods x ≡ some f.what) (sym z) f.is in
      let y : method_at M.methods r ≡ f.what = method_is M.methods r f.what q in
      let s : T (is_sort f.what.sort initialiser) = and_r (eqb f.what.owner c) (is_sort f.what.sort initialiser) f.passes in
      record { is = q ∙ ap some (sym y); sort = rw y s; args = rw (y, sort_eq f.what.sort initialiser s, ((k.method r f.what q).initialises s).1) }

  -- ---- Roots

  -- a method's root: an earlier method or itself that overrides none, of its class or an ancestor, and like it
  pub record Rooted (r q : ℕ) : Type 0 where
    pub is : row M.methods q ≡ some (method_at M.methods q)
    pub first : (method_at M.methods q).overridden ≡ 0
    pub earlier : q ≤ r
    pub above : Above M.parents (method_at M.methods q).owner (method_at M.methods r).owner
    pub like : Like (method_at M.methods r) (method_at M.methods q)
    pub up : T (is_sort (method_at M.methods r).sort virtual) → T (is_sort (method_at M.methods q).sort virtual)
    pub down : T (is_sort (method_at M.methods q).sort virtual) → T (is_sort (method_at M.methods r).sort virtual)

  root_up_lem : (n r : ℕ) → r ≤ n → row M.methods r ≡ some (method_at M.methods r) → Rooted r (root_up M.methods n r)
  unfolding root_up
  root_up_lem zero r h e = let (i, z, _) = row_at M.methods r _ e in absurd (omega arith)
  root_up_lem (suc n) r h e =
      let m : Method = method_at M.methods r in
      pick_either (λ (q : ℕ). Rooted r q) (eqb m.overridden 0) r (root_up M.methods n m.overridden)
      (λ t. record {
        is = e;
        first = eqb→eq m.overridden 0 t;
        earlier = le_refl r;
        above = here (k.method r m e).low;
        like = like_refl m;
        up = λ s. s;
        down = λ s. s;
      })
      (λ t.
      let w : m.overridden ≢ 0 = λ z. T_not (eqb m.overridden 0) t (rw z (eqb_refl 0)) in
      let o = k.override r m e w in
      let z : method_at M.methods m.overridden ≡ o.named = method_is M.methods m.overridden o.named o.is in
      let l : m.overridden < r = o.earlier in
      let q = root_up_lem n m.overridden (omega arith) (o.is ∙ ap some (sym z)) in
      let a : root_up M.methods n m.overridden ≤ m.overridden = q.earlier in
      record {
        is = q.is;
        first = q.first;
        earlier = omega arith;
        above = above_trans (rw (← z) at o.above) q.above;
        like = like_trans (k.agree r m e w) q.like;
        up = λ _. q.up (rw z o.overridden);
        down = λ _. o.overrides;
      })

  pub rooted : (r : ℕ) (m : Method) → row M.methods r ≡ some m → Rooted r (root M.methods r)
  unfolding root
  rooted r m e = root_up_lem r r (le_refl r) (e ∙ ap some (sym (method_is M.methods r m e)))

  -- ---- The method that callvirt takes

  -- a method of the class or an ancestor, like the one named
  pub record Taken (c r q : ℕ) : Type 0 where
    pub is : row M.methods q ≡ some (method_at M.methods q)
    pub above : Above M.parents (method_at M.methods q).owner c
    pub like : Like (method_at M.methods q) (method_at M.methods r)
    pub sort : T (dispatched (method_at M.methods q).sort)

  virtual_dispatched : (s : Sort) → T (is_sort s virtual) → T (dispatched s)
  virtual_dispatched s t = subst (λ (x : Sort). T (dispatched x)) (sym (sort_eq s virtual t)) (unfold dispatched is_sort sort_byte in tt)

  found_one : (c r q : ℕ) (m : Method) → row M.methods r ≡ some m → 0 < c → T (is_sort (method_at M.methods r).sort virtual)
      → of_root M.methods c (root M.methods r) ≡ some q → Taken c r q
  unfolding of_root row
  found_one c r q m i h v e =
      let f = first_at (λ (x : ℕ) (m : Method). eqb m.owner c && eqb (root M.methods x) (root M.methods r)) 1 M.methods q e in
      let z : q ≡ suc f.index = f.place ∙ omega arith in
      let d : row M.methods q ≡ some f.what = subst (λ (x : ℕ). row M.methods x ≡ some f.what) (sym z) f.is in
      let y : method_at M.methods q ≡ f.what = method_is M.methods q f.what d in
      let o : f.what.owner ≡ c = eqb→eq f.what.owner c (and_l (eqb f.what.owner c) (eqb (root M.methods q) (root M.methods r)) f.passes) in
      let g : root M.methods q ≡ root M.methods r = eqb→eq _ _ (and_r (eqb f.what.owner c) (eqb (root M.methods q) (root M.methods r))
      f.passes) in
      let a : Rooted q (root M.methods r) = rw (← g) (rooted q f.what d) in
      let b : Rooted r (root M.methods r) = rooted r m i in
      record {
        is = d ∙ ap some (sym y);
        above = rw (y, o) (here h);
        like = like_trans a.like (like_sym b.like);
        sort = virtual_dispatched _ (a.down (b.up v));
      }

  -- the named method's own class has one
  found_none : (r : ℕ) (m : Method) → row M.methods r ≡ some m → (c : ℕ) → m.owner ≡ c → of_root M.methods c (root M.methods r) ≡ none → ⊥
  unfolding of_root
  found_none r m e c o q =
      let (i, z, a) = row_at M.methods r m e in
      let t = first_none (λ (x : ℕ) (m : Method). eqb m.owner c && eqb (root M.methods x) (root M.methods r)) 1 M.methods q i m a in
      let y : 1 + i ≡ r = omega arith in
      T_not (eqb m.owner c && eqb (root M.methods r) (root M.methods r))
      (subst (λ (x : ℕ). T (not (eqb m.owner c && eqb (root M.methods x) (root M.methods r)))) y t)
      (and_i (eqb m.owner c) (eqb (root M.methods r) (root M.methods r)) (rw o (eqb_refl c)) (eqb_refl (root M.methods r)))

  taken_up : (r : ℕ) (m : Method) → row M.methods r ≡ some m → T (is_sort (method_at M.methods r).sort virtual)
      → (n c : ℕ) → c ≤ n → Above M.parents m.owner c → (q : ℕ) × (choose_up M (root M.methods r) n c ≡ some q) × Taken c r q
  unfolding choose_up or_next
  taken_up r m e v zero c le a = let h : 0 < c = above_pos a in absurd (omega arith)
  taken_up r m e v (suc n) zero le a = let h : 0 < 0 = above_pos a in absurd (omega arith)
  taken_up r m e v (suc n) (suc c) le a =
      go (λ p q. taken_up r m e v n (parent_of M.parents (suc c)) p q) (of_root M.methods (suc c) (root M.methods r)) refl
    where
      rest : Option ℕ
      rest = choose_up M (root M.methods r) n (parent_of M.parents (suc c))

      go : (parent_of M.parents (suc c) ≤ n → Above M.parents m.owner (parent_of M.parents (suc c)) → (q : ℕ) × (rest ≡ some q)
          × Taken (parent_of M.parents (suc c)) r q)
          → (o : Option ℕ) → of_root M.methods (suc c) (root M.methods r) ≡ o → (q : ℕ) × (or_next o rest ≡ some q) × Taken (suc c) r q
      go ih (some q) h = (q, refl, found_one (suc c) r q m e (omega arith) v h)
      go ih none h = above_split a (λ o. absurd (found_none r m e (suc c) o h))
          (λ b z p.
          let f : parent_of M.parents (suc c) ≤ c = k.falls c in
          let y : b ≡ c = omega arith in
          let (q, i, t) = ih (omega arith) (subst (λ (x : ℕ). Above M.parents m.owner (parent_of M.parents (suc x))) y p) in
          (q, i, record { is = t.is; above = up t.above; like = t.like; sort = t.sort }))

  -- callvirt takes such a method for an object of a class that descends from the named one's
  pub taken : (r : ℕ) (m : Method) → row M.methods r ≡ some m → T (dispatched m.sort) → (c : ℕ) → Above M.parents m.owner c
      → Taken c r (choose M r m c)
  unfolding choose
  taken r m e s c a =
      let z : method_at M.methods r ≡ m = method_is M.methods r m e in
      pick_either (λ (q : ℕ). Taken c r q) (is_sort m.sort virtual) (or_else (choose_up M (root M.methods r) c c) r) r
      (λ t. let (q, i, h) = taken_up r m e (rw z t) c c (le_refl c) a in subst (λ (o : Option ℕ). Taken c r (or_else o r)) (sym i) (unfold or_else in h))
      (λ _. record { is = e ∙ ap some (sym z); above = rw z a; like = like_refl _; sort = rw z s })
