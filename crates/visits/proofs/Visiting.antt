-- One instruction, as the code visits it.
use Prim.Native.Nat.{ℕ, ◌-◌, ◌≤◌, ◌<◌}
use mathlib.Core.Path.{◌≡◌, refl, sym, ap, ◌∙◌, subst}
use mathlib.Core.Bool.{Bool, true, false, not}
use Rattle.std.specs.Prelude.{Option as Found, is_some, Result, Ok, Err, ⊤}
use Rattle.code.specs.Operand.{maybe}
use Rattle.check_operands.proofs.Operands.{absent}
use mathlib.Core.Option.{Option, none, some}
use mathlib.Core.List.{List, []}
use native.Mathlib.Omega.{arith}
use borrow.Author.Tests.{lt-ltb, le-ltb, ne_eqb, eqb-true, eqb-false}
use lib.Dec.{ltb, eqb}
use lib.ListN.{length, set}
use Rattle.model.specs.Answer.{Answer, bad, ok, ◌>>=◌, guard, pick, only_if, map_option, is_none, keep_if, at, row}
use Rattle.model.specs.Tables.{Sort, Field, Method, Module, arguments}
use Rattle.model.specs.Code.{Jump, Ins, plain, ldarg, starg, ldloc, stloc, jump, call, callvirt, newobj, castclass, isinst, ldfld, stfld, ldsfld, stsfld}
use Rattle.model.specs.Code.{Act, and_then, row_of, class_of, field_of, method_of, operands}
use Rattle.model.specs.Check.{Shape, Shapes, Site, starts, all_start, targets, falls, plain_falls, effect, arrive, arrivals, shape_at, visit}
use Rattle.code.specs.declared.insn.Insn.{Insn}
use Rattle.code.specs.Insn.{ins_of}
use Rattle.shapes.specs.declared.shape.Pool.{Pool}
use Rattle.shapes.specs.Pool.{Shows, Fine, Agrees, Takes}
use Rattle.shapes.specs.declared.fault.FaultKind.TheVariants.{Operand}
use Rattle.check_operands.specs.Groups.{group_of, jump_by, target_by, call_by, field_by, plain_by, ins_by}
use Rattle.visits.specs.Found.{Kept, Went, WentBy, Lands, landing, goes_on, jumped}
use Rattle.visits.specs.Visits.{act_of, Visits}
use Rattle.shapes.specs.declared.fault.FaultKind.{FaultKind}
use Rattle.visits.proofs.Arrivals.{failed}
use Rattle.visits.proofs.Alike.{ins_for, act_for, operands_for, effect_for, falls_for, targets_for, group_law}

-- ---- A visit as effect and arrivals

abbrev here : ℕ → Act → ℕ → Site Act
here o a next = record { offset = o; what = a; next = next }

abbrev pub marked : Shapes → ℕ → Shapes
marked F o = set F o (some (shape_at F o))

visit_is : (M : Module) (m : Method) (F : Shapes) (o : ℕ) (a : Act) (next n : ℕ) → length m.code ≡ n
    → visit M m F (here o a next) ≡ (effect M m a (shape_at F o) >>= λ S. goes_on n (marked F o) (falls a) next (targets a) S)
unfolding visit goes_on arrivals
visit_is M m F o a next n e = rw (← e) refl

visit_for : (M : Module) (m : Method) (F : Shapes) (o : ℕ) (a : Act) (next : ℕ) → visit M m F (here o (act_for a) next) ≡ visit M m F (here o a next)
visit_for M m F o a next =
    visit_is M m F o (act_for a) next (length m.code) refl
    ∙ (ap (λ (A : Answer ℕ Shape). A >>= λ S. goes_on (length m.code) (marked F o) (falls (act_for a)) next (targets (act_for a)) S)
    (effect_for M m a (shape_at F o))
    ∙ (ap (λ (b : Bool). effect M m a (shape_at F o) >>= λ S. goes_on (length m.code) (marked F o) b next (targets (act_for a)) S) (falls_for a)
    ∙ (ap (λ (l : List ℕ). effect M m a (shape_at F o) >>= λ S. goes_on (length m.code) (marked F o) (falls a) next l S) (targets_for a)
    ∙ sym (visit_is M m F o a next (length m.code) refl))))

act_for_lem : (M : Module) (m : Method) (all : List (Site Ins)) (i : Ins) → act_of M m all (ins_for i) ≡ map_option act_for (act_of M m all i)
unfolding act_of and_then map_option only_if
act_for_lem M m all i = rw (operands_for M m i) (by (operands M m i))
  where
    test : (b : Bool) (a : Act) → only_if b (some (act_for a)) ≡ map_option act_for (only_if b (some a))
    test true a = refl
    test false a = refl

    by : (o : Option Act) → and_then (map_option act_for o) (λ a. only_if (all_start all (targets a)) (some a)) ≡ map_option act_for
        (and_then o (λ a. only_if (all_start all (targets a)) (some a)))
    by none = refl
    by (some a) = rw (targets_for a) (test (all_start all (targets a)) a)

went_for : (P : Pool) (n : ℕ) (r : Result ⊤ FaultKind) (l : List ℕ) (f : Act → Answer ℕ Shapes) (o : Option Act) → ((a : Act) → f (act_for a) ≡ f a)
    → WentBy P n r l f (map_option act_for o) → WentBy P n r l f o
unfolding WentBy map_option
went_for P n r l f none e h = h
went_for P n r l f (some a) e h = subst (λ (A : Answer ℕ Shapes). Went P n r l A) (e a) h

-- the instruction read stands for its group
pub by_group : (M : Module) (m : Method) (all : List (Site Ins)) (F : Shapes) (o : ℕ) (i : Insn) (n : ℕ) (r : Result ⊤ FaultKind) (l : List ℕ) (Q : Pool) (g : ℕ)
    → g ≡ group_of i.op
    → WentBy Q n r l (λ a. visit M m F (here o a i.next)) (act_of M m all (ins_by g i.op i.operand i.next)) → Fine Q → Visits M m all F o i n r l Q
unfolding Visits
by_group M m all F o i n r l Q g e h f = (
  went_for Q n r l (λ a. visit M m F (here o a i.next)) (act_of M m all (ins_of i)) (λ a. visit_for M m F o a i.next)
      (subst (λ (x : Option Act). WentBy Q n r l (λ a. visit M m F (here o a i.next)) x)
      (ap (act_of M m all) (ap (λ (k : ℕ). ins_by k i.op i.operand i.next) e ∙ sym (group_law i)) ∙ act_for_lem M m all (ins_of i)) h),
  f,
)

none_for : (o : Option Act) → is_none (map_option act_for o) ≡ is_none o
unfolding is_none map_option
none_for none = refl
none_for (some a) = refl

pub none_by_group : (M : Module) (m : Method) (all : List (Site Ins)) (i : Insn) (g : ℕ) (b : Bool) → g ≡ group_of i.op
    → b ≡ is_none (act_of M m all (ins_by g i.op i.operand i.next)) → b ≡ is_none (act_of M m all (ins_of i))
none_by_group M m all i g b e h =
    h ∙ (ap (λ (x : Ins). is_none (act_of M m all x)) (ap (λ (k : ℕ). ins_by k i.op i.operand i.next) e ∙ sym (group_law i))
    ∙ (ap is_none (act_for_lem M m all (ins_of i)) ∙ none_for (act_of M m all (ins_of i))))

-- ---- Branches

ins_jump : (g op n next : ℕ) → 33 ≤ g → ins_by g op n next ≡ jump (jump_by g) (target_by op next n)
unfolding ins_by pick
ins_jump g op n next h = rw (le-ltb g 25 (omega arith), le-ltb g 28 (omega arith), ne_eqb g 28 (λ e. absurd (omega arith)), le-ltb g 33 h) refl

jump_acts : (M : Module) (m : Method) (all : List (Site Ins)) (j : Jump) (t : Option ℕ) (n : ℕ) → length m.code ≡ n
    → act_of M m all (jump j t) ≡ map_option (Act.jump j) (landing all n t)
unfolding act_of operands landing and_then map_option only_if all_start targets
jump_acts M m all j t n e = rw (← e) (by t)
  where
    test : (a b : Bool) (o : ℕ) → b ≡ starts all o → and_then (only_if a (some (Act.jump j o))) (λ a. only_if (all_start all (targets a)) (some a)) ≡ map_option
        (Act.jump j) (only_if a (only_if b (some o)))
    test true true o q = rw (← q) refl
    test true false o q = rw (← q) refl
    test false b o q = refl

    by : (t : Option ℕ) → and_then (and_then t (λ o. only_if (ltb o (length m.code)) (some (Act.jump j o))))
        (λ a. only_if (all_start all (targets a)) (some a)) ≡ map_option (Act.jump j)
        (and_then t (λ o. only_if (ltb o (length m.code)) (only_if (starts all o) (some o))))
    by none = refl
    by (some o) = test (ltb o (length m.code)) (starts all o) o refl

went_map : (P : Pool) (n : ℕ) (r : Result ⊤ FaultKind) (l : List ℕ) (f : ℕ → Answer ℕ Shapes) (h : ℕ → Act) (g : Act → Answer ℕ Shapes) (o : Option ℕ) → ((a : ℕ) → g (h a) ≡ f a)
    → WentBy P n r l f o → WentBy P n r l g (map_option h o)
unfolding WentBy map_option
went_map P n r l f h g none e w = w
went_map P n r l f h g (some a) e w = subst (λ (A : Answer ℕ Shapes). Went P n r l A) (sym (e a)) w

visit_jump : (M : Module) (m : Method) (F : Shapes) (o next n : ℕ) (j : Jump) (t : ℕ) → length m.code ≡ n
    → visit M m F (here o (Act.jump j t) next) ≡ jumped n (marked F o) j next (shape_at F o) t
unfolding jumped effect falls targets
visit_jump M m F o next n j t e = visit_is M m F o (Act.jump j t) next n e

pub branch_visit : (M : Module) (m : Method) (all : List (Site Ins)) (F : Shapes) (o : ℕ) (i : Insn) (n : ℕ) (r : Result ⊤ FaultKind) (l : List ℕ) (Q : Pool) (g : ℕ)
    → g ≡ group_of i.op → 33 ≤ g → length m.code ≡ n
    → WentBy Q n r l (jumped n (marked F o) (jump_by g) i.next (shape_at F o)) (landing all n (target_by i.op i.next i.operand)) → Fine Q
    → Visits M m all F o i n r l Q
branch_visit M m all F o i n r l Q g e h z w f =
    by_group M m all F o i n r l Q g e
    (subst (λ (x : Option Act). WentBy Q n r l (λ a. visit M m F (here o a i.next)) x)
    (sym (ap (act_of M m all) (ins_jump g i.op i.operand i.next h) ∙ jump_acts M m all (jump_by g) (target_by i.op i.next i.operand) n z))
    (went_map Q n r l (jumped n (marked F o) (jump_by g) i.next (shape_at F o)) (Act.jump (jump_by g)) (λ a. visit M m F (here o a i.next))
    (landing all n (target_by i.op i.next i.operand))
    (λ t. visit_jump M m F o i.next n (jump_by g) t z) w)) f

lands_none : (n : ℕ) (r : Found ℕ) (o : Option ℕ) (j : Jump) (b : Bool) → Lands n r o → is_some r ≡ not b → b ≡ is_none (map_option (Act.jump j) o)
unfolding Lands is_none map_option
lands_none n r none j b h e = absent r b none e (ap maybe h)
lands_none n r (some t) j b h e = absent r b (some t) e (ap maybe h.0)

pub branch_refused : (M : Module) (m : Method) (all : List (Site Ins)) (i : Insn) (n : ℕ) (r : Found ℕ) (b : Bool) (g : ℕ) → g ≡ group_of i.op → 33 ≤ g
    → length m.code ≡ n → Lands n r (landing all n (target_by i.op i.next i.operand)) → is_some r ≡ not b → b ≡ is_none (act_of M m all (ins_of i))
branch_refused M m all i n r b g e h z w k =
    none_by_group M m all i g b e
    (lands_none n r (landing all n (target_by i.op i.next i.operand)) (jump_by g) b w k
    ∙ ap is_none (sym (ap (act_of M m all) (ins_jump g i.op i.operand i.next h) ∙ jump_acts M m all (jump_by g)
    (target_by i.op i.next i.operand) n z)))

-- ---- Instructions that are no branch

-- no target, and whether it falls through
unfoldable Quietly : Bool → Option Act → Type 0
Quietly b none = Unit {0}
Quietly b (some a) = (targets a ≡ []) × (falls a ≡ b)

quiet_map : {A : Type 0} (b : Bool) (h : A → Act) (o : Option A) → ((a : A) → (targets (h a) ≡ []) × (falls (h a) ≡ b)) → Quietly b (map_option h o)
unfolding Quietly map_option
quiet_map b h none e = tt
quiet_map b h (some a) e = e a

quiet_then : {A : Type 0} (b : Bool) (o : Option A) (f : A → Option Act) → ((a : A) → Quietly b (f a)) → Quietly b (and_then o f)
unfolding Quietly and_then
quiet_then b none f e = tt
quiet_then b (some a) f e = e a

quiet_only : (b t : Bool) (a : Act) → (targets a ≡ []) × (falls a ≡ b) → Quietly b (only_if t (some a))
unfolding Quietly only_if
quiet_only b true a h = h
quiet_only b false a h = tt

quiet_method : (M : Module) (p : Sort → Bool) (f : ℕ → Method → Act) (t : ℕ) → ((r : ℕ) (k : Method) → (targets (f r k) ≡ []) × (falls (f r k) ≡ true))
    → Quietly true (method_of M p f t)
unfolding method_of
quiet_method M p f t e =
    quiet_then true (row_of 6 t) (λ r. and_then (row M.methods r) (λ k. only_if (p k.sort) (some (f r k))))
    (λ r. quiet_then true (row M.methods r) (λ k. only_if (p k.sort) (some (f r k))) (λ k. quiet_only true (p k.sort) (f r k) (e r k)))

quiet_field : (M : Module) (s : Bool) (f : ℕ → Field → Act) (t : ℕ) → ((r : ℕ) (d : Field) → (targets (f r d) ≡ []) × (falls (f r d) ≡ true))
    → Quietly true (field_of M s f t)
unfolding field_of
quiet_field M s f t e =
    quiet_then true (row_of 4 t) (λ r. and_then (row M.fields r) (λ d. only_if (pick s d.is_static (not d.is_static)) (some (f r d))))
    (λ r. quiet_then true (row M.fields r) (λ d. only_if (pick s d.is_static (not d.is_static)) (some (f r d)))
    (λ d. quiet_only true (pick s d.is_static (not d.is_static)) (f r d) (e r d)))

-- whether an instruction is no branch, and falls through
quiet : Ins → Bool
quiet (plain p) = true
quiet (ldarg i) = true
quiet (starg i) = true
quiet (ldloc i) = true
quiet (stloc i) = true
quiet (jump j t) = false
quiet (call t) = true
quiet (callvirt t) = true
quiet (newobj t) = true
quiet (castclass t) = true
quiet (isinst t) = true
quiet (ldfld t) = true
quiet (stfld t) = true
quiet (ldsfld t) = true
quiet (stsfld t) = true

goes : Ins → Bool
goes (plain p) = plain_falls p
goes (ldarg i) = true
goes (starg i) = true
goes (ldloc i) = true
goes (stloc i) = true
goes (jump j t) = true
goes (call t) = true
goes (callvirt t) = true
goes (newobj t) = true
goes (castclass t) = true
goes (isinst t) = true
goes (ldfld t) = true
goes (stfld t) = true
goes (ldsfld t) = true
goes (stsfld t) = true

Calm : Bool → Ins → Type 0
Calm b i = (quiet i ≡ true) × (goes i ≡ b)

calm_quiet : (M : Module) (m : Method) (b : Bool) (i : Ins) → Calm b i → Quietly b (operands M m i)
unfolding Calm quiet goes operands Quietly falls targets
calm_quiet M m b (plain p) h = (refl, h.1)
calm_quiet M m b (ldarg i) h = quiet_map b (Act.ldarg i) (at (arguments m) i) (λ a. (refl, h.1))
calm_quiet M m b (starg i) h = quiet_map b (Act.starg i) (at (arguments m) i) (λ a. (refl, h.1))
calm_quiet M m b (ldloc i) h = quiet_map b (Act.ldloc i) (at m.locals i) (λ a. (refl, h.1))
calm_quiet M m b (stloc i) h = quiet_map b (Act.stloc i) (at m.locals i) (λ a. (refl, h.1))
calm_quiet M m b (jump j t) h = let z : ◌≡◌ {A = ℕ} 0 1 = cc in absurd (omega arith)
calm_quiet M m b (call t) h = rw (← h.1) (quiet_method M _ Act.call t (λ r k. (refl, refl)))
calm_quiet M m b (callvirt t) h = rw (← h.1) (quiet_method M _ Act.callvirt t (λ r k. (refl, refl)))
calm_quiet M m b (newobj t) h = rw (← h.1) (quiet_method M _ Act.newobj t (λ r k. (refl, refl)))
calm_quiet M m b (castclass t) h = quiet_map b Act.castclass (class_of M t) (λ a. (refl, h.1))
calm_quiet M m b (isinst t) h = quiet_map b Act.isinst (class_of M t) (λ a. (refl, h.1))
calm_quiet M m b (ldfld t) h = rw (← h.1) (quiet_field M false Act.ldfld t (λ r d. (refl, refl)))
calm_quiet M m b (stfld t) h = rw (← h.1) (quiet_field M false Act.stfld t (λ r d. (refl, refl)))
calm_quiet M m b (ldsfld t) h = rw (← h.1) (quiet_field M true Act.ldsfld t (λ r d. (refl, refl)))
calm_quiet M m b (stsfld t) h = rw (← h.1) (quiet_field M true Act.stsfld t (λ r d. (refl, refl)))

pick_calm : (b c : Bool) (x y : Ins) → Calm b x → Calm b y → Calm b (pick c x y)
unfolding pick
pick_calm b true x y h k = h
pick_calm b false x y h k = k

plain_calm : (g op n : ℕ) → (g ≡ 3 → ⊥) → Calm true (plain_by g op n)
unfolding plain_by Calm quiet goes plain_falls pick
plain_calm g op n e =
    rw (ne_eqb g 3 e) (pick_calm true (eqb g 0) _ _ (refl, refl)
    (pick_calm true (eqb g 1) _ _ (refl, refl) (pick_calm true (eqb g 2) _ _ (refl, refl)
    (pick_calm true (eqb g 4) _ _ (refl, refl) (pick_calm true (eqb g 5) _ _ (refl, refl)
    (pick_calm true (eqb g 6) _ _ (refl, refl) (pick_calm true (eqb g 7) _ _ (refl, refl)
    (pick_calm true (eqb g 8) _ _ (refl, refl) (pick_calm true (eqb g 9) _ _ (refl, refl)
    (pick_calm true (eqb g 10) _ _ (refl, refl) (pick_calm true (eqb g 11) _ _ (refl, refl)
    (pick_calm true (eqb g 12) _ _ (refl, refl) (pick_calm true (eqb g 13) _ _ (refl, refl)
    (pick_calm true (eqb g 14) _ _ (refl, refl) (pick_calm true (eqb g 15) _ _ (refl, refl)
    (pick_calm true (eqb g 16) _ _ (refl, refl) (pick_calm true (eqb g 17) _ _ (refl, refl)
    (pick_calm true (eqb g 18) _ _ (refl, refl) (pick_calm true (eqb g 24) _ _ (refl, refl) (refl, refl))))))))))))))))))))

ret_calm : (g op n : ℕ) → g ≡ 3 → Calm false (plain_by g op n)
unfolding plain_by Calm quiet goes plain_falls pick
ret_calm g op n e = rw e (refl, refl)

below_33 : (g op n next : ℕ) → g < 33 → ins_by g op n next ≡ pick (ltb g 25) (plain_by g op n)
    (pick (ltb g 28) (call_by (g - 25) n) (pick (eqb g 28) (castclass n) (field_by g n)))
unfolding ins_by pick
below_33 g op n next l = rw (lt-ltb g 33 l) refl

call_calm : (w n : ℕ) → Calm true (call_by w n)
unfolding call_by Calm quiet goes
call_calm w n = pick_calm true (eqb w 0) (call n) _ (refl, refl) (pick_calm true (eqb w 1) (callvirt n) (newobj n) (refl, refl) (refl, refl))

field_calm : (g n : ℕ) → Calm true (field_by g n)
unfolding field_by Calm quiet goes
field_calm g n =
    pick_calm true (eqb g 29) (ldfld n) _ (refl, refl) (pick_calm true (eqb g 30) (stfld n) _ (refl, refl)
    (pick_calm true (eqb g 31) (ldsfld n) (stsfld n) (refl, refl) (refl, refl)))

cast_calm : (n : ℕ) → Calm true (castclass n)
unfolding Calm quiet goes
cast_calm n = (refl, refl)

step_calm : (g op n next : ℕ) → g < 33 → (g ≡ 3 → ⊥) → Calm true (ins_by g op n next)
step_calm g op n next l e =
    rw (below_33 g op n next l)
    (pick_calm true (ltb g 25) _ _ (plain_calm g op n e) (pick_calm true (ltb g 28) _ _ (call_calm (g - 25) n)
    (pick_calm true (eqb g 28) _ _ (cast_calm n) (field_calm g n))))

step_ret : (g op n next : ℕ) → g ≡ 3 → Calm false (ins_by g op n next)
unfolding ins_by pick
step_ret g op n next e = rw (lt-ltb g 25 (omega arith)) (ret_calm g op n e)

quiet_acts : (M : Module) (m : Method) (all : List (Site Ins)) (b : Bool) (i : Ins) → Quietly b (operands M m i) → act_of M m all i ≡ operands M m i
unfolding act_of Quietly and_then only_if all_start
quiet_acts M m all b i h = by (operands M m i) h
  where
    by : (o : Option Act) → Quietly b o → and_then o (λ a. only_if (all_start all (targets a)) (some a)) ≡ o
    by none h = refl
    by (some a) h = rw h.0 refl

-- the next instruction has no part in a group without targets
still : (g op n x y : ℕ) → g < 33 → ins_by g op n x ≡ ins_by g op n y
unfolding ins_by pick
still g op n x y h = rw (lt-ltb g 33 h) refl

module _ (M : Module) (m : Method) (all : List (Site Ins)) (F : Shapes) (o : ℕ) (i : Insn) (n : ℕ) (l : List ℕ) (Q : Pool) (g : ℕ) (r : Result ℕ FaultKind)
    (e : g ≡ group_of i.op) (h : g < 33) (z : length m.code ≡ n) (f : Fine Q)
    (t : Takes Q r (λ a. effect M m a (shape_at F o)) (operands M m (ins_by g i.op i.operand 0))) where
  by_operands : (v : Result ⊤ FaultKind) (b : Bool) → Calm b (ins_by g i.op i.operand 0)
      → WentBy Q n v l (λ a. visit M m F (here o a i.next)) (operands M m (ins_by g i.op i.operand 0)) → Visits M m all F o i n v l Q
  by_operands v b c w =
      by_group M m all F o i n v l Q g e
      (subst (λ (x : Option Act). WentBy Q n v l (λ a. visit M m F (here o a i.next)) x)
      (sym (ap (act_of M m all) (still g i.op i.operand i.next 0 h) ∙ quiet_acts M m all b (ins_by g i.op i.operand 0)
      (calm_quiet M m b (ins_by g i.op i.operand 0) c))) w) f

  pub step_failed : (k : FaultKind) → r ≡ Err k → Visits M m all F o i n (Err k) l Q
  unfolding Takes WentBy
  step_failed k c = by_test (eqb g 3) refl
    where
      went : (x : Option Act) → Takes Q (Err k) (λ a. effect M m a (shape_at F o)) x → WentBy Q n (Err k) l (λ a. visit M m F (here o a i.next)) x
      went none t = let y : ◌≡◌ {A = Result ℕ FaultKind} (Err k) (Err Operand) = t in cc
      went (some a) t =
          subst (λ (A : Answer ℕ Shapes). Went Q n (Err k) l A) (sym (visit_is M m F o a i.next n z))
          (failed Q k (effect M m a (shape_at F o)) n l (λ S. goes_on n (marked F o) (falls a) i.next (targets a) S) t)

      by_test : (b : Bool) → eqb g 3 ≡ b → Visits M m all F o i n (Err k) l Q
      by_test true q =
          by_operands (Err k) false (step_ret g i.op i.operand 0 (eqb-true g 3 q)) (went (operands M m (ins_by g i.op i.operand 0)) (rw c at t))
      by_test false q =
          by_operands (Err k) true (step_calm g i.op i.operand 0 h (eqb-false g 3 q)) (went (operands M m (ins_by g i.op i.operand 0)) (rw c at t))

  module _ (s : ℕ) (k : r ≡ Ok s) where
    pub step_returned : g ≡ 3 → Kept Q n (marked F o) l → Visits M m all F o i n (Ok tt) l Q
    unfolding Takes WentBy Quietly Agrees Went ◌>>=◌ goes_on arrive keep_if guard
    step_returned q w =
        by_operands (Ok tt) false (step_ret g i.op i.operand 0 q)
        (went (operands M m (ins_by g i.op i.operand 0)) (rw k at t)
        (calm_quiet M m false (ins_by g i.op i.operand 0) (step_ret g i.op i.operand 0 q)))
      where
        ends : (a : Act) (A : Answer ℕ Shape) → Agrees Q (Ok s) A → targets a ≡ [] → falls a ≡ false
            → Went Q n (Ok tt) l (A >>= λ S. goes_on n (marked F o) (falls a) i.next (targets a) S)
        ends a (bad j) c x y = absurd c
        ends a (ok S) c x y = rw (x, y) (refl, w)

        went : (x : Option Act) → Takes Q (Ok s) (λ a. effect M m a (shape_at F o)) x → Quietly false x
            → WentBy Q n (Ok tt) l (λ a. visit M m F (here o a i.next)) x
        went none t c = let y : ◌≡◌ {A = Result ℕ FaultKind} (Ok s) (Err Operand) = t in absurd (cc)
        went (some a) t c =
            subst (λ (A : Answer ℕ Shapes). Went Q n (Ok tt) l A) (sym (visit_is M m F o a i.next n z)) (ends a (effect M m a (shape_at F o)) t c.0 c.1)

    pub step_onward : (v : Result ⊤ FaultKind) → (g ≡ 3 → ⊥) → ((S : Shape) → Shows Q S s → Went Q n v l (goes_on n (marked F o) true i.next [] S))
        → Visits M m all F o i n v l Q
    unfolding Takes WentBy Quietly Agrees Went ◌>>=◌
    step_onward v q w =
        by_operands v true (step_calm g i.op i.operand 0 h q)
        (went (operands M m (ins_by g i.op i.operand 0)) (rw k at t)
        (calm_quiet M m true (ins_by g i.op i.operand 0) (step_calm g i.op i.operand 0 h q)))
      where
        ends : (a : Act) (A : Answer ℕ Shape) → Agrees Q (Ok s) A → targets a ≡ [] → falls a ≡ true
            → Went Q n v l (A >>= λ S. goes_on n (marked F o) (falls a) i.next (targets a) S)
        ends a (bad j) c x y = absurd c
        ends a (ok S) c x y = rw (x, y) (w S c)

        went : (x : Option Act) → Takes Q (Ok s) (λ a. effect M m a (shape_at F o)) x → Quietly true x → WentBy Q n v l (λ a. visit M m F (here o a i.next)) x
        went none t c = let y : ◌≡◌ {A = Result ℕ FaultKind} (Ok s) (Err Operand) = t in absurd (cc)
        went (some a) t c =
            subst (λ (A : Answer ℕ Shapes). Went Q n v l A) (sym (visit_is M m F o a i.next n z)) (ends a (effect M m a (shape_at F o)) t c.0 c.1)

pub quiet_refused : (M : Module) (m : Method) (all : List (Site Ins)) (i : Insn) (g : ℕ) (b : Bool) → g ≡ group_of i.op → g < 33
    → b ≡ is_none (operands M m (ins_by g i.op i.operand 0)) → b ≡ is_none (act_of M m all (ins_of i))
quiet_refused M m all i g b e h t =
    none_by_group M m all i g b e (t ∙ ap is_none (sym (ap (act_of M m all) (still g i.op i.operand i.next 0 h) ∙ acts (eqb g 3) refl)))
  where
    acts : (c : Bool) → eqb g 3 ≡ c → act_of M m all (ins_by g i.op i.operand 0) ≡ operands M m (ins_by g i.op i.operand 0)
    acts true q =
        quiet_acts M m all false (ins_by g i.op i.operand 0)
        (calm_quiet M m false (ins_by g i.op i.operand 0) (step_ret g i.op i.operand 0 (eqb-true g 3 q)))
    acts false q =
        quiet_acts M m all true (ins_by g i.op i.operand 0)
        (calm_quiet M m true (ins_by g i.op i.operand 0) (step_calm g i.op i.operand 0 h (eqb-false g 3 q)))
