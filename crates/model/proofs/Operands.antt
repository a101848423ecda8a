-- What operands found say of an instruction.
use mathlib.Core.Path.{◌≡◌, subst}
use Prim.Native.Nat.{ℕ}
use mathlib.Core.Bool.{Bool, true, false, not}
use mathlib.Core.Option.{some}
use lib.Dec.{T}
use Rattle.model.specs.Answer.{pick, at, row}
use Rattle.model.specs.Tables.{Sort, Field, Method, Module, arguments}
use Rattle.model.specs.Code.{Ins, Act, field_of, method_of, callable, dispatched, constructs, operands}
use Rattle.model.proofs.Hoare.{some_eq, only_inv, then_inv, map_inv}
use Rattle.model.proofs.Decoding.{is_call}

-- whether a frame waits at an instruction
unfoldable pub waits : Act → Bool
waits (Act.plain p) = false
waits (Act.ldarg i t) = false
waits (Act.starg i t) = false
waits (Act.ldloc i t) = false
waits (Act.stloc i t) = false
waits (Act.jump j t) = false
waits (Act.call r k) = true
waits (Act.callvirt r k) = true
waits (Act.newobj r k) = true
waits (Act.castclass c) = false
waits (Act.isinst c) = false
waits (Act.ldfld r d) = false
waits (Act.stfld r d) = false
waits (Act.ldsfld r d) = false
waits (Act.stsfld r d) = false

-- what stands in the tables for an instruction's operands
unfoldable pub Stated : Module → Method → Act → Type 0
Stated M m (Act.plain p) = Unit {0}
Stated M m (Act.ldarg i t) = at (arguments m) i ≡ some t
Stated M m (Act.starg i t) = at (arguments m) i ≡ some t
Stated M m (Act.ldloc i t) = at m.locals i ≡ some t
Stated M m (Act.stloc i t) = at m.locals i ≡ some t
Stated M m (Act.jump j t) = Unit {0}
Stated M m (Act.call r k) = (row M.methods r ≡ some k) × T (callable k.sort)
Stated M m (Act.callvirt r k) = (row M.methods r ≡ some k) × T (dispatched k.sort)
Stated M m (Act.newobj r k) = (row M.methods r ≡ some k) × T (constructs k.sort)
Stated M m (Act.castclass c) = Unit {0}
Stated M m (Act.isinst c) = Unit {0}
Stated M m (Act.ldfld r d) = (row M.fields r ≡ some d) × T (not d.is_static)
Stated M m (Act.stfld r d) = (row M.fields r ≡ some d) × T (not d.is_static)
Stated M m (Act.ldsfld r d) = (row M.fields r ≡ some d) × T d.is_static
Stated M m (Act.stsfld r d) = (row M.fields r ≡ some d) × T d.is_static

pub record Operated (M : Module) (m : Method) (i : Ins) (a : Act) : Type 0 where
  pub stated : Stated M m a
  pub call : T (waits a) → T (is_call i)

method_stated : (M : Module) (p : Sort → Bool) (f : ℕ → Method → Act) (t : ℕ) (a : Act) → method_of M p f t ≡ some a
    → (r : ℕ) × (k : Method) × (row M.methods r ≡ some k) × T (p k.sort) × (f r k ≡ a)
unfolding method_of
method_stated M p f t a e =
    let (r, _, e1) = then_inv _ _ _ e in
    let (k, e2, e3) = then_inv _ _ _ e1 in
    let (u, e4) = only_inv _ _ _ e3 in
    (r, k, e2, u, some_eq e4)

field_stated : (M : Module) (s : Bool) (f : ℕ → Field → Act) (t : ℕ) (a : Act) → field_of M s f t ≡ some a
    → (r : ℕ) × (d : Field) × (row M.fields r ≡ some d) × T (pick s d.is_static (not d.is_static)) × (f r d ≡ a)
unfolding field_of
field_stated M s f t a e =
    let (r, _, e1) = then_inv _ _ _ e in
    let (d, e2, e3) = then_inv _ _ _ e1 in
    let (u, e4) = only_inv _ _ _ e3 in
    (r, d, e2, u, some_eq e4)

operated_as : {M : Module} {m : Method} {i : Ins} (a b : Act) → a ≡ b → Stated M m a → (T (waits a) → T (is_call i)) → Operated M m i b
operated_as {M} {m} {i} a b z s c = subst (λ (x : Act). Operated M m i x) z (record { stated = s; call = c })

pub operated : (M : Module) (m : Method) (i : Ins) (a : Act) → operands M m i ≡ some a → Operated M m i a
unfolding operands Stated waits is_call pick
operated M m (Ins.plain p) a e = operated_as _ a (some_eq e) tt (λ t. t)
operated M m (Ins.ldarg i) a e = let (t, q, z) = map_inv _ _ _ e in operated_as _ a z q (λ t. t)
operated M m (Ins.starg i) a e = let (t, q, z) = map_inv _ _ _ e in operated_as _ a z q (λ t. t)
operated M m (Ins.ldloc i) a e = let (t, q, z) = map_inv _ _ _ e in operated_as _ a z q (λ t. t)
operated M m (Ins.stloc i) a e = let (t, q, z) = map_inv _ _ _ e in operated_as _ a z q (λ t. t)
operated M m (Ins.jump j o) a e = let (t, _, q) = then_inv _ _ _ e in let (_, z) = only_inv _ _ _ q in operated_as _ a (some_eq z) tt (λ t. t)
operated M m (Ins.call t) a e = let (r, k, q, u, z) = method_stated M callable Act.call t a e in operated_as _ a z (q, u) (λ t. t)
operated M m (Ins.callvirt t) a e = let (r, k, q, u, z) = method_stated M dispatched Act.callvirt t a e in operated_as _ a z (q, u) (λ t. t)
operated M m (Ins.newobj t) a e = let (r, k, q, u, z) = method_stated M constructs Act.newobj t a e in operated_as _ a z (q, u) (λ t. t)
operated M m (Ins.castclass t) a e = let (c, _, z) = map_inv _ _ _ e in operated_as _ a z tt (λ t. t)
operated M m (Ins.isinst t) a e = let (c, _, z) = map_inv _ _ _ e in operated_as _ a z tt (λ t. t)
operated M m (Ins.ldfld t) a e = let (r, d, q, u, z) = field_stated M false Act.ldfld t a e in operated_as _ a z (q, u) (λ t. t)
operated M m (Ins.stfld t) a e = let (r, d, q, u, z) = field_stated M false Act.stfld t a e in operated_as _ a z (q, u) (λ t. t)
operated M m (Ins.ldsfld t) a e = let (r, d, q, u, z) = field_stated M true Act.ldsfld t a e in operated_as _ a z (q, u) (λ t. t)
operated M m (Ins.stsfld t) a e = let (r, d, q, u, z) = field_stated M true Act.stsfld t a e in operated_as _ a z (q, u) (λ t. t)
