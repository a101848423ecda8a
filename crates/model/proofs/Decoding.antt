-- Decoding: every instruction has a byte, and a call has five.
use mathlib.Core.Path.{◌≡◌, refl, ap, subst}
use Prim.Native.Nat.{ℕ, ◌+◌, ◌≤◌, ◌<◌}
use native.Mathlib.Omega.{arith}
use mathlib.Core.Bool.{Bool, true, false, not, ◌&&◌, ◌||◌}
use mathlib.Core.Option.{some}
use mathlib.Core.List.{List, [], ◌∷◌}
use lib.ListN.{drop}
use lib.Dec.{T, leb, eqb, eqb→eq, leb→le, T_not}
use Rattle.model.specs.Answer.{pick}
use Rattle.model.specs.Loading.{little}
use Rattle.model.specs.Code.{size_of, length_by, length_of, Ins, Form, bare, short, long, double, near, far, second, Kept, ◌is◌}
use Rattle.model.specs.Code.{op, un, const, i4_s, i4, i8, r8, branches, loads, operators, objects, instructions, after_fE, form_of, Decoded, as_form}
use Rattle.model.specs.Code.{full_form, decode_byte, decode_at, decode}
use Rattle.model.proofs.Hoare.{none_some, some_eq, and_l, and_r, or_e, only_inv, then_inv, map_inv, pick_inv}

-- an instruction at whose offset a frame waits
unfoldable pub is_call : Ins → Bool
is_call (Ins.plain p) = false
is_call (Ins.ldarg i) = false
is_call (Ins.starg i) = false
is_call (Ins.ldloc i) = false
is_call (Ins.stloc i) = false
is_call (Ins.jump j t) = false
is_call (Ins.call t) = true
is_call (Ins.callvirt t) = true
is_call (Ins.newobj t) = true
is_call (Ins.castclass t) = false
is_call (Ins.isinst t) = false
is_call (Ins.ldfld t) = false
is_call (Ins.stfld t) = false
is_call (Ins.ldsfld t) = false
is_call (Ins.stsfld t) = false

-- whether a form with an operand x is no call
unfoldable callless : ℕ → Form → Bool
callless x (bare i) = not (is_call i)
callless x (short f) = not (is_call (f x))
callless x (long f) = not (is_call (f x))
callless x (double f) = not (is_call (f x))
callless x (near j) = true
callless x (far j) = true
callless x second = true

-- an instruction has a byte, and five where it may be a call
unfoldable length_fits : ℕ → ℕ → Form → Bool
length_fits x b f = leb 1 (length_of b) && (eqb (length_of b) 5 || callless x f)

unfoldable lengths_fit : ℕ → List Kept → Bool
lengths_fit x [] = true
lengths_fit x (k ∷ ks) = length_fits x k.opcode k.form && lengths_fit x ks

unfoldable all_callless : ℕ → List Kept → Bool
all_callless x [] = true
all_callless x (k ∷ ks) = callless x k.form && all_callless x ks

instructions_fit : (x : ℕ) → T (lengths_fit x instructions)
unfolding lengths_fit length_fits callless is_call instructions loads branches operators objects ◌is◌ op un const i4_s i4 i8 r8 size_of length_by length_of form_of pick
instructions_fit x = tt

after_fE_callless : (x : ℕ) → T (all_callless x after_fE)
unfolding all_callless callless is_call after_fE ◌is◌ op
after_fE_callless x = tt

form_fits : (x : ℕ) (ks : List Kept) → T (lengths_fit x ks) → (b : ℕ) (f : Form) → form_of ks b ≡ some f → T (length_fits x b f)
unfolding lengths_fit form_of
form_fits x [] t b f e = none_some e
form_fits x (k ∷ ks) t b f e =
    pick_inv (eqb k.opcode b) (some k.form) (form_of ks b) f e
    (λ s q. subst (λ (n : ℕ). T (length_fits x n f)) (eqb→eq k.opcode b s)
    (subst (λ (y : Form). T (length_fits x k.opcode y)) (some_eq q) (and_l (length_fits x k.opcode k.form) (lengths_fit x ks) t)))
    (λ _ q. form_fits x ks (and_r (length_fits x k.opcode k.form) (lengths_fit x ks) t) b f q)

form_callless : (x : ℕ) (ks : List Kept) → T (all_callless x ks) → (b : ℕ) (f : Form) → form_of ks b ≡ some f → T (callless x f)
unfolding all_callless form_of
form_callless x [] t b f e = none_some e
form_callless x (k ∷ ks) t b f e =
    pick_inv (eqb k.opcode b) (some k.form) (form_of ks b) f e
    (λ s q. subst (λ (y : Form). T (callless x y)) (some_eq q) (and_l (callless x k.form) (all_callless x ks) t))
    (λ _ q. form_callless x ks (and_r (callless x k.form) (all_callless x ks) t) b f q)

-- a form that is no call gives none
callless_ins : (f : Form) (r : List ℕ) (n : ℕ) (i : Ins) → ((x : ℕ) → T (callless x f)) → as_form f r n ≡ some i → T (not (is_call i))
unfolding as_form callless
callless_ins (bare j) r n i h e = subst (λ (y : Ins). T (not (is_call y))) (some_eq e) (h 0)
callless_ins (short f) r n i h e = subst (λ (y : Ins). T (not (is_call y))) (some_eq e) (h _)
callless_ins (long f) r n i h e = subst (λ (y : Ins). T (not (is_call y))) (some_eq e) (h _)
callless_ins (double f) r n i h e = subst (λ (y : Ins). T (not (is_call y))) (some_eq e) (h _)
callless_ins (near j) r n i h e = subst (λ (y : Ins). T (not (is_call y))) (some_eq e) (unfold is_call in tt)
callless_ins (far j) r n i h e = subst (λ (y : Ins). T (not (is_call y))) (some_eq e) (unfold is_call in tt)
callless_ins second r n i h e = none_some e

full_callless : (f g : Form) (r : List ℕ) → full_form f r ≡ some g → ((x : ℕ) → T (callless x f)) → (x : ℕ) → T (callless x g)
unfolding full_form
full_callless second g r e h x = form_callless x after_fE (after_fE_callless x) (little 1 r) g e
full_callless (bare i) g r e h x = subst (λ (y : Form). T (callless x y)) (some_eq e) (h x)
full_callless (short f) g r e h x = subst (λ (y : Form). T (callless x y)) (some_eq e) (h x)
full_callless (long f) g r e h x = subst (λ (y : Form). T (callless x y)) (some_eq e) (h x)
full_callless (double f) g r e h x = subst (λ (y : Form). T (callless x y)) (some_eq e) (h x)
full_callless (near j) g r e h x = subst (λ (y : Form). T (callless x y)) (some_eq e) (h x)
full_callless (far j) g r e h x = subst (λ (y : Form). T (callless x y)) (some_eq e) (h x)

-- what a decoded instruction's end says
pub record Advances (o : ℕ) (d : Decoded) : Type 0 where
  pub rises : o < d.next
  pub call : T (is_call d.ins) → d.next ≡ o + 5

five_or : (b : ℕ) (f : Form) (r : List ℕ) (g : Form) (n : ℕ) (i : Ins) → form_of instructions b ≡ some f → full_form f r ≡ some g → as_form g r n ≡ some i
    → T (is_call i)
    → (v : Bool) → eqb (length_of b) 5 ≡ v → length_of b ≡ 5
unfolding length_fits
five_or b f r g n i e1 e2 e3 t true q = eqb→eq (length_of b) 5 (rw q tt)
five_or b f r g n i e1 e2 e3 t false q =
    absurd (T_not (is_call i) (callless_ins g r n i (full_callless f g r e2 (λ x.
    or_e (eqb (length_of b) 5) (callless x f) (and_r (leb 1 (length_of b)) (eqb (length_of b) 5 || callless x f)
    (form_fits x instructions (instructions_fit x) b f e1))
    (λ s. absurd (rw q at s)) (λ s. s))) e3) t)

byte_advances : (b : ℕ) (r : List ℕ) (o : ℕ) (d : Decoded) → decode_byte b r o ≡ some d → Advances o d
unfolding decode_byte length_fits
byte_advances b r o d e =
    let (_, e0) = only_inv _ _ _ e in
    let (f, e1, e2) = then_inv _ _ _ e0 in
    let (g, e3, e4) = then_inv _ _ _ e2 in
    let (i, e5, e6) = map_inv _ _ _ e4 in
    let h : 1 ≤ length_of b = leb→le 1 (length_of b) (and_l (leb 1 (length_of b)) (eqb (length_of b) 5 || callless 0 f)
    (form_fits 0 instructions (instructions_fit 0) b f e1)) in
    subst (λ (x : Decoded). Advances o x) e6
    (record { rises = omega arith; call = λ t. ap (λ (n : ℕ). o + n) (five_or b f r g (o + length_of b) i e1 e3 e5 t (eqb (length_of b) 5) refl) })

at_advances : (l : List ℕ) (o : ℕ) (d : Decoded) → decode_at l o ≡ some d → Advances o d
unfolding decode_at
at_advances [] o d e = none_some e
at_advances (b ∷ r) o d e = byte_advances b r o d e

pub decode_advances : (code : List ℕ) (o : ℕ) (d : Decoded) → decode code o ≡ some d → Advances o d
unfolding decode
decode_advances code o d e = at_advances (drop o code) o d e
