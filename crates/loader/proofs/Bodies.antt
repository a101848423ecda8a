-- Which record a kind's bytes are.
use mathlib.Core.Path.{◌≡◌, sym, ap, ◌∙◌, subst}
use Prim.Native.Nat.{ℕ, ◌+◌, ◌≤◌}
use mathlib.Core.List.{List}
use native.Mathlib.Omega.{arith}
use lib.ListN.{get_or, drop}
use lib.Seq.{get_or-drop, drop-drop}
use Rattle.model.specs.Answer.{Answer, pick, only_if, or_else}
use Rattle.model.specs.Loading.{Loading, little, body_bytes, class_record, field_record, method_record, param_record, local_record, entry_record, one_record}
use Rattle.loader.specs.declared.method.Body.{Body}
use Rattle.loader.specs.Body.{body_of}
use Rattle.std.specs.Prelude.{Result, ⊤}
use Rattle.loader.specs.declared.refusal.Refusal.{Refusal}
use Rattle.loader.specs.declared.kind.Kind.{Kind}
use Rattle.loader.specs.declared.kind.Kind.TheVariants.{Class, Field, Method, Parameter, Local, Entry}
use Rattle.loader.specs.Kinds.{kind_byte}
use Rattle.loader.specs.Goes.{Goes}

pub same_record : {A : Type 0} (m k : Answer ℕ A) → m ≡ k → (r : Result ⊤ Refusal) (P : A → Type 0) → Goes k r P → Goes m r P
same_record m k e r P h = subst (λ (x : Answer ℕ _). Goes x r P) (sym e) h

-- ---- Sizes

pub one_byte : (k : Kind) → 1 ≤ or_else (body_bytes (kind_byte k)) 0
unfolding body_bytes or_else pick only_if
one_byte Class = omega arith
one_byte Field = omega arith
one_byte Method = omega arith
one_byte Parameter = omega arith
one_byte Local = omega arith
one_byte Entry = omega arith

pub three_bytes : (k : Kind) → k ≡ Field → or_else (body_bytes (kind_byte k)) 0 ≡ 3
unfolding body_bytes or_else pick
three_bytes k e = ap (λ (i : Kind). or_else (body_bytes (kind_byte i)) 0) e

pub eleven_bytes : (k : Kind) → k ≡ Method → or_else (body_bytes (kind_byte k)) 0 ≡ 11
unfolding body_bytes or_else pick
eleven_bytes k e = ap (λ (i : Kind). or_else (body_bytes (kind_byte i)) 0) e

-- ---- Bodies

module _ (t : List ℕ) (at : ℕ) where
  body_at : (j i : ℕ) → at + 1 + j ≡ i → get_or (drop 1 (drop at t)) j 0 ≡ get_or t i 0
  body_at j i e = ap (λ (l : List ℕ). get_or l j 0) (drop-drop 1 at t) ∙ get_or-drop (at + 1) t j 0 ∙ ap (λ (x : ℕ). get_or t x 0) e

  body_from : (j i : ℕ) → at + 1 + j ≡ i → drop j (drop 1 (drop at t)) ≡ drop i t
  body_from j i e = ap (drop j) (drop-drop 1 at t) ∙ drop-drop j (at + 1) t ∙ ap (λ (x : ℕ). drop x t) e

module _ (code : List ℕ) (L : Loading) (t : List ℕ) (at k : ℕ) where
  first_byte : get_or (drop 1 (drop at t)) 0 0 ≡ get_or t (at + 1) 0
  first_byte = body_at t at 0 (at + 1) (omega arith)

  pub one_class : k ≡ 1 → one_record code L at k (drop 1 (drop at t)) ≡ class_record L (get_or t (at + 1) 0)
  unfolding one_record pick
  one_class e = ap (λ (x : ℕ). one_record code L at x (drop 1 (drop at t))) e ∙ ap (class_record L) first_byte

  pub one_field : k ≡ 2 → one_record code L at k (drop 1 (drop at t)) ≡ field_record L (get_or t (at + 1) 0) (get_or t (at + 2) 0) (get_or t (at + 3) 0)
  unfolding one_record pick
  one_field e =
      let a = body_at t at 1 (at + 2) (omega arith) in
      let b = body_at t at 2 (at + 3) (omega arith) in
      ap (λ (x : ℕ). one_record code L at x (drop 1 (drop at t))) e ∙ (λ i. field_record L (first_byte i) (a i) (b i))

  pub one_method : k ≡ 3 → (b : Body) → b ≡ body_of t at → one_record code L at k (drop 1 (drop at t)) ≡ method_record code L at b.owner b.sort b.returns b.stack b.overridden b.offset b.size
  unfolding one_record pick body_of
  one_method e b q =
      let b1 = body_at t at 1 (at + 2) (omega arith) in
      let b2 = body_at t at 2 (at + 3) (omega arith) in
      let b3 = body_at t at 3 (at + 4) (omega arith) in
      let b4 = body_at t at 4 (at + 5) (omega arith) in
      let b5 = body_from t at 5 (at + 6) (omega arith) in
      let b9 = body_from t at 9 (at + 10) (omega arith) in
      ap (λ (x : ℕ). one_record code L at x (drop 1 (drop at t))) e
      ∙ (λ i. method_record code L at (first_byte i) (b1 i) (b2 i) (b3 i) (b4 i) (little 4 (b5 i)) (little 2 (b9 i)))
      ∙ ap (λ (x : Body). method_record code L at x.owner x.sort x.returns x.stack x.overridden x.offset x.size) (sym q)

  pub one_param : k ≡ 4 → one_record code L at k (drop 1 (drop at t)) ≡ param_record L (get_or t (at + 1) 0)
  unfolding one_record pick
  one_param e = ap (λ (x : ℕ). one_record code L at x (drop 1 (drop at t))) e ∙ ap (param_record L) first_byte

  pub one_local : k ≡ 5 → one_record code L at k (drop 1 (drop at t)) ≡ local_record L (get_or t (at + 1) 0)
  unfolding one_record pick
  one_local e = ap (λ (x : ℕ). one_record code L at x (drop 1 (drop at t))) e ∙ ap (local_record L) first_byte

  pub one_entry : k ≡ 6 → one_record code L at k (drop 1 (drop at t)) ≡ entry_record L (get_or t (at + 1) 0)
  unfolding one_record pick
  one_entry e = ap (λ (x : ℕ). one_record code L at x (drop 1 (drop at t))) e ∙ ap (entry_record L) first_byte
