-- The passes over a method, turn by turn.
use Prim.Native.Nat.{ℕ, zero, suc, ◌+◌, ◌-◌, ◌≤◌, ◌<◌}
use mathlib.Core.Path.{◌≡◌, refl, sym, ap, ◌∙◌, subst}
use mathlib.Core.Bool.{Bool, true, false, ◌||◌}
use mathlib.Core.Option.{Option, none, some}
use mathlib.Core.List.{List, [], ◌∷◌, ◌++◌}
use native.Mathlib.Omega.{arith}
use borrow.Author.Tests.{lt-ltb, le-ltb, eq-eqb, eqb-true, eqb-false}
use lib.Dec.{ltb, eqb}
use lib.ListN.{length, get_or, set, length-set, length-replicate}
use lib.Seq.{get_or-set_same, get_or-set_other}
use Rattle.model.specs.Answer.{Answer, bad, ok, ◌>>=◌, is_none}
use Rattle.model.specs.Tables.{Method, Module}
use Rattle.model.specs.Loading.{Refusal, refusal}
use Rattle.model.specs.Code.{Ins, Act, Decoded, decode}
use Rattle.model.specs.Check.{Shapes, Site, starts, find_operands, visit, visits, decode_from, check_method}
use Rattle.code.specs.declared.insn.Insn.{Insn}
use Rattle.code.specs.Insn.{ins_of, size_at}
use Rattle.code.proofs.Sizes.{Decodes, a_size}
use Rattle.std.specs.Prelude.{Result, Ok, Err, ⊤}
use Rattle.shapes.specs.declared.shape.Pool.{Pool}
use Rattle.shapes.specs.Pool.{Fine}
use Rattle.shapes.specs.declared.fault.FaultKind.{FaultKind}
use Rattle.shapes.specs.declared.fault.FaultKind.TheVariants.{Undecodable, Operand}
use Rattle.shapes.specs.Faults.{number}
use Rattle.passes.specs.declared.pass.FaultAt.{FaultAt}
use Rattle.visits.specs.Found.{Stands, Kept, Starts, Went, WentBy}
use Rattle.passes.specs.Fused.{onward, Tells, Late, Sizes, Scanned, Rest, Reading, Passing, nothing}
use Rattle.visits.specs.Visits.{act_of, Visits}
use Rattle.passes.proofs.Passes.{site, onto, decode_more, decode_stop, decode_end, onto_onto, next_of, never_stops, starts_snoc, finds_none}
use Rattle.passes.proofs.Passes.{finds_some, pass_operand, pass_on, pass_fault}

-- ---- What is found at first

found_none : (n o : ℕ) → get_or (nothing n) o none ≡ none
unfolding nothing
found_none zero o = refl
found_none (suc n) zero = refl
found_none (suc n) (suc o) = found_none n o

pub nothing_kept : (P : Pool) (n : ℕ) (l : List ℕ) → length l ≡ 1024 → ((o : ℕ) → o < n → get_or l o 0 ≡ 0) → Kept P n (nothing n) l
unfolding Stands nothing
nothing_kept P n l e z = record { size = length-replicate n none; array = e; at = λ o h. rw (found_none n o) (z o h) }

-- ---- What is left

or_true : (a : Bool) → (a || true) ≡ true
or_true true = refl
or_true false = refl

or_none : (a : Bool) → (a || false) ≡ a
or_none true = refl
or_none false = refl

one_less : (n at k : ℕ) → n ≤ at + k → at < n → k ≡ suc (k - 1)
one_less n at k e h = omega arith

nil_left : (k : ℕ) (code : List ℕ) (at : ℕ) (l : List (Site Ins)) → decode_from k code at ≡ ok [] → decode_from k code at ≡ ok l → l ≡ []
nil_left k code at l e q = let z : ok l ≡ ok [] = sym q ∙ e in cc

-- what is left begins with an instruction
pub record Follows (code : List ℕ) (at : ℕ) (d : Decoded) (left : List (Site Ins)) : Type 0 where
  pub more : List (Site Ins)
  pub is : left ≡ site at d ∷ more
  pub rest : Rest code d.next more

module _ (code : List ℕ) (at : ℕ) (left : List (Site Ins)) (r : Rest code at left) where
  rest_end : length code ≤ at → left ≡ []
  rest_end h = nil_left r.fuel code at left (decode_end r.fuel code at h) r.is

  module _ (k : at < length code) where
    unspent : decode_from (suc (r.fuel - 1)) code at ≡ ok left
    unspent = subst (λ (j : ℕ). decode_from j code at ≡ ok left) (one_less (length code) at r.fuel r.enough k) r.is

    rest_starts : starts left at ≡ true
    unfolding starts site
    rest_starts = by (decode code at) refl
      where
        by : (D : Option Decoded) → decode code at ≡ D → starts left at ≡ true
        by none e = absurd (never_stops (r.fuel - 1) code at left k e unspent)
        by (some d) e = rw ((next_of (r.fuel - 1) code at d left k e unspent).is, eq-eqb at at refl) refl

    follows : (d : Decoded) → decode code at ≡ some d → at < d.next → Follows code at d left
    follows d e w =
        let n = next_of (r.fuel - 1) code at d left k e unspent in
        let z : length code ≤ at + r.fuel = r.enough in
        record { more = n.rest; is = n.is; rest = record { fuel = r.fuel - 1; enough = omega arith; is = n.left } }

-- the length that the array has
module _ (code l : List ℕ) (at : ℕ) (s : Reading code l at) (k : at < length code) (n : ℕ) (e : n ≡ get_or l at 0) where
  kept_size : (get_or l at 0 ≡ size_at code at) × (0 < get_or l at 0)
  kept_size = s.sizes at k (rest_starts code at s.left s.rest k)

  pub reading_size : n ≡ size_at code at
  reading_size = e ∙ kept_size.0

  pub reading_some : 0 < n
  reading_some = rw e kept_size.1

  pub reading_on : (next : ℕ) → next ≡ at + n → at < next
  reading_on next q = omega (arith, reading_some)

pub reading_next : (code l : List ℕ) (at : ℕ) (d : Decoded) → Reading code l at → at < length code → decode code at ≡ some d → at < d.next
    → Reading code l d.next
unfolding starts
reading_next code l at d s k e w =
    let n = follows code at s.left s.rest k d e w in
    record { left = n.more; rest = n.rest; sizes = λ o h q. s.sizes o h (rw (n.is, q) (or_true (eqb (site at d).offset o))) }

-- ---- Decoding

pub record Scanning (code l : List ℕ) (at : ℕ) : Type 0 where
  pub read : List (Site Ins)
  pub fuel : ℕ
  pub enough : length code ≤ at + fuel
  pub is : decode_from (length code) code 0 ≡ onto read (decode_from fuel code at)
  pub marks : Starts read (length code) l
  pub sizes : Sizes code read l
  pub size : length l ≡ 1024

onto_none : (A : Answer Refusal (List (Site Ins))) → A ≡ onto [] A
unfolding onto
onto_none (bad f) = refl
onto_none (ok l) = refl

pub scanning_start : (code l : List ℕ) → length l ≡ 1024 → ((o : ℕ) → o < length code → get_or l o 0 ≡ 0) → Scanning code l 0
unfolding starts
scanning_start code l e z = record {
  read = [];
  fuel = length code;
  enough = omega arith;
  is = onto_none (decode_from (length code) code 0);
  marks = λ o h. le-ltb 0 (get_or l o 0) (omega (arith, z o h));
  sizes = λ o h q. let y : ◌≡◌ {A = ℕ} 0 1 = cc in absurd (omega arith);
  size = e;
}

module _ (code l : List ℕ) (at v : ℕ) (k : at < length code) (b : length code ≤ 1024) (e : v ≡ size_at code at) (h : 0 < v) (s : Scanning code l at) where
  here : Decodes code at
  here = a_size code at (rw (← e) h)

  set_here : get_or (set l at v) at 0 ≡ v
  set_here = get_or-set_same l at v 0 (rw s.size (omega arith))

  set_there : (o : ℕ) → eqb at o ≡ false → get_or (set l at v) o 0 ≡ get_or l o 0
  set_there o q = get_or-set_other l at o v 0 (λ z. eqb-false at o q (sym z))

  marked : (o : ℕ) → o < length code → (c : Bool) → eqb at o ≡ c → ltb 0 (get_or (set l at v) o 0) ≡ (starts s.read o || c)
  marked o i true q =
      let z : at ≡ o = eqb-true at o q in
      rw (← z, set_here, or_true (starts s.read at)) (lt-ltb 0 v h)
  marked o i false q = rw (or_none (starts s.read o), set_there o q) (s.marks o i)

  sized : (o : ℕ) → o < length code → (c : Bool) → eqb at o ≡ c → (starts s.read o || c) ≡ true
      → (get_or (set l at v) o 0 ≡ size_at code o) × (0 < get_or (set l at v) o 0)
  sized o i true q t = let z : at ≡ o = eqb-true at o q in rw (← z, set_here) (e, h)
  sized o i false q t = rw (set_there o q) (s.sizes o i (sym (or_none (starts s.read o)) ∙ t))

  pub scanning_next : Scanning code (set l at v) (at + v)
  unfolding site
  scanning_next =
      let z : length code ≤ at + s.fuel = s.enough in
      record {
        read = s.read ++ (site at here.found ∷ []);
        fuel = s.fuel - 1;
        enough = omega arith;
        is =
            s.is ∙ (ap (onto s.read) (ap (λ (f : ℕ). decode_from f code at) (one_less (length code) at s.fuel s.enough k) ∙ decode_more
            (s.fuel - 1) code at here.found k here.is)
            ∙ (onto_onto s.read (site at here.found) (decode_from (s.fuel - 1) code here.found.next)
            ∙ ap (λ (o : ℕ). onto (s.read ++ (site at here.found ∷ [])) (decode_from (s.fuel - 1) code o))
            (here.next ∙ ap (λ (n : ℕ). at + n) (sym e))));
        marks = λ o i. rw (starts_snoc s.read (site at here.found) o) (marked o i (eqb at o) refl);
        sizes = λ o i t. sized o i (eqb at o) refl (sym (starts_snoc s.read (site at here.found) o) ∙ t);
        size = length-set l at v ∙ s.size;
      }

append_none : (l : List (Site Ins)) → l ++ [] ≡ l
append_none [] = refl
append_none (x ∷ l) = ap (λ (r : List (Site Ins)). x ∷ r) (append_none l)

pub scanning_end : (code l : List ℕ) (at : ℕ) → Scanning code l at → length code ≤ at → Scanned code (Ok tt) l (decode_from (length code) code 0)
unfolding Scanned onto
scanning_end code l at s h = rw (s.is, decode_end s.fuel code at h, append_none s.read) (refl, s.marks, s.sizes)

pub scanning_stop : (code l : List ℕ) (at : ℕ) → Scanning code l at → at < length code → decode code at ≡ none
    → Scanned code (Err (record { kind = Undecodable; offset = at })) l (decode_from (length code) code 0)
unfolding Scanned onto
scanning_stop code l at s k e =
    rw (s.is, one_less (length code) at s.fuel s.enough k, decode_stop (s.fuel - 1) code at k e) (record { kind = Undecodable; offset = at }, refl, refl)

-- ---- Operand faults after a shape's

pub record Searching (M : Module) (m : Method) (all l : List (Site Ins)) (code : List ℕ) (at : ℕ) : Type 0 where
  pub left : List (Site Ins)
  pub rest : Rest code at left
  pub back : (x was : FaultAt) → Late x was (find_operands M m all left) → Late x was (find_operands M m all l)

pub searching_start : (M : Module) (m : Method) (all l : List (Site Ins)) (code : List ℕ) (at : ℕ) → Rest code at l → Searching M m all l code at
searching_start M m all l code at r = record { left = l; rest = r; back = λ x was h. h }

late_nil : (M : Module) (m : Method) (all l : List (Site Ins)) (x : FaultAt) → l ≡ [] → Late x x (find_operands M m all l)
unfolding Late find_operands
late_nil M m all l x e = rw e refl

module _ (M : Module) (m : Method) (all l : List (Site Ins)) (code : List ℕ) (at : ℕ) (s : Searching M m all l code at) where
  pub searching_end : (x : FaultAt) → length code ≤ at → Late x x (find_operands M m all l)
  searching_end x h = s.back x x (late_nil M m all s.left x (rest_end code at s.left s.rest h))

  module _ (k : at < length code) (i : Insn) (e : decode code at ≡ some (record { ins = ins_of i; next = i.next })) (w : at < i.next) where
    the_next : Follows code at (record { ins = ins_of i; next = i.next }) s.left
    the_next = follows code at s.left s.rest k (record { ins = ins_of i; next = i.next }) e w

    pub searching_fault : (was : FaultAt) → true ≡ is_none (act_of M m all (ins_of i))
        → Late (record { kind = Operand; offset = at }) was (find_operands M m all l)
    unfolding Late site is_none
    searching_fault was q =
        s.back (record { kind = Operand; offset = at }) was
        (rw (
          the_next.is,
          finds_none M m all (site at (record { ins = ins_of i; next = i.next })) the_next.more
              (is_none_lem (act_of M m all (ins_of i)) (sym q)),
        ) (refl, refl))
      where
        is_none_lem : (o : Option Act) → is_none o ≡ true → o ≡ none
        is_none_lem none e = refl
        is_none_lem (some a) e = let z : ◌≡◌ {A = ℕ} 0 1 = cc in absurd (omega arith)

    pub searching_next : false ≡ is_none (act_of M m all (ins_of i)) → Searching M m all l code i.next
    unfolding Late site is_none ◌>>=◌
    searching_next q = go (act_of M m all (ins_of i)) refl (sym q)
      where
        d : Decoded
        d = record { ins = ins_of i; next = i.next }

        after : (A : Answer Refusal (List (Site Act))) (x was : FaultAt) (c : Site Act) → Late x was A → Late x was (A >>= λ j. ok (c ∷ j))
        after (bad f) x was c h = h
        after (ok j) x was c h = h

        go : (o : Option Act) → act_of M m all (ins_of i) ≡ o → is_none o ≡ false → Searching M m all l code i.next
        go none p r = let z : ◌≡◌ {A = ℕ} 0 1 = cc in absurd (omega arith)
        go (some c) p r =
            record {
              left = the_next.more;
              rest = the_next.rest;
              back = λ x was w. s.back x was (rw (the_next.is, finds_some M m all (site at d) the_next.more c p)
                  (after (find_operands M m all the_next.more) x was (record { offset = at; what = c; next = i.next }) w));
            }

-- ---- Operands and shapes

pub record Going (M : Module) (m : Method) (all : List (Site Ins)) (code : List ℕ) (P : Pool) (found : List ℕ) (at : ℕ) : Type 0 where
  pub shapes : Shapes
  pub left : List (Site Ins)
  pub fine : Fine P
  pub kept : Kept P (length code) shapes found
  pub rest : Rest code at left
  pub same : onward M m all all (nothing (length code)) ≡ onward M m all left shapes

pub going_start : (M : Module) (m : Method) (all : List (Site Ins)) (code : List ℕ) (P : Pool) (found : List ℕ) → decode_from (length code) code 0 ≡ ok all
    → Fine P → Kept P (length code) (nothing (length code)) found → Going M m all code P found 0
going_start M m all code P found e f k =
    record { shapes = nothing (length code); left = all; fine = f; kept = k; rest = record { fuel = length code; enough = omega arith; is = e }; same = refl }

pub record WentTo {A : Type 0} (P : Pool) (n : ℕ) (l : List ℕ) (f : A → Answer ℕ Shapes) (o : Option A) : Type 0 where
  pub what : A
  pub shapes : Shapes
  pub is : o ≡ some what
  pub answer : f what ≡ ok shapes
  pub kept : Kept P n shapes l

went_ok : {A : Type 0} (P : Pool) (n : ℕ) (r : Result ⊤ FaultKind) (l : List ℕ) (f : A → Answer ℕ Shapes) (o : Option A) → WentBy P n r l f o → r ≡ Ok tt
    → WentTo P n l f o
unfolding WentBy Went
went_ok P n r l f none h e = let z : r ≡ Err Operand = h in absurd (cc)
went_ok P n r l f (some a) h e = go (f a) refl h
  where
    go : (B : Answer ℕ Shapes) → f a ≡ B → Went P n r l B → WentTo P n l f (some a)
    go (bad k) q h = let z : r ≡ Err h.0 = h.1 in absurd (cc)
    go (ok F) q h = record { what = a; shapes = F; is = refl; answer = q; kept = h.1 }

went_operand : {A : Type 0} (P : Pool) (n : ℕ) (r : Result ⊤ FaultKind) (l : List ℕ) (f : A → Answer ℕ Shapes) (o : Option A) → WentBy P n r l f o
    → r ≡ Err Operand → o ≡ none
unfolding WentBy Went
went_operand P n r l f none h e = refl
went_operand P n r l f (some a) h e = absurd (go (f a) h)
  where
    go : (B : Answer ℕ Shapes) → Went P n r l B → ⊥
    go (bad k) h =
        let z : r ≡ Err h.0 = h.1 in
        let q : h.0 ≡ Operand = cc in
        let x : number h.0 ≡ 12 = ap number q in
        let y : number h.0 ≡ k = h.2 in
        let w : 12 < k = h.3 in
        omega arith
    go (ok F) h = let z : r ≡ Ok tt = h.0 in absurd (cc)

pub record Failed {A : Type 0} (k : ℕ) (f : A → Answer ℕ Shapes) (o : Option A) : Type 0 where
  pub what : A
  pub is : o ≡ some what
  pub answer : f what ≡ bad k

went_fault : {A : Type 0} (P : Pool) (n : ℕ) (r : Result ⊤ FaultKind) (kind : FaultKind) (l : List ℕ) (f : A → Answer ℕ Shapes) (o : Option A)
    → WentBy P n r l f o → r ≡ Err kind → (kind ≡ Operand → ⊥) → Failed (number kind) f o
unfolding WentBy Went
went_fault P n r kind l f none h e g = let z : r ≡ Err Operand = h in absurd (g (cc))
went_fault P n r kind l f (some a) h e g = go (f a) refl h
  where
    go : (B : Answer ℕ Shapes) → f a ≡ B → Went P n r l B → Failed (number kind) f (some a)
    go (bad k) q h =
        let z : r ≡ Err h.0 = h.1 in
        let y : h.0 ≡ kind = cc in
        record { what = a; is = refl; answer = q ∙ ap bad (sym h.2 ∙ ap number y) }
    go (ok F) q h = let z : r ≡ Ok tt = h.0 in absurd (cc)

module _ (M : Module) (m : Method) (all : List (Site Ins)) (code : List ℕ) (P : Pool) (found : List ℕ) (at : ℕ) (s : Going M m all code P found at) where
  ended : (l : List (Site Ins)) → l ≡ [] → onward M m all l s.shapes ≡ ok s.shapes
  unfolding onward find_operands visits ◌>>=◌
  ended l e = rw e refl

  pub going_end : length code ≤ at
      → Tells (Ok tt) (onward M m all all (nothing (length code))) × Passing (onward M m all all (nothing (length code))) (length code) found P
  unfolding Tells
  going_end h =
      let e = s.same ∙ ended s.left (rest_end code at s.left s.rest h) in
      (rw e refl, record { shapes = s.shapes; is = e; fine = s.fine; kept = s.kept })

  module _ (k : at < length code) (i : Insn) (e : decode code at ≡ some (record { ins = ins_of i; next = i.next })) (x : at < i.next)
      (Q : Pool) (l : List ℕ) (r : Result ⊤ FaultKind) (v : Visits M m all s.shapes at i (length code) r l Q) where
    pub after : Follows code at (record { ins = ins_of i; next = i.next }) s.left
    after = follows code at s.left s.rest k (record { ins = ins_of i; next = i.next }) e x

    told : WentBy Q (length code) r l (λ a. visit M m s.shapes (record { offset = at; what = a; next = i.next })) (act_of M m all (ins_of i)) × Fine Q
    unfolding Visits
    told = v

    pub going_operand : (kind : FaultKind) → r ≡ Err kind → kind ≡ Operand
        → Tells (Err (record { kind = kind; offset = at })) (onward M m all all (nothing (length code)))
    unfolding Tells site
    going_operand kind u q =
        rw (
          s.same,
          after.is,
          pass_operand M m all (site at (record { ins = ins_of i; next = i.next })) after.more s.shapes
              (went_operand Q (length code) r l (λ a. visit M m s.shapes (record { offset = at; what = a; next = i.next })) (act_of M m all (ins_of i))
              told.0 (u ∙ ap Err q)),
        )
        (record { kind = kind; offset = at }, refl, ap (λ (e : FaultKind). refusal (number e) at) q)

    pub going_next : r ≡ Ok tt → Going M m all code Q l i.next
    unfolding site
    going_next q =
        let w = went_ok Q (length code) r l (λ a. visit M m s.shapes (record { offset = at; what = a; next = i.next })) (act_of M m all (ins_of i))
        told.0 q in
        record {
          shapes = w.shapes;
          left = after.more;
          fine = told.1;
          kept = w.kept;
          rest = after.rest;
          same = s.same ∙ (ap (λ (y : List (Site Ins)). onward M m all y s.shapes) after.is ∙ pass_on M m all
              (site at (record { ins = ins_of i; next = i.next })) after.more s.shapes w.shapes w.what w.is w.answer);
        }

    -- a fault of a shape, unless an operand fault follows
    pub going_fault : (kind : FaultKind) (f : FaultAt) → r ≡ Err kind → (kind ≡ Operand → ⊥)
        → Late f (record { kind = kind; offset = at }) (find_operands M m all after.more) → Tells (Err f) (onward M m all all (nothing (length code)))
    unfolding Tells Late site ◌>>=◌
    going_fault kind f u y w =
        let g = went_fault Q (length code) r kind l (λ a. visit M m s.shapes (record { offset = at; what = a; next = i.next }))
        (act_of M m all (ins_of i)) told.0 u y in
        rw (
          s.same,
          after.is,
          pass_fault M m all (site at (record { ins = ins_of i; next = i.next })) after.more s.shapes g.what (number kind) g.is
              g.answer,
        ) (by (find_operands M m all after.more) w)
      where
        by : (A : Answer Refusal (List (Site Act))) → Late f (record { kind = kind; offset = at }) A
            → Tells (Err f) (A >>= λ _. bad (refusal (number kind) at))
        by (bad g) v = (f, refl, v.0)
        by (ok j) v = (f, refl, rw v refl)

-- ---- A method

method_is : (M : Module) (m : Method) (code : List ℕ) → m.code ≡ code
    → check_method M m ≡ (decode_from (length code) code 0 >>= λ l. onward M m l l (nothing (length code)))
unfolding check_method onward nothing
method_is M m code e = rw (← e) refl

pub method_undecoded : (M : Module) (m : Method) (code l : List ℕ) (x : FaultAt) → m.code ≡ code
    → Scanned code (Err x) l (decode_from (length code) code 0) → Tells (Err x) (check_method M m)
unfolding Tells ◌>>=◌ Scanned
method_undecoded M m code l x e s = rw (method_is M m code e) (by (decode_from (length code) code 0) s)
  where
    by : (A : Answer Refusal (List (Site Ins))) → Scanned code (Err x) l A → Tells (Err x) (A >>= λ l. onward M m l l (nothing (length code)))
    by (bad f) s = s
    by (ok all) s = let z : ◌≡◌ {A = Result ⊤ FaultAt} (Err x) (Ok tt) = s.0 in absurd (cc)

pub record Decoding (code l : List ℕ) : Type 0 where
  pub sites : List (Site Ins)
  pub is : decode_from (length code) code 0 ≡ ok sites
  pub marks : Starts sites (length code) l
  pub sizes : Sizes code sites l

pub method_decoded : (code l : List ℕ) → Scanned code (Ok tt) l (decode_from (length code) code 0) → Decoding code l
unfolding Scanned
method_decoded code l s = by (decode_from (length code) code 0) refl s
  where
    by : (A : Answer Refusal (List (Site Ins))) → decode_from (length code) code 0 ≡ A → Scanned code (Ok tt) l A → Decoding code l
    by (bad f) e s = let z : ◌≡◌ {A = Result ⊤ FaultAt} (Ok tt) (Err s.0) = s.1 in absurd (cc)
    by (ok all) e s = record { sites = all; is = e; marks = s.1; sizes = s.2 }

pub decoding_read : (code l : List ℕ) → Decoding code l → Reading code l 0
decoding_read code l d = record { left = d.sites; rest = record { fuel = length code; enough = omega arith; is = d.is }; sizes = d.sizes }

module _ (M : Module) (m : Method) (code : List ℕ) (all : List (Site Ins)) (e : m.code ≡ code) (d : decode_from (length code) code 0 ≡ ok all) where
  method_decodes : check_method M m ≡ onward M m all all (nothing (length code))
  unfolding ◌>>=◌
  method_decodes = method_is M m code e ∙ rw d refl

  pub method_told : (r : Result ⊤ FaultAt) → Tells r (onward M m all all (nothing (length code))) → Tells r (check_method M m)
  method_told r t = rw method_decodes t

  pub method_passes : (n : ℕ) (found : List ℕ) (P : Pool) → Passing (onward M m all all (nothing (length code))) n found P → Passing (check_method M m) n found P
  method_passes n found P p = rw method_decodes p
