-- The answers of the branches, by the tests that led to them, and what a branch does by its distance.
use Rattle.std.proofs.Common.{◌≡◌, ℕ, suc, ◌+◌, ◌-◌, ◌<◌, ◌≤◌, Bool, eqb, List, length, get_or, drop, sym, refl, ap, ◌∙◌, arith, le-ltb, lt-ltb}
use mathlib.Core.Option.{Option, none, some}
use Rattle.model.specs.Answer.{Answer, ok, ◌>>=◌, guard, need, pick, or_else, map_option}
use Rattle.model.specs.Loading.{little}
use Rattle.model.specs.Operators.{comparison}
use Rattle.model.specs.Code.{Relation, Jump, always, iftrue, iffalse, when, target, near, far, instructions, form_of, size_of}
use Rattle.state.specs.declared.Stay.{Stay}
use Rattle.state.specs.View.{Work, kind_by}
use Rattle.state.specs.Work.{Tables, Went, runs, kind_at, bits_at, shown_at, goto, test_w, when_w, jump_w, branch_w, act_w, acts_w}
use Rattle.state.specs.Meets.{Meets}
use Rattle.operators.specs.Gives.{compared}
use Rattle.in_frame.proofs.Answers.{stops, goes, none_there, all_there}
use Rattle.in_frame.proofs.Acting.{acts_cut, acts_near, acts_far}

module _ (y : Stay) (c : Work) (on_zero onOther : ℕ) where
  pub test_none : {o : ℕ} → c.regs.sp ≤ y.floor → Meets 43 o c c (test_w y c on_zero onOther)
  unfolding test_w guard ◌>>=◌
  test_none h = stops refl refl (simp (none_there y c 1 (omega arith)))

  module _ (one : y.floor < c.regs.sp) where
    pub test_real : {o : ℕ} → 3 ≤ kind_at c (c.regs.sp - 1) → Meets 45 o c c (test_w y c on_zero onOther)
    unfolding test_w guard ◌>>=◌
    test_real k = stops refl refl (simp (all_there y c 1 (omega arith), le-ltb _ _ k))

    pub test_goes : {o : ℕ} → kind_at c (c.regs.sp - 1) < 3 → {z : Bool} → eqb (shown_at c (c.regs.sp - 1)) 0 ≡ z
        → Meets 0 o (goto c (pick z on_zero onOther) (c.regs.sp - 1)) c (test_w y c on_zero onOther)
    unfolding test_w guard ◌>>=◌
    test_goes k q = goes (simp (all_there y c 1 (omega arith), lt-ltb _ _ k, q))

decided : (o : Option (ℕ → ℕ → Bool)) (a b : ℕ) (f : Bool → Answer ℕ Went)
    → (need o 45 >>= λ h. f (h a b)) ≡ (need (map_option (λ h. h a b) o) 45 >>= f)
unfolding need map_option ◌>>=◌
decided none a b f = refl
decided (some h) a b f = refl

module _ (y : Stay) (c : Work) (r : Relation) (target next : ℕ) where
  pub when_none : {o : ℕ} → c.regs.sp < y.floor + 2 → Meets 43 o c c (when_w y c r target next)
  unfolding when_w guard ◌>>=◌
  when_none h = stops refl refl (simp (none_there y c 2 h))

  abbrev both_say : Option Bool
  both_say = compared r (kind_at c (c.regs.sp - 2)) (kind_at c (c.regs.sp - 1)) (bits_at c (c.regs.sp - 2)) (bits_at c (c.regs.sp - 1))

  module _ (two : y.floor + 2 ≤ c.regs.sp) where
    when_says : when_w y c r target next ≡ (need both_say 45 >>= λ t. ok (runs (goto c (pick t target next) (c.regs.sp - 2))))
    unfolding when_w compared guard ◌>>=◌
    when_says =
        simp (all_there y c 2 two)
        (decided (comparison r (kind_by (kind_at c (c.regs.sp - 2))) (kind_by (kind_at c (c.regs.sp - 1)))) _ _
        (λ t. ok (runs (goto c (pick t target next) (c.regs.sp - 2)))))

    pub when_goes : {o : ℕ} {t : Bool} → some t ≡ both_say → Meets 0 o (goto c (pick t target next) (c.regs.sp - 2)) c (when_w y c r target next)
    unfolding need ◌>>=◌
    when_goes q = goes (when_says ∙ rw (← q))

    pub when_wrong : {o : ℕ} → none ≡ both_say → Meets 45 o c c (when_w y c r target next)
    unfolding need ◌>>=◌
    when_wrong q = stops refl refl (when_says ∙ rw (← q))

module _ (len : ℕ) (y : Stay) (c : Work) (target next : ℕ) where
  pub branch_out : {o : ℕ} (j : Jump) → len ≤ target → Meets 42 o c c (branch_w len y c j (some target) next)
  unfolding branch_w need guard ◌>>=◌
  branch_out j h = stops refl refl (simp (le-ltb _ _ h))

  module _ (j : Jump) (h : target < len) where
    branch_jumps : branch_w len y c j (some target) next ≡ jump_w y c j target next
    unfolding branch_w need guard ◌>>=◌
    branch_jumps = simp (lt-ltb _ _ h)

    pub branch_always : {o : ℕ} → j ≡ always → Meets 0 o (goto c target c.regs.sp) c (branch_w len y c j (some target) next)
    unfolding jump_w
    branch_always e = goes (branch_jumps ∙ rw e)

    pub branch_true : j ≡ iftrue → branch_w len y c j (some target) next ≡ test_w y c next target
    unfolding jump_w
    branch_true e = branch_jumps ∙ rw e

    pub branch_false : j ≡ iffalse → branch_w len y c j (some target) next ≡ test_w y c target next
    unfolding jump_w
    branch_false e = branch_jumps ∙ rw e

    pub branch_when : {r : Relation} → j ≡ when r → branch_w len y c j (some target) next ≡ when_w y c r target next
    unfolding jump_w
    branch_when e = branch_jumps ∙ rw e

-- ---- By the distance

-- a place past the code stands for one before it
outside : (len : ℕ) (y : Stay) (c : Work) (j : Jump) (t : Option ℕ) (next past : ℕ) → len ≤ past
    → branch_w len y c j t next ≡ branch_w len y c j (some (or_else t past)) next
unfolding branch_w need guard ◌>>=◌ or_else
outside len y c j (some o) next past h = refl
outside len y c j none next past h = simp (le-ltb _ _ h)

module _ (P : Tables) (part : List ℕ) (y : Stay) (c : Work) (j : Jump) (inside : c.regs.at < length part) (most : length part ≤ 1024) {k : ℕ}
    (byte : get_or part c.regs.at 0 ≡ k) (few : k < 256) where
  module _ (e : form_of instructions k ≡ some (near j)) where
    pub near_cut : {o : ℕ} → length part < c.regs.at + 2 → Meets 41 o c c (acts_w P part y c)
    unfolding size_of
    near_cut h = acts_cut P part y c inside byte few (near j) e h

    pub near_goes : {d t : ℕ} → c.regs.at + 2 ≤ length part → d < 0x100 → d ≡ little 1 (drop (suc c.regs.at) part)
        → t ≡ or_else (target 0x100 (c.regs.at + 2) d) (c.regs.at + 2 + d + 0x10000000000000000 - 0x100)
        → acts_w P part y c ≡ branch_w (length part) y c j (some t) (c.regs.at + 2)
    unfolding act_w
    near_goes {d} h f p q =
        acts_near P part y c inside byte few j e h
        ∙ ap (λ (n : ℕ). branch_w (length part) y c j (target 0x100 (c.regs.at + 2) n) (c.regs.at + 2)) (sym p)
        ∙ outside (length part) y c j (target 0x100 (c.regs.at + 2) d) (c.regs.at + 2) (c.regs.at + 2 + d + 0x10000000000000000 - 0x100) (omega arith)
        ∙ ap (λ (n : ℕ). branch_w (length part) y c j (some n) (c.regs.at + 2)) (sym q)

  module _ (e : form_of instructions k ≡ some (far j)) where
    pub far_cut : {o : ℕ} → length part < c.regs.at + 5 → Meets 41 o c c (acts_w P part y c)
    unfolding size_of
    far_cut h = acts_cut P part y c inside byte few (far j) e h

    pub far_goes : {d t : ℕ} → c.regs.at + 5 ≤ length part → d ≡ little 4 (drop (suc c.regs.at) part)
        → t ≡ or_else (target 0x100000000 (c.regs.at + 5) d) (c.regs.at + 5 + d + 0x10000000000000000 - 0x100000000)
        → acts_w P part y c ≡ branch_w (length part) y c j (some t) (c.regs.at + 5)
    unfolding act_w
    far_goes {d} h p q =
        acts_far P part y c inside byte few j e h
        ∙ ap (λ (n : ℕ). branch_w (length part) y c j (target 0x100000000 (c.regs.at + 5) n) (c.regs.at + 5)) (sym p)
        ∙ outside (length part) y c j (target 0x100000000 (c.regs.at + 5) d) (c.regs.at + 5)
        (c.regs.at + 5 + d + 0x10000000000000000 - 0x100000000) (omega arith)
        ∙ ap (λ (n : ℕ). branch_w (length part) y c j (some n) (c.regs.at + 5)) (sym q)
