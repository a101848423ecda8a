-- A step and a run on the arrays are the model's through the view, for every budget.
use Prim.Native.Nat.{ℕ, zero, suc, ◌<◌}
use mathlib.Core.Path.{◌≡◌, refl, sym, ◌∙◌}
use mathlib.Core.Option.{Option, none, some}
use mathlib.Core.List.{List}
use native.Mathlib.Omega.{arith}
use lib.ListN.{length}
use borrow.Author.Tests.{ltb-true}
use Rattle.model.specs.Answer.{Answer, bad, ok, ◌>>=◌, need, row, or_else}
use Rattle.model.specs.Tables.{int32, Method, Module, no_method, method_at}
use Rattle.model.specs.Code.{Plain, nop, pop, dup, ret, ldc, binary, unary, Ins, plain, ldarg, starg, ldloc, stloc, jump, call, callvirt, newobj, castclass, isinst, ldfld, stfld, ldsfld, stsfld, decode, operands}
use Rattle.model.specs.State.{value, bits_in, Machine}
use Rattle.model.specs.Step.{Outcome, goes, ends, lowest_free, do_plain, act, step}
use Rattle.model.specs.Run.{Ended, halted, finished, after, steps}
use Rattle.loaded.specs.Holds.{part_length, Holds}
use Rattle.loaded.specs.declared.Loaded.{Loaded}
use Rattle.state.specs.View.{Work, kind_of_type, running_of, frame_at, view}
use Rattle.state.specs.Order.{Fine, tables_of, HoldsMade, Good}
use Rattle.state.specs.Work.{Tables, Went, runs, over, waits, sp_of, plain_w, act_w, stay_of, code_of, acts_w, settle, step_w, EndedW, halted_w, finished_w, after_w, run_w, state_seen, ended}
use Rattle.faithful.proofs.Seen.{kind_few, value_bits}
use Rattle.faithful.proofs.Sim.{SimO, Sim, Running, Does, sim_guard, height, m, stay, height_is, does_need}
use Rattle.faithful.proofs.Values.{does_goto, binary_does, unary_does, branch_does, push_does, dup_does, pop_does, ldarg_does, starg_does, ldloc_does, stloc_does}
use Rattle.faithful.proofs.Calls.{call_does}
use Rattle.faithful.proofs.Dispatch.{callvirt_does}
use Rattle.faithful.proofs.Making.{newobj_does}
use Rattle.faithful.proofs.Returns.{ret_does}
use Rattle.faithful.proofs.Fields.{castclass_does, isinst_does, ldfld_does, stfld_does, ldsfld_does, stsfld_does}

-- a method with code is there
pub coded : (ms : List Method) (r n : ℕ) → n < length (method_at ms r).code → row ms r ≡ some (method_at ms r)
unfolding method_at or_else no_method
coded ms r n h = go (row ms r) refl h where
  go : (o : Option Method) → row ms r ≡ o → n < length (or_else o no_method).code → o ≡ some (or_else o no_method)
  go none e k = absurd (omega arith)
  go (some x) e k = refl

-- ---- An instruction

module _ (R : Running) where
  abbrev P : Tables
  P = tables_of R.L R.variables R.ancestors R.chosen

  plain_does : (p : Plain) (next : ℕ) → ((n : ℕ) → p ≡ ldc int32 n → n < 4294967296) → Does R (plain_w P (stay R) R.c p next) (do_plain R.M (view R.M R.c) (m R) p next)
  unfolding plain_w do_plain tables_of view running_of frame_at
  plain_does nop next h = let x = height_is R in does_goto R next (sp_of R.c) (height R) x.0 x.1
  plain_does pop next h = pop_does R next
  plain_does dup next h = dup_does R next
  plain_does ret next h = ret_does R
  plain_does (ldc t n) next h = push_does R (kind_of_type t) (bits_in (value t n)) (value t n) next (kind_few t) (value_bits t n (λ e. h n (rw e)))
  plain_does (binary o) next h = binary_does R o next
  plain_does (unary o) next h = unary_does R o next

  act_does : (n : ℕ) (i : Ins) (next : ℕ) → n ≡ length (m R).code → ((n : ℕ) → i ≡ plain (ldc int32 n) → n < 4294967296)
      → Does R (act_w P n (stay R) R.c i next) (need (operands R.M (m R) i) 42 >>= λ a. act lowest_free R.M (view R.M R.c) (m R) a next)
  unfolding act_w operands need ◌>>=◌ act tables_of
  act_does n (plain p) next e h = plain_does p next (λ n e. h n (rw e))
  act_does n (ldarg i) next e h = ldarg_does R lowest_free i next
  act_does n (starg i) next e h = starg_does R lowest_free i next
  act_does n (ldloc i) next e h = ldloc_does R lowest_free i next
  act_does n (stloc i) next e h = stloc_does R lowest_free i next
  act_does n (jump j t) next e h = branch_does R lowest_free n j t next e
  act_does n (call t) next e h = call_does R lowest_free t next
  act_does n (callvirt t) next e h = callvirt_does R lowest_free t next
  act_does n (newobj t) next e h = newobj_does R t next
  act_does n (castclass t) next e h = castclass_does R lowest_free t next
  act_does n (isinst t) next e h = isinst_does R lowest_free t next
  act_does n (ldfld t) next e h = ldfld_does R lowest_free t next
  act_does n (stfld t) next e h = stfld_does R lowest_free t next
  act_does n (ldsfld t) next e h = ldsfld_does R lowest_free t next
  act_does n (stsfld t) next e h = stsfld_does R lowest_free t next

  -- the frame of an initialiser that comes first
  settles : (a : Answer ℕ Went) (b : Answer ℕ Outcome) → Does R a b → Sim R.M (a >>= λ w. settle P R.c w) b
  unfolding Does settle ◌>>=◌ tables_of
  settles (bad n) b s = s
  settles (ok (runs d)) b s = s
  settles (ok (over v)) b s = s
  settles (ok (waits r)) b s = s

  code_is : code_of P R.code R.c.regs.row ≡ (m R).code
  unfolding code_of tables_of
  code_is = sym (R.hold.by_method.part R.c.regs.row)

  acts_does : Does R (acts_w P (code_of P R.code R.c.regs.row) (stay R) R.c)
      (need (decode (m R).code R.c.regs.at) 41 >>= λ d. need (operands R.M (m R) d.ins) 42 >>= λ a. act lowest_free R.M (view R.M R.c) (m R) a d.next)
  unfolding acts_w
  acts_does =
      rw code_is (does_need R (decode (m R).code R.c.regs.at) 41 _ _ λ d e.
      act_does (length (m R).code) d.ins d.next refl (λ n i. (R.fin.method R.c.regs.row (m R) R.there).constants R.c.regs.at n d e i))

module _ (M : Module) (fin : Fine M) (code : List ℕ) (L : Loaded) (hold : Holds M code L) (variables ancestors chosen : List ℕ) (made : HoldsMade M L variables ancestors chosen) where
  abbrev tables : Tables
  tables = tables_of L variables ancestors chosen

  -- the running work, where its offset is in its method's code
  abbrev pub running : (c : Work) → Good M c → c.regs.at < part_length L.parts c.regs.row → Running
  running c g l =
      record {
        M = M;
        code = code;
        L = L;
        variables = variables;
        ancestors = ancestors;
        chosen = chosen;
        fin = fin;
        hold = hold;
        made = made;
        c = c;
        g = g;
        there = coded M.methods c.regs.row c.regs.at (let s = hold.by_method.size c.regs.row in omega arith);
      }

  -- one step
  pub step_sim : (c : Work) → Good M c → Sim M (step_w (tables_of L variables ancestors chosen) code c) (step lowest_free M (view M c))
  unfolding step_w step stay_of tables_of view running_of frame_at
  step_sim c g =
      sim_guard M _ _ 46 _ _ (rw (hold.by_method.size c.regs.row)) λ t.
      let R : Running = running c g (ltb-true _ _ t) in
      settles R _ _ (acts_does R)

  -- ---- A run

  after_sim : (f : ℕ → Work → EndedW) (h : ℕ → Machine → Ended) → ((n : ℕ) (c : Work) → Good M c → ended M (f n c) ≡ h n (view M c))
      → (n : ℕ) (c : Work) (a : Answer ℕ Went) (b : Answer ℕ Outcome) → Sim M a b → ended M (after_w f n c a) ≡ after h n (view M c) b
  unfolding Sim SimO after_w after ended halted_w finished_w state_seen halted finished view running_of frame_at
  after_sim f h r n c (bad x) (bad y) s = rw s
  after_sim f h r n c (bad x) (ok o) s = absurd s
  after_sim f h r n c (ok w) (bad y) s = absurd s
  after_sim f h r n c (ok (runs d)) (ok (goes t)) s = r (suc n) d s.0 ∙ rw s.1
  after_sim f h r n c (ok (runs d)) (ok (ends v)) s = absurd s
  after_sim f h r n c (ok (over v)) (ok (goes t)) s = absurd s
  after_sim f h r n c (ok (over v)) (ok (ends w)) s = rw s
  after_sim f h r n c (ok (waits i)) (ok o) s = absurd s

  -- the run on the arrays is the model's run, for every budget
  pub run_sim : (budget n : ℕ) (c : Work) → Good M c → ended M (run_w (tables_of L variables ancestors chosen) code budget n c) ≡ steps lowest_free M budget n (view M c)
  unfolding run_w steps ended halted_w state_seen halted view running_of frame_at
  run_sim zero n c g = refl
  run_sim (suc budget) n c g = after_sim (run_w tables code budget) (steps lowest_free M budget) (run_sim budget) n c (step_w tables code c) (step lowest_free M (view M c)) (step_sim c g)
