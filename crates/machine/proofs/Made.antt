-- The tables that are made before the loop, and what the run of the model is at its end.
use Prim.Native.Nat.{ℕ, ◌-◌, ◌≤◌}
use mathlib.Core.Path.{◌≡◌, refl, sym, subst}
use mathlib.Core.List.{List}
use native.Mathlib.Omega.{arith}
use lib.ListN.{length}
use Rattle.model.specs.Tables.{Module}
use Rattle.loaded.specs.Holds.{Holds}
use Rattle.loaded.specs.declared.Loaded.{Loaded}
use Rattle.prepare.specs.declared.Prepared.{Prepared}
use Rattle.state.specs.View.{Work}
use Rattle.state.specs.Work.{Tables, EndedW, run_w}
use Rattle.state.specs.Order.{Fine, tables_of, HoldsMade, Good, Bounded}
use Rattle.faithful.proofs.Runs.{run_sim}
use Rattle.faithful.proofs.Ends.{run_final, run_bounded}
use Rattle.between_steps.specs.Running.{lent_tables, Begins}
use Rattle.between_steps.proofs.Going.{Going, starts}
use Rattle.machine.specs.Ending.{Sets, Ends}

-- the tables of a loaded module and of what was made from it
abbrev pub tables_in : Loaded → Prepared → Tables
tables_in L made = lent_tables L.counts L.methods L.fields L.parts L.initialisers made.variables made.ancestors made.chosen

-- a run on the arrays is the model's, with work in order at its end
pub ends : (M : Module) (code : List ℕ) (L : Loaded) (variables ancestors chosen : List ℕ) → Fine M → Holds M code L → HoldsMade M L variables ancestors chosen
    → (budget : ℕ) (c : Work) → Good M c → Bounded L.counts.methods c → (x : EndedW) → x ≡ run_w (tables_of L variables ancestors chosen) code budget 0 c
    → Ends M L.counts.methods budget c x
ends M code L variables ancestors chosen fin hold made budget c g b x e =
    subst (λ (z : EndedW). Ends M L.counts.methods budget c z) (sym e)
    (record {
      says = run_sim M fin code L hold variables ancestors chosen made budget 0 c g;
      good = (run_final M fin code L hold variables ancestors chosen made budget 0 c g).good;
      lives = (run_final M fin code L hold variables ancestors chosen made budget 0 c g).lives;
      bounded = run_bounded M fin code L hold variables ancestors chosen made budget 0 c g b;
    })

-- with them work in order can begin
pub begins_so : {code : List ℕ} {L : Loaded} {c : Work} (variables ancestors chosen : List ℕ) (S : Sets code L c) → HoldsMade S.module_is L variables ancestors chosen
    → Begins code (lent_tables L.counts L.methods L.fields L.parts L.initialisers variables ancestors chosen) c
unfolding tables_of
begins_so {L = L} variables ancestors chosen S made =
    record {
      ready = record {
        module_is = S.module_is;
        fine = S.fine;
        loaded = L;
        holds = S.holds;
        variables = variables;
        ancestors = ancestors;
        chosen = chosen;
        made = made;
        tables = refl;
      };
      good = S.good;
      bounded = S.bounded;
    }

-- the run before its first step
pub from_start : {code : List ℕ} {P : Tables} {budget : ℕ} {c : Work} → Begins code P c → Going code P budget (run_w P code budget 0 c) (budget - budget) c
from_start {code} {P} {budget} {c} b = subst (λ (n : ℕ). Going code P budget (run_w P code budget 0 c) n c) (omega arith) (starts b)
