-- What a run stands on between two steps.
use Rattle.std.specs.Prelude.{ℕ, ◌≡◌, List}
use Rattle.model.specs.Tables.{Module}
use Rattle.loaded.specs.Holds.{Holds}
use Rattle.loaded.specs.declared.Counts.{Counts}
use Rattle.loaded.specs.declared.Loaded.{Loaded}
use Rattle.state.specs.View.{Regs, Work}
use Rattle.state.specs.Work.{Tables}
use Rattle.state.specs.Order.{Fine, tables_of, HoldsMade, Good, Bounded}

-- ---- The lent arrays

-- the tables that the lent arrays are
abbrev pub lent_tables : Counts → List ℕ → List ℕ → List ℕ → List ℕ → List ℕ → List ℕ → List ℕ → Tables
lent_tables n methods fields parts initialisers variables ancestors chosen =
    record {
      class_count = n.classes;
      field_count = n.fields;
      method_count = n.methods;
      methods = methods;
      fields = fields;
      parts = parts;
      initialisers = initialisers;
      variables = variables;
      ancestors = ancestors;
      chosen = chosen;
    }

-- the loaded module that they are
abbrev pub lent_loaded : Counts → List ℕ → List ℕ → List ℕ → List ℕ → List ℕ → Loaded
lent_loaded n parents initialisers fields methods parts =
    record { counts = n; parents = parents; initialisers = initialisers; fields = fields; methods = methods; parts = parts }

-- the work that they are
abbrev pub lent_work : Regs → List ℕ → List ℕ → List ℕ → List ℕ → List ℕ → List ℕ → Work
lent_work g cells kinds marks classes heap statics = record { regs = g; cells = cells; kinds = kinds; statics = statics; marks = marks; classes = classes; heap = heap }

-- ---- What a run stands on

-- a module that was loaded, in its arrays, with the tables made from it
pub record Ready (code : List ℕ) (P : Tables) : Type 0 where
  pub module_is : Module
  pub fine : Fine module_is
  pub loaded : Loaded
  pub holds : Holds module_is code loaded
  pub variables : List ℕ
  pub ancestors : List ℕ
  pub chosen : List ℕ
  pub made : HoldsMade module_is loaded variables ancestors chosen
  pub tables : P ≡ tables_of loaded variables ancestors chosen

-- and work in order
pub record Begins (code : List ℕ) (P : Tables) (c : Work) : Type 0 where
  pub ready : Ready code P
  pub good : Good ready.module_is c
  pub bounded : Bounded P.method_count c
