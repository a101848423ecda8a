-- A module that loads keeps to the counts of document 01.
use Prim.Native.Nat.{ℕ, zero, suc, ◌≤◌, ◌<◌}
use mathlib.Core.Path.{◌≡◌}
use mathlib.Core.List.{List}
use native.Mathlib.Omega.{arith}
use lib.ListN.{length}
use Rattle.model.specs.Answer.{ok}
use Rattle.model.specs.Tables.{null, Module, parent_of}
use Rattle.model.specs.Loading.{load}
use Rattle.model.proofs.Loaded.{Declared, loaded}
use Rattle.ancestor.specs.Parents.{Falls}
use Rattle.checker.specs.Bounded.{Bounded}

below : (ps : List ℕ) → ((c : ℕ) → parent_of ps (suc c) ≤ c) → (c : ℕ) → 0 < c → parent_of ps c < c
below ps f zero p = absurd (omega arith)
below ps f (suc c) p = let h = f c in omega arith

pub bounded : (tables code : List ℕ) (M : Module) → load tables code ≡ ok M → Bounded M
unfolding Declared Falls
bounded tables code M e =
    let L = loaded tables code M e in
    let few : length M.parents ≤ 32 = L.classes in
    record {
      classes = few;
      falls = below M.parents L.falls;
      fields = L.fields;
      methods = L.methods;
      field_owner = λ r d q. let h = (L.field r d q).high in omega arith;
      method_owner = λ r k q. let h = (L.method r k q).high in omega arith;
      argument_count = λ r k q. (L.method r k q).count;
      local_count_lem = λ r k q. (L.method r k q).local_count;
      stack = λ r k q. (L.method r k q).stack;
      size = λ r k q. (L.method r k q).bytes.most;
      returns = λ r k q. (L.method r k q).returns null;
    }
