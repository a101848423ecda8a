-- What `shape_found` tells of a module that passes the check: a shape just where an instruction starts.
use mathlib.Core.Path.{◌≡◌, refl, sym, ap, ◌∙◌, subst}
use Prim.Native.Nat.{ℕ}
use mathlib.Core.Bool.{not}
use mathlib.Core.Option.{Option, none, some}
use mathlib.Core.List.{List}
use lib.ListN.{length}
use lib.Dec.{T, T_not}
use Rattle.model.specs.Answer.{bad, ok, ◌>>=◌, row}
use Rattle.model.specs.Tables.{Method, Module}
use Rattle.model.specs.Loading.{load}
use Rattle.model.specs.Code.{Ins}
use Rattle.model.specs.Check.{Shape, Shapes, Fault, Site, decode_from, starts, check, found_at, shape_found}
use Rattle.model.proofs.Hoare.{ok_eq}
use Rattle.model.proofs.Certificate.{certificates, nowhere, check_module_lem}
use Rattle.model.proofs.Loaded.{loaded}

-- the answers of `shape_found` for a method, l being its instructions as decoded from offset 0
pub record Told (tables code : List ℕ) (r : ℕ) (l : List (Site Ins)) : Type 0 where
  pub here : (o : ℕ) → T (starts l o) → (S : Shape) × (shape_found tables code r o ≡ ok (some S))
  pub elsewhere : (o : ℕ) → T (not (starts l o)) → shape_found tables code r o ≡ ok none

-- what the check found is told
pub tells : (tables code : List ℕ) (found : List Shapes) → check tables code ≡ ok found → (r o : ℕ) (s : Option Shape) → found_at found r o ≡ s
    → shape_found tables code r o ≡ ok s
unfolding shape_found ◌>>=◌
tells tables code found c r o s e = rw (c, shape_found) (ap ok e)

pub told : (tables code : List ℕ) (M : Module) (found : List Shapes) → load tables code ≡ ok M → check tables code ≡ ok found
    → (r : ℕ) (m : Method) → row M.methods r ≡ some m → (l : List (Site Ins)) → decode_from (length m.code) m.code 0 ≡ ok l → Told tables code r l
told tables code M found e c r m q l d =
    let C = certificates M found (λ i k p. ((loaded tables code M e).method i k p).bytes.least) (check_module_lem tables code M found e c) r m q in
    let z : C.sites ≡ l = ok_eq (sym C.decodes ∙ d) in
    subst (λ (k : List (Site Ins)). Told tables code r k) z (record {
      here = λ o t. let (S, h) = C.shaped o t in (S, tells tables code found c r o (some S) h);
      elsewhere = λ o t. tells tables code found c r o none (by o C.sites t (found_at found r o) refl (C.only o));
    })
  where
    by : (o : ℕ) (k : List (Site Ins)) → T (not (starts k o)) → (s : Option Shape) → found_at found r o ≡ s
        → ((S : Shape) → found_at found r o ≡ some S → T (starts k o)) → found_at found r o ≡ none
    by o k t none h f = h
    by o k t (some S) h f = absurd (T_not (starts k o) t (f S h))

-- a row that names no method
pub told_nowhere : (tables code : List ℕ) (M : Module) (found : List Shapes) → load tables code ≡ ok M → check tables code ≡ ok found
    → (r : ℕ) → row M.methods r ≡ none → (o : ℕ) → shape_found tables code r o ≡ ok none
told_nowhere tables code M found e c r q o = tells tables code found c r o none (nowhere M found (check_module_lem tables code M found e c) r q o)

-- a refusal of loading and a fault of the check are passed on
pub told_refused : (tables code : List ℕ) (f : Fault) → check tables code ≡ bad f → (r o : ℕ) → shape_found tables code r o ≡ bad f
unfolding shape_found ◌>>=◌
told_refused tables code f c r o = rw (c, shape_found)
