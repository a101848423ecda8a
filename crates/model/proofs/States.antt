-- A state as the check found it: frames, static fields and objects against their types.
use mathlib.Core.Path.{◌≡◌}
use Prim.Native.Nat.{ℕ, ◌+◌}
use mathlib.Core.Bool.{not}
use mathlib.Core.Option.{Option, some}
use mathlib.Core.List.{List, [], ◌∷◌, ◌++◌}
use lib.Dec.{T}
use Rattle.model.specs.Answer.{row, those}
use Rattle.model.specs.Tables.{Ty, initialiser, is_sort, Method, Module, method_at, arguments, due, field_types, is_static_field}
use Rattle.model.specs.State.{Value, Heap, Frame, State, Machine, state_of, frames_gone}
use Rattle.model.specs.Step.{Outcome, goes, ends}
use Rattle.model.specs.Check.{Shape, Shapes, found_at}
use Rattle.model.proofs.Ancestors.{Falls, Below}
use Rattle.model.proofs.Typing.{Ext, Fit, fit_grow, fit_below, HeapFits}

module _ (M : Module) (found : List Shapes) where
  -- a frame's arguments and locals fit its method's, and its stack, with values of the types ts on top, the shape found at an offset
  pub record Stands (h : Heap) (o : ℕ) (ts : List Ty) (f : Frame) : Type 0 where
    pub is : row M.methods f.method ≡ some (method_at M.methods f.method)
    pub shape : Shape
    pub finds : found_at found f.method o ≡ some shape
    pub left : Shape
    pub below : Below M.parents (ts ++ left) shape
    pub args : Fit M h f.args (arguments (method_at M.methods f.method))
    pub locals : Fit M h f.locals (method_at M.methods f.method).locals
    pub stack : Fit M h f.stack left

  -- the frames below one of a method: under a call one waits for its value, under an initialiser one will try again
  pub data Waiting (h : Heap) : Method → List Frame → Type 0 where
    alone : {k : Method} → Waiting h k []
    called : {k : Method} {f : Frame} {fs : List Frame} → T (not (is_sort k.sort initialiser)) → Stands h (f.offset + 5) (due k) f
        → Waiting h (method_at M.methods f.method) fs → Waiting h k (f ∷ fs)
    started : {k : Method} {f : Frame} {fs : List Frame} → T (is_sort k.sort initialiser) → Stands h f.offset [] f
        → Waiting h (method_at M.methods f.method) fs → Waiting h k (f ∷ fs)

  -- all frames, the running one first
  pub data Standing (h : Heap) : List Frame → Type 0 where
    gone : Standing h []
    running : {f : Frame} {fs : List Frame} → Stands h f.offset [] f → Waiting h (method_at M.methods f.method) fs → Standing h (f ∷ fs)

  -- a state as the check found it
  pub record AsFound (s : State) : Type 0 where
    pub heap : HeapFits M s.heap
    pub statics : Fit M s.heap s.statics (field_types (those is_static_field M.fields))
    pub frames : Standing s.heap s.frames

  -- the same of a state with a running frame
  pub record Good (s : Machine) : Type 0 where
    pub heap : HeapFits M s.heap
    pub statics : Fit M s.heap s.statics (field_types (those is_static_field M.fields))
    pub top : Stands s.heap s.top.offset [] s.top
    pub waiting : Waiting s.heap (method_at M.methods s.top.method) s.below

  -- what a step may come to
  pub data Fine : Outcome → Type 0 where
    on : {s : Machine} → Good s → Fine (goes s)
    end : {v : Option Value} → Fine (ends v)

  pub good_found : {s : Machine} → Good s → AsFound (state_of s)
  unfolding state_of
  good_found k = record { heap = k.heap; statics = k.statics; frames = running k.top k.waiting }

  pub gone_found : {s : Machine} → Good s → AsFound (frames_gone s)
  unfolding frames_gone
  gone_found k = record { heap = k.heap; statics = k.statics; frames = gone }

  pub stands_grow : {h k : Heap} → Ext h k → {o : ℕ} {ts : List Ty} {f : Frame} → Stands h o ts f → Stands k o ts f
  stands_grow g p = record {
    is = p.is;
    shape = p.shape;
    finds = p.finds;
    left = p.left;
    below = p.below;
    args = fit_grow g p.args;
    locals = fit_grow g p.locals;
    stack = fit_grow g p.stack;
  }

  pub waiting_grow : {h k : Heap} → Ext h k → {m : Method} {fs : List Frame} → Waiting h m fs → Waiting k m fs
  waiting_grow g alone = alone
  waiting_grow g (called t p ps) = called t (stands_grow g p) (waiting_grow g ps)
  waiting_grow g (started t p ps) = started t (stands_grow g p) (waiting_grow g ps)

  -- a running frame's stack fits the shape found where it stands
  pub runs : Falls M.parents → {h : Heap} {o : ℕ} {f : Frame} → (p : Stands h o [] f) → Fit M h f.stack p.shape
  runs w p = fit_below w p.stack p.below
