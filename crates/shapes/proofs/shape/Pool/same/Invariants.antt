use Rattle.std.proofs.Common.{◌<◌, ◌-◌}
use Rattle.model.specs.Check.{Shape}
use Rattle.shapes.proofs.Walks.{Walk}
use Rattle.shapes.specs.Pool.{Fine, Shows}
use Rattle.shapes.proofs.shape.Pool.same.Given as goal

abbrev pub invariant-loop-i : goal.invariant-loop-i
invariant-loop-i l = record {
  x_below : l.x < 2048;
  y_below : l.y < 2048;
  walk : (A B : Shape) → Fine l.self → Shows l.self A l.a → Shows l.self B l.b → Walk l.self A B (l.height - l._i) l.x l.y;
}
