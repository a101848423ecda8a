use Prim.Native.Nat.{◌+◌, ◌-◌}
use native.Mathlib.Omega.{arith}
use lib.ListN.{set}
use Rattle.state.specs.Work.{with_cells, with_heap}
use Rattle.across_frames.specs.Lent.{regs_at, on_leave}
use Rattle.across_frames.proofs.Made.{made_frame}
use Rattle.across_frames.proofs.objects.construct.Goals as goal

pub enter-requires : goal.enter-requires
enter-requires c = record { stays = c.requires.stays; framed = c.requires.framed; y_range = (omega (arith, c.requires.in_range), c.requires.in_range.0, c.requires.in_range.2); row_ranges = c.requires.row_ranges }

pub returns : goal.returns
returns c = record { landed = c.enter.ensures.landed; how_is = c.enter.ensures.how_is; as_model = λ w k. made_frame _ (on_leave w (regs_at c.args.registers.stay k c.args.registers.at c.args.registers.sp c.args.registers.made) c.args.cells.now c.args.kinds.now w.marks c.args.classes.now) _ _ _ c.copy.ensures (c.enter.ensures.as_model (with_heap (with_cells w w.cells (set c.args.kinds.now (c.args.registers.sp - c.args.n) 0)) (set c.args.classes.now c.args.registers.made c.args.class) w.heap) k (c.args.registers.sp - c.args.n + 1)) }
