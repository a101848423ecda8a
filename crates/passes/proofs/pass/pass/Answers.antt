use Rattle.passes.proofs.Loops.{going_start, going_end, after, going_operand, going_next, going_fault}
use lib.ListN.{length}
use native.Mathlib.Omega.{arith}
use mathlib.Core.Path.{refl, ap}
use Rattle.passes.proofs.pass.pass.Goals as goal

pub loop-at-init : goal.loop-at-init
loop-at-init c = (omega arith, c.requires.reading, λ M m all g H e st q f k. (st, going_start M m all _ _ _ q f k))

pub returns-in-Operand : goal.returns-in-Operand
returns-in-Operand c =
    λ M m all g H e st q f k.
    let s = c.loop-at.invariant.2 M m all g H e st q f k in (
      going_operand M m all _ c.loop-at.notes.pool _ _ s.1 c.loop-at-test.true _ c.read_at-i.ensures.decode_is c.read_at-i.ensures.onward _ _ _
          (c.in-Err.ensures.visits M m all s.1.shapes g H (ap length e) s.0 s.1.fine s.1.kept) c.in-Err.kind refl c.in-Operand.is,
      λ z. absurd (cc),
    )

pub late-requires-clause-reading : goal.late-requires-clause-reading
late-requires-clause-reading c = rw c.visit.ensures.starts_stay c.read_at-i.ensures.reading

pub returns-in_default-kind : goal.returns-in_default-kind
returns-in_default-kind c =
    λ M m all g H e st q f k.
    let s = c.loop-at.invariant.2 M m all g H e st q f k in
    let v = c.in-Err.ensures.visits M m all s.1.shapes g H (ap length e) s.0 s.1.fine s.1.kept in
    let n = after M m all _ c.loop-at.notes.pool _ _ s.1 c.loop-at-test.true _ c.read_at-i.ensures.decode_is c.read_at-i.ensures.onward _ _ _ v in (
      going_fault M m all _ c.loop-at.notes.pool _ _ s.1 c.loop-at-test.true _ c.read_at-i.ensures.decode_is c.read_at-i.ensures.onward _ _ _ v
          c.in-Err.kind c.late.result refl c.in_default-kind.not-Operand (c.late.ensures M m all n.more _ _ g H e (rw c.visit.ensures.starts_stay s.0) n.rest),
      λ z. absurd (cc),
    )

pub loop-at-preserved : goal.loop-at-preserved
loop-at-preserved c = (
  omega (arith, c.visit.ensures.made_at_most, c.loop-at.invariant.0),
  rw c.visit.ensures.starts_stay c.read_at-i.ensures.reading,
  λ M m all g H e st q f k.
      let s = c.loop-at.invariant.2 M m all g H e st q f k in (
        rw c.visit.ensures.starts_stay s.0,
        going_next M m all _ c.loop-at.notes.pool _ _ s.1 c.loop-at-test.true _ c.read_at-i.ensures.decode_is c.read_at-i.ensures.onward _ _ _
            (c.in_default.ensures.visits M m all s.1.shapes g H (ap length e) s.0 s.1.fine s.1.kept) refl,
      ),
)

pub returns : goal.returns
returns c =
    λ M m all g H e st q f k.
    let s = c.loop-at.invariant.2 M m all g H e st q f k in
    let t = going_end M m all _ c.loop-at.notes.pool _ _ s.1 c.loop-at-test.false in
    (t.0, λ z. t.1)
