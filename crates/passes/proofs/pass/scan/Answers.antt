use Rattle.passes.proofs.Loops.{scanning_start, scanning_next, scanning_end, scanning_stop}
use Rattle.visits.proofs.Branches.{nonzero}
use Rattle.code.proofs.Sizes.{no_size}
use native.Mathlib.Omega.{arith}
use mathlib.Core.Path.{sym, ◌∙◌}
use Rattle.passes.proofs.pass.scan.Goals as goal

pub loop-at-init : goal.loop-at-init
loop-at-init c =
    scanning_start _ _ c.requires.starts_len c.requires.as_model

pub returns-then-size-eq0 : goal.returns-then-size-eq0
returns-then-size-eq0 c =
    scanning_stop _ _ _ c.loop-at.invariant c.loop-at-test.true
    (no_size c.args.code.now c.loop-at.at (omega (arith, c.type_inv.code c.loop-at.at)) (sym c.size_at-size.ensures.result_is ∙ c.if-size-eq0.true))

pub loop-at-preserved : goal.loop-at-preserved
loop-at-preserved c =
    let start = c in
    let the-loop = c.loop-at in
    let the-loop-test = c.loop-at-test in
    let the-size-at = c.size_at-size in
    scanning_next _ _ _ _ the-loop-test.true start.requires.length_at_most the-size-at.ensures.result_is (nonzero _ c.if-size-eq0.false) the-loop.invariant

pub returns : goal.returns
returns c = scanning_end _ _ _ c.loop-at.invariant c.loop-at-test.false
