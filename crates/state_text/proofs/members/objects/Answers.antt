-- `objects` meets its contract.
use Rattle.std.proofs.Common.{◌∙◌, ◌≡◌, ◌∷◌, [], ℕ, ap, arith}
use mathlib.Core.Option.{Option}
use Rattle.model.specs.State.{Object}
use Rattle.model.specs.Replay.{heap_text}
use Rattle.state.specs.View.{span}
use Rattle.line.specs.Append.{appended}
use Rattle.line.proofs.Appending.{added_none, same}
use Rattle.state_text.specs.Texts.{place_in, heap_in}
use Rattle.state_text.proofs.Joining.{place_more}
use Rattle.state_text.proofs.Reading.{place_read}
use Rattle.state_text.proofs.members.objects.Goals as goal

pub loop-place-init : goal.loop-place-init
unfolding heap_text span
loop-place-init c = added_none _

pub loop-place-preserved : goal.loop-place-preserved
loop-place-preserved c =
    let s = c.args in
    let read = ap (λ (o : Option Object). heap_text (o ∷ [])) (place_read s.classes.now s.types.now s.heap.now c.loop-place.place c.told-classes) in
    place_more _ _ _ (place_in s.classes.now s.types.now s.heap.now) _ c.loop-place.invariant (same _ _ _ _ c.object.ensures read)

pub returns : goal.returns
unfolding heap_in
returns c =
    let s = c.args in
    let e : c.loop-place.place ≡ 256 = omega arith in
    c.loop-place.invariant ∙ ap (λ (k : ℕ). appended s.text.now (heap_text (span (place_in s.classes.now s.types.now s.heap.now) 0 k))) e
