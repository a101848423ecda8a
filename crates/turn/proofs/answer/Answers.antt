-- The line that is written is the line of `turn` for what was read, which is the start of the input.
use Rattle.std.proofs.Common.{◌≡◌, ℕ, length, take, rules, ap, ◌∙◌}
use Rattle.model.specs.Turn.{turn as turn_of}
use Rattle.turn.proofs.Written.{written, known_by, delivered}
use Rattle.turn.proofs.answer.Goals as goal

pub returns : goal.returns
returns g c =
    let line = c.part.ensures ∙ written _ _ _ _ c.turn-k.ensures.out_after c.turn-k.ensures.size (search rules) in
    let long : length c.fill.new.to ≡ 65536 = search rules in
    delivered _ _ _ _ _ (λ input. turn_of (take 65536 input)) c.write_all.ensures.bytes
    (known_by (g.R.Read.remaining c.args.from.now) (λ input. take c.in_ok-n.n c.fill.new.to ≡ take (length c.fill.new.to) input) (λ input. c.part.result.now ≡ turn_of (take 65536 input))
    (λ input e. line ∙ ap turn_of (e ∙ ap (λ (n : ℕ). take n input) long))
    c.in_ok-n.ensures.first)
