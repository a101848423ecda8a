-- `loader::method::fill_row` meets its contract.
use mir.Val.{bool_byte}
use lib.Dec.{eqb}
use Rattle.std.proofs.Common.{◌≡◌, ℕ, Bool, true, false, not, refl, ap, ◌∙◌}
use Rattle.model.specs.Answer.{pick}
use Rattle.loader.specs.Stands.{stored, method_cells, one_if}
use Rattle.loader.proofs.method.fill_row.Goals as goal

bit : (b : Bool) → bool_byte (not b) ≡ pick b 0 1
unfolding pick
bit true = refl
bit false = refl

pub returns : goal.returns
unfolding stored one_if method_cells
returns c = ap (λ (n : ℕ). stored 32 c.args.row c.args.methods.now (method_cells c.args.b n c.args.this c.args.root)) (c.from.ensures ∙ bit (eqb c.args.this 0))
