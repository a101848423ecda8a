-- `put` meets its contract: stored, or dropped.
use Rattle.line.proofs.Appending.{put_in, put_out}
use Rattle.line.proofs.text.Text.put.Goals as goal

pub returns-then-self : goal.returns-then-self
returns-then-self c = put_in c.args.self.now c.args.b c.if-self.true

pub returns-else-self : goal.returns-else-self
returns-else-self c = put_out c.args.self.now c.args.b c.if-self.false
