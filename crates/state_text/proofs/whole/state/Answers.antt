-- `state` meets its contract.
use Rattle.std.proofs.Common.{rules}
use Rattle.state_text.proofs.Telling.{told}
use Rattle.state_text.proofs.whole.state.Goals as goal

pub returns : goal.returns
returns c =
    let given = c.up_to-text.ensures in
    told _ _ _ _ _ _ _ _ _ _ given.bytes given.place (search rules) c.end.ensures c.say.ensures
