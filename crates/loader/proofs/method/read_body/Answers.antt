-- `loader::method::read_body` meets its contract.
use Rattle.loader.proofs.Climb.{body}
use Rattle.loader.proofs.method.read_body.Goals as goal

pub returns : goal.returns
returns c = body c.args.tables.now c.args.at _ _ c.from_le_bytes-offset.ensures c.from_le_bytes-size.ensures
