-- `Notes::default` meets its contract.
use Rattle.std.proofs.Common.{refl}
use Rattle.loader.specs.Stands.{no_notes}
use Rattle.loader.proofs.notes.NotesDefault.default.Goals as goal

pub returns : goal.returns
unfolding no_notes
returns c = refl
