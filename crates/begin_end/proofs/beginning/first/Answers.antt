use mathlib.Core.Path.{refl}
use Rattle.begin_end.proofs.Started.{alone, above, entry_of}
use Rattle.begin_end.proofs.beginning.first.Goals as goal

pub returns-then-initialiser-eq0-clause-as_model : goal.returns-then-initialiser-eq0-clause-as_model
returns-then-initialiser-eq0-clause-as_model c = λ P given em ei ec es. alone P given _ em ei ec es refl c.from-owner.ensures c.from-initialiser.ensures c.if-initialiser-eq0.true

pub returns-clause-as_model : goal.returns-clause-as_model
returns-clause-as_model c = λ P given em ei ec es. above P given c.args.loaded.now.counts.entry em ei ec es refl c.from-owner.ensures c.from-initialiser.ensures c.if-initialiser-eq0.false (c.enter.ensures.as_model (entry_of c.args.loaded.now.counts.entry c.args.state.now.cells _) c.args.loaded.now.counts.entry 24)
