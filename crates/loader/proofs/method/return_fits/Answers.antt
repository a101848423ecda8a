-- `loader::method::return_fits` meets its contract.
use Rattle.loader.proofs.Ladder.{none_map}
use Rattle.model.specs.Loading.{return_at}
use Rattle.loader.specs.Allowed.{is_return, is_type}
use Rattle.model.specs.Answer.{pick, is_none, map_option}
use borrow.Author.Tests.{eq-eqb, ne_eqb}
use Rattle.loader.proofs.method.return_fits.Goals as goal

pub returns-then-t-eq-VOID : goal.returns-then-t-eq-VOID
unfolding is_return return_at pick is_none map_option
returns-then-t-eq-VOID c = simp (eq-eqb _ _ c.if-t-eq-VOID.true)

pub returns : goal.returns
unfolding is_return is_type return_at pick
returns c = simp (ne_eqb _ _ c.if-t-eq-VOID.false, none_map) c.type_fits.ensures
