use Rattle.loader.proofs.field.+held.Given as goal

abbrev pub decreases-held : goal.decreases-held
decreases-held l = l.c
